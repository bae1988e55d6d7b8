-- Each kind of tokens is one of all kinds, and once: so of each it is told whether it is wanted.
use Rattle.std.proofs.Common.{◌≡◌, ◌⊎◌, inl, inr, ℕ, zero, suc, ◌+◌, ◌<◌, ◌≤◌, Bool, true, false, List, [], ◌∷◌, ◌++◌, get_or, length, take, take_all, if◌then◌else◌, MatchBool}
use Rattle.std.proofs.Common.{refl, sym, ap, subst, subst₂, ◌∙◌, arith}
use Rattle.std.proofs.lemmas.List.{take_more}
use Rattle.np_lex.specs.declared.token.Key.TheVariants as keys
use Rattle.np_lex.specs.declared.token.Sign.TheVariants as signs
use Rattle.source_forms.specs.declared.kind.Kind.{Kind}
use Rattle.source_forms.specs.declared.kind.Kind.TheVariants as kinds
use Rattle.source_forms.specs.declared.kind.TheConstants.{KINDS}
use Rattle.wanted_tokens.specs.Wanted.{AreWanted, Chosen, Has, IsUnwanted, IsWanted}

-- the place of a kind among all kinds
abbrev place : Kind → ℕ
place kinds.Zero = 0
place kinds.Number = 1
place kinds.Str = 2
place kinds.Name = 3
place (kinds.Word keys.Sites) = 4
place (kinds.Word keys.Main) = 5
place (kinds.Word keys.At) = 6
place (kinds.Word keys.New) = 7
place (kinds.Word keys.In) = 8
place (kinds.Word keys.AgentWord) = 9
place (kinds.Word keys.Migrate) = 10
place (kinds.Word keys.To) = 11
place (kinds.Word keys.IfLocal) = 12
place (kinds.Word keys.Then) = 13
place (kinds.Word keys.Else) = 14
place (kinds.Word keys.If) = 15
place (kinds.Word keys.Let) = 16
place (kinds.Word keys.Print) = 17
place (kinds.Word keys.True) = 18
place (kinds.Word keys.False) = 19
place (kinds.Word keys.IntType) = 20
place (kinds.Word keys.BoolType) = 21
place (kinds.Word keys.StringType) = 22
place (kinds.Word keys.SiteType) = 23
place (kinds.Word keys.AgentType) = 24
place (kinds.Sign signs.Semi) = 25
place (kinds.Sign signs.Equals) = 26
place (kinds.Sign signs.RoundOpen) = 27
place (kinds.Sign signs.RoundClose) = 28
place (kinds.Sign signs.Bar) = 29
place (kinds.Sign signs.Colon) = 30
place (kinds.Sign signs.Caret) = 31
place (kinds.Sign signs.Query) = 32
place (kinds.Sign signs.Bang) = 33
place (kinds.Sign signs.Star) = 34
place (kinds.Sign signs.Arrow) = 35
place (kinds.Sign signs.Less) = 36
place (kinds.Sign signs.Greater) = 37
place (kinds.Sign signs.At) = 38
place (kinds.Sign signs.SquareOpen) = 39
place (kinds.Sign signs.SquareClose) = 40
place (kinds.Sign signs.Plus) = 41
place (kinds.Sign signs.Minus) = 42
place (kinds.Sign signs.Same) = 43
place (kinds.Sign signs.Underscore) = 44
place kinds.End = 45

-- kinds that stand at their places, the first of them at this one
abbrev Rising : ℕ → List Kind → Type 0
Rising n [] = Unit {0}
Rising n (k ∷ ks) = (place k ≡ n) × Rising (suc n) ks

rising : Rising 0 KINDS
rising = (
  refl,
  (
    refl,
    (
      refl,
      (
        refl,
        (
          refl,
          (
            refl,
            (
              refl,
              (
                refl,
                (
                  refl,
                  (
                    refl,
                    (
                      refl,
                      (
                        refl,
                        (
                          refl,
                          (
                            refl,
                            (
                              refl,
                              (
                                refl,
                                (
                                  refl,
                                  (
                                    refl,
                                    (
                                      refl,
                                      (
                                        refl,
                                        (
                                          refl,
                                          (
                                            refl,
                                            (
                                              refl,
                                              (refl, (refl, (refl, (refl, (refl, (refl, (refl, (refl, (refl, (refl, (refl, (refl, (refl, (refl, (refl, (refl, (refl, (refl, (refl, (refl, (refl, (refl, (refl, tt))))))))))))))))))))))),
                                            ),
                                          ),
                                        ),
                                      ),
                                    ),
                                  ),
                                ),
                              ),
                            ),
                          ),
                        ),
                      ),
                    ),
                  ),
                ),
              ),
            ),
          ),
        ),
      ),
    ),
  ),
)

-- one that stands among them has its place there
above : (n : ℕ) (ks : List Kind) (k : Kind) → Rising n ks → Has ks k → n ≤ place k
above n [] k r h = absurd h
above n (x ∷ ks) k r (inl e) = let same : place x ≡ place k = ap place e in let stands : place x ≡ n = r.0 in omega (arith, same, stands)
above n (x ∷ ks) k r (inr h) = let less : suc n ≤ place k = above (suc n) ks k r.1 h in omega (arith, less)

-- so none stands there twice
once : (n : ℕ) (x : Kind) (ks : List Kind) → Rising n (x ∷ ks) → Has ks x → ⊥
once n x ks r h = let stands : place x ≡ n = r.0 in let less : suc n ≤ place x = above (suc n) ks x r.1 h in omega (arith, stands, less)

-- what is chosen of kinds is one of them
among : {bytes : List ℕ} {at : ℕ} {ks chosen : List Kind} (k : Kind) → Chosen bytes at ks chosen → Has chosen k → Has ks k
among k Chosen.none h = h
among k (Chosen.wanted is rest) (inl e) = inl e
among k (Chosen.wanted is rest) (inr h) = inr (among k rest h)
among k (Chosen.unwanted is rest) h = inr (among k rest h)

-- what stands at a place among kinds is one of them
abbrev At : List Kind → ℕ → Kind → Type 0
At [] n k = ⊥
At (x ∷ ks) zero k = x ≡ k
At (x ∷ ks) (suc n) k = At ks n k

there : (ks : List Kind) (n : ℕ) (k : Kind) → At ks n k → Has ks k
there [] n k h = absurd h
there (x ∷ ks) zero k h = inl h
there (x ∷ ks) (suc n) k h = inr (there ks n k h)

each : (k : Kind) → Has KINDS k
each kinds.Zero = there KINDS 0 kinds.Zero refl
each kinds.Number = there KINDS 1 kinds.Number refl
each kinds.Str = there KINDS 2 kinds.Str refl
each kinds.Name = there KINDS 3 kinds.Name refl
each (kinds.Word keys.Sites) = there KINDS 4 (kinds.Word keys.Sites) refl
each (kinds.Word keys.Main) = there KINDS 5 (kinds.Word keys.Main) refl
each (kinds.Word keys.At) = there KINDS 6 (kinds.Word keys.At) refl
each (kinds.Word keys.New) = there KINDS 7 (kinds.Word keys.New) refl
each (kinds.Word keys.In) = there KINDS 8 (kinds.Word keys.In) refl
each (kinds.Word keys.AgentWord) = there KINDS 9 (kinds.Word keys.AgentWord) refl
each (kinds.Word keys.Migrate) = there KINDS 10 (kinds.Word keys.Migrate) refl
each (kinds.Word keys.To) = there KINDS 11 (kinds.Word keys.To) refl
each (kinds.Word keys.IfLocal) = there KINDS 12 (kinds.Word keys.IfLocal) refl
each (kinds.Word keys.Then) = there KINDS 13 (kinds.Word keys.Then) refl
each (kinds.Word keys.Else) = there KINDS 14 (kinds.Word keys.Else) refl
each (kinds.Word keys.If) = there KINDS 15 (kinds.Word keys.If) refl
each (kinds.Word keys.Let) = there KINDS 16 (kinds.Word keys.Let) refl
each (kinds.Word keys.Print) = there KINDS 17 (kinds.Word keys.Print) refl
each (kinds.Word keys.True) = there KINDS 18 (kinds.Word keys.True) refl
each (kinds.Word keys.False) = there KINDS 19 (kinds.Word keys.False) refl
each (kinds.Word keys.IntType) = there KINDS 20 (kinds.Word keys.IntType) refl
each (kinds.Word keys.BoolType) = there KINDS 21 (kinds.Word keys.BoolType) refl
each (kinds.Word keys.StringType) = there KINDS 22 (kinds.Word keys.StringType) refl
each (kinds.Word keys.SiteType) = there KINDS 23 (kinds.Word keys.SiteType) refl
each (kinds.Word keys.AgentType) = there KINDS 24 (kinds.Word keys.AgentType) refl
each (kinds.Sign signs.Semi) = there KINDS 25 (kinds.Sign signs.Semi) refl
each (kinds.Sign signs.Equals) = there KINDS 26 (kinds.Sign signs.Equals) refl
each (kinds.Sign signs.RoundOpen) = there KINDS 27 (kinds.Sign signs.RoundOpen) refl
each (kinds.Sign signs.RoundClose) = there KINDS 28 (kinds.Sign signs.RoundClose) refl
each (kinds.Sign signs.Bar) = there KINDS 29 (kinds.Sign signs.Bar) refl
each (kinds.Sign signs.Colon) = there KINDS 30 (kinds.Sign signs.Colon) refl
each (kinds.Sign signs.Caret) = there KINDS 31 (kinds.Sign signs.Caret) refl
each (kinds.Sign signs.Query) = there KINDS 32 (kinds.Sign signs.Query) refl
each (kinds.Sign signs.Bang) = there KINDS 33 (kinds.Sign signs.Bang) refl
each (kinds.Sign signs.Star) = there KINDS 34 (kinds.Sign signs.Star) refl
each (kinds.Sign signs.Arrow) = there KINDS 35 (kinds.Sign signs.Arrow) refl
each (kinds.Sign signs.Less) = there KINDS 36 (kinds.Sign signs.Less) refl
each (kinds.Sign signs.Greater) = there KINDS 37 (kinds.Sign signs.Greater) refl
each (kinds.Sign signs.At) = there KINDS 38 (kinds.Sign signs.At) refl
each (kinds.Sign signs.SquareOpen) = there KINDS 39 (kinds.Sign signs.SquareOpen) refl
each (kinds.Sign signs.SquareClose) = there KINDS 40 (kinds.Sign signs.SquareClose) refl
each (kinds.Sign signs.Plus) = there KINDS 41 (kinds.Sign signs.Plus) refl
each (kinds.Sign signs.Minus) = there KINDS 42 (kinds.Sign signs.Minus) refl
each (kinds.Sign signs.Same) = there KINDS 43 (kinds.Sign signs.Same) refl
each (kinds.Sign signs.Underscore) = there KINDS 44 (kinds.Sign signs.Underscore) refl
each kinds.End = there KINDS 45 kinds.End refl

-- of each kind it is told whether it is wanted
told : (bytes : List ℕ) (at n : ℕ) {ks chosen : List Kind} → Chosen bytes at ks chosen → Rising n ks → (k : Kind) → Has ks k
    → (Has chosen k × IsWanted bytes at k) ⊎ ((Has chosen k → ⊥) × IsUnwanted bytes at k)
told bytes at n Chosen.none r k h = absurd h
told bytes at n (Chosen.wanted is rest) r k (inl e) = inl (inl e, subst (IsWanted bytes at) e is)
told bytes at n (Chosen.wanted {kind = x} {kinds = xs} is rest) r k (inr h) = elim (told bytes at (suc n) rest r.1 k h) [
  | inl w ↦ inl (inr w.0, w.1)
  | inr u ↦ inr ((λ c. elim c [ inl e ↦ once n x xs r (subst (Has xs) (sym e) h) | inr d ↦ u.0 d ]), u.1)
]
told bytes at n (Chosen.unwanted {kind = x} {kinds = xs} is rest) r k (inl e) = inr ((λ c. once n x xs r (subst (Has xs) (sym e) (among k rest c))), subst (IsUnwanted bytes at) e is)
told bytes at n (Chosen.unwanted is rest) r k (inr h) = told bytes at (suc n) rest r.1 k h

pub just : (bytes : List ℕ) (at : ℕ) (chosen : List Kind) → Chosen bytes at KINDS chosen → AreWanted bytes at chosen
just bytes at chosen c k = told bytes at 0 c rising k (each k)

-- one kind more is chosen, or is not
more : {bytes : List ℕ} {at : ℕ} {ks chosen : List Kind} (k : Kind) → IsWanted bytes at k → Chosen bytes at ks chosen → Chosen bytes at (ks ++ k ∷ []) (chosen ++ k ∷ [])
more k is Chosen.none = Chosen.wanted is Chosen.none
more k is (Chosen.wanted w rest) = Chosen.wanted w (more k is rest)
more k is (Chosen.unwanted u rest) = Chosen.unwanted u (more k is rest)

no_more : {bytes : List ℕ} {at : ℕ} {ks chosen : List Kind} (k : Kind) → IsUnwanted bytes at k → Chosen bytes at ks chosen → Chosen bytes at (ks ++ k ∷ []) chosen
no_more k is Chosen.none = Chosen.unwanted is Chosen.none
no_more k is (Chosen.wanted w rest) = Chosen.wanted w (no_more k is rest)
no_more k is (Chosen.unwanted u rest) = Chosen.unwanted u (no_more k is rest)

either : (bytes : List ℕ) (at : ℕ) (ks chosen : List Kind) (k : Kind) (goes : Bool) → MatchBool goes (IsWanted bytes at k) (IsUnwanted bytes at k) → Chosen bytes at ks chosen
    → Chosen bytes at (ks ++ k ∷ []) (if goes then chosen ++ k ∷ [] else chosen)
either bytes at ks chosen k true is c = more k is c
either bytes at ks chosen k false is c = no_more k is c

-- the next of the kinds is
pub next : (bytes : List ℕ) (at : ℕ) (ks : List Kind) (i : ℕ) (d k : Kind) (chosen made : List Kind) (goes : Bool) → i < length ks → k ≡ get_or ks i d
    → made ≡ (if goes then chosen ++ k ∷ [] else chosen) → MatchBool goes (IsWanted bytes at k) (IsUnwanted bytes at k) → Chosen bytes at (take i ks) chosen
    → Chosen bytes at (take (i + 1) ks) made
next bytes at ks i d k chosen made goes less is grown told c =
    let one : take (i + 1) ks ≡ take i ks ++ k ∷ [] = take_more ks i d less ∙ ap (λ x. take i ks ++ x ∷ []) (sym is) in
    subst₂ (λ front all. Chosen bytes at front all) (sym one) (sym grown) (either bytes at (take i ks) chosen k goes told c)

-- behind the last of them
pub last : (bytes : List ℕ) (at : ℕ) (ks : List Kind) (i : ℕ) (chosen : List Kind) → length ks ≤ i → Chosen bytes at (take i ks) chosen → Chosen bytes at ks chosen
last bytes at ks i chosen whole c = subst (λ front. Chosen bytes at front chosen) (take_all i ks whole) c
