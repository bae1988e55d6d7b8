-- A type or a pattern that is read is in the grammar, and what is refused cannot go on.
use Rattle.std.proofs.Common.{◌≡◌, ℕ, zero, suc, ◌+◌, ◌≤◌, inl, inr, List, [], ◌∷◌, Ok, refl, add-one, arith}
use Rattle.std.specs.Prelude.{nat_le, Bool, true, false}
use Rattle.std.proofs.lemmas.Bool.Decides.{nat_tests}
use Rattle.np_syntax.specs.declared.types.Cap.{Cap}
use Rattle.np_syntax.specs.declared.types.Cap.TheVariants as cap
use Rattle.np_syntax.specs.declared.types.Ty.{Ty}
use Rattle.np_syntax.specs.declared.types.Ty as ty
use Rattle.np_lex.specs.declared.token.Key.TheVariants as key
use Rattle.np_lex.specs.declared.token.Sign.TheVariants as sign
use Rattle.np_lex.specs.declared.token.Token.{Token}
use Rattle.np_lex.specs.declared.token.What.{What}
use Rattle.np_lex.specs.declared.token.What.TheVariants as what
use Rattle.np_lex.specs.Tokens.{token, sign_at, word_at, name_at}
use Rattle.np_tree.specs.Grammar as g
use Rattle.np_tree.specs.Grammar.{IsType, IsChan, AreTypes, IsPat, ArePats, cap_sign}
use Rattle.np_parse.specs.Input.{Parser, and_then, peek, take, nothing, name}
use Rattle.np_parse.specs.Read.Tuples.{Sized}
use Rattle.np_parse.specs.Read.Types.{begins_type, tuple_type, carried, chan_in, type_in, readers, chan, type}
use Rattle.np_parse.specs.Read.Patterns.{begins_pat, tuple_pattern, any, binder, pat_in, pat}
use Rattle.np_parse.proofs.Fine.{Fine, fine_then, fine_part, fine_refuse, fine_deep, fine_take, fine_done, BeginsIn, OrEmpty, AnyIn, ReadIn, FineIn, Raises, Reader, some_begins}
use Rattle.np_parse.proofs.Parts.{are_types, are_pats}
use Rattle.np_parse.proofs.RaiseTypes.{raise_type, raise_pat}
use Rattle.np_parse.proofs.SoundTuples.{Tuples, tuple_fine}

-- where no level is left
pub nothing_fine : {A : Type 0} (begins : What → Bool) (V D : List Token → Type 0) (P : A → List Token → Type 0) (ts : List Token) → V []
    → ((at end : ℕ) (w : What) → begins w ≡ true → D (token at end w ∷ [])) → Fine V D P [] ts (nothing begins ts)
unfolding nothing peek
nothing_fine begins V D P [] v d = fine_refuse V D [] [] v
nothing_fine {A = A} begins V D P (t ∷ ts) v d = go (begins t.what) refl
  where
    go : (b : Bool) → begins t.what ≡ b → Fine V D P [] (t ∷ ts) (nothing {A = A} begins (t ∷ ts))
    go true e = rw e (fine_deep V D [] t ts v (d t.at t.end t.what e))
    go false e = rw e (fine_refuse V D [] (t ∷ ts) v)

-- ---- types

some_type : (b : ℕ) → BeginsIn IsType (suc b) []
some_type b = (word_at 0 0 key.IntType ∷ [], _, g.IsType.ground g.IsGround.int)

some_chan : (at end : ℕ) (c : Cap) → BeginsIn IsChan 2 (sign_at at end (cap_sign c) ∷ [])
some_chan at end c = (word_at 0 0 key.IntType ∷ [], _, g.IsChan.carries (g.IsType.ground g.IsGround.int))

some_chan_type : (at end : ℕ) (c : Cap) → BeginsIn IsType 2 (sign_at at end (cap_sign c) ∷ [])
some_chan_type at end c = let v = some_chan at end c in (v.0, v.1, g.IsType.channel v.2)

type_any : (at end : ℕ) (w : What) → begins_type w ≡ true → AnyIn IsType (token at end w ∷ [])
type_any at end (what.Word key.IntType) e = (1, ([], _, g.IsType.ground g.IsGround.int))
type_any at end (what.Word key.BoolType) e = (1, ([], _, g.IsType.ground g.IsGround.truth))
type_any at end (what.Word key.StringType) e = (1, ([], _, g.IsType.ground g.IsGround.string))
type_any at end (what.Word key.SiteType) e = (1, ([], _, g.IsType.ground g.IsGround.site))
type_any at end (what.Word key.AgentType) e = (1, ([], _, g.IsType.ground g.IsGround.agent))
type_any at end (what.Sign sign.SquareOpen) e = (1, (sign_at 0 0 sign.SquareClose ∷ [], _, g.IsType.tuple {ts = []} 0 0 g.AreTypes.none))
type_any at end (what.Sign sign.Caret) e = (2, some_chan_type at end cap.Both)
type_any at end (what.Sign sign.Query) e = (2, some_chan_type at end cap.Input)
type_any at end (what.Sign sign.Bang) e = (2, some_chan_type at end cap.Output)
type_any at end other e = absurd cc

-- a channel type is a channel type, and it is a type
record Chans (W : ℕ → List Token → Ty → Type 0) : Type 0 where
  pub up : {d : ℕ} {ts : List Token} {t : Ty} → IsChan d ts t → W d ts t

carried_fine : (W : ℕ → List Token → Ty → Type 0) → Chans W → (b at end : ℕ) (c : Cap) (ts : List Token) → Reader IsType b (type b)
    → FineIn W (suc b) [] (sign_at at end (cap_sign c) ∷ ts) (carried (type b) b c (sign_at at end (cap_sign c) ∷ ts))
unfolding carried take
carried_fine W k zero at end c ts l =
    fine_deep (OrEmpty (BeginsIn W 1)) (AnyIn W) [] (sign_at at end (cap_sign c)) ts (inl refl) (let v = some_chan at end c in (2, (v.0, v.1, k.up v.2)))
carried_fine W k (suc b) at end c ts l =
    let no : nat_le (suc b) 0 ≡ false = grind (arith, nat_tests) in
    let first = sign_at at end (cap_sign c) in
    let V : List Token → Type 0 = OrEmpty (BeginsIn W (suc (suc b))) in
    let rest : Sized Ty → Parser (Sized Ty) = λ t r. Ok ((ty.Chan c t.0, t.1 + 1), r) in
    let P : Sized Ty → List Token → Type 0 = λ x s. (x.1 ≤ suc b) × W (suc x.1) s (ty.Chan c x.0) in
    rw no (fine_take V (AnyIn W) (ReadIn W (suc (suc b))) [] first ts (and_then (type (suc b) ts) rest)
    (fine_then V (AnyIn W) P (ReadIn W (suc (suc b))) (first ∷ []) ts (type (suc b) ts) rest
    (fine_part V (AnyIn W) (OrEmpty (BeginsIn IsType (suc b))) (AnyIn IsType) P (ReadIn IsType (suc b)) (first ∷ []) ts (type (suc b) ts)
    (λ s v. let q = some_begins IsType (suc b) (some_type b) s v in inr (q.0, _, k.up (g.IsChan.carries q.2)))
    (λ s d. (suc d.0, (d.1.0, _, k.up (g.IsChan.carries d.1.2))))
    (λ x s q. (q.0, k.up (g.IsChan.carries q.2)))
    (l.fine ts))
    (λ x now r q. fine_done (ReadIn W (suc (suc b))) now r (ty.Chan c x.0, x.1 + 1) (omega (arith, q.0), omega arith, rw add-one q.1))))

chans : Chans IsChan
chans = record { up = λ p. p }

types : Chans IsType
types = record { up = λ p. g.IsType.channel p }

chan_in_fine : (b : ℕ) → Reader IsType b (type b) → (ts : List Token) → FineIn IsChan (suc b) [] ts (chan (suc b) ts)
unfolding readers chan_in peek
chan_in_fine b l [] = fine_refuse _ _ _ _ (inl refl)
chan_in_fine b l (t ∷ ts) = go t.at t.end t.what
  where
    go : (at end : ℕ) (w : What) → FineIn IsChan (suc b) [] (token at end w ∷ ts) (chan (suc b) (token at end w ∷ ts))
    go at end (what.Sign sign.Caret) = carried_fine IsChan chans b at end cap.Both ts l
    go at end (what.Sign sign.Query) = carried_fine IsChan chans b at end cap.Input ts l
    go at end (what.Sign sign.Bang) = carried_fine IsChan chans b at end cap.Output ts l
    go at end other = fine_refuse (OrEmpty (BeginsIn IsChan (suc b))) (AnyIn IsChan) [] (token at end other ∷ ts) (inl refl)

raises_type : Raises IsType
raises_type = record { raise = λ p b h. raise_type p b h }

tuples_type : Tuples IsType IsType tuple_type
tuples_type = record { tuple = λ i j p. g.IsType.tuple i j (are_types p) }

ground_fine : (b at end : ℕ) (w : What) (t : Ty) (ts : List Token) → IsType 1 (token at end w ∷ []) t → FineIn IsType (suc b) [] (token at end w ∷ ts) (Ok ((t, 1), ts))
ground_fine b at end w t ts p = record { part = token at end w ∷ []; is = refl; holds = (omega arith, omega arith, p) }

type_in_fine : (b : ℕ) → Reader IsType b (type b) → (ts : List Token) → FineIn IsType (suc b) [] ts (type (suc b) ts)
unfolding readers type_in peek take
type_in_fine b l [] = fine_refuse _ _ _ _ (inl refl)
type_in_fine b l (t ∷ ts) = go t.at t.end t.what
  where
    go : (at end : ℕ) (w : What) → FineIn IsType (suc b) [] (token at end w ∷ ts) (type (suc b) (token at end w ∷ ts))
    go at end (what.Word key.IntType) = ground_fine b at end _ ty.Int ts (g.IsType.ground g.IsGround.int)
    go at end (what.Word key.BoolType) = ground_fine b at end _ ty.Bool ts (g.IsType.ground g.IsGround.truth)
    go at end (what.Word key.StringType) = ground_fine b at end _ ty.Str ts (g.IsType.ground g.IsGround.string)
    go at end (what.Word key.SiteType) = ground_fine b at end _ ty.Site ts (g.IsType.ground g.IsGround.site)
    go at end (what.Word key.AgentType) = ground_fine b at end _ ty.Agent ts (g.IsType.ground g.IsGround.agent)
    go at end (what.Sign sign.SquareOpen) = tuple_fine IsType IsType tuple_type raises_type tuples_type b at end (type b) l ts
    go at end (what.Sign sign.Caret) = carried_fine IsType types b at end cap.Both ts l
    go at end (what.Sign sign.Query) = carried_fine IsType types b at end cap.Input ts l
    go at end (what.Sign sign.Bang) = carried_fine IsType types b at end cap.Output ts l
    go at end other = fine_refuse (OrEmpty (BeginsIn IsType (suc b))) (AnyIn IsType) [] (token at end other ∷ ts) (inl refl)

pub type_fine : (b : ℕ) → Reader IsType b (type b)
unfolding readers
type_fine zero = record { fine = λ ts. nothing_fine begins_type (OrEmpty (BeginsIn IsType zero)) (AnyIn IsType) (ReadIn IsType zero) ts (inl refl) type_any }
type_fine (suc b) = record { fine = type_in_fine b (type_fine b) }

pub chan_fine : (b : ℕ) → Reader IsChan (suc b) (chan (suc b))
chan_fine b = record { fine = chan_in_fine b (type_fine b) }

-- ---- patterns

pat_any : (at end : ℕ) (w : What) → begins_pat w ≡ true → AnyIn IsPat (token at end w ∷ [])
pat_any at end (what.Ident text) e = (1, ([], _, g.IsPat.bind))
pat_any at end (what.Sign sign.Underscore) e = (1, ([], _, g.IsPat.any))
pat_any at end (what.Sign sign.SquareOpen) e = (1, (sign_at 0 0 sign.SquareClose ∷ [], _, g.IsPat.tuple {ts = []} 0 0 g.ArePats.none))
pat_any at end other e = absurd cc

raises_pat : Raises IsPat
raises_pat = record { raise = λ p b h. raise_pat p b h }

tuples_pat : Tuples IsPat IsPat tuple_pattern
tuples_pat = record { tuple = λ i j p. g.IsPat.tuple i j (are_pats p) }

pat_in_fine : (b : ℕ) → Reader IsPat b (pat b) → (ts : List Token) → FineIn IsPat (suc b) [] ts (pat (suc b) ts)
unfolding pat pat_in peek take name any binder
pat_in_fine b l [] = fine_refuse _ _ _ _ (inl refl)
pat_in_fine b l (t ∷ ts) = go t.at t.end t.what
  where
    go : (at end : ℕ) (w : What) → FineIn IsPat (suc b) [] (token at end w ∷ ts) (pat (suc b) (token at end w ∷ ts))
    go at end (what.Ident text) = record { part = name_at at end text ∷ []; is = refl; holds = (omega arith, omega arith, g.IsPat.bind {d = 0}) }
    go at end (what.Sign sign.Underscore) = record { part = sign_at at end sign.Underscore ∷ []; is = refl; holds = (omega arith, omega arith, g.IsPat.any {d = 0}) }
    go at end (what.Sign sign.SquareOpen) = tuple_fine IsPat IsPat tuple_pattern raises_pat tuples_pat b at end (pat b) l ts
    go at end other = fine_refuse (OrEmpty (BeginsIn IsPat (suc b))) (AnyIn IsPat) [] (token at end other ∷ ts) (inl refl)

pub pat_fine : (b : ℕ) → Reader IsPat b (pat b)
unfolding pat
pat_fine zero = record { fine = λ ts. nothing_fine begins_pat (OrEmpty (BeginsIn IsPat zero)) (AnyIn IsPat) (ReadIn IsPat zero) ts (inl refl) pat_any }
pat_fine (suc b) = record { fine = pat_in_fine b (pat_fine b) }
