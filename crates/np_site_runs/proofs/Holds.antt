-- Atoms that are those of agents, and what stays so where one agent's atoms change.
use Rattle.std.proofs.Common.{◌≡◌, Bool, true, false, cond, ◌⊎◌, inl, inr, is_some, List, [], ◌∷◌, Option, None, Some, IsSome, IfSome, refl, ap, sym, subst, ◌∙◌}
use Rattle.std.specs.FinMap as map
use Rattle.np_calculus.specs.declared.config.Atom.{Atom}
use Rattle.np_calculus.proofs.Common.{Name, NameMap, Write, done, same_name, same_name-is, same_name-itself}
use Rattle.np_tables.proofs.Tables.{get-cut, get-put}
use Rattle.np_calculus.specs.Changes.{rewritten, written}
use Rattle.np_calculus.specs.FrameRule.{Every, left_by}
use Rattle.np_calculus.specs.Parts.{either}
use Rattle.np_calculus.proofs.FrameRule.{none-some}
use Rattle.np_calculus.proofs.Writes.{every-map, left-is}

module _ {X : Type 0} where
  rewrite : (t : NameMap X) (k : Name) (o : Option X) (q : Name) → map.get (rewritten t k o) q ≡ cond (same_name q k) o (map.get t q)
  rewrite t k (Some x) q = get-put t k x q
  rewrite t k None q = get-cut t k q

  -- a look-up after writes
  pub get-written : (ws : List (Write X)) (t : NameMap X) (q : Name) → map.get (written t ws) q ≡ left_by ws q (map.get t q)
  get-written [] t q = refl
  get-written (w ∷ ws) t q = get-written ws (rewritten t w.0 w.1) q ∙ ap (left_by ws q) (rewrite t w.0 w.1 q)

  -- a name is written, and then it does not matter what stood there, or it is not, and then this stays
  pub touched : (P : Name → Type 0) (ws : List (Write X)) → Every (λ w. P w.0) ws → (q : Name)
      → (P q × ((o p : Option X) → left_by ws q o ≡ left_by ws q p)) ⊎ ((o : Option X) → left_by ws q o ≡ o)
  touched P [] h q = inr (λ o. refl)
  touched P (w ∷ ws) h q = elim (touched P ws h.1 q) [ inl s ↦ inl (s.0, λ o p. s.1 (cond (same_name q w.0) w.1 o) (cond (same_name q w.0) w.1 p)) | inr s ↦ first (same_name q w.0) refl s ]
    where
      first : (t : Bool) → same_name q w.0 ≡ t → ((o : Option X) → left_by ws q o ≡ o)
          → (P q × ((o p : Option X) → left_by ws q (cond t w.1 o) ≡ left_by ws q (cond t w.1 p))) ⊎ ((o : Option X) → left_by ws q (cond t w.1 o) ≡ o)
      first true e s = inl (subst P (sym (same_name-is q w.0 e)) h.0, λ o p. refl)
      first false e s = inr s

pub every-both : {A : Type 0} (P Q : A → Type 0) (xs : List A) → Every P xs → Every Q xs → Every (λ x. P x × Q x) xs
every-both P Q [] h i = tt
every-both P Q (x ∷ xs) h i = ((h.0, i.0), every-both P Q xs h.1 i.1)

-- each agent's atoms are of it, and the atoms are those of the agents
pub record Holds (agents : NameMap (NameMap Atom)) (atoms : NameMap Atom) : Type 0 where
  pub own : (q : Name) (t : NameMap Atom) (m : Name) (b : Atom) → map.get agents q ≡ Some t → map.get t m ≡ Some b → b.agent ≡ q
  pub has : (m : Name) (b : Atom) (t : NameMap Atom) → map.get agents b.agent ≡ Some t → map.get t m ≡ Some b → map.get atoms m ≡ Some b
  pub only : (m : Name) (b : Atom) → map.get atoms m ≡ Some b → (t : NameMap Atom) × (map.get agents b.agent ≡ Some t) × (map.get t m ≡ Some b)

-- where one agent gets other atoms, or none
record Changes (agents agents' : NameMap (NameMap Atom)) (atoms atoms' : NameMap Atom) (a : Name) (o : Option (NameMap Atom)) : Type 0 where
  at : (q : Name) → map.get agents' q ≡ cond (same_name q a) o (map.get agents q)
  mine : (t : NameMap Atom) → o ≡ Some t → (m : Name) (b : Atom) → map.get t m ≡ Some b → (b.agent ≡ a) × (map.get atoms' m ≡ Some b)
  others : (m : Name) (b : Atom) → same_name b.agent a ≡ false → map.get atoms m ≡ Some b → map.get atoms' m ≡ Some b
  only : (m : Name) (b : Atom) → map.get atoms' m ≡ Some b
      → ((map.get atoms m ≡ Some b) × (same_name b.agent a ≡ false)) ⊎ ((t : NameMap Atom) × (o ≡ Some t) × (map.get t m ≡ Some b))

module _ (agents agents' : NameMap (NameMap Atom)) (atoms atoms' : NameMap Atom) (a : Name) (o : Option (NameMap Atom)) (h : Holds agents atoms) (c : Changes agents agents' atoms atoms' a o) where
  one_own : (s : Bool) (q : Name) (t : NameMap Atom) (m : Name) (b : Atom) → same_name q a ≡ s → cond s o (map.get agents q) ≡ Some t → map.get t m ≡ Some b → b.agent ≡ q
  one_own true q t m b e is g = (c.mine t is m b g).0 ∙ sym (same_name-is q a e)
  one_own false q t m b e is g = h.own q t m b is g

  one_has : (s : Bool) (m : Name) (b : Atom) (t : NameMap Atom) → same_name b.agent a ≡ s → cond s o (map.get agents b.agent) ≡ Some t → map.get t m ≡ Some b
      → map.get atoms' m ≡ Some b
  one_has true m b t e is g = (c.mine t is m b g).1
  one_has false m b t e is g = c.others m b e (h.has m b t is g)

  changed-holds : Holds agents' atoms'
  changed-holds = record {
    own = λ q t m b is g. one_own (same_name q a) q t m b refl (sym (c.at q) ∙ is) g;
    has = λ m b t is g. one_has (same_name b.agent a) m b t refl (sym (c.at b.agent) ∙ is) g;
    only = λ m b is. elim (c.only m b is) [
      | inl was ↦ let k = h.only m b was.0 in (k.0, c.at b.agent ∙ ap (λ s. cond s o (map.get agents b.agent)) was.1 ∙ k.1, k.2)
      | inr new ↦ (
        new.0,
        c.at b.agent ∙ ap (λ q. cond (same_name q a) o (map.get agents b.agent)) (c.mine new.0 new.1 m b new.2).0
            ∙ ap (λ s. cond s o (map.get agents b.agent)) (same_name-itself a) ∙ new.1,
        new.2,
      )
    ];
  }

-- ---- an agent and its atoms

module _ (agents : NameMap (NameMap Atom)) (atoms : NameMap Atom) (h : Holds agents atoms) (a : Name) (own : NameMap Atom) (stands : map.get agents a ≡ Some own) where
  -- an atom that the agent has, and one that is of it
  pub mine-there : (m : Name) (b : Atom) → map.get own m ≡ Some b → map.get atoms m ≡ Some b
  mine-there m b g = h.has m b own (ap (map.get agents) (h.own a own m b stands g) ∙ stands) g

  pub there-mine : (m : Name) (b : Atom) → map.get atoms m ≡ Some b → b.agent ≡ a → map.get own m ≡ Some b
  there-mine m b g of =
      let k = h.only m b g in
      let same : own ≡ k.0 = done (sym k.1 ∙ ap (map.get agents) of ∙ stands) in
      subst (λ t. map.get t m ≡ Some b) (sym same) k.2

  -- an atom of another agent is under none of its marks
  pub not-mine : (m : Name) (b : Atom) → map.get atoms m ≡ Some b → same_name b.agent a ≡ false → map.get own m ≡ None
  not-mine m b g far = by (map.get own m) refl
    where
      by : (o : Option Atom) → map.get own m ≡ o → o ≡ None
      by None e = refl
      by (Some y) e =
          let same : b ≡ y = done (sym (mine-there m y e) ∙ g) in
          let of : same_name b.agent a ≡ true = ap (λ (x : Atom). same_name x.agent a) same ∙ ap (λ q. same_name q a) (h.own a own m y stands e) ∙ same_name-itself a in
          absurd cc

  -- its atoms are written: marks that it has or that none has
  module _ (ws : List (Write Atom)) (fit : Every (λ w. (IsSome (map.get own w.0) ⊎ (map.get atoms w.0 ≡ None)) × IfSome w.1 (λ b. b.agent ≡ a)) ws) where
    abbrev IsFree : Name → Type 0
    IsFree q = IsSome (map.get own q) ⊎ (map.get atoms q ≡ None)

    abbrev IsTouched : Name → Type 0
    IsTouched m = (IsFree m × ((o p : Option Atom) → left_by ws m o ≡ left_by ws m p)) ⊎ ((o : Option Atom) → left_by ws m o ≡ o)

    touch : (m : Name) → IsTouched m
    touch m = touched IsFree ws (every-map _ _ (λ w f. f.0) ws fit) m

    now-own : (m : Name) (b : Atom) → map.get (written own ws) m ≡ Some b → b.agent ≡ a
    now-own m b g = left-is (λ (x : Atom). x.agent ≡ a) ws m (map.get own m) (every-map _ _ (λ w f. f.1) ws fit) (λ x is. h.own a own m x stands is) b (sym (get-written ws own m) ∙ g)

    now-there : (m : Name) (b : Atom) → map.get (written own ws) m ≡ Some b → map.get (written atoms ws) m ≡ Some b
    now-there m b g = get-written ws atoms m ∙ elim (touch m) [
      | inl s ↦ s.1 (map.get atoms m) (map.get own m) ∙ sym (get-written ws own m) ∙ g
      | inr s ↦ s (map.get atoms m) ∙ mine-there m b (sym (s (map.get own m)) ∙ sym (get-written ws own m) ∙ g)
    ]

    -- the mark of an atom of another agent is not free
    taken : (m : Name) (b : Atom) → same_name b.agent a ≡ false → map.get atoms m ≡ Some b → IsFree m → ⊥
    taken m b far g (inl is) = none-some (map.get own m) (not-mine m b g far) is
    taken m b far g (inr none) = let e : Some b ≡ None = sym g ∙ none in cc

    other-there : (m : Name) (b : Atom) → same_name b.agent a ≡ false → map.get atoms m ≡ Some b → map.get (written atoms ws) m ≡ Some b
    other-there m b far g = get-written ws atoms m ∙ elim (touch m) [ inl s ↦ absurd (taken m b far g s.0) | inr s ↦ s (map.get atoms m) ∙ g ]

    abbrev IsEither : Name → Atom → Type 0
    IsEither m b = ((map.get atoms m ≡ Some b) × (same_name b.agent a ≡ false)) ⊎ ((t : NameMap Atom) × (Some (written own ws) ≡ Some t) × (map.get t m ≡ Some b))

    kept-one : (m : Name) (b : Atom) → ((o : Option Atom) → left_by ws m o ≡ o) → map.get atoms m ≡ Some b → (s : Bool) → same_name b.agent a ≡ s → IsEither m b
    kept-one m b s g true e = inr (written own ws, refl, get-written ws own m ∙ s (map.get own m) ∙ there-mine m b g (same_name-is b.agent a e))
    kept-one m b s g false e = inl (g, e)

    now-only : (m : Name) (b : Atom) → map.get (written atoms ws) m ≡ Some b → IsEither m b
    now-only m b g =
        let was : left_by ws m (map.get atoms m) ≡ Some b = sym (get-written ws atoms m) ∙ g in
        elim (touch m) [
          | inl s ↦ inr (written own ws, refl, get-written ws own m ∙ s.1 (map.get own m) (map.get atoms m) ∙ was)
          | inr s ↦ kept-one m b s (sym (s (map.get atoms m)) ∙ was) (same_name b.agent a) refl
        ]

    pub hold-write : Holds (map.insert agents a (written own ws)) (written atoms ws)
    hold-write = changed-holds agents (map.insert agents a (written own ws)) atoms (written atoms ws) a (Some (written own ws)) h (record {
      at = get-put agents a (written own ws);
      mine = λ t is m b g. let g : map.get (written own ws) m ≡ Some b = subst (λ t. map.get t m ≡ Some b) (done is) g in (now-own m b g, now-there m b g);
      others = other-there;
      only = now-only;
    })

  -- it is gone, and its atoms with it
  module _ (left : NameMap Atom) (is_left : (m : Name) → map.get left m ≡ cond (is_some (map.get own m)) None (map.get atoms m)) where
    still : (m : Name) (b : Atom) (o : Option Atom) → o ≡ None → map.get atoms m ≡ Some b → cond (is_some o) None (map.get atoms m) ≡ Some b
    still m b None e g = g
    still m b (Some y) e g = absurd cc

    but : (m : Name) (b : Atom) (o : Option Atom) → map.get own m ≡ o → cond (is_some o) None (map.get atoms m) ≡ Some b → (s : Bool) → same_name b.agent a ≡ s
        → (map.get atoms m ≡ Some b) × (same_name b.agent a ≡ false)
    but m b (Some y) e g s same = absurd cc
    but m b None e g false same = (g, same)
    but m b None e g true same = let mine = there-mine m b g (same_name-is b.agent a same) in let e : None ≡ Some b = sym e ∙ mine in absurd cc

    pub hold-gone : Holds (map.remove agents a) left
    hold-gone = changed-holds agents (map.remove agents a) atoms left a None h (record {
      at = get-cut agents a;
      mine = λ t is m b g. absurd cc;
      others = λ m b far g. is_left m ∙ still m b (map.get own m) (not-mine m b g far) g;
      only = λ m b g. inl (but m b (map.get own m) refl (sym (is_left m) ∙ g) (same_name b.agent a) refl);
    })

-- an agent comes with its atoms
module _ (agents : NameMap (NameMap Atom)) (atoms : NameMap Atom) (h : Holds agents atoms) (a : Name) (absent : map.get agents a ≡ None) (new all : NameMap Atom) where
  module _ (own : (m : Name) (b : Atom) → map.get new m ≡ Some b → b.agent ≡ a) (apart : (m : Name) → IsSome (map.get new m) → map.get atoms m ≡ None) where
    module _ (are_all : (m : Name) → map.get all m ≡ either (map.get atoms m) (map.get new m)) where
      second : (m : Name) (b : Atom) (o : Option Atom) → o ≡ None → map.get new m ≡ Some b → either o (map.get new m) ≡ Some b
      second m b None e g = g
      second m b (Some y) e g = absurd cc

      far : (m : Name) (b : Atom) → map.get atoms m ≡ Some b → (s : Bool) → same_name b.agent a ≡ s → same_name b.agent a ≡ false
      far m b g false e = e
      far m b g true e =
          let k = h.only m b g in
          let is : Some k.0 ≡ None = sym k.1 ∙ ap (map.get agents) (same_name-is b.agent a e) ∙ absent in
          absurd cc

      one : (m : Name) (b : Atom) (o : Option Atom) → map.get atoms m ≡ o → either o (map.get new m) ≡ Some b
          → ((map.get atoms m ≡ Some b) × (same_name b.agent a ≡ false)) ⊎ ((t : NameMap Atom) × (Some new ≡ Some t) × (map.get t m ≡ Some b))
      one m b (Some y) e g = let was : map.get atoms m ≡ Some b = e ∙ g in inl (was, far m b was (same_name b.agent a) refl)
      one m b None e g = inr (new, refl, g)

      pub hold-come : Holds (map.insert agents a new) all
      hold-come = changed-holds agents (map.insert agents a new) atoms all a (Some new) h (record {
        at = get-put agents a new;
        mine = λ t is m b g.
            let g : map.get new m ≡ Some b = subst (λ t. map.get t m ≡ Some b) (done is) g in
            (own m b g, are_all m ∙ second m b (map.get atoms m) (apart m (rw g refl)) g);
        others = λ m b far g. are_all m ∙ ap (λ o. either o (map.get new m)) g;
        only = λ m b g. one m b (map.get atoms m) refl (sym (are_all m) ∙ g);
      })
