-- The table of phases: which phase has room for columns that are there, and what becomes of a line where columns come and go.
use Rattle.std.proofs.Common.{◌≡◌, ◌+◌, ◌≤◌, ℕ, Bool, true, false, not, cond, ◌||◌, List, [], ◌∷◌, nat_eq, nat_le, eqb-true, le-leb, refl, sym, ap, ◌∙◌, arith}
use Rattle.std.specs.List.{All, list_all}
use Rattle.std.proofs.lemmas.List.Sums.{AllPass-from_list_all, list_all-from_AllPass}
use Rattle.np_syntax.specs.declared.value.Name.{Name}
use Rattle.np_tables.specs.Names.{same_name}
use Rattle.np_tables.proofs.Tables.{same_name-is, same_name-itself}
use Rattle.simulate_laws.specs.protocol.Columns.{Column, times}
use Rattle.simulate_laws.specs.protocol.Phases.{Phase, line}
use Rattle.simulate_laws.specs.protocol.Scenes.{changed}
use Rattle.simulate_laws.proofs.protocol.Tallies.{only, only-add}

-- ---- all columns

abbrev every : List Column
every = Column.token ∷ Column.maker ∷ Column.mover ∷ Column.leaver ∷ Column.waiter ∷ Column.child ∷ Column.request ∷ Column.registration ∷ Column.ack ∷ Column.report ∷ Column.owed ∷ []

each_column : (f : Column → Bool) → list_all f every ≡ true → (c : Column) → f c ≡ true
each_column f h Column.token = AllPass-from_list_all f every h 0 Column.token (omega arith)
each_column f h Column.maker = AllPass-from_list_all f every h 1 Column.token (omega arith)
each_column f h Column.mover = AllPass-from_list_all f every h 2 Column.token (omega arith)
each_column f h Column.leaver = AllPass-from_list_all f every h 3 Column.token (omega arith)
each_column f h Column.waiter = AllPass-from_list_all f every h 4 Column.token (omega arith)
each_column f h Column.child = AllPass-from_list_all f every h 5 Column.token (omega arith)
each_column f h Column.request = AllPass-from_list_all f every h 6 Column.token (omega arith)
each_column f h Column.registration = AllPass-from_list_all f every h 7 Column.token (omega arith)
each_column f h Column.ack = AllPass-from_list_all f every h 8 Column.token (omega arith)
each_column f h Column.report = AllPass-from_list_all f every h 9 Column.token (omega arith)
each_column f h Column.owed = AllPass-from_list_all f every h 10 Column.token (omega arith)

-- ---- what comes and goes

-- the columns given and the old line are as many as the new line and the columns taken
abbrev pub fits : List Column → List Column → Phase → Phase → Bool
fits take give p q = list_all (λ c. nat_eq (times c give + times c (line p)) (times c (line q) + times c take)) every

fits-is : (take give : List Column) (p q : Phase) → fits take give p q ≡ true → (c : Column) → times c give + times c (line p) ≡ times c (line q) + times c take
fits-is take give p q h c = eqb-true _ _ (each_column (λ c. nat_eq (times c give + times c (line p)) (times c (line q) + times c take)) h c)

-- a phase has room for columns
abbrev room : List Column → Phase → Bool
room take p = list_all (λ c. nat_le (times c take) (times c (line p))) every

abbrev pub index : Phase → ℕ
index Phase.absent = 0
index Phase.resting = 1
index Phase.creating = 2
index Phase.asking = 3
index Phase.granting = 4
index Phase.granted = 5
index (Phase.reporting t) = 6
index Phase.parent = 7
index Phase.finishing = 8
index Phase.registering = 9
index Phase.starting = 10

-- all phases, with one for all sites that are reported
abbrev phases : List Phase
phases =
    Phase.absent ∷ Phase.resting ∷ Phase.creating ∷ Phase.asking ∷ Phase.granting ∷ Phase.granted ∷ Phase.reporting 0 ∷ Phase.parent ∷ Phase.finishing ∷ Phase.registering ∷ Phase.starting ∷ []

-- a phase that tells no site
abbrev pub tells_none : Phase → Bool
tells_none p = not (nat_eq (index p) 6)

-- no phase but p has room for the columns
abbrev pub sole : List Column → Phase → Bool
sole take p = list_all (λ r. not (room take r) || nat_eq (index r) (index p)) phases

-- the phase of an index, where it tells no site
abbrev phase_at : ℕ → Phase
phase_at k = cond (nat_eq k 0) Phase.absent (cond (nat_eq k 1) Phase.resting (cond (nat_eq k 2) Phase.creating (cond (nat_eq k 3) Phase.asking
    (cond (nat_eq k 4) Phase.granting (cond (nat_eq k 5) Phase.granted (cond (nat_eq k 7) Phase.parent (cond (nat_eq k 8) Phase.finishing
    (cond (nat_eq k 9) Phase.registering Phase.starting))))))))

or_out : (a b : Bool) → a ≡ true → (not a || b) ≡ true → b ≡ true
or_out true b h k = k
or_out false b h k = absurd cc

roomy : (take : List Column) (r : Phase) → ((c : Column) → times c take ≤ times c (line r)) → room take r ≡ true
roomy take r h = list_all-from_AllPass (λ c. nat_le (times c take) (times c (line r))) every (λ k d i. le-leb _ _ (h _))

sole-index : (take : List Column) (p r : Phase) → sole take p ≡ true → room take r ≡ true → index r ≡ index p
sole-index take p r h k = eqb-true _ _ (or_out (room take r) (nat_eq (index r) (index p)) k (at r))
  where
    pass : All (λ r. (not (room take r) || nat_eq (index r) (index p)) ≡ true) phases
    pass = AllPass-from_list_all (λ r. not (room take r) || nat_eq (index r) (index p)) phases h

    at : (r : Phase) → (not (room take r) || nat_eq (index r) (index p)) ≡ true
    at Phase.absent = pass 0 Phase.absent (omega arith)
    at Phase.resting = pass 1 Phase.absent (omega arith)
    at Phase.creating = pass 2 Phase.absent (omega arith)
    at Phase.asking = pass 3 Phase.absent (omega arith)
    at Phase.granting = pass 4 Phase.absent (omega arith)
    at Phase.granted = pass 5 Phase.absent (omega arith)
    at (Phase.reporting t) = pass 6 Phase.absent (omega arith)
    at Phase.parent = pass 7 Phase.absent (omega arith)
    at Phase.finishing = pass 8 Phase.absent (omega arith)
    at Phase.registering = pass 9 Phase.absent (omega arith)
    at Phase.starting = pass 10 Phase.absent (omega arith)

plain : (r : Phase) (k : ℕ) → index r ≡ k → not (nat_eq k 6) ≡ true → phase_at (index r) ≡ r
plain Phase.absent k e n = refl
plain Phase.resting k e n = refl
plain Phase.creating k e n = refl
plain Phase.asking k e n = refl
plain Phase.granting k e n = refl
plain Phase.granted k e n = refl
plain (Phase.reporting t) k e n = absurd (let six : not (nat_eq 6 6) ≡ not (nat_eq k 6) = ap (λ j. not (nat_eq j 6)) e in cc)
plain Phase.parent k e n = refl
plain Phase.finishing k e n = refl
plain Phase.registering k e n = refl
plain Phase.starting k e n = refl

-- the columns that are there leave one phase
pub sole-is : (take : List Column) (p r : Phase) → sole take p ≡ true → tells_none p ≡ true → ((c : Column) → times c take ≤ times c (line r)) → r ≡ p
sole-is take p r h tells_none there =
    let e : index r ≡ index p = sole-index take p r h (roomy take r there) in
    sym (plain r (index p) e tells_none) ∙ ap phase_at e ∙ plain p (index p) refl tells_none

-- ---- an agent that goes on to another phase

module _ (phase : Name → Phase) (a : Name) (p q : Phase) (was : phase a ≡ p) where
  abbrev pub next : Name → Phase
  next = changed phase a q

  pub next_here : next a ≡ q
  next_here = rw (same_name-itself a) refl

  pub next_other : (x : Name) → same_name x a ≡ false → next x ≡ phase x
  next_other x e = rw e refl

  -- what is reported stays so, where the phases tell no site
  pub still_reporting : tells_none p ≡ true → (x : Name) (t : ℕ) → phase x ≡ Phase.reporting t → next x ≡ Phase.reporting t
  still_reporting none x t r = go (same_name x a) refl
    where
      go : (b : Bool) → same_name x a ≡ b → cond b q (phase x) ≡ Phase.reporting t
      go true e = absurd (let here : Phase.reporting t ≡ p = sym r ∙ ap phase (same_name-is x a e) ∙ was in let told : tells_none (Phase.reporting t) ≡ tells_none p = ap tells_none here in cc)
      go false e = r

  pub was_reporting : tells_none q ≡ true → (x : Name) (t : ℕ) → next x ≡ Phase.reporting t → phase x ≡ Phase.reporting t
  was_reporting none x t = go (same_name x a) refl
    where
      go : (b : Bool) → same_name x a ≡ b → cond b q (phase x) ≡ Phase.reporting t → phase x ≡ Phase.reporting t
      go true e r = absurd (let told : tells_none q ≡ tells_none (Phase.reporting t) = ap tells_none r in cc)
      go false e r = r

  -- a number that phases have
  pub moved : (f : Phase → ℕ) (x : Name) → f (next x) + only (same_name x a) (f p) ≡ f (phase x) + only (same_name x a) (f q)
  moved f x = go (same_name x a) refl
    where
      go : (t : Bool) → same_name x a ≡ t → f (cond t q (phase x)) + only t (f p) ≡ f (phase x) + only t (f q)
      go true e = let here : f (phase x) ≡ f p = ap f (ap phase (same_name-is x a e) ∙ was) in omega arith
      go false e = refl

  -- what is the same of both phases
  pub alike : {X : Type 0} (f : Phase → X) → f p ≡ f q → (x : Name) → f (next x) ≡ f (phase x)
  alike f same x = go (same_name x a) refl
    where
      go : (t : Bool) → same_name x a ≡ t → f (cond t q (phase x)) ≡ f (phase x)
      go true e = sym same ∙ sym was_here
        where
          was_here : f (phase x) ≡ f p
          was_here = ap f (ap phase (same_name-is x a e) ∙ was)
      go false e = refl

  -- its line
  pub new_line : (take give : List Column) → fits take give p q ≡ true → (x : Name) (c : Column)
      → times c (line (next x)) + only (same_name x a) (times c take) ≡ times c (line (phase x)) + only (same_name x a) (times c give)
  new_line take give h x c =
      let m : times c (line (next x)) + only (same_name x a) (times c (line p)) ≡ times c (line (phase x)) + only (same_name x a) (times c (line q)) = moved (λ r. times c (line r)) x in
      let both : only (same_name x a) (times c give + times c (line p)) ≡ only (same_name x a) (times c (line q) + times c take) = ap (only (same_name x a)) (fits-is take give p q h c) in
      let one : only (same_name x a) (times c give + times c (line p)) ≡ only (same_name x a) (times c give) + only (same_name x a) (times c (line p)) = only-add (same_name x a) (times c give) (times c (line p)) in
      let two : only (same_name x a) (times c (line q) + times c take) ≡ only (same_name x a) (times c (line q)) + only (same_name x a) (times c take) = only-add (same_name x a) (times c (line q)) (times c take) in
      omega arith
