-- A low program without a fault is typed at its start, where the infrastructure's channels are born.
use Rattle.std.proofs.Common.{◌≡◌, ℕ, Bool, true, false, ◌||◌, nat_eq, inl, inr, Some, List, [], ◌∷◌, length, map, refl, sym, ap, ◌∙◌}
use Rattle.std.proofs.lemmas.Bool.{eqb-true}
use Rattle.std.specs.List.{list_any, list_all}
use Rattle.std.specs.FinMap as table
use Rattle.std.specs.FinSet as set
use Rattle.np_safety.proofs.Common.{Name, Cap, Ty, and-out, put_cases}
use Rattle.np_syntax.specs.declared.types.Cap.TheVariants as cap
use Rattle.np_syntax.specs.declared.program.LowProgram.{LowProgram}
use Rattle.np_tables.specs.Names.{NameSet}
use Rattle.np_tables.proofs.Tables.{born_here}
use Rattle.np_calculus.specs.Starts.{own, own_numbers, own_names, with_all, start_low}
use Rattle.np_calculus.proofs.Housed.{nothing}
use Rattle.np_calculus.proofs.OwnNames.{with_all-keeps}
use Rattle.np_safety.specs.Typed.{AreBorn}
use Rattle.np_safety.specs.Low.{carried, channels_of, infrastructure, low_world, IsFaultless, LowStartsTyped, LowWellTyped}
use Rattle.np_safety.proofs.Fitting.{Fitting}
use Rattle.np_safety.proofs.Literal.{fitting-typed}
use Rattle.np_safety.proofs.Runs.{stays-typed}
use Rattle.np_safety.proofs.Starts.{fits-more, fits-main}

-- ---- names of the program's own

has_own : (names : NameSet) (n : ℕ) (numbers : List ℕ) (i : ℕ) → list_any (nat_eq i) numbers ≡ true → set.contains (with_all names (map (own n) numbers)) (own n i) ≡ true
has_own names n [] i h = absurd cc
has_own names n (j ∷ js) i h = found (nat_eq i j) refl (λ m. has_own (set.insert names (own n j)) n js i m)
  where
    after : NameSet
    after = with_all (set.insert names (own n j)) (map (own n) js)

    found : (b : Bool) → nat_eq i j ≡ b → (list_any (nat_eq i) js ≡ true → set.contains after (own n i) ≡ true) → set.contains after (own n i) ≡ true
    found true e rest =
        let here = ap (λ k. set.contains (set.insert names (own n j)) (own n k)) (eqb-true i j e) ∙ born_here names (own n j) in
        with_all-keeps _ (map (own n) js) (own n i) here
    found false e rest = rest (ap (λ b. b || list_any (nat_eq i) js) (sym e) ∙ h)

are_own : (n : ℕ) (es : List (ℕ × Ty)) → list_all (λ e. list_any (nat_eq e.0) own_numbers) es ≡ true
    → (q : Name) (k : Cap × Ty) → table.get (channels_of n es) q ≡ Some k → set.contains (own_names n) q ≡ true
are_own n [] m q k h = absurd (nothing q k h)
are_own n (e ∷ es) m q k h =
    let b = and-out _ _ m in
    elim (put_cases (channels_of n es) (own n e.0) (cap.Both, e.1) q k h) [
      | inl same ↦ ap (set.contains (own_names n)) same.0 ∙ has_own set.empty n own_numbers e.0 b.0
      | inr old ↦ are_own n es b.1 q k old
    ]

-- ---- the start

low-born : (q : LowProgram) → AreBorn (start_low q) (infrastructure (length q.sites))
unfolding start_low
low-born q n k h = are_own (length q.sites) carried refl n k h

low-fitting : (q : LowProgram) → IsFaultless q → Fitting (low_world q) (start_low q)
unfolding start_low
low-fitting q a = fits-more (low_world q) _ _ 0 _ q.daemon (fits-main (low_world q) (length q.sites) q.at q.main a.main) a.daemon

pub low-starts-typed : LowStartsTyped
low-starts-typed q a = fitting-typed _ (start_low q) (low-fitting q a)

pub low-well-typed : LowWellTyped
unfolding start_low
low-well-typed q a = stays-typed (start_low q) (infrastructure (length q.sites)) (low-starts-typed q a) (low-born q)
