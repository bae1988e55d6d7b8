-- What the protocol gives those that stand on it.
use Rattle.std.proofs.Common.{◌≡◌, ◌+◌, ◌≤◌, ℕ, List, [], ◌∷◌, refl, ap, ◌∙◌, arith}
use Rattle.std.specs.List.{sum_by, count_by, Contains}
use Rattle.std.proofs.lemmas.List.Elements.{All-contains}
use Rattle.np_syntax.specs.declared.value.Name.{Name}
use Rattle.np_tables.specs.Names.{same_name}
use Rattle.np_tables.proofs.Tables.{same_name-itself}
use Rattle.simulate_laws.specs.protocol.Chips.{Chip, counted, has_lock}
use Rattle.simulate_laws.specs.protocol.Columns.{Column, times}
use Rattle.simulate_laws.specs.protocol.Laws.{Acknowledged, KeepsOrder}
use Rattle.simulate_laws.specs.protocol.Phases.{Phase, line, is_registered, is_moving}
use Rattle.simulate_laws.specs.protocol.Protocol.{IsTrueOf, Protocol, one_if}
use Rattle.simulate_laws.specs.protocol.Scenes.{Scene, Whereabouts}
use Rattle.simulate_laws.proofs.protocol.Kept.{phase_of, phase_of_first}
use Rattle.simulate_laws.proofs.protocol.Steps.{weighs}

-- a line has one affair at most
one : (p : Phase) → times Column.token (line p) + times Column.maker (line p) + times Column.mover (line p) + times Column.leaver (line p) + times Column.waiter (line p) + times Column.child (line p) ≤ 1
one Phase.absent = omega arith
one Phase.resting = omega arith
one Phase.creating = omega arith
one Phase.asking = omega arith
one Phase.granting = omega arith
one Phase.granted = omega arith
one (Phase.reporting t) = omega arith
one Phase.parent = omega arith
one Phase.finishing = omega arith
one Phase.registering = omega arith
one Phase.starting = omega arith

-- an agent whose lock is not out for its move neither may leave nor has left
stays : (p : Phase) → 1 + one_if (is_moving p) ≤ one_if (is_registered p) → (times Column.leaver (line p) ≡ 0) × (times Column.report (line p) ≡ 0)
stays Phase.granting h = absurd (let bad : ⊥ = omega arith in bad)
stays Phase.granted h = absurd (let bad : ⊥ = omega arith in bad)
stays (Phase.reporting t) h = absurd (let bad : ⊥ = omega arith in bad)
stays _ h = (refl, refl)

module _ (w : Scene) (phase : Name → Phase) (chips : List Chip) (p : Protocol w phase chips) where
  meets : (a : Name) (s : ℕ) → Contains chips (Chip.delivery a s) → (w.place a ≡ Whereabouts.at s) × (sum_by (counted a Column.leaver) chips ≡ 0) × (sum_by (counted a Column.report) chips ≡ 0)
  meets a s there =
      let its : one_if (same_name a a) ≡ 1 = ap one_if (same_name-itself a) in
      let out : one_if (has_lock (w.lock a) a (Chip.delivery a s)) ≤ count_by (has_lock (w.lock a) a) chips =
      All-contains (λ ch. (f : Chip → ℕ) → f ch ≤ sum_by f chips) chips (Chip.delivery a s) (weighs chips) there (λ ch. one_if (has_lock (w.lock a) a ch)) in
      let none = stays (phase a) (omega (arith, p.one_lock a)) in
      (All-contains (IsTrueOf w phase) chips (Chip.delivery a s) p.true_chips there, p.rows a Column.leaver ∙ none.0, p.rows a Column.report ∙ none.1)

pub keeps-order : KeepsOrder
keeps-order w phase chips p = record {
  one_affair = λ a. omega (arith, one (phase a), p.rows a Column.token, p.rows a Column.maker, p.rows a Column.mover, p.rows a Column.leaver, p.rows a Column.waiter, p.rows a Column.child);
  meets = meets w phase chips p;
  found = λ a there. All-contains (IsTrueOf w phase) chips (Chip.knows a) p.true_chips there;
}

pub acknowledged : (w : Scene) → Acknowledged w
acknowledged w = record {
  starts = λ phase before after give b a s step p. p.registered b ∙ ap is_registered (phase_of_first step phase p.rows b a Phase.starting (Column.ack ∷ Column.child ∷ []) (Column.owed ∷ []) refl refl refl);
  finishes = λ phase before after give a s step p. p.rows a Column.owed ∙ ap (λ q. times Column.owed (line q)) (phase_of step phase p.rows a Phase.finishing (Column.waiter ∷ Column.ack ∷ []) refl refl refl);
}
