-- The protocol holds of the start.
use Rattle.std.proofs.Common.{◌≡◌, ◌+◌, ◌≤◌, ℕ, Bool, true, false, cond, None, Some, [], ◌∷◌, is_some, refl, sym, ap, ◌∙◌, arith, List}
use Rattle.std.specs.List.{count_by}
use Rattle.std.proofs.lemmas.List.Elements.{All-from_recursion, All-cons}
use Rattle.std.proofs.lemmas.List.Sums.{sum_by-cons}
use Rattle.np_syntax.specs.declared.value.Name.{Name}
use Rattle.np_tables.specs.Names.{same_name}
use Rattle.np_tables.proofs.Tables.{same_name-is, same_name-itself}
use Rattle.simulate_laws.specs.protocol.Chips.{Service, is_lock, does, always_serves, Chip, counted}
use Rattle.simulate_laws.specs.protocol.Columns.{Column, times}
use Rattle.simulate_laws.specs.protocol.Laws.{StartsInOrder}
use Rattle.simulate_laws.specs.protocol.Phases.{Phase, line, is_present, is_registered, is_moving}
use Rattle.simulate_laws.specs.protocol.Protocol.{IsTrueOf, one_if, Protocol}
use Rattle.simulate_laws.specs.protocol.Scenes.{Locks, Whereabouts, is_there, Scene}
use Rattle.simulate_laws.specs.protocol.Starts.{first_scene, first_phase, first_chips}
use Rattle.simulate_laws.proofs.protocol.Tallies.{only, tally}

module _ (main lock : Name) (site : ℕ) where
  row : (t : Bool) (c : Column) → only t (times c (Column.token ∷ [])) ≡ times c (line (cond t Phase.resting Phase.absent))
  row true c = refl
  row false c = refl

  placed : (t : Bool) → is_there (cond t (Whereabouts.at site) Whereabouts.nowhere) ≡ is_present (cond t Phase.resting Phase.absent)
  placed true = refl
  placed false = refl

  registered : (t : Bool) → is_some (cond t (Some lock) None) ≡ is_registered (cond t Phase.resting Phase.absent)
  registered true = refl
  registered false = refl

  its : (l : Name) (t : Bool) → cond t (Some lock) None ≡ Some l → t ≡ true
  its l true h = refl
  its l false h = absurd cc

  one_lock : (x : Name) (t : Bool) → one_if (is_lock (cond t (Some lock) None) lock) + one_if (is_moving (cond t Phase.resting Phase.absent)) ≡ one_if (is_registered (cond t Phase.resting Phase.absent))
  one_lock x true = ap (λ s. one_if s + 0) (same_name-itself lock)
  one_lock x false = refl

  reports : (t : Bool) (u : ℕ) → cond t Phase.resting Phase.absent ≡ Phase.reporting u → ⊥
  reports true u h = cc
  reports false u h = cc

  taken_in : (t : Bool) → is_there (cond t (Whereabouts.at site) Whereabouts.nowhere) ≡ true → 1 ≤ one_if t
  taken_in true h = omega arith
  taken_in false h = absurd cc

  serves : (map : Locks) (k : Service) → always_serves k ≡ true → 1 ≤ count_by (does k) (first_chips main lock site map)
  serves map Service.registers always = omega arith
  serves map Service.grants always = omega arith
  serves map Service.notes_moves always = omega arith
  serves map Service.passes_on always = omega arith
  serves map Service.ends_deliveries always = omega arith
  serves map Service.tells always = absurd cc

  here : cond (same_name main main) (Whereabouts.at site) Whereabouts.nowhere ≡ Whereabouts.at site
  here = rw (same_name-itself main) refl

  its_lock : cond (same_name main main) (Some lock) None ≡ Some lock
  its_lock = rw (same_name-itself main) refl

pub starts-in-order : StartsInOrder
starts-in-order main lock site map same = record {
  rows = λ x c. tally (first_chips main lock site map) main (Column.token ∷ []) refl x c ∙ row main lock site (same_name x main) c;
  placed = λ x. placed main lock site (same_name x main);
  registered = λ x. registered main lock site (same_name x main);
  apart = λ x y l h i. same_name-is x main (its main lock site l (same_name x main) h) ∙ sym (same_name-is y main (its main lock site l (same_name y main) i));
  one_map = refl;
  one_lock = λ x. omega (arith, one_lock main lock site x (same_name x main));
  travels = λ x u r. absurd (reports main lock site (same_name x main) u r);
  letters = λ x h. omega (arith, taken_in main lock site (same_name x main) h);
  services = serves main lock site map;
  true_chips = All-from_recursion (IsTrueOf (first_scene main lock site) (first_phase main)) (first_chips main lock site map)
      (here main lock site, (tt, (same, ((main, its_lock main lock site, here main lock site), (tt, (tt, (tt, (tt, (tt, tt)))))))));
}

-- where the daemon serves more, the protocol holds still
pub serves-more : (w : Scene) (phase : Name → Phase) (chips : List Chip) (k : Service) → Protocol w phase chips → Protocol w phase (Chip.serves k ∷ chips)
serves-more w phase chips k p = record {
  rows = λ a c. omega (arith, sum_by-cons (counted a c) (Chip.serves k) chips, p.rows a c);
  placed = p.placed;
  registered = p.registered;
  apart = p.apart;
  one_map = omega (arith, p.one_map);
  one_lock = λ a. omega (arith, p.one_lock a);
  travels = p.travels;
  letters = λ a h. omega (arith, p.letters a h);
  services = λ j h. omega (arith, p.services j h, sum_by-cons (λ c. one_if (does j c)) (Chip.serves k) chips);
  true_chips = All-cons (IsTrueOf w phase) (Chip.serves k) chips tt p.true_chips;
}
