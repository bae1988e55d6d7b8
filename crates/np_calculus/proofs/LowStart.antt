-- What stands at the low start, and that it is born.
use Rattle.std.proofs.Common.{◌≡◌, ◌⊎◌, inl, inr, ⊎_elim, ℕ, Some, ap, ◌∙◌}
use Rattle.std.specs.FinMap as table
use Rattle.std.specs.FinSet as set
use Rattle.np_syntax.proofs.Options.{there-is}
use Rattle.np_tables.specs.Names.{NameMap}
use Rattle.np_tables.proofs.Tables.{get-none, put_cases}
use Rattle.np_calculus.proofs.Common.{Config, Name, Proc, inside}
use Rattle.np_calculus.specs.declared.config.Atom.{Atom}
use Rattle.np_calculus.specs.declared.config.Packet.{Packet}
use Rattle.np_calculus.specs.declared.config.Place.{Place}
use Rattle.np_calculus.specs.declared.config.Place.TheVariants as place
use Rattle.np_calculus.specs.Parts.{AreBorn}
use Rattle.np_calculus.specs.Starts.{daemon_agent, daemon_mark, first_atom, main_agent, main_mark, names_alone, own_names, with_agent}
use Rattle.np_calculus.proofs.OwnNames.{daemon-born, daemon_mark-born, main-born, mark-born}

abbrev empty_map : (X : Type 0) → NameMap X
empty_map X = table.empty

-- what is under one of two names in a map with no others
two-there : {X : Type 0} (a b : Name) (x y : X) (q : Name) (z : X) → table.get (table.insert (table.insert (empty_map X) a x) b y) q ≡ Some z → ((q ≡ b) × (z ≡ y)) ⊎ ((q ≡ a) × (z ≡ x))
two-there {X} a b x y q z h = ⊎_elim
    (λ last. inl last)
    (λ before. ⊎_elim (λ first. inr first) (λ none. absurd (let e = get-none {X = X} q in cc)) (put_cases (empty_map X) a x q z before))
    (put_cases (table.insert (empty_map X) a x) b y q z h)

module _ (n at : ℕ) (main daemon : Proc) where
  abbrev pub c : Config
  c = with_agent (with_agent (names_alone n) (main_agent n) at (main_mark n) main) (daemon_agent n) 0 (daemon_mark n) daemon

  pub placed : (q : Name) (p : Place) → (inside c).place q ≡ Some p → ((q ≡ daemon_agent n) × (p ≡ place.At 0)) ⊎ ((q ≡ main_agent n) × (p ≡ place.At at))
  placed q p h = two-there (main_agent n) (daemon_agent n) (place.At at) (place.At 0) q p h

  pub marked : (m : Name) (a : Atom) → (inside c).atom m ≡ Some a → ((m ≡ daemon_mark n) × (a ≡ first_atom (daemon_agent n) daemon)) ⊎ ((m ≡ main_mark n) × (a ≡ first_atom (main_agent n) main))
  marked m a h = two-there (main_mark n) (daemon_mark n) (first_atom (main_agent n) main) (first_atom (daemon_agent n) daemon) m a h

  pub names-born : AreBorn c
  names-born = record {
    agents = λ q is.
        let p = there-is ((inside c).place q) is in
        ⊎_elim (λ last. ap (set.contains (own_names n)) last.0 ∙ daemon-born n) (λ first. ap (set.contains (own_names n)) first.0 ∙ main-born n) (placed q p.0 p.1);
    marks = λ q is. ⊎_elim
        (λ atom.
        let a = there-is ((inside c).atom q) atom in
        ⊎_elim (λ last. ap (set.contains (own_names n)) last.0 ∙ daemon_mark-born n) (λ first. ap (set.contains (own_names n)) first.0 ∙ mark-born n) (marked q a.0 a.1))
        (λ packet. let p = there-is ((inside c).packet q) packet in let none = get-none {X = Packet} q in absurd cc)
        is;
  }
