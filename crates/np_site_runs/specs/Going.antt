-- What an agent's atoms see, and how the agent goes on by an event (docs/LANGUAGE.md, "Reductions").
use Rattle.std.specs.Prelude.{◌≡◌, ℕ, Bool, false, Some}
use Rattle.std.specs.FinMap as table
use Rattle.np_syntax.specs.declared.value.Name.{Name}
use Rattle.np_syntax.specs.declared.event.Event.{Event}
use Rattle.np_syntax.specs.declared.event.Kind.{Kind}
use Rattle.np_syntax.specs.Options.{◌>>=◌}
use Rattle.np_tables.specs.Names.{NameMap}
use Rattle.np_calculus.specs.declared.config.Atom.{Atom}
use Rattle.np_calculus.specs.Changes.{Change}
use Rattle.np_calculus.specs.Rows.{asked_of, change_in, leaves, leaves_outside}
use Rattle.np_calculus.specs.Sight.{Sight}

-- what an agent's atoms see: the number of the program's sites, themselves, and whether an agent for which one asks is here
abbrev pub own_sight : ℕ → NameMap Atom → Bool → Sight
own_sight sites atoms here = record { sites = sites; here = λ q. here; atom = table.get atoms }

-- by the row of this kind the agent goes on from the old atoms to the new ones, and this is all else that changes
abbrev pub Goes : Kind → ℕ → NameMap Atom → NameMap Atom → Event → Change → Type 0
Goes k sites old new e rest = (change_in k (own_sight sites old false) e >>= leaves old) ≡ Some (rest, new)

-- the same where the first atom that the event writes is of another agent, and this is whether an agent for which it asks is
-- here: that atom is not among the agent's own
abbrev pub GoesPast : Kind → ℕ → Bool → NameMap Atom → NameMap Atom → Event → Change → Type 0
GoesPast k sites here old new e rest = (change_in k (own_sight sites old here) e >>= leaves_outside old) ≡ Some (rest, new)

-- the atom of a mark asks for this agent
abbrev pub AsksFor : NameMap Atom → Name → Name → Type 0
AsksFor atoms mark agent = (table.get atoms mark >>= asked_of) ≡ Some agent
