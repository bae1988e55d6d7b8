-- Which atoms can go on where nothing is under way, told one by one (docs/LANGUAGE.md, "Reductions").
use Rattle.std.specs.Prelude.{◌≡◌, ◌⊎◌, Some, IsSome}
use Rattle.std.specs.FinMap as map
use Rattle.np_syntax.specs.declared.value.Name.{Name}
use Rattle.np_tables.specs.declared.errand.Meeting.{Meeting}
use Rattle.np_tables.specs.declared.errand.Errand.TheVariants as errand
use Rattle.np_tables.specs.Names.{NameMap}
use Rattle.np_calculus.specs.declared.config.Atom.{Atom}
use Rattle.np_calculus.specs.declared.config.Place.{Place}
use Rattle.np_configuration.specs.Errands.{errand_of}

-- the atom of a mark gives at this meeting
pub record GivesAt (atoms : NameMap Atom) (meeting : Meeting) (mark : Name) : Type 0 where
  pub atom : Atom
  pub there : map.get atoms mark ≡ Some atom
  pub gives : errand_of atom ≡ errand.Gives meeting

-- some atom does
abbrev pub AnyGives : NameMap Atom → Meeting → Type 0
AnyGives atoms meeting = (mark : Name) × GivesAt atoms meeting mark

-- the atom of a mark, in an agent that has a place, acts alone, or takes what another atom gives
pub record MayAct (atoms : NameMap Atom) (places : NameMap Place) (mark : Name) : Type 0 where
  pub atom : Atom
  pub there : map.get atoms mark ≡ Some atom
  pub housed : IsSome (map.get places atom.agent)
  pub goes : (errand_of atom ≡ errand.Acts) ⊎ ((meeting : Meeting) × (errand_of atom ≡ errand.Takes meeting) × AnyGives atoms meeting)

-- some atom does
abbrev pub AnyMayAct : NameMap Atom → NameMap Place → Type 0
AnyMayAct atoms places = (mark : Name) × MayAct atoms places mark
