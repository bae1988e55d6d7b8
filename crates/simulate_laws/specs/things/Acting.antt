-- Which events a thing begins: by the role of its process and the kind of the event (docs/TRANSLATION.md, "Translation and daemon").
use Rattle.std.specs.Prelude.{◌≡◌, ◌⊎◌, ℕ, Bool, true, false, Some, List, [], ◌∷◌}
use Rattle.np_syntax.specs.declared.process.Role.{Role}
use Rattle.np_syntax.specs.declared.process.Role.TheVariants as role
use Rattle.np_syntax.specs.declared.event.Kind.{Kind}
use Rattle.np_syntax.specs.declared.event.Kind.TheVariants as kind
use Rattle.np_calculus.specs.declared.config.Atom.{Atom}
use Rattle.np_calculus.specs.Begins.{begun_by}
use Rattle.np_eval.specs.Forms.{layer}
use Rattle.infrastructure_texts.specs.Infrastructures.{Infrastructure}
use Rattle.simulate_laws.specs.things.Shapes.{Are, Is}
use Rattle.simulate_laws.specs.things.Things.{Stage, Thing}

-- an output begins none, and a process of the source may begin each that has the role Plain
abbrev pub begins : Thing → Role → Kind → Bool
begins (Thing.source a h) role.Plain k = true
begins (Thing.source a h) role.Post kind.Send = true
begins (Thing.source a h) role.Infra kind.Comm = true
begins (Thing.asking a h) role.Infra kind.Comm = true
begins (Thing.leaving a h) role.Plain kind.Depart = true
begins (Thing.settling a h s) role.Infra kind.Comm = true
begins (Thing.making a h s) role.Plain kind.Agent = true
begins (Thing.beginning a h p s) role.Infra kind.Comm = true
begins (Thing.calling a h ps) role.Infra kind.Lookup = true
begins (Thing.hoping a h l) role.Infra kind.Comm = true
begins (Thing.hiring a h) role.Post kind.Agent = true
begins (Thing.passing a h) role.Post kind.Send = true
begins (Thing.keeping a) role.Infra kind.Rep = true
begins (Thing.told a) role.Infra kind.Comm = true
begins (Thing.telling a ps) role.Infra kind.Lookup = true
begins (Thing.replacing a l) role.Infra kind.Comm = true
begins (Thing.adding a ps b) role.Infra kind.New = true
begins (Thing.carrying p t a) role.Infra kind.Depart = true
begins (Thing.trying p t a) role.Infra kind.Local = true
begins Thing.ended role.Infra kind.Stop = true
begins (Thing.looking_back a b l ps) role.Infra kind.Lookup = true
begins (Thing.reading a b l k) role.Infra kind.Comm = true
begins (Thing.reading_back a k) role.Infra kind.Comm = true
begins (Thing.letters a) role.Infra kind.Rep = true
begins (Thing.opening p) role.Infra kind.Open = true
begins (Thing.mail m (Stage.in_agent x)) role.Infra kind.Send = true
begins (Thing.taken m) role.Infra kind.Comm = true
begins (Thing.looking m ps) role.Infra kind.New = true
begins (Thing.looking m ps) role.Infra kind.Lookup = true
begins (Thing.wanting m l) role.Infra kind.Comm = true
begins (Thing.serving k) role.Infra kind.Rep = true
begins _ _ _ = false

-- an atom that begins an event of a kind is there for one thing, which begins such events; or it is a bracket of the infrastructure
pub record BeginsAlone (i : Infrastructure) (n from first : ℕ) (low : Atom) (ts : List Thing) (k : Kind) : Type 0 where
  pub thing : Thing
  pub alone : ts ≡ thing ∷ []
  pub is : Is i n from first thing low
  pub its_kind : begins thing low.proc.tag.role k ≡ true

abbrev pub IsBracket : Atom → Kind → Type 0
IsBracket low k = (k ≡ kind.Fork) × (low.proc.tag.role ≡ role.Infra)

abbrev pub BeginsByThing : Infrastructure → Type 0
BeginsByThing i = (n from first : ℕ) (low : Atom) (ts : List Thing) (k : Kind) → Are i n from first low ts
    → begun_by (layer low.proc) ≡ Some k
    → BeginsAlone i n from first low ts k ⊎ IsBracket low k
