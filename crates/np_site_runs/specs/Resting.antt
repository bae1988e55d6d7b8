-- When what a site holds can do nothing, and when it rests (docs/LANGUAGE.md, "Reductions").
use Rattle.std.specs.Prelude.{◌≡◌, ◌↔◌, ℕ, Bool, true, Option, None, Some}
use Rattle.std.specs.FinMap as table
use Rattle.np_syntax.specs.declared.value.Name.{Name}
use Rattle.np_syntax.specs.declared.event.Event.{Event}
use Rattle.np_syntax.specs.declared.event.Kind.TheVariants as kind
use Rattle.np_syntax.specs.Options.{◌>>=◌}
use Rattle.np_tables.specs.Names.{NameMap}
use Rattle.np_eval.specs.Eval.{chan_of}
use Rattle.np_eval.specs.Forms.{given_on, layer, taken_on}
use Rattle.np_calculus.specs.declared.config.Atom.{Atom}
use Rattle.np_calculus.specs.Config.{Config}
use Rattle.np_calculus.specs.Idle.{Idle, waits}
use Rattle.np_calculus.specs.Reductions.{apply}
use Rattle.np_calculus.specs.Rows.{change_in}
use Rattle.np_site_runs.specs.Going.{own_sight}
use Rattle.np_site_runs.specs.Holdings.{Holding, IsPart}

-- this holds of the atoms of each agent that stands here
abbrev pub OfEach : Holding → (NameMap Atom → Type 0) → Type 0
OfEach h P = (agent : Name) (atoms : NameMap Atom) → table.get h.agents agent ≡ Some atoms → P atoms

-- no event of an agent with these atoms has its row met, but for posts, which no low program has
pub record HasNothingToDo (sites : ℕ) (atoms : NameMap Atom) : Type 0 where
  pub none : (here : Bool) (e : Event) → (e.kind ≡ kind.Post → ⊥) → change_in e.kind (own_sight sites atoms here) e ≡ None

-- where no agent here has anything to do, no event but a post is enabled in what the site holds
abbrev pub NoEventHere : Type 0
NoEventHere = (h : Holding) (c : Config) → IsPart h c → OfEach h (HasNothingToDo h.sites) → (e : Event) → (e.kind ≡ kind.Post → ⊥)
    → apply c e ≡ None

-- the channel on which an atom is an output, and that on which it is an input, plain or replicated
abbrev pub gives_on : Atom → Option Name
gives_on a = given_on (layer a.proc) >>= λ c. chan_of c a.env

abbrev pub takes_on : Atom → Option Name
takes_on a = taken_on (layer a.proc) >>= λ (c, pat). chan_of c a.env

-- no output of the atoms is on the channel
pub record HasNoOutput (atoms : NameMap Atom) (chan : Name) : Type 0 where
  pub none : (q : Name) (b : Atom) → table.get atoms q ≡ Some b → gives_on b ≡ Some chan → ⊥

-- each atom is an output or an input, and no output and input are on one channel
pub record IsIdle (atoms : NameMap Atom) : Type 0 where
  pub wait : (m : Name) (a : Atom) → table.get atoms m ≡ Some a → waits (layer a.proc) ≡ true
  pub apart : (m : Name) (a : Atom) (chan : Name) → table.get atoms m ≡ Some a → takes_on a ≡ Some chan → HasNoOutput atoms chan

-- what a site holds rests just where each agent here is idle
abbrev pub IdleByAgents : Type 0
IdleByAgents = (h : Holding) (c : Config) → IsPart h c → Idle c ↔ OfEach h IsIdle
