-- When a configuration shows an agent at a site, and that each event of the agent is one of the configuration
-- (docs/LANGUAGE.md, "Reductions").
use Rattle.std.specs.Prelude.{◌≡◌, ℕ, Bool, length, Option, None, Some}
use Rattle.std.specs.FinMap as map
use Rattle.np_syntax.specs.declared.value.Name.{Name}
use Rattle.np_syntax.specs.declared.process.ProcForm.{ProcForm-F}
use Rattle.np_syntax.specs.declared.event.Event.{Event}
use Rattle.np_syntax.specs.declared.event.Kind.TheVariants as kind
use Rattle.np_eval.specs.Eval.{Env, agent_of}
use Rattle.np_eval.specs.Forms.{Layer, layer}
use Rattle.np_calculus.specs.declared.config.Atom.{Atom}
use Rattle.np_calculus.specs.declared.config.Place.TheVariants as place
use Rattle.np_calculus.specs.Changes.{Change}
use Rattle.np_calculus.specs.Config.{Config}
use Rattle.np_calculus.specs.Reductions.{change}
use Rattle.np_calculus.specs.Rows.{change_in}
use Rattle.np_calculus.specs.Seen.{is_at}
use Rattle.np_calculus.specs.Sight.{inside}
use Rattle.np_code.specs.Programs.{ProgramTable}
use Rattle.agent_pool.specs.Pools.{Pool, atoms_of}
use Rattle.agent_pool.specs.Rows.{own_sight}

-- the agent stands at the site, and the configuration's atoms of this agent are those that it has
pub record Shows (code : ProgramTable) (p : Pool) (c : Config) (site : ℕ) : Type 0 where
  pub sites : c.sites ≡ length code.sites
  pub stands : map.get c.places p.name ≡ Some (place.At site)
  pub has : (m : Name) (a : Atom) → map.get (atoms_of code.processes p) m ≡ Some a → map.get c.atoms m ≡ Some a
  pub only : (m : Name) (a : Atom) → map.get c.atoms m ≡ Some a → a.agent ≡ p.name → map.get (atoms_of code.processes p) m ≡ Some a

-- the agent for which an atom asks
abbrev pub asked_at : Layer → Env → Option Name
asked_at (ProcForm-F.IfLocal b c e met unmet) env = agent_of b env
asked_at _ env = None

-- it was told right whether the agent for which a location test asks is here
pub record IsToldRight (c : Config) (e : Event) (here : Bool) : Type 0 where
  pub each : (a : Atom) (agent : Name) → map.get c.atoms e.actor ≡ Some a → asked_at (layer a.proc) a.env ≡ Some agent
      → is_at c agent e.site ≡ here

-- an event of the agent is one of each configuration that shows it, with the same change
abbrev pub ChangesTheWhole : Type 0
ChangesTheWhole = (code : ProgramTable) (p : Pool) (c : Config) (here : Bool) (e : Event) (d : Change) → (e.kind ≡ kind.Arrive → ⊥)
    → (e.kind ≡ kind.Land → ⊥)
    → Shows code p c e.site → IsToldRight c e here → change_in e.kind (own_sight code p here) e ≡ Some d
    → change e.kind c.sites (inside c) e ≡ Some d
