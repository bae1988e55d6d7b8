-- The rows of the table of reductions on one agent (docs/LANGUAGE.md, "Reductions").
use Rattle.std.specs.Prelude.{◌≡◌, ℕ, Bool, false, [], ◌∷◌, length, Option, None, Some, IsSome}
use Rattle.std.specs.FinMap as map
use Rattle.np_syntax.specs.declared.value.Name.{Name}
use Rattle.np_syntax.specs.declared.pattern.Pat.{Pat}
use Rattle.np_syntax.specs.declared.process.Proc.{Proc}
use Rattle.np_syntax.specs.declared.event.Event.{Event}
use Rattle.np_syntax.specs.declared.value.Value.{Value}
use Rattle.np_syntax.specs.declared.event.Kind.{Kind}
use Rattle.np_syntax.specs.declared.event.Kind.TheVariants as kind
use Rattle.np_syntax.specs.declared.event.Made.{Made}
use Rattle.np_syntax.specs.declared.event.Made.TheVariants as made
use Rattle.np_syntax.specs.Options.{◌>>=◌}
use Rattle.np_eval.specs.Eval.{Env, bind}
use Rattle.np_eval.specs.Forms.{layer}
use Rattle.np_calculus.specs.declared.config.Atom.{Atom}
use Rattle.np_calculus.specs.Changes.{Change, put, cut, still}
use Rattle.np_calculus.specs.Reductions.{sends}
use Rattle.np_calculus.specs.Rows.{change_in, leaves}
use Rattle.np_calculus.specs.Sight.{Sight}
use Rattle.np_code.specs.declared.node.Node.{Node}
use Rattle.np_code.specs.Programs.{ProgramTable}
use Rattle.np_code.specs.Trees.{layer_of}
use Rattle.agent_pool.specs.declared.held.Held.{Held}
use Rattle.agent_pool.specs.declared.ready.Ready.{Ready}
use Rattle.agent_pool.specs.Held.{atom_of}
use Rattle.agent_pool.specs.Pools.{Pool, atoms_of}

-- what an agent's atoms see: the program's sites, the agent's atoms, and whether an agent for which one asks is here
abbrev pub own_sight : ProgramTable → Pool → Bool → Sight
own_sight code p here = record { sites = length code.sites; here = λ q. here; atom = map.get (atoms_of code.processes p) }

-- the event of a ready at a site, with the names that it makes
abbrev pub event_of : ℕ → Ready → Made → Event
event_of site r made = record { site = site; kind = r.kind; actor = r.actor; other = r.other; tag = r.tag; made = made }

-- what an event asks of the agent that does it
abbrev pub ready_of : Event → Ready
ready_of e = record { kind = e.kind; actor = e.actor; other = e.other; tag = e.tag }

-- the row of a kind is met by the event of a ready that makes these names
abbrev pub IsMet : Kind → ProgramTable → Pool → Ready → Made → Type 0
IsMet k code p r made = IsSome (change_in k (own_sight code p false) (event_of 0 r made))

-- the acting atom of a ready is this node under this environment
pub record ActsAs (code : ProgramTable) (p : Pool) (r : Ready) (n : Node) (env : Env) : Type 0 where
  pub proc : Proc
  pub there : map.get (atoms_of code.processes p) r.actor ≡ Some (record { agent = p.name; proc = proc; env = env })
  pub layer : layer proc ≡ layer_of code.processes n.form

-- no row of a ready is met
pub record NeverActs (code : ProgramTable) (p : Pool) (r : Ready) : Type 0 where
  pub row : (k : Kind) (here : Bool) (site : ℕ) (made : Made) → change_in k (own_sight code p here) (event_of site r made) ≡ None

-- by the event of a ready that makes these names, and by the row of this kind, the agent goes on; this is all else that changes
abbrev pub Reduces : Kind → ProgramTable → Pool → Pool → Ready → Made → Change → Type 0
Reduces k code old new r made rest =
    (site : ℕ) → (change_in k (own_sight code old false) (event_of site r made) >>= leaves (atoms_of code.processes old))
    ≡ Some (rest, atoms_of code.processes new)

-- by that event the agent has this atom under a mark then, and nothing else changes
abbrev pub GoesOnAs : Kind → ProgramTable → Pool → Ready → Made → Name → Held → Type 0
GoesOnAs k code p r made mark h =
    (site : ℕ) → change_in k (own_sight code p false) (event_of site r made)
    ≡ Some (record still { atoms = put mark (atom_of code.processes p.name h) ∷ [] })

-- by that event the acting atom goes on as the first of these, and the second stands under a mark
abbrev pub IsFork : ProgramTable → Pool → Ready → Name → Held → Held → Type 0
IsFork code p r mark left right =
    (site : ℕ) → change_in kind.Fork (own_sight code p false) (event_of site r (made.One mark))
    ≡ Some (record still { atoms = put mark (atom_of code.processes p.name right) ∷ put r.actor (atom_of code.processes p.name left) ∷ [] })

-- by that event the acting atom goes, and this value is said
abbrev pub IsPrinted : ProgramTable → Pool → Ready → Value → Type 0
IsPrinted code p r value =
    (site : ℕ) → change_in kind.Print (own_sight code p false) (event_of site r made.Nothing)
    ≡ Some (record still { atoms = cut r.actor ∷ []; said = Some value })

-- the environment of a pattern that takes what an output gives
abbrev pub taken_in : Atom → Pat → Env → Option Env
taken_in b pat env = sends b >>= λ sent. bind pat sent.1 env

-- by that event the acting input goes on as this atom, and the output of a mark goes
abbrev pub IsComm : ProgramTable → Pool → Ready → Held → Name → Type 0
IsComm code p r h other =
    (site : ℕ) → change_in kind.Comm (own_sight code p false) (event_of site r made.Nothing)
    ≡ Some (record still { atoms = put r.actor (atom_of code.processes p.name h) ∷ cut other ∷ [] })

-- by that event this atom stands in the place of the output of a mark
abbrev pub IsRep : ProgramTable → Pool → Ready → Held → Name → Type 0
IsRep code p r h other = GoesOnAs kind.Rep code p r made.Nothing other h
