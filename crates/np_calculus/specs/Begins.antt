-- The event that an atom begins, and those of what arrives and lands.
use Rattle.std.specs.Prelude.{◌≡◌, ℕ, false, Option, Some, None, cond}
use Rattle.std.specs.FinSet as set
use Rattle.np_syntax.specs.declared.value.Name.{Name}
use Rattle.np_syntax.specs.declared.process.ProcForm.{ProcForm-F}
use Rattle.np_syntax.specs.declared.process.Role.TheVariants as role
use Rattle.np_syntax.specs.declared.event.Event.{Event}
use Rattle.np_syntax.specs.declared.event.Kind.{Kind}
use Rattle.np_syntax.specs.declared.event.Kind.TheVariants as kind
use Rattle.np_syntax.specs.declared.event.Made.{Made}
use Rattle.np_syntax.specs.declared.event.Made.TheVariants as made
use Rattle.np_calculus.specs.declared.config.Atom.{Atom}
use Rattle.np_calculus.specs.declared.config.Packet.{Packet}
use Rattle.np_calculus.specs.Config.{Config}
use Rattle.np_eval.specs.Eval.{Env, agent_of}
use Rattle.np_eval.specs.Forms.{Layer}
use Rattle.np_calculus.specs.Seen.{is_at}

-- the kind of event that an atom of each form begins; an output only waits
abbrev pub begun_by : Layer → Option Kind
begun_by ProcForm-F.Stop = Some kind.Stop
begun_by (ProcForm-F.Par left right) = Some kind.Fork
begun_by (ProcForm-F.New x ty body) = Some kind.New
begun_by (ProcForm-F.Out x e) = None
begun_by (ProcForm-F.Inp x pat body) = Some kind.Comm
begun_by (ProcForm-F.Rep x pat body) = Some kind.Rep
begun_by (ProcForm-F.Agent b body rest) = Some kind.Agent
begun_by (ProcForm-F.Migrate s body) = Some kind.Depart
begun_by (ProcForm-F.IfLocal b x e met unmet) = Some kind.Local
begun_by (ProcForm-F.Send b s x e) = Some kind.Send
begun_by (ProcForm-F.Post b x e) = Some kind.Post
begun_by (ProcForm-F.If e met unmet) = Some kind.If
begun_by (ProcForm-F.Let pat e body) = Some kind.Let
begun_by (ProcForm-F.Print e) = Some kind.Print
begun_by (ProcForm-F.Open e) = Some kind.Open
begun_by (ProcForm-F.Lookup a m x met unmet) = Some kind.Lookup

-- two names that are not born yet
pub record AreNew (c : Config) (first second : Name) : Type 0 where
  pub first_new : set.contains c.born first ≡ false
  pub second_new : set.contains c.born second ≡ false
  pub apart : first ≡ second → ⊥

-- a location test makes a name where it finds its agent
abbrev pub made_there : Config → ℕ → Option Name → Name → Made
made_there c site None first = made.Nothing
made_there c site (Some agent) first = cond (is_at c agent site) (made.One first) made.Nothing

-- what an atom of each form makes at a site, where these are the next names
abbrev pub made_by : Config → ℕ → Env → Layer → Name → Name → Made
made_by c site env (ProcForm-F.Par left right) first second = made.One first
made_by c site env (ProcForm-F.New x ty body) first second = made.One first
made_by c site env (ProcForm-F.Agent b body rest) first second = made.Two first second
made_by c site env (ProcForm-F.IfLocal b x e met unmet) first second = made_there c site (agent_of b env) first
made_by c site env _ first second = made.Nothing

-- the event of an agent that arrives, and the one of a packet that lands, with the packet's tag
abbrev pub arrival : Name → ℕ → Event
arrival agent site =
    record {
      site = site;
      kind = kind.Arrive;
      actor = agent;
      other = None;
      tag = record { node = 0; role = role.Plain };
      made = made.Nothing;
    }

abbrev pub landing : Name → Packet → Event
landing mark p = record { site = p.to; kind = kind.Land; actor = mark; other = None; tag = p.tag; made = made.Nothing }

-- the event that an atom begins, with its tag
abbrev pub event_at : Kind → ℕ → Name → Option Name → Atom → Made → Event
event_at k site actor other a made = record { site = site; kind = k; actor = actor; other = other; tag = a.proc.tag; made = made }

-- an event makes no name, the first of these, or both
abbrev pub MakesAtMost : Made → Name → Name → Type 0
MakesAtMost made.Nothing first second = Unit {0}
MakesAtMost (made.One m) first second = m ≡ first
MakesAtMost (made.Two m n) first second = (m ≡ first) × (n ≡ second)
