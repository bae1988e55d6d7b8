-- The agents that values, expressions and processes name (docs/LANGUAGE.md, "Reductions").
use Rattle.std.specs.Prelude.{◌≡◌, ◌⊎◌, ℕ, List, [], ◌∷◌, ◌++◌, Some, IsSome}
use Rattle.std.specs.FinMap as map
use Rattle.np_syntax.specs.declared.value.Name.{Name}
use Rattle.np_syntax.specs.declared.value.Value.{Value, Value-F, fold-Value}
use Rattle.np_syntax.specs.declared.expression.Expr.{Expr, fold-Expr}
use Rattle.np_syntax.specs.declared.expression.ExprForm.{ExprForm-F}
use Rattle.np_syntax.specs.declared.process.Proc.{Proc, fold-Proc}
use Rattle.np_syntax.specs.declared.process.ProcForm.{ProcForm-F}
use Rattle.np_syntax.specs.declared.event.Event.{Event}
use Rattle.np_tables.specs.Names.{NameMap}
use Rattle.np_calculus.specs.declared.config.Atom.{Atom}
use Rattle.np_calculus.specs.declared.config.Packet.{Packet}
use Rattle.np_calculus.specs.declared.config.Place.{Place}
use Rattle.np_calculus.specs.Config.{Config}
use Rattle.np_calculus.specs.Parts.{IsLodged}
use Rattle.np_calculus.specs.Reductions.{run}
use Rattle.np_calculus.specs.Sight.{inside}

abbrev pub Agents : Type 0
Agents = List Name

-- the lists joined in order
abbrev pub joined : List Agents → Agents
joined [] = []
joined (agents ∷ rest) = agents ++ joined rest

abbrev pub value_step : Value-F Agents → Agents
value_step (Value-F.Agent a) = a ∷ []
value_step (Value-F.Tuple parts) = joined parts
value_step (Value-F.Letter c inner) = inner
value_step _ = []

-- the agents in a value
unfoldable pub value_agents : Value → Agents
value_agents = fold-Value Agents value_step

abbrev pub expr_step : ExprForm-F Agents Agents → Agents
expr_step (ExprForm-F.Val v) = value_agents v
expr_step (ExprForm-F.Var x) = []
expr_step (ExprForm-F.Tuple parts) = joined parts
expr_step (ExprForm-F.Bin o a b) = a ++ b
expr_step (ExprForm-F.Pack c e) = c ++ e
expr_step (ExprForm-F.With m a l) = m ++ a ++ l

-- the agents in an expression
unfoldable pub expr_agents : Expr → Agents
expr_agents = fold-Expr Agents Agents expr_step (λ e. e.form)

abbrev pub proc_step : ProcForm-F Agents Agents → Agents
proc_step ProcForm-F.Stop = []
proc_step (ProcForm-F.Par left right) = left ++ right
proc_step (ProcForm-F.New x ty body) = body
proc_step (ProcForm-F.Out c e) = expr_agents c ++ expr_agents e
proc_step (ProcForm-F.Inp c x body) = expr_agents c ++ body
proc_step (ProcForm-F.Rep c x body) = expr_agents c ++ body
proc_step (ProcForm-F.Agent b body rest) = body ++ rest
proc_step (ProcForm-F.Migrate s body) = expr_agents s ++ body
proc_step (ProcForm-F.IfLocal b c e met unmet) = expr_agents b ++ expr_agents c ++ expr_agents e ++ met ++ unmet
proc_step (ProcForm-F.Send b s c e) = expr_agents b ++ expr_agents s ++ expr_agents c ++ expr_agents e
proc_step (ProcForm-F.Post b c e) = expr_agents b ++ expr_agents c ++ expr_agents e
proc_step (ProcForm-F.If e met unmet) = expr_agents e ++ met ++ unmet
proc_step (ProcForm-F.Let x e body) = expr_agents e ++ body
proc_step (ProcForm-F.Print e) = expr_agents e
proc_step (ProcForm-F.Open e) = expr_agents e
proc_step (ProcForm-F.Lookup a m x met unmet) = expr_agents a ++ expr_agents m ++ met ++ unmet

-- the agents in a process
unfoldable pub proc_agents : Proc → Agents
proc_agents = fold-Proc Agents Agents proc_step (λ p. p.form)

-- an agent is in the list
abbrev pub IsIn : Name → Agents → Type 0
IsIn a [] = ⊥
IsIn a (b ∷ bs) = (a ≡ b) ⊎ IsIn a bs

-- this holds of each agent in the list
pub record Each (P : Name → Type 0) (agents : Agents) : Type 0 where
  pub each : (a : Name) → IsIn a agents → P a

-- this holds of the atom's agent, and of each agent that its process or a value of its environment names
pub record OfAtom (P : Name → Type 0) (a : Atom) : Type 0 where
  pub agent : P a.agent
  pub proc : Each P (proc_agents a.proc)
  pub env : (x : ℕ) (v : Value) → map.get a.env x ≡ Some v → Each P (value_agents v)

-- the agent has a place
abbrev pub HasPlace : NameMap Place → Name → Type 0
HasPlace places agent = IsSome (map.get places agent)

-- the agent of each atom has a place, and so does each agent that an atom's process, a value of its environment or a packet's value names
pub record Housed (c : Config) : Type 0 where
  pub atoms : (m : Name) (a : Atom) → map.get c.atoms m ≡ Some a → OfAtom (HasPlace c.places) a
  pub packets : (m : Name) (p : Packet) → map.get c.packets m ≡ Some p → Each (HasPlace c.places) (value_agents p.value)

-- along each run from such a configuration the agent of each atom has a place
abbrev pub StaysLodged : Type 0
StaysLodged = (c : Config) → Housed c → (events : List Event) (d : Config) → run c events ≡ Some d → IsLodged (inside d)
