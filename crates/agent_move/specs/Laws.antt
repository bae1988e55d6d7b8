-- What the laws of loads say.
use Rattle.std.specs.Prelude.{ℕ, List, ◌⊎◌, IsSome}
use Rattle.np_syntax.specs.declared.value.Name.{Name}
use Rattle.np_syntax.specs.declared.process.Proc.{Proc}
use Rattle.np_calculus.specs.Sight.{Contents}
use Rattle.np_site_runs.specs.merged.Steps.{IsItem}
use Rattle.agent_move.specs.declared.load.Load.{Load}
use Rattle.agent_move.specs.Items.{contents_of}

-- an agent or a packet is there
abbrev pub IsSomething : Contents → Type 0
IsSomething x = (q : Name) × (IsSome (x.place q) ⊎ IsSome (x.packet q))

abbrev pub LoadsAreItems : Type 0
LoadsAreItems = (ts : List Proc) (l : Load) (to : ℕ) → IsItem (contents_of ts l to)

abbrev pub LoadsAreSomething : Type 0
LoadsAreSomething = (ts : List Proc) (l : Load) (to : ℕ) → IsSomething (contents_of ts l to)
