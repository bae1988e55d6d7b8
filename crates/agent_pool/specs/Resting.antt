-- What an index tells of whether its agent is idle.
use Rattle.std.specs.Prelude.{◌≡◌, List, Some}
use Rattle.std.specs.FinMap as map
use Rattle.np_syntax.specs.declared.value.Name.{Name}
use Rattle.np_syntax.specs.declared.process.Proc.{Proc}
use Rattle.np_tables.specs.Names.{NameMap}
use Rattle.agent_index.specs.declared.wait.Wait.TheVariants as wait
use Rattle.agent_index.specs.Shelves.{Kept}
use Rattle.agent_pool.specs.declared.held.Held.{Held}
use Rattle.agent_pool.specs.declared.resting.Rest.{Rest}
use Rattle.agent_pool.specs.declared.resting.Rest.TheVariants as rest
use Rattle.agent_pool.specs.Calm.{NoOutput}
use Rattle.agent_pool.specs.Held.{wait_of}
use Rattle.agent_pool.specs.Idle.{NoOutputBy, IsIdle}

-- an atom is filed under what it waits for, it does not act alone, and if it is an input no output is filed under its channel
pub record IsSettled (ts : List Proc) (atoms : NameMap (Kept Held)) (kept : Kept Held) : Type 0 where
  pub filed : kept.0 ≡ wait_of ts kept.1
  pub waits : kept.0 ≡ wait.Acts → ⊥
  pub takes : (chan : Name) → kept.0 ≡ wait.Takes chan → NoOutput atoms chan

abbrev pub SettledAt : List Proc → NameMap (Kept Held) → Name → Type 0
SettledAt ts atoms mark = (kept : Kept Held) → map.get atoms mark ≡ Some kept → IsSettled ts atoms kept

-- what is told of the atom of a mark holds
abbrev pub Tells : List Proc → NameMap (Kept Held) → Name → Rest → Type 0
Tells ts atoms mark rest.Settled = SettledAt ts atoms mark
Tells ts atoms mark rest.Busy = IsIdle ts atoms → ⊥
Tells ts atoms mark rest.Unknown = Unit {0}

-- what is told of an input on a channel holds
abbrev pub TellsOn : List Proc → NameMap (Kept Held) → Name → Rest → Type 0
TellsOn ts atoms chan rest.Settled = NoOutput atoms chan
TellsOn ts atoms chan rest.Busy = NoOutputBy ts atoms chan → ⊥
TellsOn ts atoms chan rest.Unknown = Unit {0}
