-- When an agent is idle (docs/LANGUAGE.md, "Reductions").
use Rattle.std.specs.Prelude.{◌≡◌, Bool, false, List, Option, None, Some}
use Rattle.std.specs.FinMap as map
use Rattle.np_syntax.specs.declared.value.Name.{Name}
use Rattle.np_syntax.specs.declared.process.Proc.{Proc}
use Rattle.np_tables.specs.Names.{NameMap, same_name}
use Rattle.agent_index.specs.declared.wait.Wait.{Wait}
use Rattle.agent_index.specs.declared.wait.Wait.TheVariants as wait
use Rattle.agent_index.specs.Shelves.{Kept}
use Rattle.agent_pool.specs.declared.held.Held.{Held}
use Rattle.agent_pool.specs.Held.{wait_of}

-- what an atom waits for by the code, if there is one
abbrev pub waits_in : List Proc → Option (Kept Held) → Option Wait
waits_in ts None = None
waits_in ts (Some kept) = Some (wait_of ts kept.1)

abbrev pub is_output : Option Wait → Name → Bool
is_output (Some (wait.Gives on)) chan = same_name on chan
is_output _ chan = false

-- no output of the agent is on the channel
pub record NoOutputBy (ts : List Proc) (atoms : NameMap (Kept Held)) (chan : Name) : Type 0 where
  pub each : (q : Name) → is_output (waits_in ts (map.get atoms q)) chan ≡ false

-- what waits is no process that acts alone, and if it is an input no output is on its channel
abbrev pub Stays : List Proc → NameMap (Kept Held) → Option Wait → Type 0
Stays ts atoms (Some wait.Acts) = ⊥
Stays ts atoms (Some (wait.Takes chan)) = NoOutputBy ts atoms chan
Stays ts atoms _ = Unit {0}

abbrev pub IsStill : List Proc → NameMap (Kept Held) → Name → Type 0
IsStill ts atoms mark = Stays ts atoms (waits_in ts (map.get atoms mark))

-- each atom is an output or an input, plain or replicated, and no output and input are on one channel
pub record IsIdle (ts : List Proc) (atoms : NameMap (Kept Held)) : Type 0 where
  pub each : (q : Name) → IsStill ts atoms q
