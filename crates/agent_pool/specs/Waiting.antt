-- Who waits on a channel in an agent.
use Rattle.std.specs.Prelude.{◌≡◌, Bool, false, List, Option, None, Some}
use Rattle.std.specs.FinMap as map
use Rattle.np_syntax.specs.declared.value.Name.{Name}
use Rattle.np_syntax.specs.declared.process.Proc.{Proc}
use Rattle.np_tables.specs.Names.{NameMap}
use Rattle.agent_index.specs.declared.wait.Wait.{Wait}
use Rattle.agent_index.specs.declared.wait.Wait.TheVariants as wait
use Rattle.agent_index.specs.InStep.{one}
use Rattle.agent_index.specs.Lines.{Waiting, times, same_line, is_bare}
use Rattle.agent_index.specs.Shelves.{Kept}
use Rattle.agent_pool.specs.declared.held.Held.{Held}
use Rattle.agent_pool.specs.Held.{wait_of}

-- by the code, the atom of a mark is an output or an input that waits so
abbrev pub waits_so : List Proc → Option (Kept Held) → Wait → Bool
waits_so ts None f = false
waits_so ts (Some kept) f = same_line (wait_of ts kept.1) f

-- each mark stands as often among the inputs as the agent has an input of that mark, plain or replicated, that waits on the
-- channel, and so do the outputs; and someone waits
pub record WaitOn (ts : List Proc) (atoms : NameMap (Kept Held)) (chan : Name) (w : Waiting) : Type 0 where
  pub inputs : (q : Name) → times q w.inputs ≡ one (waits_so ts (map.get atoms q) (wait.Takes chan))
  pub outputs : (q : Name) → times q w.outputs ≡ one (waits_so ts (map.get atoms q) (wait.Gives chan))
  pub some : is_bare w ≡ false

-- no input and no output waits on the channel
pub record NoneWaitsOn (ts : List Proc) (atoms : NameMap (Kept Held)) (chan : Name) : Type 0 where
  pub inputs : (q : Name) → waits_so ts (map.get atoms q) (wait.Takes chan) ≡ false
  pub outputs : (q : Name) → waits_so ts (map.get atoms q) (wait.Gives chan) ≡ false
