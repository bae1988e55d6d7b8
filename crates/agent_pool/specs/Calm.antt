-- Atoms that are filed right and can do nothing.
use Rattle.std.specs.Prelude.{◌≡◌, false, length, None, Some}
use Rattle.std.specs.FinMap as map
use Rattle.np_syntax.specs.declared.value.Name.{Name}
use Rattle.np_tables.specs.Names.{NameMap}
use Rattle.np_eval.specs.Forms.{layer}
use Rattle.np_code.specs.Programs.{ProgramTable}
use Rattle.agent_index.specs.declared.wait.Wait.TheVariants as wait
use Rattle.agent_index.specs.InStep.{is_under}
use Rattle.agent_index.specs.Shelves.{Kept}
use Rattle.agent_pool.specs.declared.held.Held.{Held}
use Rattle.agent_pool.specs.Held.{proc_of, env_of, wait_of}
use Rattle.agent_pool.specs.Readies.{begins}

-- no output is filed under the channel
pub record NoOutput (atoms : NameMap (Kept Held)) (chan : Name) : Type 0 where
  pub each : (q : Name) → is_under (map.get atoms q) (wait.Gives chan) ≡ false

-- the atom of a mark can do nothing alone, is filed under what it waits for, and if it is an input no output is filed under its channel
pub record IsCalm (code : ProgramTable) (atoms : NameMap (Kept Held)) (kept : Kept Held) : Type 0 where
  pub alone : begins (length code.sites) (env_of kept.1) (layer (proc_of code.processes kept.1)) ≡ None
  pub filed : kept.0 ≡ wait_of code.processes kept.1
  pub takes : (chan : Name) → kept.0 ≡ wait.Takes chan → NoOutput atoms chan

abbrev pub CalmAt : ProgramTable → NameMap (Kept Held) → Name → Type 0
CalmAt code atoms mark = (kept : Kept Held) → map.get atoms mark ≡ Some kept → IsCalm code atoms kept
