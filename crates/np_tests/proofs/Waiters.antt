-- What an agent can do meets its row, and an agent of a composition is filed.
use Rattle.std.proofs.Common.{◌≡◌, ℕ, false, List, IsSome, Result, Ok, Err, IfOk, subst, ap}
use Rattle.np_syntax.specs.declared.memory.Memory.{Memory}
use Rattle.np_syntax.specs.declared.value.Name.{Name}
use Rattle.np_syntax.specs.declared.event.Kind.{Kind}
use Rattle.np_syntax.specs.declared.process.Proc.{Proc}
use Rattle.np_calculus.specs.Rows.{change_in, made_of}
use Rattle.np_code.specs.Programs.{ProgramTable}
use Rattle.np_code.specs.Trees.{layer_of, nth}
use Rattle.np_code.specs.declared.node.NodeForm.TheVariants as node
use Rattle.np_eval.specs.Eval.{Env}
use Rattle.np_eval.specs.Forms.{layer}
use Rattle.agent_index.specs.declared.wait.Wait.TheVariants as wait
use Rattle.agent_pool.specs.Held.{wait_at, wait_of}
use Rattle.agent_pool.specs.Pools.{IsFiled, Pool, atoms_of}
use Rattle.agent_pool.specs.Readies.{IsReady}
use Rattle.agent_pool.specs.Rows.{event_of, own_sight}
use Rattle.agent_pool.specs.declared.held.Held.TheVariants as held
use Rattle.agent_pool.specs.declared.ready.Ready.{Ready}

pub met : (k : Kind) (code : ProgramTable) (p : Pool) (r : Ready) (mark : Name) → r.kind ≡ k → IsReady code (atoms_of code.processes p) r
    → IsSome (change_in k (own_sight code p false) (event_of 0 r (made_of k false mark mark)))
met k code p r mark is ready = subst (λ (j : Kind). IsSome (change_in j (own_sight code p false) (event_of 0 r (made_of j false mark mark)))) is (ready false mark mark)

pub acts : (ts : List Proc) (id left right : ℕ) (env : Env) → layer (nth ts id) ≡ layer_of ts (node.Par left right) → wait_of ts (held.Node id env) ≡ wait.Acts
acts ts id left right env is = ap (wait_at env) is

pub filed_by : (code : ProgramTable) (id : ℕ) (env : Env) (r : Result Pool Memory) → wait_of code.processes (held.Node id env) ≡ wait.Acts
    → IfOk r (λ agent. (code : ProgramTable) → wait_of code.processes (held.Node id env) ≡ wait.Acts → IsFiled code.processes agent.atoms)
    → IfOk r (λ agent. IsFiled code.processes agent.atoms)
filed_by code id env (Ok agent) is filed = filed code is
filed_by code id env (Err e) is filed = tt
