-- The atoms of an agent as the calculus sees them, and what each waits for (docs/LANGUAGE.md, "Configurations").
use Rattle.std.specs.Prelude.{◌≡◌, List, Option, None, Some}
use Rattle.std.specs.FinMap as map
use Rattle.np_syntax.specs.declared.value.Name.{Name}
use Rattle.np_syntax.specs.declared.expression.Expr.{Expr}
use Rattle.np_syntax.specs.declared.process.Proc.{Proc}
use Rattle.np_syntax.specs.declared.process.ProcForm.{ProcForm-F}
use Rattle.np_eval.specs.Eval.{Env, chan_of}
use Rattle.np_eval.specs.Forms.{Layer, layer}
use Rattle.np_calculus.specs.declared.config.Atom.{Atom}
use Rattle.np_calculus.specs.Reductions.{output}
use Rattle.np_code.specs.declared.node.Node.{Node}
use Rattle.np_code.specs.Trees.{nth, layer_of}
use Rattle.agent_index.specs.declared.wait.Wait.{Wait}
use Rattle.agent_index.specs.declared.wait.Wait.TheVariants as wait
use Rattle.agent_pool.specs.declared.held.Held.{Held}
use Rattle.agent_pool.specs.declared.held.Held.TheVariants as held

-- the process, where those of the code's nodes stand in a list
abbrev pub proc_of : List Proc → Held → Proc
proc_of ts (held.Node id env) = nth ts id
proc_of ts (held.Given chan value tag) = output chan value tag

abbrev pub env_of : Held → Env
env_of (held.Node id env) = env
env_of (held.Given chan value tag) = map.empty

-- the atom of an agent
abbrev pub atom_of : List Proc → Name → Held → Atom
atom_of ts agent h = record { agent = agent; proc = proc_of ts h; env = env_of h }

abbrev pub gives : Option Name → Wait
gives (Some chan) = wait.Gives chan
gives None = wait.Stuck

abbrev pub takes : Option Name → Wait
takes (Some chan) = wait.Takes chan
takes None = wait.Stuck

-- an output and an input wait on their channel, and every other form acts alone
abbrev pub wait_at : Env → Layer → Wait
wait_at env (ProcForm-F.Out c e) = gives (chan_of c env)
wait_at env (ProcForm-F.Inp c x body) = takes (chan_of c env)
wait_at env (ProcForm-F.Rep c x body) = takes (chan_of c env)
wait_at env _ = wait.Acts

abbrev pub wait_of : List Proc → Held → Wait
wait_of ts h = wait_at (env_of h) (layer (proc_of ts h))

-- an output
pub record IsOutput (l : Layer) : Type 0 where
  pub chan : Expr
  pub value : Expr
  pub is : l ≡ ProcForm-F.Out chan value

-- the atom is this node under this environment
pub record IsNode (ts : List Proc) (h : Held) (n : Node) (frame : Env) : Type 0 where
  pub layer : layer (proc_of ts h) ≡ layer_of ts n.form
  pub tag : (proc_of ts h).tag ≡ n.tag
  pub env : env_of h ≡ frame
