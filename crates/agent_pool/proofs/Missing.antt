-- A row that is met has an acting atom of its kind's form.
use Rattle.std.proofs.Common.{◌≡◌, ℕ, Bool, List, None, IsSome, refl, ap, ◌∙◌}
use Rattle.np_syntax.specs.declared.types.Ty.{Ty}
use Rattle.np_syntax.specs.declared.event.Made.{Made}
use Rattle.np_syntax.proofs.Options.{none_there}
use Rattle.np_calculus.proofs.Common.{Expr, Pat, Proc, Kind, ◌>>=◌, act}
use Rattle.np_eval.specs.Eval.{Env}
use Rattle.np_eval.specs.FormParts.{as_par, as_new, as_inp, as_rep, as_agent_form, as_migrate, as_iflocal, as_send, as_if, as_let, as_print, as_open, as_lookup}
use Rattle.np_calculus.proofs.Rows.{asked, by}
use Rattle.np_code.specs.declared.node.Node.{Node}
use Rattle.np_code.specs.declared.node.NodeForm.{NodeForm}
use Rattle.np_code.specs.declared.node.NodeForm.TheVariants as node
use Rattle.np_code.specs.Programs.{ProgramTable}
use Rattle.np_code.specs.Trees.{layer_of}
use Rattle.agent_pool.specs.declared.ready.Ready.{Ready}
use Rattle.agent_pool.specs.Pools.{Pool}
use Rattle.np_calculus.specs.Rows.{change_in}
use Rattle.agent_pool.specs.Rows.{own_sight, event_of, ActsAs}
use Rattle.agent_pool.proofs.Acting.{acted, row-met}

-- an acting atom of another form
pub no-form : {code : ProgramTable} {p : Pool} {r : Ready} {n : Node} {env : Env} (acts : ActsAs code p r n env) (k : Kind) (here : Bool)
    (made : Made)
    → (asked k).parts (layer_of code.processes n.form) ≡ None → IsSome (change_in k (own_sight code p here) (event_of 0 r made)) → ⊥
no-form {code} {p} {r} {n} {env} acts k here made none met =
    none_there (acted acts k here made n.form 0) (row-met acts k here made n.form refl met)
    (by k (layer_of code.processes n.form) _ _ _ ∙ ap (λ o. o >>=
    λ q. act k ((asked k).form q) (own_sight code p here) (event_of 0 r made) (record { agent = p.name; proc = acts.proc; env = env })) none)

pub par-missing : (ts : List Proc) (f : NodeForm) → ((a : ℕ) (b : ℕ) → f ≡ node.Par a b → ⊥) → as_par (layer_of ts f) ≡ None
par-missing ts (node.Par a b) differs = absurd (differs a b refl)
par-missing ts _ differs = refl

pub new-missing : (ts : List Proc) (f : NodeForm) → ((a : ℕ) (b : Ty) (c : ℕ) → f ≡ node.New a b c → ⊥) → as_new (layer_of ts f) ≡ None
new-missing ts (node.New a b c) differs = absurd (differs a b c refl)
new-missing ts _ differs = refl

pub let-missing : (ts : List Proc) (f : NodeForm) → ((a : Pat) (b : Expr) (c : ℕ) → f ≡ node.Let a b c → ⊥) → as_let (layer_of ts f) ≡ None
let-missing ts (node.Let a b c) differs = absurd (differs a b c refl)
let-missing ts _ differs = refl

pub if-missing : (ts : List Proc) (f : NodeForm) → ((a : Expr) (b : ℕ) (c : ℕ) → f ≡ node.If a b c → ⊥) → as_if (layer_of ts f) ≡ None
if-missing ts (node.If a b c) differs = absurd (differs a b c refl)
if-missing ts _ differs = refl

pub print-missing : (ts : List Proc) (f : NodeForm) → ((a : Expr) → f ≡ node.Print a → ⊥) → as_print (layer_of ts f) ≡ None
print-missing ts (node.Print a) differs = absurd (differs a refl)
print-missing ts _ differs = refl

pub inp-missing : (ts : List Proc) (f : NodeForm) → ((a : Expr) (b : Pat) (c : ℕ) → f ≡ node.Inp a b c → ⊥) → as_inp (layer_of ts f) ≡ None
inp-missing ts (node.Inp a b c) differs = absurd (differs a b c refl)
inp-missing ts _ differs = refl

pub rep-missing : (ts : List Proc) (f : NodeForm) → ((a : Expr) (b : Pat) (c : ℕ) → f ≡ node.Rep a b c → ⊥) → as_rep (layer_of ts f) ≡ None
rep-missing ts (node.Rep a b c) differs = absurd (differs a b c refl)
rep-missing ts _ differs = refl

pub open-missing : (ts : List Proc) (f : NodeForm) → ((a : Expr) → f ≡ node.Open a → ⊥) → as_open (layer_of ts f) ≡ None
open-missing ts (node.Open a) differs = absurd (differs a refl)
open-missing ts _ differs = refl

pub lookup-missing : (ts : List Proc) (f : NodeForm) → ((a : Expr) (b : Expr) (c : ℕ) (d : ℕ) (e : ℕ) → f ≡ node.Lookup a b c d e → ⊥) → as_lookup (layer_of ts f) ≡ None
lookup-missing ts (node.Lookup a b c d e) differs = absurd (differs a b c d e refl)
lookup-missing ts _ differs = refl

pub migrate-missing : (ts : List Proc) (f : NodeForm) → ((a : Expr) (b : ℕ) → f ≡ node.Migrate a b → ⊥) → as_migrate (layer_of ts f) ≡ None
migrate-missing ts (node.Migrate a b) differs = absurd (differs a b refl)
migrate-missing ts _ differs = refl

pub send-missing : (ts : List Proc) (f : NodeForm) → ((a : Expr) (b : Expr) (c : Expr) (d : Expr) → f ≡ node.Send a b c d → ⊥) → as_send (layer_of ts f) ≡ None
send-missing ts (node.Send a b c d) differs = absurd (differs a b c d refl)
send-missing ts _ differs = refl

pub iflocal-missing : (ts : List Proc) (f : NodeForm) → ((a : Expr) (b : Expr) (c : Expr) (d : ℕ) (e : ℕ) → f ≡ node.IfLocal a b c d e → ⊥) → as_iflocal (layer_of ts f) ≡ None
iflocal-missing ts (node.IfLocal a b c d e) differs = absurd (differs a b c d e refl)
iflocal-missing ts _ differs = refl

pub agent-missing : (ts : List Proc) (f : NodeForm) → ((a : ℕ) (b : ℕ) (c : ℕ) → f ≡ node.Agent a b c → ⊥) → as_agent_form (layer_of ts f) ≡ None
agent-missing ts (node.Agent a b c) differs = absurd (differs a b c refl)
agent-missing ts _ differs = refl
