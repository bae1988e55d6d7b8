-- The steps of each form, behind its first token.
use Rattle.std.specs.Prelude.{ℕ, List}
use Rattle.np_lex.specs.declared.token.Key.TheVariants as key
use Rattle.np_lex.specs.declared.token.Sign.TheVariants as sign
use Rattle.np_tree.specs.declared.tree.Ident.{Ident}
use Rattle.np_tree.specs.declared.tree.RawExpr.{RawExpr}
use Rattle.np_tree.specs.declared.tree.RawProcForm.{RawProcForm}
use Rattle.np_tree.specs.declared.tree.RawProcForm as form
use Rattle.np_parse.specs.declared.head.Single.{Single}
use Rattle.np_parse.specs.declared.head.SingleForm.TheVariants as single
use Rattle.np_parse.specs.declared.head.Double.{Double}
use Rattle.np_parse.specs.declared.head.DoubleForm.TheVariants as double
use Rattle.np_parse.proofs.FormSteps.{Kind, Steps}

-- ---- forms without processes

abbrev pub print_steps : Steps RawProcForm
print_steps = Steps.step Kind.expr (λ x. Steps.done (form.Print x))

abbrev pub output_steps : Ident → Steps RawProcForm
output_steps channel = Steps.step Kind.expr (λ x. Steps.done (form.Out channel x))

abbrev pub address_steps : Steps RawExpr
address_steps = Steps.step Kind.atom (λ x. Steps.step (Kind.sign sign.At) (λ _. Steps.done x))

abbrev pub post_steps : RawExpr → Steps RawProcForm
post_steps agent = Steps.step (Kind.sign sign.Greater) (λ _. Steps.step Kind.message (λ x. Steps.done (form.Post agent x.0 x.1)))

abbrev pub send_steps : RawExpr → Steps RawProcForm
send_steps agent = Steps.step Kind.atom (λ y. Steps.step (Kind.sign sign.Greater) (λ _. Steps.step Kind.message (λ x. Steps.done (form.Send agent y x.0 x.1))))

-- ---- before one process

abbrev pub new_steps : ℕ → Steps Single
new_steps at = Steps.step Kind.name (λ x. Steps.step (Kind.sign sign.Colon) (λ _. Steps.step Kind.chan (λ t.
    Steps.step (Kind.word key.In) (λ _. Steps.done (record { at = at; form = single.New x t })))))

abbrev pub input_steps : Ident → Steps Single
input_steps channel = Steps.step Kind.pat (λ q. Steps.step (Kind.sign sign.Arrow) (λ _. Steps.done (record { at = channel.at; form = single.Inp channel q })))

abbrev pub replicated_steps : ℕ → Steps Single
replicated_steps at = Steps.step Kind.name (λ x. Steps.step (Kind.sign sign.Query) (λ _. Steps.step Kind.pat (λ q.
    Steps.step (Kind.sign sign.Arrow) (λ _. Steps.done (record { at = at; form = single.Rep x q })))))

abbrev pub migrate_steps : ℕ → Steps Single
migrate_steps at = Steps.step (Kind.word key.To) (λ _. Steps.step Kind.expr (λ x. Steps.step (Kind.sign sign.Arrow) (λ _. Steps.done (record { at = at; form = single.Migrate x }))))

abbrev pub let_steps : ℕ → Steps Single
let_steps at = Steps.step Kind.pat (λ q. Steps.step (Kind.sign sign.Equals) (λ _. Steps.step Kind.expr (λ x.
    Steps.step (Kind.word key.In) (λ _. Steps.done (record { at = at; form = single.Let q x })))))

-- ---- before the first of two processes

abbrev pub agent_steps : ℕ → Steps Double
agent_steps at = Steps.step Kind.name (λ x. Steps.step (Kind.sign sign.Equals) (λ _. Steps.done (record { at = at; form = double.Agent x })))

abbrev pub iflocal_steps : ℕ → Steps Double
iflocal_steps at = Steps.step (Kind.sign sign.Less) (λ _. Steps.step Kind.atom (λ x. Steps.step (Kind.sign sign.Greater) (λ _. Steps.step Kind.message (λ z.
    Steps.step (Kind.word key.Then) (λ _. Steps.done (record { at = at; form = double.IfLocal x z.0 z.1 }))))))

abbrev pub if_steps : ℕ → Steps Double
if_steps at = Steps.step Kind.expr (λ x. Steps.step (Kind.word key.Then) (λ _. Steps.done (record { at = at; form = double.If x })))

-- ---- before a program's process, around its sites

abbrev pub site_steps : Steps Ident
site_steps = Steps.step (Kind.word key.Sites) (λ _. Steps.step Kind.name (λ x. Steps.done x))

abbrev pub main_steps : List Ident → Steps (List Ident × Ident)
main_steps found = Steps.step (Kind.word key.Main) (λ _. Steps.step (Kind.word key.At) (λ _. Steps.step Kind.name (λ x.
    Steps.step (Kind.sign sign.Equals) (λ _. Steps.done (found, x)))))
