-- How processes without processes in them are read, and what stands before the processes of the others (docs/LANGUAGE.md,
-- "Grammar" and "Depth"). The limit is how deep each expression, pattern and type may be, and `below` is how deep the processes
-- inside may be: where no process may be inside, the token that decides that there is one is too deep.
use Rattle.std.specs.Prelude.{ℕ, zero, ℤ, pos, nat_le, if◌then◌else◌}
use Rattle.np_lex.specs.declared.token.Key.TheVariants as key
use Rattle.np_lex.specs.declared.token.Sign.TheVariants as sign
use Rattle.np_lex.specs.declared.token.What.{What}
use Rattle.np_lex.specs.declared.token.What.TheVariants as what
use Rattle.np_tree.specs.declared.tree.Ident.{Ident}
use Rattle.np_tree.specs.declared.tree.RawExpr.{RawExpr}
use Rattle.np_tree.specs.declared.tree.RawProc.{RawProc}
use Rattle.np_tree.specs.declared.tree.RawProcForm.{RawProcForm}
use Rattle.np_tree.specs.declared.tree.RawProcForm as form
use Rattle.np_tree.specs.Grammar.{process}
use Rattle.np_parse.specs.declared.head.Single.{Single}
use Rattle.np_parse.specs.declared.head.SingleForm.{SingleForm}
use Rattle.np_parse.specs.declared.head.SingleForm.TheVariants as single
use Rattle.np_parse.specs.declared.head.Double.{Double}
use Rattle.np_parse.specs.declared.head.DoubleForm.{DoubleForm}
use Rattle.np_parse.specs.declared.head.DoubleForm.TheVariants as double
use Rattle.np_parse.specs.Input.{Parser, ◌>>=◌, ◌>>◌, pure, refuse, refuse_deep, peek, take, name, expect_sign, expect_word}
use Rattle.np_parse.specs.Read.Tuples.{Sized}
use Rattle.np_parse.specs.Read.Types.{chan}
use Rattle.np_parse.specs.Read.Patterns.{pat}
use Rattle.np_parse.specs.Read.Expressions.{atom, expr}

abbrev pub ReadProc : Type 0
ReadProc = Sized RawProc

-- a process without processes in it
abbrev pub whole : ℕ → RawProcForm → Parser ReadProc
whole at f = pure (process at f, 1)

abbrev pub stop_by : ℤ → Parser ReadProc
stop_by (pos zero) = take >>= (λ at. whole at form.Stop)
stop_by _ = refuse

unfoldable pub print : ℕ → Parser ReadProc
print limit = do
  at ← take
  x ← expr limit
  whole at (form.Print x.0)

-- behind the channel's name
unfoldable pub output : ℕ → Ident → Parser ReadProc
output limit channel = do
  take
  x ← expr limit
  whole channel.at (form.Out channel x.0)

-- the channel and the value of a message to an agent
unfoldable pub message : ℕ → Parser (Ident × RawExpr)
message limit = do
  channel ← name
  expect_sign sign.Bang
  x ← expr limit
  pure (channel, x.0)

-- behind `@`, to the agent wherever it is
unfoldable pub post : ℕ → ℕ → RawExpr → Parser ReadProc
post limit at agent = do
  take
  expect_sign sign.Greater
  m ← message limit
  whole at (form.Post agent m.0 m.1)

-- behind `@`, to the agent at a site
unfoldable pub send : ℕ → ℕ → RawExpr → Parser ReadProc
send limit at agent = do
  site ← atom limit
  expect_sign sign.Greater
  m ← message limit
  whole at (form.Send agent site.0 m.0 m.1)

abbrev pub directed_by : ℕ → ℕ → RawExpr → What → Parser ReadProc
directed_by limit at agent (what.Sign sign.Query) = post limit at agent
directed_by limit at agent _ = send limit at agent

-- a message to an agent, from `<` on
unfoldable pub directed : ℕ → Parser ReadProc
directed limit = do
  at ← take
  agent ← atom limit
  expect_sign sign.At
  peek >>= directed_by limit at agent.0

-- ---- before one process

abbrev pub single_form : SingleForm → RawProc → RawProcForm
single_form (single.New x t) p = form.New x t p
single_form (single.Inp x q) p = form.Inp x q p
single_form (single.Rep x q) p = form.Rep x q p
single_form (single.Migrate x) p = form.Migrate x p
single_form (single.Let q x) p = form.Let q x p

abbrev pub before_one : ℕ → SingleForm → Parser Single
before_one at f = pure (record { at = at; form = f })

-- from `new` to `in`
unfoldable pub new_head : ℕ → ℕ → Parser Single
new_head limit below = if nat_le below 0 then refuse_deep else (do
  at ← take
  x ← name
  expect_sign sign.Colon
  t ← chan limit
  expect_word key.In
  before_one at (single.New x t.0))

-- behind the channel's name, from `?` to `->`
unfoldable pub input_head : ℕ → ℕ → Ident → Parser Single
input_head limit below channel = if nat_le below 0 then refuse_deep else (do
  take
  q ← pat limit
  expect_sign sign.Arrow
  before_one channel.at (single.Inp channel q.0))

-- from `*` to `->`
unfoldable pub replicated_head : ℕ → ℕ → Parser Single
replicated_head limit below = if nat_le below 0 then refuse_deep else (do
  at ← take
  channel ← name
  expect_sign sign.Query
  q ← pat limit
  expect_sign sign.Arrow
  before_one at (single.Rep channel q.0))

-- from `migrate` to `->`
unfoldable pub migrate_head : ℕ → ℕ → Parser Single
migrate_head limit below = if nat_le below 0 then refuse_deep else (do
  at ← take
  expect_word key.To
  x ← expr limit
  expect_sign sign.Arrow
  before_one at (single.Migrate x.0))

-- from `let` to `in`
unfoldable pub let_head : ℕ → ℕ → Parser Single
let_head limit below = if nat_le below 0 then refuse_deep else (do
  at ← take
  q ← pat limit
  expect_sign sign.Equals
  x ← expr limit
  expect_word key.In
  before_one at (single.Let q.0 x.0))

-- ---- before the first of two processes

abbrev pub double_form : DoubleForm → RawProc → RawProc → RawProcForm
double_form (double.Agent x) p q = form.Agent x p q
double_form (double.IfLocal x channel z) p q = form.IfLocal x channel z p q
double_form (double.If x) p q = form.If x p q

-- what stands between the two
abbrev pub between : DoubleForm → Parser ℕ
between (double.Agent x) = expect_word key.In
between (double.IfLocal x channel z) = expect_word key.Else
between (double.If x) = expect_word key.Else

abbrev pub before_two : ℕ → DoubleForm → Parser Double
before_two at f = pure (record { at = at; form = f })

-- from `agent` to `=`
unfoldable pub agent_head : ℕ → Parser Double
agent_head below = if nat_le below 0 then refuse_deep else (do
  at ← take
  x ← name
  expect_sign sign.Equals
  before_two at (double.Agent x))

-- from `iflocal` to `then`
unfoldable pub iflocal_head : ℕ → ℕ → Parser Double
iflocal_head limit below = if nat_le below 0 then refuse_deep else (do
  at ← take
  expect_sign sign.Less
  agent ← atom limit
  expect_sign sign.Greater
  m ← message limit
  expect_word key.Then
  before_two at (double.IfLocal agent.0 m.0 m.1))

-- from `if` to `then`
unfoldable pub if_head : ℕ → ℕ → Parser Double
if_head limit below = if nat_le below 0 then refuse_deep else (do
  at ← take
  x ← expr limit
  expect_word key.Then
  before_two at (double.If x.0))
