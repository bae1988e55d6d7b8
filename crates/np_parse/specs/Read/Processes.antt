-- How processes are read, from left to right (docs/LANGUAGE.md, "Grammar" and "Depth"). A number of levels is how deep a process
-- may be; the limit is how deep each expression, pattern and type in it may be.
use Rattle.std.specs.Prelude.{ℕ, zero, suc, ◌+◌, max, nat_le, Bool, true, false, if◌then◌else◌, Option, Some, None}
use Rattle.np_lex.specs.declared.token.Key.TheVariants as key
use Rattle.np_lex.specs.declared.token.Sign.TheVariants as sign
use Rattle.np_lex.specs.declared.token.What.{What}
use Rattle.np_lex.specs.declared.token.What.TheVariants as what
use Rattle.np_tree.specs.declared.tree.Ident.{Ident}
use Rattle.np_tree.specs.declared.tree.RawProcForm as form
use Rattle.np_tree.specs.Grammar.{process}
use Rattle.np_parse.specs.declared.head.Single.{Single}
use Rattle.np_parse.specs.declared.head.Double.{Double}
use Rattle.np_parse.specs.declared.head.DoubleForm.{DoubleForm}
use Rattle.np_parse.specs.Input.{Parser, ◌>>=◌, ◌>>◌, pure, refuse, refuse_deep, peek, take, name, expect_sign}
use Rattle.np_parse.specs.Read.Heads.{ReadProc, stop_by, print, output, directed, single_form, new_head, input_head, replicated_head}
use Rattle.np_parse.specs.Read.Heads.{migrate_head, let_head, double_form, between, agent_head, iflocal_head, if_head}

-- ---- forms with one process and with two

-- behind what stands before the process
unfoldable pub single : Parser ReadProc → Single → Parser ReadProc
single inner head = inner >>= (λ x. pure (process head.at (single_form head.form x.0), x.1 + 1))

-- the two processes of a form, with what stands between them
unfoldable pub two : Parser ReadProc → DoubleForm → Parser (ReadProc × ReadProc)
two inner form = do
  x ← inner
  between form
  y ← inner
  pure (x, y)

-- behind what stands before the first process
unfoldable pub double : Parser ReadProc → Double → Parser ReadProc
double inner head = do
  x ← inner
  between head.form
  y ← inner
  pure (process head.at (double_form head.form x.0 y.0), max x.1 y.1 + 1)

abbrev pub use_by : Parser ReadProc → ℕ → ℕ → Ident → What → Parser ReadProc
use_by inner limit below channel (what.Sign sign.Bang) = output limit channel
use_by inner limit below channel (what.Sign sign.Query) = input_head limit below channel >>= single inner
use_by inner limit below channel _ = refuse

-- an output or an input, from the channel's name on
unfoldable pub on_channel : Parser ReadProc → ℕ → ℕ → Parser ReadProc
on_channel inner limit below = name >>= (λ channel. peek >>= use_by inner limit below channel)

-- ---- brackets

abbrev pub both : ℕ → ReadProc → ReadProc → ReadProc
both at x y = (process at (form.Par x.0 y.0), max x.1 y.1 + 1)

abbrev pub ends : What → Bool
ends (what.Sign sign.RoundClose) = true
ends _ = false

abbrev pub divides : What → Bool
divides (what.Sign sign.Bar) = true
divides _ = false

abbrev pub more_by : (ReadProc → Parser ReadProc) → Parser ReadProc → ℕ → ℕ → ReadProc → What → Parser ReadProc
more_by again inner levels at left (what.Sign sign.RoundClose) = take >> pure left
more_by again inner levels at left (what.Sign sign.Bar) = if nat_le levels left.1 then refuse_deep
    else (do take; right ← inner; again (both at left right))
more_by again inner levels at left _ = refuse

-- the processes of a bracket from the third on, and the closing bracket; each takes a level
unfoldable pub more : Parser ReadProc → ℕ → ℕ → ℕ → ReadProc → Parser ReadProc
more inner levels at zero left = refuse_deep
more inner levels at (suc turns) left = peek >>= more_by (more inner levels at turns) inner levels at left

abbrev pub bar_by : ℕ → ℕ → What → Parser (Option ℕ)
bar_by levels depth (what.Sign sign.RoundClose) = take >> pure None
bar_by levels depth (what.Sign sign.Bar) = if nat_le levels depth then refuse_deep else (take >>= (λ at. pure (Some at)))
bar_by levels depth _ = refuse

-- takes the sign behind the processes so far of a bracket: a bar, with its offset, or the closing bracket
unfoldable pub bar : ℕ → ℕ → Parser (Option ℕ)
bar levels depth = peek >>= bar_by levels depth

-- behind the first bar of a bracket
abbrev pub others : Parser ReadProc → ℕ → ℕ → ReadProc → Parser ReadProc
others inner below at first = inner >>= (λ second. more inner (suc below) at (suc below) (both at first second))

unfoldable pub bracket : Parser ReadProc → ℕ → Parser ReadProc
bracket inner below = if nat_le below 0 then refuse_deep else (do
  at ← take
  first ← inner
  expect_sign sign.Bar
  others inner below at first)

-- ---- processes

abbrev pub proc_by : ℕ → Parser ReadProc → ℕ → What → Parser ReadProc
proc_by limit inner below (what.Number n) = stop_by n
proc_by limit inner below (what.Ident text) = on_channel inner limit below
proc_by limit inner below (what.Word key.New) = new_head limit below >>= single inner
proc_by limit inner below (what.Word key.AgentWord) = agent_head below >>= double inner
proc_by limit inner below (what.Word key.Migrate) = migrate_head limit below >>= single inner
proc_by limit inner below (what.Word key.IfLocal) = iflocal_head limit below >>= double inner
proc_by limit inner below (what.Word key.If) = if_head limit below >>= double inner
proc_by limit inner below (what.Word key.Let) = let_head limit below >>= single inner
proc_by limit inner below (what.Word key.Print) = print limit
proc_by limit inner below (what.Sign sign.RoundOpen) = bracket inner below
proc_by limit inner below (what.Sign sign.Star) = replicated_head limit below >>= single inner
proc_by limit inner below (what.Sign sign.Less) = directed limit
proc_by limit inner below _ = refuse

-- a process, with processes inside it by this reader, at most this deep
unfoldable pub proc_in : ℕ → Parser ReadProc → ℕ → Parser ReadProc
proc_in limit inner below = peek >>= proc_by limit inner below

-- a process of so many levels
unfoldable pub proc : ℕ → ℕ → Parser ReadProc
proc limit zero = refuse_deep
proc limit (suc below) = proc_in limit (proc limit below) below
