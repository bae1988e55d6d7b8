-- An expression and a process of a form, with their offset in the source (docs/LANGUAGE.md, "Grammar").
use Rattle.std.specs.Prelude.{ℕ}
use Rattle.np_syntax.specs.declared.expression.Expr.{Expr}
use Rattle.np_syntax.specs.declared.expression.ExprForm.{ExprForm}
use Rattle.np_syntax.specs.declared.process.Tag.{Tag}
use Rattle.np_syntax.specs.declared.process.Proc.{Proc}
use Rattle.np_syntax.specs.declared.process.ProcForm.{ProcForm}

abbrev pub expr_at : ℕ → ExprForm → Expr
expr_at at form = record { at = at; form = form }

abbrev pub proc_at : Tag → ℕ → ProcForm → Proc
proc_at tag at form = record { tag = tag; at = at; form = form }
