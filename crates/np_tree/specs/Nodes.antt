-- An expression and a process of a form, with their offset in the source (docs/LANGUAGE.md, "Grammar").
use Rattle.std.specs.Prelude.{ℕ}
use Rattle.np_tree.specs.declared.tree.RawExpr.{RawExpr}
use Rattle.np_tree.specs.declared.tree.RawExprForm.{RawExprForm}
use Rattle.np_tree.specs.declared.tree.RawProc.{RawProc}
use Rattle.np_tree.specs.declared.tree.RawProcForm.{RawProcForm}

abbrev pub expr_at : ℕ → RawExprForm → RawExpr
expr_at at form = record { at = at; form = form }

abbrev pub proc_at : ℕ → RawProcForm → RawProc
proc_at at form = record { at = at; form = form }
