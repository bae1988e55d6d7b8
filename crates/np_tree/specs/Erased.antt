-- Trees but for their offsets: each offset is 0 (docs/LANGUAGE.md, "Canonical text").
use Rattle.std.specs.Prelude.{List, [], ◌∷◌, map}
use Rattle.np_tree.specs.declared.tree.Ident.{Ident}
use Rattle.np_tree.specs.declared.tree.Tree.{Tree}
use Rattle.np_tree.specs.declared.tree.RawExpr.{RawExpr}
use Rattle.np_tree.specs.declared.tree.RawExprForm.{RawExprForm, Val, Main, Var, Tuple', Bin', Row_of-RawExpr, end_of-RawExpr}
use Rattle.np_tree.specs.declared.tree.RawExprForm.{more_of-RawExpr, Row_of-RawExprForm, end_of-RawExprForm, more_of-RawExprForm}
use Rattle.np_tree.specs.declared.tree.RawExprForm as expr
use Rattle.np_tree.specs.declared.tree.RawPat.{RawPat}
use Rattle.np_tree.specs.declared.tree.RawPatForm as pat
use Rattle.np_tree.specs.declared.tree.RawPatForm.{RawPatForm, Row_of-RawPat, end_of-RawPat, more_of-RawPat}
use Rattle.np_tree.specs.declared.tree.RawProc.{RawProc}
use Rattle.np_tree.specs.declared.tree.RawProcForm.{RawProcForm, Stop, Par', New', Out, Inp', Rep', Agent', Migrate', IfLocal', Send, Post}
use Rattle.np_tree.specs.declared.tree.RawProcForm.{If', Let', Print, Row_of-RawProcForm, end_of-RawProcForm, more_of-RawProcForm}
use Rattle.np_tree.specs.declared.tree.RawProcForm as form
use Rattle.np_tree.specs.Grammar.{ident, expression, pattern, process}

abbrev pub erased_ident : Ident → Ident
erased_ident name = ident 0 name.text

-- ---- expressions. A row is the parts of a form: one, or those of a tuple. A row of one is never empty.

abbrev mutual
  pub erased_expr_form : RawExprForm → RawExprForm
  erased_expr_form (Val v) = Val v
  erased_expr_form Main = Main
  erased_expr_form (Var name) = Var (erased_ident name)
  erased_expr_form (Tuple' shape xs) = expr.Tuple (erased_exprs xs)
  erased_expr_form (Bin' op _ a x _ b y) = expr.Bin op (expression 0 (erased_operand x)) (expression 0 (erased_operand y))

  pub erased_operand : {m : _} → Row_of-RawExprForm m → RawExprForm
  erased_operand end_of-RawExprForm = Main
  erased_operand (more_of-RawExprForm x xs) = erased_expr_form x

  pub erased_exprs : {m : _} → Row_of-RawExpr m → List RawExpr
  erased_exprs end_of-RawExpr = []
  erased_exprs (more_of-RawExpr at a x xs) = expression 0 (erased_operand x) ∷ erased_exprs xs

abbrev pub erased_expr : RawExpr → RawExpr
erased_expr x = expression 0 (erased_expr_form x.form)

-- ---- patterns

abbrev mutual
  pub erased_pat_form : RawPatForm → RawPatForm
  erased_pat_form pat.Any = pat.Any
  erased_pat_form (pat.Bind name) = pat.Bind (erased_ident name)
  erased_pat_form (pat.Tuple' shape ps) = pat.Tuple (erased_pats ps)

  pub erased_pats : {m : _} → Row_of-RawPat m → List RawPat
  erased_pats end_of-RawPat = []
  erased_pats (more_of-RawPat at p ps) = pattern 0 (erased_pat_form p) ∷ erased_pats ps

abbrev pub erased_pat : RawPat → RawPat
erased_pat p = pattern 0 (erased_pat_form p.form)

-- ---- processes

abbrev mutual
  pub erased_proc_form : RawProcForm → RawProcForm
  erased_proc_form Stop = Stop
  erased_proc_form (Par' _ a p _ b q) = form.Par (process 0 (erased_part p)) (process 0 (erased_part q))
  erased_proc_form (New' c ty _ a p) = form.New (erased_ident c) ty (process 0 (erased_part p))
  erased_proc_form (Out c x) = Out (erased_ident c) (erased_expr x)
  erased_proc_form (Inp' c q _ a p) = form.Inp (erased_ident c) (erased_pat q) (process 0 (erased_part p))
  erased_proc_form (Rep' c q _ a p) = form.Rep (erased_ident c) (erased_pat q) (process 0 (erased_part p))
  erased_proc_form (Agent' c _ a p _ b q) = form.Agent (erased_ident c) (process 0 (erased_part p)) (process 0 (erased_part q))
  erased_proc_form (Migrate' x _ a p) = form.Migrate (erased_expr x) (process 0 (erased_part p))
  erased_proc_form (IfLocal' x c z _ a p _ b q) = form.IfLocal (erased_expr x) (erased_ident c) (erased_expr z) (process 0 (erased_part p))
      (process 0 (erased_part q))
  erased_proc_form (Send x y c z) = Send (erased_expr x) (erased_expr y) (erased_ident c) (erased_expr z)
  erased_proc_form (Post x c z) = Post (erased_expr x) (erased_ident c) (erased_expr z)
  erased_proc_form (If' x _ a p _ b q) = form.If (erased_expr x) (process 0 (erased_part p)) (process 0 (erased_part q))
  erased_proc_form (Let' q x _ a p) = form.Let (erased_pat q) (erased_expr x) (process 0 (erased_part p))
  erased_proc_form (Print x) = Print (erased_expr x)

  pub erased_part : {m : _} → Row_of-RawProcForm m → RawProcForm
  erased_part end_of-RawProcForm = Stop
  erased_part (more_of-RawProcForm p ps) = erased_proc_form p

abbrev pub erased_proc : RawProc → RawProc
erased_proc p = process 0 (erased_proc_form p.form)

abbrev pub erased : Tree → Tree
erased tree = record { sites = map erased_ident tree.sites; at = erased_ident tree.at; main = erased_proc tree.main }
