-- What each form is but for its offsets.
use Rattle.std.proofs.Common.{◌≡◌, List, [], ◌∷◌, map, refl, ap}
use Rattle.np_syntax.specs.declared.types.Ty.{Ty}
use Rattle.np_syntax.specs.declared.expression.Op.{Op}
use Rattle.np_tree.specs.declared.tree.Ident.{Ident}
use Rattle.np_tree.specs.declared.tree.RawExpr.{RawExpr}
use Rattle.np_tree.specs.declared.tree.RawExprForm as expr
use Rattle.np_tree.specs.declared.tree.RawExprForm.TheBlock as expr_block
use Rattle.np_tree.specs.declared.tree.RawPat.{RawPat}
use Rattle.np_tree.specs.declared.tree.RawPatForm as pat
use Rattle.np_tree.specs.declared.tree.RawPatForm.TheBlock as pat_block
use Rattle.np_tree.specs.declared.tree.RawProc.{RawProc}
use Rattle.np_tree.specs.declared.tree.RawProcForm as form
use Rattle.np_tree.specs.declared.tree.RawProcForm.TheBlock as block
use Rattle.np_tree.specs.Erased.{erased_ident, erased_expr_form, erased_exprs, erased_expr, erased_pat_form, erased_pats, erased_pat, erased_proc_form, erased_proc}
use denote.Hole.Carrier as carrier

-- ---- expressions

exprs_is : (xs : List RawExpr) → erased_exprs (expr_block.hidden-the_row-RawExpr-1 xs) ≡ map erased_expr xs
unfolding expr_block.hidden-the_row-RawExpr-1 expr_block.hidden-the_row-RawExprForm-0 carrier.hidden
exprs_is [] = refl
exprs_is (x ∷ xs) = ap (λ l. erased_expr x ∷ l) (exprs_is xs)

pub erased-tuple : (xs : List RawExpr) → erased_expr_form (expr.Tuple xs) ≡ expr.Tuple (map erased_expr xs)
erased-tuple xs = ap expr.Tuple (exprs_is xs)

pub erased-bin : (op : Op) (x y : RawExpr) → erased_expr_form (expr.Bin op x y) ≡ expr.Bin op (erased_expr x) (erased_expr y)
unfolding expr_block.hidden-the_row-RawExprForm-0 carrier.hidden
erased-bin op x y = refl

-- ---- patterns

pats_is : (ps : List RawPat) → erased_pats (pat_block.hidden-the_row-RawPat-0 ps) ≡ map erased_pat ps
unfolding pat_block.hidden-the_row-RawPat-0 carrier.hidden
pats_is [] = refl
pats_is (p ∷ ps) = ap (λ l. erased_pat p ∷ l) (pats_is ps)

pub erased-tuple_pat : (ps : List RawPat) → erased_pat_form (pat.Tuple ps) ≡ pat.Tuple (map erased_pat ps)
erased-tuple_pat ps = ap pat.Tuple (pats_is ps)

-- ---- processes

pub erased-par : (p q : RawProc) → erased_proc_form (form.Par p q) ≡ form.Par (erased_proc p) (erased_proc q)
unfolding block.hidden-the_row-RawProcForm-0 carrier.hidden
erased-par p q = refl

pub erased-new : (c : Ident) (t : Ty) (p : RawProc) → erased_proc_form (form.New c t p) ≡ form.New (erased_ident c) t (erased_proc p)
unfolding block.hidden-the_row-RawProcForm-0 carrier.hidden
erased-new c t p = refl

pub erased-inp : (c : Ident) (q : RawPat) (p : RawProc) → erased_proc_form (form.Inp c q p) ≡ form.Inp (erased_ident c) (erased_pat q) (erased_proc p)
unfolding block.hidden-the_row-RawProcForm-0 carrier.hidden
erased-inp c q p = refl

pub erased-rep : (c : Ident) (q : RawPat) (p : RawProc) → erased_proc_form (form.Rep c q p) ≡ form.Rep (erased_ident c) (erased_pat q) (erased_proc p)
unfolding block.hidden-the_row-RawProcForm-0 carrier.hidden
erased-rep c q p = refl

pub erased-agent : (b : Ident) (p q : RawProc) → erased_proc_form (form.Agent b p q) ≡ form.Agent (erased_ident b) (erased_proc p) (erased_proc q)
unfolding block.hidden-the_row-RawProcForm-0 carrier.hidden
erased-agent b p q = refl

pub erased-migrate : (x : RawExpr) (p : RawProc) → erased_proc_form (form.Migrate x p) ≡ form.Migrate (erased_expr x) (erased_proc p)
unfolding block.hidden-the_row-RawProcForm-0 carrier.hidden
erased-migrate x p = refl

pub erased-iflocal : (x : RawExpr) (c : Ident) (z : RawExpr) (p q : RawProc)
    → erased_proc_form (form.IfLocal x c z p q) ≡ form.IfLocal (erased_expr x) (erased_ident c) (erased_expr z) (erased_proc p) (erased_proc q)
unfolding block.hidden-the_row-RawProcForm-0 carrier.hidden
erased-iflocal x c z p q = refl

pub erased-if : (x : RawExpr) (p q : RawProc) → erased_proc_form (form.If x p q) ≡ form.If (erased_expr x) (erased_proc p) (erased_proc q)
unfolding block.hidden-the_row-RawProcForm-0 carrier.hidden
erased-if x p q = refl

pub erased-let : (q : RawPat) (x : RawExpr) (p : RawProc) → erased_proc_form (form.Let q x p) ≡ form.Let (erased_pat q) (erased_expr x) (erased_proc p)
unfolding block.hidden-the_row-RawProcForm-0 carrier.hidden
erased-let q x p = refl
