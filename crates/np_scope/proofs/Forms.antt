-- What each form of expression, pattern and process becomes.
use Rattle.std.proofs.Common.{◌≡◌, ℕ, ◌+◌, List, [], ◌∷◌, ◌++◌, map, Ok, Err, refl, ap, ◌∙◌}
use Rattle.np_syntax.specs.declared.value.Value.{Value}
use Rattle.np_syntax.specs.declared.value.Value as value
use Rattle.np_syntax.specs.declared.types.Ty.{Ty}
use Rattle.np_syntax.specs.declared.expression.Op.{Op}
use Rattle.np_syntax.specs.declared.expression.Expr.{Expr}
use Rattle.np_syntax.specs.declared.expression.ExprForm as to_expr
use Rattle.np_syntax.specs.declared.pattern.Pat.{Pat}
use Rattle.np_syntax.specs.declared.pattern.PatForm as to_pat
use Rattle.np_syntax.specs.declared.process.ProcForm.{ProcForm}
use Rattle.np_tree.specs.declared.tree.Ident.{Ident}
use Rattle.np_tree.specs.declared.tree.RawExpr.{RawExpr, fold_out-RawExpr}
use Rattle.np_tree.specs.declared.tree.RawExprForm.{RawExprForm, RawExprForm-F, out-RawExprForm, map-RawExprForm, fold_out-RawExprForm}
use Rattle.np_tree.specs.declared.tree.RawExprForm as expr
use Rattle.np_tree.specs.declared.tree.RawExprForm.TheVariants as exprv
use Rattle.np_tree.specs.declared.tree.RawPat.{RawPat, fold_out-RawPat}
use Rattle.np_tree.specs.declared.tree.RawPatForm.{RawPatForm, RawPatForm-F, out-RawPatForm, map-RawPatForm, fold_out-RawPatForm}
use Rattle.np_tree.specs.declared.tree.RawPatForm as pat
use Rattle.np_tree.specs.declared.tree.RawPatForm.TheVariants as patv
use Rattle.np_tree.specs.declared.tree.RawProc.{RawProc, fold_out-RawProc}
use Rattle.np_tree.specs.declared.tree.RawProcForm.{RawProcForm, RawProcForm-F, out-RawProcForm, map-RawProcForm, fold_out-RawProcForm}
use Rattle.np_tree.specs.declared.tree.RawProcForm as form
use Rattle.np_tree.specs.declared.tree.RawProcForm.TheVariants as formv
use Rattle.np_scope.specs.declared.numbers.Numbers.{Numbers}
use Rattle.np_scope.specs.declared.scope.Meaning.TheVariants as meaning
use Rattle.np_scope.specs.Naming.{Named, meant}
use Rattle.np_syntax.specs.Results.{◌>>=◌}
use Rattle.np_scope.specs.Outcomes.{Outcome}
use Rattle.np_scope.specs.Resolved.{expression, main_name, ExprIn, ExprAt, in_turn, expr_step, expr_of, expr_form_of, exprs_of}
use Rattle.np_scope.specs.Resolved.{Bound, bound, pattern, PatIn, PatAt, bound_in_turn, pat_step, pat_of, pat_form_of, pats_of}
use Rattle.np_scope.specs.Resolved.{ProcIn, FormIn, at_place, proc_step, proc_of, proc_form_of, stop_form, par_form, new_form, out_form, inp_form, rep_form}
use Rattle.np_scope.specs.Resolved.{agent_form, migrate_form, iflocal_form, send_form, post_form, if_form, let_form, print_form}

-- ---- expressions

pub expr-form : (n : ℕ) (e : RawExpr) (scope : List Named) → expr_of n e scope ≡ expr_form_of n e.form e.at scope
unfolding expr_of expr_form_of
expr-form n e scope = ap (λ (f : ExprIn). f scope) (fold_out-RawExpr ExprAt ExprIn (expr_step n) (λ e. e.form e.at) e)

abbrev expr_stepped : ℕ → ℕ → List Named → RawExprForm-F RawExprForm RawExpr → Outcome Expr
expr_stepped n at scope l = expr_step n (map-RawExprForm RawExprForm RawExpr ExprAt ExprIn (expr_form_of n) (expr_of n) l) at scope

expr-layer : (n : ℕ) (f : RawExprForm) (at : ℕ) (scope : List Named) → expr_form_of n f at scope ≡ expr_stepped n at scope (out-RawExprForm f)
unfolding expr_of expr_form_of
expr-layer n f at scope = ap (λ (f : ExprAt). f at scope) (fold_out-RawExprForm ExprAt ExprIn (expr_step n) (λ e. e.form e.at) f)

pub expr-val : (n at : ℕ) (scope : List Named) (v : Value) → expr_form_of n (expr.Val v) at scope ≡ Ok (expression at (to_expr.Val v))
expr-val n at scope v = expr-layer n (expr.Val v) at scope ∙ ap (expr_stepped n at scope) (exprv.outs-Val v)

pub expr-main : (n at : ℕ) (scope : List Named) → expr_form_of n expr.Main at scope ≡ Ok (expression at (to_expr.Val (value.Agent (main_name n))))
expr-main n at scope = expr-layer n expr.Main at scope ∙ ap (expr_stepped n at scope) exprv.outs-Main

pub expr-var : (n at : ℕ) (scope : List Named) (name : Ident)
    → expr_form_of n (expr.Var name) at scope ≡ (meant scope name >>= λ f. Ok (expression at f))
expr-var n at scope name = expr-layer n (expr.Var name) at scope ∙ ap (expr_stepped n at scope) (exprv.outs-Var name)

turn-all : (n : ℕ) (es : List RawExpr) (scope : List Named) → in_turn (map (expr_of n) es) scope ≡ exprs_of n es scope
turn-all n [] scope = refl
turn-all n (e ∷ es) scope = ap (λ o. expr_of n e scope >>= λ x. o >>= λ xs. Ok (x ∷ xs)) (turn-all n es scope)

pub expr-tuple : (n at : ℕ) (scope : List Named) (es : List RawExpr)
    → expr_form_of n (expr.Tuple es) at scope ≡ (exprs_of n es scope >>= λ xs. Ok (expression at (to_expr.Tuple xs)))
expr-tuple n at scope es =
    expr-layer n (expr.Tuple es) at scope ∙ ap (expr_stepped n at scope) (exprv.outs-Tuple es)
    ∙ ap (λ o. o >>= λ xs. Ok (expression at (to_expr.Tuple xs))) (turn-all n es scope)

pub expr-bin : (n at : ℕ) (scope : List Named) (o : Op) (a b : RawExpr)
    → expr_form_of n (expr.Bin o a b) at scope ≡ (expr_of n a scope >>= λ x. expr_of n b scope >>= λ y. Ok (expression at (to_expr.Bin o x y)))
expr-bin n at scope o a b = expr-layer n (expr.Bin o a b) at scope ∙ ap (expr_stepped n at scope) (exprv.outs-Bin o a b)

pub ruleset expressions = (expr-form, expr-val, expr-main, expr-var, expr-tuple, expr-bin)

-- the values so far, and then those of the rest
abbrev pub after_exprs : List Expr → Outcome (List Expr) → Outcome (List Expr)
after_exprs xs (Ok rest) = Ok (xs ++ rest)
after_exprs xs (Err e) = Err e

-- ---- patterns

pub pat-form : (p : RawPat) (scope : List Named) (next : ℕ) → pat_of p scope next ≡ pat_form_of p.form p.at scope next
unfolding pat_of pat_form_of
pat-form p scope next = ap (λ (f : PatIn). f scope next) (fold_out-RawPat PatAt PatIn pat_step (λ p. p.form p.at) p)

abbrev pat_stepped : ℕ → List Named → ℕ → RawPatForm-F RawPatForm RawPat → Bound Pat
pat_stepped at scope next l = pat_step (map-RawPatForm RawPatForm RawPat PatAt PatIn pat_form_of pat_of l) at scope next

pat-layer : (f : RawPatForm) (at : ℕ) (scope : List Named) (next : ℕ) → pat_form_of f at scope next ≡ pat_stepped at scope next (out-RawPatForm f)
unfolding pat_of pat_form_of
pat-layer f at scope next = ap (λ (f : PatAt). f at scope next) (fold_out-RawPatForm PatAt PatIn pat_step (λ p. p.form p.at) f)

pub pat-any : (at : ℕ) (scope : List Named) (next : ℕ) → pat_form_of pat.Any at scope next ≡ bound (pattern at to_pat.Any) scope next
pat-any at scope next = pat-layer pat.Any at scope next ∙ ap (pat_stepped at scope next) patv.outs-Any

pub pat-bind : (at : ℕ) (scope : List Named) (next : ℕ) (name : Ident)
    → pat_form_of (pat.Bind name) at scope next ≡ bound (pattern at (to_pat.Bind next)) ((name.text, meaning.Binder next) ∷ scope) (next + 1)
pat-bind at scope next name = pat-layer (pat.Bind name) at scope next ∙ ap (pat_stepped at scope next) (patv.outs-Bind name)

abbrev tupled : ℕ → Bound (List Pat) → Bound Pat
tupled at inner = bound (pattern at (to_pat.Tuple inner.it)) inner.scope inner.next

bound-all : (ps : List RawPat) (scope : List Named) (next : ℕ) → bound_in_turn (map pat_of ps) scope next ≡ pats_of ps scope next
bound-all [] scope next = refl
bound-all (p ∷ ps) scope next =
    let first = pat_of p scope next in
    ap (λ (rest : Bound (List Pat)). bound (first.it ∷ rest.it) rest.scope rest.next) (bound-all ps first.scope first.next)

pub pat-tuple : (at : ℕ) (scope : List Named) (next : ℕ) (ps : List RawPat)
    → pat_form_of (pat.Tuple ps) at scope next ≡ tupled at (pats_of ps scope next)
pat-tuple at scope next ps = pat-layer (pat.Tuple ps) at scope next ∙ ap (pat_stepped at scope next) (patv.outs-Tuple ps) ∙ ap (tupled at) (bound-all ps scope next)

-- the patterns so far, and then those of the rest
abbrev pub after_pats : List Pat → Bound (List Pat) → Bound (List Pat)
after_pats ps rest = bound (ps ++ rest.it) rest.scope rest.next

pub ruleset patterns = (pat-form, pat-any, pat-bind, pat-tuple)

-- ---- processes

pub proc-form : (n : ℕ) (p : RawProc) (scope : List Named) (next : Numbers)
    → proc_of n p scope next ≡ at_place p.at (proc_form_of n p.form) scope next
unfolding proc_of proc_form_of
proc-form n p scope next = ap (λ (f : ProcIn). f scope next) (fold_out-RawProc FormIn ProcIn (proc_step n) (λ p. at_place p.at p.form) p)

abbrev proc_stepped : ℕ → List Named → Numbers → RawProcForm-F RawProcForm RawProc → Outcome (ProcForm × Numbers)
proc_stepped n scope next l = proc_step n (map-RawProcForm RawProcForm RawProc FormIn ProcIn (proc_form_of n) (proc_of n) l) scope next

proc-layer : (n : ℕ) (f : RawProcForm) (scope : List Named) (next : Numbers) → proc_form_of n f scope next ≡ proc_stepped n scope next (out-RawProcForm f)
unfolding proc_of proc_form_of
proc-layer n f scope next = ap (λ (f : FormIn). f scope next) (fold_out-RawProcForm FormIn ProcIn (proc_step n) (λ p. at_place p.at p.form) f)

pub proc-stop : (n : ℕ) (scope : List Named) (next : Numbers) → proc_form_of n form.Stop scope next ≡ stop_form scope next
proc-stop n scope next = proc-layer n form.Stop scope next ∙ ap (proc_stepped n scope next) formv.outs-Stop

pub proc-par : (n : ℕ) (scope : List Named) (next : Numbers) (p q : RawProc)
    → proc_form_of n (form.Par p q) scope next ≡ par_form (proc_of n p) (proc_of n q) scope next
proc-par n scope next p q = proc-layer n (form.Par p q) scope next ∙ ap (proc_stepped n scope next) (formv.outs-Par p q)

pub proc-new : (n : ℕ) (scope : List Named) (next : Numbers) (c : Ident) (t : Ty) (p : RawProc)
    → proc_form_of n (form.New c t p) scope next ≡ new_form c t (proc_of n p) scope next
proc-new n scope next c t p = proc-layer n (form.New c t p) scope next ∙ ap (proc_stepped n scope next) (formv.outs-New c t p)

pub proc-out : (n : ℕ) (scope : List Named) (next : Numbers) (c : Ident) (e : RawExpr)
    → proc_form_of n (form.Out c e) scope next ≡ out_form n c e scope next
proc-out n scope next c e = proc-layer n (form.Out c e) scope next ∙ ap (proc_stepped n scope next) (formv.outs-Out c e)

pub proc-inp : (n : ℕ) (scope : List Named) (next : Numbers) (c : Ident) (x : RawPat) (p : RawProc)
    → proc_form_of n (form.Inp c x p) scope next ≡ inp_form c x (proc_of n p) scope next
proc-inp n scope next c x p = proc-layer n (form.Inp c x p) scope next ∙ ap (proc_stepped n scope next) (formv.outs-Inp c x p)

pub proc-rep : (n : ℕ) (scope : List Named) (next : Numbers) (c : Ident) (x : RawPat) (p : RawProc)
    → proc_form_of n (form.Rep c x p) scope next ≡ rep_form c x (proc_of n p) scope next
proc-rep n scope next c x p = proc-layer n (form.Rep c x p) scope next ∙ ap (proc_stepped n scope next) (formv.outs-Rep c x p)

pub proc-agent : (n : ℕ) (scope : List Named) (next : Numbers) (b : Ident) (p q : RawProc)
    → proc_form_of n (form.Agent b p q) scope next ≡ agent_form b (proc_of n p) (proc_of n q) scope next
proc-agent n scope next b p q = proc-layer n (form.Agent b p q) scope next ∙ ap (proc_stepped n scope next) (formv.outs-Agent b p q)

pub proc-migrate : (n : ℕ) (scope : List Named) (next : Numbers) (s : RawExpr) (p : RawProc)
    → proc_form_of n (form.Migrate s p) scope next ≡ migrate_form n s (proc_of n p) scope next
proc-migrate n scope next s p = proc-layer n (form.Migrate s p) scope next ∙ ap (proc_stepped n scope next) (formv.outs-Migrate s p)

pub proc-iflocal : (n : ℕ) (scope : List Named) (next : Numbers) (b : RawExpr) (c : Ident) (e : RawExpr) (p q : RawProc)
    → proc_form_of n (form.IfLocal b c e p q) scope next ≡ iflocal_form n b c e (proc_of n p) (proc_of n q) scope next
proc-iflocal n scope next b c e p q = proc-layer n (form.IfLocal b c e p q) scope next ∙ ap (proc_stepped n scope next) (formv.outs-IfLocal b c e p q)

pub proc-send : (n : ℕ) (scope : List Named) (next : Numbers) (b s : RawExpr) (c : Ident) (e : RawExpr)
    → proc_form_of n (form.Send b s c e) scope next ≡ send_form n b s c e scope next
proc-send n scope next b s c e = proc-layer n (form.Send b s c e) scope next ∙ ap (proc_stepped n scope next) (formv.outs-Send b s c e)

pub proc-post : (n : ℕ) (scope : List Named) (next : Numbers) (b : RawExpr) (c : Ident) (e : RawExpr)
    → proc_form_of n (form.Post b c e) scope next ≡ post_form n b c e scope next
proc-post n scope next b c e = proc-layer n (form.Post b c e) scope next ∙ ap (proc_stepped n scope next) (formv.outs-Post b c e)

pub proc-if : (n : ℕ) (scope : List Named) (next : Numbers) (e : RawExpr) (p q : RawProc)
    → proc_form_of n (form.If e p q) scope next ≡ if_form n e (proc_of n p) (proc_of n q) scope next
proc-if n scope next e p q = proc-layer n (form.If e p q) scope next ∙ ap (proc_stepped n scope next) (formv.outs-If e p q)

pub proc-let : (n : ℕ) (scope : List Named) (next : Numbers) (x : RawPat) (e : RawExpr) (p : RawProc)
    → proc_form_of n (form.Let x e p) scope next ≡ let_form n x e (proc_of n p) scope next
proc-let n scope next x e p = proc-layer n (form.Let x e p) scope next ∙ ap (proc_stepped n scope next) (formv.outs-Let x e p)

pub proc-print : (n : ℕ) (scope : List Named) (next : Numbers) (e : RawExpr) → proc_form_of n (form.Print e) scope next ≡ print_form n e scope next
proc-print n scope next e = proc-layer n (form.Print e) scope next ∙ ap (proc_stepped n scope next) (formv.outs-Print e)

pub ruleset placed_forms = (proc-form)

pub ruleset processes = (proc-stop, proc-par, proc-new, proc-out, proc-inp, proc-rep, proc-agent, proc-migrate, proc-iflocal, proc-send, proc-post, proc-if, proc-let, proc-print)
