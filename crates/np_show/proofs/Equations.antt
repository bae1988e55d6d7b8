-- The text of each form with parts.
use Rattle.std.proofs.Common.{◌≡◌, ℕ, Bool, true, false, nat_lt, List, [], ◌∷◌, ◌++◌, map, refl, ap}
use Rattle.std.specs.Prelude.{codes}
use Rattle.np_syntax.specs.declared.expression.Op.{Op}
use Rattle.np_syntax.specs.declared.types.Cap.{Cap}
use Rattle.np_syntax.specs.declared.types.Ty.{Ty}
use Rattle.np_syntax.specs.declared.types.Ty as ty
use Rattle.np_syntax.specs.declared.types.Ty.TheBlock as ty_block
use Rattle.np_lex.specs.Tokens.{sign_text}
use Rattle.np_tree.specs.declared.tree.Ident.{Ident}
use Rattle.np_tree.specs.declared.tree.RawExpr.{RawExpr}
use Rattle.np_tree.specs.declared.tree.RawExprForm as expr
use Rattle.np_tree.specs.declared.tree.RawExprForm.TheBlock as expr_block
use Rattle.np_tree.specs.declared.tree.RawPat.{RawPat}
use Rattle.np_tree.specs.declared.tree.RawPatForm as pat
use Rattle.np_tree.specs.declared.tree.RawPatForm.TheBlock as pat_block
use Rattle.np_tree.specs.declared.tree.RawProc.{RawProc}
use Rattle.np_tree.specs.declared.tree.RawProcForm as form
use Rattle.np_tree.specs.declared.tree.RawProcForm.TheBlock as block
use Rattle.np_tree.specs.Grammar.{cap_sign}
use Rattle.np_show.specs.Shown.{squared, bracketed, type_text, type_texts, pat_text, pat_form_text, pat_texts, strength, left, right, joined, expr_text, expr_form_text, expr_texts, message_text, proc_text, proc_form_text}
use denote.Hole.Carrier as carrier

-- ---- types

types_are : (ts : List Ty) → type_texts (ty_block.hidden-the_row-Ty-1 ts) ≡ map type_text ts
unfolding ty_block.hidden-the_row-Ty-1 carrier.hidden
types_are [] = refl
types_are (t ∷ ts) = ap (λ l. type_text t ∷ l) (types_are ts)

pub text-tuple_type : (ts : List Ty) → type_text (ty.Tuple ts) ≡ squared (map type_text ts)
text-tuple_type ts = ap squared (types_are ts)

pub text-chan : (c : Cap) (t : Ty) → type_text (ty.Chan c t) ≡ sign_text (cap_sign c) ++ type_text t
unfolding ty_block.hidden-the_row-Ty-0 carrier.hidden
text-chan c t = refl

-- ---- patterns

pats_are : (ps : List RawPat) → pat_texts (pat_block.hidden-the_row-RawPat-0 ps) ≡ map pat_text ps
unfolding pat_block.hidden-the_row-RawPat-0 carrier.hidden
pats_are [] = refl
pats_are (p ∷ ps) = ap (λ l. pat_text p ∷ l) (pats_are ps)

pub text-tuple_pat : (ps : List RawPat) → pat_form_text (pat.Tuple ps) ≡ squared (map pat_text ps)
text-tuple_pat ps = ap squared (pats_are ps)

-- ---- expressions

exprs_are : (xs : List RawExpr) → expr_texts (expr_block.hidden-the_row-RawExpr-1 xs) ≡ map (expr_text 0) xs
unfolding expr_block.hidden-the_row-RawExpr-1 expr_block.hidden-the_row-RawExprForm-0 carrier.hidden
exprs_are [] = refl
exprs_are (x ∷ xs) = ap (λ l. expr_text 0 x ∷ l) (exprs_are xs)

pub text-tuple : (level : ℕ) (xs : List RawExpr) → expr_form_text level (expr.Tuple xs) ≡ squared (map (expr_text 0) xs)
text-tuple level xs = ap squared (exprs_are xs)

pub text-bin : (level : ℕ) (o : Op) (x y : RawExpr) → expr_form_text level (expr.Bin o x y) ≡ bracketed (nat_lt (strength o) level) (joined o (expr_text (left o) x) (expr_text (right o) y))
unfolding expr_block.hidden-the_row-RawExprForm-0 carrier.hidden
text-bin level o x y = refl

-- ---- processes

pub text-par : (b : Bool) (p q : RawProc) → proc_form_text b (form.Par p q) ≡ bracketed b (proc_text false p ++ codes " | " ++ proc_text true q)
unfolding block.hidden-the_row-RawProcForm-0 carrier.hidden
text-par b p q = refl

pub text-new : (b : Bool) (c : Ident) (t : Ty) (p : RawProc) → proc_form_text b (form.New c t p) ≡ codes "new " ++ c.text ++ codes " : " ++ type_text t ++ codes " in " ++ proc_text true p
unfolding block.hidden-the_row-RawProcForm-0 carrier.hidden
text-new b c t p = refl

pub text-inp : (b : Bool) (c : Ident) (q : RawPat) (p : RawProc) → proc_form_text b (form.Inp c q p) ≡ c.text ++ codes "?" ++ pat_text q ++ codes " -> " ++ proc_text true p
unfolding block.hidden-the_row-RawProcForm-0 carrier.hidden
text-inp b c q p = refl

pub text-rep : (b : Bool) (c : Ident) (q : RawPat) (p : RawProc) → proc_form_text b (form.Rep c q p) ≡ codes "*" ++ c.text ++ codes "?" ++ pat_text q ++ codes " -> " ++ proc_text true p
unfolding block.hidden-the_row-RawProcForm-0 carrier.hidden
text-rep b c q p = refl

pub text-agent : (b : Bool) (c : Ident) (p q : RawProc) → proc_form_text b (form.Agent c p q) ≡ codes "agent " ++ c.text ++ codes " = " ++ proc_text true p ++ codes " in " ++ proc_text true q
unfolding block.hidden-the_row-RawProcForm-0 carrier.hidden
text-agent b c p q = refl

pub text-migrate : (b : Bool) (x : RawExpr) (p : RawProc) → proc_form_text b (form.Migrate x p) ≡ codes "migrate to " ++ expr_text 0 x ++ codes " -> " ++ proc_text true p
unfolding block.hidden-the_row-RawProcForm-0 carrier.hidden
text-migrate b x p = refl

pub text-iflocal : (b : Bool) (x : RawExpr) (c : Ident) (z : RawExpr) (p q : RawProc) → proc_form_text b (form.IfLocal x c z p q)
    ≡ codes "iflocal <" ++ expr_text 3 x ++ codes ">" ++ message_text c z ++ codes " then " ++ proc_text true p ++ codes " else " ++ proc_text true q
unfolding block.hidden-the_row-RawProcForm-0 carrier.hidden
text-iflocal b x c z p q = refl

pub text-if : (b : Bool) (x : RawExpr) (p q : RawProc) → proc_form_text b (form.If x p q) ≡ codes "if " ++ expr_text 0 x ++ codes " then " ++ proc_text true p ++ codes " else " ++ proc_text true q
unfolding block.hidden-the_row-RawProcForm-0 carrier.hidden
text-if b x p q = refl

pub text-let : (b : Bool) (q : RawPat) (x : RawExpr) (p : RawProc) → proc_form_text b (form.Let q x p) ≡ codes "let " ++ pat_text q ++ codes " = " ++ expr_text 0 x ++ codes " in " ++ proc_text true p
unfolding block.hidden-the_row-RawProcForm-0 carrier.hidden
text-let b q x p = refl
