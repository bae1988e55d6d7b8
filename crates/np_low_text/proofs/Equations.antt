-- The text of each form with parts.
use Rattle.std.proofs.Common.{◌≡◌, ℕ, Bool, true, false, nat_lt, List, [], ◌∷◌, ◌++◌, map, refl, ap}
use Rattle.std.specs.Prelude.{codes}
use Rattle.np_syntax.specs.declared.expression.Op.{Op}
use Rattle.np_syntax.specs.declared.types.Ty.{Ty}
use Rattle.np_syntax.specs.declared.expression.Expr.{Expr}
use Rattle.np_syntax.specs.declared.expression.ExprForm as expr
use Rattle.np_syntax.specs.declared.expression.ExprForm.TheBlock as expr_block
use Rattle.np_syntax.specs.declared.pattern.Pat.{Pat}
use Rattle.np_syntax.specs.declared.pattern.PatForm as pat
use Rattle.np_syntax.specs.declared.pattern.PatForm.TheBlock as pat_block
use Rattle.np_syntax.specs.declared.process.Proc.{Proc}
use Rattle.np_syntax.specs.declared.process.ProcForm as form
use Rattle.np_syntax.specs.declared.process.ProcForm.TheBlock as block
use Rattle.np_show.specs.Shown.{squared, bracketed, type_text, strength, left, right, joined}
use Rattle.np_low_text.specs.LowText.{Sites, binder_text, pat_text, pat_form_text, pat_texts, expr_text, expr_form_text, expr_texts, message_text, proc_text, proc_form_text}
use denote.Hole.Carrier as carrier

-- ---- patterns

pats_are : (ps : List Pat) → pat_texts (pat_block.hidden-the_row-Pat-0 ps) ≡ map pat_text ps
unfolding pat_block.hidden-the_row-Pat-0 carrier.hidden
pats_are [] = refl
pats_are (p ∷ ps) = ap (λ l. pat_text p ∷ l) (pats_are ps)

pub text-tuple_pat : (ps : List Pat) → pat_form_text (pat.Tuple ps) ≡ squared (map pat_text ps)
text-tuple_pat ps = ap squared (pats_are ps)

module _ (sites : Sites) where
  -- ---- expressions

  exprs_are : (xs : List Expr) → expr_texts sites (expr_block.hidden-the_row-Expr-1 xs) ≡ map (expr_text sites 0) xs
  unfolding expr_block.hidden-the_row-Expr-1 expr_block.hidden-the_row-ExprForm-0 carrier.hidden
  exprs_are [] = refl
  exprs_are (x ∷ xs) = ap (λ l. expr_text sites 0 x ∷ l) (exprs_are xs)

  pub text-tuple : (level : ℕ) (xs : List Expr) → expr_form_text sites level (expr.Tuple xs) ≡ squared (map (expr_text sites 0) xs)
  text-tuple level xs = ap squared (exprs_are xs)

  pub text-bin : (level : ℕ) (o : Op) (x y : Expr)
      → expr_form_text sites level (expr.Bin o x y) ≡ bracketed (nat_lt (strength o) level) (joined o (expr_text sites (left o) x) (expr_text sites (right o) y))
  unfolding expr_block.hidden-the_row-ExprForm-0 carrier.hidden
  text-bin level o x y = refl

  pub text-pack : (level : ℕ) (c v : Expr) → expr_form_text sites level (expr.Pack c v) ≡ codes "pack(" ++ expr_text sites 0 c ++ codes ", " ++ expr_text sites 0 v ++ codes ")"
  unfolding expr_block.hidden-the_row-ExprForm-0 carrier.hidden
  text-pack level c v = refl

  pub text-with : (level : ℕ) (m a l : Expr)
      → expr_form_text sites level (expr.With m a l) ≡ codes "(" ++ expr_text sites 0 m ++ codes " with " ++ expr_text sites 0 a ++ codes " -> " ++ expr_text sites 0 l ++ codes ")"
  unfolding expr_block.hidden-the_row-ExprForm-0 carrier.hidden
  text-with level m a l = refl

  -- ---- processes

  pub text-par : (b : Bool) (p q : Proc) → proc_form_text sites b (form.Par p q) ≡ bracketed b (proc_text sites false p ++ codes " | " ++ proc_text sites true q)
  unfolding block.hidden-the_row-ProcForm-0 carrier.hidden
  text-par b p q = refl

  pub text-new : (b : Bool) (c : ℕ) (t : Ty) (p : Proc) → proc_form_text sites b (form.New c t p) ≡ codes "new " ++ (binder_text c) ++ codes " : " ++ type_text t ++ codes " in " ++ proc_text sites true p
  unfolding block.hidden-the_row-ProcForm-0 carrier.hidden
  text-new b c t p = refl

  pub text-inp : (b : Bool) (c : Expr) (q : Pat) (p : Proc) → proc_form_text sites b (form.Inp c q p) ≡ (expr_text sites 3 c) ++ codes "?" ++ pat_text q ++ codes " -> " ++ proc_text sites true p
  unfolding block.hidden-the_row-ProcForm-0 carrier.hidden
  text-inp b c q p = refl

  pub text-rep : (b : Bool) (c : Expr) (q : Pat) (p : Proc) → proc_form_text sites b (form.Rep c q p) ≡ codes "*" ++ (expr_text sites 3 c) ++ codes "?" ++ pat_text q ++ codes " -> " ++ proc_text sites true p
  unfolding block.hidden-the_row-ProcForm-0 carrier.hidden
  text-rep b c q p = refl

  pub text-agent : (b : Bool) (c : ℕ) (p q : Proc) → proc_form_text sites b (form.Agent c p q) ≡ codes "agent " ++ (binder_text c) ++ codes " = " ++ proc_text sites true p ++ codes " in " ++ proc_text sites true q
  unfolding block.hidden-the_row-ProcForm-0 carrier.hidden
  text-agent b c p q = refl

  pub text-migrate : (b : Bool) (x : Expr) (p : Proc) → proc_form_text sites b (form.Migrate x p) ≡ codes "migrate to " ++ expr_text sites 0 x ++ codes " -> " ++ proc_text sites true p
  unfolding block.hidden-the_row-ProcForm-0 carrier.hidden
  text-migrate b x p = refl

  pub text-iflocal : (b : Bool) (x : Expr) (c : Expr) (z : Expr) (p q : Proc) → proc_form_text sites b (form.IfLocal x c z p q)
      ≡ codes "iflocal <" ++ expr_text sites 3 x ++ codes ">" ++ message_text sites c z ++ codes " then " ++ proc_text sites true p ++ codes " else " ++ proc_text sites true q
  unfolding block.hidden-the_row-ProcForm-0 carrier.hidden
  text-iflocal b x c z p q = refl

  pub text-if : (b : Bool) (x : Expr) (p q : Proc) → proc_form_text sites b (form.If x p q) ≡ codes "if " ++ expr_text sites 0 x ++ codes " then " ++ proc_text sites true p ++ codes " else " ++ proc_text sites true q
  unfolding block.hidden-the_row-ProcForm-0 carrier.hidden
  text-if b x p q = refl

  pub text-let : (b : Bool) (q : Pat) (x : Expr) (p : Proc) → proc_form_text sites b (form.Let q x p) ≡ codes "let " ++ pat_text q ++ codes " = " ++ expr_text sites 0 x ++ codes " in " ++ proc_text sites true p
  unfolding block.hidden-the_row-ProcForm-0 carrier.hidden
  text-let b q x p = refl

  pub text-lookup : (b : Bool) (x m : Expr) (c : ℕ) (p q : Proc) → proc_form_text sites b (form.Lookup x m c p q)
      ≡ codes "lookup " ++ expr_text sites 0 x ++ codes " in " ++ expr_text sites 0 m ++ codes " then " ++ binder_text c ++ codes " -> " ++ proc_text sites true p ++ codes " else " ++ proc_text sites true q
  unfolding block.hidden-the_row-ProcForm-0 carrier.hidden
  text-lookup b x m c p q = refl
