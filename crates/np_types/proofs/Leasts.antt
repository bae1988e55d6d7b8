-- The least type of each form of expression.
use Rattle.std.proofs.Common.{◌≡◌, ℕ, Bool, true, false, List, [], ◌∷◌, ◌++◌, map, Option, None, Some, Result, Ok, Err, refl, ap, ◌∙◌}
use Rattle.std.specs.FinMap as table
use Rattle.np_syntax.specs.declared.types.Cap.{Cap}
use Rattle.np_syntax.specs.declared.types.Ty.{Ty, out-Ty}
use Rattle.np_syntax.specs.declared.types.Ty as ty
use Rattle.np_syntax.specs.declared.value.Value.{Value}
use Rattle.np_syntax.specs.declared.expression.Op.{Op}
use Rattle.np_syntax.specs.declared.expression.Op.TheVariants as op
use Rattle.np_syntax.specs.declared.expression.Expr.{Expr, fold_out-Expr}
use Rattle.np_syntax.specs.declared.expression.ExprForm.{ExprForm, ExprForm-F, out-ExprForm, map-ExprForm, fold_out-ExprForm}
use Rattle.np_syntax.specs.declared.expression.ExprForm as expr
use Rattle.np_syntax.specs.declared.expression.ExprForm.TheVariants.{outs-Val, outs-Var, outs-Tuple, outs-Bin, outs-Pack, outs-With}
use Rattle.np_types.specs.declared.fault.Rule.{Rule}
use Rattle.np_types.specs.declared.fault.Rule.TheVariants as rule
use Rattle.np_subtyping.specs.Sub.{TyLayer, sub, is_int, is_places, is_agent, writes}
use Rattle.np_syntax.specs.Parts.{as_channel}
use Rattle.np_types.specs.Widths.{narrow}
use Rattle.np_syntax.specs.Results.{◌>>=◌, ◌>>◌, all_ok}
use Rattle.np_types.specs.Checks.{Check, checked, ensure, want}
use Rattle.np_types.specs.Worlds.{World, kind}
use Rattle.np_types.specs.Least.{Types, Least, Leasts, least, leasts, least_of, least_form, least_op, least_step, test_of, number, output, input, is_lock_type}
use Rattle.np_types.specs.Operands.{takes_first, first_rule, takes_second, second_rule, type_of, written_on, read_on}
use Rattle.np_types.specs.declared.fault.LeastFail.{LeastFail}
use Rattle.np_types.specs.Told.{Told, Failed}
use Rattle.np_types.proofs.Tellings.{asked, met, failed_then}

-- one layer of an expression, with each part's least type
abbrev pub least_layer : World → Types → ExprForm-F ExprForm Expr → Leasts
least_layer w env y = map-ExprForm ExprForm Expr (ℕ → Check Ty) Least (least_form w env) (least_of w env) y

pub least_of-form : (w : World) (env : Types) (e : Expr) → least_of w env e ≡ record { at = e.at; type = least_form w env e.form e.at }
unfolding least_of least_form
least_of-form w env e = fold_out-Expr (ℕ → Check Ty) Least (least_step w env) (λ e. record { at = e.at; type = e.form e.at }) e

pub least_form-out : (w : World) (env : Types) (f : ExprForm) (at : ℕ) → least_form w env f at ≡ least_step w env (least_layer w env (out-ExprForm f)) at
unfolding least_of least_form
least_form-out w env f at = ap (λ (g : ℕ → Check Ty). g at) (fold_out-ExprForm (ℕ → Check Ty) Least (least_step w env) (λ e. record { at = e.at; type = e.form e.at }) f)

pub least-form : (w : World) (env : Types) (e : Expr) → least w env e ≡ least_form w env e.form e.at
least-form w env e = ap (λ (l : Least). l.type) (least_of-form w env e)

pub least-out : (w : World) (env : Types) (e : Expr) → least w env e ≡ least_step w env (least_layer w env (out-ExprForm e.form)) e.at
least-out w env e = least-form w env e ∙ least_form-out w env e.form e.at

pub least_at : (w : World) (env : Types) (e : Expr) → (least_of w env e).at ≡ e.at
least_at w env e = ap (λ (l : Least). l.at) (least_of-form w env e)

-- the expression's place and its least type
pub least_parts : (w : World) (env : Types) (e : Expr) → least_of w env e ≡ record { at = e.at; type = least w env e }
least_parts w env e = λ i. record { at = least_at w env e i; type = (least_of w env e).type }

-- a form's test, and then the rest
tested : {B : Type 0} (test : TyLayer → Bool) (r : Rule) (at : ℕ) (o : Check Ty) (next : Check B)
    → (test_of test r (record { at = at; type = o }) >> next) ≡ asked o (λ t. test (out-Ty t)) at r (λ _. next)
tested test r at (Ok t) next = refl
tested test r at (Err e) next = refl

abbrev pub tupling : ℕ → Check (List Ty) → Check Ty
tupling at ts = asked ts (λ ts. narrow (ty.Tuple ts)) at rule.Wide (λ ts. Ok (ty.Tuple ts))

abbrev pub operation : Op → ℕ → Check Ty → ℕ → Check Ty → Check Ty
operation o i x j y = asked x (λ s. takes_first o (out-Ty s)) i (first_rule o) (λ s. asked y (λ t. takes_second o (out-Ty s) (out-Ty t)) j (second_rule o) (λ _. Ok (type_of o)))

numbers : (i : ℕ) (x : Check Ty) (j : ℕ) (y : Check Ty) (u : Ty)
    → (number (record { at = i; type = x }) >> (number (record { at = j; type = y }) >> Ok u)) ≡ asked x (λ s. is_int (out-Ty s)) i rule.NotInt (λ _. asked y (λ t. is_int (out-Ty t)) j rule.NotInt (λ _. Ok u))
numbers i x j y u = tested is_int rule.NotInt i x _ ∙ ap (λ k. asked x (λ s. is_int (out-Ty s)) i rule.NotInt (λ _. k)) (tested is_int rule.NotInt j y (Ok u))

operation_is : (o : Op) (i : ℕ) (x : Check Ty) (j : ℕ) (y : Check Ty) → least_op o (record { at = i; type = x }) (record { at = j; type = y }) ≡ operation o i x j y
operation_is op.Equal i x j y = refl
operation_is op.Less i x j y = numbers i x j y ty.Bool
operation_is op.Add i x j y = numbers i x j y ty.Int
operation_is op.Sub i x j y = numbers i x j y ty.Int
operation_is op.Mul i x j y = numbers i x j y ty.Int

abbrev pub packing : ℕ → Check Ty → ℕ → Check Ty → Check Ty
packing i c j x = c >>= λ s. written_on (out-Ty s) i >>= λ k. asked x (λ t. sub t k) j rule.Mismatch (λ _. Ok ty.Letter)

packing_is : (i : ℕ) (c : Check Ty) (j : ℕ) (x : Check Ty) → (output (record { at = i; type = c }) (record { at = j; type = x }) >> Ok ty.Letter) ≡ packing i c j x
packing_is i (Err e) j x = refl
packing_is i (Ok s) j x = on_form (as_channel (out-Ty s))
  where
    sent : (b : Bool) (k : Ty) (x : Check Ty)
        → ((ensure b i rule.NoOutput >> (x >>= λ t. ensure (sub t k) j rule.Mismatch)) >> Ok ty.Letter) ≡ ((ensure b i rule.NoOutput >> Ok k) >>= λ k. asked x (λ t. sub t k) j rule.Mismatch (λ _. Ok ty.Letter))
    sent true k (Ok t) = refl
    sent true k (Err e) = refl
    sent false k x = refl

    on_form : (o : Option (Cap × Ty))
        → ((want o i rule.NotChannel >>= λ k. ensure (writes k.0) i rule.NoOutput >> (x >>= λ t. ensure (sub t k.1) j rule.Mismatch)) >> Ok ty.Letter)
        ≡ ((want o i rule.NotChannel >>= λ k. ensure (writes k.0) i rule.NoOutput >> Ok k.1) >>= λ k. asked x (λ t. sub t k) j rule.Mismatch (λ _. Ok ty.Letter))
    on_form None = refl
    on_form (Some k) = sent (writes k.0) k.1 x

abbrev pub placing : ℕ → Check Ty → ℕ → Check Ty → ℕ → Check Ty → Check Ty
placing i m j a k l =
    asked m (λ t. is_places (out-Ty t)) i rule.Mismatch (λ _. asked a (λ t. is_agent (out-Ty t)) j rule.NotAgent (λ _. asked l (λ t. is_lock_type (out-Ty t)) k rule.Mismatch (λ _. Ok ty.Places)))

placing_is : (i : ℕ) (m : Check Ty) (j : ℕ) (a : Check Ty) (k : ℕ) (l : Check Ty)
    → (test_of is_places rule.Mismatch (record { at = i; type = m }) >> (test_of is_agent rule.NotAgent (record { at = j; type = a }) >> (test_of is_lock_type rule.Mismatch (record { at = k; type = l }) >> Ok ty.Places)))
    ≡ placing i m j a k l
placing_is i m j a k l =
    tested is_places rule.Mismatch i m _
    ∙ ap (λ x. asked m (λ t. is_places (out-Ty t)) i rule.Mismatch (λ _. x)) (tested is_agent rule.NotAgent j a _
    ∙ ap (λ x. asked a (λ t. is_agent (out-Ty t)) j rule.NotAgent (λ _. x)) (tested is_lock_type rule.Mismatch k l _))

module _ (w : World) (env : Types) (at : ℕ) where
  layered : (f : ExprForm) (y : ExprForm-F ExprForm Expr) → out-ExprForm f ≡ y → least_form w env f at ≡ least_step w env (least_layer w env y) at
  layered f y is = least_form-out w env f at ∙ ap (λ y. least_step w env (least_layer w env y) at) is

  pub least-val : (v : Value) → least_form w env (expr.Val v) at ≡ want (kind w v) at rule.Mismatch
  least-val v = layered (expr.Val v) _ (outs-Val v)

  pub least-var : (x : ℕ) → least_form w env (expr.Var x) at ≡ want (table.get env x) at rule.Mismatch
  least-var x = layered (expr.Var x) _ (outs-Var x)

  all_ok-map : (es : List Expr) → all_ok (map (λ (p : Least). p.type) (map (least_of w env) es)) ≡ leasts w env es
  all_ok-map [] = refl
  all_ok-map (e ∷ es) = ap (λ o. least w env e >>= λ t. o >>= λ ts. Ok (t ∷ ts)) (all_ok-map es)

  pub least-tuple : (es : List Expr) → least_form w env (expr.Tuple es) at ≡ tupling at (leasts w env es)
  least-tuple es = layered (expr.Tuple es) _ (outs-Tuple es) ∙ ap (tupling at) (all_ok-map es)

  pub least-bin : (o : Op) (a b : Expr) → least_form w env (expr.Bin o a b) at ≡ operation o a.at (least w env a) b.at (least w env b)
  least-bin o a b = layered (expr.Bin o a b) _ (outs-Bin o a b) ∙ (λ i. least_op o (least_parts w env a i) (least_parts w env b i)) ∙ operation_is o a.at (least w env a) b.at (least w env b)

  pub least-pack : (c x : Expr) → least_form w env (expr.Pack c x) at ≡ packing c.at (least w env c) x.at (least w env x)
  least-pack c x = layered (expr.Pack c x) _ (outs-Pack c x) ∙ (λ i. output (least_parts w env c i) (least_parts w env x i) >> Ok ty.Letter) ∙ packing_is c.at (least w env c) x.at (least w env x)

  pub least-with : (m a l : Expr) → least_form w env (expr.With m a l) at ≡ placing m.at (least w env m) a.at (least w env a) l.at (least w env l)
  least-with m a l =
      layered (expr.With m a l) _ (outs-With m a l)
      ∙ (λ i. test_of is_places rule.Mismatch (least_parts w env m i) >> (test_of is_agent rule.NotAgent (least_parts w env a i) >> (test_of is_lock_type rule.Mismatch (least_parts w env l i) >> Ok ty.Places)))
      ∙ placing_is m.at (least w env m) a.at (least w env a) l.at (least w env l)

-- a tuple that is narrow
module _ (w : World) (env : Types) (at : ℕ) (es : List Expr) where
  pub tuple-3 : (ts : List Ty) → leasts w env es ≡ Ok ts → ensure (narrow (ty.Tuple ts)) at rule.Wide ≡ Ok tt → least_form w env (expr.Tuple es) at ≡ Ok (ty.Tuple ts)
  tuple-3 ts p q = rw (least-tuple w env at es) (met (Ok (ty.Tuple ts)) (leasts w env es) ts (λ ts. narrow (ty.Tuple ts)) at rule.Wide (λ ts. Ok (ty.Tuple ts)) p q refl)

-- a value that a test lets pass, and what follows it
passing : {A : Type 0} (test : Bool) (at : ℕ) (r : Rule) (a : A) → (ensure test at r >> Ok a) ≡ checked test at r a
passing true at r a = refl
passing false at r a = refl

going_on : {A B : Type 0} (test : Bool) (at : ℕ) (r : Rule) (a : A) (next : A → Check B) → (ensure test at r >> next a) ≡ (checked test at r a >>= next)
going_on true at r a next = refl
going_on false at r a next = refl

-- a check whose value a test lets pass
asking : {A B : Type 0} (o : Check A) (test : A → Bool) (at : ℕ) (r : Rule) (next : A → B) → asked o test at r (λ a. Ok (next a)) ≡ (o >>= λ a. checked (test a) at r (next a))
asking (Err e) test at r next = refl
asking (Ok a) test at r next = passing (test a) at r (next a)

-- what each form with parts gives, check by check
abbrev operating : Op → ℕ → Check Ty → ℕ → Check Ty → Check Ty
operating o i x j y = x >>= λ s. checked (takes_first o (out-Ty s)) i (first_rule o) s >>= λ s. y >>= λ t. checked (takes_second o (out-Ty s) (out-Ty t)) j (second_rule o) (type_of o)

operating_is : (o : Op) (i : ℕ) (x : Check Ty) (j : ℕ) (y : Check Ty) → operation o i x j y ≡ operating o i x j y
operating_is o i (Err e) j y = refl
operating_is o i (Ok s) j y =
    ap (λ k. ensure (takes_first o (out-Ty s)) i (first_rule o) >> k) (asking y (λ t. takes_second o (out-Ty s) (out-Ty t)) j (second_rule o) (λ _. type_of o))
    ∙ going_on (takes_first o (out-Ty s)) i (first_rule o) s (λ s. y >>= λ t. checked (takes_second o (out-Ty s) (out-Ty t)) j (second_rule o) (type_of o))

abbrev lettering : ℕ → Check Ty → ℕ → Check Ty → Check Ty
lettering i c j x = c >>= λ s. written_on (out-Ty s) i >>= λ k. x >>= λ t. checked (sub t k) j rule.Mismatch ty.Letter

lettering_is : (i : ℕ) (c : Check Ty) (j : ℕ) (x : Check Ty) → packing i c j x ≡ lettering i c j x
lettering_is i (Err e) j x = refl
lettering_is i (Ok s) j x = on_chan (written_on (out-Ty s) i)
  where
    on_chan : (o : Check Ty) → (o >>= λ k. asked x (λ t. sub t k) j rule.Mismatch (λ _. Ok ty.Letter)) ≡ (o >>= λ k. x >>= λ t. checked (sub t k) j rule.Mismatch ty.Letter)
    on_chan (Err e) = refl
    on_chan (Ok k) = asking x (λ t. sub t k) j rule.Mismatch (λ _. ty.Letter)

abbrev setting : ℕ → Check Ty → ℕ → Check Ty → ℕ → Check Ty → Check Ty
setting i m j a k l =
    m >>= λ s. ensure (is_places (out-Ty s)) i rule.Mismatch >> (a >>= λ t. ensure (is_agent (out-Ty t)) j rule.NotAgent >> (l >>= λ u. checked (is_lock_type (out-Ty u)) k rule.Mismatch ty.Places))

module _ (w : World) (env : Types) (at : ℕ) where
  module _ (es : List Expr) where
    tuple-parts : least_form w env (expr.Tuple es) at ≡ (leasts w env es >>= λ ts. checked (narrow (ty.Tuple ts)) at rule.Wide (ty.Tuple ts))
    tuple-parts = least-tuple w env at es ∙ asking (leasts w env es) (λ ts. narrow (ty.Tuple ts)) at rule.Wide (λ ts. ty.Tuple ts)

    pub tuple-1 : (e : LeastFail) → Failed e (leasts w env es) → Failed e (least_form w env (expr.Tuple es) at)
    tuple-1 e h = rw tuple-parts (failed_then e (leasts w env es) _ h)

    pub tuple-2 : (r : Result Ty LeastFail) (ts : List Ty) → leasts w env es ≡ Ok ts → Told r (checked (narrow (ty.Tuple ts)) at rule.Wide (ty.Tuple ts)) → Told r (least_form w env (expr.Tuple es) at)
    tuple-2 r ts p h = rw (tuple-parts, p) h

  module _ (o : Op) (a b : Expr) where
    abbrev first : Ty → Check Ty
    first s = checked (takes_first o (out-Ty s)) a.at (first_rule o) s

    abbrev second : Ty → Ty → Check Ty
    second s t = checked (takes_second o (out-Ty s) (out-Ty t)) b.at (second_rule o) (type_of o)

    bin-parts : least_form w env (expr.Bin o a b) at ≡ operating o a.at (least w env a) b.at (least w env b)
    bin-parts = least-bin w env at o a b ∙ operating_is o a.at (least w env a) b.at (least w env b)

    pub bin-1 : (e : LeastFail) → Failed e (least w env a) → Failed e (least_form w env (expr.Bin o a b) at)
    bin-1 e h = rw bin-parts (failed_then e (least w env a) _ h)

    pub bin-2 : (e : LeastFail) (s : Ty) → least w env a ≡ Ok s → Failed e (first s) → Failed e (least_form w env (expr.Bin o a b) at)
    bin-2 e s p h = rw (bin-parts, p) (failed_then e (first s) _ h)

    pub bin-3 : (e : LeastFail) (s u : Ty) → least w env a ≡ Ok s → first s ≡ Ok u → Failed e (least w env b) → Failed e (least_form w env (expr.Bin o a b) at)
    bin-3 e s u p q h = rw (bin-parts, p, q) (failed_then e (least w env b) _ h)

    pub bin-4 : (r : Result Ty LeastFail) (s u t : Ty) → least w env a ≡ Ok s → first s ≡ Ok u → least w env b ≡ Ok t → Told r (second u t) → Told r (least_form w env (expr.Bin o a b) at)
    bin-4 r s u t p q k h = rw (bin-parts, p, q, k) h

  module _ (a b : Expr) where
    pack-parts : least_form w env (expr.Pack a b) at ≡ lettering a.at (least w env a) b.at (least w env b)
    pack-parts = least-pack w env at a b ∙ lettering_is a.at (least w env a) b.at (least w env b)

    pub pack-1 : (e : LeastFail) → Failed e (least w env a) → Failed e (least_form w env (expr.Pack a b) at)
    pack-1 e h = rw pack-parts (failed_then e (least w env a) _ h)

    pub pack-2 : (e : LeastFail) (s : Ty) → least w env a ≡ Ok s → Failed e (written_on (out-Ty s) a.at) → Failed e (least_form w env (expr.Pack a b) at)
    pack-2 e s p h = rw (pack-parts, p) (failed_then e (written_on (out-Ty s) a.at) _ h)

    pub pack-3 : (e : LeastFail) (s k : Ty) → least w env a ≡ Ok s → written_on (out-Ty s) a.at ≡ Ok k → Failed e (least w env b) → Failed e (least_form w env (expr.Pack a b) at)
    pack-3 e s k p q h = rw (pack-parts, p, q) (failed_then e (least w env b) _ h)

    pub pack-4 : (r : Result Ty LeastFail) (s k t : Ty) → least w env a ≡ Ok s → written_on (out-Ty s) a.at ≡ Ok k → least w env b ≡ Ok t
        → Told r (checked (sub t k) b.at rule.Mismatch ty.Letter) → Told r (least_form w env (expr.Pack a b) at)
    pack-4 r s k t p q u h = rw (pack-parts, p, q, u) h

  module _ (m a l : Expr) where
    abbrev maps : Ty → Check (Unit {0})
    maps t = ensure (is_places (out-Ty t)) m.at rule.Mismatch

    abbrev acts : Ty → Check (Unit {0})
    acts t = ensure (is_agent (out-Ty t)) a.at rule.NotAgent

    with-parts : least_form w env (expr.With m a l) at ≡ setting m.at (least w env m) a.at (least w env a) l.at (least w env l)
    with-parts =
        least-with w env at m a l
        ∙ ap (λ k. asked (least w env m) (λ t. is_places (out-Ty t)) m.at rule.Mismatch (λ _. asked (least w env a) (λ t. is_agent (out-Ty t)) a.at rule.NotAgent (λ _. k)))
        (asking (least w env l) (λ t. is_lock_type (out-Ty t)) l.at rule.Mismatch (λ _. ty.Places))

    pub with-1 : (e : LeastFail) → Failed e (least w env m) → Failed e (least_form w env (expr.With m a l) at)
    with-1 e h = rw with-parts (failed_then e (least w env m) _ h)

    pub with-2 : (e : LeastFail) (s : Ty) → least w env m ≡ Ok s → Failed e (maps s) → Failed e (least_form w env (expr.With m a l) at)
    with-2 e s p h = rw (with-parts, p) (failed_then e (maps s) _ h)

    pub with-3 : (e : LeastFail) (s : Ty) → least w env m ≡ Ok s → maps s ≡ Ok tt → Failed e (least w env a) → Failed e (least_form w env (expr.With m a l) at)
    with-3 e s p q h = rw (with-parts, p, q) (failed_then e (least w env a) _ h)

    pub with-4 : (e : LeastFail) (s t : Ty) → least w env m ≡ Ok s → maps s ≡ Ok tt → least w env a ≡ Ok t → Failed e (acts t) → Failed e (least_form w env (expr.With m a l) at)
    with-4 e s t p q u h = rw (with-parts, p, q, u) (failed_then e (acts t) _ h)

    pub with-5 : (e : LeastFail) (s t : Ty) → least w env m ≡ Ok s → maps s ≡ Ok tt → least w env a ≡ Ok t → acts t ≡ Ok tt → Failed e (least w env l) → Failed e (least_form w env (expr.With m a l) at)
    with-5 e s t p q u v h = rw (with-parts, p, q, u, v) (failed_then e (least w env l) _ h)

    pub with-6 : (r : Result Ty LeastFail) (s t k : Ty) → least w env m ≡ Ok s → maps s ≡ Ok tt → least w env a ≡ Ok t → acts t ≡ Ok tt → least w env l ≡ Ok k
        → Told r (checked (is_lock_type (out-Ty k)) l.at rule.Mismatch ty.Places) → Told r (least_form w env (expr.With m a l) at)
    with-6 r s t k p q u v x h = rw (with-parts, p, q, u, v, x) h

-- an output and an input, check by check
abbrev pub sending : ℕ → Check Ty → ℕ → Check Ty → Check (Unit {0})
sending i c j x = c >>= λ s. written_on (out-Ty s) i >>= λ k. x >>= λ t. ensure (sub t k) j rule.Mismatch

sending_is : (i : ℕ) (c : Check Ty) (j : ℕ) (x : Check Ty) → output (record { at = i; type = c }) (record { at = j; type = x }) ≡ sending i c j x
sending_is i (Err e) j x = refl
sending_is i (Ok s) j x = on_form (as_channel (out-Ty s))
  where
    sent : (b : Bool) (k : Ty)
        → (ensure b i rule.NoOutput >> (x >>= λ t. ensure (sub t k) j rule.Mismatch)) ≡ ((ensure b i rule.NoOutput >> Ok k) >>= λ k. x >>= λ t. ensure (sub t k) j rule.Mismatch)
    sent true k = refl
    sent false k = refl

    on_form : (o : Option (Cap × Ty))
        → (want o i rule.NotChannel >>= λ k. ensure (writes k.0) i rule.NoOutput >> (x >>= λ t. ensure (sub t k.1) j rule.Mismatch))
        ≡ ((want o i rule.NotChannel >>= λ k. ensure (writes k.0) i rule.NoOutput >> Ok k.1) >>= λ k. x >>= λ t. ensure (sub t k) j rule.Mismatch)
    on_form None = refl
    on_form (Some k) = sent (writes k.0) k.1

pub output-parts : (w : World) (env : Types) (c x : Expr) → output (least_of w env c) (least_of w env x) ≡ sending c.at (least w env c) x.at (least w env x)
output-parts w env c x = (λ i. output (least_parts w env c i) (least_parts w env x i)) ∙ sending_is c.at (least w env c) x.at (least w env x)

taking_is : (i : ℕ) (c : Check Ty) → input (record { at = i; type = c }) ≡ (c >>= λ s. read_on (out-Ty s) i)
taking_is i (Err e) = refl
taking_is i (Ok s) = refl

pub input-parts : (w : World) (env : Types) (c : Expr) → input (least_of w env c) ≡ (least w env c >>= λ s. read_on (out-Ty s) c.at)
input-parts w env c = (λ i. input (least_parts w env c i)) ∙ taking_is c.at (least w env c)

-- the types so far, and then those of the rest
abbrev pub after_leasts : List Ty → Check (List Ty) → Check (List Ty)
after_leasts ts (Ok rest) = Ok (ts ++ rest)
after_leasts ts (Err f) = Err f

pub ruleset least_types = (least-form, least-val, least-var)
