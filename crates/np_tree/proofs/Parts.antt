-- Two forms are the same but for offsets exactly where their parts are.
use Rattle.std.proofs.Common.{◌≡◌, ◌↔◌, ℕ, zero, suc, ◌<◌, Bool, false, List, [], ◌∷◌, map, length, get_or, refl, sym, ap, ◌∙◌, arith}
use Rattle.std.specs.Prelude.{IsTrue}
use Rattle.np_syntax.specs.declared.types.Ty.{Ty}
use Rattle.np_syntax.specs.declared.expression.Op.{Op}
use Rattle.np_tree.specs.declared.tree.Ident.{Ident}
use Rattle.np_tree.specs.declared.tree.RawExpr.{RawExpr}
use Rattle.np_tree.specs.declared.tree.RawExprForm.{RawExprForm, out-RawExprForm}
use Rattle.np_tree.specs.declared.tree.RawExprForm as expr
use Rattle.np_tree.specs.declared.tree.RawPat.{RawPat}
use Rattle.np_tree.specs.declared.tree.RawPatForm.{RawPatForm, out-RawPatForm}
use Rattle.np_tree.specs.declared.tree.RawPatForm as pat
use Rattle.np_tree.specs.declared.tree.RawProc.{RawProc}
use Rattle.np_tree.specs.declared.tree.RawProcForm.{RawProcForm, RawProcForm-F, out-RawProcForm, roll-RawProcForm, roll-out-RawProcForm}
use Rattle.np_tree.specs.declared.tree.RawProcForm as form
use Rattle.np_tree.specs.Grammar.{expression, pattern, process}
use Rattle.np_tree.specs.Erased.{erased_ident, erased_expr_form, erased_expr, erased_pat_form, erased_pat, erased_proc_form, erased_proc}
use Rattle.np_tree.proofs.Erases.{erased-tuple, erased-bin, erased-tuple_pat, erased-par, erased-new, erased-inp, erased-rep, erased-agent, erased-migrate, erased-iflocal, erased-if, erased-let}

-- the whole holds exactly where both parts do
pub record Splits (C A B : Type 0) : Type 0 where
  pub parts : C → A × B
  pub whole : A → B → C

-- the first test passed
pub both : {A B C : Type 0} {s : Bool} → Splits C A B → A → (IsTrue s ↔ B) → IsTrue s ↔ C
both p a s = (λ h. p.whole a (s.0 h), λ c. s.1 (p.parts c).1)

-- the first test failed
pub fails : {A B C : Type 0} {r : Bool} → Splits C A B → (IsTrue r ↔ A) → r ≡ false → IsTrue r ↔ C
fails p r e = (λ h. cc, λ c. r.1 (p.parts c).0)

-- what is left to test once the first test has passed
pub under : {A B D C : Type 0} → Splits C A (B × D) → A → Splits C B D
under p a = record { parts = λ c. (p.parts c).1; whole = λ b d. p.whole a (b, d) }

-- ---- lists

pub same_lists : {A B : Type 0} (f : A → B) (xs ys : List A) → length xs ≡ length ys → ((k : ℕ) (d : A) → k < length xs → f (get_or xs k d) ≡ f (get_or ys k d)) → map f xs ≡ map f ys
same_lists f [] [] e h = refl
same_lists f [] (y ∷ ys) e h = absurd (omega arith)
same_lists f (x ∷ xs) [] e h = absurd (omega arith)
same_lists f (x ∷ xs) (y ∷ ys) e h =
    let head : f x ≡ f y = h 0 x (omega arith) in
    let tails : map f xs ≡ map f ys = same_lists f xs ys (omega arith) (λ k d below. h (suc k) d (omega arith)) in
    rw (head, tails)

abbrev head_or : {B : Type 0} → B → List B → B
head_or d [] = d
head_or d (x ∷ xs) = x

abbrev tail : {B : Type 0} → List B → List B
tail [] = []
tail (x ∷ xs) = xs

pub lists_at : {A B : Type 0} (f : A → B) (xs ys : List A) → map f xs ≡ map f ys → (k : ℕ) (c d : A) → k < length xs → f (get_or xs k c) ≡ f (get_or ys k d)
lists_at f [] ys e k c d below = absurd (omega arith)
lists_at f (x ∷ xs) [] e k c d below = cc
lists_at f (x ∷ xs) (y ∷ ys) e zero c d below = ap (head_or (f x)) e
lists_at f (x ∷ xs) (y ∷ ys) e (suc k) c d below = lists_at f xs ys (ap tail e) k c d (omega arith)

-- ---- expressions

module _ (f g : RawExprForm) (xs ys : List RawExpr) (ef : f ≡ expr.Tuple xs) (eg : g ≡ expr.Tuple ys) where
  first : erased_expr_form f ≡ expr.Tuple (map erased_expr xs)
  first = ap erased_expr_form ef ∙ erased-tuple xs

  second : erased_expr_form g ≡ expr.Tuple (map erased_expr ys)
  second = ap erased_expr_form eg ∙ erased-tuple ys

  pub tuple_same : (map erased_expr xs ≡ map erased_expr ys) ↔ (expression 0 (erased_expr_form f) ≡ expression 0 (erased_expr_form g))
  tuple_same = (λ h. ap (expression 0) (first ∙ ap expr.Tuple h ∙ sym second), λ h. inside (sym first ∙ ap (λ (x : RawExpr). x.form) h ∙ second))
    where
      inside : expr.Tuple (map erased_expr xs) ≡ expr.Tuple (map erased_expr ys) → map erased_expr xs ≡ map erased_expr ys
      inside e = let h = sym (expr.TheVariants.outs-Tuple (map erased_expr xs)) ∙ ap out-RawExprForm e ∙ expr.TheVariants.outs-Tuple (map erased_expr ys) in cc

bins : (o p : Op) (x y u v : RawExpr) → expr.Bin o x y ≡ expr.Bin p u v → (o ≡ p) × ((x ≡ u) × (y ≡ v))
bins o p x y u v e = let h = sym (expr.TheVariants.outs-Bin o x y) ∙ ap out-RawExprForm e ∙ expr.TheVariants.outs-Bin p u v in (cc, (cc, cc))

pub bin : (f g : RawExprForm) (o p : Op) (x y u v : RawExpr) → f ≡ expr.Bin o x y → g ≡ expr.Bin p u v
    → Splits (expression 0 (erased_expr_form f) ≡ expression 0 (erased_expr_form g)) (o ≡ p) ((erased_expr x ≡ erased_expr u) × (erased_expr y ≡ erased_expr v))
bin f g o p x y u v ef eg =
    let first = ap erased_expr_form ef ∙ erased-bin o x y in
    let second = ap erased_expr_form eg ∙ erased-bin p u v in
    record {
      parts = λ h. bins _ _ _ _ _ _ (sym first ∙ ap (λ (x : RawExpr). x.form) h ∙ second);
      whole = λ eo e. ap (expression 0) (first ∙ (λ i. expr.Bin (eo i) (e.0 i) (e.1 i)) ∙ sym second);
    }

-- ---- patterns

module _ (f g : RawPatForm) (ps qs : List RawPat) (ef : f ≡ pat.Tuple ps) (eg : g ≡ pat.Tuple qs) where
  first_pat : erased_pat_form f ≡ pat.Tuple (map erased_pat ps)
  first_pat = ap erased_pat_form ef ∙ erased-tuple_pat ps

  second_pat : erased_pat_form g ≡ pat.Tuple (map erased_pat qs)
  second_pat = ap erased_pat_form eg ∙ erased-tuple_pat qs

  pub tuple_pat_same : (map erased_pat ps ≡ map erased_pat qs) ↔ (pattern 0 (erased_pat_form f) ≡ pattern 0 (erased_pat_form g))
  tuple_pat_same = (λ h. ap (pattern 0) (first_pat ∙ ap pat.Tuple h ∙ sym second_pat), λ h. inside (sym first_pat ∙ ap (λ (p : RawPat). p.form) h ∙ second_pat))
    where
      inside : pat.Tuple (map erased_pat ps) ≡ pat.Tuple (map erased_pat qs) → map erased_pat ps ≡ map erased_pat qs
      inside e = let h = sym (pat.TheVariants.outs-Tuple (map erased_pat ps)) ∙ ap out-RawPatForm e ∙ pat.TheVariants.outs-Tuple (map erased_pat qs) in cc

-- ---- processes

abbrev Same : RawProcForm → RawProcForm → Type 0
Same f g = process 0 (erased_proc_form f) ≡ process 0 (erased_proc_form g)

-- where two forms are erased to these, they are the same exactly where these are
inner : (f g : RawProcForm) {h k : RawProcForm} → erased_proc_form f ≡ h → erased_proc_form g ≡ k → Same f g → h ≡ k
inner f g e d s = sym e ∙ ap (λ (x : RawProc). x.form) s ∙ d

outer : (f g : RawProcForm) {h k : RawProcForm} → erased_proc_form f ≡ h → erased_proc_form g ≡ k → h ≡ k → Same f g
outer f g e d s = ap (process 0) (e ∙ s ∙ sym d)

pars : (p q u v : RawProc) → form.Par p q ≡ form.Par u v → (p ≡ u) × (q ≡ v)
pars p q u v e = let h = sym (form.TheVariants.outs-Par p q) ∙ ap out-RawProcForm e ∙ form.TheVariants.outs-Par u v in (cc, cc)

pub par : (f g : RawProcForm) (p q u v : RawProc) → f ≡ form.Par p q → g ≡ form.Par u v → Splits (Same f g) (erased_proc p ≡ erased_proc u) (erased_proc q ≡ erased_proc v)
par f g p q u v ef eg =
    let first = ap erased_proc_form ef ∙ erased-par p q in
    let second = ap erased_proc_form eg ∙ erased-par u v in
    record { parts = λ h. pars _ _ _ _ (inner f g first second h); whole = λ a b. outer f g first second (λ i. form.Par (a i) (b i)) }

news : (c d : Ident) (t s : Ty) (p u : RawProc) → form.New c t p ≡ form.New d s u → ((c ≡ d) × (t ≡ s)) × (p ≡ u)
news c d t s p u e = let h = sym (form.TheVariants.outs-New c t p) ∙ ap out-RawProcForm e ∙ form.TheVariants.outs-New d s u in ((cc, cc), cc)

pub new : (f g : RawProcForm) (c d : Ident) (t s : Ty) (p u : RawProc) → f ≡ form.New c t p → g ≡ form.New d s u
    → Splits (Same f g) ((erased_ident c ≡ erased_ident d) × (t ≡ s)) (erased_proc p ≡ erased_proc u)
new f g c d t s p u ef eg =
    let first = ap erased_proc_form ef ∙ erased-new c t p in
    let second = ap erased_proc_form eg ∙ erased-new d s u in
    record { parts = λ h. news _ _ _ _ _ _ (inner f g first second h); whole = λ a b. outer f g first second (λ i. form.New (a.0 i) (a.1 i) (b i)) }

inps : (c d : Ident) (m n : RawPat) (p u : RawProc) → form.Inp c m p ≡ form.Inp d n u → ((c ≡ d) × (m ≡ n)) × (p ≡ u)
inps c d m n p u e = let h = sym (form.TheVariants.outs-Inp c m p) ∙ ap out-RawProcForm e ∙ form.TheVariants.outs-Inp d n u in ((cc, cc), cc)

pub inp : (f g : RawProcForm) (c d : Ident) (m n : RawPat) (p u : RawProc) → f ≡ form.Inp c m p → g ≡ form.Inp d n u
    → Splits (Same f g) ((erased_ident c ≡ erased_ident d) × (erased_pat m ≡ erased_pat n)) (erased_proc p ≡ erased_proc u)
inp f g c d m n p u ef eg =
    let first = ap erased_proc_form ef ∙ erased-inp c m p in
    let second = ap erased_proc_form eg ∙ erased-inp d n u in
    record { parts = λ h. inps _ _ _ _ _ _ (inner f g first second h); whole = λ a b. outer f g first second (λ i. form.Inp (a.0 i) (a.1 i) (b i)) }

reps : (c d : Ident) (m n : RawPat) (p u : RawProc) → form.Rep c m p ≡ form.Rep d n u → ((c ≡ d) × (m ≡ n)) × (p ≡ u)
reps c d m n p u e = let h = sym (form.TheVariants.outs-Rep c m p) ∙ ap out-RawProcForm e ∙ form.TheVariants.outs-Rep d n u in ((cc, cc), cc)

pub rep : (f g : RawProcForm) (c d : Ident) (m n : RawPat) (p u : RawProc) → f ≡ form.Rep c m p → g ≡ form.Rep d n u
    → Splits (Same f g) ((erased_ident c ≡ erased_ident d) × (erased_pat m ≡ erased_pat n)) (erased_proc p ≡ erased_proc u)
rep f g c d m n p u ef eg =
    let first = ap erased_proc_form ef ∙ erased-rep c m p in
    let second = ap erased_proc_form eg ∙ erased-rep d n u in
    record { parts = λ h. reps _ _ _ _ _ _ (inner f g first second h); whole = λ a b. outer f g first second (λ i. form.Rep (a.0 i) (a.1 i) (b i)) }

agents : (c d : Ident) (p q u v : RawProc) → form.Agent c p q ≡ form.Agent d u v → (c ≡ d) × ((p ≡ u) × (q ≡ v))
agents c d p q u v e = let h = sym (form.TheVariants.outs-Agent c p q) ∙ ap out-RawProcForm e ∙ form.TheVariants.outs-Agent d u v in (cc, (cc, cc))

pub agent : (f g : RawProcForm) (c d : Ident) (p q u v : RawProc) → f ≡ form.Agent c p q → g ≡ form.Agent d u v
    → Splits (Same f g) (erased_ident c ≡ erased_ident d) ((erased_proc p ≡ erased_proc u) × (erased_proc q ≡ erased_proc v))
agent f g c d p q u v ef eg =
    let first = ap erased_proc_form ef ∙ erased-agent c p q in
    let second = ap erased_proc_form eg ∙ erased-agent d u v in
    record { parts = λ h. agents _ _ _ _ _ _ (inner f g first second h); whole = λ a b. outer f g first second (λ i. form.Agent (a i) (b.0 i) (b.1 i)) }

migrates : (x y : RawExpr) (p u : RawProc) → form.Migrate x p ≡ form.Migrate y u → (x ≡ y) × (p ≡ u)
migrates x y p u e = let h = sym (form.TheVariants.outs-Migrate x p) ∙ ap out-RawProcForm e ∙ form.TheVariants.outs-Migrate y u in (cc, cc)

pub migrate : (f g : RawProcForm) (x y : RawExpr) (p u : RawProc) → f ≡ form.Migrate x p → g ≡ form.Migrate y u
    → Splits (Same f g) (erased_expr x ≡ erased_expr y) (erased_proc p ≡ erased_proc u)
migrate f g x y p u ef eg =
    let first = ap erased_proc_form ef ∙ erased-migrate x p in
    let second = ap erased_proc_form eg ∙ erased-migrate y u in
    record { parts = λ h. migrates _ _ _ _ (inner f g first second h); whole = λ a b. outer f g first second (λ i. form.Migrate (a i) (b i)) }

iflocals : (x y : RawExpr) (c d : Ident) (z w : RawExpr) (p q u v : RawProc) → form.IfLocal x c z p q ≡ form.IfLocal y d w u v
    → ((x ≡ y) × (c ≡ d) × (z ≡ w)) × ((p ≡ u) × (q ≡ v))
iflocals x y c d z w p q u v e =
    let h = sym (form.TheVariants.outs-IfLocal x c z p q) ∙ ap out-RawProcForm e ∙ form.TheVariants.outs-IfLocal y d w u v in ((cc, cc, cc), (cc, cc))

pub iflocal : (f g : RawProcForm) (x y : RawExpr) (c d : Ident) (z w : RawExpr) (p q u v : RawProc) → f ≡ form.IfLocal x c z p q → g ≡ form.IfLocal y d w u v
    → Splits (Same f g) ((erased_expr x ≡ erased_expr y) × (erased_ident c ≡ erased_ident d) × (erased_expr z ≡ erased_expr w)) ((erased_proc p ≡ erased_proc u) × (erased_proc q ≡ erased_proc v))
iflocal f g x y c d z w p q u v ef eg =
    let first = ap erased_proc_form ef ∙ erased-iflocal x c z p q in
    let second = ap erased_proc_form eg ∙ erased-iflocal y d w u v in
    record {
      parts = λ h. iflocals _ _ _ _ _ _ _ _ _ _ (inner f g first second h);
      whole = λ a b. outer f g first second (λ i. form.IfLocal (a.0 i) (a.1 i) (a.2 i) (b.0 i) (b.1 i));
    }

ifs : (x y : RawExpr) (p q u v : RawProc) → form.If x p q ≡ form.If y u v → (x ≡ y) × ((p ≡ u) × (q ≡ v))
ifs x y p q u v e = let h = sym (form.TheVariants.outs-If x p q) ∙ ap out-RawProcForm e ∙ form.TheVariants.outs-If y u v in (cc, (cc, cc))

pub test : (f g : RawProcForm) (x y : RawExpr) (p q u v : RawProc) → f ≡ form.If x p q → g ≡ form.If y u v
    → Splits (Same f g) (erased_expr x ≡ erased_expr y) ((erased_proc p ≡ erased_proc u) × (erased_proc q ≡ erased_proc v))
test f g x y p q u v ef eg =
    let first = ap erased_proc_form ef ∙ erased-if x p q in
    let second = ap erased_proc_form eg ∙ erased-if y u v in
    record { parts = λ h. ifs _ _ _ _ _ _ (inner f g first second h); whole = λ a b. outer f g first second (λ i. form.If (a i) (b.0 i) (b.1 i)) }

lets : (m n : RawPat) (x y : RawExpr) (p u : RawProc) → form.Let m x p ≡ form.Let n y u → ((m ≡ n) × (x ≡ y)) × (p ≡ u)
lets m n x y p u e = let h = sym (form.TheVariants.outs-Let m x p) ∙ ap out-RawProcForm e ∙ form.TheVariants.outs-Let n y u in ((cc, cc), cc)

pub bind : (f g : RawProcForm) (m n : RawPat) (x y : RawExpr) (p u : RawProc) → f ≡ form.Let m x p → g ≡ form.Let n y u
    → Splits (Same f g) ((erased_pat m ≡ erased_pat n) × (erased_expr x ≡ erased_expr y)) (erased_proc p ≡ erased_proc u)
bind f g m n x y p u ef eg =
    let first = ap erased_proc_form ef ∙ erased-let m x p in
    let second = ap erased_proc_form eg ∙ erased-let n y u in
    record { parts = λ h. lets _ _ _ _ _ _ (inner f g first second h); whole = λ a b. outer f g first second (λ i. form.Let (a.0 i) (a.1 i) (b i)) }

-- ---- forms of two kinds are never the same

abbrev Layer : Type 0
Layer = RawProcForm-F RawProcForm RawProc

-- the place of a form in the list of forms
abbrev kind : Layer → ℕ
kind RawProcForm-F.Stop = 0
kind (RawProcForm-F.Par p q) = 1
kind (RawProcForm-F.New c t p) = 2
kind (RawProcForm-F.Out c x) = 3
kind (RawProcForm-F.Inp c m p) = 4
kind (RawProcForm-F.Rep c m p) = 5
kind (RawProcForm-F.Agent c p q) = 6
kind (RawProcForm-F.Migrate x p) = 7
kind (RawProcForm-F.IfLocal x c z p q) = 8
kind (RawProcForm-F.Send x y c z) = 9
kind (RawProcForm-F.Post x c z) = 10
kind (RawProcForm-F.If x p q) = 11
kind (RawProcForm-F.Let m x p) = 12
kind (RawProcForm-F.Print x) = 13

abbrev kind_of : RawProcForm → ℕ
kind_of f = kind (out-RawProcForm f)

of_layer : (f : RawProcForm) (y : Layer) → out-RawProcForm f ≡ y → kind_of (erased_proc_form f) ≡ kind y
of_layer f RawProcForm-F.Stop is = ap kind_of (ap erased_proc_form (sym (roll-out-RawProcForm f) ∙ ap roll-RawProcForm is ∙ form.TheVariants.rolls-Stop)) ∙ ap kind (form.TheVariants.outs-Stop)
of_layer f (RawProcForm-F.Par p q) is = ap kind_of (ap erased_proc_form (sym (roll-out-RawProcForm f) ∙ ap roll-RawProcForm is ∙ form.TheVariants.rolls-Par p q) ∙ erased-par p q) ∙ ap kind (form.TheVariants.outs-Par _ _)
of_layer f (RawProcForm-F.New c t p) is = ap kind_of (ap erased_proc_form (sym (roll-out-RawProcForm f) ∙ ap roll-RawProcForm is ∙ form.TheVariants.rolls-New c t p) ∙ erased-new c t p) ∙ ap kind (form.TheVariants.outs-New _ _ _)
of_layer f (RawProcForm-F.Out c x) is = ap kind_of (ap erased_proc_form (sym (roll-out-RawProcForm f) ∙ ap roll-RawProcForm is ∙ form.TheVariants.rolls-Out c x)) ∙ ap kind (form.TheVariants.outs-Out _ _)
of_layer f (RawProcForm-F.Inp c m p) is = ap kind_of (ap erased_proc_form (sym (roll-out-RawProcForm f) ∙ ap roll-RawProcForm is ∙ form.TheVariants.rolls-Inp c m p) ∙ erased-inp c m p) ∙ ap kind (form.TheVariants.outs-Inp _ _ _)
of_layer f (RawProcForm-F.Rep c m p) is = ap kind_of (ap erased_proc_form (sym (roll-out-RawProcForm f) ∙ ap roll-RawProcForm is ∙ form.TheVariants.rolls-Rep c m p) ∙ erased-rep c m p) ∙ ap kind (form.TheVariants.outs-Rep _ _ _)
of_layer f (RawProcForm-F.Agent c p q) is = ap kind_of (ap erased_proc_form (sym (roll-out-RawProcForm f) ∙ ap roll-RawProcForm is ∙ form.TheVariants.rolls-Agent c p q) ∙ erased-agent c p q) ∙ ap kind (form.TheVariants.outs-Agent _ _ _)
of_layer f (RawProcForm-F.Migrate x p) is = ap kind_of (ap erased_proc_form (sym (roll-out-RawProcForm f) ∙ ap roll-RawProcForm is ∙ form.TheVariants.rolls-Migrate x p) ∙ erased-migrate x p) ∙ ap kind (form.TheVariants.outs-Migrate _ _)
of_layer f (RawProcForm-F.IfLocal x c z p q) is = ap kind_of (ap erased_proc_form (sym (roll-out-RawProcForm f) ∙ ap roll-RawProcForm is ∙ form.TheVariants.rolls-IfLocal x c z p q) ∙ erased-iflocal x c z p q) ∙ ap kind (form.TheVariants.outs-IfLocal _ _ _ _ _)
of_layer f (RawProcForm-F.Send x y c z) is = ap kind_of (ap erased_proc_form (sym (roll-out-RawProcForm f) ∙ ap roll-RawProcForm is ∙ form.TheVariants.rolls-Send x y c z)) ∙ ap kind (form.TheVariants.outs-Send _ _ _ _)
of_layer f (RawProcForm-F.Post x c z) is = ap kind_of (ap erased_proc_form (sym (roll-out-RawProcForm f) ∙ ap roll-RawProcForm is ∙ form.TheVariants.rolls-Post x c z)) ∙ ap kind (form.TheVariants.outs-Post _ _ _)
of_layer f (RawProcForm-F.If x p q) is = ap kind_of (ap erased_proc_form (sym (roll-out-RawProcForm f) ∙ ap roll-RawProcForm is ∙ form.TheVariants.rolls-If x p q) ∙ erased-if x p q) ∙ ap kind (form.TheVariants.outs-If _ _ _)
of_layer f (RawProcForm-F.Let m x p) is = ap kind_of (ap erased_proc_form (sym (roll-out-RawProcForm f) ∙ ap roll-RawProcForm is ∙ form.TheVariants.rolls-Let m x p) ∙ erased-let m x p) ∙ ap kind (form.TheVariants.outs-Let _ _ _)
of_layer f (RawProcForm-F.Print x) is = ap kind_of (ap erased_proc_form (sym (roll-out-RawProcForm f) ∙ ap roll-RawProcForm is ∙ form.TheVariants.rolls-Print x)) ∙ ap kind (form.TheVariants.outs-Print _)

pub alike : (f g : RawProcForm) → Same f g → kind_of f ≡ kind_of g
alike f g same = sym (of_layer f (out-RawProcForm f) refl) ∙ ap (λ (p : RawProc). kind_of p.form) same ∙ of_layer g (out-RawProcForm g) refl
