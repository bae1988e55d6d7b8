-- No tree is refused for want of memory: where its names are resolved, that is no outcome.
use Rattle.std.proofs.Common.{◌≡◌, ◌≢◌, ℕ, Bool, true, false, nat_lt, is_some, if◌then◌else◌, Option, None, Some, List, [], ◌∷◌, ◌+◌, length, Ok, Err, sym, subst, ap, ◌∙◌}
use Rattle.np_syntax.specs.Results.{◌>>=◌}
use Rattle.np_syntax.specs.declared.limits.TheConstants.{MOST_SITES}
use Rattle.np_syntax.specs.declared.types.Ty.{Ty}
use Rattle.np_tree.specs.declared.tree.Ident.{Ident}
use Rattle.np_tree.specs.declared.tree.Tree.{Tree}
use Rattle.np_tree.specs.declared.tree.RawExpr.{RawExpr}
use Rattle.np_tree.specs.declared.tree.RawPat.{RawPat}
use Rattle.np_tree.specs.declared.tree.RawProc.{RawProc}
use Rattle.np_tree.specs.declared.tree.RawProcForm.{RawProcForm}
use Rattle.np_tree.specs.declared.tree.RawExprForm as rawexpr
use Rattle.np_tree.specs.declared.tree.RawProcForm as raw
use Rattle.np_tree.specs.Grammar as grammar
use Rattle.np_scope.specs.declared.fail.ScopeFail.{ScopeFail}
use Rattle.np_scope.specs.declared.fail.ScopeFail.TheVariants as fail
use Rattle.np_scope.specs.declared.numbers.Numbers.{Numbers}
use Rattle.np_scope.specs.declared.scope.Meaning.{Meaning}
use Rattle.np_scope.specs.declared.scope.Meaning.TheVariants as meaning
use Rattle.np_scope.specs.Naming.{Named, meaning_of, meant_at, meant, use_of}
use Rattle.np_scope.specs.Outcomes.{Outcome}
use Rattle.np_scope.specs.Resolved.{expr_of, exprs_of, next_node, next_both, with_binder, pat_of, FormIn, two, under, proc_of, proc_form_of}
use Rattle.np_scope.specs.Resolved.{par_form, new_form, out_form, inp_form, rep_form, agent_form, migrate_form, iflocal_form, send_form, post_form}
use Rattle.np_scope.specs.Resolved.{if_form, let_form, print_form, message, addressed, located, with_site, with_sites, home_at, home_of, first_numbers, main_of, resolved}
use Rattle.np_scope.specs.Written.{HasLiterals, HaveLiterals, IsWritten}
use Rattle.np_scope.proofs.Forms.{expr-form, expr-val, expr-main, expr-var, expr-tuple, expr-bin, proc-form, proc-stop, proc-par, proc-new, proc-out, proc-inp}
use Rattle.np_scope.proofs.Forms.{proc-rep, proc-agent, proc-migrate, proc-iflocal, proc-send, proc-post, proc-if, proc-let, proc-print}

-- it is not want of memory
pub record Tells {A : Type 0} (o : Outcome A) : Type 0 where
  pub not : o ≢ Err fail.Memory

done : {A : Type 0} (a : A) → Tells (Ok a)
done a = record { not = λ e. cc }

refused : {A : Type 0} (e : ScopeFail) → e ≢ fail.Memory → Tells {A = A} (Err e)
refused e h = record { not = λ is. let same : e ≡ fail.Memory = cc in h same }

moved : {A : Type 0} {o new : Outcome A} → new ≡ o → Tells o → Tells new
moved {A} is h = subst Tells (sym is) h

and_then : {A B : Type 0} {f : A → Outcome B} (o : Outcome A) → Tells o → ((a : A) → Tells (f a)) → Tells (o >>= f)
and_then (Ok a) h g = g a
and_then (Err e) h g = refused e (λ is. h.not (ap Err is))

-- ---- expressions

meaning-tells : (at : ℕ) (o : Option Meaning) → Tells (meant_at at o)
meaning-tells at None = refused _ (λ e. cc)
meaning-tells at (Some (meaning.Site s)) = done _
meaning-tells at (Some (meaning.Binder x)) = done _

use-tells : (scope : List Named) (name : Ident) → Tells (use_of scope name)
use-tells scope name = and_then (meant scope name) (meaning-tells name.at (meaning_of scope name.text)) (λ f. done _)

mutual
  expr-tells : (n : ℕ) (scope : List Named) {e : RawExpr} → HasLiterals e → Tells (expr_of n e scope)
  expr-tells n scope (HasLiterals.literal {at = at} {v = v} l) = moved (expr-form n (grammar.expression at (rawexpr.Val v)) scope ∙ expr-val n at scope v) (done _)
  expr-tells n scope (HasLiterals.main {at = at}) = moved (expr-form n (grammar.expression at rawexpr.Main) scope ∙ expr-main n at scope) (done _)
  expr-tells n scope (HasLiterals.name {at = at} {x = x}) =
      moved (expr-form n (grammar.expression at (rawexpr.Var x)) scope ∙ expr-var n at scope x)
      (and_then (meant scope x) (meaning-tells x.at (meaning_of scope x.text)) (λ f. done _))
  expr-tells n scope (HasLiterals.tuple {at = at} {es = es} gs) =
      moved (expr-form n (grammar.expression at (rawexpr.Tuple es)) scope ∙ expr-tuple n at scope es) (and_then (exprs_of n es scope) (exprs-tell n scope gs) (λ xs. done _))
  expr-tells n scope (HasLiterals.operation {at = at} {o = o} {a = a} {b = b} f g) =
      moved (expr-form n (grammar.expression at (rawexpr.Bin o a b)) scope ∙ expr-bin n at scope o a b)
      (and_then (expr_of n a scope) (expr-tells n scope f) (λ x. and_then (expr_of n b scope) (expr-tells n scope g) (λ y. done _)))

  exprs-tell : (n : ℕ) (scope : List Named) {es : List RawExpr} → HaveLiterals es → Tells (exprs_of n es scope)
  exprs-tell n scope HaveLiterals.none = done _
  exprs-tell n scope (HaveLiterals.more {e = e} {es = es} g gs) = and_then (expr_of n e scope) (expr-tells n scope g) (λ x. and_then (exprs_of n es scope) (exprs-tell n scope gs) (λ xs. done _))

message-tells : (n : ℕ) (c : Ident) (e : RawExpr) (scope : List Named) → HasLiterals e → Tells (message n c e scope)
unfolding message
message-tells n c e scope l = and_then (use_of scope c) (use-tells scope c) (λ x. and_then (expr_of n e scope) (expr-tells n scope l) (λ y. done _))

addressed-tells : (n : ℕ) (b : RawExpr) (c : Ident) (e : RawExpr) (scope : List Named) → HasLiterals b → HasLiterals e → Tells (addressed n b c e scope)
unfolding addressed
addressed-tells n b c e scope k l = and_then (expr_of n b scope) (expr-tells n scope k) (λ x. and_then (message n c e scope) (message-tells n c e scope l) (λ m. done _))

located-tells : (n : ℕ) (b s : RawExpr) (scope : List Named) → HasLiterals b → HasLiterals s → Tells (located n b s scope)
unfolding located
located-tells n b s scope k l = and_then (expr_of n b scope) (expr-tells n scope k) (λ x. and_then (expr_of n s scope) (expr-tells n scope l) (λ y. done _))

-- ---- processes

abbrev ProcTells : ℕ → RawProc → Type 0
ProcTells n p = (scope : List Named) (next : Numbers) → Tells (proc_of n p scope next)

abbrev FormTells : FormIn → Type 0
FormTells f = (scope : List Named) (next : Numbers) → Tells (f scope next)

two-tells : (n : ℕ) (p q : RawProc) → ProcTells n p → ProcTells n q → (scope : List Named) (next : Numbers) → Tells (two (proc_of n p) (proc_of n q) scope next)
unfolding two
two-tells n p q f g scope next = and_then (proc_of n p scope next) (f scope next) (λ x. and_then (proc_of n q scope x.next) (g scope x.next) (λ y. done _))

under-tells : (n : ℕ) (x : RawPat) (p : RawProc) → ProcTells n p → (scope : List Named) (next : Numbers) → Tells (under x (proc_of n p) scope next)
unfolding under
under-tells n x p f scope next =
    let b = pat_of x scope next.binder in
    let inner : Numbers = record { node = next.node; binder = b.next } in
    and_then (proc_of n p b.scope inner) (f b.scope inner) (λ y. done _)

par-tells : (n : ℕ) (p q : RawProc) → ProcTells n p → ProcTells n q → FormTells (par_form (proc_of n p) (proc_of n q))
unfolding par_form
par-tells n p q f g scope next = and_then (two (proc_of n p) (proc_of n q) scope (next_node next)) (two-tells n p q f g scope (next_node next)) (λ r. done _)

new-tells : (n : ℕ) (c : Ident) (t : Ty) (p : RawProc) → ProcTells n p → FormTells (new_form c t (proc_of n p))
unfolding new_form
new-tells n c t p f scope next = and_then (proc_of n p (with_binder c next scope) (next_both next)) (f (with_binder c next scope) (next_both next)) (λ x. done _)

out-tells : (n : ℕ) (c : Ident) (e : RawExpr) → HasLiterals e → FormTells (out_form n c e)
unfolding out_form
out-tells n c e l scope next = and_then (message n c e scope) (message-tells n c e scope l) (λ m. done _)

inp-tells : (n : ℕ) (c : Ident) (x : RawPat) (p : RawProc) → ProcTells n p → FormTells (inp_form c x (proc_of n p))
unfolding inp_form
inp-tells n c x p f scope next =
    and_then (use_of scope c) (use-tells scope c) (λ y. and_then (under x (proc_of n p) scope (next_node next)) (under-tells n x p f scope (next_node next)) (λ r. done _))

rep-tells : (n : ℕ) (c : Ident) (x : RawPat) (p : RawProc) → ProcTells n p → FormTells (rep_form c x (proc_of n p))
unfolding rep_form
rep-tells n c x p f scope next =
    and_then (use_of scope c) (use-tells scope c) (λ y. and_then (under x (proc_of n p) scope (next_node next)) (under-tells n x p f scope (next_node next)) (λ r. done _))

agent-tells : (n : ℕ) (b : Ident) (p q : RawProc) → ProcTells n p → ProcTells n q → FormTells (agent_form b (proc_of n p) (proc_of n q))
unfolding agent_form
agent-tells n b p q f g scope next =
    let inner : List Named = with_binder b next scope in
    and_then (two (proc_of n p) (proc_of n q) inner (next_both next)) (two-tells n p q f g inner (next_both next)) (λ r. done _)

migrate-tells : (n : ℕ) (e : RawExpr) (p : RawProc) → HasLiterals e → ProcTells n p → FormTells (migrate_form n e (proc_of n p))
unfolding migrate_form
migrate-tells n e p l f scope next = and_then (expr_of n e scope) (expr-tells n scope l) (λ y. and_then (proc_of n p scope (next_node next)) (f scope (next_node next)) (λ x. done _))

iflocal-tells : (n : ℕ) (b : RawExpr) (c : Ident) (e : RawExpr) (p q : RawProc) → HasLiterals b → HasLiterals e → ProcTells n p → ProcTells n q
    → FormTells (iflocal_form n b c e (proc_of n p) (proc_of n q))
unfolding iflocal_form
iflocal-tells n b c e p q k l f g scope next =
    and_then (addressed n b c e scope) (addressed-tells n b c e scope k l)
    (λ m. and_then (two (proc_of n p) (proc_of n q) scope (next_node next)) (two-tells n p q f g scope (next_node next)) (λ r. done _))

send-tells : (n : ℕ) (b s : RawExpr) (c : Ident) (e : RawExpr) → HasLiterals b → HasLiterals s → HasLiterals e → FormTells (send_form n b s c e)
unfolding send_form
send-tells n b s c e i j l scope next =
    and_then (located n b s scope) (located-tells n b s scope i j) (λ a. and_then (message n c e scope) (message-tells n c e scope l) (λ m. done _))

post-tells : (n : ℕ) (b : RawExpr) (c : Ident) (e : RawExpr) → HasLiterals b → HasLiterals e → FormTells (post_form n b c e)
unfolding post_form
post-tells n b c e i l scope next = and_then (addressed n b c e scope) (addressed-tells n b c e scope i l) (λ m. done _)

if-tells : (n : ℕ) (e : RawExpr) (p q : RawProc) → HasLiterals e → ProcTells n p → ProcTells n q → FormTells (if_form n e (proc_of n p) (proc_of n q))
unfolding if_form
if-tells n e p q l f g scope next =
    and_then (expr_of n e scope) (expr-tells n scope l)
    (λ y. and_then (two (proc_of n p) (proc_of n q) scope (next_node next)) (two-tells n p q f g scope (next_node next)) (λ r. done _))

let-tells : (n : ℕ) (x : RawPat) (e : RawExpr) (p : RawProc) → HasLiterals e → ProcTells n p → FormTells (let_form n x e (proc_of n p))
unfolding let_form
let-tells n x e p l f scope next =
    and_then (expr_of n e scope) (expr-tells n scope l)
    (λ y. and_then (under x (proc_of n p) scope (next_node next)) (under-tells n x p f scope (next_node next)) (λ r. done _))

print-tells : (n : ℕ) (e : RawExpr) → HasLiterals e → FormTells (print_form n e)
unfolding print_form
print-tells n e l scope next = and_then (expr_of n e scope) (expr-tells n scope l) (λ y. done _)

-- a process tells where its form does
placed-tells : (n at : ℕ) (f : RawProcForm) (o : FormIn) → ((scope : List Named) (next : Numbers) → proc_form_of n f scope next ≡ o scope next) → FormTells o
    → ProcTells n (grammar.process at f)
placed-tells n at f o is g scope next =
    moved (proc-form n (grammar.process at f) scope next) (and_then (proc_form_of n f scope next) (moved (is scope next) (g scope next)) (λ r. done _))

proc-tells : (n : ℕ) {p : RawProc} → IsWritten p → ProcTells n p
proc-tells n (IsWritten.stop {at = at}) = placed-tells n at raw.Stop _ (proc-stop n) (λ scope next. done _)
proc-tells n (IsWritten.parallel {at = at} {p = p} {q = q} g k) =
    placed-tells n at (raw.Par p q) _ (λ s x. proc-par n s x p q) (par-tells n p q (proc-tells n g) (proc-tells n k))
proc-tells n (IsWritten.channel {at = at} {c = c} {t = t} {p = p} is g) =
    placed-tells n at (raw.New c t p) _ (λ s x. proc-new n s x c t p) (new-tells n c t p (proc-tells n g))
proc-tells n (IsWritten.output {at = at} {c = c} {e = e} l) = placed-tells n at (raw.Out c e) _ (λ s x. proc-out n s x c e) (out-tells n c e l)
proc-tells n (IsWritten.input {at = at} {c = c} {x = y} {p = p} g) =
    placed-tells n at (raw.Inp c y p) _ (λ s x. proc-inp n s x c y p) (inp-tells n c y p (proc-tells n g))
proc-tells n (IsWritten.replicated {at = at} {c = c} {x = y} {p = p} g) =
    placed-tells n at (raw.Rep c y p) _ (λ s x. proc-rep n s x c y p) (rep-tells n c y p (proc-tells n g))
proc-tells n (IsWritten.agent {at = at} {b = b} {p = p} {q = q} g k) =
    placed-tells n at (raw.Agent b p q) _ (λ s x. proc-agent n s x b p q) (agent-tells n b p q (proc-tells n g) (proc-tells n k))
proc-tells n (IsWritten.migrate {at = at} {s = e} {p = p} l g) =
    placed-tells n at (raw.Migrate e p) _ (λ s x. proc-migrate n s x e p) (migrate-tells n e p l (proc-tells n g))
proc-tells n (IsWritten.iflocal {at = at} {b = b} {e = e} {c = c} {p = p} {q = q} i l g k) =
    placed-tells n at (raw.IfLocal b c e p q) _ (λ s x. proc-iflocal n s x b c e p q) (iflocal-tells n b c e p q i l (proc-tells n g) (proc-tells n k))
proc-tells n (IsWritten.send {at = at} {b = b} {s = d} {e = e} {c = c} i j l) =
    placed-tells n at (raw.Send b d c e) _ (λ s x. proc-send n s x b d c e) (send-tells n b d c e i j l)
proc-tells n (IsWritten.post {at = at} {b = b} {e = e} {c = c} i l) =
    placed-tells n at (raw.Post b c e) _ (λ s x. proc-post n s x b c e) (post-tells n b c e i l)
proc-tells n (IsWritten.test {at = at} {e = e} {p = p} {q = q} l g k) =
    placed-tells n at (raw.If e p q) _ (λ s x. proc-if n s x e p q) (if-tells n e p q l (proc-tells n g) (proc-tells n k))
proc-tells n (IsWritten.bind {at = at} {x = y} {e = e} {p = p} l g) =
    placed-tells n at (raw.Let y e p) _ (λ s x. proc-let n s x y e p) (let-tells n y e p l (proc-tells n g))
proc-tells n (IsWritten.print {at = at} {e = e} l) = placed-tells n at (raw.Print e) _ (λ s x. proc-print n s x e) (print-tells n e l)

-- ---- programs

by_tests : {A : Type 0} (a b : Bool) (d e : ScopeFail) (new : A) → d ≢ fail.Memory → e ≢ fail.Memory → Tells (if a then Err d else (if b then Ok new else Err e))
by_tests true b d e new h k = refused d h
by_tests false true d e new h k = done new
by_tests false false d e new h k = refused e k

site-tells : (site : Ident) (k : ℕ) (scope : List Named) → Tells (with_site site k scope)
unfolding with_site
site-tells site k scope =
    by_tests (is_some (meaning_of scope site.text)) (nat_lt k MOST_SITES) (fail.SiteTwice site.at) (fail.TooManySites site.at) ((site.text, meaning.Site k) ∷ scope) (λ e. cc) (λ e. cc)

sites-tell : (sites : List Ident) (k : ℕ) (scope : List Named) → Tells (with_sites sites k scope)
sites-tell [] k scope = done _
sites-tell (site ∷ sites) k scope = and_then (with_site site k scope) (site-tells site k scope) (λ new. sites-tell sites (k + 1) new)

home-tells : (at : ℕ) (o : Option Meaning) → Tells (home_at at o)
home-tells at None = refused _ (λ e. cc)
home-tells at (Some (meaning.Site s)) = done _
home-tells at (Some (meaning.Binder x)) = refused _ (λ e. cc)

main-tells : (tree : Tree) → IsWritten tree.main → Tells (main_of tree)
unfolding main_of
main-tells tree w =
    and_then (with_sites tree.sites 0 []) (sites-tell tree.sites 0 []) (λ scope.
    and_then (home_of scope tree.at) (home-tells tree.at.at (meaning_of scope tree.at.text)) (λ home.
    and_then (proc_of (length tree.sites) tree.main scope first_numbers) (proc-tells (length tree.sites) w scope first_numbers) (λ main. done _)))

pub resolving-tells : (tree : Tree) → IsWritten tree.main → Tells (resolved tree)
unfolding resolved
resolving-tells tree w = and_then (main_of tree) (main-tells tree w) (λ m. done _)
