-- What a tree becomes is sound, and has as many process nodes and binders as the tree.
use Rattle.std.proofs.Common.{◌≡◌, ℕ, ◌+◌, Option, None, Some, List, [], ◌∷◌, ◌++◌, refl, ◌∙◌, arith}
use Rattle.np_syntax.specs.declared.types.Ty.{Ty}
use Rattle.np_syntax.specs.declared.pattern.Pat.{Pat}
use Rattle.np_syntax.specs.declared.process.Proc.{Proc}
use Rattle.np_syntax.specs.declared.process.ProcForm.{ProcForm}
use Rattle.np_tree.specs.declared.tree.Ident.{Ident}
use Rattle.np_tree.specs.declared.tree.RawExpr.{RawExpr}
use Rattle.np_tree.specs.declared.tree.RawPat.{RawPat}
use Rattle.np_tree.specs.declared.tree.RawProc.{RawProc}
use Rattle.np_tree.specs.declared.tree.RawProcForm.{RawProcForm}
use Rattle.np_tree.specs.declared.tree.RawExprForm as rawexpr
use Rattle.np_tree.specs.declared.tree.RawProcForm as raw
use Rattle.np_tree.specs.Grammar as grammar
use Rattle.np_tree.specs.Sizes.{names, nodes, form_nodes, binders, form_binders}
use Rattle.np_tree.proofs.Sized.{nodes-form, nodes-stop, nodes-par, nodes-new, nodes-out, nodes-inp, nodes-rep, nodes-agent, nodes-migrate, nodes-iflocal}
use Rattle.np_tree.proofs.Sized.{nodes-send, nodes-post, nodes-if, nodes-let, nodes-print, binders-form, binders-stop, binders-par, binders-new, binders-out}
use Rattle.np_tree.proofs.Sized.{binders-inp, binders-rep, binders-agent, binders-migrate, binders-iflocal, binders-send, binders-post, binders-if, binders-let}
use Rattle.np_tree.proofs.Sized.{binders-print}
use Rattle.np_scope.specs.declared.numbers.Numbers.{Numbers}
use Rattle.np_scope.specs.declared.numbers.Placed.{Placed}
use Rattle.np_scope.specs.declared.scope.Meaning.{Meaning}
use Rattle.np_scope.specs.declared.scope.Meaning.TheVariants as meaning
use Rattle.np_scope.specs.Naming.{Named, meaning_of, meant_at, meant, use_of}
use Rattle.np_scope.specs.Resolved.{expression, expr_of, exprs_of, Bound, pat_of, next_node, next_both, with_binder, FormIn, two, under, proc_of, proc_form_of}
use Rattle.np_scope.specs.Resolved.{stop_form, par_form, new_form, out_form, inp_form, rep_form, agent_form, migrate_form, iflocal_form, send_form, post_form}
use Rattle.np_scope.specs.Resolved.{if_form, let_form, print_form, message, addressed, located}
use Rattle.np_scope.specs.Sound.{IsSoundExpr, AreSoundExprs, AreNext, Binds, IsSoundProc, process}
use Rattle.np_scope.specs.Written.{IsChannelType, HasLiterals, HaveLiterals, IsWritten}
use Rattle.np_scope.proofs.Outcomes.{All, done, refused, moved, and_then}
use Rattle.np_scope.proofs.Forms.{expr-form, expr-val, expr-main, expr-var, expr-tuple, expr-bin, proc-form, proc-stop, proc-par, proc-new, proc-out, proc-inp}
use Rattle.np_scope.proofs.Forms.{proc-rep, proc-agent, proc-migrate, proc-iflocal, proc-send, proc-post, proc-if, proc-let, proc-print}
use Rattle.np_scope.proofs.Numbering.{next_then}
use Rattle.np_scope.proofs.PatternsSound.{Fine, Agrees, with-binder, pat-sound}

-- ---- expressions

meaning-sound : (n at place : ℕ) (bs : List ℕ) (o : Option Meaning) → ((m : Meaning) → o ≡ Some m → Fine n bs m) → All (λ f. IsSoundExpr n bs (expression at f)) (meant_at place o)
meaning-sound n at place bs None h = refused _
meaning-sound n at place bs (Some (meaning.Site s)) h = done (IsSoundExpr.site (h (meaning.Site s) refl))
meaning-sound n at place bs (Some (meaning.Binder x)) h = done (IsSoundExpr.variable (h (meaning.Binder x) refl))

use-sound : (n : ℕ) (scope : List Named) (bs : List ℕ) (name : Ident) → Agrees n scope bs → All (IsSoundExpr n bs) (use_of scope name)
use-sound n scope bs name h = and_then (meant scope name) (meaning-sound n name.at name.at bs (meaning_of scope name.text) (h name.text)) (λ f s. done s)

mutual
  expr-sound : (n : ℕ) (scope : List Named) (bs : List ℕ) {e : RawExpr} → Agrees n scope bs → HasLiterals e → All (IsSoundExpr n bs) (expr_of n e scope)
  expr-sound n scope bs h (HasLiterals.literal {at = at} {v = v} l) =
      moved (expr-form n (grammar.expression at (rawexpr.Val v)) scope ∙ expr-val n at scope v) (done (IsSoundExpr.literal l))
  expr-sound n scope bs h (HasLiterals.main {at = at}) = moved (expr-form n (grammar.expression at rawexpr.Main) scope ∙ expr-main n at scope) (done IsSoundExpr.main)
  expr-sound n scope bs h (HasLiterals.name {at = at} {x = x}) =
      moved (expr-form n (grammar.expression at (rawexpr.Var x)) scope ∙ expr-var n at scope x)
      (and_then (meant scope x) (meaning-sound n at x.at bs (meaning_of scope x.text) (h x.text)) (λ f s. done s))
  expr-sound n scope bs h (HasLiterals.tuple {at = at} {es = es} gs) =
      moved (expr-form n (grammar.expression at (rawexpr.Tuple es)) scope ∙ expr-tuple n at scope es)
      (and_then (exprs_of n es scope) (exprs-sound n scope bs h gs) (λ xs s. done (IsSoundExpr.tuple s)))
  expr-sound n scope bs h (HasLiterals.operation {at = at} {o = o} {a = a} {b = b} f g) =
      moved (expr-form n (grammar.expression at (rawexpr.Bin o a b)) scope ∙ expr-bin n at scope o a b)
      (and_then (expr_of n a scope) (expr-sound n scope bs h f) (λ x s. and_then (expr_of n b scope) (expr-sound n scope bs h g) (λ y t. done (IsSoundExpr.operation s t))))

  exprs-sound : (n : ℕ) (scope : List Named) (bs : List ℕ) {es : List RawExpr} → Agrees n scope bs → HaveLiterals es → All (AreSoundExprs n bs) (exprs_of n es scope)
  exprs-sound n scope bs h HaveLiterals.none = done AreSoundExprs.none
  exprs-sound n scope bs h (HaveLiterals.more {e = e} {es = es} g gs) =
      and_then (expr_of n e scope) (expr-sound n scope bs h g) (λ x s. and_then (exprs_of n es scope) (exprs-sound n scope bs h gs) (λ xs t. done (AreSoundExprs.more s t)))

message-sound : (n : ℕ) (c : Ident) (e : RawExpr) (scope : List Named) (bs : List ℕ) → Agrees n scope bs → HasLiterals e
    → All (λ m. IsSoundExpr n bs m.0 × IsSoundExpr n bs m.1) (message n c e scope)
unfolding message
message-sound n c e scope bs h l =
    and_then (use_of scope c) (use-sound n scope bs c h) (λ x s. and_then (expr_of n e scope) (expr-sound n scope bs h l) (λ y t. done (s, t)))

addressed-sound : (n : ℕ) (b : RawExpr) (c : Ident) (e : RawExpr) (scope : List Named) (bs : List ℕ) → Agrees n scope bs → HasLiterals b → HasLiterals e
    → All (λ m. IsSoundExpr n bs m.0 × IsSoundExpr n bs m.1 × IsSoundExpr n bs m.2) (addressed n b c e scope)
unfolding addressed
addressed-sound n b c e scope bs h k l =
    and_then (expr_of n b scope) (expr-sound n scope bs h k) (λ x s. and_then (message n c e scope) (message-sound n c e scope bs h l) (λ m t. done (s, t.0, t.1)))

located-sound : (n : ℕ) (b s : RawExpr) (scope : List Named) (bs : List ℕ) → Agrees n scope bs → HasLiterals b → HasLiterals s
    → All (λ m. IsSoundExpr n bs m.0 × IsSoundExpr n bs m.1) (located n b s scope)
unfolding located
located-sound n b s scope bs h k l =
    and_then (expr_of n b scope) (expr-sound n scope bs h k) (λ x r. and_then (expr_of n s scope) (expr-sound n scope bs h l) (λ y t. done (r, t)))

-- ---- processes

-- what a process becomes is sound, and the numbers behind it are those of its size
pub record Done (n : ℕ) (bs : List ℕ) (next : Numbers) (p : RawProc) (q : Placed) : Type 0 where
  pub bound : List ℕ
  pub sound : IsSoundProc n bs next.node q.proc q.next.node bound
  pub numbered : AreNext next.binder bound q.next.binder
  pub node : q.next.node ≡ next.node + nodes p
  pub binder : q.next.binder ≡ next.binder + binders p

-- the same of a form, at any offset
record FormDone (n : ℕ) (bs : List ℕ) (next : Numbers) (f : RawProcForm) (r : ProcForm × Numbers) : Type 0 where
  bound : List ℕ
  sound : (at : ℕ) → IsSoundProc n bs next.node (process next.node at r.0) r.1.node bound
  numbered : AreNext next.binder bound r.1.binder
  node : r.1.node ≡ next.node + form_nodes f
  binder : r.1.binder ≡ next.binder + form_binders f

record TwoDone (n : ℕ) (bs : List ℕ) (next : Numbers) (p q : RawProc) (r : Proc × Proc × Numbers) : Type 0 where
  mid : ℕ
  xs : List ℕ
  ys : List ℕ
  first : IsSoundProc n bs next.node r.0 mid xs
  second : IsSoundProc n bs mid r.1 r.2.node ys
  numbered : AreNext next.binder (xs ++ ys) r.2.binder
  node : r.2.node ≡ next.node + (nodes p + nodes q)
  binder : r.2.binder ≡ next.binder + (binders p + binders q)

record UnderDone (n : ℕ) (bs : List ℕ) (next : Numbers) (x : RawPat) (p : RawProc) (r : Pat × Proc × Numbers) : Type 0 where
  inner : List ℕ
  xs : List ℕ
  ys : List ℕ
  binds : Binds bs r.0 inner xs
  body : IsSoundProc n inner next.node r.1 r.2.node ys
  numbered : AreNext next.binder (xs ++ ys) r.2.binder
  node : r.2.node ≡ next.node + nodes p
  binder : r.2.binder ≡ next.binder + (names x + binders p)

abbrev ProcSound : ℕ → RawProc → Type 0
ProcSound n p = (scope : List Named) (bs : List ℕ) (next : Numbers) → Agrees n scope bs → All (Done n bs next p) (proc_of n p scope next)

abbrev FormSound : ℕ → RawProcForm → FormIn → Type 0
FormSound n f o = (scope : List Named) (bs : List ℕ) (next : Numbers) → Agrees n scope bs → All (FormDone n bs next f) (o scope next)

stop-sound : (n : ℕ) → FormSound n raw.Stop stop_form
stop-sound n scope bs next h =
    done (record { bound = []; sound = λ at. IsSoundProc.stop; numbered = AreNext.none; node = omega (arith, nodes-stop); binder = omega (arith, binders-stop) })

two-sound : (n : ℕ) (p q : RawProc) → ProcSound n p → ProcSound n q → (scope : List Named) (bs : List ℕ) (next : Numbers) → Agrees n scope bs
    → All (TwoDone n bs next p q) (two (proc_of n p) (proc_of n q) scope next)
unfolding two
two-sound n p q f g scope bs next h =
    and_then (proc_of n p scope next) (f scope bs next h) (λ x s.
    and_then (proc_of n q scope x.next) (g scope bs x.next h) (λ y t.
    let a = s.node in let b = s.binder in let c = t.node in let d = t.binder in
    done (record {
      mid = x.next.node;
      xs = s.bound;
      ys = t.bound;
      first = s.sound;
      second = t.sound;
      numbered = next_then s.numbered t.numbered;
      node = omega (arith, a, c);
      binder = omega (arith, b, d);
    })))

under-sound : (n : ℕ) (x : RawPat) (p : RawProc) → ProcSound n p → (scope : List Named) (bs : List ℕ) (next : Numbers) → Agrees n scope bs
    → All (UnderDone n bs next x p) (under x (proc_of n p) scope next)
unfolding under
under-sound n x p f scope bs next h =
    let b : Bound Pat = pat_of x scope next.binder in
    let d = pat-sound n x scope bs next.binder h in
    let inside : Numbers = record { node = next.node; binder = b.next } in
    and_then (proc_of n p b.scope inside) (f b.scope d.inner inside d.agrees) (λ q s.
    let c = d.count in let e = s.binder in
    done (record {
      inner = d.inner;
      xs = d.bound;
      ys = s.bound;
      binds = d.binds;
      body = s.sound;
      numbered = next_then d.numbered s.numbered;
      node = s.node;
      binder = omega (arith, c, e);
    }))

par-sound : (n : ℕ) (p q : RawProc) → ProcSound n p → ProcSound n q → FormSound n (raw.Par p q) (par_form (proc_of n p) (proc_of n q))
unfolding par_form
par-sound n p q f g scope bs next h =
    and_then (two (proc_of n p) (proc_of n q) scope (next_node next)) (two-sound n p q f g scope bs (next_node next) h) (λ r s.
    let a = s.node in let b = s.binder in
    done (record {
      bound = s.xs ++ s.ys;
      sound = λ at. IsSoundProc.parallel s.first s.second;
      numbered = s.numbered;
      node = omega (arith, nodes-par p q, a);
      binder = omega (arith, binders-par p q, b);
    }))

new-sound : (n : ℕ) (c : Ident) (t : Ty) (p : RawProc) → IsChannelType t → ProcSound n p → FormSound n (raw.New c t p) (new_form c t (proc_of n p))
unfolding new_form
new-sound n c t p is f scope bs next h =
    let inner : List Named = with_binder c next scope in
    and_then (proc_of n p inner (next_both next)) (f inner (next.binder ∷ bs) (next_both next) (with-binder n next.binder c.text scope bs h)) (λ x s.
    let a = s.node in let b = s.binder in
    done (record {
      bound = next.binder ∷ s.bound;
      sound = λ at. IsSoundProc.channel is s.sound;
      numbered = AreNext.more s.numbered;
      node = omega (arith, nodes-new c t p, a);
      binder = omega (arith, binders-new c t p, b);
    }))

out-sound : (n : ℕ) (c : Ident) (e : RawExpr) → HasLiterals e → FormSound n (raw.Out c e) (out_form n c e)
unfolding out_form
out-sound n c e l scope bs next h =
    and_then (message n c e scope) (message-sound n c e scope bs h l) (λ m s.
    done (record { bound = []; sound = λ at. IsSoundProc.output s.0 s.1; numbered = AreNext.none; node = omega (arith, nodes-out c e); binder = omega (arith, binders-out c e) }))

inp-sound : (n : ℕ) (c : Ident) (x : RawPat) (p : RawProc) → ProcSound n p → FormSound n (raw.Inp c x p) (inp_form c x (proc_of n p))
unfolding inp_form
inp-sound n c x p f scope bs next h =
    and_then (use_of scope c) (use-sound n scope bs c h) (λ y v.
    and_then (under x (proc_of n p) scope (next_node next)) (under-sound n x p f scope bs (next_node next) h) (λ r s.
    let a = s.node in let b = s.binder in
    done (record {
      bound = s.xs ++ s.ys;
      sound = λ at. IsSoundProc.input v s.binds s.body;
      numbered = s.numbered;
      node = omega (arith, nodes-inp c x p, a);
      binder = omega (arith, binders-inp c x p, b);
    })))

rep-sound : (n : ℕ) (c : Ident) (x : RawPat) (p : RawProc) → ProcSound n p → FormSound n (raw.Rep c x p) (rep_form c x (proc_of n p))
unfolding rep_form
rep-sound n c x p f scope bs next h =
    and_then (use_of scope c) (use-sound n scope bs c h) (λ y v.
    and_then (under x (proc_of n p) scope (next_node next)) (under-sound n x p f scope bs (next_node next) h) (λ r s.
    let a = s.node in let b = s.binder in
    done (record {
      bound = s.xs ++ s.ys;
      sound = λ at. IsSoundProc.replicated v s.binds s.body;
      numbered = s.numbered;
      node = omega (arith, nodes-rep c x p, a);
      binder = omega (arith, binders-rep c x p, b);
    })))

agent-sound : (n : ℕ) (b : Ident) (p q : RawProc) → ProcSound n p → ProcSound n q → FormSound n (raw.Agent b p q) (agent_form b (proc_of n p) (proc_of n q))
unfolding agent_form
agent-sound n b p q f g scope bs next h =
    let inner : List Named = with_binder b next scope in
    let agrees : Agrees n inner (next.binder ∷ bs) = with-binder n next.binder b.text scope bs h in
    and_then (two (proc_of n p) (proc_of n q) inner (next_both next)) (two-sound n p q f g inner (next.binder ∷ bs) (next_both next) agrees) (λ r s.
    let c = s.node in let d = s.binder in
    done (record {
      bound = next.binder ∷ (s.xs ++ s.ys);
      sound = λ at. IsSoundProc.agent s.first s.second;
      numbered = AreNext.more s.numbered;
      node = omega (arith, nodes-agent b p q, c);
      binder = omega (arith, binders-agent b p q, d);
    }))

migrate-sound : (n : ℕ) (e : RawExpr) (p : RawProc) → HasLiterals e → ProcSound n p → FormSound n (raw.Migrate e p) (migrate_form n e (proc_of n p))
unfolding migrate_form
migrate-sound n e p l f scope bs next h =
    and_then (expr_of n e scope) (expr-sound n scope bs h l) (λ y v.
    and_then (proc_of n p scope (next_node next)) (f scope bs (next_node next) h) (λ x s.
    let a = s.node in let b = s.binder in
    done (record {
      bound = s.bound;
      sound = λ at. IsSoundProc.migrate v s.sound;
      numbered = s.numbered;
      node = omega (arith, nodes-migrate e p, a);
      binder = omega (arith, binders-migrate e p, b);
    })))

iflocal-sound : (n : ℕ) (b : RawExpr) (c : Ident) (e : RawExpr) (p q : RawProc) → HasLiterals b → HasLiterals e → ProcSound n p → ProcSound n q
    → FormSound n (raw.IfLocal b c e p q) (iflocal_form n b c e (proc_of n p) (proc_of n q))
unfolding iflocal_form
iflocal-sound n b c e p q k l f g scope bs next h =
    and_then (addressed n b c e scope) (addressed-sound n b c e scope bs h k l) (λ m t.
    and_then (two (proc_of n p) (proc_of n q) scope (next_node next)) (two-sound n p q f g scope bs (next_node next) h) (λ r s.
    let i = s.node in let j = s.binder in
    done (record {
      bound = s.xs ++ s.ys;
      sound = λ at. IsSoundProc.iflocal t.0 t.1 t.2 s.first s.second;
      numbered = s.numbered;
      node = omega (arith, nodes-iflocal b c e p q, i);
      binder = omega (arith, binders-iflocal b c e p q, j);
    })))

send-sound : (n : ℕ) (b s : RawExpr) (c : Ident) (e : RawExpr) → HasLiterals b → HasLiterals s → HasLiterals e → FormSound n (raw.Send b s c e) (send_form n b s c e)
unfolding send_form
send-sound n b s c e i j l scope bs next h =
    and_then (located n b s scope) (located-sound n b s scope bs h i j) (λ a r.
    and_then (message n c e scope) (message-sound n c e scope bs h l) (λ m t.
    done (record {
      bound = [];
      sound = λ at. IsSoundProc.send r.0 r.1 t.0 t.1;
      numbered = AreNext.none;
      node = omega (arith, nodes-send b s c e);
      binder = omega (arith, binders-send b s c e);
    })))

post-sound : (n : ℕ) (b : RawExpr) (c : Ident) (e : RawExpr) → HasLiterals b → HasLiterals e → FormSound n (raw.Post b c e) (post_form n b c e)
unfolding post_form
post-sound n b c e i l scope bs next h =
    and_then (addressed n b c e scope) (addressed-sound n b c e scope bs h i l) (λ m t.
    done (record {
      bound = [];
      sound = λ at. IsSoundProc.post t.0 t.1 t.2;
      numbered = AreNext.none;
      node = omega (arith, nodes-post b c e);
      binder = omega (arith, binders-post b c e);
    }))

if-sound : (n : ℕ) (e : RawExpr) (p q : RawProc) → HasLiterals e → ProcSound n p → ProcSound n q → FormSound n (raw.If e p q) (if_form n e (proc_of n p) (proc_of n q))
unfolding if_form
if-sound n e p q l f g scope bs next h =
    and_then (expr_of n e scope) (expr-sound n scope bs h l) (λ y v.
    and_then (two (proc_of n p) (proc_of n q) scope (next_node next)) (two-sound n p q f g scope bs (next_node next) h) (λ r s.
    let a = s.node in let b = s.binder in
    done (record {
      bound = s.xs ++ s.ys;
      sound = λ at. IsSoundProc.test v s.first s.second;
      numbered = s.numbered;
      node = omega (arith, nodes-if e p q, a);
      binder = omega (arith, binders-if e p q, b);
    })))

let-sound : (n : ℕ) (x : RawPat) (e : RawExpr) (p : RawProc) → HasLiterals e → ProcSound n p → FormSound n (raw.Let x e p) (let_form n x e (proc_of n p))
unfolding let_form
let-sound n x e p l f scope bs next h =
    and_then (expr_of n e scope) (expr-sound n scope bs h l) (λ y v.
    and_then (under x (proc_of n p) scope (next_node next)) (under-sound n x p f scope bs (next_node next) h) (λ r s.
    let a = s.node in let b = s.binder in
    done (record {
      bound = s.xs ++ s.ys;
      sound = λ at. IsSoundProc.bind s.binds v s.body;
      numbered = s.numbered;
      node = omega (arith, nodes-let x e p, a);
      binder = omega (arith, binders-let x e p, b);
    })))

print-sound : (n : ℕ) (e : RawExpr) → HasLiterals e → FormSound n (raw.Print e) (print_form n e)
unfolding print_form
print-sound n e l scope bs next h =
    and_then (expr_of n e scope) (expr-sound n scope bs h l) (λ y v.
    done (record { bound = []; sound = λ at. IsSoundProc.print v; numbered = AreNext.none; node = omega (arith, nodes-print e); binder = omega (arith, binders-print e) }))

-- a process is done where its form is
placed-sound : (n at : ℕ) (f : RawProcForm) (o : FormIn) → ((scope : List Named) (next : Numbers) → proc_form_of n f scope next ≡ o scope next)
    → FormSound n f o → ProcSound n (grammar.process at f)
placed-sound n at f o is g scope bs next h =
    let p : RawProc = grammar.process at f in
    moved (proc-form n p scope next)
    (and_then (proc_form_of n f scope next) (moved (is scope next) (g scope bs next h)) (λ r d.
    let a = d.node in let b = d.binder in
    done (record { bound = d.bound; sound = d.sound at; numbered = d.numbered; node = omega (arith, nodes-form p, a); binder = omega (arith, binders-form p, b) })))

pub proc-sound : (n : ℕ) {p : RawProc} → IsWritten p → ProcSound n p
proc-sound n (IsWritten.stop {at = at}) =
    placed-sound n at raw.Stop _ (proc-stop n) (stop-sound n)
proc-sound n (IsWritten.parallel {at = at} {p = p} {q = q} g k) =
    placed-sound n at (raw.Par p q) _ (λ s x. proc-par n s x p q)
    (par-sound n p q (proc-sound n g) (proc-sound n k))
proc-sound n (IsWritten.channel {at = at} {c = c} {t = t} {p = p} is g) =
    placed-sound n at (raw.New c t p) _ (λ s x. proc-new n s x c t p)
    (new-sound n c t p is (proc-sound n g))
proc-sound n (IsWritten.output {at = at} {c = c} {e = e} l) =
    placed-sound n at (raw.Out c e) _ (λ s x. proc-out n s x c e)
    (out-sound n c e l)
proc-sound n (IsWritten.input {at = at} {c = c} {x = y} {p = p} g) =
    placed-sound n at (raw.Inp c y p) _ (λ s x. proc-inp n s x c y p)
    (inp-sound n c y p (proc-sound n g))
proc-sound n (IsWritten.replicated {at = at} {c = c} {x = y} {p = p} g) =
    placed-sound n at (raw.Rep c y p) _ (λ s x. proc-rep n s x c y p)
    (rep-sound n c y p (proc-sound n g))
proc-sound n (IsWritten.agent {at = at} {b = b} {p = p} {q = q} g k) =
    placed-sound n at (raw.Agent b p q) _ (λ s x. proc-agent n s x b p q)
    (agent-sound n b p q (proc-sound n g) (proc-sound n k))
proc-sound n (IsWritten.migrate {at = at} {s = e} {p = p} l g) =
    placed-sound n at (raw.Migrate e p) _ (λ s x. proc-migrate n s x e p)
    (migrate-sound n e p l (proc-sound n g))
proc-sound n (IsWritten.iflocal {at = at} {b = b} {e = e} {c = c} {p = p} {q = q} i l g k) =
    placed-sound n at (raw.IfLocal b c e p q) _ (λ s x. proc-iflocal n s x b c e p q)
    (iflocal-sound n b c e p q i l (proc-sound n g) (proc-sound n k))
proc-sound n (IsWritten.send {at = at} {b = b} {s = d} {e = e} {c = c} i j l) =
    placed-sound n at (raw.Send b d c e) _ (λ s x. proc-send n s x b d c e)
    (send-sound n b d c e i j l)
proc-sound n (IsWritten.post {at = at} {b = b} {e = e} {c = c} i l) =
    placed-sound n at (raw.Post b c e) _ (λ s x. proc-post n s x b c e)
    (post-sound n b c e i l)
proc-sound n (IsWritten.test {at = at} {e = e} {p = p} {q = q} l g k) =
    placed-sound n at (raw.If e p q) _ (λ s x. proc-if n s x e p q)
    (if-sound n e p q l (proc-sound n g) (proc-sound n k))
proc-sound n (IsWritten.bind {at = at} {x = y} {e = e} {p = p} l g) =
    placed-sound n at (raw.Let y e p) _ (λ s x. proc-let n s x y e p)
    (let-sound n y e p l (proc-sound n g))
proc-sound n (IsWritten.print {at = at} {e = e} l) =
    placed-sound n at (raw.Print e) _ (λ s x. proc-print n s x e)
    (print-sound n e l)
