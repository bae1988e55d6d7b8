-- The numbers of the binders that a translation makes: they go on from the first, and are few where the process nodes are.
use Rattle.std.proofs.Common.{◌≡◌, ◌<◌, ◌≤◌, ℕ, ◌+◌, ◌*◌, ◌^◌, List, [], length, refl, ap, subst, sym, ◌∙◌, arith}
use Rattle.np_syntax.specs.declared.limits.TheConstants.{MOST_NODES, MOST_BINDERS}
use Rattle.np_syntax.specs.declared.expression.Expr.{Expr}
use Rattle.np_syntax.specs.declared.process.Tag.{Tag}
use Rattle.np_syntax.specs.declared.process.Proc.{Proc}
use Rattle.np_syntax.specs.declared.process.ProcForm.{ProcForm}
use Rattle.np_syntax.specs.declared.process.ProcForm as form
use Rattle.np_syntax.specs.declared.process.ProcForm.TheVariants as layers
use Rattle.np_syntax.specs.declared.program.Program.{Program}
use Rattle.np_eval.specs.Forms.{Layer, layer}
use Rattle.np_scope.specs.Sound.{IsSound, IsSoundProc}
use Rattle.infrastructure_texts.specs.Infrastructures.{Infrastructure}
use Rattle.infrastructure_texts.specs.Pieces.{variable, main}
use Rattle.daemon_encode.specs.declared.translated.Translated.{Translated}
use Rattle.daemon_encode.specs.Encoded.{Translation, translate_step, translated, translated_form, main_of}
use Rattle.daemon_encode.specs.Translates.{source}
use Rattle.daemon_encode.proofs.Forms.{translated-form, form-agent, form-post}
use Rattle.daemon_encode.proofs.KeptForms.{IsShared, steps, KeepsForms, translated-keeps}
use Rattle.daemon_encode.proofs.Related.{is-related, related}

-- they go on from the first
pub numbers-go-on : (n : ℕ) (p : Proc) (a : Expr) (next : ℕ) → next ≤ (translated n p a next).next
numbers-go-on n p a next = (related Infrastructure.central n 0 (translated n) (is-related n 0) p a next (omega arith)).on

module _ (n : ℕ) where
  -- a translation that makes few binders at a creation and at a post
  pub record MakesFew (f : Proc → Translation) : Type 0 where
    pub keeps : KeepsForms n f
    -- how many it makes between the two processes of a creation, behind the one before the first
    pub between : ℕ
    pub few : between ≤ 7
    pub creation : (tag : Tag) (at : ℕ) (a : Expr) (k b : ℕ) (p q : Proc)
        → (f (source tag at (form.Agent b p q)) a k).next ≡ (f q a ((f p (variable b) (k + 1)).next + between)).next
    pub post : (tag : Tag) (at : ℕ) (a : Expr) (k : ℕ) (b c e : Expr) → (f (source tag at (form.Post b c e)) a k).next ≤ k + 8

  -- at most eight for each node
  record Few (node after first next : ℕ) : Type 0 where
    few : next + 8 * node ≤ first + 8 * after

  module _ (f : Proc → Translation) (t : MakesFew f) where
    shared : {node after : ℕ} (p : Proc) (y : Layer) (a : Expr) (k : ℕ) → layer p ≡ y → IsShared y
        → Few node after k (translate_step n (steps t.keeps.forms f y) p.tag p.at a k).next → Few node after k (f p a k).next
    shared {node} {after} p y a k is same h = subst (Few node after k) (sym (ap (λ (r : Translated). r.next) (t.keeps.shared p y is same a k))) h

    created : {node after : ℕ} (tag : Tag) (at : ℕ) (a : Expr) (k b : ℕ) (p q : Proc)
        → Few node after k (f q a ((f p (variable b) (k + 1)).next + t.between)).next → Few node after k (f (source tag at (form.Agent b p q)) a k).next
    created {node} {after} tag at a k b p q h = subst (Few node after k) (sym (t.creation tag at a k b p q)) h

    posted : {node : ℕ} (tag : Tag) (at : ℕ) (a : Expr) (k : ℕ) (b c e : Expr) → Few node (node + 1) k (f (source tag at (form.Post b c e)) a k).next
    posted tag at a k b c e = record { few = omega (arith, t.post tag at a k b c e) }

    few-made : {scope bound : List ℕ} {node after : ℕ} {p : Proc} → IsSoundProc n scope node p after bound → (a : Expr) (k : ℕ) → Few node after k (f p a k).next
    few-made IsSoundProc.stop a k = shared _ _ a k layers.outs-Stop tt (record { few = omega arith })
    few-made (IsSoundProc.parallel {p = p} {q = q} g d) a k =
        let l = few-made g a k in
        let r = few-made d a (f p a k).next in
        shared _ _ a k (layers.outs-Par p q) tt (record { few = omega (arith, l.few, r.few) })
    few-made (IsSoundProc.channel {c = b} {t = ty} {p = p} c g) a k = let l = few-made g a k in shared _ _ a k (layers.outs-New b ty p) tt (record { few = omega (arith, l.few) })
    few-made (IsSoundProc.output {c = c} {e = e} xc xe) a k = shared _ _ a k (layers.outs-Out c e) tt (record { few = omega arith })
    few-made (IsSoundProc.input {c = c} {x = x} {p = p} xc b g) a k = let l = few-made g a k in shared _ _ a k (layers.outs-Inp c x p) tt (record { few = omega (arith, l.few) })
    few-made (IsSoundProc.replicated {c = c} {x = x} {p = p} xc b g) a k = let l = few-made g a k in shared _ _ a k (layers.outs-Rep c x p) tt (record { few = omega (arith, l.few) })
    few-made (IsSoundProc.agent {b = b} {p = p} {q = q} g d) a k =
        let l = few-made g (variable b) (k + 1) in
        let r = few-made d a ((f p (variable b) (k + 1)).next + t.between) in
        created _ _ a k b p q (record { few = omega (arith, t.few, l.few, r.few) })
    few-made (IsSoundProc.migrate {s = s} {p = p} xs g) a k = let l = few-made g a k in shared _ _ a k (layers.outs-Migrate s p) tt (record { few = omega (arith, l.few) })
    few-made (IsSoundProc.iflocal {b = b} {c = c} {e = e} {p = p} {q = q} xb xc xe g d) a k =
        let l = few-made g a k in
        let r = few-made d a (f p a k).next in
        shared _ _ a k (layers.outs-IfLocal b c e p q) tt (record { few = omega (arith, l.few, r.few) })
    few-made (IsSoundProc.send {b = b} {s = s} {c = c} {e = e} xb xs xc xe) a k = shared _ _ a k (layers.outs-Send b s c e) tt (record { few = omega arith })
    few-made (IsSoundProc.post {b = b} {c = c} {e = e} xb xc xe) a k = posted _ _ a k b c e
    few-made (IsSoundProc.test {e = e} {p = p} {q = q} xe g d) a k =
        let l = few-made g a k in
        let r = few-made d a (f p a k).next in
        shared _ _ a k (layers.outs-If e p q) tt (record { few = omega (arith, l.few, r.few) })
    few-made (IsSoundProc.bind {x = x} {e = e} {p = p} b xe g) a k = let l = few-made g a k in shared _ _ a k (layers.outs-Let x e p) tt (record { few = omega (arith, l.few) })
    few-made (IsSoundProc.print {e = e} xe) a k = shared _ _ a k (layers.outs-Print e) tt (record { few = omega arith })

    -- of main's process of a program that is sound
    pub few-in-main : (p : Program) → length p.sites ≡ n → IsSound p → (f p.main (main n) p.binders).next ≤ MOST_BINDERS + 8 * MOST_NODES
    few-in-main p same s =
        let main_sound = subst (λ (m : ℕ). IsSoundProc m [] 1 p.main s.after s.bound) same s.main in
        let l = few-made main_sound (main n) p.binders in
        omega (arith, l.few, s.few_nodes, s.few_binders)

is-few : (n : ℕ) → MakesFew n (translated n)
is-few n = record {
  keeps = translated-keeps n;
  between = 2;
  few = omega arith;
  creation = λ tag at a k b p q. ap (λ (r : Translated). r.next) (translated-form n (source tag at (form.Agent b p q)) a k ∙ form-agent n tag at a k b p q);
  post = λ tag at a k b c e. omega (arith, ap (λ (r : Translated). r.next) (translated-form n (source tag at (form.Post b c e)) a k ∙ form-post n tag at a k b c e));
}

-- so the numbers of main's process and of the daemon fit
pub numbers-fit : (p : Program) → IsSound p → (main_of (length p.sites) p).1 + 20 < 2 ^ 32
numbers-fit p s = omega (arith, few-in-main (length p.sites) (translated (length p.sites)) (is-few (length p.sites)) p refl s)

-- ---- where the number behind a process fits, those behind its parts do

-- the process is of this form
pub form_fits : (n : ℕ) (f g : ProcForm) (tag : Tag) (at : ℕ) (a : Expr) (next : ℕ) (v : Translated) → f ≡ g → translated_form n g tag at a next ≡ v
    → (translated_form n f tag at a next).next < 2 ^ 32 → v.next < 2 ^ 32
form_fits n f g tag at a next v is e fits = subst (λ (t : Translated). t.next < 2 ^ 32) (ap (λ (h : ProcForm). translated_form n h tag at a next) is ∙ e) fits

pub own_form_fits : (n : ℕ) (p : Proc) (f : ProcForm) (a : Expr) (next : ℕ) → f ≡ p.form → (translated n p a next).next < 2 ^ 32
    → (translated_form n f p.tag p.at a next).next < 2 ^ 32
own_form_fits n p f a next is fits =
    subst (λ (t : Translated). t.next < 2 ^ 32) (translated-form n p a next ∙ ap (λ (h : ProcForm). translated_form n h p.tag p.at a next) (sym is)) fits

-- of two processes, the second is numbered on behind the first
pub first_fits : (n : ℕ) (q : Proc) (a : Expr) (mid between : ℕ) → (translated n q a (mid + between)).next < 2 ^ 32 → mid < 2 ^ 32
first_fits n q a mid between fits = omega (arith, numbers-go-on n q a (mid + between))

pub left_fits : (n : ℕ) (q : Proc) (a : Expr) (mid : ℕ) → (translated n q a mid).next < 2 ^ 32 → mid < 2 ^ 32
left_fits n q a mid fits = omega (arith, numbers-go-on n q a mid)

pub right_fits : (n : ℕ) (q : Proc) (a : Expr) (left mid : Translated) → left ≡ mid → (translated n q a mid.next).next < 2 ^ 32 → (translated n q a left.next).next < 2 ^ 32
right_fits n q a left mid same fits = subst (λ (m : Translated). (translated n q a m.next).next < 2 ^ 32) (sym same) fits

pub second_fits : (n : ℕ) (q : Proc) (a : Expr) (between : ℕ) (left mid : Translated) → left ≡ mid → (translated n q a (mid.next + between)).next < 2 ^ 32
    → (translated n q a (left.next + between)).next < 2 ^ 32
second_fits n q a between left mid same fits = subst (λ (m : Translated). (translated n q a (m.next + between)).next < 2 ^ 32) (sym same) fits

-- the binders between the two processes
pub between_fit : (n : ℕ) (q : Proc) (a : Expr) (between : ℕ) (left mid : Translated) → left ≡ mid → (translated n q a (mid.next + between)).next < 2 ^ 32
    → left.next + between < 2 ^ 32
between_fit n q a between left mid same fits = omega (arith, numbers-go-on n q a (left.next + between), second_fits n q a between left mid same fits)
