-- The numbers of the binders that the translation with caches makes: they go on from the first, and are few where the process nodes are.
use Rattle.std.proofs.Common.{◌≡◌, ◌<◌, ◌≤◌, ℕ, ◌+◌, ◌^◌, length, refl, sym, ap, subst, ◌∙◌, arith}
use Rattle.np_syntax.specs.declared.expression.Expr.{Expr}
use Rattle.np_syntax.specs.declared.process.Tag.{Tag}
use Rattle.np_syntax.specs.declared.process.Proc.{Proc}
use Rattle.np_syntax.specs.declared.process.ProcForm.{ProcForm}
use Rattle.np_syntax.specs.declared.process.ProcForm as form
use Rattle.np_syntax.specs.declared.program.Program.{Program}
use Rattle.np_scope.specs.Sound.{IsSound}
use Rattle.infrastructure_texts.specs.Infrastructures.{Infrastructure}
use Rattle.daemon_encode.specs.declared.translated.Translated.{Translated}
use Rattle.daemon_encode.specs.Translates.{source}
use Rattle.daemon_encode.proofs.Numbers.{MakesFew, few-in-main}
use Rattle.daemon_encode.proofs.Related.{related}
use Rattle.cache_encode.specs.Encoded.{cached, cached_form, main_of}
use Rattle.cache_encode.proofs.CachedRelated.{cached-related}
use Rattle.cache_encode.proofs.Forms.{cached-form, form-agent, form-post}
use Rattle.cache_encode.proofs.KeptForms.{cached-keeps}

-- they go on from the first
pub numbers-go-on : (n : ℕ) (p : Proc) (a : Expr) (next : ℕ) → next ≤ (cached n p a next).next
numbers-go-on n p a next = (related Infrastructure.cached n 0 (cached n) (cached-related n 0) p a next (omega arith)).on

is-few : (n : ℕ) → MakesFew n (cached n)
is-few n = record {
  keeps = cached-keeps n;
  between = 7;
  few = omega arith;
  creation = λ tag at a k b p q. ap (λ (r : Translated). r.next) (cached-form n (source tag at (form.Agent b p q)) a k ∙ form-agent n tag at a k b p q);
  post = λ tag at a k b c e. omega (arith, ap (λ (r : Translated). r.next) (cached-form n (source tag at (form.Post b c e)) a k ∙ form-post n tag at a k b c e));
}

-- so the numbers of main's process and of the daemon fit
pub numbers-fit : (p : Program) → IsSound p → (main_of (length p.sites) p).1 + 27 < 2 ^ 32
numbers-fit p s = omega (arith, few-in-main (length p.sites) (cached (length p.sites)) (is-few (length p.sites)) p refl s)

-- ---- where the number behind a process fits, those behind its parts do

-- the process is of this form
pub form_fits : (n : ℕ) (f g : ProcForm) (tag : Tag) (at : ℕ) (a : Expr) (next : ℕ) (v : Translated) → f ≡ g → cached_form n g tag at a next ≡ v
    → (cached_form n f tag at a next).next < 2 ^ 32 → v.next < 2 ^ 32
form_fits n f g tag at a next v is e fits = subst (λ (t : Translated). t.next < 2 ^ 32) (ap (λ (h : ProcForm). cached_form n h tag at a next) is ∙ e) fits

pub own_form_fits : (n : ℕ) (p : Proc) (f : ProcForm) (a : Expr) (next : ℕ) → f ≡ p.form → (cached n p a next).next < 2 ^ 32
    → (cached_form n f p.tag p.at a next).next < 2 ^ 32
own_form_fits n p f a next is fits =
    subst (λ (t : Translated). t.next < 2 ^ 32) (cached-form n p a next ∙ ap (λ (h : ProcForm). cached_form n h p.tag p.at a next) (sym is)) fits

-- of two processes, the second is numbered on behind the first
pub first_fits : (n : ℕ) (q : Proc) (a : Expr) (mid between : ℕ) → (cached n q a (mid + between)).next < 2 ^ 32 → mid < 2 ^ 32
first_fits n q a mid between fits = omega (arith, numbers-go-on n q a (mid + between))

pub left_fits : (n : ℕ) (q : Proc) (a : Expr) (mid : ℕ) → (cached n q a mid).next < 2 ^ 32 → mid < 2 ^ 32
left_fits n q a mid fits = omega (arith, numbers-go-on n q a mid)

pub right_fits : (n : ℕ) (q : Proc) (a : Expr) (left mid : Translated) → left ≡ mid → (cached n q a mid.next).next < 2 ^ 32 → (cached n q a left.next).next < 2 ^ 32
right_fits n q a left mid same fits = subst (λ (m : Translated). (cached n q a m.next).next < 2 ^ 32) (sym same) fits

pub second_fits : (n : ℕ) (q : Proc) (a : Expr) (between : ℕ) (left mid : Translated) → left ≡ mid → (cached n q a (mid.next + between)).next < 2 ^ 32
    → (cached n q a (left.next + between)).next < 2 ^ 32
second_fits n q a between left mid same fits = subst (λ (m : Translated). (cached n q a (m.next + between)).next < 2 ^ 32) (sym same) fits

-- the binders between the two processes
pub between_fit : (n : ℕ) (q : Proc) (a : Expr) (between : ℕ) (left mid : Translated) → left ≡ mid → (cached n q a (mid.next + between)).next < 2 ^ 32
    → left.next + between < 2 ^ 32
between_fit n q a between left mid same fits = omega (arith, numbers-go-on n q a (left.next + between), second_fits n q a between left mid same fits)
