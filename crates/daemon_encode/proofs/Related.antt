-- What the translation makes of a process is a low process of it. The walk over processes also serves translations that write out a
-- creation and a post in ways of their own.
use Rattle.std.proofs.Common.{◌≡◌, ◌≤◌, ℕ, ◌+◌, length, refl, subst, sym, ap, ◌∙◌, arith}
use Rattle.np_syntax.specs.declared.expression.Expr.{Expr}
use Rattle.np_syntax.specs.declared.process.Tag.{Tag}
use Rattle.np_syntax.specs.declared.process.Proc.{Proc}
use Rattle.np_syntax.specs.declared.process.ProcForm.{ProcForm, ProcForm-F, roll-ProcForm, roll-out-ProcForm}
use Rattle.np_syntax.specs.declared.process.ProcForm as form
use Rattle.np_syntax.specs.declared.process.ProcForm.TheVariants as layers
use Rattle.np_syntax.specs.declared.program.Program.{Program}
use Rattle.np_syntax.specs.declared.program.LowProgram.{LowProgram}
use Rattle.np_eval.specs.Forms.{Layer, layer}
use Rattle.np_safety.proofs.Processes.{ProcHyps, proc_of, proc_ind}
use Rattle.daemon_encode.specs.declared.translated.Translated.{Translated}
use Rattle.infrastructure_texts.specs.Pieces.{variable, main}
use Rattle.daemon_encode.specs.Encoded.{Translation, translate_step, translated}
use Rattle.infrastructure_texts.specs.Infrastructures.{Infrastructure}
use Rattle.infrastructure_texts.specs.InfrastructureTexts.{main_of, daemon_of}
use Rattle.daemon_encode.specs.Translates.{Translates, IsLowOf, TranslatesItself, EncodesItself, source}
use Rattle.daemon_encode.proofs.Forms.{translated-form, form-agent, form-post}
use Rattle.daemon_encode.proofs.KeptForms.{IsShared, steps, KeepsForms, translated-keeps}

module _ (i : Infrastructure) (n from : ℕ) where
  -- it is one of it, and the numbers go on
  pub record Done (a : Expr) (p : Proc) (next : ℕ) (r : Translated) : Type 0 where
    pub is : Translates i n from a p r.proc
    pub on : next ≤ r.next

  -- the same, wherever the numbers begin
  abbrev pub Claim : (Proc → Translation) → Proc → Type 0
  Claim f p = (a : Expr) (next : ℕ) → from ≤ next → Done a p next (f p a next)

  -- a translation whose creations and posts are low processes of theirs
  pub record IsRelated (f : Proc → Translation) : Type 0 where
    pub keeps : KeepsForms n f
    pub creation : (tag : Tag) (at b : ℕ) (p q : Proc) → Claim f p → Claim f q → Claim f (source tag at (form.Agent b p q))
    pub post : (tag : Tag) (at : ℕ) (b c v : Expr) → Claim f (source tag at (form.Post b c v))

  -- by an equation of a translation
  pub made_so : {a : Expr} {p : Proc} {next : ℕ} (t u : Translated) → t ≡ u → Done a p next u → Done a p next t
  made_so {a} {p} {next} t u e d = subst (Done a p next) (sym e) d

  module _ (f : Proc → Translation) (t : IsRelated f) where
    -- of a form that is the process's
    of_form : (p : Proc) (y : Layer) (g : ProcForm) → layer p ≡ y → roll-ProcForm y ≡ g → p.form ≡ g
    of_form p y g is rolls = sym (roll-out-ProcForm p.form) ∙ ap roll-ProcForm is ∙ rolls

    written : (p : Proc) (y : Layer) (g : ProcForm) → layer p ≡ y → roll-ProcForm y ≡ g → Claim f (source p.tag p.at g) → Claim f p
    written p y g is rolls c = subst (λ h. Claim f (source p.tag p.at h)) (sym (of_form p y g is rolls)) c

    kept : (p : Proc) (y : Layer) (g : ProcForm) → layer p ≡ y → roll-ProcForm y ≡ g → IsShared y → (a : Expr) (next : ℕ)
        → Done a (source p.tag p.at g) next (translate_step n (steps t.keeps.forms f y) p.tag p.at a next) → Done a p next (f p a next)
    kept p y g is rolls same a next d =
        let r = translate_step n (steps t.keeps.forms f y) p.tag p.at a next in
        made_so _ r (t.keeps.shared p y is same a next) (subst (λ h. Done a (source p.tag p.at h) next r) (sym (of_form p y g is rolls)) d)

    -- two processes, one behind the other
    record Both (a : Expr) (p q : Proc) (next : ℕ) : Type 0 where
      left : Translates i n from a p (f p a next).proc
      right : Translates i n from a q (f q a (f p a next).next).proc
      on : next ≤ (f q a (f p a next).next).next

    both : (a : Expr) (p q : Proc) (next : ℕ) → Claim f p → Claim f q → from ≤ next → Both a p q next
    both a p q next c d above =
        let r = c a next above in
        let mid = (f p a next).next in
        let on : next ≤ mid = r.on in
        let s = d a mid (omega (arith, above, on)) in
        let further : mid ≤ (f q a mid).next = s.on in
        record { left = r.is; right = s.is; on = omega (arith, on, further) }

    layered : (y : ProcHyps (Claim f)) (p : Proc) → layer p ≡ proc_of (Claim f) y → Claim f p
    layered ProcForm-F.Stop p is a next above = kept p _ form.Stop is layers.rolls-Stop tt a next (record { is = Translates.stop; on = omega arith })
    layered (ProcForm-F.Par l r) p is a next above =
        let b = both a l.0 r.0 next l.1 r.1 above in
        kept p _ (form.Par l.0 r.0) is (layers.rolls-Par l.0 r.0) tt a next (record { is = Translates.parallel b.left b.right; on = b.on })
    layered (ProcForm-F.New c t l) p is a next above =
        let r = l.1 a next above in
        kept p _ (form.New c t l.0) is (layers.rolls-New c t l.0) tt a next (record { is = Translates.channel r.is; on = r.on })
    layered (ProcForm-F.Out c e) p is a next above = kept p _ (form.Out c e) is (layers.rolls-Out c e) tt a next (record { is = Translates.output; on = omega arith })
    layered (ProcForm-F.Inp c x l) p is a next above =
        let r = l.1 a next above in
        kept p _ (form.Inp c x l.0) is (layers.rolls-Inp c x l.0) tt a next (record { is = Translates.input r.is; on = r.on })
    layered (ProcForm-F.Rep c x l) p is a next above =
        let r = l.1 a next above in
        kept p _ (form.Rep c x l.0) is (layers.rolls-Rep c x l.0) tt a next (record { is = Translates.replicated r.is; on = r.on })
    layered (ProcForm-F.Agent b l r) p is a next above =
        written p _ (form.Agent b l.0 r.0) is (layers.rolls-Agent b l.0 r.0) (t.creation p.tag p.at b l.0 r.0 l.1 r.1) a next above
    layered (ProcForm-F.Migrate e l) p is a next above =
        let r = l.1 a next above in
        kept p _ (form.Migrate e l.0) is (layers.rolls-Migrate e l.0) tt a next (record { is = Translates.migrate r.is; on = r.on })
    layered (ProcForm-F.IfLocal b c e l r) p is a next above =
        let d = both a l.0 r.0 next l.1 r.1 above in
        kept p _ (form.IfLocal b c e l.0 r.0) is (layers.rolls-IfLocal b c e l.0 r.0) tt a next (record { is = Translates.iflocal d.left d.right; on = d.on })
    layered (ProcForm-F.Send b s c e) p is a next above =
        kept p _ (form.Send b s c e) is (layers.rolls-Send b s c e) tt a next (record { is = Translates.send; on = omega arith })
    layered (ProcForm-F.Post b c v) p is a next above = written p _ (form.Post b c v) is (layers.rolls-Post b c v) (t.post p.tag p.at b c v) a next above
    layered (ProcForm-F.If e l r) p is a next above =
        let d = both a l.0 r.0 next l.1 r.1 above in
        kept p _ (form.If e l.0 r.0) is (layers.rolls-If e l.0 r.0) tt a next (record { is = Translates.test d.left d.right; on = d.on })
    layered (ProcForm-F.Let x e l) p is a next above =
        let r = l.1 a next above in
        kept p _ (form.Let x e l.0) is (layers.rolls-Let x e l.0) tt a next (record { is = Translates.bind r.is; on = r.on })
    layered (ProcForm-F.Print e) p is a next above = kept p _ (form.Print e) is (layers.rolls-Print e) tt a next (record { is = Translates.print; on = omega arith })
    layered (ProcForm-F.Open e) p is a next above = kept p _ (form.Open e) is (layers.rolls-Open e) tt a next (record { is = Translates.open_letter; on = omega arith })
    layered (ProcForm-F.Lookup b m x l r) p is a next above =
        let d = both a l.0 r.0 next l.1 r.1 above in
        kept p _ (form.Lookup b m x l.0 r.0) is (layers.rolls-Lookup b m x l.0 r.0) tt a next (record { is = Translates.lookup d.left d.right; on = d.on })

    pub related : (p : Proc) → Claim f p
    related = proc_ind (Claim f) (λ p y is. layered y p is)

-- the low program of a program where the parts of main's bracket are numbered on behind its process, and the daemon behind so many numbers
abbrev pub numbered_on : Infrastructure → Program → (Proc → Translation) → ℕ → LowProgram
numbered_on i p f parts =
    let n = length p.sites in
    let body = f p.main (main n) p.binders in
    record {
      sites = p.sites;
      at = p.at;
      main = main_of i n p.at body.next (body.next + 1) (body.next + 2) body.proc;
      daemon = daemon_of i n p.at (body.next + parts);
    }

pub numbered-low : (i : Infrastructure) (p : Program) (f : Proc → Translation) (parts : ℕ) → IsRelated i (length p.sites) p.binders f
    → IsLowOf i p (numbered_on i p f parts)
numbered-low i p f parts t =
    let n : ℕ = length p.sites in
    let next = (f p.main (main n) p.binders).next in
    let done = related i n p.binders f t p.main (main n) p.binders (omega arith) in
    let on : p.binders ≤ next = done.on in
    record {
      sites = refl;
      at = refl;
      body = (f p.main (main n) p.binders).proc;
      translates = done.is;
      letter = next;
      place = next + 1;
      letter_above = on;
      place_above = omega (arith, on);
      apart = λ e. omega (arith, e);
      cache = next + 2;
      cache_above = omega (arith, on);
      main = refl;
      first = next + parts;
      first_above = omega (arith, on);
      daemon = refl;
    }

pub is-related : (n from : ℕ) → IsRelated Infrastructure.central n from (translated n)
is-related n from = record {
  keeps = translated-keeps n;
  creation = λ tag at b p q c d a next above.
      let r = c (variable b) (next + 1) (omega (arith, above)) in
      let l = (translated n p (variable b) (next + 1)).next in
      let on : next + 1 ≤ l = r.on in
      let s = d a (l + 2) (omega (arith, above, on)) in
      let further : l + 2 ≤ (translated n q a (l + 2)).next = s.on in
      made_so Infrastructure.central n from _ _ (translated-form n (source tag at (form.Agent b p q)) a next ∙ form-agent n tag at a next b p q) (record {
        is = Translates.agent {c = next} above (omega (arith, above, on)) (omega (arith, above, on)) (λ e. omega (arith, e)) above r.is s.is;
        on = omega (arith, on, further);
      });
  post = λ tag at b c v a next above.
      made_so Infrastructure.central n from _ _ (translated-form n (source tag at (form.Post b c v)) a next ∙ form-post n tag at a next b c v)
      (record { is = Translates.post {m = next} above; on = omega arith });
}

pub translates-itself : TranslatesItself
translates-itself n from a p next above = (related Infrastructure.central n from (translated n) (is-related n from) p a next above).is

pub encodes-itself : EncodesItself
encodes-itself p = numbered-low Infrastructure.central p (translated (length p.sites)) 2 (is-related (length p.sites) p.binders)
