-- What the translation with caches makes of a process is a low process of it.
use Rattle.std.proofs.Common.{◌≤◌, ℕ, ◌+◌, length, ◌∙◌, arith}
use Rattle.np_syntax.specs.declared.process.ProcForm as form
use Rattle.infrastructure_texts.specs.Infrastructures.{Infrastructure}
use Rattle.infrastructure_texts.specs.Pieces.{variable}
use Rattle.daemon_encode.specs.Translates.{Translates, source}
use Rattle.daemon_encode.proofs.Related.{IsRelated, made_so, numbered-low, related}
use Rattle.cache_encode.specs.Encoded.{cached}
use Rattle.cache_encode.specs.Related.{CachedTranslatesItself, CachedEncodesItself}
use Rattle.cache_encode.proofs.Forms.{cached-form, form-agent, form-post}
use Rattle.cache_encode.proofs.KeptForms.{cached-keeps}

pub cached-related : (n from : ℕ) → IsRelated Infrastructure.cached n from (cached n)
cached-related n from = record {
  keeps = cached-keeps n;
  creation = λ tag at b p q c d a next above.
      let r = c (variable b) (next + 1) (omega (arith, above)) in
      let l = (cached n p (variable b) (next + 1)).next in
      let on : next + 1 ≤ l = r.on in
      let s = d a (l + 7) (omega (arith, above, on)) in
      let further : l + 7 ≤ (cached n q a (l + 7)).next = s.on in
      made_so Infrastructure.cached n from _ _ (cached-form n (source tag at (form.Agent b p q)) a next ∙ form-agent n tag at a next b p q) (record {
        is = Translates.agent above (omega (arith, above, on)) (omega (arith, above, on)) (λ e. omega (arith, e)) (omega (arith, above, on)) r.is s.is;
        on = omega (arith, on, further);
      });
  post = λ tag at b c v a next above.
      made_so Infrastructure.cached n from _ _ (cached-form n (source tag at (form.Post b c v)) a next ∙ form-post n tag at a next b c v)
      (record { is = Translates.post {m = next} above; on = omega arith });
}

pub cached-translates-itself : CachedTranslatesItself
cached-translates-itself n from a p next above = (related Infrastructure.cached n from (cached n) (cached-related n from) p a next above).is

pub cached-encodes-itself : CachedEncodesItself
cached-encodes-itself p = numbered-low Infrastructure.cached p (cached (length p.sites)) 7 (cached-related (length p.sites) p.binders)
