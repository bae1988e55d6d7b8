-- How the translation of a process of a source goes on, by the form of the process.
use Rattle.std.proofs.Common.{◌≡◌, ℕ, false, None, refl, ap}
use Rattle.np_syntax.specs.declared.expression.Expr.{Expr}
use Rattle.np_syntax.specs.declared.pattern.Pat.{Pat}
use Rattle.np_syntax.specs.declared.process.Proc.{Proc}
use Rattle.np_syntax.specs.declared.process.ProcForm.{ProcForm-F}
use Rattle.np_syntax.specs.declared.process.ProcForm.TheVariants as forms
use Rattle.np_syntax.specs.declared.process.ProcForm as form
use Rattle.np_syntax.specs.declared.process.Tag.{Tag}
use Rattle.np_calculus.specs.Idle.{waits}
use Rattle.np_eval.specs.Forms.{Layer, given_on, layer, taken_on}
use Rattle.infrastructure_texts.specs.CacheTexts.{cache}
use Rattle.infrastructure_texts.specs.InfrastructureTexts.{post_of}
use Rattle.infrastructure_texts.specs.Pieces.{currentloc}
use Rattle.infrastructure_texts.specs.Infrastructures.{Infrastructure}
use Rattle.daemon_encode.specs.Translates.{Translates, source}

-- as itself, where it waits; by taking `currentloc`, where it is to move or to make an agent; by taking the cache, where it is a post and agents have
-- caches; or at once
pub data Goes (i : Infrastructure) (n : ℕ) (high low : Layer) : Type 0 where
  gives : {c e : Expr} → high ≡ ProcForm-F.Out c e → low ≡ ProcForm-F.Out c e → Goes i n high low
  takes : {c : Expr} {x : Pat} {p q : Proc} → high ≡ ProcForm-F.Inp c x p → low ≡ ProcForm-F.Inp c x q → Goes i n high low
  serves : {c : Expr} {x : Pat} {p q : Proc} → high ≡ ProcForm-F.Rep c x p → low ≡ ProcForm-F.Rep c x q → Goes i n high low
  asks : {x : Pat} {q : Proc} → given_on high ≡ None → taken_on high ≡ None → low ≡ ProcForm-F.Inp (currentloc n) x q → Goes i n high low
  calls : {x : Pat} {q : Proc} → i ≡ Infrastructure.cached → given_on high ≡ None → taken_on high ≡ None
      → low ≡ ProcForm-F.Inp (cache n) x q → Goes i n high low
  acts : waits low ≡ false → Goes i n high low

goes_post : (i : Infrastructure) (n : ℕ) (a : Expr) (k : Tag) (at m : ℕ) (b c v : Expr)
    → Goes i n (layer (source k at (form.Post b c v))) (layer (post_of i n k.node a b c v m))
goes_post Infrastructure.central n a k at m b c v = Goes.acts (ap waits (forms.outs-Send _ _ _ _))
goes_post Infrastructure.cached n a k at m b c v =
    Goes.calls refl (ap given_on (forms.outs-Post _ _ _)) (ap taken_on (forms.outs-Post _ _ _)) (forms.outs-Inp _ _ _)

pub goes : (i : Infrastructure) (n from : ℕ) (a : Expr) (p q : Proc) → Translates i n from a p q → Goes i n (layer p) (layer q)
goes i n from a p q Translates.stop = Goes.acts (ap waits forms.outs-Stop)
goes i n from a p q (Translates.parallel x y) = Goes.acts (ap waits (forms.outs-Par _ _))
goes i n from a p q (Translates.channel x) = Goes.acts (ap waits (forms.outs-New _ _ _))
goes i n from a p q Translates.output = Goes.gives (forms.outs-Out _ _) (forms.outs-Out _ _)
goes i n from a p q (Translates.input x) = Goes.takes (forms.outs-Inp _ _ _) (forms.outs-Inp _ _ _)
goes i n from a p q (Translates.replicated x) = Goes.serves (forms.outs-Rep _ _ _) (forms.outs-Rep _ _ _)
goes i n from a p q (Translates.agent c d f g z x y) = Goes.asks (ap given_on (forms.outs-Agent _ _ _)) (ap taken_on (forms.outs-Agent _ _ _)) (forms.outs-Inp _ _ _)
goes i n from a p q (Translates.migrate x) = Goes.asks (ap given_on (forms.outs-Migrate _ _)) (ap taken_on (forms.outs-Migrate _ _)) (forms.outs-Inp _ _ _)
goes i n from a p q (Translates.iflocal x y) = Goes.acts (ap waits (forms.outs-IfLocal _ _ _ _ _))
goes i n from a p q Translates.send = Goes.acts (ap waits (forms.outs-Send _ _ _ _))
goes i n from a p q (Translates.post {k = k} {at = at} {m = m} {b = b} {c = c} {v = v} above) = goes_post i n a k at m b c v
goes i n from a p q (Translates.test x y) = Goes.acts (ap waits (forms.outs-If _ _ _))
goes i n from a p q (Translates.bind x) = Goes.acts (ap waits (forms.outs-Let _ _ _))
goes i n from a p q Translates.print = Goes.acts (ap waits (forms.outs-Print _))
goes i n from a p q Translates.open_letter = Goes.acts (ap waits (forms.outs-Open _))
goes i n from a p q (Translates.lookup x y) = Goes.acts (ap waits (forms.outs-Lookup _ _ _ _ _))
