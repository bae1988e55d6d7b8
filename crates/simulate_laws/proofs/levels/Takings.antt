-- A process takes an output, as it is at the low level: an input once, a replicated input again and again.
use Rattle.std.proofs.Common.{◌≡◌, Some, sym, ap, ◌∙◌}
use Rattle.np_syntax.specs.declared.value.Name.{Name}
use Rattle.np_syntax.specs.declared.value.Value.{Value}
use Rattle.np_syntax.specs.declared.expression.Expr.{Expr}
use Rattle.np_syntax.specs.declared.pattern.Pat.{Pat}
use Rattle.np_syntax.specs.declared.process.Proc.{Proc}
use Rattle.np_syntax.specs.declared.event.Event.{Event}
use Rattle.np_syntax.specs.declared.event.Made.TheVariants as made
use Rattle.np_syntax.specs.Options.{◌>>=◌, ◌>>◌}
use Rattle.np_calculus.specs.declared.config.Atom.{Atom}
use Rattle.np_calculus.specs.Changes.{Change, effect}
use Rattle.np_calculus.specs.Config.{Config}
use Rattle.np_calculus.specs.Reductions.{goes_under, none_made, offered_in}
use Rattle.np_calculus.specs.Seen.{acting}
use Rattle.np_calculus.specs.Sight.{inside, sight}
use Rattle.np_calculus.proofs.Steps.{Acts, Offers, acting-step, offered-step, same-offer}
use Rattle.np_eval.specs.Eval.{Env, bind, chan_of}
use Rattle.np_eval.specs.Forms.{Layer, layer}
use Rattle.simulate_laws.proofs.levels.Applies.{takes}

-- by the form that takes, and by what then changes
module _ (form_of : Expr → Pat → Proc → Layer) (changes : Name → Atom → Change) (low : Config) (e : Event) (next : Config) where
  pub record IsTaking : Type 0 where
    pub atom : Atom
    pub acts : Acts low e atom
    pub on : Expr
    pub pattern : Pat
    pub body : Proc
    pub form : layer atom.proc ≡ form_of on pattern body
    pub chan : Name
    pub its_chan : chan_of on atom.env ≡ Some chan
    pub other : Name
    pub its_other : e.other ≡ Some other
    pub what : Value
    pub offers : Offers low other atom.agent chan what
    pub env : Env
    pub binds : bind pattern what atom.env ≡ Some env
    pub made_none : e.made ≡ made.Nothing
    pub is : next ≡ effect low e (changes other (goes_under atom body env))

  pub taking : (x : Change) → next ≡ effect low e x → (a : Atom) → acting low e ≡ Some a → (c : Expr) (p : Pat) (q : Proc) → layer a.proc ≡ form_of c p q
      → (chan_of c a.env >>= λ n. e.other >>= λ o. offered_in (sight low.sites (inside low) e.site).atom o a.agent n >>= λ v. bind p v a.env
      >>= λ env. none_made e.made >> Some (changes o (goes_under a q env))) ≡ Some x
      → IsTaking
  taking x is a acts c p q form h =
      takes (sight low.sites (inside low) e.site) e a c p (λ o env. changes o (goes_under a q env)) h λ n o v env on other offer binds none last.
      record {
        atom = a;
        acts = acting-step low e a acts;
        on = c;
        pattern = p;
        body = q;
        form = form;
        chan = n;
        its_chan = on;
        other = o;
        its_other = other;
        what = v;
        offers = offered-step low o a.agent n v (sym (same-offer low e a o n acts) ∙ offer);
        env = env;
        binds = binds;
        made_none = none;
        is = is ∙ ap (effect low e) last;
      }
