-- The making of a name, as it is at the low level.
use Rattle.std.proofs.Common.{◌≡◌, ℕ, false, None, Some, sym, ap, ◌∙◌}
use Rattle.std.specs.FinMap as map
use Rattle.std.specs.FinSet as set
use Rattle.np_syntax.specs.declared.value.Name.{Name}
use Rattle.np_syntax.specs.declared.value.Value as value
use Rattle.np_syntax.specs.declared.types.Ty.{Ty}
use Rattle.np_syntax.specs.declared.process.Proc.{Proc}
use Rattle.np_syntax.specs.declared.process.ProcForm.{ProcForm-F}
use Rattle.np_syntax.specs.declared.event.Event.{Event}
use Rattle.np_syntax.specs.declared.event.Kind.TheVariants as kind
use Rattle.np_syntax.specs.declared.event.Made.TheVariants as made
use Rattle.np_syntax.proofs.Options.{then, done}
use Rattle.np_calculus.specs.declared.config.Atom.{Atom}
use Rattle.np_calculus.specs.Changes.{effect}
use Rattle.np_calculus.specs.Config.{Config}
use Rattle.np_calculus.specs.Reductions.{becomes, goes_under, no_other, one_made, row}
use Rattle.np_calculus.specs.Seen.{acting}
use Rattle.np_calculus.specs.Sight.{inside, sight}
unfoldable use Rattle.np_calculus.proofs.Common.{act}
use Rattle.np_calculus.proofs.FrameRule.{not-false}
use Rattle.np_calculus.proofs.Rows.{parts}
use Rattle.np_calculus.proofs.Steps.{Acts, acting-step, is-one, one-new, row-step}
use Rattle.np_eval.specs.Forms.{layer}
use Rattle.simulate_laws.proofs.levels.Applies.{takes_nothing}

-- a name is made, and the process goes on with it
pub record IsNaming (low : Config) (e : Event) (next : Config) : Type 0 where
  pub atom : Atom
  pub acts : Acts low e atom
  pub binder : ℕ
  pub type : Ty
  pub body : Proc
  pub form : layer atom.proc ≡ ProcForm-F.New binder type body
  pub new : Name
  pub made_one : e.made ≡ made.One new
  pub is_new : set.contains low.born new ≡ false
  pub other_none : e.other ≡ None
  pub is : next ≡ effect low e (becomes e (goes_under atom body (map.insert atom.env binder (value.Chan new))))

pub naming : (low : Config) (e : Event) (next : Config) → row kind.New low e ≡ Some next → IsNaming low e next
unfolding act
naming low e next h =
    let r = row-step low e next kind.New h in
    then (acting low e) _ r.gives λ a acts h. parts kind.New (sight low.sites (inside low) e.site) e a h λ p form h.
    then (one_made e.made) _ h λ m one h. then (no_other e.other) _ h λ w other h.
    record {
      atom = a;
      acts = acting-step low e a acts;
      binder = p.0;
      type = p.1;
      body = p.2;
      form = form;
      new = m;
      made_one = is-one e.made m one;
      is_new = not-false (set.contains low.born m) (sym (one-new low.born e.made m one) ∙ r.new);
      other_none = takes_nothing e.other w other;
      is = r.is ∙ ap (effect low e) (done h);
    }
