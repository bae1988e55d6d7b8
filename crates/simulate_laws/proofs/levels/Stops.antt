-- A process that is done ends: its atom goes at both levels.
use Rattle.std.proofs.Common.{◌≡◌, ℕ, None, Some, [], ◌∷◌, refl, sym, ap, subst, ◌∙◌}
use Rattle.std.specs.Option.{option_map}
use Rattle.np_syntax.specs.declared.process.ProcForm.{ProcForm-F}
use Rattle.np_syntax.specs.declared.event.Event.{Event}
use Rattle.np_syntax.specs.declared.event.Kind.TheVariants as kind
use Rattle.np_syntax.specs.declared.event.Made.TheVariants as made
use Rattle.np_syntax.proofs.Options.{then, done}
use Rattle.np_calculus.specs.declared.config.Atom.{Atom}
use Rattle.np_calculus.specs.Begins.{begun_by}
use Rattle.np_calculus.specs.Changes.{cut, effect, still}
use Rattle.np_calculus.specs.Config.{Config}
use Rattle.np_calculus.specs.Reductions.{apply, no_other, none_made, row}
use Rattle.np_calculus.specs.Seen.{acting}
use Rattle.np_calculus.specs.Sight.{inside, sight}
unfoldable use Rattle.np_calculus.proofs.Common.{act}
use Rattle.np_calculus.proofs.Rows.{parts}
use Rattle.np_calculus.proofs.Steps.{Acts, acting-step, is-none, row-step, step-acting}
use Rattle.np_lift.specs.CachedLift.{stands_for}
use Rattle.np_eval.specs.Forms.{layer}
use Rattle.infrastructure_texts.specs.Infrastructures.{Infrastructure}
use Rattle.simulate_laws.specs.levels.Coupled.{Coupled, View}
use Rattle.simulate_laws.specs.levels.Laws.{IsEvent, event_of}
use Rattle.simulate_laws.proofs.levels.Actors.{Actor, actor}
use Rattle.simulate_laws.proofs.levels.Forms.{IsFormOf}
use Rattle.simulate_laws.proofs.levels.Applies.{takes_nothing}
use Rattle.simulate_laws.proofs.levels.Goes.{IsSame, ends_both}

pub record IsStopping (low : Config) (e : Event) (next : Config) : Type 0 where
  pub atom : Atom
  pub acts : Acts low e atom
  pub form : layer atom.proc ≡ ProcForm-F.Stop
  pub made_none : e.made ≡ made.Nothing
  pub other_none : e.other ≡ None
  pub is : next ≡ effect low e (record still { atoms = cut e.actor ∷ [] })

pub stopping : (low : Config) (e : Event) (next : Config) → row kind.Stop low e ≡ Some next → IsStopping low e next
unfolding act
stopping low e next h =
    let r = row-step low e next kind.Stop h in
    then (acting low e) _ r.gives λ a acts h. parts kind.Stop (sight low.sites (inside low) e.site) e a h λ p form h.
    then (none_made e.made) _ h λ u none h. then (no_other e.other) _ h λ w other h.
    record {
      atom = a;
      acts = acting-step low e a acts;
      form = form;
      made_none = is-none e.made u none;
      other_none = takes_nothing e.other w other;
      is = r.is ∙ ap (effect low e) (done h);
    }

stop_applies : (c : Config) (e : Event) (a : Atom) → Acts c e a → layer a.proc ≡ ProcForm-F.Stop → e.made ≡ made.Nothing → e.other ≡ None
    → row kind.Stop c e ≡ Some (effect c e (record still { atoms = cut e.actor ∷ [] }))
unfolding act
stop_applies c e a acts form none other = rw (step-acting c e a acts, form, none, other) refl

module _ {i : Infrastructure} {n from first : ℕ} {low high : Config} {v : View} (c : Coupled i n from first low high v) (e : Event) (next : Config) (is : e.kind ≡ kind.Stop)
    (h : apply low e ≡ Some next) (s : IsStopping low e next) (o : Actor c e s.atom) where
  stopped : IsSame c e next
  stopped =
      let form : layer o.atom.proc ≡ ProcForm-F.Stop = subst (λ l. IsFormOf i n from o.named l (layer o.atom.proc)) s.form o.form in
      let w = ends_both c e next o h None s.is in (
        effect high (event_of v e) (record still { atoms = cut (stands_for v.standing e.actor) ∷ [] }),
        ap (λ k. row k high (event_of v e)) is ∙ stop_applies high (event_of v e) o.atom o.acts form s.made_none (ap (option_map (stands_for v.standing)) s.other_none),
        w.0,
        w.1,
        w.2,
        w.3,
      )

pub stops-are-events : {i : Infrastructure} → IsEvent i kind.Stop
stops-are-events n from first low high v c well lodged e next is plain h =
    let s = stopping low e next (ap (λ k. row k low e) (sym is) ∙ h) in
    stopped c e next is h s (actor c e lodged s.atom kind.Stop s.acts plain (ap begun_by s.form) (λ e. cc) (λ e. cc))
