-- A value is said: the same at both levels, and the atom goes.
use Rattle.std.proofs.Common.{◌≡◌, ℕ, None, Some, [], ◌∷◌, refl, sym, ap, subst, ◌∙◌}
use Rattle.std.specs.Option.{option_map}
use Rattle.np_syntax.specs.declared.value.Value.{Value}
use Rattle.np_syntax.specs.declared.expression.Expr.{Expr}
use Rattle.np_syntax.specs.declared.process.ProcForm.{ProcForm-F}
use Rattle.np_syntax.specs.declared.event.Event.{Event}
use Rattle.np_syntax.specs.declared.event.Kind.TheVariants as kind
use Rattle.np_syntax.specs.declared.event.Made.TheVariants as made
use Rattle.np_syntax.proofs.Options.{then, done}
use Rattle.np_calculus.specs.declared.config.Atom.{Atom}
use Rattle.np_calculus.specs.Begins.{begun_by}
use Rattle.np_calculus.specs.Changes.{cut, effect, still}
use Rattle.np_calculus.specs.Config.{Config}
use Rattle.np_calculus.specs.Reductions.{apply, no_other, none_made, row}
use Rattle.np_calculus.specs.Seen.{acting}
use Rattle.np_calculus.specs.Sight.{inside, sight}
unfoldable use Rattle.np_calculus.proofs.Common.{act}
use Rattle.np_calculus.proofs.Rows.{parts}
use Rattle.np_calculus.proofs.Steps.{Acts, acting-step, is-none, row-step, step-acting}
use Rattle.np_lift.specs.CachedLift.{stands_for}
use Rattle.np_eval.specs.Eval.{eval}
use Rattle.np_eval.specs.Forms.{layer}
use Rattle.infrastructure_texts.specs.Infrastructures.{Infrastructure}
use Rattle.simulate_laws.specs.levels.Coupled.{Coupled, View}
use Rattle.simulate_laws.specs.levels.Laws.{IsEvent, event_of}
use Rattle.simulate_laws.proofs.levels.Actors.{Actor, actor, parts_of, same_here}
use Rattle.simulate_laws.proofs.levels.Forms.{IsFormOf}
use Rattle.simulate_laws.proofs.levels.Applies.{takes_nothing}
use Rattle.simulate_laws.proofs.levels.Goes.{IsSame, ends_both}

record IsPrinting (low : Config) (e : Event) (next : Config) : Type 0 where
  atom : Atom
  acts : Acts low e atom
  said : Expr
  form : layer atom.proc ≡ ProcForm-F.Print said
  what : Value
  its_value : eval said atom.env ≡ Some what
  made_none : e.made ≡ made.Nothing
  other_none : e.other ≡ None
  is : next ≡ effect low e (record still { atoms = cut e.actor ∷ []; said = Some what })

printing : (low : Config) (e : Event) (next : Config) → row kind.Print low e ≡ Some next → IsPrinting low e next
unfolding act
printing low e next h =
    let r = row-step low e next kind.Print h in
    then (acting low e) _ r.gives λ a acts h. parts kind.Print (sight low.sites (inside low) e.site) e a h λ p form h.
    then (eval p a.env) _ h λ v gives h. then (none_made e.made) _ h λ u none h. then (no_other e.other) _ h λ w other h.
    record {
      atom = a;
      acts = acting-step low e a acts;
      said = p;
      form = form;
      what = v;
      its_value = gives;
      made_none = is-none e.made u none;
      other_none = takes_nothing e.other w other;
      is = r.is ∙ ap (effect low e) (done h);
    }

print_applies : (c : Config) (e : Event) (a : Atom) (y : Expr) (v : Value) → Acts c e a → layer a.proc ≡ ProcForm-F.Print y → eval y a.env ≡ Some v
    → e.made ≡ made.Nothing → e.other ≡ None → row kind.Print c e ≡ Some (effect c e (record still { atoms = cut e.actor ∷ []; said = Some v }))
unfolding act
print_applies c e a y v acts form gives none other = rw (step-acting c e a acts, form, gives, none, other) refl

module _ {i : Infrastructure} {n from first : ℕ} {low high : Config} {v : View} (c : Coupled i n from first low high v) (e : Event) (next : Config) (is : e.kind ≡ kind.Print)
    (h : apply low e ≡ Some next) (s : IsPrinting low e next) (o : Actor c e s.atom) where
  other : (event_of v e).other ≡ None
  other = ap (option_map (stands_for v.standing)) s.other_none

  printed : IsSame c e next
  printed =
      let form : layer o.atom.proc ≡ ProcForm-F.Print s.said = subst (λ l. IsFormOf i n from o.named l (layer o.atom.proc)) s.form o.form in
      let its = parts_of c e o (ProcForm-F.Print s.said) form in
      let gives : eval s.said o.atom.env ≡ Some s.what = sym (same_here c e o s.said its.1) ∙ s.its_value in
      let w = ends_both c e next o h (Some s.what) s.is in (
        effect high (event_of v e) (record still { atoms = cut (stands_for v.standing e.actor) ∷ []; said = Some s.what }),
        ap (λ k. row k high (event_of v e)) is ∙ print_applies high (event_of v e) o.atom s.said s.what o.acts form gives s.made_none other,
        w.0,
        w.1,
        w.2,
        w.3,
      )

pub prints-are-events : {i : Infrastructure} → IsEvent i kind.Print
prints-are-events n from first low high v c well lodged e next is plain h =
    let s = printing low e next (ap (λ k. row k low e) (sym is) ∙ h) in
    printed c e next is h s (actor c e lodged s.atom kind.Print s.acts plain (ap begun_by s.form) (λ e. cc) (λ e. cc))
