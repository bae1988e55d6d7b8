-- A test is met or not: the process goes on as the one branch or the other, the same at both levels.
use Rattle.std.proofs.Common.{◌≡◌, ℕ, Bool, true, false, cond, None, Some, refl, sym, ap, subst, ◌∙◌}
use Rattle.std.specs.Option.{option_map}
use Rattle.np_syntax.specs.declared.value.Value.{out-Value}
use Rattle.np_syntax.specs.declared.expression.Expr.{Expr}
use Rattle.np_syntax.specs.declared.process.Proc.{Proc}
use Rattle.np_syntax.specs.declared.process.ProcForm.{ProcForm-F}
use Rattle.np_syntax.specs.declared.event.Event.{Event}
use Rattle.np_syntax.specs.declared.event.Kind.TheVariants as kind
use Rattle.np_syntax.specs.declared.event.Made.TheVariants as made
use Rattle.np_syntax.specs.Options.{◌>>=◌}
use Rattle.np_syntax.proofs.Options.{then, done}
use Rattle.np_calculus.specs.declared.config.Atom.{Atom}
use Rattle.np_calculus.specs.Begins.{begun_by}
use Rattle.np_calculus.specs.Changes.{effect}
use Rattle.np_calculus.specs.Config.{Config}
use Rattle.np_calculus.specs.Reductions.{apply, becomes, goes, no_other, none_made, row}
use Rattle.np_calculus.specs.Seen.{acting}
use Rattle.np_calculus.specs.Sight.{inside, sight}
unfoldable use Rattle.np_calculus.proofs.Common.{act}
use Rattle.np_calculus.proofs.Rows.{parts}
use Rattle.np_calculus.proofs.Steps.{Acts, acting-step, is-none, row-step, step-acting}
use Rattle.np_lift.specs.CachedLift.{stands_for}
use Rattle.np_eval.specs.Eval.{as_truth, truth_of}
use Rattle.np_eval.specs.Forms.{layer}
use Rattle.infrastructure_texts.specs.Infrastructures.{Infrastructure}
use Rattle.daemon_encode.specs.Translates.{Translates}
use Rattle.simulate_laws.specs.things.Sources.{IsSource}
use Rattle.simulate_laws.specs.things.Shapes.{IsOfSource, StandsFor}
use Rattle.simulate_laws.specs.levels.Coupled.{Coupled, View}
use Rattle.simulate_laws.specs.levels.Laws.{IsEvent, event_of}
use Rattle.simulate_laws.proofs.levels.Actors.{Actor, actor, parts_of, same_here}
use Rattle.simulate_laws.proofs.levels.Bodies.{first_part, goes_on, second_part}
use Rattle.simulate_laws.proofs.levels.Forms.{IsFormOf}
use Rattle.simulate_laws.proofs.levels.Applies.{takes_nothing}
use Rattle.simulate_laws.proofs.levels.Goes.{IsSame, goes_on_both, still_knows}

record IsTesting (low : Config) (e : Event) (next : Config) : Type 0 where
  atom : Atom
  acts : Acts low e atom
  test : Expr
  met : Proc
  unmet : Proc
  form : layer atom.proc ≡ ProcForm-F.If test met unmet
  holds : Bool
  its_truth : truth_of test atom.env ≡ Some holds
  made_none : e.made ≡ made.Nothing
  other_none : e.other ≡ None
  is : next ≡ effect low e (becomes e (goes atom (cond holds met unmet)))

testing : (low : Config) (e : Event) (next : Config) → row kind.If low e ≡ Some next → IsTesting low e next
unfolding act
testing low e next h =
    let r = row-step low e next kind.If h in
    then (acting low e) _ r.gives λ a acts h. parts kind.If (sight low.sites (inside low) e.site) e a h λ p form h.
    then (truth_of p.0 a.env) _ h λ t truth h. then (none_made e.made) _ h λ u none h. then (no_other e.other) _ h λ w other h.
    record {
      atom = a;
      acts = acting-step low e a acts;
      test = p.0;
      met = p.1;
      unmet = p.2;
      form = form;
      holds = t;
      its_truth = truth;
      made_none = is-none e.made u none;
      other_none = takes_nothing e.other w other;
      is = r.is ∙ ap (effect low e) (done h);
    }

if_applies : (c : Config) (e : Event) (a : Atom) (y : Expr) (p q : Proc) (t : Bool) → Acts c e a → layer a.proc ≡ ProcForm-F.If y p q
    → truth_of y a.env ≡ Some t → e.made ≡ made.Nothing → e.other ≡ None → row kind.If c e ≡ Some (effect c e (becomes e (goes a (cond t p q))))
unfolding act
if_applies c e a y p q t acts form truth none other = rw (step-acting c e a acts, form, truth, none, other) refl

-- of two parts either goes on
either_part : {i : Infrastructure} {n from : ℕ} {x : Expr} {h a : Atom} {p p' q q' : Proc} → StandsFor n from x h a → IsSource n from x p → IsSource n from x q
    → Translates i n from x p p' → Translates i n from x q q' → (t : Bool) → IsOfSource i n from x (goes h (cond t p q)) (goes a (cond t p' q'))
either_part {p' = p'} s left right l r true = record { stands = goes_on p' s left; translates = l }
either_part {q' = q'} s left right l r false = record { stands = goes_on q' s right; translates = r }

module _ {i : Infrastructure} {n from first : ℕ} {low high : Config} {v : View} (c : Coupled i n from first low high v) (e : Event) (next : Config) (is : e.kind ≡ kind.If)
    (h : apply low e ≡ Some next) (s : IsTesting low e next) (o : Actor c e s.atom) where
  other : (event_of v e).other ≡ None
  other = ap (option_map (stands_for v.standing)) s.other_none

  tested : IsSame c e next
  tested =
      let f = subst (λ l. IsFormOf i n from o.named l (layer o.atom.proc)) s.form o.form in
      let its = parts_of c e o (ProcForm-F.If s.test f.0 f.1) f.2 in
      let truth : truth_of s.test o.atom.env ≡ Some s.holds =
      ap (λ y. y >>= λ u. as_truth (out-Value u)) (sym (same_here c e o s.test its.0)) ∙ s.its_truth in
      let part = either_part o.is.stands (first_part o.is.stands.source its.1) (second_part o.is.stands.source its.1) f.3 f.4 s.holds in
      let w = goes_on_both c e next o h (goes s.atom (cond s.holds s.met s.unmet)) (goes o.atom (cond s.holds f.0 f.1)) s.is part (still_knows c e o.knows) in (
        effect high (event_of v e) (becomes (event_of v e) (goes o.atom (cond s.holds f.0 f.1))),
        ap (λ k. row k high (event_of v e)) is ∙ if_applies high (event_of v e) o.atom s.test f.0 f.1 s.holds o.acts f.2 truth s.made_none other,
        w.0,
        w.1,
        w.2,
        w.3,
      )

pub ifs-are-events : {i : Infrastructure} → IsEvent i kind.If
ifs-are-events n from first low high v c well lodged e next is plain h =
    let s = testing low e next (ap (λ k. row k low e) (sym is) ∙ h) in
    tested c e next is h s (actor c e lodged s.atom kind.If s.acts plain (ap begun_by s.form) (λ e. cc) (λ e. cc))
