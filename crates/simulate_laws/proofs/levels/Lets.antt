-- A value is bound: the process goes on under it at both levels.
use Rattle.std.proofs.Common.{◌≡◌, ℕ, None, Some, refl, sym, ap, subst, ◌∙◌}
use Rattle.std.specs.Option.{option_map}
use Rattle.np_syntax.specs.declared.value.Value.{Value}
use Rattle.np_syntax.specs.declared.expression.Expr.{Expr}
use Rattle.np_syntax.specs.declared.pattern.Pat.{Pat}
use Rattle.np_syntax.specs.declared.process.Proc.{Proc}
use Rattle.np_syntax.specs.declared.process.ProcForm.{ProcForm-F}
use Rattle.np_syntax.specs.declared.event.Event.{Event}
use Rattle.np_syntax.specs.declared.event.Kind.TheVariants as kind
use Rattle.np_syntax.specs.declared.event.Made.TheVariants as made
use Rattle.np_syntax.proofs.Options.{then, done}
use Rattle.np_calculus.specs.declared.config.Atom.{Atom}
use Rattle.np_calculus.specs.Begins.{begun_by}
use Rattle.np_calculus.specs.Changes.{effect}
use Rattle.np_calculus.specs.Config.{Config}
use Rattle.np_calculus.specs.Reductions.{apply, becomes, goes_under, no_other, none_made, row}
use Rattle.np_calculus.specs.Seen.{acting}
use Rattle.np_calculus.specs.Sight.{inside, sight}
unfoldable use Rattle.np_calculus.proofs.Common.{act}
use Rattle.np_calculus.proofs.Rows.{parts}
use Rattle.np_calculus.proofs.Steps.{Acts, acting-step, is-none, row-step, step-acting}
use Rattle.np_lift.specs.CachedLift.{stands_for}
use Rattle.np_eval.specs.Eval.{Env, bind, eval}
use Rattle.np_eval.specs.Forms.{layer}
use Rattle.infrastructure_texts.specs.Infrastructures.{Infrastructure}
use Rattle.simulate_laws.specs.levels.Coupled.{Coupled, View, is_channel}
use Rattle.simulate_laws.specs.levels.Laws.{IsEvent, event_of}
use Rattle.simulate_laws.proofs.levels.Actors.{Actor, actor, agents, known_here, parts_of, same_here}
use Rattle.simulate_laws.proofs.levels.Bodies.{bound_both, goes_on_under}
use Rattle.simulate_laws.proofs.levels.Forms.{IsFormOf}
use Rattle.simulate_laws.proofs.levels.Applies.{takes_nothing}
use Rattle.simulate_laws.proofs.levels.Goes.{IsSame, goes_on_both, still_knows}

record IsLetting (low : Config) (e : Event) (next : Config) : Type 0 where
  atom : Atom
  acts : Acts low e atom
  pattern : Pat
  bound : Expr
  body : Proc
  form : layer atom.proc ≡ ProcForm-F.Let pattern bound body
  what : Value
  its_value : eval bound atom.env ≡ Some what
  env : Env
  binds : bind pattern what atom.env ≡ Some env
  made_none : e.made ≡ made.Nothing
  other_none : e.other ≡ None
  is : next ≡ effect low e (becomes e (goes_under atom body env))

letting : (low : Config) (e : Event) (next : Config) → row kind.Let low e ≡ Some next → IsLetting low e next
unfolding act
letting low e next h =
    let r = row-step low e next kind.Let h in
    then (acting low e) _ r.gives λ a acts h. parts kind.Let (sight low.sites (inside low) e.site) e a h λ p form h.
    then (eval p.1 a.env) _ h λ v gives h. then (bind p.0 v a.env) _ h λ env binds h.
    then (none_made e.made) _ h λ u none h. then (no_other e.other) _ h λ w other h.
    record {
      atom = a;
      acts = acting-step low e a acts;
      pattern = p.0;
      bound = p.1;
      body = p.2;
      form = form;
      what = v;
      its_value = gives;
      env = env;
      binds = binds;
      made_none = is-none e.made u none;
      other_none = takes_nothing e.other w other;
      is = r.is ∙ ap (effect low e) (done h);
    }

let_applies : (c : Config) (e : Event) (a : Atom) (x : Pat) (y : Expr) (p : Proc) (v : Value) (env : Env) → Acts c e a → layer a.proc ≡ ProcForm-F.Let x y p
    → eval y a.env ≡ Some v → bind x v a.env ≡ Some env → e.made ≡ made.Nothing → e.other ≡ None
    → row kind.Let c e ≡ Some (effect c e (becomes e (goes_under a p env)))
unfolding act
let_applies c e a x y p v env acts form gives binds none other = rw (step-acting c e a acts, form, gives, binds, none, other) refl

module _ {i : Infrastructure} {n from first : ℕ} {low high : Config} {v : View} (c : Coupled i n from first low high v) (e : Event) (next : Config) (is : e.kind ≡ kind.Let)
    (h : apply low e ≡ Some next) (s : IsLetting low e next) (o : Actor c e s.atom) where
  other : (event_of v e).other ≡ None
  other = ap (option_map (stands_for v.standing)) s.other_none

  bound : IsSame c e next
  bound =
      let f = subst (λ l. IsFormOf i n from o.named l (layer o.atom.proc)) s.form o.form in
      let its = parts_of c e o (ProcForm-F.Let s.pattern s.bound f.0) f.1 in
      let gives : eval s.bound o.atom.env ≡ Some s.what = sym (same_here c e o s.bound its.0) ∙ s.its_value in
      let b = bound_both o.is.stands s.what s.env its.1 s.binds in
      let knows = b.0.knows (agents c e) (is_channel n high.born) o.knows (known_here c e o s.bound s.what its.0 gives) in
      let w = goes_on_both c e next o h (goes_under s.atom s.body s.env) (goes_under o.atom f.0 b.0.env) s.is
      (record { stands = goes_on_under s.body o.is.stands b.0; translates = f.2 }) (still_knows c e knows) in (
        effect high (event_of v e) (becomes (event_of v e) (goes_under o.atom f.0 b.0.env)),
        ap (λ k. row k high (event_of v e)) is
            ∙ let_applies high (event_of v e) o.atom s.pattern s.bound f.0 s.what b.0.env o.acts f.1 gives b.1 s.made_none other,
        w.0,
        w.1,
        w.2,
        w.3,
      )

pub lets-are-events : {i : Infrastructure} → IsEvent i kind.Let
lets-are-events n from first low high v c well lodged e next is plain h =
    let s = letting low e next (ap (λ k. row k low e) (sym is) ∙ h) in
    bound c e next is h s (actor c e lodged s.atom kind.Let s.acts plain (ap begun_by s.form) (λ e. cc) (λ e. cc))
