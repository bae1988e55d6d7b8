-- A channel is made: it is new to both levels, and the process goes on with it.
use Rattle.std.proofs.Common.{◌≡◌, ℕ, true, false, not, None, Some, refl, sym, ap, subst, ◌∙◌}
use Rattle.std.specs.FinMap as map
use Rattle.std.specs.FinSet as set
use Rattle.std.specs.Option.{option_map}
use Rattle.np_syntax.specs.declared.value.Name.{Name}
use Rattle.np_syntax.specs.declared.value.Value as value
use Rattle.np_syntax.specs.declared.types.Ty.{Ty}
use Rattle.np_syntax.specs.declared.process.Proc.{Proc}
use Rattle.np_syntax.specs.declared.process.ProcForm.{ProcForm-F}
use Rattle.np_syntax.specs.declared.event.Event.{Event}
use Rattle.np_syntax.specs.declared.event.Kind.TheVariants as kind
use Rattle.np_syntax.specs.declared.event.Made.TheVariants as made
use Rattle.np_syntax.proofs.Bools.{and-in}
use Rattle.np_tables.proofs.Tables.{born_here}
use Rattle.np_calculus.specs.declared.config.Atom.{Atom}
use Rattle.np_calculus.specs.Begins.{begun_by}
use Rattle.np_calculus.specs.Changes.{effect, with_made}
use Rattle.np_calculus.specs.Config.{Config}
use Rattle.np_calculus.specs.Reductions.{apply, becomes, goes_under, row}
use Rattle.np_calculus.specs.Starts.{own_names}
unfoldable use Rattle.np_calculus.proofs.Common.{act}
use Rattle.np_calculus.proofs.OwnNames.{not_true}
use Rattle.np_calculus.proofs.Steps.{Acts, step-acting}
use Rattle.np_lift.specs.CachedLift.{stands_for}
use Rattle.np_eval.specs.Eval.{Env}
use Rattle.np_eval.specs.Forms.{layer}
use Rattle.infrastructure_texts.specs.Infrastructures.{Infrastructure}
use Rattle.simulate_laws.specs.things.Known.{IsKnown}
use Rattle.simulate_laws.specs.levels.Coupled.{Coupled, View, is_channel}
use Rattle.simulate_laws.specs.levels.Laws.{IsEvent, event_of}
use Rattle.simulate_laws.proofs.levels.Actors.{Actor, actor, agents, parts_of}
use Rattle.simulate_laws.proofs.levels.Bodies.{binder_both, goes_on_under}
use Rattle.simulate_laws.proofs.levels.Forms.{IsFormOf}
use Rattle.simulate_laws.proofs.levels.Goes.{IsSame, goes_on_both, still_knows}
use Rattle.simulate_laws.proofs.levels.Stands.{new_mark}
use Rattle.simulate_laws.proofs.levels.Naming.{IsNaming, naming}

new_applies : (c : Config) (e : Event) (a : Atom) (x : ℕ) (ty : Ty) (p : Proc) (m : Name) → Acts c e a → layer a.proc ≡ ProcForm-F.New x ty p
    → e.made ≡ made.One m → e.other ≡ None → set.contains c.born m ≡ false
    → row kind.New c e ≡ Some (effect c e (becomes e (goes_under a p (map.insert a.env x (value.Chan m)))))
unfolding act
new_applies c e a x ty p m acts form one other new = rw (step-acting c e a acts, form, one, other, new) refl

-- a new name that is made is a channel of the high level
new_channel : {i : Infrastructure} {n from first : ℕ} {low high : Config} {v : View} → Coupled i n from first low high v → (e : Event) (m : Name) → e.made ≡ made.One m
    → set.contains low.born m ≡ false → is_channel n (with_made high.born e.made) m ≡ true
new_channel {n} {low = low} {high = high} c e m one new =
    and-in (ap (λ x. set.contains (with_made high.born x) m) one ∙ born_here high.born m)
    (ap not (not_true (set.contains (own_names n) m) (λ t. let bad : false ≡ true = sym new ∙ c.born m (c.own_born m t) in cc)))

module _ {i : Infrastructure} {n from first : ℕ} {low high : Config} {v : View} (c : Coupled i n from first low high v) (e : Event) (next : Config) (is : e.kind ≡ kind.New)
    (h : apply low e ≡ Some next) (s : IsNaming low e next) (o : Actor c e s.atom) where
  other : (event_of v e).other ≡ None
  other = ap (option_map (stands_for v.standing)) s.other_none

  named : IsSame c e next
  named =
      let f = subst (λ l. IsFormOf i n from o.named l (layer o.atom.proc)) s.form o.form in
      let its = parts_of c e o (ProcForm-F.New s.binder s.type f.0) f.1 in
      let b = binder_both o.is.stands s.binder its.0 (value.Chan s.new) its.1 its.3 in
      let knows = b.0.knows (agents c e) (is_channel n (with_made high.born e.made)) (still_knows c e o.knows)
      (IsKnown.channel (new_channel c e s.new s.made_one s.is_new)) in
      let w = goes_on_both c e next o h (goes_under s.atom s.body (map.insert s.atom.env s.binder (value.Chan s.new))) (goes_under o.atom f.0 b.0.env)
      s.is (record { stands = goes_on_under s.body o.is.stands b.0; translates = f.2 }) knows in (
        effect high (event_of v e) (becomes (event_of v e) (goes_under o.atom f.0 b.0.env)),
        ap (λ k. row k high (event_of v e)) is
            ∙ new_applies high (event_of v e) o.atom s.binder s.type f.0 s.new o.acts f.1 s.made_one other (new_mark c e s.new s.is_new).high_new
            ∙ ap (λ (env : Env). Some (effect high (event_of v e) (becomes (event_of v e) (goes_under o.atom f.0 env)))) (sym b.1),
        w.0,
        w.1,
        w.2,
        w.3,
      )

pub news-are-events : {i : Infrastructure} → IsEvent i kind.New
news-are-events n from first low high v c well lodged e next is plain h =
    let s = naming low e next (ap (λ k. row k low e) (sym is) ∙ h) in
    named c e next is h s (actor c e lodged s.atom kind.New s.acts plain (ap begun_by s.form) (λ e. cc) (λ e. cc))
