-- The atom that acts for the source goes on as another of the source, or goes, at both levels.
use Rattle.std.proofs.Common.{◌≡◌, ℕ, Option, Some, [], ◌∷◌, refl, ap}
use Rattle.np_syntax.specs.declared.value.Value.{Value}
use Rattle.np_syntax.specs.declared.event.Event.{Event}
use Rattle.np_syntax.specs.Options.{◌>>=◌}
use Rattle.np_calculus.specs.declared.config.Atom.{Atom}
use Rattle.np_calculus.specs.Changes.{cut, effect, still, with_made, with_said}
use Rattle.np_calculus.specs.Config.{Config}
use Rattle.np_calculus.specs.Reductions.{apply, becomes}
use Rattle.np_lift.specs.CachedLift.{stands_for}
use Rattle.np_eval.specs.Eval.{Env}
use Rattle.infrastructure_texts.specs.Infrastructures.{Infrastructure}
use Rattle.simulate_laws.specs.things.Known.{Knows}
use Rattle.simulate_laws.proofs.things.Known.{known-more}
use Rattle.simulate_laws.specs.things.Shapes.{IsOfSource}
use Rattle.simulate_laws.specs.things.Things.{Thing, first_packet_of}
use Rattle.simulate_laws.specs.levels.Coupled.{Coupled, View, is_channel}
use Rattle.simulate_laws.specs.levels.Laws.{event_of}
use Rattle.simulate_laws.proofs.levels.Actors.{Actor, agents}
use Rattle.simulate_laws.proofs.levels.Stands.{Free, cut_atom, leave, put_atom, stands}
use Rattle.simulate_laws.proofs.levels.Together.{more_channels}
use Rattle.simulate_laws.specs.levels.Letters.{SameLetters}

module _ {i : Infrastructure} {n from first : ℕ} {low high : Config} {v : View} (c : Coupled i n from first low high v) (e : Event) where
  -- what is known is known still, where the event's names are made
  pub still_knows : {env : Env} → Knows (agents c e) (is_channel n high.born) from env → Knows (agents c e) (is_channel n (with_made high.born e.made)) from env
  still_knows {env} k = known-more (agents c e) (is_channel n high.born) (agents c e) (is_channel n (with_made high.born e.made)) from env (λ a h. h)
      (more_channels n high.born e.made) k

  -- the event at the marks of the high level is one of it, and what both leave is coupled
  abbrev pub IsSame : Config → Type 0
  IsSame next = (after : Config) × (apply high (event_of v e) ≡ Some after) × (w : View) × (w.standing ≡ v.standing) × Coupled i n from first next after w
      × SameLetters v w

  module _ (next : Config) {a : Atom} (o : Actor c e a) (applies : apply low e ≡ Some next) where
    pub goes_on_both : (goes_low goes_high : Atom) → next ≡ effect low e (becomes e goes_low) → IsOfSource i n from o.named goes_high goes_low
        → Knows (agents c e) (is_channel n (with_made high.born e.made)) from goes_high.env
        → (w : View) × (w.standing ≡ v.standing) × Coupled i n from first next (effect high (event_of v e) (becomes (event_of v e) goes_high)) w
        × SameLetters v w
    goes_on_both goes_low goes_high is its knows =
        let s = put_atom c e (stands c e) e.actor (Free.old {ts = Thing.source o.named o.atom ∷ []} o.there refl refl refl refl) goes_low
        (Thing.source o.named goes_high) goes_high its refl refl (refl, refl, refl) knows o.no_packet (ap (λ t. t >>= first_packet_of) o.there) in
        leave c e s next low.said high.said applies is c.said

    pub ends_both : (said : Option Value) → next ≡ effect low e (record still { atoms = cut e.actor ∷ []; said = said })
        → (w : View) × (w.standing ≡ v.standing) × Coupled i n from first next
        (effect high (event_of v e) (record still { atoms = cut (stands_for v.standing e.actor) ∷ []; said = said })) w × SameLetters v w
    ends_both said is =
        let s = cut_atom c e (stands c e) e.actor (Free.old {ts = Thing.source o.named o.atom ∷ []} o.there refl refl refl refl) o.no_packet
        (ap (λ t. t >>= first_packet_of) o.there) in
        leave c e s next (with_said low.said e.site said) (with_said high.said e.site said) applies is (ap (λ s. with_said s e.site said) c.said)
