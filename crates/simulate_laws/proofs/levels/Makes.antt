-- An atom stands under a new mark, and the one that acts goes on, at both levels.
use Rattle.std.proofs.Common.{◌≡◌, ℕ, true, false, cond, None, Some, [], ◌∷◌, refl, sym, ap, subst, ◌∙◌}
use Rattle.std.specs.FinMap as map
use Rattle.std.specs.FinSet as set
use Rattle.np_syntax.specs.declared.value.Name.{Name}
use Rattle.np_syntax.specs.declared.event.Event.{Event}
use Rattle.np_syntax.specs.Options.{◌>>=◌}
use Rattle.np_tables.specs.Names.{same_name}
use Rattle.np_tables.proofs.Tables.{get-put, same_name-is}
use Rattle.np_calculus.specs.declared.config.Atom.{Atom}
use Rattle.np_calculus.specs.Changes.{effect, put, still, with_made}
use Rattle.np_calculus.specs.Config.{Config}
use Rattle.np_calculus.specs.Reductions.{apply}
use Rattle.np_calculus.proofs.OwnNames.{not_true}
use Rattle.np_lift.specs.CachedLift.{stands_for}
use Rattle.infrastructure_texts.specs.Infrastructures.{Infrastructure}
use Rattle.simulate_laws.specs.things.Known.{Knows}
use Rattle.simulate_laws.specs.things.Shapes.{Is, IsOfSource}
use Rattle.simulate_laws.specs.things.Things.{Thing, first_packet_of, high_atom, high_packet}
use Rattle.simulate_laws.specs.levels.Coupled.{Coupled, View, is_channel}
use Rattle.simulate_laws.specs.levels.Laws.{event_of}
use Rattle.simulate_laws.proofs.levels.Actors.{Actor, agents}
use Rattle.simulate_laws.proofs.levels.Quiet.{things_born}
use Rattle.simulate_laws.proofs.levels.Stands.{Free, IsNewMark, IsSilent, Knowing, leave, new_mark, put_atom, stands}
use Rattle.simulate_laws.specs.levels.Letters.{SameLetters}

module _ {i : Infrastructure} {n from first : ℕ} {low high : Config} {v : View} (c : Coupled i n from first low high v) (e : Event) (next : Config) {a : Atom} (o : Actor c e a)
    (applies : apply low e ≡ Some next) where
  pub made_both : (m : Name) (x y : Atom) (t : Thing) → set.contains low.born m ≡ false → Is i n from first t x → high_atom t ≡ Some y → high_packet t ≡ None
      → IsSilent t → Knowing c e t
      → (goes_low goes_high : Atom) → IsOfSource i n from o.named goes_high goes_low
      → Knows (agents c e) (is_channel n (with_made high.born e.made)) from goes_high.env
      → next ≡ effect low e (record still { atoms = put m x ∷ put e.actor goes_low ∷ [] })
      → (w : View) × (w.standing ≡ v.standing) × Coupled i n from first next
      (effect high (event_of v e) (record still { atoms = put m y ∷ put (stands_for v.standing e.actor) goes_high ∷ [] })) w × SameLetters v w
  made_both m x y t is_new its atom packet silent knows goes_low goes_high goes knows_on is =
      let new : IsNewMark c e m = new_mark c e m is_new in
      let s = put_atom c e (stands c e) m (Free.new new.no_things is_new) x t y its atom packet silent knows new.no_packet
      (ap (λ l. l >>= first_packet_of) new.no_things) in
      let r = put_atom c e s e.actor (Free.old {ts = Thing.source o.named o.atom ∷ []} there refl refl refl refl) goes_low
      (Thing.source o.named goes_high) goes_high goes refl refl (refl, refl, refl) knows_on o.no_packet (ap (λ l. l >>= first_packet_of) there) in
      let w = leave c e r next low.said high.said applies is c.said in
      subst (λ (k : Name). (w : View) × (w.standing ≡ v.standing) × Coupled i n from first next
      (effect high (event_of v e) (record still { atoms = put k y ∷ put (stands_for v.standing e.actor) goes_high ∷ [] })) w × SameLetters v w) new.itself w
    where
      apart : same_name e.actor m ≡ false
      apart = not_true _ (λ h. let bad : false ≡ true =
          sym is_new ∙ ap (set.contains low.born) (sym (same_name-is e.actor m h)) ∙ things_born c e.actor (Thing.source o.named o.atom ∷ []) o.there in cc)

      there : map.get (map.insert v.things m (t ∷ [])) e.actor ≡ Some (Thing.source o.named o.atom ∷ [])
      there = get-put v.things m (t ∷ []) e.actor ∙ ap (λ b. cond b (Some (t ∷ [])) (map.get v.things e.actor)) apart ∙ o.there
