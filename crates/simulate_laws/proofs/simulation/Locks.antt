-- Where no site can act, the daemon's lock is free, and so is the lock of each agent in its map.
use Rattle.std.proofs.Common.{◌≡◌, inl, inr, ℕ, is_some, Option, None, Some, [], ◌∷◌, refl, sym, ap, subst, ◌∙◌}
use Rattle.std.proofs.lemmas.List.Elements.{All-head}
use Rattle.std.specs.FinMap as map
use Rattle.np_syntax.specs.declared.value.Name.{Name}
use Rattle.np_syntax.specs.declared.value.Value.{Value}
use Rattle.np_syntax.specs.declared.value.Value as value
use Rattle.np_calculus.specs.declared.config.Atom.{Atom}
use Rattle.np_calculus.specs.declared.config.Place.{Place}
use Rattle.np_calculus.specs.declared.config.Place.TheVariants as place
use Rattle.np_calculus.specs.Config.{Config}
use Rattle.np_calculus.specs.Idle.{Idle}
use Rattle.np_calculus.specs.Parts.{IsLodged}
use Rattle.np_calculus.specs.Sight.{inside}
use Rattle.np_calculus.specs.Starts.{daemon_agent, own}
use Rattle.np_eval.specs.Eval.{find_place}
use Rattle.infrastructure_texts.specs.Infrastructures.{Infrastructure}
use Rattle.simulate_laws.specs.protocol.Chips.{Chip}
use Rattle.simulate_laws.specs.protocol.Phases.{is_present, is_registered}
use Rattle.simulate_laws.specs.protocol.Protocol.{IsTrueOf}
use Rattle.simulate_laws.specs.protocol.Scenes.{is_there}
use Rattle.simulate_laws.specs.things.Shapes.{Gives}
use Rattle.simulate_laws.specs.things.Things.{Thing}
use Rattle.simulate_laws.specs.levels.Coupled.{Coupled, View, scene, whereabouts}
use Rattle.simulate_laws.specs.simulation.FreeLocks.{HasFreeLocks, HasOutput, IsFreeLock}
use Rattle.simulate_laws.proofs.levels.Lands.{low_place}
use Rattle.simulate_laws.proofs.simulation.Phases.{free_lock, rests}
use Rattle.simulate_laws.proofs.simulation.Standing.{map_there, told}

has_place : (o : Option Place) → is_there (whereabouts o) ≡ is_some o
has_place None = refl
has_place (Some (place.At s)) = refl
has_place (Some (place.Way s)) = refl

module _ {i : Infrastructure} {n from first : ℕ} {low high : Config} {v : View} (c : Coupled i n from first low high v) (lodged : IsLodged (inside low)) (idle : Idle low) where
  -- what gives in the daemon is an output there
  in_daemon : (m chan : Name) (w : Value) (b : Atom) → map.get low.atoms m ≡ Some b → Gives (daemon_agent n) chan w b → HasOutput low (daemon_agent low.sites) chan w
  in_daemon m chan w b there g = record { mark = m; atom = b; there = there; of = g.agent ∙ ap daemon_agent (sym c.low_sites); gives = g.gives }

  -- no agent of the source waits to be in the map
  in_map : (a : Name) → is_some (v.lock a) ≡ is_some (map.get high.places a)
  in_map a = c.protocol.registered a ∙ none_waits ∙ sym (c.protocol.placed a) ∙ has_place (map.get high.places a)
    where
      none_waits : is_registered (v.phase a) ≡ is_present (v.phase a)
      none_waits = elim (rests c lodged idle a) [
        | inl is ↦ ap is_registered is ∙ ap is_present (sym is)
        | inr is ↦ ap is_registered is ∙ ap is_present (sym is)
      ]

  its_lock : (a l : Name) → v.lock a ≡ Some l → IsFreeLock low a l
  its_lock a l has =
      let f = free_lock c lodged idle a l has in
      let tells = All-head (IsTrueOf (scene v high) v.phase) (Chip.free l f.site) [] (told c lodged idle f.mark (Thing.free l f.site ∷ []) f.under) in
      let same : a ≡ tells.0 = c.protocol.apart a tells.0 l has tells.1 in
      record {
        site = f.site;
        stands = low_place c a f.site (ap (λ b. whereabouts (map.get high.places b)) same ∙ tells.2);
        waits = in_daemon f.mark l (value.Site f.site) f.atom f.there f.gives;
      }

  pub free-locks : HasFreeLocks low high
  free-locks =
      let p = map_there c lodged idle in
      let same = All-head (IsTrueOf (scene v high) v.phase) (Chip.locks (find_place p.held)) [] (told c lodged idle p.mark (Thing.places p.held ∷ []) p.under) in
      record {
        places = p.held;
        waits = subst (λ k. HasOutput low (daemon_agent low.sites) (own k 10) (value.Places p.held)) (sym c.low_sites)
            (in_daemon p.mark (own n 10) (value.Places p.held) p.atom p.there p.gives);
        agents = λ a. ap is_some (same a) ∙ in_map a;
        locks = λ a l found. its_lock a l (sym (same a) ∙ found);
      }
