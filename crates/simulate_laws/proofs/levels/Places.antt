-- Where agents are at both levels: an agent of the high level is no messenger, and it is at the same place at both.
use Rattle.std.proofs.Common.{◌≡◌, ℕ, true, false, cond, Option, None, Some, IsSome, is_some, refl, sym, ap, subst, ◌∙◌}
use Rattle.std.specs.FinMap as map
use Rattle.std.specs.FinSet as set
use Rattle.np_syntax.specs.declared.value.Name.{Name}
use Rattle.np_tables.specs.Names.{same_name}
use Rattle.np_tables.proofs.Tables.{get-put, same_name-is}
use Rattle.np_calculus.specs.declared.config.Place.{Place}
use Rattle.np_calculus.specs.Config.{Config}
use Rattle.np_calculus.specs.Starts.{daemon_agent}
use Rattle.np_calculus.proofs.OwnNames.{not_true}
use Rattle.simulate_laws.specs.protocol.Phases.{Phase, is_present, is_registered}
use Rattle.simulate_laws.specs.protocol.Scenes.{is_there}
use Rattle.infrastructure_texts.specs.Infrastructures.{Infrastructure}
use Rattle.simulate_laws.specs.levels.Coupled.{Coupled, View, whereabouts}

pub some_there : (o : Option Place) → is_there (whereabouts o) ≡ true → IsSome o
some_there None h = absurd cc
some_there (Some p) h = refl

registered_there : (p : Phase) → is_registered p ≡ true → is_present p ≡ true
registered_there Phase.absent h = absurd cc
registered_there Phase.registering h = refl
registered_there _ h = refl

module _ {i : Infrastructure} {n from first : ℕ} {low high : Config} {v : View} (c : Coupled i n from first low high v) where
  pub not_daemon : (a : Name) → IsSome (map.get high.places a) → same_name a (daemon_agent n) ≡ false
  not_daemon a there = not_true _ (λ t. let none = subst IsSome (ap (map.get high.places) (same_name-is a (daemon_agent n) t) ∙ c.no_daemon) there in cc)

  pub no_messenger : (a : Name) → IsSome (map.get high.places a) → set.contains v.standing.messengers a ≡ false
  no_messenger a there = not_true _ (λ t. let none = subst IsSome (c.messengers a t) there in cc)

  pub same_place : (a : Name) → IsSome (map.get high.places a) → map.get low.places a ≡ map.get high.places a
  same_place a there = c.places a (not_daemon a there) (no_messenger a there)

  -- an agent that is in the map has a place
  pub known_there : (b : Name) → is_some (v.lock b) ≡ true → IsSome (map.get high.places b)
  known_there b h = some_there (map.get high.places b) (c.protocol.placed b ∙ registered_there (v.phase b) (sym (c.protocol.registered b) ∙ h))

  -- a messenger has none at the high level still, where another agent is put at a place
  pub put_another : (q a : Name) (p : Place) → set.contains v.standing.messengers q ≡ true → set.contains v.standing.messengers a ≡ false
      → map.get (map.insert high.places a p) q ≡ None
  put_another q a p is none =
      let apart : same_name q a ≡ false =
      not_true _ (λ t. let bad : false ≡ true = sym none ∙ ap (set.contains v.standing.messengers) (sym (same_name-is q a t)) ∙ is in cc) in
      get-put high.places a p q ∙ ap (λ z. cond z (Some p) (map.get high.places q)) apart ∙ c.messengers q is
