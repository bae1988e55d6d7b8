-- What the protocol sees where an agent is put at another place.
use Rattle.std.proofs.Common.{◌≡◌, Bool, true, false, cond, Option, Some, refl, sym, ap, ◌∙◌}
use mathlib.Core.Path.{fun_ext}
use Rattle.std.specs.FinMap as map
use Rattle.np_syntax.specs.declared.value.Name.{Name}
use Rattle.np_tables.specs.Names.{NameMap, same_name}
use Rattle.np_tables.proofs.Tables.{get-put}
use Rattle.np_calculus.specs.declared.config.Place.{Place}
use Rattle.np_calculus.specs.Config.{Config}
use Rattle.simulate_laws.specs.protocol.Scenes.{with_place}
use Rattle.simulate_laws.specs.levels.Coupled.{View, scene, whereabouts}

moved_on : (t : Bool) (p : Place) (o : Option Place) → cond t (whereabouts (Some p)) (whereabouts o) ≡ whereabouts (cond t (Some p) o)
moved_on true p o = refl
moved_on false p o = refl

pub scene_put : (v : View) (high then : Config) (a : Name) (p : Place) → then.places ≡ map.insert high.places a p
    → with_place (scene v high) a (whereabouts (Some p)) ≡ scene v then
scene_put v high then a p is = λ i. record { place = fun_ext (λ q. at q) i; lock = v.lock }
  where
    at : (q : Name) → cond (same_name q a) (whereabouts (Some p)) (whereabouts (map.get high.places q)) ≡ whereabouts (map.get then.places q)
    at q = moved_on (same_name q a) p (map.get high.places q) ∙ sym (ap whereabouts (ap (λ (t : NameMap Place). map.get t q) is ∙ get-put high.places a p q))
