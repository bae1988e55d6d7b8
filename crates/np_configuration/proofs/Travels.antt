-- The set of the agents under way, as it is kept beside the places of the agents.
use Rattle.std.proofs.Common.{◌≡◌, ℕ, Bool, true, false, not, cond, ◌||◌, ◌&&◌, Option, None, Some, refl, sym, ap, ◌∙◌}
use Rattle.std.specs.FinMap as map
use Rattle.std.specs.FinSet as set
use Rattle.np_syntax.specs.declared.value.Name.{Name}
use Rattle.np_tables.specs.Names.{NameMap, NameSet, same_name}
use Rattle.np_tables.proofs.Tables.{get-none, get-put, contains-none, born_insert, born_remove}
use Rattle.np_calculus.specs.declared.config.Place.{Place}
use Rattle.np_calculus.specs.declared.config.Place.TheVariants as place
use Rattle.np_configuration.specs.Placed.{NoneTravels}
use Rattle.np_configuration.specs.Placed.{IsTravelling, travels}
use Rattle.np_calculus.specs.Reductions.{way}

pub travels-none : IsTravelling map.empty set.empty
travels-none = record { each = λ q. rw (contains-none q, get-none {X = Place} q) refl }

way_put : (t : Bool) (site : ℕ) (o : Option Place) → (t || travels o) ≡ travels (cond t (Some (place.Way site)) o)
way_put true site o = refl
way_put false site o = refl

at_put : (t : Bool) (site : ℕ) (o : Option Place) → (not t && travels o) ≡ travels (cond t (Some (place.At site)) o)
at_put true site o = refl
at_put false site o = refl

still : (p : Place) → travels (Some p) ≡ false → way p ≡ None
still (place.At s) h = refl
still (place.Way s) h = absurd cc

module _ {placed : NameMap Place} {under_way : NameSet} where
  pub travels-way : IsTravelling placed under_way → (agent : Name) (site : ℕ) → IsTravelling (map.insert placed agent (place.Way site)) (set.insert under_way agent)
  travels-way k agent site = record {
    each = λ q. rw (born_insert under_way agent q, get-put placed agent (place.Way site) q, k.each q) (way_put (same_name q agent) site (map.get placed q));
  }

  pub travels-at : IsTravelling placed under_way → (agent : Name) (site : ℕ) → IsTravelling (map.insert placed agent (place.At site)) (set.remove under_way agent)
  travels-at k agent site = record {
    each = λ q. rw (born_remove under_way agent q, get-put placed agent (place.At site) q, k.each q) (at_put (same_name q agent) site (map.get placed q));
  }

  -- where the set is empty, none is under way
  pub none-travels : IsTravelling placed under_way → under_way ≡ set.empty → NoneTravels placed
  none-travels k e = record {
    each = λ agent p lies. still p (ap travels (sym lies) ∙ sym (k.each agent) ∙ ap (λ s. set.contains s agent) e ∙ contains-none agent);
  }
