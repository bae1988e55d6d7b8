-- What stays where both levels make an event: the marks of the high level, and what is known.
use Rattle.std.proofs.Common.{◌≡◌, inl, ℕ, Bool, true, false, cond, Option, None, Some, List, ◌++◌, refl, sym, ap, subst, ◌∙◌, append_assoc}
use Rattle.std.specs.List.{All, flat_map, list_any}
use Rattle.std.specs.List.Sorted.{IsPermutation}
use Rattle.std.proofs.lemmas.List.Elements.{All-weaker}
use Rattle.std.specs.FinMap as map
use Rattle.np_syntax.specs.declared.value.Name.{Name}
use Rattle.np_syntax.specs.declared.event.Made.{Made}
use Rattle.np_syntax.specs.Options.{◌>>=◌}
use Rattle.np_syntax.specs.Reordering.{and_then, behind}
use Rattle.np_tables.specs.Names.{NameMap, NameSet, same_name}
use Rattle.np_tables.proofs.Tables.{get-put}
use Rattle.np_calculus.specs.Changes.{with_made}
use Rattle.np_calculus.specs.Config.{Config}
use Rattle.np_lift.specs.CachedLift.{stands_for}
use Rattle.simulate_laws.specs.protocol.Chips.{Chip}
use Rattle.simulate_laws.specs.protocol.Scenes.{Locks}
use Rattle.simulate_laws.specs.protocol.Steps.{Step}
use Rattle.infrastructure_texts.specs.Infrastructures.{Infrastructure}
use Rattle.simulate_laws.specs.things.Things.{Thing}
use Rattle.simulate_laws.specs.levels.Coupled.{Coupled, KnowsOnly, View, is_channel, is_child_of, may_know, shown, is_high}
use Rattle.simulate_laws.proofs.levels.Marks.{may_know_more}
use Rattle.simulate_laws.proofs.levels.Orders.{entries_at, entries_new, entries_put, flat, permuted}
use Rattle.simulate_laws.proofs.levels.Together.{IsOldOrNew, knows_wider, more_channels, one_mark}

-- what a mark's first thing is, where other things are put under a mark
pub first_put : {X : Type 0} (f : List Thing → Option X) (things : NameMap (List Thing)) (m : Name) (us : List Thing) (q : Name)
    → (map.get (map.insert things m us) q >>= f) ≡ cond (same_name q m) (f us) (map.get things q >>= f)
first_put {X} f things m us q = ap (λ o. o >>= f) (get-put things m us q) ∙ go (same_name q m)
  where
    go : (t : Bool) → (cond t (Some us) (map.get things q) >>= f) ≡ cond t (f us) (map.get things q >>= f)
    go true = refl
    go false = refl

-- what is shown where one mark has other things, and a new mark has some
pub step_new : {X : Type 0} (show : Thing → List X) (things : NameMap (List Thing)) (m k : Name) (ts us ws : List Thing) → map.get things m ≡ Some ts
    → map.get (map.insert things m us) k ≡ None
    → Step (shown show things) (shown show (map.insert (map.insert things m us) k ws)) (flat_map show ts) (flat_map show ws ++ flat_map show us)
step_new show things m k ts us ws there absent = record {
  rest = shown show (map.remove things m);
  taken = permuted (flat (λ (e : Name × List Thing). flat_map show e.1) (entries_at things m ts there));
  given = subst (IsPermutation (shown show (map.insert (map.insert things m us) k ws)))
      (sym (append_assoc (flat_map show ws) (flat_map show us) (shown show (map.remove things m))))
      (permuted (flat (λ (e : Name × List Thing). flat_map show e.1)
      (and_then (entries_new (map.insert things m us) k ws absent) (behind (entries_put things m us)))));
}

-- what is known stays known, where no child is forgotten
pub known_on : (lock : Locks) (cs ds : List Chip) (n from : ℕ) (born : NameSet) (x : Made)
    → ((a b : Name) → list_any (is_child_of a b) cs ≡ true → list_any (is_child_of a b) ds ≡ true) → (ts : List Thing)
    → All (λ t. KnowsOnly (may_know lock cs t) (is_channel n born) from t) ts
    → All (λ t. KnowsOnly (may_know lock ds t) (is_channel n (with_made born x)) from t) ts
known_on lock cs ds n from born x children ts k = All-weaker (λ t. KnowsOnly (may_know lock cs t) (is_channel n born) from t)
    (λ t. KnowsOnly (may_know lock ds t) (is_channel n (with_made born x)) from t)
    (λ t k. knows_wider (may_know lock cs t) (may_know lock ds t) (is_channel n born) (is_channel n (with_made born x)) from
    (may_know_more lock cs ds children t) (more_channels n born x) t k) ts k

module _ {i : Infrastructure} {n from first : ℕ} {low high : Config} {v : View} (c : Coupled i n from first low high v) where
  -- a mark that has things, or is new, is the only one that stands for what it does
  pub only_at : {X : Type 0} (f : List Thing → Option X) → ((ts : List Thing) (y : X) → f ts ≡ Some y → is_high ts ≡ true) → (m : Name) → IsOldOrNew c m → (q : Name) (y : X)
      → (map.get v.things q >>= f) ≡ Some y
      → stands_for v.standing q ≡ stands_for v.standing m → q ≡ m
  only_at {X} f high m is q y j same = go (map.get v.things q) refl j
    where
      go : (o : Option (List Thing)) → map.get v.things q ≡ o → (o >>= f) ≡ Some y → q ≡ m
      go None g k = absurd cc
      go (Some ts) g k = one_mark c q m same (inl (ts, g, high ts y k)) is
