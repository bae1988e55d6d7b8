-- The caches' rule where events change the things, and what stands in messengers.
use Rattle.std.proofs.Common.{◌≡◌, Bool, true, false, ◌||◌, ◌⊎◌, inl, inr, None, Some, List, refl, sym, ap, ◌∙◌, cond, subst, [], is_some, Option, IsSome}
use Rattle.std.proofs.lemmas.List.Sorted.{IsPermutation-refl}
use Rattle.std.specs.FinMap as map
use Rattle.std.specs.FinSet as set
use Rattle.std.specs.List.{All}
use Rattle.np_syntax.specs.declared.value.Name.{Name}
use Rattle.np_syntax.specs.declared.event.Event.{Event}
use Rattle.np_syntax.specs.declared.event.Made.{Made}
use Rattle.np_syntax.specs.declared.event.Made.TheVariants as made
use Rattle.np_syntax.specs.Reordering.{Reordered}
use Rattle.np_syntax.proofs.Options.{done}
use Rattle.np_tables.specs.Names.{NameMap, NameSet, same_name}
use Rattle.np_tables.proofs.Tables.{born_insert, same_name-is, get-cut, get-put}
use Rattle.np_calculus.specs.Changes.{with_made}
use Rattle.np_calculus.specs.Config.{Config}
use Rattle.np_calculus.specs.FrameRule.{IsMade}
use Rattle.np_calculus.specs.Reductions.{apply}
use Rattle.np_calculus.specs.declared.config.Place.{Place}
use Rattle.np_calculus.proofs.FrameRule.{made-unborn}
use Rattle.np_calculus.proofs.Steps.{row-step}
use Rattle.simulate_laws.specs.protocol.Steps.{Step}
use Rattle.simulate_laws.specs.protocol.CacheChips.{CacheChip}
use Rattle.simulate_laws.specs.protocol.CacheLevels.{NamesGrow}
use Rattle.simulate_laws.specs.protocol.CacheRule.{CacheRule}
use Rattle.simulate_laws.specs.protocol.CacheSteps.{CacheStep}
use Rattle.simulate_laws.proofs.protocol.CacheKeeps.{keeps-rule}
use Rattle.infrastructure_texts.specs.Infrastructures.{Infrastructure}
use Rattle.simulate_laws.specs.things.Things.{Thing, carried}
use Rattle.simulate_laws.specs.levels.Coupled.{IsCarrier, cache_chips, levels}
use Rattle.simulate_laws.proofs.levels.Orders.{permuted}

-- ---- names

-- the low level alone makes names
pub low_grows : (low high next : Config) → ((q : Name) → set.contains low.born q ≡ true → set.contains next.born q ≡ true)
    → NamesGrow (levels low high) (levels next high)
low_grows low high next stay = record { stay = stay; new = λ q old new. absurd (let bad : false ≡ true = sym old ∙ new in cc) }

-- what comes to the names is the one that is put
is_put : (b : NameSet) (m q : Name) → set.contains b q ≡ false → set.contains (set.insert b m) q ≡ true → q ≡ m
is_put b m q old h = go (same_name q m) refl
  where
    go : (t : Bool) → same_name q m ≡ t → q ≡ m
    go true e = same_name-is q m e
    go false e = absurd (let bad : false ≡ true = sym old ∙ ap (λ t. t || set.contains b q) (sym e) ∙ sym (born_insert b m q) ∙ h in cc)

is_made : (b : NameSet) (x : Made) (q : Name) → set.contains b q ≡ false → set.contains (with_made b x) q ≡ true → IsMade x q
is_made b made.Nothing q old h = let bad : false ≡ true = sym old ∙ h in absurd cc
is_made b (made.One m) q old h = is_put b m q old h
is_made b (made.Two m k) q old h = go (set.contains (set.insert b m) q) refl
  where
    go : (t : Bool) → set.contains (set.insert b m) q ≡ t → (q ≡ m) ⊎ (q ≡ k)
    go true e = inl (is_put b m q old e)
    go false e = inr (is_put (set.insert b m) k q e h)

-- both levels make the same names, and these are new to the low level
pub both_grow : (low high next after : Config) (e : Event) → apply low e ≡ Some next → ((q : Name) → set.contains low.born q ≡ true → set.contains next.born q ≡ true)
    → after.born ≡ with_made high.born e.made → NamesGrow (levels low high) (levels next after)
both_grow low high next after e applies stay is = record {
  stay = stay;
  new = λ q old new. made-unborn low.born e.made q (row-step low e next e.kind applies).new
      (is_made high.born e.made q old (ap (λ b. set.contains b q) (sym is) ∙ new));
}

-- who has a place and gets another is no new agent
pub same_agents : (places : NameMap Place) (a : Name) (x : Place) → IsSome (map.get places a) → (q : Name)
    → is_some (map.get (map.insert places a x) q) ≡ is_some (map.get places q)
same_agents places a x there q = ap (λ (o : Option Place). is_some o) (get-put places a x q) ∙ go (same_name q a) refl
  where
    go : (t : Bool) → same_name q a ≡ t → is_some (cond t (Some x) (map.get places q)) ≡ is_some (map.get places q)
    go true e = sym (ap (λ k. is_some (map.get places k)) (same_name-is q a e) ∙ there)
    go false e = refl

-- ---- the rule

-- an event keeps the rule, as the names of both levels grow
abbrev pub KeepsHints : Infrastructure → Config → Config → Config → Config → NameMap (List Thing) → NameMap (List Thing) → Type 0
KeepsHints i low high next after before things = i ≡ Infrastructure.cached → NamesGrow (levels low high) (levels next after)
    → CacheRule (levels low high) (cache_chips before) → CacheRule (levels next after) (cache_chips things)

-- it does so by a step of the caches
pub by_step : {i : Infrastructure} (low high next after : Config) (before things : NameMap (List Thing)) {take give : List CacheChip}
    → Step (cache_chips before) (cache_chips things) take give → (i ≡ Infrastructure.cached → CacheStep (levels low high) (levels next after) take give)
    → KeepsHints i low high next after before things
by_step low high next after before things {take} {give} step kind is grow rule =
    keeps-rule (levels low high) (levels next after) (cache_chips before) (cache_chips things) take give grow (kind is) step rule

-- where chips are in another order none is taken or given
pub reordered : {X : Type 0} {before after : List X} → Reordered after before → Step before after [] []
reordered {X} {before} r = record { rest = before; taken = IsPermutation-refl before; given = permuted r }

-- an event of the low level alone that hands on what it takes
pub handed_on : {i : Infrastructure} (low high next : Config) {chips : List CacheChip} → i ≡ Infrastructure.cached → CacheStep (levels low high) (levels next high) chips chips
handed_on low high next is = CacheStep.still (λ q. refl)

-- ---- messengers

-- what carries no letter stands in no messenger
pub no_carrier : (messengers : NameSet) (t : Thing) → carried t ≡ None → IsCarrier messengers t
no_carrier messengers (Thing.carrying p t a) none = absurd cc
no_carrier messengers (Thing.trying p t a) none = absurd cc
no_carrier messengers _ none = tt

abbrev pub AllCarry : NameSet → NameMap (List Thing) → Type 0
AllCarry messengers things = (m : Name) (ts : List Thing) → map.get things m ≡ Some ts → All (IsCarrier messengers) ts

module _ (messengers : NameSet) (things : NameMap (List Thing)) (m : Name) (h : AllCarry messengers things) where
  -- one mark has other things
  pub carry_put : (us : List Thing) → All (IsCarrier messengers) us → AllCarry messengers (map.insert things m us)
  carry_put us new q ts i = go (same_name q m) refl
    where
      go : (t : Bool) → same_name q m ≡ t → All (IsCarrier messengers) ts
      go true e = subst (All (IsCarrier messengers)) (sym (done (sym (get-put things m us q ∙ ap (λ t. cond t (Some us) (map.get things q)) e) ∙ i))) new
      go false e = h q ts (sym (get-put things m us q ∙ ap (λ t. cond t (Some us) (map.get things q)) e) ∙ i)

  -- or none
  pub carry_cut : AllCarry messengers (map.remove things m)
  carry_cut q ts i = go (same_name q m) refl
    where
      go : (t : Bool) → same_name q m ≡ t → All (IsCarrier messengers) ts
      go true e = absurd (let none : None ≡ Some ts = sym (get-cut things m q ∙ ap (λ t. cond t None (map.get things q)) e) ∙ i in cc)
      go false e = h q ts (sym (get-cut things m q ∙ ap (λ t. cond t None (map.get things q)) e) ∙ i)
