-- Where no site can act, each agent's cache is free with its hints, and nobody waits for one of them.
use Rattle.std.proofs.Common.{◌≡◌, ◌≤◌, ◌+◌, ℕ, true, is_some, Option, None, Some, List, [], ◌∷◌, ◌++◌, refl, sym, ap, subst, ◌∙◌}
use Rattle.std.specs.List.{All, count_by, list_any}
use Rattle.std.proofs.lemmas.List.Elements.{All-head}
use Rattle.std.specs.FinMap as map
use Rattle.np_syntax.specs.declared.value.Name.{Name}
use Rattle.np_syntax.specs.declared.value.Value as value
use Rattle.np_syntax.specs.declared.expression.Expr.{Expr}
use Rattle.np_syntax.specs.declared.pattern.Pat.{Pat}
use Rattle.np_syntax.specs.declared.process.Proc.{Proc}
use Rattle.np_syntax.specs.declared.process.ProcForm.{ProcForm-F}
use Rattle.np_syntax.specs.declared.process.ProcForm.TheVariants as forms
use Rattle.np_syntax.proofs.Bools.{and-out}
use Rattle.np_tables.specs.Names.{same_name}
use Rattle.np_tables.proofs.Tables.{same_name-is}
use Rattle.np_calculus.specs.declared.config.Atom.{Atom}
use Rattle.np_calculus.specs.declared.config.Place.{Place}
use Rattle.np_calculus.specs.Config.{Config}
use Rattle.np_calculus.specs.Idle.{Idle}
use Rattle.np_calculus.specs.Parts.{IsLodged}
use Rattle.np_calculus.specs.Sight.{inside}
use Rattle.np_calculus.specs.Starts.{own}
use Rattle.np_eval.specs.Eval.{find_place}
use Rattle.np_eval.specs.Forms.{layer, taken_on}
use Rattle.simulate_laws.specs.protocol.CacheChips.{CacheChip, is_cache_of, is_hint}
use Rattle.simulate_laws.specs.protocol.CacheRule.{CacheRule, FindsHints}
use Rattle.simulate_laws.proofs.protocol.Steps.{all_taken}
use Rattle.infrastructure_texts.specs.CacheTexts.{cache}
use Rattle.infrastructure_texts.specs.Infrastructures.{Infrastructure}
use Rattle.simulate_laws.specs.things.Shapes.{Is}
use Rattle.simulate_laws.specs.things.Things.{Thing, show_all_caches, shows_caches}
use Rattle.simulate_laws.specs.levels.Coupled.{Coupled, View, cache_chips, levels}
use Rattle.simulate_laws.proofs.levels.Marks.{step_at}
use Rattle.simulate_laws.proofs.levels.Values.{channel-is}
use Rattle.simulate_laws.specs.simulation.RestLaws.{HasFreeCache, WaitsForNone}
use Rattle.simulate_laws.proofs.simulation.Anys.{any_counted, one_truth}
use Rattle.simulate_laws.proofs.simulation.Resting.{MayRest, Rester, rester}
use Rattle.simulate_laws.proofs.simulation.Waiting.{Taking, gives_there, no_meeting, takes_bound}

-- ---- who shows a chip of caches

cache_of : (a : Name) (t : Thing) → MayRest t → list_any (is_cache_of a) (shows_caches t) ≡ true → (ps : List (Name × Name)) × (t ≡ Thing.cache a ps)
cache_of a t (MayRest.cache {a = b} {ps = ps}) h = (ps, ap (λ x. Thing.cache x ps) (sym (same_name-is a b (one_truth _ h))))
cache_of a t _ h = absurd cc

hint_of : (a l : Name) (t : Thing) → MayRest t → list_any (is_hint a l) (shows_caches t) ≡ true → t ≡ Thing.hint a l
hint_of a l t (MayRest.hint {a = b} {l = k}) h =
    let both = and-out (same_name a b) (same_name l k) (one_truth _ h) in
    cc (same_name-is a b both.0, same_name-is l k both.1)
hint_of a l t _ h = absurd cc

module _ {i : Infrastructure} {n from first : ℕ} {low high : Config} {v : View} (c : Coupled i n from first low high v) (lodged : IsLodged (inside low)) (idle : Idle low) (cached : i ≡ Infrastructure.cached) where
  rule : CacheRule (levels low high) (cache_chips v.things)
  rule = c.hints cached

  -- what a thing shows finds its hints
  finds : (m : Name) (t : Thing) → map.get v.things m ≡ Some (t ∷ []) → All (FindsHints (cache_chips v.things)) (show_all_caches (t ∷ []))
  finds m t under = all_taken (step_at shows_caches v.things m (t ∷ []) [] under) (FindsHints (cache_chips v.things)) rule.hints

  hint_there : (a l : Name) → 1 ≤ count_by (is_hint a l) (cache_chips v.things) → (r : Rester c lodged idle shows_caches (is_hint a l)) × (r.thing ≡ Thing.hint a l)
  hint_there a l some =
      let r = rester c lodged idle shows_caches (is_hint a l) (any_counted (is_hint a l) (cache_chips v.things) some) in
      (r, hint_of a l r.thing r.rests r.shown)

  cache_there : (a : Name) (p : Place) → map.get high.places a ≡ Some p
      → (r : Rester c lodged idle shows_caches (is_cache_of a)) × (ps : List (Name × Name)) × (r.thing ≡ Thing.cache a ps)
  cache_there a p placed =
      let r = rester c lodged idle shows_caches (is_cache_of a) (any_counted (is_cache_of a) (cache_chips v.things) (rule.caches a (ap is_some placed))) in
      let t = cache_of a r.thing r.rests r.shown in
      (r, t.0, t.1)

  pub free_cache : (a : Name) (p : Place) → map.get high.places a ≡ Some p → HasFreeCache v a
  free_cache a p placed =
      let r = cache_there a p placed in
      let under : map.get v.things r.0.mark ≡ Some (Thing.cache a r.1 ∷ []) = r.0.under ∙ ap (λ t. Some (t ∷ [])) r.2 in
      record {
        mark = r.0.mark;
        held = r.1;
        cache = under;
        hints = λ x l known.
            let some = All-head (FindsHints (cache_chips v.things)) (CacheChip.cache a (find_place r.1)) [] (finds r.0.mark (Thing.cache a r.1) under) x l known in
            let h = hint_there a l some in
            (h.0.mark, h.0.under ∙ ap (λ t. Some (t ∷ [])) h.1);
      }

  -- none takes the cache of an agent
  pub no_call : {A : Type 0} (m : Name) (a : Atom) (p : Place) (w : Pat) (q : Proc) → map.get low.atoms m ≡ Some a → map.get high.places a.agent ≡ Some p
      → layer a.proc ≡ ProcForm-F.Inp (cache n) w q → A
  no_call m a p w q there placed form =
      let r = cache_there a.agent p placed in
      let is = subst (λ t. Is i n from first t r.0.atom) r.2 r.0.is in
      no_meeting c lodged idle r.0.mark m r.0.atom a (own n 14) r.0.there there is.1.agent (gives_there {v = value.Places r.1} is.1)
      (record { to = (cache n, w); form = ap taken_on form; on = channel-is (own n 14) a.env })

  -- none takes a hint
  no_need : {A : Type 0} (m : Name) (t : Thing) (b : Atom) (a l : Name) → map.get v.things m ≡ Some (t ∷ []) → map.get low.atoms m ≡ Some b
      → shows_caches t ≡ CacheChip.needs a l ∷ [] → b.agent ≡ a → Taking b l → A
  no_need m t b a l under there shown of taking =
      let all = subst (λ cs. All (FindsHints (cache_chips v.things)) cs) (ap (λ cs. cs ++ []) shown) (finds m t under) in
      let h = hint_there a l (All-head (FindsHints (cache_chips v.things)) (CacheChip.needs a l) [] all) in
      let is = subst (λ x. Is i n from first x h.0.atom) h.1 h.0.is in
      no_meeting c lodged idle h.0.mark m h.0.atom b l h.0.there there (is.1.1.agent ∙ sym of) (gives_there {v = is.1.0} is.1.1) taking

  pub no_hoping : {A : Type 0} (m : Name) (x : Expr) (h : Atom) (l : Name) (a : Atom) → map.get v.things m ≡ Some (Thing.hoping x h l ∷ [])
      → map.get low.atoms m ≡ Some a → Is i n from first (Thing.hoping x h l) a → A
  no_hoping m x h l a under there is =
      no_need m (Thing.hoping x h l) a h.agent l under there refl is.1.agent (takes_bound a (is.2.posts.binder + 1) is.2.posts.tag.node _ _ l is.2.is is.2.waits)

  -- so each thing waits for none of them
  pub waits_for_none : (m : Name) (t : Thing) (a : Atom) → map.get v.things m ≡ Some (t ∷ []) → map.get low.atoms m ≡ Some a
      → Is i n from first t a → MayRest t → WaitsForNone high t
  waits_for_none m t a under there is (MayRest.hoping {a = x} {h = h} {l = l}) = no_hoping m x h l a under there is
  waits_for_none m t a under there is (MayRest.replacing {a = b} {l = l}) =
      no_need m (Thing.replacing b l) a b l under there refl is.1.answer.agent (takes_bound a (is.1.x + 3) is.1.node _ _ l is.1.is is.1.waits)
  waits_for_none m t a under there is (MayRest.is_told {a = b}) = go (map.get high.places b) refl
    where
      go : (o : Option Place) → map.get high.places b ≡ o → map.get high.places b ≡ None
      go None e = e
      go (Some p) e = no_call m a p _ _ there (ap (map.get high.places) is.1.answer.agent ∙ e) (ap layer is.1.is ∙ forms.outs-Inp _ _ _)
  waits_for_none m t a under there is _ = tt
