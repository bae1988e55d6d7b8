-- An agent that has a place is no mark that stands for another, whatever the event.
use Rattle.std.proofs.Common.{◌≡◌, ℕ, Bool, true, false, ◌⊎◌, inl, inr, cond, Some, IsSome, refl, sym, ap, subst, ◌∙◌}
use Rattle.std.specs.FinMap as map
use Rattle.std.specs.FinSet as set
use Rattle.std.specs.Option.{option_map}
use Rattle.np_syntax.specs.declared.value.Name.{Name}
use Rattle.np_syntax.specs.declared.event.Event.{Event}
use Rattle.np_syntax.specs.declared.event.Kind.TheVariants as kind
use Rattle.np_syntax.specs.declared.event.Made.TheVariants as made
use Rattle.np_tables.specs.Names.{same_name}
use Rattle.np_tables.proofs.Tables.{get-put, same_name-is}
use Rattle.np_calculus.specs.declared.config.Place.TheVariants as place
use Rattle.np_calculus.specs.Config.{Config}
use Rattle.np_calculus.specs.FrameRule.{IsMade}
use Rattle.np_calculus.specs.Parts.{IsMark}
use Rattle.np_calculus.specs.Reductions.{apply, row}
use Rattle.np_calculus.specs.Sight.{Contents, inside}
use Rattle.np_calculus.proofs.Fits.{fits}
use Rattle.np_calculus.proofs.FrameRule.{made-unborn}
use Rattle.np_calculus.proofs.OwnNames.{not_true}
use Rattle.np_calculus.proofs.Steps.{row-step}
use Rattle.np_calculus.proofs.Writes.{agent-changed, inside-effect}
use Rattle.np_lift.specs.CachedLift.{Standing, at_first, renamed, stands_for, with_mark, with_messenger}
use Rattle.np_lift.proofs.Standings.{stands-as_before, stands-itself}
use Rattle.infrastructure_texts.specs.Infrastructures.{Infrastructure}
use Rattle.simulate_laws.specs.levels.Coupled.{Coupled, View}
use Rattle.simulate_laws.proofs.levels.Arrivals.{arriving}
use Rattle.simulate_laws.proofs.levels.Creations.{creating}
use Rattle.simulate_laws.proofs.levels.Locals.{locating}

-- each agent with a place stands for itself
abbrev pub AgentsStand : Config → Standing → Type 0
AgentsStand low s = (q : Name) → IsSome (map.get low.places q) → stands_for s q ≡ q

pub agents-at_first : (low : Config) (s : Standing) → s ≡ at_first → AgentsStand low s
agents-at_first low s is q placed = ap (λ s. stands_for s q) is ∙ stands-itself q

-- who has a place after an event had one before, or was made
placed-or-made : (low next : Config) (e : Event) → apply low e ≡ Some next → (q : Name) → IsSome (map.get next.places q) → IsSome (map.get low.places q) ⊎ IsMade e.made q
placed-or-made low next e h q placed =
    let s = row-step low e next e.kind h in
    agent-changed (λ q. IsSome (map.get low.places q) ⊎ IsMade e.made q) (λ q. IsMark (inside low) q ⊎ IsMade e.made q) (inside low) s.made
    (fits low.sites (inside low) e s.made s.gives).own (λ q old. inl old) q
    (subst (λ (x : Contents). IsSome (x.place q)) (ap inside s.is ∙ inside-effect low e s.made) placed)

module _ {i : Infrastructure} {n from first : ℕ} {low high : Config} {v : View} (c : Coupled i n from first low high v) (agents : AgentsStand low v.standing)
    (e : Event) (next : Config) (h : apply low e ≡ Some next) where
  -- where what stands for what stays
  pub agents-stay : (s : Standing) → s ≡ v.standing → AgentsStand next s
  agents-stay s same q placed = ap (λ s. stands_for s q) same ∙ elim (placed-or-made low next e h q placed) [
    | inl old ↦ agents q old
    | inr new ↦ c.new_marks q (made-unborn low.born e.made q (row-step low e next e.kind h).new new)
  ]

  -- where a new mark comes to stand for another
  module _ (mark other : Name) (new : set.contains low.born mark ≡ false) where
    apart : (q : Name) → IsSome (map.get low.places q) → same_name q mark ≡ false
    apart q old = not_true _ (λ t. let bad : false ≡ true = sym new ∙ ap (set.contains low.born) (sym (same_name-is q mark t)) ∙ c.stand_born.agents q old in cc)

    marked : (q : Name) → IsSome (map.get next.places q) → same_name q mark ≡ false → stands_for (with_mark v.standing mark other) q ≡ q
    marked q placed far = stands-as_before v.standing mark other q far ∙ agents-stay v.standing refl q placed

  pub agents-found : e.kind ≡ kind.Local → (mark : Name) → e.made ≡ made.One mark → (s : Standing) → s ≡ with_mark v.standing mark e.actor → AgentsStand next s
  agents-found is mark one s same q placed =
      let l = locating low e next (ap (λ k. row k low e) (sym is) ∙ h) in
      let places : next.places ≡ low.places = elim l.ends [ inl it ↦ ap (λ (d : Config). d.places) it.is | inr it ↦ ap (λ (d : Config). d.places) it.is ] in
      let new : set.contains low.born mark ≡ false = made-unborn low.born e.made mark (row-step low e next e.kind h).new (subst (λ x. IsMade x mark) (sym one) refl) in
      ap (λ s. stands_for s q) same ∙ marked mark e.actor new q placed (apart mark e.actor new q (subst (λ p. IsSome (map.get p q)) places placed))

  pub agents-hired : e.kind ≡ kind.Agent → (t mark : Name) → e.made ≡ made.Two t mark → (s : Standing) → s ≡ with_messenger v.standing t mark e.actor → AgentsStand next s
  agents-hired is t mark two s same q placed =
      let l = creating low e next (ap (λ k. row k low e) (sym is) ∙ h) in
      let its : l.mark ≡ mark = second (sym l.made_two ∙ two) in
      let new : set.contains low.born mark ≡ false = subst (λ m. set.contains low.born m ≡ false) its l.mark_new in
      let far : same_name q mark ≡ false = subst (λ m. same_name q m ≡ false) its (go l.agent l.mark l.mark_new l.differ
      (subst IsSome (ap (λ (d : Config). map.get d.places q) l.is ∙ get-put low.places l.agent (place.At e.site) q) placed) (same_name q l.agent) refl) in
      ap (λ s. stands_for s q) same ∙ marked mark e.actor new q placed far
    where
      second : {t m u k : Name} → made.Two t m ≡ made.Two u k → m ≡ k
      second h = cc

      go : (t m : Name) → set.contains low.born m ≡ false → same_name t m ≡ false → IsSome (cond (same_name q t) (Some (place.At e.site)) (map.get low.places q))
          → (b : Bool) → same_name q t ≡ b → same_name q m ≡ false
      go t m new differ there true is = ap (λ q. same_name q m) (same_name-is q t is) ∙ differ
      go t m new differ there false is = apart m e.actor new q (subst (λ b. IsSome (cond b (Some (place.At e.site)) (map.get low.places q))) is there)

  -- so an arrival is the same event of the high level
  pub arrival-itself : e.kind ≡ kind.Arrive → renamed v.standing e ≡ e
  arrival-itself is =
      let a = arriving low e next (ap (λ k. row k low e) (sym is) ∙ h) in
      let actor = agents e.actor (subst IsSome (sym a.there) refl) in
      let other = ap (option_map (stands_for v.standing)) a.other_none ∙ sym a.other_none in
      λ i. record e { actor = actor i; other = other i }
