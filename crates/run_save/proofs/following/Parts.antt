-- An event that is enabled in the whole, and that an atom makes, is enabled in what its site holds.
use Rattle.std.proofs.Common.{◌≡◌, ◌<◌, ◌≤◌, ◌+◌, inl, inr, ⊎_elim, ℕ, zero, suc, Bool, true, false, not, cond, ◌&&◌, nat_eq, nat_lt, List, [], ◌∷◌, ◌++◌, map, Some, refl, sym, ap, ap₂, subst, ◌∙◌, arith}
use Rattle.std.proofs.lemmas.Bool.{eqb-true}
use Rattle.std.proofs.lemmas.Bool.Decides.{eqb_tells, nat_tests}
use Rattle.std.specs.FinSet as set
use Rattle.np_calculus.proofs.Common.{Name, Event, Kind, Made, same_name, same_name-is, then, Config, Contents, Change, inside, sight, acting_in, are_new, change, apply}
use Rattle.np_syntax.specs.declared.event.Kind.TheVariants as kind
use Rattle.np_syntax.specs.declared.event.Made.TheVariants as made
use Rattle.np_syntax.specs.Reordering.{Reordered, and_then, behind, kept, swapped}
use Rattle.np_calculus.specs.declared.config.Atom.{Atom}
use Rattle.np_calculus.specs.declared.config.Place.TheVariants as place
use Rattle.np_calculus.specs.FrameRule.{Comes, Every}
use Rattle.np_calculus.specs.NotEnabled.{by_atom}
use Rattle.np_calculus.specs.Parts.{IsAway, IsLodged, IsWhole}
use Rattle.np_calculus.proofs.FrameRule.{frame_back}
use Rattle.np_calculus.proofs.OwnNames.{not_true}
use Rattle.np_calculus.proofs.Steps.{Acts, acting-step, row-step}
use Rattle.np_calculus.proofs.Writes.{every-map}
use Rattle.np_site_runs.specs.merged.Joined.{IsJoined, together}
use Rattle.np_site_runs.specs.merged.Links.{spread}
use Rattle.np_site_runs.specs.merged.Steps.{IsItem, IsSpread, Spread, sites}
use Rattle.np_syntax.proofs.Reorderings.{reorder-after}
use Rattle.np_site_runs.proofs.merged.Joined.{every-append, reorder-joined}
use Rattle.np_site_runs.proofs.merged.Steps.{false_eq, not_eq, together-away, together-lodged}
use Rattle.np_site_runs.specs.merged.Elements.{Occurs}
use Rattle.np_site_runs.proofs.merged.Elements.{occurs-either, occurs-not}
use Rattle.np_site_runs.specs.Holdings.{Holding, IsPart, name_of}
use Rattle.np_site_runs.specs.Making.{AreNext}
use Rattle.np_site_runs.proofs.merged.Resting.{place-in}
use Rattle.run_save.specs.following.Parts.{EnabledInPart, EventIsOfSite}

-- ---- the sites but one

others : ℕ → ℕ → (ℕ → Config) → List Contents
others zero s here = []
others (suc n) s here = cond (nat_eq n s) (others n s here) (inside (here n) ∷ others n s here)

others-all : (n s : ℕ) (here : ℕ → Config) → n ≤ s → others n s here ≡ sites n here
unfolding others
others-all zero s here h = refl
others-all (suc n) s here h =
    let apart : (n ≡ s → ⊥) = λ e. omega arith in
    ap (λ t. cond t (others n s here) (inside (here n) ∷ others n s here)) (false_eq n s apart) ∙ ap (λ ps. inside (here n) ∷ ps) (others-all n s here (omega arith))

pick : (n s : ℕ) (here : ℕ → Config) → s < n → Reordered (sites n here) (inside (here s) ∷ others n s here)
unfolding others
pick zero s here h = absurd (omega arith)
pick (suc n) s here h = one (nat_eq n s) refl (λ less. pick n s here less)
  where
    one : (t : Bool) → nat_eq n s ≡ t → (s < n → Reordered (sites n here) (inside (here s) ∷ others n s here))
        → Reordered (inside (here n) ∷ sites n here) (inside (here s) ∷ cond t (others n s here) (inside (here n) ∷ others n s here))
    one true e more =
        let is : n ≡ s = eqb-true n s e in
        subst (λ ps. Reordered (inside (here n) ∷ sites n here) ps) (ap (λ u. inside (here u) ∷ sites n here) is ∙ ap (λ ps. inside (here s) ∷ ps) (sym (others-all n s here (omega arith)))) kept
    one false e more = let apart : (n ≡ s → ⊥) = not_eq n s e in and_then (behind (more (omega arith))) swapped

others-every : (s : ℕ) (here : ℕ → Config) (P : Contents → Type 0) → ((u : ℕ) → (u ≡ s → ⊥) → P (inside (here u))) → (n : ℕ) → Every P (others n s here)
unfolding others
others-every s here P h zero = tt
others-every s here P h (suc n) = one (nat_eq n s) refl (others-every s here P h n)
  where
    one : (t : Bool) → nat_eq n s ≡ t → Every P (others n s here) → Every P (cond t (others n s here) (inside (here n) ∷ others n s here))
    one true e more = more
    one false e more = (h n (not_eq n s e), more)

-- ---- what is in one of the parts

pub of-sites : (P : Contents → Type 0) (here : ℕ → Config) (n : ℕ) → Occurs P (sites n here) → (u : ℕ) × (u < n) × P (inside (here u))
of-sites P here zero h = absurd h
of-sites P here (suc n) (inl h) = (n, omega arith, h)
of-sites P here (suc n) (inr h) = let t = of-sites P here n h in let less : t.0 < n = t.1 in (t.0, omega arith, t.2)

-- ---- the event of an atom

module _ (c : Config) (x : Event) where
  acting-of : (k : Kind) → by_atom k ≡ true → (d : Change) → change k c.sites (inside c) x ≡ Some d → (a : Atom) × Acts c x a
  acting-of kind.Arrive h d g = absurd (let e = h in cc)
  acting-of kind.Land h d g = absurd (let e = h in cc)
  acting-of k h d g = then (acting_in (sight c.sites (inside c) x.site) x) _ g λ a found g. (a, acting-step c x a found)

  comes-own : (k : Kind) (y : Contents) (q : Name) → by_atom k ≡ true → Comes k y q
  comes-own kind.Arrive y q h = absurd (let e = h in cc)
  comes-own kind.Land y q h = absurd (let e = h in cc)
  comes-own k y q h = tt

module _ (n : ℕ) (g : Spread) (c after : Config) (x : Event) (i : IsSpread n g c) (own : by_atom x.kind ≡ true) (applies : apply c x ≡ Some after) where
  acts : (a : Atom) × Acts c x a
  acts = let s = row-step c x after x.kind applies in acting-of c x x.kind own s.made s.gives

  at-site : (u : ℕ) → (inside (g.here u)).place acts.0.agent ≡ Some (place.At x.site) → x.site ≡ u
  at-site u h = elim (eqb_tells x.site u) [
    | inl w ↦ w.1
    | inr w ↦ absurd (((i.site u).away x.site w.1).none acts.0.agent h)
  ]

  pub is-site : x.site < n
  is-site =
      let P : Contents → Type 0 = λ y. y.place acts.0.agent ≡ Some (place.At x.site) in
      let there : (together (sites n g.here ++ g.air)).place acts.0.agent ≡ Some (place.At x.site) = ap (λ (y : Contents). y.place acts.0.agent) (sym i.joined.is) ∙ acts.1.stands in
      ⊎_elim (λ h. let t = of-sites P g.here n h in subst (λ m. m < n) (sym (at-site t.0 t.2)) t.1)
      (λ h. absurd (occurs-not IsItem P (λ y item is. (item.away x.site).none acts.0.agent is) g.air i.items h))
      (occurs-either P (sites n g.here) g.air (place-in (sites n g.here ++ g.air) acts.0.agent (place.At x.site) there))

  -- the other sites and what is under way
  R : List Contents
  R = others n x.site g.here ++ g.air

  regrouped : IsJoined (inside c) (inside (g.here x.site) ∷ R)
  unfolding R
  regrouped = reorder-joined (inside c) (reorder-after g.air (pick n x.site g.here is-site)) i.joined

  whole : IsWhole c (g.here x.site) (together R)
  whole = record { sites = i.number x.site; split = record { is = regrouped.is; apart = regrouped.apart.0 }; born = i.born }

  R-each : (P : Contents → Type 0) → ((u : ℕ) → (u ≡ x.site → ⊥) → P (inside (g.here u))) → ((y : Contents) → IsItem y → P y) → Every P R
  unfolding R
  R-each P f e = every-append P (others n x.site g.here) g.air (others-every x.site g.here P f n) (every-map IsItem P e g.air i.items)

  pub in-part : are_new (g.here x.site).born x.made ≡ true → (next : Config) × (apply (g.here x.site) x ≡ Some next)
  in-part new =
      let t = frame_back c (g.here x.site) after (together R) x whole (together-lodged R (R-each IsLodged (λ u apart. (i.site u).lodged) (λ y item. item.lodged)))
      (together-away x.site R (R-each (λ p. IsAway p x.site) (λ u apart. (i.site u).away x.site (λ e. apart (sym e))) (λ y item. item.away x.site)))
      (comes-own c x x.kind (inside (g.here x.site)) x.actor own) new applies in (t.0, t.1)

-- ---- the next names are new

not-below : (m n : ℕ) → n ≤ m → nat_lt m n ≡ false
not-below m n h = grind (arith, nat_tests)

apart-names : (s k : ℕ) → same_name (name_of s k) (name_of s (suc k)) ≡ false
apart-names s k = not_true _ (λ t. let e : k ≡ suc k = ap (λ (q : Name). q.n) (same_name-is (name_of s k) (name_of s (suc k)) t) in absurd (omega arith))

unborn : (h : Holding) (c : Config) (k : ℕ) → IsPart h c → h.next ≤ k → set.contains c.born (name_of h.site k) ≡ false
unborn h c k part above = part.born k ∙ not-below k h.next above

next-new : (h : Holding) (c : Config) (x : Made) → IsPart h c → AreNext h x → are_new c.born x ≡ true
next-new h c made.Nothing part next = refl
next-new h c (made.One m) part next = ap (λ q. not (set.contains c.born q)) next ∙ ap not (unborn h c h.next part (omega arith))
next-new h c (made.Two m n) part next =
    let e : h.next + 1 ≡ suc h.next = omega arith in
    let second : n ≡ name_of h.site (suc h.next) = next.1 ∙ ap (name_of h.site) e in
    ap₂ (λ p q. not (same_name p q) && (not (set.contains c.born p) && not (set.contains c.born q))) next.0 second
    ∙ ap₂ (λ a b. not a && (not b && not (set.contains c.born (name_of h.site (suc h.next))))) (apart-names h.site h.next) (unborn h c h.next part (omega arith))
    ∙ ap not (unborn h c (suc h.next) part (omega arith))

pub event_is_of_site : EventIsOfSite
event_is_of_site n r hs c after e x own applies = is-site n (spread n (record { here = e.here; link = λ s t. map (λ x. x.item) (r.rest s t) })) e.whole after x e.spread own applies

pub enabled_in_part : EnabledInPart
enabled_in_part n r hs c after e x own applies next =
    let less = event_is_of_site n r hs c after e x own applies in
    in-part n (spread n (record { here = e.here; link = λ s t. map (λ x. x.item) (r.rest s t) })) e.whole after x e.spread own applies
    (next-new (r.end x.site) (e.here x.site) x.made (e.parts x.site less) next)
