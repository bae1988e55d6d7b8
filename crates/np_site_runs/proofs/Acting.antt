-- A site cannot act where what it holds can do nothing, and nothing is left on the links to it.
use Rattle.std.proofs.Common.{◌≡◌, ◌<◌, ℕ, inl, inr, ⊎_elim, List, [], ◌∷◌, map, Option, None, Some, option_map, sym, subst, ◌∙◌}
use Rattle.std.specs.List.{AllByRecursion}
use Rattle.np_tables.specs.Names.{NameMap}
use Rattle.np_calculus.specs.declared.config.Atom.{Atom}
use Rattle.np_calculus.specs.declared.config.Place.{Place}
use Rattle.np_calculus.specs.declared.config.Place.TheVariants as place
use Rattle.np_calculus.specs.Config.{Config}
use Rattle.np_calculus.specs.Idle.{Can}
use Rattle.np_site_runs.specs.merged.Deeds.{StampedItem}
use Rattle.np_site_runs.specs.merged.Elements.{Occurs}
use Rattle.np_site_runs.specs.merged.Resting.{Brings}
use Rattle.np_site_runs.proofs.merged.Resting.{can_in_parts}
use Rattle.np_site_runs.specs.Holdings.{Holding, IsPart}
use Rattle.np_site_runs.specs.Acting.{LeadsTo, OnlySitesCan, SiteIsStill}

stands-at : (o : Option (NameMap Atom)) (k : ℕ) (p : Place) → option_map (λ atoms. place.At k) o ≡ Some p → place.At k ≡ p
stands-at None k p e = absurd (let h = e in cc)
stands-at (Some atoms) k p e = cc

-- what a site holds can act only at that site
acts-here : (h : Holding) (c : Config) (s : ℕ) → IsPart h c → Can c s → h.site ≡ s
acts-here h c s part (inl p) = let none : None ≡ Some p.packet = sym (part.packets p.mark) ∙ p.flies in absurd cc
acts-here h c s part (inr (inl a)) = let e : place.At h.site ≡ place.Way s = stands-at _ h.site (place.Way s) (sym (part.places a.agent) ∙ a.comes) in absurd cc
acts-here h c s part (inr (inr a)) = let e : place.At h.site ≡ place.At s = stands-at _ h.site (place.At s) (sym (part.places a.agent) ∙ a.stands) in cc

-- what is brought is brought to where the link leads
brought-there : (t s : ℕ) (xs : List StampedItem) → AllByRecursion (LeadsTo t) xs → Occurs (λ x. Brings s x.load) (map (λ x. x.item) xs) → s ≡ t
brought-there t s [] all h = absurd h
brought-there t s (x ∷ xs) all (inl h) = all.0 s h
brought-there t s (x ∷ xs) all (inr h) = brought-there t s xs all.1 h

pub only_sites_can : OnlySitesCan
only_sites_can n r hs c e s directed can = ⊎_elim
    (λ (u, low, acts).
    let here : u ≡ s = sym (directed.at u low) ∙ acts-here (r.end u) (e.here u) s (e.parts u low) acts in
    subst (λ m. m < n) here low)
    (λ (u, t, from, to, comes).
    let there : s ≡ t = brought-there t s (r.rest u t) (directed.left u t from to) comes in
    subst (λ m. m < n) (sym there) to)
    ((can_in_parts n (record { here = e.here; link = λ s t. map (λ x. x.item) (r.rest s t) }) e.whole s e.spread).0 can)

pub site_is_still : SiteIsStill
site_is_still n r hs c e s less directed still empty can = ⊎_elim
    (λ (u, low, acts).
    let here : u ≡ s = sym (directed.at u low) ∙ acts-here (r.end u) (e.here u) s (e.parts u low) acts in
    still (e.here s) (e.parts s less) s (subst (λ u. Can (e.here u) s) here acts))
    (λ (u, t, from, to, comes).
    let there : s ≡ t = brought-there t s (r.rest u t) (directed.left u t from to) comes in
    let here : Occurs (λ x. Brings s x.load) (map (λ x. x.item) (r.rest u s)) = subst (λ t. Occurs (λ x. Brings s x.load) (map (λ (x : StampedItem). x.item) (r.rest u t))) (sym there) comes in
    subst (λ xs. Occurs (λ x. Brings s x.load) (map (λ (x : StampedItem). x.item) xs)) (empty u from) here)
    ((can_in_parts n (record { here = e.here; link = λ s t. map (λ x. x.item) (r.rest s t) }) e.whole s e.spread).0 can)
