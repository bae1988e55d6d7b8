-- The names of a site's own that stand where it has its part of a whole.
use Rattle.std.proofs.Common.{◌≡◌, ◌<◌, inl, ℕ, true, ◌++◌, Some, IsSome, sym, ap, ◌∙◌}
use Rattle.std.specs.FinMap as table
use Rattle.std.specs.FinSet as set
use Rattle.np_calculus.proofs.Common.{Config, Contents, inside}
use Rattle.np_calculus.specs.declared.config.Atom.{Atom}
use Rattle.np_calculus.specs.declared.config.Place.TheVariants as place
use Rattle.np_calculus.proofs.Fits.{some}
use Rattle.np_site_runs.specs.merged.Steps.{IsSpread, Spread, sites}
use Rattle.np_site_runs.specs.merged.Elements.{Occurs}
use Rattle.np_syntax.proofs.Options.{there-is}
use Rattle.np_site_runs.proofs.merged.Elements.{occurs-first}
use Rattle.np_site_runs.proofs.merged.Resting.{atom-out, in_sites, place-out}
use Rattle.np_site_runs.specs.Holdings.{Holding, IsHeld, IsPart, name_of}
use Rattle.np_site_runs.specs.Making.{MadeInSpread}
use Rattle.np_site_runs.proofs.Parts.{below, place-of}

module _ (n : ℕ) (g : Spread) (c : Config) (h : Holding) (s : IsSpread n g c) (less : h.site < n) (part : IsPart h (g.here h.site)) where
  -- what stands at the site stands in the whole
  in-whole : (P : Contents → Type 0) → P (inside (g.here h.site)) → Occurs P (sites n g.here ++ g.air)
  in-whole P is = occurs-first P (sites n g.here) g.air (in_sites P g.here n h.site less is)

  -- and what is born there is born at the site
  born-at : (k : ℕ) → set.contains c.born (name_of h.site k) ≡ true → k < h.next
  born-at k is = below k h.next (sym (part.born k) ∙ sym (s.own (name_of h.site k)) ∙ is)

  agent-made : (k : ℕ) → IsSome (table.get h.agents (name_of h.site k)) → k < h.next
  agent-made k is =
      let t = there-is (table.get h.agents (name_of h.site k)) is in
      let stands = place-of h (g.here h.site) part (name_of h.site k) t.0 t.1 in
      let there = ap (λ (x : Contents). x.place (name_of h.site k)) s.joined.is
      ∙ place-out (sites n g.here ++ g.air) (name_of h.site k) (place.At h.site) s.joined.apart (in-whole (λ x. x.place (name_of h.site k) ≡ Some (place.At h.site)) stands) in
      born-at k (s.born.agents (name_of h.site k) (some ((inside c).place (name_of h.site k)) (place.At h.site) there))

  mark-made : (k : ℕ) (a : Atom) → IsHeld h (name_of h.site k) a → k < h.next
  mark-made k a is =
      let stands = part.has (name_of h.site k) a is in
      let there = ap (λ (x : Contents). x.atom (name_of h.site k)) s.joined.is
      ∙ atom-out (sites n g.here ++ g.air) (name_of h.site k) a s.joined.apart (in-whole (λ x. x.atom (name_of h.site k) ≡ Some a) stands) in
      born-at k (s.born.marks (name_of h.site k) (inl (some ((inside c).atom (name_of h.site k)) a there)))

pub made_in_spread : MadeInSpread
made_in_spread n g c h s less part = record { agents = agent-made n g c h s less part; marks = mark-made n g c h s less part }
