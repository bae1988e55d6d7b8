-- The names that a site makes, in order of their numbers.
use Rattle.std.specs.Prelude.{◌≡◌, ◌<◌, ◌+◌, ℕ}
use Rattle.np_syntax.specs.declared.event.Made.{Made}
use Rattle.np_syntax.specs.declared.event.Made.TheVariants as made
use Rattle.np_calculus.specs.Config.{Config}
use Rattle.np_site_runs.specs.merged.Steps.{IsSpread, Spread}
use Rattle.np_site_runs.specs.Holdings.{AreMade, Holding, IsPart, name_of}

-- the names that are made are the next ones of the site
abbrev pub AreNext : Holding → Made → Type 0
AreNext h made.Nothing = Unit {0}
AreNext h (made.One m) = m ≡ name_of h.site h.next
AreNext h (made.Two m n) = (m ≡ name_of h.site h.next) × (n ≡ name_of h.site (h.next + 1))

-- the number of the next name after these
abbrev pub next_after : ℕ → Made → ℕ
next_after next made.Nothing = next
next_after next (made.One m) = next + 1
next_after next (made.Two m n) = next + 2

-- Where sites and what is under way between them have the parts of one configuration, each name of a site's own that stands there is
-- one that it has made.
abbrev pub MadeInSpread : Type 0
MadeInSpread = (n : ℕ) (g : Spread) (c : Config) (h : Holding) → IsSpread n g c → h.site < n → IsPart h (g.here h.site) → AreMade h
