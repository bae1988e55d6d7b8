-- Vector clocks: how many events of each site an event knows of, by the numbers of the sites (docs/PICTURES.md, "Logs").
use Rattle.std.specs.Prelude.{ℕ, ◌+◌, nat_lt, List, [], ◌∷◌, length, Option, None, Some, slice_index_or, slice_set, replicate}
use Rattle.std.specs.Prelude.{if◌then◌else◌}
use Rattle.std.specs.FinMap as map
use Rattle.np_syntax.specs.declared.event.Kind.{Kind}
use Rattle.np_syntax.specs.declared.event.Kind.TheVariants as kind
use Rattle.np_tables.specs.Names.{NameMap}
use Rattle.run_pictures.specs.declared.step.Step.{Step}
use Rattle.shiviz_log.specs.declared.clocks.Clocks.{Clocks}

-- the clock of the last event of each site, of the last Send of each mark, and of the last Depart of each agent
pub record Known : Type 0 where
  pub sites : List (List ℕ)
  pub sent : NameMap (List ℕ)
  pub gone : NameMap (List ℕ)

abbrev pub known_of : Clocks → Known
known_of c = record { sites = c.sites; sent = c.sends.items; gone = c.departs.items }

-- at the start nothing is known at any of so many sites
abbrev pub at_first : ℕ → Known
at_first n = record { sites = replicate n (replicate n 0); sent = map.empty; gone = map.empty }

abbrev pub some_clock : Option (List ℕ) → List ℕ
some_clock None = []
some_clock (Some clock) = clock

-- what a packet or an agent that comes knows of
abbrev pub coming : Kind → Known → Step → List ℕ
coming kind.Land k step = some_clock (map.get k.sent step.event.actor)
coming kind.Arrive k step = some_clock (map.get k.gone step.agent)
coming _ k step = []

abbrev pub larger : ℕ → ℕ → ℕ
larger a b = if nat_lt a b then b else a

-- of each site from this one on the larger of two counts
abbrev pub joined_from : List ℕ → ℕ → List ℕ → List ℕ
joined_from other site [] = []
joined_from other site (n ∷ ns) = larger n (slice_index_or other site 0) ∷ joined_from other (site + 1) ns

abbrev pub joined : List ℕ → List ℕ → List ℕ
joined clock other = joined_from other 0 clock

abbrev pub put_at : {X : Type 0} → List X → ℕ → X → List X
put_at xs at x = if nat_lt at (length xs) then slice_set xs at x else xs

-- one event more of a site
abbrev pub ticked : List ℕ → ℕ → List ℕ
ticked clock site = put_at clock site (slice_index_or clock site 0 + 1)

-- the clock of a step: what its site knows, with what comes, and one event more of the site
abbrev pub clock_of : Known → Step → List ℕ
clock_of k step = ticked (joined (slice_index_or k.sites step.event.site []) (coming step.event.kind k step)) step.event.site

-- what goes takes the clock along
abbrev pub leaving : Kind → Known → Step → List ℕ → Known
leaving kind.Send k step clock = record k { sent = map.insert k.sent step.event.actor clock }
leaving kind.Depart k step clock = record k { gone = map.insert k.gone step.agent clock }
leaving _ k step clock = k

abbrev pub staying : Known → Step → List ℕ → Known
staying k step clock = record k { sites = put_at k.sites step.event.site clock }

-- what is known after a step
abbrev pub after : Known → Step → Known
after k step = staying (leaving step.event.kind k step (clock_of k step)) step (clock_of k step)
