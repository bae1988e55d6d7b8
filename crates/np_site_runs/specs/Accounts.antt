-- What each of n sites did, told by itself: of an item that it takes it knows on whose link it came, and not who sent it
-- (docs/HISTORIES.md, "History text").
use Rattle.std.specs.Prelude.{◌≡◌, ◌<◌, ◌↔◌, ◌==◌, ℕ, cond, nat_lt, ◌&&◌, List, [], ◌∷◌, ◌++◌, length, map, Some, IfSome, option_to_list}
use Rattle.std.specs.Prelude.{slice_index_or}
use Rattle.std.specs.List.{AllByRecursion, filter, flat_map}
use Rattle.np_syntax.specs.declared.program.LowProgram.{LowProgram}
use Rattle.np_calculus.specs.Config.{Config}
use Rattle.np_calculus.specs.Idle.{Idle}
use Rattle.np_calculus.specs.Reductions.{run}
use Rattle.np_calculus.specs.Starts.{start_low}
use Rattle.np_site_runs.specs.merged.Links.{spread}
use Rattle.np_site_runs.specs.merged.Steps.{IsSpread}
use Rattle.stamp_history.specs.Histories.{IsHistory, Recorded}
use Rattle.run_merge.specs.Merged.{items, merged, said}
use Rattle.np_site_runs.specs.merged.Deeds.{Deed, StampedItem, put_for}
use Rattle.np_site_runs.specs.Holdings.{Holding, IsPart}
use Rattle.np_site_runs.specs.SiteRuns.{AreHeldRuns, HeldRuns, IsHeldRun, IsNextDeed}
use Rattle.np_site_runs.specs.Starting.{start_holding}
use Rattle.np_site_runs.specs.Ending.{HasPrinted, IsLoad, IsStill, PutLoads}

-- an item, with the site on whose link it came
pub record Came : Type 0 where
  pub from : ℕ
  pub item : StampedItem

-- the items that came on the link from a site
abbrev pub came_on : ℕ → List Came → List StampedItem
came_on s came = map (λ c. c.item) (filter (λ c. c.from == s) came)

-- what a site puts on its way is its own, and not empty
abbrev pub SendsLoad : ℕ → Deed → Type 0
SendsLoad site d = IfSome d.put (λ x. (x.item.sender ≡ site) × IsLoad x.item.load)

-- what a site, one of n, did, and where the items that it took came from
pub record IsAccount (n site : ℕ) (start : Holding) (ds : List Deed) (end : Holding) (came : List Came) : Type 0 where
  pub run : IsHeldRun n site start ds end
  pub sends : AllByRecursion (SendsLoad site) ds
  pub took : map (λ c. c.item) came ≡ flat_map (λ d. option_to_list d.taken) ds
  pub within : AllByRecursion (λ c. c.from < n) came

-- ---- one event more

abbrev pub AccountStarts : Type 0
AccountStarts = (n site : ℕ) (start : Holding) → start.site ≡ site → IsAccount n site start [] start []

-- what the event takes, on the link from a site
abbrev pub taken_on : ℕ → Deed → List Came
taken_on from d = map (λ x. record { from = from; item = x }) (option_to_list d.taken)

abbrev pub AccountGrows : Type 0
AccountGrows = (n site : ℕ) (start old new : Holding) (ds : List Deed) (d : Deed) (came : List Came) (from : ℕ)
    → IsAccount n site start ds old came
    → IsNextDeed n site ds old d new → SendsLoad site d → IfSome d.taken (λ x. from < n)
    → IsAccount n site start (ds ++ d ∷ []) new (came ++ taken_on from d)

abbrev pub CameFollows : Type 0
CameFollows = (s : ℕ) (xs ys : List Came) → came_on s (xs ++ ys) ≡ came_on s xs ++ came_on s ys

-- ---- all sites

-- what the sites did, hold at the end and took, and what is left on the links
pub record Accounts : Type 0 where
  pub deeds : ℕ → List Deed
  pub end : ℕ → Holding
  pub came : ℕ → List Came
  pub rest : ℕ → ℕ → List StampedItem

-- each of n sites ran alone, and on each link between them what is put is what came, and then what is left
pub record AreSettled (n : ℕ) (start : ℕ → Holding) (r : Accounts) : Type 0 where
  pub at : (s : ℕ) → (start s).site ≡ s
  pub each : (s : ℕ) → s < n → IsAccount n s (start s) (r.deeds s) (r.end s) (r.came s)
  pub links : (s t : ℕ) → s < n → t < n → put_for t (r.deeds s) ≡ came_on s (r.came t) ++ r.rest s t

-- the same told of all numbers: what is no site does nothing, and nothing is on a link that it has not
abbrev pub held_runs : ℕ → (ℕ → Holding) → Accounts → HeldRuns
held_runs n start r = record {
  start = start;
  deeds = λ s. cond (nat_lt s n) (r.deeds s) [];
  end = λ s. cond (nat_lt s n) (r.end s) (start s);
  rest = λ s t. cond (nat_lt s n && nat_lt t n) (r.rest s t) [];
}

abbrev pub SettledAreRuns : Type 0
SettledAreRuns = (n : ℕ) (start : ℕ → Holding) (r : Accounts) → AreSettled n start r
    → AreHeldRuns n (held_runs n start r) × PutLoads (held_runs n start r)

-- ---- the end

-- the history of a site, at its place
pub record IsItsHistory (r : Accounts) (s : ℕ) (h : Recorded) : Type 0 where
  pub site : h.site ≡ s
  pub history : IsHistory h
  pub events : h.events ≡ map (λ d. d.event) (r.deeds s)
  pub printed : HasPrinted (r.end s) h

pub record AreTheirs (n : ℕ) (r : Accounts) (hs : List Recorded) : Type 0 where
  pub count : length hs ≡ n
  pub each : (s : ℕ) (d : Recorded) → s < n → IsItsHistory r s (slice_index_or hs s d)

-- The merged history is a run of the whole, and says what the histories have as printed. At its end each of n sites holds its part, and
-- what is left is on the links between them. The whole rests then just where what each site holds can do nothing, and nothing is left.
pub record SitesEnd (n : ℕ) (r : Accounts) (hs : List Recorded) (c : Config) : Type 0 where
  pub here : ℕ → Config
  pub parts : (s : ℕ) → s < n → IsPart (r.end s) (here s)
  pub whole : Config
  pub runs : run c (items (merged hs)) ≡ Some whole
  pub said : whole.said ≡ said hs
  pub spread : IsSpread n (spread n (record { here = here; link = λ s t. map (λ x. x.item) (r.rest s t) })) whole
  pub rests : Idle whole ↔ (((s : ℕ) → s < n → IsStill (r.end s)) × ((s t : ℕ) → s < n → t < n → r.rest s t ≡ []))

abbrev pub LowSitesEnd : Type 0
LowSitesEnd = (q : LowProgram) (r : Accounts) (hs : List Recorded) → q.at < length q.sites → AreSettled (length q.sites) (start_holding q) r
    → AreTheirs (length q.sites) r hs → SitesEnd (length q.sites) r hs (start_low q)
