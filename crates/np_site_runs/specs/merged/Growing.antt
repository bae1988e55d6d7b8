-- What a site did alone, and one event more.
use Rattle.std.specs.Prelude.{◌≡◌, ℕ, List, [], ◌∷◌, ◌++◌}
use Rattle.np_calculus.specs.Config.{Config}
use Rattle.np_site_runs.specs.merged.Links.{loads}
use Rattle.np_site_runs.specs.merged.Steps.{IsStep}
use Rattle.np_site_runs.specs.merged.Deeds.{Deed, HasStamps, IsDeedOf, IsSiteRun, clock_after, plain, put_for, taken_from}

-- nothing yet
abbrev pub RunStarts : Type 0
RunStarts = (n site : ℕ) (start : Config) → IsSiteRun n site start [] start

-- an event of the site after these
pub record IsNext (n site : ℕ) (ds : List Deed) (old : Config) (d : Deed) (new : Config) : Type 0 where
  pub own : IsDeedOf n site d
  pub step : IsStep d.event.event old (loads (plain d.taken)) new (loads (plain d.put))
  pub stamps : HasStamps (clock_after 0 ds) d

abbrev pub RunGrows : Type 0
RunGrows = (n site : ℕ) (start old new : Config) (ds : List Deed) (d : Deed) → IsSiteRun n site start ds old → IsNext n site ds old d new
    → IsSiteRun n site start (ds ++ d ∷ []) new

-- the clock is then the stamp of that event
abbrev pub ClockGoesOn : Type 0
ClockGoesOn = (clock : ℕ) (ds : List Deed) (d : Deed) → clock_after clock (ds ++ d ∷ []) ≡ d.event.stamp

-- what is put or taken by two lists of events is what is by the one, and then by the other
abbrev pub PutsFollow : Type 0
PutsFollow = (t : ℕ) (ds es : List Deed) → put_for t (ds ++ es) ≡ put_for t ds ++ put_for t es

abbrev pub TakesFollow : Type 0
TakesFollow = (s : ℕ) (ds es : List Deed) → taken_from s (ds ++ es) ≡ taken_from s ds ++ taken_from s es
