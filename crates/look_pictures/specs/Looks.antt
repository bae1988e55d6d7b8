-- What is looked at (docs/PICTURES.md, "Pictures").
use Rattle.std.specs.Prelude.{◌≡◌, ℕ, true, List, Option, None, Some, map}
use Rattle.np_syntax.specs.declared.event.Event.{Event}
use Rattle.np_syntax.specs.declared.program.LowProgram.{LowProgram}
use Rattle.np_syntax.specs.declared.program.Program.{Program}
use Rattle.np_calculus.specs.Starts.{start_high}
use Rattle.np_check.specs.Faults.{IsAccepted}
use Rattle.np_serial.specs.Serial.{IsSerialRun}
use Rattle.np_serial.specs.declared.serial.SerialRun.{SerialRun}
use Rattle.run_choices.specs.Runs.{AreChosen}
use Rattle.run_pictures.specs.declared.step.Followed.{Followed}
use Rattle.run_pictures.specs.declared.step.Step.{Step}
use Rattle.run_pictures.specs.declared.parts.Part.{Part}
use Rattle.run_pictures.specs.Parts.{part_of}
use Rattle.picture_svg.specs.Pictures.{IsPicture, IsPictureOfBoth}
use Rattle.shiviz_log.specs.Logs.{log}
use Rattle.look_sources.specs.Lifts.{AreTwins}
use Rattle.np_on_sites.specs.ByInfrastructure.{lift_by, low_by}
use Rattle.look_sources.specs.Looked.{IsFound, IsLooked, IsLookedAt}
use Rattle.look_sources.specs.declared.runs.Run.{Run}
use Rattle.look_sources.specs.declared.shown.Shown.{Shown}
use Rattle.np_words.specs.declared.modes.Infrastructure.{Infrastructure}
use Rattle.look_words.specs.declared.words.Level.{Level}
use Rattle.look_words.specs.declared.words.Level.TheVariants as levels
use Rattle.look_words.specs.declared.part_words.Stretch.{Stretch}
use Rattle.look_words.specs.declared.words.Question.{Question}
use Rattle.look_words.specs.declared.words.View.{View}
use Rattle.look_words.specs.declared.words.View.TheVariants as views
use Rattle.look_words.specs.declared.words.Wanted.{Wanted}

-- the events of a level: those of the sites, or those of the source
abbrev pub events_at : Level → Infrastructure → List Event → List Event
events_at levels.Low infrastructure events = events
events_at levels.High infrastructure events = lift_by infrastructure events

-- the steps that are followed have just the events of a level
abbrev pub FollowsAt : Level → Infrastructure → List Event → Followed → Type 0
FollowsAt level infrastructure events followed = map (λ step. step.event) followed.steps ≡ events_at level infrastructure events

-- the text is a picture in which just these events stand, in this order
pub record IsPictureOf (events : List Event) (text : List ℕ) : Type 0 where
  pub steps : List Step
  pub of : map (λ step. step.event) steps ≡ events
  pub picture : IsPicture steps text

-- the text is a picture in which the events of both levels stand side by side
pub record IsPictureOfLevels (infrastructure : Infrastructure) (events : List Event) (text : List ℕ) : Type 0 where
  pub high : List Step
  pub low : List Step
  pub of_high : map (λ step. step.event) high ≡ lift_by infrastructure events
  pub of_low : map (λ step. step.event) low ≡ events
  pub numbers : List ℕ
  pub are_twins : AreTwins infrastructure events numbers
  pub picture : IsPictureOfBoth high low numbers text

-- a part that begins and ends where it is wanted; it has all that stands between where no agent is named
pub record IsPart (stretch : Stretch) (part : Part) : Type 0 where
  pub first : part.first ≡ stretch.first
  pub end : part.end ≡ stretch.end
  pub whole : stretch.whole ≡ true → part.of ≡ None

-- the text is a picture of a part of these steps
pub record IsPictureOfSteps (stretch : Stretch) (steps : List Step) (text : List ℕ) : Type 0 where
  pub part : Part
  pub wanted : IsPart stretch part
  pub picture : IsPicture (part_of part steps) text

-- the text is a picture of a part of these events
pub record IsPictureOfPart (stretch : Stretch) (events : List Event) (text : List ℕ) : Type 0 where
  pub steps : List Step
  pub of : map (λ step. step.event) steps ≡ events
  pub shown : IsPictureOfSteps stretch steps text

abbrev pub IsViewed : View → Infrastructure → List Event → List ℕ → Type 0
IsViewed (views.One level) infrastructure events text = IsPictureOf (events_at level infrastructure events) text
IsViewed (views.Part level stretch) infrastructure events text = IsPictureOfPart stretch (events_at level infrastructure events) text
IsViewed views.Both infrastructure events text = IsPictureOfLevels infrastructure events text

-- what is shown is a view of the run that is looked at, of a history or of none
pub record IsShownOf (wanted : Wanted) (history : Option Run) (low : LowProgram) (shown : Shown) : Type 0 where
  pub run : Run
  pub looked : IsLookedAt history low wanted.budget wanted.seed run
  pub viewed : IsViewed wanted.view wanted.infrastructure run.events shown.text
  pub ends : shown.end ≡ run.end

-- the same of the low program of a source that np accepts, and of the history that is named
pub record IsShown (wanted : Wanted) (shown : Shown) : Type 0 where
  pub run : Run
  pub looked : IsLooked wanted.history wanted.infrastructure wanted.budget wanted.seed run
  pub viewed : IsViewed wanted.view wanted.infrastructure run.events shown.text
  pub ends : shown.end ≡ run.end

-- what is shown of a run of the source by itself: a picture of its events, or of a part of them
abbrev pub IsViewedAlone : View → List Event → List ℕ → Type 0
IsViewedAlone (views.One level) events text = IsPictureOf events text
IsViewedAlone (views.Part level stretch) events text = IsPictureOfPart stretch events text
IsViewedAlone views.Both events text = IsPictureOf events text

-- what is shown is a view of a run of a source by itself, in which the draws of the seed choose each event
pub record IsShownAlone (seed : ℕ) (wanted : Wanted) (shown : Shown) : Type 0 where
  pub p : Program
  pub accepted : IsAccepted p
  pub run : SerialRun
  pub goes : IsSerialRun (start_high p) wanted.budget run.events run.last run.end
  pub drawn : AreChosen (start_high p) seed run.events
  pub viewed : IsViewedAlone wanted.view run.events shown.text
  pub ends : shown.end ≡ run.end

-- the seed of a run of the source by itself: the one that is given, where only what the source says is looked at
abbrev pub level_seed : Option ℕ → Level → Option ℕ
level_seed seed levels.High = seed
level_seed seed levels.Low = None

abbrev pub source_seed : Option ℕ → View → Option ℕ
source_seed seed (views.One level) = level_seed seed level
source_seed seed (views.Part level stretch) = level_seed seed level
source_seed seed views.Both = None

-- what is shown is what is wanted
abbrev pub IsDrawn : Option ℕ → Wanted → Shown → Type 0
IsDrawn None wanted shown = IsShown wanted shown
IsDrawn (Some seed) wanted shown = IsShownAlone seed wanted shown

-- the text is a log in which just these events stand, in this order
pub record IsLogOf (sites : List (List ℕ)) (events : List Event) (text : List ℕ) : Type 0 where
  pub steps : List Step
  pub of : map (λ step. step.event) steps ≡ events
  pub is : text ≡ log sites steps

-- what is shown is a log of the history that is named, at the sites of a source that np accepts
pub record IsShownLog (question : Question) (shown : Shown) : Type 0 where
  pub p : Program
  pub accepted : IsAccepted p
  pub low : LowProgram
  pub translated : low ≡ low_by question.infrastructure p
  pub run : Run
  pub found : IsFound question.history (Some run)
  pub log : IsLogOf low.sites run.events shown.text
