-- The page of a run (docs/PICTURES.md, "Pages").
use Rattle.std.specs.Prelude.{◌≡◌, ℕ, List, Option, map, take}
use Rattle.np_syntax.specs.declared.event.Event.{Event}
use Rattle.np_syntax.specs.declared.program.LowProgram.{LowProgram}
use Rattle.np_verdict.specs.Faults.{Accepted, Stage}
use Rattle.history_text.specs.Spelling.{event_line}
use Rattle.history_text.specs.declared.format.Format.TheVariants.{First}
use Rattle.run_pictures.specs.declared.step.Step.{Step}
use Rattle.picture_svg.specs.declared.style.TheConstants.{STYLE as PICTURES}
use Rattle.picture_svg.specs.Pictures.{IsPicture}
use Rattle.source_words.specs.Words.{source_of}
use Rattle.page_html.specs.declared.page.Page.{Page}
use Rattle.page_html.specs.declared.page.Row.{Row}
use Rattle.page_html.specs.declared.page.View.{View}
use Rattle.page_html.specs.declared.script.TheConstants.{SCRIPT}
use Rattle.page_html.specs.declared.style.TheConstants.{STYLE}
use Rattle.page_html.specs.Pages.{IsFormedPage, page_text}
use Rattle.look_sources.specs.Looked.{IsLooked, IsLookedAt}
use Rattle.look_sources.specs.declared.runs.Run.{Run}
use Rattle.look_sources.specs.declared.shown.Shown.{Shown}
use Rattle.look_pages.specs.declared.drafts.TheConstants.{MOST_DRAWN_HIGH, MOST_DRAWN_LOW, MOST_ROWS}
use Rattle.look_words.specs.declared.page_words.PageWanted.{PageWanted}
use Rattle.np_on_sites.specs.ByInfrastructure.{lift_by}

-- the event of a step, as a line of a history
abbrev pub line_of : Step → List ℕ
line_of step = event_line First step.event

-- A level of a run on a page: each event has just one row in the table, in the order of the run, up to the most rows that a table has;
-- and the picture is that of the first events, at most so many.
pub record ShowsSteps (most : ℕ) (steps : List Step) (view : View) : Type 0 where
  pub rows : map (λ (row : Row). row.event) view.rows ≡ map line_of (take MOST_ROWS steps)
  pub picture : IsPicture (take most steps) view.picture

-- The text is a page of a source with both levels of a run: the bytes of its lines, with a line feed between two, are those of the
-- source; it shows both levels; it is the text of all that, with its styles and its script, and it is formed.
pub record IsPageOfSteps (source : List ℕ) (high low : List Step) (text : List ℕ) : Type 0 where
  pub page : Page
  pub lines : source_of page.lines ≡ source
  pub above : ShowsSteps MOST_DRAWN_HIGH high page.high
  pub below : ShowsSteps MOST_DRAWN_LOW low page.low
  pub written : text ≡ page_text page STYLE.now PICTURES.now SCRIPT.now
  pub formed : IsFormedPage text

-- the same of the events of both levels
pub record IsPageOf (source : List ℕ) (high low : List Event) (text : List ℕ) : Type 0 where
  pub highs : List Step
  pub lows : List Step
  pub of_high : map (λ (step : Step). step.event) highs ≡ high
  pub of_low : map (λ (step : Step). step.event) lows ≡ low
  pub shows : IsPageOfSteps source highs lows text

-- what is shown is the page of a source with the events of the run that is looked at, and with those of the source that are read off them
pub record IsShownOf (source : List ℕ) (wanted : PageWanted) (history : Option Run) (low : LowProgram) (shown : Shown) : Type 0 where
  pub run : Run
  pub looked : IsLookedAt history low wanted.budget wanted.seed run
  pub page : IsPageOf source (lift_by wanted.infrastructure run.events) run.events shown.text

-- the same of the history that is named
pub record IsShownWith (source : List ℕ) (wanted : PageWanted) (shown : Shown) : Type 0 where
  pub run : Run
  pub looked : IsLooked wanted.history wanted.infrastructure wanted.budget wanted.seed run
  pub page : IsPageOf source (lift_by wanted.infrastructure run.events) run.events shown.text

-- and of a source that np accepts
pub record IsShownPage (wanted : PageWanted) (shown : Shown) : Type 0 where
  pub source : List ℕ
  pub accepted : Accepted Stage.program source
  pub is : IsShownWith source wanted shown
