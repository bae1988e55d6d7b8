-- What is kept of a run on sites keeps what the headline promises.
use Rattle.std.proofs.Common.{◌≡◌, ℕ, List, Option, None, Some, sym, subst, ◌∙◌}
use Rattle.np_generate.specs.Generated.{generated}
use Rattle.np_syntax.specs.declared.program.Program.{Program}
use Rattle.np_sources.specs.declared.job.MadeRun.{MadeRun}
use Rattle.np_words.specs.Plans.{plan}
use Rattle.np_words.specs.declared.modes.Infrastructure.{Infrastructure}
use Rattle.np_words.specs.declared.planning.Plan.{Plan}
use Rattle.np_words.specs.declared.planning.Plan.TheVariants as plans
use Rattle.np_words.specs.declared.planning.Task.{Task}
use Rattle.np_words.specs.declared.planning.Task.TheVariants as task
use Rattle.np_on_sites.specs.declared.record.Record.{Record}
use Rattle.np_sources.specs.Kept.{KeepsPromises, load_report, run_report}
use Rattle.np_sources.specs.Makes.{in_two_steps}
use Rattle.np_sources.specs.declared.limits.TheConstants.{LOAD_BUDGET}
use Rattle.np_modes.specs.Causes.{Does, HasMade, OfSource, source_in, source_of}
use Rattle.np_modes.specs.Readings.{Reading}
use Rattle.np_run.specs.Headline.{AsksForRun, Headline}

module _ (words : List (List ℕ)) (texts : Reading) (kept : Record) where
  of_sites : (infrastructure : Infrastructure) (budget : ℕ) (report : Program → Record → List ℕ) (bytes : List ℕ) (o : Option Record) (made : Record) (text : List ℕ)
      → o ≡ Some kept → o ≡ Some made → AsksForRun words texts infrastructure budget report bytes → KeepsPromises infrastructure budget report bytes made text
      → Headline words texts bytes kept text
  of_sites infrastructure budget report bytes o made text is is_made asks k =
      let same : made ≡ kept = (let both : Some made ≡ Some kept = sym is_made ∙ is in cc) in
      subst (λ (r : Record). Headline words texts bytes r text) same (record {
        infrastructure = infrastructure;
        budget = budget;
        report = report;
        asks = asks;
        low = k.low;
        lowered = k.lowered;
        last = k.ran.last;
        runs = k.ran.reaches;
        stamped = k.ran.stamped;
        well = k.well;
        high = k.high;
        read_off = k.lifted;
        printed = k.same;
        written = k.written;
        paired = k.paired;
        placed = k.placed;
        ended = k.ended;
        handed = k.handed;
      })

  not_kept : {X : Type 0} (o : Option Record) → o ≡ Some kept → o ≡ None → X
  not_kept o some none = absurd cc

  of_task : (name : List ℕ) (asked : Task) (o : Option Record) (high : Option MadeRun) (text : List ℕ) → o ≡ Some kept → plan words ≡ Some (plans.Source name asked)
      → (d : OfSource texts name asked o high text) → Headline words texts d.bytes kept text
  of_task name (task.Run budget history high serial links infra) o made text is planned d =
      of_sites infra budget (run_report infra history high) d.bytes o d.does.made text is d.does.is_kept
      (AsksForRun.file name d.bytes budget history high serial links infra planned d.read) d.does.promises
  of_task name (task.High budget history) o made text is planned d = not_kept o is d.does.is_kept
  of_task name task.Show o made text is planned d = not_kept o is d.does.is_kept
  of_task name task.Check o made text is planned d = not_kept o is d.does.is_kept
  of_task name (task.Low infra) o made text is planned d = not_kept o is d.does.is_kept

  of_plan : (asked : Plan) (o : Option Record) (high : Option MadeRun) (text : List ℕ) → o ≡ Some kept → plan words ≡ Some asked
      → (d : Does texts asked o high text) → Headline words texts (source_in texts asked o high text d) kept text
  of_plan (plans.Source name asked) o high text is planned d = of_task name asked o high text is planned d
  of_plan (plans.Replay source history infra view) o high text is planned d = not_kept o is d.run.is_kept
  of_plan (plans.Resume name saved budget history shows serial links infra) o high text is planned d =
      let keeps = d.run.goes_on.keeps.keeps in
      of_sites infra budget (run_report infra history (in_two_steps shows)) d.bytes o keeps.made text is keeps.is_kept
      (AsksForRun.resumed name saved d.bytes budget history shows serial links infra planned d.read) keeps.promises
  of_plan (plans.Upgrade history) o high text is planned d = not_kept o is d.is_kept
  of_plan (plans.Generate agents) o high text is planned d = not_kept o is d.is_kept
  of_plan (plans.Load agents serial links infra) o high text is planned d =
      of_sites infra LOAD_BUDGET (load_report agents) (generated agents) o d.does.made text is d.does.is_kept (AsksForRun.loaded agents serial links infra planned)
      d.does.promises

pub headline : (words : List (List ℕ)) (texts : Reading) (o : Option Record) (high : Option MadeRun) (text : List ℕ) → (made : HasMade words texts o high text)
    → (kept : Record) → o ≡ Some kept → Headline words texts (source_of made) kept text
headline words texts o high text made kept is = of_plan words texts kept made.asked o high text is made.planned made.does
