-- What a refusal says of a source that is told, and what is made of one.
use Rattle.std.proofs.Common.{◌≡◌, ℕ, ◌≤◌, ◌<◌, ◌⊎◌, List, length, Option, inl, inr, subst, ap, arith}
use Rattle.np_syntax.specs.declared.limits.TheConstants.{LONGEST_SOURCE}
use Rattle.np_syntax.specs.declared.program.LowProgram.{LowProgram}
use Rattle.np_words.specs.declared.planning.Plan.{Plan}
use Rattle.np_words.specs.declared.planning.View.{View}
use Rattle.np_words.specs.declared.planning.View.TheVariants as views
use Rattle.np_words.specs.declared.planning.Task.{Task}
use Rattle.np_words.specs.declared.planning.Task.TheVariants as task
use Rattle.np_sources.specs.declared.job.MadeRun.{MadeRun}
use Rattle.np_verdict.specs.Lines.{status_of}
use Rattle.np_verdict.specs.declared.refusal.Refusal.{Refusal}
use Rattle.np_verdict.specs.declared.refusal.Refusal.TheVariants.{ReadFault, TooLong, TooManyEvents}
use Rattle.np_histories.specs.Laws as history_laws
use Rattle.np_sources.specs.Laws as source_laws
use Rattle.np_sources.specs.Makes.{DoesTask}
use Rattle.np_sources.specs.Reaches.{Reach, TakenTo, FaultyTo, reach_of}
use Rattle.np_on_sites.specs.declared.record.Record.{Record}
use Rattle.np_modes.specs.Readings.{IsUnread}
use Rattle.np_modes.specs.Causes.{Does, HasMade, IsFaultySource, IsUnfit, RefusesSource, RefusesRun, RefusesSaved, RefusesPlan, Stands}
use Rattle.np_run.specs.Answers.{Call}
use Rattle.np_outcomes.specs.Laws.{FailsWith, HasSource, IsTold, Reads, ReadsBoth, Replays}
use Rattle.np_outcomes.proofs.Outcomes.{one, refused_plan, told, same_text}

-- ---- what a refusal says

by_cause : (call : Call) (file : List ℕ) (reach : Reach) (bytes : List ℕ) (refusal : Refusal) → IsTold call file bytes
    → IsUnread call.texts file LONGEST_SOURCE TooLong refusal ⊎ IsFaultySource call.texts file reach refusal → FailsWith reach bytes refusal
by_cause call file reach bytes refusal t (inl (inl f)) = absurd (t.whole f.1.rose)
by_cause call file reach bytes refusal t (inl (inr l)) = inl (l.0, told call file bytes (λ b. LONGEST_SOURCE < length b) t l.1.more)
by_cause call file reach bytes refusal t (inr s) =
    inr (subst (λ (b : List ℕ). (length b ≤ LONGEST_SOURCE) × FaultyTo reach b refusal) (same_text call file bytes s.bytes LONGEST_SOURCE t s.read.text)
    (s.read.text.short, s.faulty))

pub source_says : (call : Call) (file : List ℕ) (reach : Reach) (bytes : List ℕ) (refusal : Refusal) → IsTold call file bytes
    → RefusesSource call.texts file reach refusal → FailsWith reach bytes refusal
source_says call file reach bytes refusal t r = by_cause call file reach bytes refusal t r.cause

-- what is said of a source within the limit is what is wrong with it
pub says_faulty : (reach : Reach) (bytes : List ℕ) (refusal : Refusal) → length bytes ≤ LONGEST_SOURCE → FailsWith reach bytes refusal → FaultyTo reach bytes refusal
says_faulty reach bytes refusal short (inl s) = let long = s.1 in absurd (omega arith)
says_faulty reach bytes refusal short (inr s) = s.1

-- a refusal that comes once the source is accepted
abbrev pub IsOfHistory : Refusal → Type 0
IsOfHistory refusal = (refusal ≡ ReadFault) ⊎ (status_of refusal ≡ 7) ⊎ (refusal ≡ TooManyEvents)

module _ (histories : history_laws.HaveOneAnswer) where
  pub of_history : (call : Call) (history : List ℕ) (low : LowProgram) (view : View) (refusal : Refusal) → RefusesRun call.texts history low view refusal → IsOfHistory refusal
  of_history call history low view refusal (inl (inl f)) = inl f.0
  of_history call history low view refusal (inl (inr l)) = inr (inl (ap status_of l.0))
  of_history call history low view refusal (inr s) = inr (inl (histories.run_status low view s.bytes refusal s.faulty))

module _ (sources : source_laws.HaveOneAnswer) (histories : history_laws.HaveOneAnswer) where
  -- what is wrong with a history from which a run is to go on
  pub unfit_status : (budget : ℕ) (low : LowProgram) (bytes : List ℕ) (refusal : Refusal) → IsUnfit budget low bytes refusal → (refusal ≡ TooManyEvents) ⊎ (status_of refusal ≡ 7)
  unfit_status budget low bytes refusal (inl f) = inr (histories.run_status low views.Said bytes refusal f)
  unfit_status budget low bytes refusal (inr f) = sources.stop_status budget low f.events refusal f.cannot

  of_saved : (call : Call) (saved : List ℕ) (low : LowProgram) (budget : ℕ) (refusal : Refusal) → RefusesSaved call.texts saved low budget refusal → IsOfHistory refusal
  of_saved call saved low budget refusal (inl (inl f)) = inl f.0
  of_saved call saved low budget refusal (inl (inr l)) = inr (inl (ap status_of l.0))
  of_saved call saved low budget refusal (inr s) = elim (unfit_status budget low s.bytes refusal s.unfit) [ inl many ↦ inr (inr many) | inr seven ↦ inr (inl seven) ]

-- a refusal speaks of the source, or of the history behind it
pub data Cause (asked : Plan) (reach : Reach) (bytes : List ℕ) (refusal : Refusal) : Type 0 where
  of_source : FailsWith reach bytes refusal → Cause asked reach bytes refusal
  of_later : Replays asked bytes → length bytes ≤ LONGEST_SOURCE → TakenTo reach bytes → IsOfHistory refusal → Cause asked reach bytes refusal

module _ (sources : source_laws.HaveOneAnswer) (histories : history_laws.HaveOneAnswer) where
  by_plan : (call : Call) (asked : Plan) (reach : Reach) (bytes : List ℕ) (refusal : Refusal) → HasSource call asked reach bytes
      → RefusesPlan call.texts asked refusal → Cause asked reach bytes refusal
  by_plan call asked reach bytes refusal (HasSource.alone f b task t) r = Cause.of_source (source_says call f (reach_of task) b refusal t r)
  by_plan call asked reach bytes refusal (HasSource.replayed source history b infra view t) (inl r) = Cause.of_source (source_says call source (Reach.low infra) b refusal t r)
  by_plan call asked reach bytes refusal (HasSource.replayed source history b infra view t) (inr r) =
      let same : r.lowered.bytes ≡ b = same_text call source b r.lowered.bytes LONGEST_SOURCE t r.lowered.read in
      let accepted = subst (λ (x : List ℕ). TakenTo (Reach.low infra) x) same (r.low, r.lowered.lowers) in
      Cause.of_later (record { both = ReadsBoth.replayed source history infra view; infrastructure = infra; low = accepted.0; lowered = accepted.1 })
      (subst (λ (x : List ℕ). length x ≤ LONGEST_SOURCE) same r.lowered.read.short) accepted (of_history histories call history r.low view refusal r.run)
  by_plan call asked reach bytes refusal (HasSource.resumed source saved b budget history high serial links infra t) (inl r) =
      Cause.of_source (source_says call source (Reach.low infra) b refusal t r)
  by_plan call asked reach bytes refusal (HasSource.resumed source saved b budget history high serial links infra t) (inr r) =
      let same : r.lowered.bytes ≡ b = same_text call source b r.lowered.bytes LONGEST_SOURCE t r.lowered.read in
      let accepted = subst (λ (x : List ℕ). TakenTo (Reach.low infra) x) same (r.low, r.lowered.lowers) in
      Cause.of_later (record { both = ReadsBoth.resumed source saved budget history high serial links infra; infrastructure = infra; low = accepted.0; lowered = accepted.1 })
      (subst (λ (x : List ℕ). length x ≤ LONGEST_SOURCE) same r.lowered.read.short) accepted (of_saved sources histories call saved r.low budget refusal r.run)
  by_plan call asked reach bytes refusal (HasSource.made agents serial links infra) r = Cause.of_source (inr (r.short, r.faulty))

  pub stands_cause : (call : Call) (asked : Plan) (reach : Reach) (bytes : List ℕ) (refusal : Refusal) → Reads call asked reach bytes
      → Stands call.words call.texts refusal → Cause asked reach bytes refusal
  stands_cause call asked reach bytes refusal r s =
      by_plan call asked reach bytes refusal r.source (refused_plan call asked refusal r.planned s)

-- ---- what is made

pub does_accept : (task : Task) (bytes : List ℕ) (kept : Option Record) (high : Option MadeRun) (text : List ℕ) → DoesTask task bytes kept high text
    → TakenTo (reach_of task) bytes
does_accept (task.Run budget history high serial links infrastructure) bytes kept made text d =
    (d.free, record { low = d.promises.low; lowered = d.promises.lowered; few = d.promises.few })
does_accept (task.High budget history) bytes kept made text d = (d.runs.free, (d.runs.program, d.runs.accepted))
does_accept task.Show bytes kept made text d = (d.tree, d.accepted)
does_accept task.Check bytes kept made text d = (d.program, d.accepted)
does_accept (task.Low infrastructure) bytes kept made text d = (d.low, d.lowered)

abbrev IsTaken : Reach → List ℕ → Type 0
IsTaken reach bytes = (length bytes ≤ LONGEST_SOURCE) × TakenTo reach bytes

made_plan : (call : Call) (asked : Plan) (reach : Reach) (bytes : List ℕ) (kept : Option Record) (high : Option MadeRun) (text : List ℕ)
    → HasSource call asked reach bytes → Does call.texts asked kept high text → IsTaken reach bytes
made_plan call asked reach bytes kept high text (HasSource.alone f b task t) d =
    subst (λ (x : List ℕ). IsTaken (reach_of task) x) (same_text call f b d.bytes LONGEST_SOURCE t d.read.text)
    (d.read.text.short, does_accept task d.bytes kept high text d.does)
made_plan call asked reach bytes kept high text (HasSource.replayed source history b infra view t) d =
    subst (λ (x : List ℕ). IsTaken (Reach.low infra) x) (same_text call source b d.lowered.bytes LONGEST_SOURCE t d.lowered.read)
    (d.lowered.read.short, (d.low, d.lowered.lowers))
made_plan call asked reach bytes kept high text (HasSource.resumed source saved b budget history shows serial links infra t) d =
    let promises = d.run.goes_on.keeps.keeps.promises in
    subst (λ (x : List ℕ). IsTaken (Reach.low infra) x) (same_text call source b d.bytes LONGEST_SOURCE t d.read) (d.read.short, (promises.low, promises.lowered))
made_plan call asked reach bytes kept high text (HasSource.made agents serial links infra) d =
    (d.short, record { low = d.does.promises.low; lowered = d.does.promises.lowered; few = d.does.promises.few })

-- what is made is made of an accepted source
pub made_accepts : (call : Call) (asked : Plan) (reach : Reach) (bytes : List ℕ) (kept : Option Record) (high : Option MadeRun) (text : List ℕ)
    → Reads call asked reach bytes → HasMade call.words call.texts kept high text → (length bytes ≤ LONGEST_SOURCE) × TakenTo reach bytes
made_accepts call asked reach bytes kept high text r h =
    made_plan call asked reach bytes kept high text r.source
    (subst (λ (p : Plan). Does call.texts p kept high text) (one h.asked asked _ h.planned r.planned) h.does)
