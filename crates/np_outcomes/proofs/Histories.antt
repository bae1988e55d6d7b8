-- What a refusal says of a history that is told, and what is made of one.
use Rattle.std.proofs.Common.{◌≡◌, ℕ, ◌≤◌, ◌<◌, ◌⊎◌, List, length, Option, Some, inl, inr, subst, arith, ◌-◌, ap}
use Rattle.std.specs.Prelude.{slice_get}
use Rattle.std.proofs.lemmas.Option.{slice_get_within}
use Rattle.np_syntax.proofs.Options.{there-is}
use Rattle.np_syntax.specs.declared.limits.TheConstants.{LONGEST_SOURCE}
use Rattle.np_syntax.specs.declared.event.Event.{Event}
use Rattle.np_syntax.specs.declared.program.LowProgram.{LowProgram}
use Rattle.np_syntax.specs.declared.value.Value.{Value}
use Rattle.np_calculus.specs.Reductions.{run}
use Rattle.np_calculus.specs.Starts.{start_low}
use Rattle.np_words.specs.declared.modes.Infrastructure.{Infrastructure}
use Rattle.np_words.specs.declared.planning.Plan.{Plan}
use Rattle.np_words.specs.declared.planning.View.{View}
use Rattle.np_words.specs.declared.planning.View.TheVariants as views
use Rattle.np_sources.specs.declared.job.MadeRun.{MadeRun}
use Rattle.np_verdict.specs.Lines.{status_of}
use Rattle.np_verdict.specs.declared.refusal.Refusal.{Refusal}
use Rattle.np_verdict.specs.declared.refusal.Refusal.TheVariants.{HistoryTooLong, TooManyEvents}
use Rattle.np_histories.specs.Histories.{HasEvents, HasRun, Lacks, Replays as Replayed}
use Rattle.np_histories.specs.declared.limits.TheConstants.{LONGEST_HISTORY}
use Rattle.np_histories.specs.Laws as history_laws
use Rattle.np_sources.specs.Reaches.{CannotGoOn, Reach, IsLowOf}
use Rattle.np_sources.specs.declared.sites.Shown.{Shown}
use Rattle.np_on_sites.specs.declared.record.Record.{Record}
use Rattle.np_sources.specs.Laws as source_laws
use Rattle.np_modes.specs.Readings.{IsUnread}
use Rattle.np_modes.specs.Causes.{Does, HasMade, IsFit, IsLowered, IsUnfit, OfResume, RefusesHistory, RefusesRun, RefusesSaved, RefusesPlan, Stands}
use Rattle.np_run.specs.Answers.{Call}
use Rattle.np_outcomes.specs.Laws.{FaultyHistory, Follows, IsTold, Purpose, ReadsHistory}
use Rattle.np_outcomes.proofs.Outcomes.{one, refused_plan, told, same_text}
use Rattle.np_outcomes.proofs.Sources.{source_says, says_faulty, unfit_status}

-- ---- one refusal, or none

abbrev pub AcceptedHistory : Purpose → List ℕ → Type 0
AcceptedHistory Purpose.events bytes = HasEvents bytes
AcceptedHistory (Purpose.replay low view) bytes = HasRun low view bytes
AcceptedHistory (Purpose.resume low budget) bytes = IsFit budget low bytes

module _ (sources : source_laws.HaveOneAnswer) (histories : history_laws.HaveOneAnswer) where
  -- what a history can be gone on from is a run
  fits : (budget : ℕ) (low : LowProgram) (bytes : List ℕ) → IsFit budget low bytes → HasRun low views.Said bytes
  fits budget low bytes a = record { events = a.events; read = a.history; last = a.last; reaches = a.reaches; has = tt }

  fit_not_unfit : (budget : ℕ) (low : LowProgram) (bytes : List ℕ) (refusal : Refusal) → IsFit budget low bytes → IsUnfit budget low bytes refusal → ⊥
  fit_not_unfit budget low bytes refusal a (inl f) = histories.run_not_both low views.Said bytes refusal (fits budget low bytes a) f
  fit_not_unfit budget low bytes refusal a (inr f) =
      sources.goes_on budget low a.events refusal a.can
      (subst (λ (es : List Event). CannotGoOn budget low es refusal) (histories.same_events bytes f.events a.events f.history a.history) f.cannot)

  unfit_once : (budget : ℕ) (low : LowProgram) (bytes : List ℕ) (a b : Refusal) → IsUnfit budget low bytes a → IsUnfit budget low bytes b → a ≡ b
  unfit_once budget low bytes a b (inl f) (inl g) = histories.same_run_fault low views.Said bytes a b f g
  unfit_once budget low bytes a b (inl f) (inr g) =
      absurd (histories.run_not_both low views.Said bytes a (record { events = g.events; read = g.history; last = g.last; reaches = g.reaches; has = tt }) f)
  unfit_once budget low bytes a b (inr f) (inl g) =
      absurd (histories.run_not_both low views.Said bytes b (record { events = f.events; read = f.history; last = f.last; reaches = f.reaches; has = tt }) g)
  unfit_once budget low bytes a b (inr f) (inr g) =
      sources.same_stop budget low g.events a b
      (subst (λ (es : List Event). CannotGoOn budget low es a) (histories.same_events bytes f.events g.events f.history g.history) f.cannot) g.cannot

  pub not_both : (purpose : Purpose) (bytes : List ℕ) (refusal : Refusal) → AcceptedHistory purpose bytes → FaultyHistory purpose bytes refusal → ⊥
  not_both Purpose.events bytes refusal a f = histories.not_both bytes refusal a f
  not_both (Purpose.replay low view) bytes refusal a f = histories.run_not_both low view bytes refusal a f
  not_both (Purpose.resume low budget) bytes refusal a f = fit_not_unfit budget low bytes refusal a f

  pub same_fault : (purpose : Purpose) (bytes : List ℕ) (a b : Refusal) → FaultyHistory purpose bytes a → FaultyHistory purpose bytes b → a ≡ b
  same_fault Purpose.events bytes a b f g = histories.same_fault bytes a b f g
  same_fault (Purpose.replay low view) bytes a b f g = histories.same_run_fault low view bytes a b f g
  same_fault (Purpose.resume low budget) bytes a b f g = unfit_once budget low bytes a b f g

  pub fault_status : (purpose : Purpose) (bytes : List ℕ) (refusal : Refusal) → FaultyHistory purpose bytes refusal → (refusal ≡ TooManyEvents) ⊎ (status_of refusal ≡ 7)
  fault_status Purpose.events bytes refusal f = inr (histories.status bytes refusal f)
  fault_status (Purpose.replay low view) bytes refusal f = inr (histories.run_status low view bytes refusal f)
  fault_status (Purpose.resume low budget) bytes refusal f = unfit_status sources histories budget low bytes refusal f

lacking_not_long : (low : LowProgram) (view : View) (events : List Event) → Lacks view low events HistoryTooLong → ⊥
lacking_not_long low views.Said events h = h
lacking_not_long low (views.Past line) events h = let is = h.is in cc

pub not_long : (purpose : Purpose) (bytes : List ℕ) → FaultyHistory purpose bytes HistoryTooLong → ⊥
not_long Purpose.events bytes f = let is = f.is in cc
not_long (Purpose.replay low view) bytes (inl f) = let is = f.is in cc
not_long (Purpose.replay low view) bytes (inr (inl f)) = let is = f.stops.is in cc
not_long (Purpose.replay low view) bytes (inr (inr f)) = lacking_not_long low view f.events f.lacks
not_long (Purpose.resume low budget) bytes (inl (inl f)) = let is = f.is in cc
not_long (Purpose.resume low budget) bytes (inl (inr (inl f))) = let is = f.stops.is in cc
not_long (Purpose.resume low budget) bytes (inl (inr (inr f))) = lacking_not_long low views.Said f.events f.lacks
not_long (Purpose.resume low budget) bytes (inr f) = stop_not_long budget low f.events f.cannot
  where
    stop_not_long : (budget : ℕ) (low : LowProgram) (events : List Event) → CannotGoOn budget low events HistoryTooLong → ⊥
    stop_not_long budget low events (inl h) = let is = h.is in cc
    stop_not_long budget low events (inr (inl h)) = let is = h.is in cc
    stop_not_long budget low events (inr (inr h)) = let is = h.is in cc

-- ---- what a refusal says

abbrev pub SaysHistory : Purpose → List ℕ → Refusal → Type 0
SaysHistory purpose bytes refusal = ((refusal ≡ HistoryTooLong) × (LONGEST_HISTORY < length bytes)) ⊎ ((length bytes ≤ LONGEST_HISTORY) × FaultyHistory purpose bytes refusal)

unread_says : (call : Call) (history : List ℕ) (purpose : Purpose) (bytes : List ℕ) (refusal : Refusal) → IsTold call history bytes
    → IsUnread call.texts history LONGEST_HISTORY HistoryTooLong refusal → SaysHistory purpose bytes refusal
unread_says call history purpose bytes refusal t (inl f) = absurd (t.whole f.1.rose)
unread_says call history purpose bytes refusal t (inr l) = inl (l.0, told call history bytes (λ b. LONGEST_HISTORY < length b) t l.1.more)

pub history_says : (call : Call) (history bytes : List ℕ) (refusal : Refusal) → IsTold call history bytes → RefusesHistory call.texts history refusal
    → SaysHistory Purpose.events bytes refusal
history_says call history bytes refusal t (inl u) = unread_says call history Purpose.events bytes refusal t u
history_says call history bytes refusal t (inr s) =
    inr (subst (λ (b : List ℕ). (length b ≤ LONGEST_HISTORY) × FaultyHistory Purpose.events b refusal) (same_text call history bytes s.bytes LONGEST_HISTORY t s.read.text)
    (s.read.text.short, s.faulty))

pub run_says : (call : Call) (history : List ℕ) (low : LowProgram) (view : View) (bytes : List ℕ) (refusal : Refusal) → IsTold call history bytes
    → RefusesRun call.texts history low view refusal → SaysHistory (Purpose.replay low view) bytes refusal
run_says call history low view bytes refusal t (inl u) = unread_says call history (Purpose.replay low view) bytes refusal t u
run_says call history low view bytes refusal t (inr s) =
    inr (subst (λ (b : List ℕ). (length b ≤ LONGEST_HISTORY) × FaultyHistory (Purpose.replay low view) b refusal) (same_text call history bytes s.bytes LONGEST_HISTORY t s.read.text)
    (s.read.text.short, s.faulty))

pub saved_says : (call : Call) (saved : List ℕ) (low : LowProgram) (budget : ℕ) (bytes : List ℕ) (refusal : Refusal) → IsTold call saved bytes
    → RefusesSaved call.texts saved low budget refusal → SaysHistory (Purpose.resume low budget) bytes refusal
saved_says call saved low budget bytes refusal t (inl u) = unread_says call saved (Purpose.resume low budget) bytes refusal t u
saved_says call saved low budget bytes refusal t (inr s) =
    inr (subst (λ (b : List ℕ). (length b ≤ LONGEST_HISTORY) × FaultyHistory (Purpose.resume low budget) b refusal) (same_text call saved bytes s.bytes LONGEST_HISTORY t s.read.text)
    (s.read.text.short, s.unfit))

pub says_faulty_history : (purpose : Purpose) (bytes : List ℕ) (refusal : Refusal) → length bytes ≤ LONGEST_HISTORY → SaysHistory purpose bytes refusal
    → FaultyHistory purpose bytes refusal
says_faulty_history purpose bytes refusal short (inl s) = let long = s.1 in absurd (omega arith)
says_faulty_history purpose bytes refusal short (inr s) = s.1

-- ---- the source before it

module _ (sources : source_laws.HaveOneAnswer) where
  -- a source that is told has one low program of each infrastructure
  pub same_low : (infra : Infrastructure) (call : Call) (source bytes : List ℕ) (low other : LowProgram) → IsTold call source bytes → IsLowOf infra bytes low
      → IsLowered call.texts source infra other → other ≡ low
  same_low infra call source bytes low other t is l =
      let same : l.bytes ≡ bytes = same_text call source bytes l.bytes LONGEST_SOURCE t l.read in
      sources.same_low infra bytes other low (subst (λ (b : List ℕ). IsLowOf infra b other) same l.lowers) is

  by_plan : (call : Call) (asked : Plan) (history : List ℕ) (purpose : Purpose) (bytes : List ℕ) (refusal : Refusal) → ReadsHistory call asked history purpose
      → IsTold call history bytes → RefusesPlan call.texts asked refusal → SaysHistory purpose bytes refusal
  by_plan call asked history purpose bytes refusal (ReadsHistory.alone h) t r = history_says call h bytes refusal t r
  by_plan call asked history purpose bytes refusal (ReadsHistory.replayed source h b infra view one_low told_source short lowered) t (inl r) =
      absurd (sources.not_both (Reach.low infra) b refusal (one_low, lowered)
      (says_faulty (Reach.low infra) b refusal short (source_says call source (Reach.low infra) b refusal told_source r)))
  by_plan call asked history purpose bytes refusal (ReadsHistory.replayed source h b infra view one_low told_source short lowered) t (inr r) =
      subst (λ (q : LowProgram). SaysHistory (Purpose.replay q view) bytes refusal) (same_low infra call source b one_low r.low told_source lowered r.lowered)
      (run_says call h r.low view bytes refusal t r.run)
  by_plan call asked history purpose bytes refusal (ReadsHistory.resumed source h b budget shows high serial links infra one_low told_source short lowered) t (inl r) =
      absurd (sources.not_both (Reach.low infra) b refusal (one_low, lowered)
      (says_faulty (Reach.low infra) b refusal short (source_says call source (Reach.low infra) b refusal told_source r)))
  by_plan call asked history purpose bytes refusal (ReadsHistory.resumed source h b budget shows high serial links infra one_low told_source short lowered) t (inr r) =
      subst (λ (q : LowProgram). SaysHistory (Purpose.resume q budget) bytes refusal) (same_low infra call source b one_low r.low told_source lowered r.lowered)
      (saved_says call h r.low budget bytes refusal t r.run)

  pub stands_says : (call : Call) (purpose : Purpose) (bytes : List ℕ) (refusal : Refusal) → Follows call purpose bytes → Stands call.words call.texts refusal
      → SaysHistory purpose bytes refusal
  stands_says call purpose bytes refusal f s =
      by_plan call f.asked f.history purpose bytes refusal f.reads f.told (refused_plan call f.asked refusal f.planned s)

-- ---- what is made

abbrev IsTaken : Purpose → List ℕ → Type 0
IsTaken purpose bytes = (length bytes ≤ LONGEST_HISTORY) × AcceptedHistory purpose bytes

-- a run that was shown so has what was to be shown
has_run : (infra : Infrastructure) (low : LowProgram) (view : View) (bytes text : List ℕ) → Replayed infra low view bytes text → HasRun low view bytes
has_run infra low views.Said bytes text r = record { events = r.events; read = r.read; last = r.shows.last; reaches = r.shows.reaches; has = tt }
has_run infra low (views.Past line) bytes text r =
    let printed = r.shows.its.printed in
    record { events = r.events; read = r.read; last = printed.last; reaches = printed.reaches; has = has_line r.shows.its.said line r.shows.item printed.last.said r.shows.its.some r.shows.its.its printed.is }
  where
    has_line : (said : List (ℕ × Value)) (line : ℕ) (item : ℕ × Value) (all : List (ℕ × Value)) → 1 ≤ line → slice_get said (line - 1) ≡ Some item → all ≡ said
        → line ≤ length all
    has_line said line item all some its is = let within = slice_get_within said (line - 1) item its in let same = ap length is in omega arith

-- a run that went on from a history could go on from it
is_fit : (call : Call) (source saved : List ℕ) (infra : Infrastructure) (budget : ℕ) (how : Shown) (kept : Option Record) (high : Option MadeRun) (text : List ℕ)
    (d : OfResume call.texts source saved infra budget how kept high text) → IsFit budget d.run.goes_on.keeps.keeps.promises.low d.run.bytes
is_fit call source saved infra budget how kept high text d =
    let from = d.run.goes_on in
    let runs = there-is (run (start_low from.keeps.keeps.promises.low) from.events) from.keeps.run in
    record { events = from.events; history = from.history; last = runs.0; reaches = runs.1; can = from.keeps.can }

module _ (sources : source_laws.HaveOneAnswer) where
  made_plan : (call : Call) (asked : Plan) (history : List ℕ) (purpose : Purpose) (bytes : List ℕ) (kept : Option Record) (high : Option MadeRun) (text : List ℕ)
      → ReadsHistory call asked history purpose → IsTold call history bytes → Does call.texts asked kept high text → IsTaken purpose bytes
  made_plan call asked history purpose bytes kept high text (ReadsHistory.alone h) t d =
      subst (λ (b : List ℕ). IsTaken Purpose.events b) (same_text call h bytes d.bytes LONGEST_HISTORY t d.read.text)
      (d.read.text.short, record { events = d.upgrades.events; read = d.upgrades.read })
  made_plan call asked history purpose bytes kept high text (ReadsHistory.replayed source h b infra view one_low told_source short lowered) t d =
      let run : HasRun d.low view d.run.bytes = has_run infra d.low view d.run.bytes text d.run.replays in
      let taken : IsTaken (Purpose.replay d.low view) bytes = subst (λ (b : List ℕ). IsTaken (Purpose.replay d.low view) b) (same_text call h bytes d.run.bytes LONGEST_HISTORY t d.run.read.text)
      (d.run.read.text.short, run) in
      subst (λ (q : LowProgram). IsTaken (Purpose.replay q view) bytes) (same_low sources infra call source b one_low d.low told_source lowered d.lowered) taken
  made_plan call asked history purpose bytes kept high text (ReadsHistory.resumed source h b budget shows in_high serial links infra one_low told_source short lowered) t d =
      let promises = d.run.goes_on.keeps.keeps.promises in
      let taken : IsTaken (Purpose.resume promises.low budget) bytes = subst (λ (x : List ℕ). IsTaken (Purpose.resume promises.low budget) x) (same_text call h bytes d.run.bytes LONGEST_HISTORY t d.run.read.text)
      (d.run.read.text.short, is_fit call source h infra budget _ kept high text d) in
      let typed : IsLowOf infra b promises.low =
      subst (λ (x : List ℕ). IsLowOf infra x promises.low) (same_text call source b d.bytes LONGEST_SOURCE told_source d.read) promises.lowered in
      subst (λ (q : LowProgram). IsTaken (Purpose.resume q budget) bytes) (sources.same_low infra b promises.low one_low typed lowered) taken

  -- what is made is made of an accepted history
  pub made_accepts : (call : Call) (purpose : Purpose) (bytes : List ℕ) (kept : Option Record) (high : Option MadeRun) (text : List ℕ) → Follows call purpose bytes
      → HasMade call.words call.texts kept high text → (length bytes ≤ LONGEST_HISTORY) × AcceptedHistory purpose bytes
  made_accepts call purpose bytes kept high text f h =
      made_plan call f.asked f.history purpose bytes kept high text f.reads f.told
      (subst (λ (p : Plan). Does call.texts p kept high text) (one h.asked f.asked _ h.planned f.planned) h.does)
