-- A run of the low program of a source on its sites keeps what is promised.
use Rattle.std.proofs.Common.{IsErr, IsErrAnd, ◌≡◌, ◌≢◌, ℕ, inl, inr, List, Option, None, IsSome, Some, refl, Result, Ok, Err, IfOk, IfErr, sym, subst}
use Rattle.np_syntax.specs.declared.event.Event.{Event}
use Rattle.np_syntax.specs.declared.program.LowProgram.{LowProgram}
use Rattle.np_syntax.specs.declared.program.Program.{Program}
use Rattle.np_calculus.specs.Config.{Config}
use Rattle.np_calculus.specs.Reductions.{run}
use Rattle.np_calculus.specs.Starts.{start_high, start_low}
use Rattle.run_merge.specs.Merged.{past}
use Rattle.np_verdict.specs.Faults.{Faulty, IsWellTyped, Stage}
use Rattle.np_verdict.specs.declared.refusal.Refusal.{Refusal}
use Rattle.np_verdict.specs.declared.refusal.Refusal.TheVariants.{Memory}
use Rattle.np_verdict.proofs.Verdicts.{not_both, well_typed_once}
use Rattle.np_words.specs.declared.modes.HighText.{HighText}
use Rattle.np_words.specs.declared.modes.HighText.TheVariants.{Absent}
use Rattle.np_words.specs.declared.modes.Infrastructure.{Infrastructure}
use Rattle.run_save.specs.following.Following.{IsResumed}
use Rattle.np_on_sites.specs.ByInfrastructure.{lift_by}
use Rattle.np_on_sites.specs.SourceRuns.{SitesRunsAreSourceRuns}
use Rattle.np_on_sites.specs.declared.record.Record.{Record}
use Rattle.np_sources.specs.declared.job.Job.{Job}
use Rattle.np_sources.specs.declared.sites.Shown.{Shown}
use Rattle.np_sources.specs.Kept.{IsShownSo, KeepsPromises, merged}
use Rattle.np_sources.specs.Makes.{KeepsResumed, KeepsRun, KeepsSites, RunsOnSites, high_of, report_of}
use Rattle.np_sources.specs.Reaches.{Reach, CanGoOn, CannotRun, FaultyTo, IsFree, barred}

pub promises : SitesRunsAreSourceRuns → (infrastructure : Infrastructure) (budget : ℕ) (report : Program → Record → List ℕ) (bytes : List ℕ) (p : Program)
    (low : LowProgram) (kept : Record) (text : List ℕ) → IsWellTyped bytes p → RunsOnSites infrastructure budget p low kept → text ≡ report p kept
    → KeepsPromises infrastructure budget report bytes kept text
promises law infrastructure budget report bytes p low kept text typed r written =
    let compiled = r.compiled in
    let source = law infrastructure p low budget (past kept.histories) kept.end compiled.accepted compiled.is r.ran in
    record {
      low = low;
      lowered = record { program = p; accepted = typed; is = compiled.is; few = compiled.few };
      few = r.few;
      ran = r.ran;
      well = source.well;
      high = source.high;
      lifted = source.lifted;
      same = source.said;
      paired = source.paired;
      placed = source.placed;
      ended = source.rests;
      handed = source.handed;
      locks = λ is. source.locks is r.ran.last r.ran.reaches;
      written = written;
    }

-- what is read off a run on sites is a run of the source
pub read_off : SitesRunsAreSourceRuns → (infrastructure : Infrastructure) (budget : ℕ) (p : Program) (low : LowProgram) (kept : Record)
    → RunsOnSites infrastructure budget p low kept → IsSome (run (start_high p) (lift_by infrastructure (merged kept)))
read_off law infrastructure budget p low kept r =
    let source = law infrastructure p low budget (past kept.histories) kept.end r.compiled.accepted r.compiled.is r.ran in
    subst (λ (o : Option Config). IsSome o) (sym source.lifted) refl

-- what does not bar the program of a source bars no program of it
pub free_of : (high : HighText) (bytes : List ℕ) (p : Program) → IsWellTyped bytes p → barred high p ≡ None → IsFree high bytes
free_of high bytes p typed free q other = subst (λ (p : Program). barred high p ≡ None) (well_typed_once bytes p q typed other) free

-- what is kept of a run of a program is kept of its source
pub kept_of : SitesRunsAreSourceRuns → (infrastructure : Infrastructure) (budget : ℕ) (how : Shown) (bytes : List ℕ) (p : Program) → IsWellTyped bytes p
    → barred (high_of how) p ≡ None → (r : Result Job Refusal) → IfOk r (λ job. KeepsRun infrastructure budget how p job.kept job.high job.text)
    → IfOk r (λ job. KeepsSites infrastructure budget how bytes job.kept job.high job.text)
unfolding promises
kept_of law infrastructure budget how bytes p typed free (Ok job) k = record {
  made = k.made;
  promises = promises law infrastructure budget (report_of infrastructure how) bytes p k.low k.made job.text typed k.ran k.written;
  free = free_of (high_of how) bytes p typed free;
  shown = k.stepped;
  is_kept = k.is_kept;
  is_high = k.is_high;
}
kept_of law infrastructure budget how bytes p typed free (Err e) k = tt

-- ---- refusals

-- what `?` answers is what was refused
pub residual : {X : Type 0} (r : Result X Refusal) (e : Refusal) (P : Refusal → Type 0) → IsErr r × IsErrAnd r (λ x. x ≡ e) → P e → IfErr r P
residual (Ok x) e P h p = tt
residual (Err x) e P h p = subst P (sym h.1) p

cannot : (infrastructure : Infrastructure) (budget : ℕ) (high : HighText) (bytes : List ℕ) (p : Program) (e : Refusal) → IsWellTyped bytes p → barred high p ≡ None
    → CannotRun infrastructure budget p e → FaultyTo (Reach.shown high (Reach.sites infrastructure budget)) bytes e
cannot infrastructure budget high bytes p e typed free (inl many) = inr (free_of high bytes p typed free, inl (inr (record { program = p; accepted = typed; large = many })))
cannot infrastructure budget high bytes p e typed free (inr many) = inr (
  free_of high bytes p typed free,
  inr (record {
    low = _;
    lowered = record { program = p; accepted = typed; is = refl; few = many.few };
    many = many.many;
    is = many.is;
  }),
)

pub refused_of : (infrastructure : Infrastructure) (budget : ℕ) (high : HighText) (bytes : List ℕ) (p : Program) → IsWellTyped bytes p → barred high p ≡ None
    → (r : Result Job Refusal) → IfErr r (λ refusal. refusal ≢ Memory → CannotRun infrastructure budget p refusal)
    → IfErr r (λ refusal. refusal ≢ Memory → FaultyTo (Reach.shown high (Reach.sites infrastructure budget)) bytes refusal)
refused_of infrastructure budget high bytes p typed free (Ok job) h = tt
refused_of infrastructure budget high bytes p typed free (Err e) h = λ some. cannot infrastructure budget high bytes p e typed free (h some)

-- what is refused before its low program is asked for is refused
first : (infrastructure : Infrastructure) (budget : ℕ) (high : HighText) (bytes : List ℕ) (e : Refusal) → FaultyTo (Reach.shown high Reach.program) bytes e
    → FaultyTo (Reach.shown high (Reach.sites infrastructure budget)) bytes e
first infrastructure budget high bytes e (inl f) = inl f
first infrastructure budget high bytes e (inr f) = inr (f.0, inl (inl f.1))

pub refused_first : {X : Type 0} (infrastructure : Infrastructure) (budget : ℕ) (told high : HighText) (bytes : List ℕ) → told ≡ high → (r : Result X Refusal)
    → IfErr r (λ refusal. refusal ≢ Memory → FaultyTo (Reach.shown told Reach.program) bytes refusal)
    → IfErr r (λ refusal. refusal ≢ Memory → FaultyTo (Reach.shown high (Reach.sites infrastructure budget)) bytes refusal)
refused_first infrastructure budget told high bytes is (Ok x) h = tt
refused_first infrastructure budget told high bytes is (Err e) h =
    λ some. first infrastructure budget high bytes e (subst (λ (t : HighText). FaultyTo (Reach.shown t Reach.program) bytes e) is (h some))

pub free_for : (told high : HighText) → told ≡ high → (r : Result Program Refusal) → IfOk r (λ p. barred told p ≡ None) → IfOk r (λ p. barred high p ≡ None)
free_for told high is (Ok p) free = subst (λ (t : HighText). barred t p ≡ None) is free
free_for told high is (Err e) free = tt

-- ---- sources of which no high text is shown

-- a program that is not well typed is barred by nothing
pub not_typed : (high : HighText) (bytes : List ℕ) (e : Refusal) → Faulty Stage.program bytes e → FaultyTo (Reach.shown high Reach.program) bytes e
not_typed high bytes e f = inr (λ p typed. absurd (not_both Stage.program bytes e (p, typed) f), f)

absent : (reach : Reach) (bytes : List ℕ) (e : Refusal) → FaultyTo (Reach.shown Absent reach) bytes e → FaultyTo reach bytes e
absent reach bytes e (inl f) = let none : None ≡ Some f.at = f.bars in absurd cc
absent reach bytes e (inr f) = f.1

pub refused_absent : {X : Type 0} (reach : Reach) (bytes : List ℕ) (r : Result X Refusal) → IfErr r (λ refusal. refusal ≢ Memory → FaultyTo (Reach.shown Absent reach) bytes refusal)
    → IfErr r (λ refusal. refusal ≢ Memory → FaultyTo reach bytes refusal)
refused_absent reach bytes (Ok x) h = tt
refused_absent reach bytes (Err e) h = λ some. absent reach bytes e (h some)

-- ---- a run that is kept, with its report

module _ (infrastructure : Infrastructure) (how : Shown) (p : Program) (made : Record) where
  pub keeps_run : (budget : ℕ) (low : LowProgram) → RunsOnSites infrastructure budget p low made → (r : Result Job Refusal) → IfOk r (λ job. job.kept ≡ Some made)
      → IfOk r (λ job. job.high ≡ None) → IfOk r (λ job. job.text ≡ report_of infrastructure how p made)
      → IfOk r (λ _. IsShownSo (high_of how) p (lift_by infrastructure (merged made)))
      → IfOk r (λ job. KeepsRun infrastructure budget how p job.kept job.high job.text)
  keeps_run budget low ran (Ok job) kept high text shown = record { low = low; made = made; ran = ran; written = text; stepped = shown; is_kept = kept; is_high = high }
  keeps_run budget low ran (Err e) kept high text shown = tt

  -- so it is with one that goes on from saved events
  pub keeps_resumed : SitesRunsAreSourceRuns → (budget : ℕ) (low : LowProgram) (bytes : List ℕ) (events : List Event) → IsWellTyped bytes p → barred (high_of how) p ≡ None
      → RunsOnSites infrastructure budget p low made → IsSome (run (start_low low) events) → CanGoOn budget low events → IsResumed events (past made.histories)
      → (r : Result Job Refusal) → IfOk r (λ job. job.kept ≡ Some made) → IfOk r (λ job. job.high ≡ None)
      → IfOk r (λ job. job.text ≡ report_of infrastructure how p made) → IfOk r (λ _. IsShownSo (high_of how) p (lift_by infrastructure (merged made)))
      → IfOk r (λ job. KeepsResumed infrastructure budget how bytes events job.kept job.high job.text)
  unfolding promises
  keeps_resumed law budget low bytes events typed free ran runs can resumed (Ok job) kept high text shown = record {
    keeps = record {
      made = made;
      promises = promises law infrastructure budget (report_of infrastructure how) bytes p low made job.text typed ran text;
      free = free_of (high_of how) bytes p typed free;
      shown = shown;
      is_kept = kept;
      is_high = high;
    };
    run = runs;
    can = can;
    resumed = resumed;
  }
  keeps_resumed law budget low bytes events typed free ran runs can resumed (Err e) kept high text shown = tt

-- want of memory is no other refusal
pub only_memory : {X : Type 0} (P : Refusal → Type 0) (r : Result X Refusal) → IfErr r (λ refusal. refusal ≡ Memory) → IfErr r (λ refusal. refusal ≢ Memory → P refusal)
only_memory P (Ok x) h = tt
only_memory P (Err e) h = λ some. absurd (some h)
