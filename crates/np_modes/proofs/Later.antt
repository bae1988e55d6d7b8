-- What two calls, one after the other, saw of their texts, seen from before the first to after the second.
use Rattle.std.proofs.Common.{◌≡◌, ◌≢◌, ℕ, ◌<◌, ◌≤◌, ◌⊎◌, inl, inr, List, length, Option, Result, Ok, Err, IfOk, IfErr, IfSome, subst, arith}
use Rattle.np_syntax.specs.declared.limits.TheConstants.{LONGEST_SOURCE}
use Rattle.np_syntax.specs.declared.program.LowProgram.{LowProgram}
use Rattle.np_syntax.specs.declared.program.Program.{Program}
use Rattle.np_io.specs.Causes.{Counts, Rose, NoneFell}
use Rattle.np_io.specs.Bytes.{Held, StayHeld}
use Rattle.np_verdict.specs.declared.refusal.Refusal.{Refusal}
use Rattle.np_verdict.specs.declared.refusal.Refusal.TheVariants.{Memory}
use Rattle.np_sources.specs.declared.job.Job.{Job}
use Rattle.np_sources.specs.Reaches.{IsCompiled, Reach}
use Rattle.np_sources.specs.declared.sites.Shown.{Shown}
use Rattle.np_verdict.specs.Faults.{IsWellTyped}
use Rattle.np_words.specs.declared.modes.Infrastructure.{Infrastructure}
use Rattle.np_words.specs.declared.planning.View.{View}
use Rattle.np_modes.specs.Readings.{IsRead, IsText, IsUnread, seen}
use Rattle.np_modes.specs.Causes.{IsLowered, OfResume, OfRun, OfReplay, OfSaved, RefusesResume, RefusesSaved, RefusesSource, RefusesRun, RefusesReplay}

rose_later : (a b c : ℕ) → a ≤ b → Rose b c → Rose a c
rose_later a b c h r = omega (arith, h, r)

module _ (held-0 held-1 : Held) (count-0 count-1 count-2 : Counts) (taken-1 taken-2 begun-0 begun-1 begun-2 : ℕ) (held : StayHeld held-0 held-1) (later : NoneFell count-0 count-1) where
  told_later : (name : List ℕ) (P : List ℕ → Type 0) → IfSome (held-1 name) P → IfSome (held-0 name) P
  told_later name P h = subst (λ (o : Option (List ℕ)). IfSome o P) (held.each name) h

  read_later : (name : List ℕ) (limit : ℕ) (bytes : List ℕ) → IsRead (seen held-1 count-1 count-2 taken-2 begun-1 begun-2) name limit bytes
      → IsRead (seen held-0 count-0 count-2 taken-2 begun-0 begun-2) name limit bytes
  read_later name limit bytes r =
      record { text = record { short = r.text.short; whole = told_later name (λ told. bytes ≡ told) r.text.whole }; taken = r.taken }

  unread_later : (name : List ℕ) (limit : ℕ) (long refusal : Refusal) → IsUnread (seen held-1 count-1 count-2 taken-2 begun-1 begun-2) name limit long refusal
      → IsUnread (seen held-0 count-0 count-2 taken-2 begun-0 begun-2) name limit long refusal
  unread_later name limit long refusal (inl f) =
      inl (f.0, record { rose = rose_later (count-0 name) (count-1 name) (count-2 name) (later.each name) f.1.rose; few = f.1.few })
  unread_later name limit long refusal (inr l) =
      inr (l.0, record { taken = l.1.taken; more = told_later name (λ bytes. limit < length bytes) l.1.more })

  -- the source was lowered before
  lowered_before : (source : List ℕ) (infrastructure : Infrastructure) (low : LowProgram) → IsLowered (seen held-0 count-0 count-1 taken-1 begun-0 begun-1) source infrastructure low
      → IsLowered (seen held-0 count-0 count-2 taken-2 begun-0 begun-2) source infrastructure low
  lowered_before source infrastructure low l = record { bytes = l.bytes; read = record { short = l.read.short; whole = l.read.whole }; lowers = l.lowers }

  pub replay_made : (source history : List ℕ) (infrastructure : Infrastructure) (low : LowProgram) (view : View)
      → IsLowered (seen held-0 count-0 count-1 taken-1 begun-0 begun-1) source infrastructure low → (r : Result Job Refusal)
      → IfOk r (λ job. OfRun (seen held-1 count-1 count-2 taken-2 begun-1 begun-2) history infrastructure low view job.kept job.high job.text)
      → IfOk r (λ job. OfReplay (seen held-0 count-0 count-2 taken-2 begun-0 begun-2) source history infrastructure view job.kept job.high job.text)
  replay_made source history infrastructure low view l (Ok job) run = record {
    low = low;
    lowered = lowered_before source infrastructure low l;
    run = record { bytes = run.bytes; read = read_later history _ run.bytes run.read; replays = run.replays; is_kept = run.is_kept; is_high = run.is_high };
  }
  replay_made source history infrastructure low view l (Err e) run = tt

  run_refused : (history : List ℕ) (low : LowProgram) (view : View) (refusal : Refusal) → RefusesRun (seen held-1 count-1 count-2 taken-2 begun-1 begun-2) history low view refusal
      → RefusesRun (seen held-0 count-0 count-2 taken-2 begun-0 begun-2) history low view refusal
  run_refused history low view refusal (inl u) = inl (unread_later history _ _ refusal u)
  run_refused history low view refusal (inr s) = inr (record { bytes = s.bytes; read = read_later history _ s.bytes s.read; faulty = s.faulty })

  pub replay_refused : (source history : List ℕ) (infrastructure : Infrastructure) (low : LowProgram) (view : View)
      → IsLowered (seen held-0 count-0 count-1 taken-1 begun-0 begun-1) source infrastructure low → (r : Result Job Refusal)
      → IfErr r (λ refusal. refusal ≢ Memory → RefusesRun (seen held-1 count-1 count-2 taken-2 begun-1 begun-2) history low view refusal)
      → IfErr r (λ refusal. refusal ≢ Memory → RefusesSource (seen held-0 count-0 count-2 taken-2 begun-0 begun-2) source (Reach.low infrastructure) refusal
      ⊎ RefusesReplay (seen held-0 count-0 count-2 taken-2 begun-0 begun-2) source history infrastructure view refusal)
  replay_refused source history infrastructure low view l (Ok job) h = tt
  replay_refused source history infrastructure low view l (Err e) h =
      λ some. inr (record { low = low; lowered = lowered_before source infrastructure low l; run = run_refused history low view e (h some) })

  -- ---- a run that goes on from a history

  pub resume_made : (source saved : List ℕ) (infrastructure : Infrastructure) (budget : ℕ) (how : Shown) (bytes : List ℕ)
      → IsText (seen held-0 count-0 count-1 taken-1 begun-0 begun-1) source LONGEST_SOURCE bytes → (r : Result Job Refusal)
      → IfOk r (λ job. OfSaved (seen held-1 count-1 count-2 taken-2 begun-1 begun-2) saved infrastructure budget how bytes job.kept job.high job.text)
      → IfOk r (λ job. OfResume (seen held-0 count-0 count-2 taken-2 begun-0 begun-2) source saved infrastructure budget how job.kept job.high job.text)
  resume_made source saved infrastructure budget how bytes text (Ok job) run = record {
    bytes = bytes;
    read = record { short = text.short; whole = text.whole };
    run = record { bytes = run.bytes; read = read_later saved _ run.bytes run.read; goes_on = run.goes_on };
  }
  resume_made source saved infrastructure budget how bytes text (Err e) run = tt

  saved_refused : (saved : List ℕ) (low : LowProgram) (budget : ℕ) (refusal : Refusal) → RefusesSaved (seen held-1 count-1 count-2 taken-2 begun-1 begun-2) saved low budget refusal
      → RefusesSaved (seen held-0 count-0 count-2 taken-2 begun-0 begun-2) saved low budget refusal
  saved_refused saved low budget refusal (inl u) = inl (unread_later saved _ _ refusal u)
  saved_refused saved low budget refusal (inr s) = inr (record { bytes = s.bytes; read = read_later saved _ s.bytes s.read; unfit = s.unfit })

  pub resume_refused : (source saved : List ℕ) (infrastructure : Infrastructure) (budget : ℕ) (bytes : List ℕ) (p : Program) (low : LowProgram)
      → IsText (seen held-0 count-0 count-1 taken-1 begun-0 begun-1) source LONGEST_SOURCE bytes → IsWellTyped bytes p → IsCompiled infrastructure p low
      → (r : Result Job Refusal)
      → IfErr r (λ refusal. refusal ≢ Memory → RefusesSaved (seen held-1 count-1 count-2 taken-2 begun-1 begun-2) saved low budget refusal)
      → IfErr r (λ refusal. refusal ≢ Memory → RefusesSource (seen held-0 count-0 count-2 taken-2 begun-0 begun-2) source (Reach.low infrastructure) refusal
      ⊎ RefusesResume (seen held-0 count-0 count-2 taken-2 begun-0 begun-2) source saved infrastructure budget refusal)
  resume_refused source saved infrastructure budget bytes p low text typed is (Ok job) h = tt
  resume_refused source saved infrastructure budget bytes p low text typed is (Err e) h =
      λ some. inr (record {
        low = low;
        lowered = record {
          bytes = bytes;
          read = record { short = text.short; whole = text.whole };
          lowers = record { program = p; accepted = typed; is = is.is; few = is.few };
        };
        run = saved_refused saved low budget e (h some);
      })
