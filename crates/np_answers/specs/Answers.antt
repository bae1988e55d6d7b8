-- What the program answers, by what a call made, or why it made nothing (docs/COMMANDS.md, "Reports and refusals").
use Rattle.std.specs.Prelude.{◌≡◌, ◌≢◌, ℕ, ◌-◌, ◌^◌, ◌⊎◌, min, List, length, sum_by, Option, Some, None, Result, Ok, Err}
use Rattle.std.specs.Io.KnownBytes.{Appends, Keeps}
use Rattle.np_syntax.specs.declared.event.End.{End}
use Rattle.np_syntax.specs.declared.event.End.TheVariants.{Rest, Spent}
use Rattle.stamp_history.specs.Histories.{Stored}
use Rattle.np_io.specs.Causes.{Rose}
use Rattle.np_io.specs.Bytes.{AppendsPrefix}
use Rattle.np_sources.specs.declared.job.MadeRun.{MadeRun}
use Rattle.np_on_sites.specs.declared.record.Record.{Record}
use Rattle.np_sources.specs.declared.job.Job.{Job}
use Rattle.np_verdict.specs.Lines.{line_of, status_of}
use Rattle.np_verdict.specs.declared.refusal.Refusal.{Refusal}
use Rattle.np_verdict.specs.declared.refusal.Refusal.TheVariants.{Memory}
use Rattle.np_verdict.specs.declared.statuses.TheConstants.{BUDGET_SPENT, DONE, NO_MEMORY, WRITE_FAILED}
use Rattle.np_answers.specs.declared.answer.Answer.{Answer}
use Rattle.np_answers.specs.declared.answer.Told.{Told}

-- what a call did to a sink: its faults and, where they are told, its bytes
pub record Writing : Type 0 where
  pub before : ℕ
  pub now : ℕ
  pub old : Option (List ℕ)
  pub new : Option (List ℕ)

-- ---- the answer by what was made

abbrev pub end_status : End → ℕ
end_status Rest = DONE
end_status Spent = BUDGET_SPENT

-- the status of what was made, where its text was written: it tells how a run has ended, if it is one
abbrev pub status_at : Option Record → Option MadeRun → ℕ
status_at (Some made) high = end_status made.end
status_at None (Some made) = end_status made.end
status_at None None = DONE

-- the answer of that status where no run is kept
abbrev pub without_run : ℕ → Answer
without_run status = record { status = status; kept = None; high = None }

-- its text was written
pub record TextWritten (job : Job) (to_out to_err : Writing) (answer : Answer) : Type 0 where
  pub is : answer ≡ record { status = status_at job.kept job.high; kept = job.kept; high = job.high }
  pub out : Appends to_out.old to_out.new job.text
  pub err : Keeps to_err.old to_err.new

-- a call of out failed, and what out has of the text is a prefix
pub record TextCut (job : Job) (to_out to_err : Writing) (answer : Answer) : Type 0 where
  pub is : answer ≡ record { status = WRITE_FAILED; kept = job.kept; high = job.high }
  pub rose : Rose to_out.before to_out.now
  pub out : AppendsPrefix to_out.old to_out.new job.text
  pub err : Keeps to_err.old to_err.new

-- the line of the refusal was written
pub record LineWritten (refusal : Refusal) (to_out to_err : Writing) (answer : Answer) : Type 0 where
  pub some : refusal ≢ Memory
  pub is : answer ≡ without_run (status_of refusal)
  pub out : Keeps to_out.old to_out.new
  pub err : Appends to_err.old to_err.new (line_of refusal)

-- a call of err failed, and what err has of the line is a prefix
pub record LineCut (refusal : Refusal) (to_out to_err : Writing) (answer : Answer) : Type 0 where
  pub some : refusal ≢ Memory
  pub is : answer ≡ without_run WRITE_FAILED
  pub rose : Rose to_err.before to_err.now
  pub out : Keeps to_out.old to_out.new
  pub err : AppendsPrefix to_err.old to_err.new (line_of refusal)

-- memory ran out, and nothing was written
pub record NothingWritten (to_out to_err : Writing) (answer : Answer) : Type 0 where
  pub is : answer ≡ without_run NO_MEMORY
  pub out : Keeps to_out.old to_out.new
  pub err : Keeps to_err.old to_err.new

-- what comes of what a call made, or of its refusal
abbrev pub Answers : Result Job Refusal → Writing → Writing → Answer → Type 0
Answers (Ok job) to_out to_err answer = TextWritten job to_out to_err answer ⊎ TextCut job to_out to_err answer
Answers (Err refusal) to_out to_err answer = LineWritten refusal to_out to_err answer ⊎ LineCut refusal to_out to_err answer
    ⊎ NothingWritten to_out to_err answer

-- ---- what is told of an answer

-- how many events the histories have; the number stands still at the greatest one of 64 bits
abbrev pub events_of : List Stored → ℕ
events_of histories = min (sum_by (λ s. length s.history.events) histories) (2 ^ 64 - 1)

-- how many events the run has
abbrev pub events_in : Option Record → Option MadeRun → Option ℕ
events_in (Some made) high = Some (events_of made.histories)
events_in None (Some made) = Some (length made.events)
events_in None None = None

abbrev pub told_of : Answer → Told
told_of answer = record { status = answer.status; events = events_in answer.kept answer.high }
