-- The program's answers and their causes (docs/COMMANDS.md, "Reports and refusals"). Want of memory alone has no cause.
use Rattle.std.specs.Prelude.{◌≡◌, ℕ, ◌+◌, ◌≤◌, ◌⊎◌, List, Some, None}
use Rattle.std.specs.Io.KnownBytes.{Appends, Keeps}
use Rattle.np_io.specs.Causes.{Rose}
use Rattle.np_io.specs.Bytes.{AppendsPrefix}
use Rattle.np_words.specs.Plans.{plan}
use Rattle.np_on_sites.specs.declared.record.Record.{Record}
use Rattle.np_verdict.specs.Lines.{line_of, status_of}
use Rattle.np_verdict.specs.declared.refusal.Refusal.{Refusal}
use Rattle.np_verdict.specs.declared.refusal.Refusal.TheVariants.{Usage, ReadFault}
use Rattle.np_modes.specs.Readings.{Reading}
use Rattle.np_modes.specs.Causes.{Stands, HasMade, source_of, texts_read}
use Rattle.np_verdict.specs.declared.statuses.TheConstants.{BAD_HISTORY, BAD_SOURCE, BAD_USAGE, BUDGET_SPENT, DONE, NO_MEMORY, READ_FAILED}
use Rattle.np_verdict.specs.declared.statuses.TheConstants.{WRITE_FAILED}
use Rattle.np_answers.specs.Answers.{Writing, status_at}
use Rattle.np_answers.specs.declared.answer.Answer.{Answer}
use Rattle.np_run.specs.Headline.{Headline}

-- ---- calls

-- one call of the program
pub record Call : Type 0 where
  pub words : List (List ℕ)
  pub texts : Reading
  pub out : Writing
  pub err : Writing

-- ---- answers

-- it was made, and its text was written
pub record IsDone (call : Call) (answer : Answer) : Type 0 where
  pub text : List ℕ
  pub made : HasMade call.words call.texts answer.kept answer.high text
  -- of each run on sites that is kept, and of the source of which this was made: whatever the source, the sites, the schedule and the
  -- budget
  pub headline : (kept : Record) → answer.kept ≡ Some kept → Headline call.words call.texts (source_of made) kept text
  pub status : answer.status ≡ status_at answer.kept answer.high
  pub out : Appends call.out.old call.out.new text
  pub err : Keeps call.err.old call.err.new

pub record IsRefused (call : Call) (answer : Answer) (refusal : Refusal) : Type 0 where
  pub stands : Stands call.words call.texts refusal
  pub kept : answer.kept ≡ None
  pub high : answer.high ≡ None
  pub out : Keeps call.out.old call.out.new
  pub err : Appends call.err.old call.err.new (line_of refusal)

-- some refusal of that status was written
pub record Refuses (call : Call) (answer : Answer) : Type 0 where
  pub refusal : Refusal
  pub status : answer.status ≡ status_of refusal
  pub refused : IsRefused call answer refusal

-- it was made; a call of out failed, and what out has of its text is a prefix
pub record OutFailed (call : Call) (answer : Answer) : Type 0 where
  pub text : List ℕ
  pub made : HasMade call.words call.texts answer.kept answer.high text
  pub rose : Rose call.out.before call.out.now
  pub out : AppendsPrefix call.out.old call.out.new text
  pub err : Keeps call.err.old call.err.new

-- a call of err failed, and what err has of the line of a refusal is a prefix
pub record ErrFailed (call : Call) (answer : Answer) : Type 0 where
  pub refusal : Refusal
  pub stands : Stands call.words call.texts refusal
  pub kept : answer.kept ≡ None
  pub high : answer.high ≡ None
  pub rose : Rose call.err.before call.err.now
  pub out : Keeps call.out.old call.out.new
  pub err : AppendsPrefix call.err.old call.err.new (line_of refusal)

-- nothing is kept, and nothing was written
pub record IsWanting (call : Call) (answer : Answer) : Type 0 where
  pub kept : answer.kept ≡ None
  pub high : answer.high ≡ None
  pub out : Keeps call.out.old call.out.new
  pub err : Keeps call.err.old call.err.new

abbrev pub IsStatus : ℕ → Type 0
IsStatus n = (n ≡ DONE) ⊎ (n ≡ BUDGET_SPENT) ⊎ (n ≡ BAD_USAGE) ⊎ (n ≡ BAD_SOURCE) ⊎ (n ≡ READ_FAILED) ⊎ (n ≡ WRITE_FAILED) ⊎ (n ≡ NO_MEMORY)
    ⊎ (n ≡ BAD_HISTORY)

-- each answer has its cause
pub record HasCauses (call : Call) (answer : Answer) : Type 0 where
  pub done : answer.status ≡ DONE → IsDone call answer
  pub spent : answer.status ≡ BUDGET_SPENT → IsDone call answer
  pub usage : answer.status ≡ BAD_USAGE → IsRefused call answer Usage
  pub source : answer.status ≡ BAD_SOURCE → Refuses call answer
  pub read : answer.status ≡ READ_FAILED → IsRefused call answer ReadFault
  pub write : answer.status ≡ WRITE_FAILED → OutFailed call answer ⊎ ErrFailed call answer
  pub memory : answer.status ≡ NO_MEMORY → IsWanting call answer
  pub history : answer.status ≡ BAD_HISTORY → Refuses call answer
  pub status : IsStatus answer.status
  -- no more texts began than the words ask for
  pub begins : call.texts.begins ≤ call.texts.begun + texts_read (plan call.words)
