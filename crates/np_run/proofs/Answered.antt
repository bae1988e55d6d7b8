-- An answer has its cause, where what the call made, or its refusal, has its own.
use Rattle.std.proofs.Common.{◌≡◌, ◌≢◌, ℕ, ◌+◌, ◌≤◌, ◌⊎◌, not, T, Option, None, Some, Result, Ok, Err, IfOk, IfErr, inl, inr, refl, sym, subst, ◌∙◌, arith}
use Rattle.std.proofs.Math.Dec.{eqb}
use Rattle.std.proofs.Math.Facts.{eqb_no}
use Rattle.std.specs.Io.KnownBytes.{Appends, Keeps}
use Rattle.np_syntax.specs.declared.event.End.{End}
use Rattle.np_syntax.specs.declared.event.End.TheVariants.{Rest, Spent}
use Rattle.np_sources.specs.declared.job.MadeRun.{MadeRun}
use Rattle.np_words.specs.Plans.{plan}
use Rattle.np_verdict.specs.Lines.{line_of, status_of}
use Rattle.np_sources.specs.declared.job.Job.{Job}
use Rattle.np_modes.specs.Causes.{HasMade, Stands, texts_read}
use Rattle.np_verdict.specs.declared.statuses.TheConstants.{BAD_HISTORY, BAD_SOURCE, NO_MEMORY, WRITE_FAILED}
use Rattle.np_answers.specs.Answers.{Answers, end_status, status_at, without_run}
use Rattle.np_answers.specs.declared.answer.Answer.{Answer}
use Rattle.np_run.specs.Answers.{Call, ErrFailed, HasCauses, IsDone, IsRefused, IsStatus, IsWanting, OutFailed}
use Rattle.np_run.proofs.Headlines.{headline}
use Rattle.np_on_sites.specs.declared.record.Record.{Record}
use Rattle.np_verdict.specs.declared.refusal.Refusal.{Refusal}
use Rattle.np_verdict.specs.declared.refusal.Refusal.TheVariants.{Memory, Usage, ReadFault, TooLong, HistoryTooLong, HistSyntax, NotARun, NoLine, NotOurs, BudgetPast}
use Rattle.np_verdict.specs.declared.refusal.Refusal.TheVariants.{BadChar, BadString, BigNumber, Syntax, TooDeep}
use Rattle.np_verdict.specs.declared.refusal.Refusal.TheVariants.{Unbound, SiteTwice, TooManySites, NotASite, TypeFault, LocationTest, TooManyNodes, TooManyEvents}

-- a status is not two numbers that differ
unlike : {X : Type 0} {s m n : ℕ} → s ≡ m → T (not (eqb m n)) → s ≡ n → X
unlike is apart e = absurd (eqb_no apart (sym is ∙ e))

-- no more texts began than the words ask for
abbrev Begins : Call → Type 0
Begins call = call.texts.begins ≤ call.texts.begun + texts_read (plan call.words)

wanting : (call : Call) (status : ℕ) → status ≡ 6 → IsWanting call (without_run status) → Begins call → HasCauses call (without_run status)
wanting call status is w b = record {
  done = λ e. unlike is tt e;
  spent = λ e. unlike is tt e;
  usage = λ e. unlike is tt e;
  source = λ e. unlike is tt e;
  read = λ e. unlike is tt e;
  write = λ e. unlike is tt e;
  memory = λ e. w;
  history = λ e. unlike is tt e;
  status = inr (inr (inr (inr (inr (inr (inl is))))));
  begins = b;
}

usage : (call : Call) (status : ℕ) → status ≡ 2 → IsRefused call (without_run status) Usage → Begins call → HasCauses call (without_run status)
usage call status is r b = record {
  done = λ e. unlike is tt e;
  spent = λ e. unlike is tt e;
  usage = λ e. r;
  source = λ e. unlike is tt e;
  read = λ e. unlike is tt e;
  write = λ e. unlike is tt e;
  memory = λ e. unlike is tt e;
  history = λ e. unlike is tt e;
  status = inr (inr (inl is));
  begins = b;
}

fault : (call : Call) (status : ℕ) → status ≡ 4 → IsRefused call (without_run status) ReadFault → Begins call → HasCauses call (without_run status)
fault call status is r b = record {
  done = λ e. unlike is tt e;
  spent = λ e. unlike is tt e;
  usage = λ e. unlike is tt e;
  source = λ e. unlike is tt e;
  read = λ e. r;
  write = λ e. unlike is tt e;
  memory = λ e. unlike is tt e;
  history = λ e. unlike is tt e;
  status = inr (inr (inr (inr (inl is))));
  begins = b;
}

source : (call : Call) (status : ℕ) (refusal : Refusal) → status ≡ 3 → status_of refusal ≡ 3 → IsRefused call (without_run status) refusal
    → Begins call → HasCauses call (without_run status)
source call status refusal is of r b = record {
  done = λ e. unlike is tt e;
  spent = λ e. unlike is tt e;
  usage = λ e. unlike is tt e;
  source = λ e. record { refusal = refusal; status = is ∙ sym of; refused = r };
  read = λ e. unlike is tt e;
  write = λ e. unlike is tt e;
  memory = λ e. unlike is tt e;
  history = λ e. unlike is tt e;
  status = inr (inr (inr (inl is)));
  begins = b;
}

history : (call : Call) (status : ℕ) (refusal : Refusal) → status ≡ 7 → status_of refusal ≡ 7 → IsRefused call (without_run status) refusal
    → Begins call → HasCauses call (without_run status)
history call status refusal is of r b = record {
  done = λ e. unlike is tt e;
  spent = λ e. unlike is tt e;
  usage = λ e. unlike is tt e;
  source = λ e. unlike is tt e;
  read = λ e. unlike is tt e;
  write = λ e. unlike is tt e;
  memory = λ e. unlike is tt e;
  history = λ e. record { refusal = refusal; status = is ∙ sym of; refused = r };
  status = inr (inr (inr (inr (inr (inr (inr is))))));
  begins = b;
}

-- the line of a refusal was written
refused : (call : Call) (status : ℕ) (refusal : Refusal) → Stands call.words call.texts refusal → Keeps call.out.old call.out.new
    → Appends call.err.old call.err.new (line_of refusal) → IsRefused call (without_run status) refusal
refused call status refusal stands out err = record { stands = stands; kept = refl; high = refl; out = out; err = err }

module _ (call : Call) (status : ℕ) (b : Begins call) where
  of_source : (refusal : Refusal) → status ≡ BAD_SOURCE → status_of refusal ≡ BAD_SOURCE → IsRefused call (without_run status) refusal → HasCauses call (without_run status)
  of_source refusal is of r = source call status refusal is of r b

  of_history : (refusal : Refusal) → status ≡ BAD_HISTORY → status_of refusal ≡ BAD_HISTORY → IsRefused call (without_run status) refusal → HasCauses call (without_run status)
  of_history refusal is of r = history call status refusal is of r b

  of_refusal : (refusal : Refusal) → refusal ≢ Memory → status ≡ status_of refusal → IsRefused call (without_run status) refusal → HasCauses call (without_run status)
  of_refusal Memory some is r = absurd (some refl)
  of_refusal Usage some is r = usage call status is r b
  of_refusal ReadFault some is r = fault call status is r b
  of_refusal TooLong some is r = of_source TooLong is refl r
  of_refusal (BadChar at) some is r = of_source (BadChar at) is refl r
  of_refusal (BadString at) some is r = of_source (BadString at) is refl r
  of_refusal (BigNumber at) some is r = of_source (BigNumber at) is refl r
  of_refusal (Syntax at) some is r = of_source (Syntax at) is refl r
  of_refusal (TooDeep at) some is r = of_source (TooDeep at) is refl r
  of_refusal (Unbound at) some is r = of_source (Unbound at) is refl r
  of_refusal (SiteTwice at) some is r = of_source (SiteTwice at) is refl r
  of_refusal (TooManySites at) some is r = of_source (TooManySites at) is refl r
  of_refusal (NotASite at) some is r = of_source (NotASite at) is refl r
  of_refusal (TypeFault fault) some is r = of_source (TypeFault fault) is refl r
  of_refusal (LocationTest at) some is r = of_source (LocationTest at) is refl r
  of_refusal (TooManyNodes nodes) some is r = of_source (TooManyNodes nodes) is refl r
  of_refusal TooManyEvents some is r = of_source TooManyEvents is refl r
  of_refusal HistoryTooLong some is r = of_history HistoryTooLong is refl r
  of_refusal (HistSyntax line) some is r = of_history (HistSyntax line) is refl r
  of_refusal (NotARun index) some is r = of_history (NotARun index) is refl r
  of_refusal (NoLine lines) some is r = of_history (NoLine lines) is refl r
  of_refusal (NotOurs index) some is r = of_history (NotOurs index) is refl r
  of_refusal (BudgetPast site) some is r = of_history (BudgetPast site) is refl r

-- ---- what was made was written

ended : (end : End) → (end_status end ≡ 0) ⊎ (end_status end ≡ 1)
ended Rest = inl refl
ended Spent = inr refl

-- the status is 0, or 1 where a run has spent its budget
made_status : (kept : Option Record) (high : Option MadeRun) → (status_at kept high ≡ 0) ⊎ (status_at kept high ≡ 1)
made_status (Some made) high = ended made.end
made_status None (Some made) = ended made.end
made_status None None = inl refl

by_status : (call : Call) (answer : Answer) → answer.status ≤ 1 → IsStatus answer.status → IsDone call answer → Begins call → HasCauses call answer
by_status call answer small is d b = record {
  done = λ e. d;
  spent = λ e. d;
  usage = λ e. absurd (omega (arith, small, e));
  source = λ e. absurd (omega (arith, small, e));
  read = λ e. absurd (omega (arith, small, e));
  write = λ e. absurd (omega (arith, small, e));
  memory = λ e. absurd (omega (arith, small, e));
  history = λ e. absurd (omega (arith, small, e));
  status = is;
  begins = b;
}

done : (call : Call) (answer : Answer) → IsDone call answer → Begins call → HasCauses call answer
done call answer d b = elim (made_status answer.kept answer.high) [
  | inl e ↦ by_status call answer (omega (arith, d.status, e)) (inl (d.status ∙ e)) d b
  | inr e ↦ by_status call answer (omega (arith, d.status, e)) (inr (inl (d.status ∙ e))) d b
]

-- ---- it could not be written whole

failed : (call : Call) (answer : Answer) → answer.status ≡ WRITE_FAILED → OutFailed call answer ⊎ ErrFailed call answer → Begins call → HasCauses call answer
failed call answer is f b = record {
  done = λ e. unlike is tt e;
  spent = λ e. unlike is tt e;
  usage = λ e. unlike is tt e;
  source = λ e. unlike is tt e;
  read = λ e. unlike is tt e;
  write = λ e. f;
  memory = λ e. unlike is tt e;
  history = λ e. unlike is tt e;
  status = inr (inr (inr (inr (inr (inl is)))));
  begins = b;
}

-- ---- the answer of a call

abbrev Made : Call → Job → Type 0
Made call job = HasMade call.words call.texts job.kept job.high job.text

-- what was made, or the refusal, has its cause; so has the answer
pub answered : (call : Call) (made : Result Job Refusal) (answer : Answer) → IfOk made (Made call) → IfErr made (λ refusal. refusal ≢ Memory → Stands call.words call.texts refusal)
    → Begins call → Answers made call.out call.err answer → HasCauses call answer
answered call (Ok job) answer makes stands b (inl t) = subst (HasCauses call) (sym t.is) (done call _ (record {
  text = job.text;
  made = makes;
  headline = headline call.words call.texts job.kept job.high job.text makes;
  status = refl;
  out = t.out;
  err = t.err;
}) b)
answered call (Ok job) answer makes stands b (inr t) = subst (HasCauses call) (sym t.is) (failed call _ refl (inl (record { text = job.text; made = makes; rose = t.rose; out = t.out; err = t.err })) b)
answered call (Err refusal) answer makes stands b (inl l) =
    subst (HasCauses call) (sym l.is) (of_refusal call _ b refusal l.some refl (refused call _ refusal (stands l.some) l.out l.err))
answered call (Err refusal) answer makes stands b (inr (inl l)) =
    subst (HasCauses call) (sym l.is) (failed call _ refl (inr (record { refusal = refusal; stands = stands l.some; kept = refl; high = refl; rose = l.rose; out = l.out; err = l.err })) b)
answered call (Err refusal) answer makes stands b (inr (inr n)) =
    subst (HasCauses call) (sym n.is) (wanting call NO_MEMORY refl (record { kept = refl; high = refl; out = n.out; err = n.err }) b)
