use Rattle.std.proofs.Common.{arith}
use Rattle.std.proofs.lemmas.Grind.{common_steps}
use Rattle.np_parse.specs.Read.Processes.{proc, proc_in, on_channel, bracket}
use Rattle.np_parse.proofs.Steps.{mores, double_two}
use Rattle.np_parse.proofs.process.+proc.Goals as goal

pub others-returns-clause-reads : goal.others-returns-clause-reads
others-returns-clause-reads t c = grind (arith, common_steps)

pub proc_in-returns-in-Word-Print-clause-within : goal.proc_in-returns-in-Word-Print-clause-within
unfolding proc proc_in
proc_in-returns-in-Word-Print-clause-within t c = grind (arith, common_steps)

pub on_channel-returns-in_ok-head-in-Sign-Query-clause-reads : goal.on_channel-returns-in_ok-head-in-Sign-Query-clause-reads
unfolding on_channel
on_channel-returns-in_ok-head-in-Sign-Query-clause-reads t c = grind (arith, common_steps)

pub proc_in-returns-in_ok-head-in-Sign-Star-clause-reads : goal.proc_in-returns-in_ok-head-in-Sign-Star-clause-reads
unfolding proc proc_in
proc_in-returns-in_ok-head-in-Sign-Star-clause-reads t c = grind (arith, common_steps)

pub others-more-requires : goal.others-more-requires
others-more-requires t c = grind (arith, common_steps)

pub on_channel-returns-in-Sign-Bang-clause-reads : goal.on_channel-returns-in-Sign-Bang-clause-reads
unfolding on_channel
on_channel-returns-in-Sign-Bang-clause-reads t c = grind (arith, common_steps)

pub proc_in-returns-in_ok-head-in-Word-Let-clause-reads : goal.proc_in-returns-in_ok-head-in-Word-Let-clause-reads
unfolding proc proc_in
proc_in-returns-in_ok-head-in-Word-Let-clause-reads t c = grind (arith, common_steps)

pub on_channel-returns-in-Sign-Bang-clause-within : goal.on_channel-returns-in-Sign-Bang-clause-within
unfolding on_channel
on_channel-returns-in-Sign-Bang-clause-within t c = grind (arith, common_steps)

pub proc_in-returns-in_ok-head-in-Word-IfLocal-clause-reads : goal.proc_in-returns-in_ok-head-in-Word-IfLocal-clause-reads
unfolding proc proc_in
proc_in-returns-in_ok-head-in-Word-IfLocal-clause-reads t c = grind (arith, common_steps)

pub proc_in-returns-in-Number-clause-within : goal.proc_in-returns-in-Number-clause-within
unfolding proc proc_in
proc_in-returns-in-Number-clause-within t c = grind (arith, common_steps)

pub proc_in-returns-in_ok-head-in-Word-AgentWord-clause-reads : goal.proc_in-returns-in_ok-head-in-Word-AgentWord-clause-reads
unfolding proc proc_in
proc_in-returns-in_ok-head-in-Word-AgentWord-clause-reads t c = grind (arith, common_steps)

pub more-turns-preserved : goal.more-turns-preserved
more-turns-preserved t c = grind (arith, common_steps, mores)

pub more-returns-in_err-right-clause-within : goal.more-returns-in_err-right-clause-within
more-returns-in_err-right-clause-within t c = grind (arith, common_steps, mores)

pub more-returns-in_err-bar-clause-within : goal.more-returns-in_err-bar-clause-within
more-returns-in_err-bar-clause-within t c = grind (arith, common_steps, mores)

pub more-turns-smaller : goal.more-turns-smaller
more-turns-smaller t c = grind (arith, common_steps, mores)

pub proc_in-returns-in-Sign-RoundOpen-clause-reads : goal.proc_in-returns-in-Sign-RoundOpen-clause-reads
unfolding proc proc_in
proc_in-returns-in-Sign-RoundOpen-clause-reads t c = grind (arith, common_steps)

pub more-returns-in_err-left-clause-reads : goal.more-returns-in_err-left-clause-reads
more-returns-in_err-left-clause-reads t c = grind (arith, common_steps, mores)

pub more-both-requires-clause-right : goal.more-both-requires-clause-right
more-both-requires-clause-right t c = grind (arith, common_steps, mores)

pub more-returns-in_err-right-clause-reads : goal.more-returns-in_err-right-clause-reads
more-returns-in_err-right-clause-reads t c = grind (arith, common_steps, mores)

pub more-returns-in_default-clause-within : goal.more-returns-in_default-clause-within
more-returns-in_default-clause-within t c = grind (arith, common_steps, mores)

pub more-both-requires-clause-left : goal.more-both-requires-clause-left
more-both-requires-clause-left t c = grind (arith, common_steps, mores)

pub double-returns-in_err-first-clause-reads : goal.double-returns-in_err-first-clause-reads
double-returns-in_err-first-clause-reads t c = grind (arith, common_steps, double_two)

pub proc_in-returns-in_ok-head-in-Word-New-clause-reads : goal.proc_in-returns-in_ok-head-in-Word-New-clause-reads
unfolding proc proc_in
proc_in-returns-in_ok-head-in-Word-New-clause-reads t c = grind (arith, common_steps)

pub more-returns-in_err-left-clause-within : goal.more-returns-in_err-left-clause-within
more-returns-in_err-left-clause-within t c = grind (arith, common_steps, mores)

pub bracket-returns-clause-reads : goal.bracket-returns-clause-reads
unfolding bracket
bracket-returns-clause-reads t c = grind (arith, common_steps)

pub proc_in-returns-in-Sign-Less-clause-reads : goal.proc_in-returns-in-Sign-Less-clause-reads
unfolding proc proc_in
proc_in-returns-in-Sign-Less-clause-reads t c = grind (arith, common_steps)

pub proc_in-returns-in_ok-head-in-Word-If-clause-reads : goal.proc_in-returns-in_ok-head-in-Word-If-clause-reads
unfolding proc proc_in
proc_in-returns-in_ok-head-in-Word-If-clause-reads t c = grind (arith, common_steps)

pub proc_in-returns-in_ok-head-in-Word-Migrate-clause-reads : goal.proc_in-returns-in_ok-head-in-Word-Migrate-clause-reads
unfolding proc proc_in
proc_in-returns-in_ok-head-in-Word-Migrate-clause-reads t c = grind (arith, common_steps)

pub more-returns-in_err-bar-clause-reads : goal.more-returns-in_err-bar-clause-reads
more-returns-in_err-bar-clause-reads t c = grind (arith, common_steps, mores)

pub more-returns-clause-reads : goal.more-returns-clause-reads
more-returns-clause-reads g t c = grind (arith, common_steps, mores)

pub proc_in-returns-in-Word-Print-clause-reads : goal.proc_in-returns-in-Word-Print-clause-reads
unfolding proc proc_in
proc_in-returns-in-Word-Print-clause-reads t c = grind (arith, common_steps)

pub proc_in-returns-in-Ident-clause-reads : goal.proc_in-returns-in-Ident-clause-reads
unfolding proc proc_in
proc_in-returns-in-Ident-clause-reads t c = grind (arith, common_steps)

pub proc_in-returns-in-Sign-Less-clause-within : goal.proc_in-returns-in-Sign-Less-clause-within
unfolding proc proc_in
proc_in-returns-in-Sign-Less-clause-within t c = grind (arith, common_steps)
