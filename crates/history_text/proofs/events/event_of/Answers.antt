use Rattle.std.proofs.Common.{arith}
use Rattle.std.proofs.lemmas.Grind.{common_steps}
use Rattle.history_text.specs.Reading.{event_of}
use Rattle.history_text.proofs.events.event_of.Goals as goal

pub returns-in_err-behind-4 : goal.returns-in_err-behind-4
unfolding event_of
returns-in_err-behind-4 c = grind (arith, common_steps)

pub returns-then-not-ends_well : goal.returns-then-not-ends_well
unfolding event_of
returns-then-not-ends_well c = grind (arith, common_steps)

pub returns-in_err-made : goal.returns-in_err-made
unfolding event_of
returns-in_err-made c = grind (arith, common_steps)

pub returns-in_err-behind-5 : goal.returns-in_err-behind-5
unfolding event_of
returns-in_err-behind-5 c = grind (arith, common_steps)

pub returns-in_err-tag : goal.returns-in_err-tag
unfolding event_of
returns-in_err-tag c = grind (arith, common_steps)

pub returns : goal.returns
unfolding event_of
returns c = grind (arith, common_steps)
