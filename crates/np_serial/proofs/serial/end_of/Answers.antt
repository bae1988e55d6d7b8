use Rattle.std.proofs.Common.{refl}
use Rattle.np_configuration.proofs.RestTests.{next-acts}
use Rattle.np_serial.proofs.serial.end_of.Goals as goal

pub returns-in-Some-clause-rest : goal.returns-in-Some-clause-rest
returns-in-Some-clause-rest c = (λ e. absurd cc, λ i. absurd (next-acts c.args.c.now c.in-Some.field-0 c.requires c.in-Some.ensures.next i))

pub returns-in-Some-clause-spent : goal.returns-in-Some-clause-spent
returns-in-Some-clause-spent c = (λ e. next-acts c.args.c.now c.in-Some.field-0 c.requires c.in-Some.ensures.next, λ n. refl)
