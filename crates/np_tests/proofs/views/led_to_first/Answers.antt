use Rattle.std.proofs.Common.{arith}
use Rattle.np_tests.proofs.Viewing.{print_at}
use Rattle.np_tests.proofs.views.led_to_first.Goals as goal

pub past-requires-clause-print : goal.past-requires-clause-print
past-requires-clause-print c = print_at c.args.events.now c.loop-index.index _ (omega arith) c.in-Print.is
