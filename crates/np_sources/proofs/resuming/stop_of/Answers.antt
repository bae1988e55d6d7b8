use Rattle.std.proofs.Common.{◌≤◌, ◌*◌, length, arith}
use Rattle.std.proofs.lemmas.Bool.Decides.{nat_tests}
use Rattle.np_syntax.specs.declared.limits.TheConstants.{MOST_EVENTS}
use Rattle.np_sources.proofs.resuming.stop_of.Goals as goal

pub refusal-requires-clause-stops : goal.refusal-requires-clause-stops
refusal-requires-clause-stops c list =
    let few : length c.args.low.now.sites * c.args.budget ≤ MOST_EVENTS = grind (arith, nat_tests) in
    c.requires.never c.requires.run c.requires.few (record { few = few; within = list.within; ours = list.ours })
