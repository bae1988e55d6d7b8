use Rattle.std.proofs.Common.{subst, sym, arith}
use Rattle.std.specs.Prelude.{IfOk}
use Rattle.np_calculus.specs.Config.{Config}
use Rattle.np_calculus.specs.Runs.{RunsWell}
use Rattle.np_serial.specs.Serial.{AreFresh, IsSerialRun}
use Rattle.np_serial.proofs.SerialEvents.{high-fresh, high-sites}
use Rattle.run_choices.specs.Runs.{AreChosen}
use Rattle.run_choices.specs.Seeded.{FirstMarks}
use Rattle.run_choices.proofs.Following.{high-first}
use Rattle.run_choices.proofs.seeded.run_seeded.Goals as goal

pub start_high-requires : goal.start_high-requires
start_high-requires c = omega (arith, c.requires.sites, high-sites c.args.p.now)

pub run_from-requires-clause-runs : goal.run_from-requires-clause-runs
run_from-requires-clause-runs c = subst (λ (s : Config). RunsWell s c.args.p.now.at) (sym c.in_ok-start.ensures) c.requires

pub run_from-requires-clause-fresh : goal.run_from-requires-clause-fresh
run_from-requires-clause-fresh c = subst (λ (s : Config). AreFresh s.born s.sites 0) (sym c.in_ok-start.ensures) (high-fresh c.args.p.now)

pub run_from-requires-clause-first : goal.run_from-requires-clause-first
run_from-requires-clause-first c = subst FirstMarks (sym c.in_ok-start.ensures) (high-first c.args.p.now)

pub returns-clause-run : goal.returns-clause-run
returns-clause-run c =
    subst (λ (s : Config). IfOk c.run_from.result (λ r. IsSerialRun s c.args.budget r.events r.last r.end)) c.in_ok-start.ensures c.run_from.ensures.run

pub returns-clause-drawn : goal.returns-clause-drawn
returns-clause-drawn c = subst (λ (s : Config). IfOk c.run_from.result (λ r. AreChosen s c.args.seed r.events)) c.in_ok-start.ensures c.run_from.ensures.drawn
