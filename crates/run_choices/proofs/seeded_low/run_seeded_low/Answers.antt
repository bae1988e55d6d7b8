use Rattle.std.proofs.Common.{◌<◌, ℕ, subst, sym, arith}
use Rattle.std.specs.Prelude.{IfOk}
use Rattle.np_calculus.specs.Config.{Config}
use Rattle.np_calculus.specs.Runs.{RunsWell}
use Rattle.np_serial.specs.Serial.{IsSerialRun}
use Rattle.np_serial.proofs.SerialEvents.{low-sites}
use Rattle.run_save.specs.Ours.{IsOursFrom}
use Rattle.run_choices.specs.InTurn.{IsDrawn, IsOwnStart}
use Rattle.run_choices.proofs.Starting.{own-start}
use Rattle.run_choices.proofs.seeded_low.run_seeded_low.Goals as goal

pub start_low-requires : goal.start_low-requires
start_low-requires c = omega (arith, c.requires.sites, low-sites c.args.q.now)

pub run_from-requires-clause-runs : goal.run_from-requires-clause-runs
run_from-requires-clause-runs c = (c.args.q.now.at, subst (λ (s : Config). RunsWell s c.args.q.now.at) (sym c.in_ok-start.ensures) c.requires)

pub run_from-requires-clause-own : goal.run_from-requires-clause-own
run_from-requires-clause-own c =
    subst IsOwnStart (sym c.in_ok-start.ensures) (own-start c.args.q.now (subst (λ (n : ℕ). c.args.q.now.at < n) (low-sites c.args.q.now) c.requires.site))

pub returns-clause-run : goal.returns-clause-run
returns-clause-run c =
    subst (λ (s : Config). IfOk c.run_from.result (λ r. IsSerialRun s c.args.budget r.events r.last r.end)) c.in_ok-start.ensures c.run_from.ensures.run

pub returns-clause-ours : goal.returns-clause-ours
returns-clause-ours c = subst (λ (s : Config). IfOk c.run_from.result (λ r. IsOursFrom s r.events)) c.in_ok-start.ensures c.run_from.ensures.ours

pub returns-clause-drawn : goal.returns-clause-drawn
returns-clause-drawn c = subst (λ (s : Config). IfOk c.run_from.result (λ r. IsDrawn s c.args.seed r.events)) c.in_ok-start.ensures c.run_from.ensures.drawn
