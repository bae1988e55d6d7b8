use Rattle.std.proofs.Common.{arith, subst, sym, ap, ◌∙◌}
use Rattle.np_syntax.specs.declared.program.Program.{Program}
use Rattle.np_calculus.specs.Runs.{RunsWell}
use Rattle.np_calculus.specs.Starts.{start_high}
use Rattle.np_serial.proofs.SerialEvents.{high-sites}
use Rattle.look_runs.proofs.follow_work.followed.Goals as goal

pub start_high-requires : goal.start_high-requires
start_high-requires c =
    let of = c.program.ensures in
    let well = subst (λ (p : Program). RunsWell (start_high p) p.at) (sym of.value) (c.law_runs_well.ensures _ of.accepted) in
    omega (arith, well.sites, high-sites c.program.result.now)

pub followed_from-requires-clause-start : goal.followed_from-requires-clause-start
followed_from-requires-clause-start c = c.in-Ok.ensures ∙ ap start_high c.program.ensures.value
