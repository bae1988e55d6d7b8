use Rattle.std.proofs.Common.{arith, subst, sym}
use Rattle.np_syntax.specs.declared.program.Program.{Program}
use Rattle.np_calculus.specs.Runs.{RunsWell}
use Rattle.np_calculus.specs.Starts.{start_high}
use Rattle.np_serial.proofs.SerialEvents.{high-sites}
use Rattle.look_pages.proofs.sides.source_side.Goals as goal

pub follow_high-requires-clause-sites : goal.follow_high-requires-clause-sites
follow_high-requires-clause-sites c =
    let of = c.program-program.ensures in
    let well = subst (λ (p : Program). RunsWell (start_high p) p.at) (sym of.value) (c.law_runs_well.ensures _ of.accepted) in
    omega (arith, well.sites, high-sites c.program-program.result.now)
