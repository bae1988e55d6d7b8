use Rattle.std.proofs.Common.{ap, subst, sym}
use Rattle.stamp_history.specs.Histories.{Recorded}
use Rattle.site_crew.specs.Runs.{RunsSafely}
use Rattle.site_crew.proofs.Counts.{none_counted}
use Rattle.site_crew.proofs.Crewing.{none_failed, stand_made}
use Rattle.site_crew.proofs.Carrying.{has_end}
use Rattle.site_crew.proofs.crew.Crew.new.Goals as goal

pub invariant_of-result : goal.invariant_of-result
invariant_of-result g c = record {
  safe = subst RunsSafely (sym c.requires.table) c.requires.safe;
  program = c.requires.program;
  budget = c.requires.budget;
  stand = stand_made c.sites.ensures c.in_ok-ports.ensures.ports c.in_ok-ports.ensures.unused c.in_ok-seats.ensures;
  sound = λ e. none_failed c.in_ok-seats.ensures;
}

pub returns-clause-run : goal.returns-clause-run
returns-clause-run g c =
    has_end g.P.Port c.args.code c.args.budget c.in_ok-seats.seats.items
    (stand_made c.sites.ensures c.in_ok-ports.ensures.ports c.in_ok-ports.ensures.unused c.in_ok-seats.ensures) c.requires.program

pub returns-clause-none : goal.returns-clause-none
returns-clause-none g c = none_counted c.in_ok-seats.seats.items (λ i s at. ap (λ (h : Recorded). h.events) (c.in_ok-seats.ensures.each i s at).2.site.history)
