use Rattle.std.proofs.Common.{◌<◌, ◌^◌, ℕ, length, subst, sym, arith}
use Rattle.site_crew.specs.Lists.{AreWithin}
use Rattle.site_crew.proofs.Crewing.{grow_refl}
use Rattle.site_crew.proofs.Enabled.{never_stops}
use Rattle.site_crew.proofs.Redoing.{on_no}
use Rattle.site_crew.proofs.again.redo_list.Goals as goal

pub returns-then-events-clause-grow : goal.returns-then-events-clause-grow
returns-then-events-clause-grow g c = grow_refl _

pub returns-then-events-clause-never : goal.returns-then-events-clause-never
returns-then-events-clause-never g c = λ no list.
    let few : length c.args.events.now < 2 ^ 32 = list.few in
    let many = c.if-events.true in omega arith

pub returns-then-not-are_within-clause-grow : goal.returns-then-not-are_within-clause-grow
returns-then-not-are_within-clause-grow g c = grow_refl _

pub returns-then-not-are_within-clause-never : goal.returns-then-not-are_within-clause-never
returns-then-not-are_within-clause-never g c = λ no list.
    c.are_within.ensures.no c.if-not-are_within.true (subst (λ (n : ℕ). AreWithin n c.args.budget c.args.events.now) (sym c.sites.ensures) list.within)

pub returns-clause-never : goal.returns-clause-never
returns-clause-never g c = on_no c.redo_all.result (λ stops list. never_stops g.P.Port c.args.code.now c.requires.program c.requires.safe list stops) c.redo_all.ensures.why
