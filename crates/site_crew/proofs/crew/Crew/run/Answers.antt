use Rattle.std.proofs.lemmas.Grind.{common_steps}
use Rattle.std.proofs.Common.{ap, refl, ◌∙◌, arith}
use Rattle.site_crew.specs.Crews.{CrewState}
use Rattle.site_crew.proofs.Crewing.{later_refl}
use Rattle.site_crew.proofs.Running.{all_later_trans, ended_rest, ended_spent, on_refl, on_trans, went_less}
use Rattle.site_crew.proofs.crew.Crew.run.Goals as goal

pub loop-smaller : goal.loop-smaller
loop-smaller g c = went_less c.loop.self c.one_round.new.self c.in_ok-one_round.field-0 c.one_round.ensures.on c.in_ok-one_round.ensures.ok c.in-Went.is

pub returns-in-Rest-clause-ok : goal.returns-in-Rest-clause-ok
returns-in-Rest-clause-ok g c = ended_rest c.loop.self c.one_round.new.self c.in_ok-one_round.field-0 c.in_ok-one_round.ensures.ok c.in-Rest.is

pub returns-in-Spent-clause-ok : goal.returns-in-Spent-clause-ok
returns-in-Spent-clause-ok g c = ended_spent c.loop.self c.one_round.new.self c.in_ok-one_round.field-0 c.in_ok-one_round.ensures.ok c.in-Spent.is

pub loop-init : goal.loop-init
loop-init g c = record { on = on_refl _; later = later_refl _ _; failed = λ h. refl }

pub loop-preserved : goal.loop-preserved
loop-preserved g c =
    let i = c.loop.invariant in record {
      on = on_trans i.on c.one_round.ensures.on;
      later = all_later_trans i.later c.one_round.ensures.later;
      failed = λ h. let same = i.failed h in c.one_round.ensures.failed (ap (λ (s : CrewState). s.failed) same ∙ h) ∙ same;
    }

pub returns-in_err-one_round-clause-later : goal.returns-in_err-one_round-clause-later
returns-in_err-one_round-clause-later g c = all_later_trans c.loop.invariant.later c.one_round.ensures.later

pub returns-in-Rest-clause-later : goal.returns-in-Rest-clause-later
returns-in-Rest-clause-later g c = all_later_trans c.loop.invariant.later c.one_round.ensures.later

pub returns-in-Spent-clause-later : goal.returns-in-Spent-clause-later
returns-in-Spent-clause-later g c = all_later_trans c.loop.invariant.later c.one_round.ensures.later

pub returns-in_err-one_round-clause-on : goal.returns-in_err-one_round-clause-on
returns-in_err-one_round-clause-on g c = on_trans c.loop.invariant.on c.one_round.ensures.on

pub returns-in-Rest-clause-on : goal.returns-in-Rest-clause-on
returns-in-Rest-clause-on g c = on_trans c.loop.invariant.on c.one_round.ensures.on

pub returns-in-Spent-clause-on : goal.returns-in-Spent-clause-on
returns-in-Spent-clause-on g c = on_trans c.loop.invariant.on c.one_round.ensures.on

pub returns-in-Spent-clause-failed : goal.returns-in-Spent-clause-failed
returns-in-Spent-clause-failed g c = grind (arith, common_steps)

pub returns-in-Rest-clause-failed : goal.returns-in-Rest-clause-failed
returns-in-Rest-clause-failed g c = grind (arith, common_steps)
