use Rattle.np_run.proofs.Answered.{answered}
use Rattle.np_run.proofs.top.np_gated.Goals as goal

pub returns : goal.returns
returns g c =
    answered _ c.work-made.result c.answer_of.result c.work-made.ensures.made c.work-made.ensures.refused c.work-made.ensures.begins c.answer_of.ensures
