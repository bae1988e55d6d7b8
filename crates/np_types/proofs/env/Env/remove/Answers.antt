use Rattle.np_types.proofs.Slots.{cut_stored}
use Rattle.np_types.proofs.env.Env.remove.Goals as goal

pub returns : goal.returns
returns c = rw (← c.self.view_is) (cut_stored c.self.inside.entries.entries _ c.args.binder c.swap_remove.ensures.updates.0)
