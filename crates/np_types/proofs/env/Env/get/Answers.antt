use Rattle.std.proofs.Common.{sym, ◌∙◌}
use Rattle.np_types.proofs.Slots.{get-stored}
use Rattle.np_types.proofs.env.Env.get.Goals as goal

pub returns : goal.returns
returns c = rw (← c.self.view_is) (c.get.ensures.value ∙ sym (get-stored c.self.inside.entries.entries c.args.binder))
