use Rattle.std.proofs.Common.{sym, ◌∙◌}
use Rattle.np_types.proofs.Slots.{stored, put_stored, put_there, get-stored}
use Rattle.np_types.proofs.env.Env.put.Goals as goal

pub returns-in-Ok-clause-held : goal.returns-in-Ok-clause-held
returns-in-Ok-clause-held c = rw (← c.self.view_is) (c.in-Ok.ensures.old ∙ sym (get-stored c.self.inside.entries.entries c.args.binder))

pub returns-in-Ok-clause-ok : goal.returns-in-Ok-clause-ok
returns-in-Ok-clause-ok c = rw (← c.self.view_is) (put_stored c.self.inside.entries.entries _ c.args.binder c.args.ty c.in-Ok.ensures.updates.0)

pub returns-in-Ok-clause-there : goal.returns-in-Ok-clause-there
returns-in-Ok-clause-there c =
    rw (put_stored c.self.inside.entries.entries _ c.args.binder c.args.ty c.in-Ok.ensures.updates.0)
    (put_there (stored c.self.inside.entries.entries) c.args.binder c.args.ty)

pub returns-clause-absent : goal.returns-clause-absent
returns-clause-absent c = rw (← c.self.view_is, get-stored c.self.inside.entries.entries c.args.binder) c.in-Err.ensures.absent
