use Rattle.np_types.proofs.Covers.{leads_put, leads_undone}
use Rattle.np_types.proofs.patterns.put_noted.Goals as goal

pub returns-in-Ok-clause-back : goal.returns-in-Ok-clause-back
returns-in-Ok-clause-back c = rw (c.in-Ok.ensures.items, c.in_ok-old.ensures.ok) (leads_put _ _ _ _ _ c.in_ok-old.ensures.held)

pub returns-in-Err-clause-back : goal.returns-in-Err-clause-back
returns-in-Err-clause-back c =
    let e = c.in-Err.ensures in
    rw e.items (leads_undone _ _ _ _ _ _ _ c.in-Err.noted c.in_ok-old.ensures.held c.in_ok-old.ensures.ok e.returned c.back.ensures)
