use Rattle.std.proofs.Common.{refl}
use Rattle.agent_index.proofs.LaneLaws.{grown-put, paid-put, ok-to}
use Rattle.agent_index.proofs.lanes.pay.Goals as goal

pub returns-in-Some-get_mut-clause-grown : goal.returns-in-Some-get_mut-clause-grown
returns-in-Some-get_mut-clause-grown c =
    grown-put c.args.table.now.items _ c.in-Some.chan c.in-Some-get_mut.waiters.now c.reserve.new.self c.in-Some-get_mut.ensures.value refl
    (record { inputs = c.reserve.ensures.inputs; outputs = c.reserve.ensures.outputs; room = c.reserve.ensures.room })

pub returns-in-Some-get_mut-clause-ok : goal.returns-in-Some-get_mut-clause-ok
returns-in-Some-get_mut-clause-ok c =
    ok-to c.reserve.result (paid-put c.args.table.now.items _ c.args.owed c.in-Some.chan c.reserve.new.self refl c.in-Some.is) c.reserve.ensures.ok
