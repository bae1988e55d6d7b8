use Rattle.std.proofs.lemmas.Grind.{common_steps}
use Rattle.std.proofs.Common.{arith}
use Rattle.np_types.specs.Worlds.{bare}
use Rattle.np_types.proofs.Tellings.{handed_on}
use Rattle.np_types.proofs.Leasts.{tuple-1, tuple-2, bin-1, bin-2, bin-3, bin-4, pack-1, pack-2, pack-3, pack-4, with-1, with-2, with-3, with-4, with-5, with-6, least_types}
use Rattle.np_types.proofs.expressions.+least.Goals as goal

pub least_form-returns-in_err-leasts-in-Tuple : goal.least_form-returns-in_err-leasts-in-Tuple
least_form-returns-in_err-leasts-in-Tuple t c =
    handed_on _ _ _ c.from_residual.ensures
    (rw (c.in-Tuple.is, ← c.as_slice.ensures) (tuple-1 bare _ _ _ _ c.in_err-leasts-in-Tuple.ensures))

pub least_form-returns-in_ok-leasts-in-Tuple : goal.least_form-returns-in_ok-leasts-in-Tuple
least_form-returns-in_ok-leasts-in-Tuple t c =
    rw (c.in-Tuple.is, ← c.as_slice.ensures)
    (tuple-2 bare _ _ _ _ _ c.in_ok-leasts-in-Tuple.ensures c.tuple_type.ensures)

pub least_form-returns-in_err-least-in-Bin : goal.least_form-returns-in_err-least-in-Bin
least_form-returns-in_err-least-in-Bin t c =
    handed_on _ _ _ c.from_residual-in_err-least-in-Bin.ensures
    (rw c.in-Bin.is (bin-1 bare _ _ _ _ _ _ c.in_err-least-in-Bin.ensures))

pub least_form-returns-in_err-first-in-Bin : goal.least_form-returns-in_err-first-in-Bin
least_form-returns-in_err-first-in-Bin t c =
    handed_on _ _ _ c.from_residual-in_err-first-in-Bin.ensures
    (rw c.in-Bin.is (bin-2 bare _ _ _ _ _ _ _ c.in_ok-least-in-Bin.ensures c.in_err-first-in-Bin.ensures))

pub least_form-returns-in_err-second-in-Bin : goal.least_form-returns-in_err-second-in-Bin
least_form-returns-in_err-second-in-Bin t c =
    handed_on _ _ _ c.from_residual-in_err-second-in-Bin.ensures
    (rw c.in-Bin.is (bin-3 bare _ _ _ _ _ _ _ _ c.in_ok-least-in-Bin.ensures c.in_ok-first-in-Bin.ensures c.in_err-second-in-Bin.ensures))

pub least_form-returns-in_ok-second-in-Bin : goal.least_form-returns-in_ok-second-in-Bin
least_form-returns-in_ok-second-in-Bin t c =
    rw c.in-Bin.is
    (bin-4 bare _ _ _ _ _ _ _ _ _ c.in_ok-least-in-Bin.ensures c.in_ok-first-in-Bin.ensures c.in_ok-second-in-Bin.ensures c.operated.ensures)

pub least_form-returns-in_err-least-in-Pack : goal.least_form-returns-in_err-least-in-Pack
least_form-returns-in_err-least-in-Pack t c =
    handed_on _ _ _ c.from_residual-in_err-least-in-Pack.ensures
    (rw c.in-Pack.is (pack-1 bare _ _ _ _ _ c.in_err-least-in-Pack.ensures))

pub least_form-returns-in_err-carried-in-Pack : goal.least_form-returns-in_err-carried-in-Pack
least_form-returns-in_err-carried-in-Pack t c =
    handed_on _ _ _ c.from_residual-in_err-carried-in-Pack.ensures
    (rw c.in-Pack.is (pack-2 bare _ _ _ _ _ _ c.in_ok-least-in-Pack.ensures c.in_err-carried-in-Pack.ensures))

pub least_form-returns-in_err-given-in-Pack : goal.least_form-returns-in_err-given-in-Pack
least_form-returns-in_err-given-in-Pack t c =
    handed_on _ _ _ c.from_residual-in_err-given-in-Pack.ensures
    (rw c.in-Pack.is (pack-3 bare _ _ _ _ _ _ _ c.in_ok-least-in-Pack.ensures c.in_ok-carried-in-Pack.ensures c.in_err-given-in-Pack.ensures))

pub least_form-returns-in_ok-given-in-Pack : goal.least_form-returns-in_ok-given-in-Pack
least_form-returns-in_ok-given-in-Pack t c =
    rw c.in-Pack.is
    (pack-4 bare _ _ _ _ _ _ _ _ c.in_ok-least-in-Pack.ensures c.in_ok-carried-in-Pack.ensures c.in_ok-given-in-Pack.ensures c.letter.ensures)

pub least_form-returns-in_err-least-in-With : goal.least_form-returns-in_err-least-in-With
least_form-returns-in_err-least-in-With t c =
    handed_on _ _ _ c.from_residual-in_err-least-in-With.ensures
    (rw c.in-With.is (with-1 bare _ _ _ _ _ _ c.in_err-least-in-With.ensures))

pub least_form-returns-in_err-ensure_places-in-With : goal.least_form-returns-in_err-ensure_places-in-With
least_form-returns-in_err-ensure_places-in-With t c =
    handed_on _ _ _ c.from_residual-in_err-ensure_places-in-With.ensures
    (rw c.in-With.is (with-2 bare _ _ _ _ _ _ _ c.in_ok-least-in-With.ensures c.in_err-ensure_places-in-With.ensures))

pub least_form-returns-in_err-least-in-With-2 : goal.least_form-returns-in_err-least-in-With-2
least_form-returns-in_err-least-in-With-2 t c =
    handed_on _ _ _ c.from_residual-in_err-least-in-With-2.ensures
    (rw c.in-With.is (with-3 bare _ _ _ _ _ _ _ c.in_ok-least-in-With.ensures c.in_ok-ensure_places-in-With.ensures c.in_err-least-in-With-2.ensures))

pub least_form-returns-in_err-ensure_agent-in-With : goal.least_form-returns-in_err-ensure_agent-in-With
least_form-returns-in_err-ensure_agent-in-With t c =
    handed_on _ _ _ c.from_residual-in_err-ensure_agent-in-With.ensures
    (rw c.in-With.is (with-4 bare _ _ _ _ _ _ _ _ c.in_ok-least-in-With.ensures c.in_ok-ensure_places-in-With.ensures c.in_ok-least-in-With-2.ensures c.in_err-ensure_agent-in-With.ensures))

pub least_form-returns-in_err-least-in-With-3 : goal.least_form-returns-in_err-least-in-With-3
least_form-returns-in_err-least-in-With-3 t c =
    handed_on _ _ _ c.from_residual-in_err-least-in-With-3.ensures
    (rw c.in-With.is (with-5 bare _ _ _ _ _ _ _ _ c.in_ok-least-in-With.ensures c.in_ok-ensure_places-in-With.ensures c.in_ok-least-in-With-2.ensures c.in_ok-ensure_agent-in-With.ensures c.in_err-least-in-With-3.ensures))

pub least_form-returns-in_ok-least-in-With-3 : goal.least_form-returns-in_ok-least-in-With-3
least_form-returns-in_ok-least-in-With-3 t c =
    rw c.in-With.is
    (with-6 bare _ _ _ _ _ _ _ _ _ c.in_ok-least-in-With.ensures c.in_ok-ensure_places-in-With.ensures c.in_ok-least-in-With-2.ensures c.in_ok-ensure_agent-in-With.ensures c.in_ok-least-in-With-3.ensures c.with_lock.ensures)

pub leasts-loop-part-preserved : goal.leasts-loop-part-preserved
leasts-loop-part-preserved t c = grind (arith, common_steps, least_types)

pub leasts-returns-in_err-least : goal.leasts-returns-in_err-least
leasts-returns-in_err-least t c = grind (arith, common_steps, least_types)
