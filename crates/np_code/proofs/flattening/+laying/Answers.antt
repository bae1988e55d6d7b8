use Rattle.std.proofs.lemmas.Grind.{common_steps}
use Rattle.std.proofs.Common.{◌≡◌, ◌+◌, ◌∙◌, length, ap, arith}
use Rattle.std.proofs.lemmas.List.{length_push}
use Rattle.std.specs.Option.{option_copied}
use Rattle.np_code.proofs.Growth.{planted, below-planted, growth}
use Rattle.np_code.proofs.NodeCounts.{nodes-parts, counts}
use Rattle.np_code.proofs.flattening.+laying.Goals as goal

pub lay-put-requires : goal.lay-put-requires
lay-put-requires t c =
    let first = rw c.get.ensures at c.parts.ensures.first in
    let second = rw c.get.ensures at c.parts.ensures.second in
    let form = rw c.get-2.ensures at c.in_ok-form.ensures in
    below-planted c.lay_part.new.table c.lay_part-2.new.table c.args.p.now (option_copied c.parts.result.0) (option_copied c.parts.result.1)
    c.in_ok-first.first c.in_ok-second.second c.in_ok-form.form
    first second c.in_ok-first.ensures.part c.in_ok-second.ensures.grows c.in_ok-second.ensures.part
    form

pub lay-returns-clause-process : goal.lay-returns-clause-process
lay-returns-clause-process t c =
    let first = rw c.get.ensures at c.parts.ensures.first in
    let second = rw c.get.ensures at c.parts.ensures.second in
    let form = rw c.get-2.ensures at c.in_ok-form.ensures in
    planted c.lay_part.new.table c.lay_part-2.new.table c.put.new.self c.args.p.now (option_copied c.parts.result.0) (option_copied c.parts.result.1)
    c.in_ok-first.first c.in_ok-second.second c.len-id.result c.in_ok-form.form
    first second c.in_ok-first.ensures.part c.in_ok-second.ensures.grows c.in_ok-second.ensures.part
    form c.len-id.ensures c.in_ok-put.ensures.ok

pub lay-returns-clause-size : goal.lay-returns-clause-size
lay-returns-clause-size t c =
    let grown : length c.put.new.self ≡ length c.lay_part-2.new.table + 1 = ap length c.in_ok-put.ensures.ok ∙ length_push _ _ in
    let first = c.in_ok-first.ensures.size in
    let second = c.in_ok-second.ensures.size in
    rw (nodes-parts c.args.p.now, ← c.get.ensures, ← c.parts.ensures.first, ← c.parts.ensures.second) (omega arith)

pub lay-returns-clause-within : goal.lay-returns-clause-within
lay-returns-clause-within t c = grind (arith, common_steps, counts, growth)

pub lay-lay_part-requires : goal.lay-lay_part-requires
lay-lay_part-requires t c = grind (arith, common_steps, counts, growth)

pub lay-len-id-requires : goal.lay-len-id-requires
lay-len-id-requires t c = grind (arith, common_steps, counts, growth)

pub lay-lay_part-requires-2 : goal.lay-lay_part-requires-2
lay-lay_part-requires-2 t c = grind (arith, common_steps, counts, growth)

pub lay-returns-clause-grows : goal.lay-returns-clause-grows
lay-returns-clause-grows t c = grind (arith, common_steps, counts, growth)
