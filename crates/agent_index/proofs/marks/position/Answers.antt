use Rattle.std.proofs.Common.{◌≡◌, true, sym, ◌∙◌, rules}
use Rattle.np_tables.specs.Names.{same_name}
use Rattle.np_tables.proofs.Keyed.{alike-same}
use Rattle.agent_index.proofs.Withouts.{found-here}
use Rattle.agent_index.proofs.marks.position.Goals as goal

pub returns-then-eq : goal.returns-then-eq
returns-then-eq c =
    let same : same_name c.index.result.now c.args.mark ≡ true = sym (alike-same c.index.result.now c.args.mark) ∙ sym c.eq.ensures ∙ c.if-eq.true in
    (search rules, found-here c.args.queue.now.items c.args.mark c.index.result.now c.loop-at.at (search rules) c.index.ensures c.loop-at.invariant same)
