use Rattle.std.proofs.Common.{sym, ◌∙◌}
use Rattle.np_tables.specs.Mapped.{mapped}
use Rattle.agent_pool.specs.Pools.{seen_as}
use Rattle.agent_pool.specs.Readies.{IsReady}
use Rattle.agent_pool.proofs.Beginnings.{alone-ready, pair-ready}
use Rattle.agent_pool.proofs.Maps.{own-agent}
use Rattle.agent_pool.proofs.Walking.{some-of}
use Rattle.agent_pool.proofs.search.likely_in.Goals as goal

pub returns-in-Some-alone_in-clause-some : goal.returns-in-Some-alone_in-clause-some
returns-in-Some-alone_in-clause-some c = λ agent.
    alone-ready c.args.code.now (mapped (seen_as c.args.code.now.processes agent) c.args.atoms.now.items) c.in-Some.mark c.in-Some-alone_in.ready
    (sym (c.alone_in.ensures.is agent) ∙ c.in-Some-alone_in.is)

pub returns-clause-some : goal.returns-clause-some
returns-clause-some c = λ agent.
    let ts = c.args.code.now.processes in
    let items = c.args.atoms.now.items in
    let atoms = mapped (seen_as ts agent) items in
    let input = c.in_ok-input.input in
    let output = c.in_ok-input.output in
    some-of (IsReady c.args.code.now atoms) c.pair_in.result λ r h.
    pair-ready c.args.code.now atoms input output r (λ a b there stands. own-agent ts agent items output b stands ∙ sym (own-agent ts agent items input a there))
    (sym (c.pair_in.ensures.is agent) ∙ h)
