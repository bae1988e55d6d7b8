use Rattle.std.proofs.Common.{rules, ◌≡◌}
use Rattle.np_syntax.specs.declared.event.Kind.TheVariants as kind
use Rattle.np_tests.proofs.Possible.{is_possible}
use Rattle.np_tests.proofs.forced.forced.Goals as goal

pub force-done-requires-clause-possible : goal.force-done-requires-clause-possible
force-done-requires-clause-possible c =
    let fork : c.in-Some.ready.kind ≡ kind.Fork = search rules in
    let site = c.in_ok-site.ensures in
    is_possible c.args.code.now c.in_ok-site.site c.args.agent c.in-Some.ready site.number site.next site.agents fork c.in-Some.ensures.some
