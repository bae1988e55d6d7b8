-- Each call goes to a part with fewer nodes, or from a process to its form to the parts of the form.
use Rattle.std.proofs.Common.{◌+◌, ◌*◌}
use Rattle.np_tree.specs.Sizes.{nodes, form_nodes}
use Rattle.np_scope.proofs.resolver.Resolver.+process.Given as goal

abbrev pub decreases-proc : goal.decreases-proc
decreases-proc l = 4 * nodes l.p.now + 1

abbrev pub decreases-proc_form : goal.decreases-proc_form
decreases-proc_form l = 4 * form_nodes l.form.now

abbrev pub decreases-under : goal.decreases-under
decreases-under l = 4 * nodes l.body.now + 2

abbrev pub decreases-two : goal.decreases-two
decreases-two l = 4 * (nodes l.first.now + nodes l.second.now) + 2

abbrev pub decreases-parallel : goal.decreases-parallel
decreases-parallel l = 4 * (nodes l.left.now + nodes l.right.now) + 3

abbrev pub decreases-channel : goal.decreases-channel
decreases-channel l = 4 * nodes l.body.now + 3

abbrev pub decreases-input : goal.decreases-input
decreases-input l = 4 * nodes l.body.now + 3

abbrev pub decreases-replicated : goal.decreases-replicated
decreases-replicated l = 4 * nodes l.body.now + 3

abbrev pub decreases-agent : goal.decreases-agent
decreases-agent l = 4 * (nodes l.body.now + nodes l.rest.now) + 3

abbrev pub decreases-migrate : goal.decreases-migrate
decreases-migrate l = 4 * nodes l.body.now + 3

abbrev pub decreases-iflocal : goal.decreases-iflocal
decreases-iflocal l = 4 * (nodes l.met.now + nodes l.unmet.now) + 3

abbrev pub decreases-test : goal.decreases-test
decreases-test l = 4 * (nodes l.met.now + nodes l.unmet.now) + 3

abbrev pub decreases-bind : goal.decreases-bind
decreases-bind l = 4 * nodes l.body.now + 3
