-- How many names, nodes and binders there are in each form.
use Rattle.np_tree.proofs.Sized.{names-form, names-any, names-bind, names-tuple}
use Rattle.np_tree.proofs.Sized.{nodes-form, nodes-stop, nodes-par, nodes-new, nodes-out, nodes-inp, nodes-rep, nodes-agent, nodes-migrate, nodes-iflocal}
use Rattle.np_tree.proofs.Sized.{nodes-send, nodes-post, nodes-if, nodes-let, nodes-print, binders-form, binders-stop, binders-par, binders-new, binders-out}
use Rattle.np_tree.proofs.Sized.{binders-inp, binders-rep, binders-agent, binders-migrate, binders-iflocal, binders-send, binders-post, binders-if, binders-let}
use Rattle.np_tree.proofs.Sized.{binders-print}
use Rattle.np_scope.proofs.Weights.{weight-form, weight-tuple}

pub ruleset pattern_sizes = (names-form, names-any, names-bind, names-tuple, weight-form, weight-tuple)

-- ---- of processes

pub ruleset proc_sizes = (nodes-form, binders-form)

pub ruleset par_sizes = (nodes-par, binders-par)

pub ruleset new_sizes = (nodes-new, binders-new)

pub ruleset input_sizes = (nodes-inp, binders-inp)

pub ruleset replicated_sizes = (nodes-rep, binders-rep)

pub ruleset agent_sizes = (nodes-agent, binders-agent)

pub ruleset migrate_sizes = (nodes-migrate, binders-migrate)

pub ruleset iflocal_sizes = (nodes-iflocal, binders-iflocal)

pub ruleset if_sizes = (nodes-if, binders-if)

pub ruleset let_sizes = (nodes-let, binders-let)

-- the nodes of each form, by which a form has more than its parts; and the binders of those with no process in them
pub ruleset form_sizes = (
  nodes-stop,
  nodes-par,
  nodes-new,
  nodes-out,
  nodes-inp,
  nodes-rep,
  nodes-agent,
  nodes-migrate,
  nodes-iflocal,
  nodes-send,
  nodes-post,
  nodes-if,
  nodes-let,
  nodes-print,
  binders-stop,
  binders-out,
  binders-send,
  binders-post,
  binders-print,
)
