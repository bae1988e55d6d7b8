use Rattle.std.proofs.lemmas.Grind.{common_steps}
use Rattle.std.proofs.Common.{arith}
use Rattle.np_types.proofs.Counts.{printed, hidden, prints}
use Rattle.np_types.proofs.widths.+is_printable.Goals as goal

pub is_printable-returns-in-Int : goal.is_printable-returns-in-Int
is_printable-returns-in-Int t c = printed c.args.ty.now c.in-Int.is

pub is_printable-returns-in-Int-2 : goal.is_printable-returns-in-Int-2
is_printable-returns-in-Int-2 t c = printed c.args.ty.now c.in-Int.is

pub is_printable-returns-in-Int-3 : goal.is_printable-returns-in-Int-3
is_printable-returns-in-Int-3 t c = printed c.args.ty.now c.in-Int.is

pub is_printable-returns-in-Int-4 : goal.is_printable-returns-in-Int-4
is_printable-returns-in-Int-4 t c = printed c.args.ty.now c.in-Int.is

pub is_printable-returns-in-Agent : goal.is_printable-returns-in-Agent
is_printable-returns-in-Agent t c = hidden c.args.ty.now c.in-Agent.is

pub is_printable-returns-in-Agent-2 : goal.is_printable-returns-in-Agent-2
is_printable-returns-in-Agent-2 t c = hidden c.args.ty.now c.in-Agent.is

pub is_printable-returns-in-Agent-3 : goal.is_printable-returns-in-Agent-3
is_printable-returns-in-Agent-3 t c = hidden c.args.ty.now c.in-Agent.is

pub is_printable-returns-in-Agent-4 : goal.is_printable-returns-in-Agent-4
is_printable-returns-in-Agent-4 t c = hidden c.args.ty.now c.in-Agent.is

pub are_printable-loop-ty-preserved : goal.are_printable-loop-ty-preserved
are_printable-loop-ty-preserved t c = grind (arith, common_steps, prints)
