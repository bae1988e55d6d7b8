use Rattle.std.proofs.Common.{take}
use Rattle.wanted_tokens.specs.Wanted.{Chosen}
use Rattle.wanted_tokens.proofs.trying.wanted_of.Given as goal

-- those of the kinds so far
abbrev pub invariant-loop-kind : goal.invariant-loop-kind
invariant-loop-kind l = Chosen l.bytes l.at (take l.kind-index l.kinds) l.wanted
