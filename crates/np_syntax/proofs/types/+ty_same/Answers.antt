use Rattle.std.proofs.lemmas.Grind.{common_steps}
use Rattle.std.proofs.Common.{arith}
use Rattle.np_syntax.proofs.Tells.{told_same, told_other}
use Rattle.np_syntax.proofs.types.+ty_same.Goals as goal

pub Ty::same-returns-in-Int-matches : goal.Ty::same-returns-in-Int-matches
Ty::same-returns-in-Int-matches t c = told_same c.in-Int.is c.in-Int-matches.is

pub Ty::same-returns-in_default : goal.Ty::same-returns-in_default
Ty::same-returns-in_default t c = told_other c.in-Int.is c.in_default.not-Int

pub Ty::same-returns-in-Bool-matches : goal.Ty::same-returns-in-Bool-matches
Ty::same-returns-in-Bool-matches t c = told_same c.in-Bool.is c.in-Bool-matches.is

pub Ty::same-returns-in_default-matches : goal.Ty::same-returns-in_default-matches
Ty::same-returns-in_default-matches t c = told_other c.in-Bool.is c.in_default-matches.not-Bool

pub Ty::same-returns-in-Str-matches : goal.Ty::same-returns-in-Str-matches
Ty::same-returns-in-Str-matches t c = told_same c.in-Str.is c.in-Str-matches.is

pub Ty::same-returns-in_default-matches-2 : goal.Ty::same-returns-in_default-matches-2
Ty::same-returns-in_default-matches-2 t c = told_other c.in-Str.is c.in_default-matches-2.not-Str

pub Ty::same-returns-in-Site-matches : goal.Ty::same-returns-in-Site-matches
Ty::same-returns-in-Site-matches t c = told_same c.in-Site.is c.in-Site-matches.is

pub Ty::same-returns-in_default-matches-3 : goal.Ty::same-returns-in_default-matches-3
Ty::same-returns-in_default-matches-3 t c = told_other c.in-Site.is c.in_default-matches-3.not-Site

pub Ty::same-returns-in-Agent-matches : goal.Ty::same-returns-in-Agent-matches
Ty::same-returns-in-Agent-matches t c = told_same c.in-Agent.is c.in-Agent-matches.is

pub Ty::same-returns-in_default-matches-4 : goal.Ty::same-returns-in_default-matches-4
Ty::same-returns-in_default-matches-4 t c = told_other c.in-Agent.is c.in_default-matches-4.not-Agent

pub Ty::same-returns-in-Letter-matches : goal.Ty::same-returns-in-Letter-matches
Ty::same-returns-in-Letter-matches t c = told_same c.in-Letter.is c.in-Letter-matches.is

pub Ty::same-returns-in_default-matches-5 : goal.Ty::same-returns-in_default-matches-5
Ty::same-returns-in_default-matches-5 t c = told_other c.in-Letter.is c.in_default-matches-5.not-Letter

pub Ty::same-returns-in-Places-matches : goal.Ty::same-returns-in-Places-matches
Ty::same-returns-in-Places-matches t c = told_same c.in-Places.is c.in-Places-matches.is

pub Ty::same-returns-in_default-matches-6 : goal.Ty::same-returns-in_default-matches-6
Ty::same-returns-in_default-matches-6 t c = told_other c.in-Places.is c.in_default-matches-6.not-Places

pub Ty::same-returns-in_default-other : goal.Ty::same-returns-in_default-other
Ty::same-returns-in_default-other t c = told_other c.in-Chan.is (c.in_default-other.not-Chan c.in-Chan.cap c.in-Chan.mine)

pub Ty::same-returns-in_default-other-2 : goal.Ty::same-returns-in_default-other-2
Ty::same-returns-in_default-other-2 t c = told_other c.in-Tuple.is (c.in_default-other-2.not-Tuple c.in-Tuple.mine)

pub same_types-returns-then-mine-theirs : goal.same_types-returns-then-mine-theirs
same_types-returns-then-mine-theirs t c = grind (arith, common_steps)

pub same_types-loop-at-preserved : goal.same_types-loop-at-preserved
same_types-loop-at-preserved t c = grind (arith, common_steps)

pub same_types-returns-then-not-same : goal.same_types-returns-then-not-same
same_types-returns-then-not-same t c = grind (arith, common_steps)

pub same_types-returns : goal.same_types-returns
same_types-returns t c = grind (arith, common_steps)

pub Ty::same-returns-else-eq : goal.Ty::same-returns-else-eq
Ty::same-returns-else-eq t c = grind (arith, common_steps)
