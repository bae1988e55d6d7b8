-- The exit status of a picture (docs/COMMANDS.md, "Statuses").
use Rattle.std.specs.Prelude.{ℕ}
use Rattle.np_syntax.specs.declared.event.End.{End}
use Rattle.np_syntax.specs.declared.event.End.TheVariants.{Rest, Spent}
use Rattle.np_verdict.specs.declared.statuses.TheConstants.{BUDGET_SPENT, DONE}

abbrev pub end_status : End → ℕ
end_status Rest = DONE
end_status Spent = BUDGET_SPENT
