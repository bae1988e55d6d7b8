-- The line and the status of each refusal (docs/COMMANDS.md, "Reports and refusals").
use Rattle.std.specs.Prelude.{ℕ, List, [], ◌++◌, codes}
use Rattle.std.specs.Fmt.{decimal}
use Rattle.np_types.specs.declared.fault.Rule.{Rule}
use Rattle.np_types.specs.declared.fault.Rule.TheVariants as rule
use Rattle.np_verdict.specs.declared.refusal.Refusal.{Refusal}
use Rattle.np_verdict.specs.declared.refusal.Refusal.TheVariants.{Memory, Usage, ReadFault, TooLong, BadChar, BadString, BigNumber, Syntax}
use Rattle.np_verdict.specs.declared.refusal.Refusal.TheVariants.{TooDeep, Unbound, SiteTwice, TooManySites, NotASite, TypeFault}
use Rattle.np_verdict.specs.declared.refusal.Refusal.TheVariants.{LocationTest, TooManyNodes, TooManyEvents, HistoryTooLong, HistSyntax}
use Rattle.np_verdict.specs.declared.refusal.Refusal.TheVariants.{NotARun, NoLine, NotOurs, BudgetPast}
use Rattle.np_verdict.specs.declared.statuses.TheConstants.{BAD_HISTORY, BAD_SOURCE, BAD_USAGE, NO_MEMORY, READ_FAILED}

-- the line of a refusal with its offset, line, index, count or site
abbrev pub placed_line : List ℕ → ℕ → List ℕ
placed_line name at = name ++ decimal at ++ codes "\n"

abbrev pub rule_text : Rule → List ℕ
rule_text rule.NotChannel = codes "NotChannel"
rule_text rule.NoInput = codes "NoInput"
rule_text rule.NoOutput = codes "NoOutput"
rule_text rule.Mismatch = codes "Mismatch"
rule_text rule.NotAgent = codes "NotAgent"
rule_text rule.NotSite = codes "NotSite"
rule_text rule.NotBool = codes "NotBool"
rule_text rule.NotInt = codes "NotInt"
rule_text rule.Shape = codes "Shape"
rule_text rule.NotComparable = codes "NotComparable"
rule_text rule.NotPrintable = codes "NotPrintable"
rule_text rule.Wide = codes "Wide"

-- what a refusal writes
abbrev pub line_of : Refusal → List ℕ
line_of Memory = []
line_of Usage =
    codes "np: 22 Usage\nusage: np MODE FILE [SECOND] [--budget N] [--history] [--high] [--serial] [--links KIND] [--infra KIND] [--line K] [--one]\n"
line_of ReadFault = codes "np: 4 ReadFault\n"
line_of TooLong = codes "np: 5 TooLong\n"
line_of (BadChar at) = placed_line (codes "np: 7 BadChar at ") at
line_of (BadString at) = placed_line (codes "np: 8 BadString at ") at
line_of (BigNumber at) = placed_line (codes "np: 9 BigNumber at ") at
line_of (Syntax at) = placed_line (codes "np: 10 Syntax at ") at
line_of (TooDeep at) = placed_line (codes "np: 11 TooDeep at ") at
line_of (Unbound at) = placed_line (codes "np: 12 Unbound at ") at
line_of (SiteTwice at) = placed_line (codes "np: 13 SiteTwice at ") at
line_of (TooManySites at) = placed_line (codes "np: 14 TooManySites at ") at
line_of (NotASite at) = placed_line (codes "np: 15 NotASite at ") at
line_of (TypeFault fault) = codes "np: 16 TypeFault " ++ rule_text fault.rule ++ placed_line (codes " at ") fault.at
line_of (LocationTest at) = placed_line (codes "np: 25 LocationTest at ") at
line_of (TooManyNodes nodes) = codes "np: 18 TooManyNodes\n"
line_of TooManyEvents = codes "np: 23 TooManyEvents\n"
line_of HistoryTooLong = codes "np: 5 TooLong\n"
line_of (HistSyntax line) = placed_line (codes "np: 20 HistSyntax at ") line
line_of (NotARun index) = placed_line (codes "np: 21 NotARun at ") index
line_of (NoLine lines) = placed_line (codes "np: 24 NoLine at ") lines
line_of (NotOurs index) = placed_line (codes "np: 26 NotOurs at ") index
line_of (BudgetPast site) = placed_line (codes "np: 27 BudgetPast at ") site

abbrev pub status_of : Refusal → ℕ
status_of Memory = NO_MEMORY
status_of Usage = BAD_USAGE
status_of ReadFault = READ_FAILED
status_of HistoryTooLong = BAD_HISTORY
status_of (HistSyntax line) = BAD_HISTORY
status_of (NotARun index) = BAD_HISTORY
status_of (NoLine lines) = BAD_HISTORY
status_of (NotOurs index) = BAD_HISTORY
status_of (BudgetPast site) = BAD_HISTORY
status_of _ = BAD_SOURCE
