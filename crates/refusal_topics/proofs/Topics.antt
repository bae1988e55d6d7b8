-- What np writes of a refusal begins with the title of its topic.
use Rattle.std.proofs.Common.{◌≡◌, ℕ, List, ◌++◌, refl}
use Rattle.std.specs.Prelude.{codes}
use Rattle.std.specs.Fmt.{decimal}
use Rattle.np_types.specs.declared.fault.Rule.{Rule}
use Rattle.np_types.specs.declared.fault.Rule.TheVariants as rules
use Rattle.np_types.specs.declared.fault.TypeFault.{TypeFault}
use Rattle.np_verdict.specs.Lines.{line_of, rule_text}
use Rattle.np_verdict.specs.declared.refusal.Refusal.{Refusal}
use Rattle.np_verdict.specs.declared.refusal.Refusal.TheVariants as refusals
use Rattle.refusal_topics.specs.Telling.{IsTopicOf, topic_for}
use Rattle.refusal_topics.specs.Topics.{rule_word}

abbrev behind : ℕ → List ℕ
behind at = codes " at " ++ decimal at ++ codes "\n"

of-fault : (rule : Rule) (at : ℕ) → codes "np: 16 TypeFault " ++ rule_text rule ++ behind at ≡ (codes "np: " ++ (codes "16 TypeFault" ++ codes " " ++ rule_word rule)) ++ behind at
of-fault rules.NotChannel at = refl
of-fault rules.NoInput at = refl
of-fault rules.NoOutput at = refl
of-fault rules.Mismatch at = refl
of-fault rules.NotAgent at = refl
of-fault rules.NotSite at = refl
of-fault rules.NotBool at = refl
of-fault rules.NotInt at = refl
of-fault rules.Shape at = refl
of-fault rules.NotComparable at = refl
of-fault rules.NotPrintable at = refl
of-fault rules.Wide at = refl

pub is-topic : (refusal : Refusal) → IsTopicOf refusal (topic_for refusal)
is-topic refusals.Memory some = absurd (some refl)
is-topic refusals.TooLong some = record { rest = codes "\n"; is = refl }
is-topic refusals.HistoryTooLong some = record { rest = codes "\n"; is = refl }
is-topic (refusals.TypeFault fault) some = record { rest = behind fault.at; is = of-fault fault.rule fault.at }
is-topic refusals.Usage some = record {
  rest = codes "\nusage: np MODE FILE [SECOND] [--budget N] [--history] [--high] [--serial] [--links KIND] [--infra KIND] [--line K] [--one]\n";
  is = refl;
}
is-topic refusals.ReadFault some = record { rest = codes "\n"; is = refl }
is-topic (refusals.BadChar at) some = record { rest = behind at; is = refl }
is-topic (refusals.BadString at) some = record { rest = behind at; is = refl }
is-topic (refusals.BigNumber at) some = record { rest = behind at; is = refl }
is-topic (refusals.Syntax at) some = record { rest = behind at; is = refl }
is-topic (refusals.TooDeep at) some = record { rest = behind at; is = refl }
is-topic (refusals.Unbound at) some = record { rest = behind at; is = refl }
is-topic (refusals.SiteTwice at) some = record { rest = behind at; is = refl }
is-topic (refusals.TooManySites at) some = record { rest = behind at; is = refl }
is-topic (refusals.NotASite at) some = record { rest = behind at; is = refl }
is-topic (refusals.LocationTest at) some = record { rest = behind at; is = refl }
is-topic (refusals.TooManyNodes nodes) some = record { rest = codes "\n"; is = refl }
is-topic refusals.TooManyEvents some = record { rest = codes "\n"; is = refl }
is-topic (refusals.HistSyntax at) some = record { rest = behind at; is = refl }
is-topic (refusals.NotARun at) some = record { rest = behind at; is = refl }
is-topic (refusals.NoLine at) some = record { rest = behind at; is = refl }
is-topic (refusals.NotOurs at) some = record { rest = behind at; is = refl }
is-topic (refusals.BudgetPast at) some = record { rest = behind at; is = refl }
