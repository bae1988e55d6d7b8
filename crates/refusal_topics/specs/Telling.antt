-- The topic of a refusal (docs/PICTURES.md, "Refusals").
use Rattle.std.specs.Prelude.{◌≡◌, ◌≢◌, ◌++◌, codes}
use Rattle.np_verdict.specs.Lines.{line_of}
use Rattle.np_verdict.specs.declared.refusal.Refusal.{Refusal}
use Rattle.np_verdict.specs.declared.refusal.Refusal.TheVariants as refusals
use Rattle.refusal_topics.specs.declared.topic.Topic.{Topic}
use Rattle.refusal_topics.specs.declared.topic.Topic.TheVariants as topics
use Rattle.refusal_topics.specs.Topics.{BeginsWith, title}

-- what np writes of the refusal begins with the number and the word of the topic; of want of memory it writes nothing
abbrev pub IsTopicOf : Refusal → Topic → Type 0
IsTopicOf refusal topic = refusal ≢ refusals.Memory → BeginsWith (codes "np: " ++ title topic) (line_of refusal)

abbrev pub topic_for : Refusal → Topic
topic_for refusals.Memory = topics.Memory
topic_for refusals.TooLong = topics.TooLong
topic_for refusals.HistoryTooLong = topics.TooLong
topic_for (refusals.TypeFault fault) = topics.Broken fault.rule
topic_for refusals.Usage = topics.Usage
topic_for refusals.ReadFault = topics.ReadFault
topic_for (refusals.BadChar at) = topics.BadChar
topic_for (refusals.BadString at) = topics.BadString
topic_for (refusals.BigNumber at) = topics.BigNumber
topic_for (refusals.Syntax at) = topics.Syntax
topic_for (refusals.TooDeep at) = topics.TooDeep
topic_for (refusals.Unbound at) = topics.Unbound
topic_for (refusals.SiteTwice at) = topics.SiteTwice
topic_for (refusals.TooManySites at) = topics.TooManySites
topic_for (refusals.NotASite at) = topics.NotASite
topic_for (refusals.LocationTest at) = topics.LocationTest
topic_for (refusals.TooManyNodes nodes) = topics.TooManyNodes
topic_for refusals.TooManyEvents = topics.TooManyEvents
topic_for (refusals.HistSyntax at) = topics.HistSyntax
topic_for (refusals.NotARun at) = topics.NotARun
topic_for (refusals.NoLine at) = topics.NoLine
topic_for (refusals.NotOurs at) = topics.NotOurs
topic_for (refusals.BudgetPast at) = topics.BudgetPast
