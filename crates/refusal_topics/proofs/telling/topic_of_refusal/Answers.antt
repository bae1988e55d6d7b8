use Rattle.std.proofs.Common.{subst, sym}
use Rattle.np_verdict.specs.declared.refusal.Refusal.{Refusal}
use Rattle.refusal_topics.specs.Telling.{IsTopicOf}
use Rattle.refusal_topics.proofs.Topics.{is-topic}
use Rattle.refusal_topics.proofs.telling.topic_of_refusal.Goals as goal

pub returns : goal.returns
returns c = subst (IsTopicOf c.args.refusal) (sym c.topic_for.ensures) (is-topic c.args.refusal)
