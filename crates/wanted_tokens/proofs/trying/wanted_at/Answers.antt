use Rattle.std.proofs.Common.{subst}
use Rattle.std.proofs.lemmas.Result.{IfOk-weaker}
use Rattle.wanted_tokens.specs.Wanted.{AreWanted, Chosen}
use Rattle.wanted_tokens.proofs.Choices.{just}
use Rattle.wanted_tokens.proofs.trying.wanted_at.Goals as goal

pub returns-clause-just : goal.returns-clause-just
returns-clause-just c =
    IfOk-weaker c.wanted_of.result _ (AreWanted c.args.bytes.now c.args.at)
    (λ chosen is. just c.args.bytes.now c.args.at chosen (subst (λ kinds. Chosen c.args.bytes.now c.args.at kinds chosen) c.as_slice.ensures is)) c.wanted_of.ensures
