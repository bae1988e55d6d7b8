use Rattle.cache_encode.proofs.Given.{created}
use Rattle.cache_encode.proofs.translator.creation.Goals as goal

pub returns : goal.returns
returns c = created c.args.forms.sites c.args.tag.node c.args.agent.now c.args.child c.args.at c.args.body c.args.rest _ _ c.in_ok-proc.proc c.writer-writer.ensures.sites c.writer-writer.ensures.node c.in_ok-proc.ensures
