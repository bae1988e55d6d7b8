use Rattle.std.proofs.Common.{◌+◌, refl}
use Rattle.cache_encode.proofs.Given.{posted}
use Rattle.cache_encode.proofs.translator.post.Goals as goal

pub returns : goal.returns
returns c =
    posted c.args.forms.sites c.args.tag.node c.args.to.now c.args.chan.now c.args.value.now c.args.from.now c.args.next _ _
    c.in_ok-proc.proc (c.args.next + 4) c.writer.ensures.sites c.writer.ensures.node c.in_ok-proc.ensures refl
