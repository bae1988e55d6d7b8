use Rattle.std.proofs.Common.{◌∙◌}
use Rattle.cache_encode.proofs.Given.{made_of}
use Rattle.cache_encode.proofs.programs.low_program.Goals as goal

pub returns : goal.returns
returns c =
    made_of c.args.p.now c.len-count.result c.in_ok-main.main c.in_ok-daemon.daemon c.in_ok-main.next c.in_ok-sites.sites
    c.len-count.ensures c.in_ok-main.ensures c.in_ok-daemon.ensures (c.in_ok-sites.ensures ∙ c.as_slice.ensures)
