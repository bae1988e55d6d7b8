use Rattle.std.proofs.Common.{◌++◌}
use Rattle.std.specs.List.{flat_map}
use Rattle.page_html.specs.Sources.{printed_text}
use Rattle.page_html.proofs.Counted.{flat-on}
use Rattle.page_html.proofs.source.put_each_printed.Goals as goal

pub loop-one-preserved : goal.loop-one-preserved
loop-one-preserved c =
    let first = c.args.text.now in
    flat-on printed_text first c.loop-one.text c.put_printed.new.text (first.text ++ flat_map printed_text c.args.printed.now) c.args.printed.now c.loop-one.one-index c.one-item.result c.loop-one-test.true c.one-item.is
    c.put_printed.ensures c.loop-one.invariant
