use Rattle.np_example_files.proofs.Texts.{part_added}
use Rattle.np_example_files.proofs.pieces.add_part.Goals as goal

pub returns-clause-made : goal.returns-clause-made
returns-clause-made g c =
    let h = c.in_ok-first.ensures in
    part_added c.add_lines.result c.args.rest.now c.in_ok-first.name.now c.args.bytes.now.items c.add_lines.new.bytes.items c.as_str-2.result.now c.in_ok-first.first c.in_ok-first.last
    (cc h) c.add_lines.ensures.made
