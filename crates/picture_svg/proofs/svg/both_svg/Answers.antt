use Rattle.std.proofs.Common.{◌++◌}
use Rattle.std.specs.Prelude.{codes}
use Rattle.text_writer.proofs.Writing.{finished, then}
use Rattle.markup_text.specs.Markup.{markup_text}
use Rattle.picture_svg.specs.Svg.{svg_of_both}
use Rattle.picture_svg.proofs.svg.both_svg.Goals as goal

pub returns : goal.returns
returns c =
    let all = markup_text (svg_of_both c.args.style.now c.args.first.now c.args.second.now) in
    finished c.new-text.result c.put.new.self (all ++ codes "\n") c.finish.result c.new-text.ensures
    (then c.new-text.result c.put_both.new.text c.put.new.self all (codes "\n") c.put_both.ensures c.put.ensures) c.finish.ensures
