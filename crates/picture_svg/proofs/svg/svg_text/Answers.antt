use Rattle.std.proofs.Common.{◌++◌}
use Rattle.std.specs.Prelude.{codes}
use Rattle.text_writer.proofs.Writing.{finished, then}
use Rattle.markup_text.specs.Markup.{markup_text}
use Rattle.picture_svg.specs.Svg.{svg}
use Rattle.picture_svg.proofs.svg.svg_text.Goals as goal

pub returns : goal.returns
returns c =
    let all = markup_text (svg 0 c.args.style.now c.args.drawing.now) in
    finished c.new-text.result c.put.new.self (all ++ codes "\n") c.finish.result c.new-text.ensures
    (then c.new-text.result c.put_svg.new.text c.put.new.self all (codes "\n") c.put_svg.ensures c.put.ensures) c.finish.ensures
