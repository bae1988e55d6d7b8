use Rattle.markup_text.specs.declared.words.Tag.TheVariants as tags
use Rattle.picture_svg.specs.Elements.{root_attributes}
use Rattle.picture_svg.specs.Svg.{elements}
use Rattle.picture_svg.proofs.Rows.{svg-written}
use Rattle.picture_svg.proofs.svg.put_svg.Goals as goal

pub returns : goal.returns
returns c =
    let d = c.args.drawing.now in
    svg-written tags.Svg (root_attributes c.args.left d.width d.height) (elements c.args.style.now d) c.args.text.now c.put_root.new.text c.put_body.new.text c.put_closing.new.text
    c.put_root.ensures c.put_body.ensures c.put_closing.ensures
