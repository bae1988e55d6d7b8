use Rattle.std.proofs.Common.{◌+◌}
use Rattle.markup_text.specs.declared.words.Tag.TheVariants as tags
use Rattle.picture_svg.specs.Elements.{root_attributes}
use Rattle.picture_svg.specs.Svg.{elements}
use Rattle.picture_svg.proofs.Rows.{both-written}
use Rattle.picture_svg.proofs.svg.put_both.Goals as goal

pub returns : goal.returns
returns c =
    let first = c.args.first.now in
    let second = c.args.second.now in
    let style = c.args.style.now in
    both-written tags.Svg (root_attributes 0 (first.width + second.width) second.height) (root_attributes 0 first.width first.height) (root_attributes first.width second.width second.height)
    (elements style first) (elements style second) c.args.text.now c.put_root.new.text c.put_svg.new.text c.put_svg-2.new.text c.put_closing.new.text
    c.put_root.ensures c.put_svg.ensures c.put_svg-2.ensures c.put_closing.ensures
