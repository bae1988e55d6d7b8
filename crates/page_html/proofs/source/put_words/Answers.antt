use Rattle.std.proofs.Common.{◌++◌}
use Rattle.std.specs.List.{flat_map}
use Rattle.page_html.specs.Sources.{word_text}
use Rattle.page_html.proofs.Counted.{flat-on}
use Rattle.page_html.proofs.source.put_words.Goals as goal

pub loop-word-preserved : goal.loop-word-preserved
loop-word-preserved c =
    let first = c.args.text.now in
    flat-on word_text first c.loop-word.text c.put_word.new.text (first.text ++ flat_map word_text c.args.words.now) c.args.words.now c.loop-word.word-index c.word-item.result c.loop-word-test.true c.word-item.is
    c.put_word.ensures c.loop-word.invariant
