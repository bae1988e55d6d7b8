use Rattle.std.proofs.Common.{◌≡◌, ◌++◌, false, drop}
use Rattle.std.specs.List.{flat_map}
use Rattle.page_html.specs.Sources.{word_text}
use Rattle.page_html.proofs.source.put_words.Given as goal

-- those so far, and those still to come
abbrev pub invariant-loop-word : goal.invariant-loop-word
invariant-loop-word l = l.text.failed ≡ false → (l.initial.text.failed ≡ false)
    × (l.text.text ++ flat_map word_text (drop l.word-index l.words) ≡ l.initial.text.text ++ flat_map word_text l.words)
