use Rattle.std.proofs.Common.{◌≡◌, ◌++◌, arith, subst, sym, take}
use Rattle.std.specs.List.{flat_map}
use Rattle.source_words.specs.declared.word.Word.{Word}
use Rattle.source_words.proofs.Pieces.{word-more}
use Rattle.source_words.proofs.lines.line_of.Goals as goal

pub words-preserved : goal.words-preserved
words-preserved c =
    let source = c.args.source.now in
    let front = take c.args.start source in
    let behind = c.run_end-behind in
    record {
      within = behind.ensures.to;
      are = subst (λ ws. front ++ flat_map (λ (word : Word). word.text) ws ≡ take behind.result source) (sym c.in_ok-add.ensures)
          (word-more source front c.words.words _ c.words.at behind.result (omega (arith, behind.ensures.from)) c.words.invariant.are c.in_ok-word_of.ensures);
    }
