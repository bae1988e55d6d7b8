use Rattle.std.proofs.Common.{refl, vec_len, arith}
use Rattle.np_example_files.specs.Examples.{text_said}
use Rattle.np_example_files.specs.Pieces.{piece_of}
use Rattle.np_example_files.proofs.Endings.{added_last, last_seen}
use Rattle.np_example_files.proofs.reader.add_to_last.Goals as goal

pub returns-in-Some-clause-made : goal.returns-in-Some-clause-made
returns-in-Some-clause-made g c =
    added_last c.add_piece.result (piece_of c.args.line.now) c.args.texts.now.items (vec_len c.args.texts.now) c.in-Some.text.now
    (record { name = c.in-Some.text.now.name; bytes = c.add_piece.new.bytes })
    (last_seen text_said c.args.texts.now.items (vec_len c.args.texts.now) c.in-Some.text.now _ (omega arith) c.in-Some.ensures.item.3.0 c.in-Some.ensures.value)
    refl c.add_piece.ensures.made
