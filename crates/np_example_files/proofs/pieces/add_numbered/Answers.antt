use Rattle.std.proofs.Common.{◌∙◌, ◌^◌, ap}
use Rattle.std.specs.Str.Iter.{split_whitespace_rest}
use Rattle.std.proofs.lemmas.Result.{err_from_is_err_and}
use Rattle.np_example_files.proofs.Texts.{faulty_number, no_number, numbered, other_word}
use Rattle.np_example_files.proofs.pieces.add_numbered.Goals as goal

pub returns-in_err-byte-clause-refused : goal.returns-in_err-byte-clause-refused
returns-in_err-byte-clause-refused c =
    let none = no_number (2 ^ 8) c.args.number c.in-Some.word.now _ c.byte_of.result c.byte_of.ensures c.in_err-byte.was in
    let p = err_from_is_err_and c.from_residual.result c.from_residual.ensures.1 in
    faulty_number c.args.rest.now c.args.number p.0 c.from_residual.result
    (other_word c.args.rest.now _ c.loop-word.word-iterator c.next.new.self c.loop-word.yielded c.in-Some.word
    (ap split_whitespace_rest c.into_iter-word-iterator.ensures.into_iter_gives ∙ c.split_whitespace-word-items.ensures.rest) c.loop-word.yielded_by c.in-Some.ensures.steps none.0)
    (p.2 ∙ none.1) p.1

pub returns-clause-made : goal.returns-clause-made
returns-clause-made c =
    numbered c.args.rest.now _ _ _ c.loop-word.word-iterator c.next.new.self c.loop-word.yielded
    (ap split_whitespace_rest c.into_iter-word-iterator.ensures.into_iter_gives ∙ c.split_whitespace-word-items.ensures.rest) c.loop-word.yielded_by c.loop-word.invariant.2 c.in-None.ensures.steps
