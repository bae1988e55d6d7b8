use Rattle.std.proofs.lemmas.Str.Pattern.{starts_text}
use Rattle.np_example_files.proofs.pieces.begins.Goals as goal

pub returns : goal.returns
returns c = starts_text c.starts_with.result c.args.word.now c.args.line.now c.starts_with.ensures.cases
