use Rattle.std.proofs.Common.{lit<}
use Rattle.std.proofs.lemmas.Str.Pattern.{strip_prefix_char}
use Rattle.np_example_files.proofs.Quotes.{behind_from_strip}
use Rattle.np_example_files.proofs.pieces.behind_quote.Goals as goal

pub returns : goal.returns
returns c = behind_from_strip c.args.text.now c.strip_prefix.result (strip_prefix_char 34 c.args.text.now c.strip_prefix.result c.strip_prefix.ensures.cases (lit< tt))
