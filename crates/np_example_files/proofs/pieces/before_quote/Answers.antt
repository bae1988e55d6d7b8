use Rattle.std.proofs.Common.{lit<}
use Rattle.std.proofs.lemmas.Str.Pattern.{strip_suffix_char}
use Rattle.np_example_files.proofs.Quotes.{before_from_strip}
use Rattle.np_example_files.proofs.pieces.before_quote.Goals as goal

pub returns : goal.returns
returns c = before_from_strip c.args.text.now c.strip_suffix.result (strip_suffix_char 34 c.args.text.now c.strip_suffix.result c.strip_suffix.ensures.cases (lit< tt))
