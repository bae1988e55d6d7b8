use Rattle.std.proofs.Common.{◌∙◌, ap, true}
use Rattle.clap.specs.Words.{App}
use Rattle.clap.specs.Simple.{app_of_fields}
use Rattle.np_words.proofs.arguments.start.Goals as goal

abbrev without_name : App → App
without_name a = record a { top = record a.top { no_binary_name = true } }

pub returns : goal.returns
returns c = ap app_of_fields c.no_binary_name.ensures ∙ ap without_name c.new.ensures.app
