use Rattle.std.proofs.Common.{ap, ◌∙◌}
use Rattle.std.specs.Option.{ok_or}
use Rattle.np_example_files.specs.declared.fail.ExampleFail.TheVariants as fail
use Rattle.np_example_files.proofs.Numerals.{number_read}
use Rattle.np_example_files.proofs.number.number_of.Goals as goal

pub returns : goal.returns
returns c = c.ok_or.ensures.value ∙ ap (λ read. ok_or read (fail.Line c.args.line)) (c.ok.ensures.value ∙ number_read 64 c.args.text.now c.parse.result c.parse.ensures.value.0)
