use Rattle.daemon_encode.proofs.ExampleTexts.{low_text-of-seven}
use Rattle.daemon_encode.proofs.laws.law_examples.Goals as goal

pub returns : goal.returns
returns c = low_text-of-seven
