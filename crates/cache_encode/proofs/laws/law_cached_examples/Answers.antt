use Rattle.cache_encode.proofs.ExampleTexts.{low_text-of-seven, text-of-post, text-of-creation}
use Rattle.cache_encode.proofs.laws.law_cached_examples.Goals as goal

pub returns-clause-program : goal.returns-clause-program
returns-clause-program c = low_text-of-seven

pub returns-clause-post : goal.returns-clause-post
returns-clause-post c = text-of-post

pub returns-clause-creation : goal.returns-clause-creation
returns-clause-creation c = text-of-creation
