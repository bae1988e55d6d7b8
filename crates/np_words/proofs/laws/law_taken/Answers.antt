use Rattle.np_words.proofs.Walks.{words_taken}
use Rattle.np_words.proofs.laws.law_taken.Goals as goal

pub returns : goal.returns
returns c = words_taken
