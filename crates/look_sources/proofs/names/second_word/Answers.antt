use Rattle.look_sources.proofs.Standing.{stands-behind, stands-front}
use Rattle.look_sources.proofs.names.second_word.Goals as goal

pub returns : goal.returns
returns c =
    stands-behind _ _ _ _ c.behind-from.ensures
    (stands-behind _ _ _ _ c.behind-gap.ensures (stands-behind _ _ _ _ c.behind-word.ensures (stands-front _ _ _ c.front.ensures)))
