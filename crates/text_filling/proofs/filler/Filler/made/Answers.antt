use Rattle.std.proofs.Common.{subst, sym}
use Rattle.infrastructure_texts.specs.Pieces.{Writes}
use Rattle.infrastructure_texts.specs.Filling.{first, made}
use Rattle.text_filling.specs.Hands.{hand_of, all_behind}
use Rattle.text_filling.proofs.filler.Filler.made.Goals as goal

pub returns-in-Takes-clause-made : goal.returns-in-Takes-clause-made
returns-in-Takes-clause-made c =
    subst (λ x. Writes c.takes.result (made (hand_of c.args.self) x (all_behind c.args.behind.now))) (sym c.in-Takes.is)
    (c.takes.ensures _ c.nearest-in-Takes.ensures.first)

pub returns-in-Serves-clause-made : goal.returns-in-Serves-clause-made
returns-in-Serves-clause-made c =
    subst (λ x. Writes c.serves.result (made (hand_of c.args.self) x (all_behind c.args.behind.now))) (sym c.in-Serves.is)
    (c.serves.ensures _ c.nearest-in-Serves.ensures.first)

pub returns-in-Goes-clause-made : goal.returns-in-Goes-clause-made
returns-in-Goes-clause-made c =
    subst (λ x. Writes c.goes.result (made (hand_of c.args.self) x (all_behind c.args.behind.now))) (sym c.in-Goes.is)
    (c.goes.ensures _ c.nearest-in-Goes.ensures.first)

pub returns-in-Meets-clause-made : goal.returns-in-Meets-clause-made
returns-in-Meets-clause-made c =
    let unmet = subst (λ ps. Writes c.nearest-unmet.result (first ps)) c.nearest-met.ensures.others c.nearest-unmet.ensures.first in
    subst (λ x. Writes c.meets.result (made (hand_of c.args.self) x (all_behind c.args.behind.now))) (sym c.in-Meets.is)
    (c.meets.ensures _ _ c.nearest-met.ensures.first unmet)

pub returns-in-Looks-clause-made : goal.returns-in-Looks-clause-made
returns-in-Looks-clause-made c =
    let unmet = subst (λ ps. Writes c.nearest-unmet-in-Looks.result (first ps)) c.nearest-met-in-Looks.ensures.others c.nearest-unmet-in-Looks.ensures.first in
    subst (λ x. Writes c.looks.result (made (hand_of c.args.self) x (all_behind c.args.behind.now))) (sym c.in-Looks.is)
    (c.looks.ensures _ _ c.nearest-met-in-Looks.ensures.first unmet)
