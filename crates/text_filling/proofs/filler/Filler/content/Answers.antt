use Rattle.std.proofs.Common.{subst, sym}
use Rattle.infrastructure_texts.specs.Pieces.{Writes}
use Rattle.infrastructure_texts.specs.Filling.{as_content}
use Rattle.text_filling.specs.Hands.{hand_of}
use Rattle.text_filling.proofs.filler.Filler.content.Goals as goal

pub returns-in-With : goal.returns-in-With
returns-in-With c = subst (λ s. Writes c.with.result (as_content (hand_of c.args.self) s)) (sym c.in-With.is) (c.with.ensures _ _ _ c.variable.ensures c.variable-in-With.ensures c.variable-in-With-2.ensures)
