use Rattle.std.proofs.lemmas.Grind.{common_steps}
use Rattle.std.proofs.Common.{subst, sym, arith}
use mathlib.Core.List.{[], ◌∷◌}
use mir.Syntax.{static}
use base.Fml.{Lft}
use denote.Exit.{no}
use denote.Param.{param}
use denote.RattleType.{RattleType}
use denote.Ref.{ShrRef}
use denote.Struct.Tuple.{TupleAt, type_at}
use denote.Param.Send.{IsSync, arg_send, param_send, sendable}
use denote.Param.SendFields.{declared_sync}
use Rattle.std.proofs.Crossing.{crosses}
use Rattle.std.specs.contracts.alloc.Global as heap
use Rattle.np_code.specs.contracts.code.Code as code
use Rattle.site_turn.specs.contracts.effort.Effort as effort
use Rattle.site_turn.specs.contracts.signs.Signs as signs
use Rattle.site_turn.specs.declared.seat.Seat.{Seat}
use Rattle.site_turn.specs.Turns.{Seated}
use Rattle.site_turn.proofs.Crossing.Codes.{code_sync}
use Rattle.site_turn.proofs.Crossing.Seats.{seat_send}
use Rattle.site_turn.proofs.Crossing.Signs.{signs_sync}
use Rattle.site_crew.proofs.turns.threads_turns.Goals as goal

-- what the closure reads: the handle, the allocator, the code, the gate, the signs and the effort
captured_sync : (R G : RattleType) (κ₁ κ₂ κ₃ κ₄ κ₅ : Lft) → IsSync R → IsSync G
    → IsSync (TupleAt [] (ShrRef static κ₁ R ∷ ShrRef static [] heap.the_row ∷ ShrRef static κ₂ code.the_row ∷ ShrRef static κ₃ G ∷ ShrRef static κ₄ signs.the_row ∷ ShrRef static κ₅ effort.the_row ∷ []))
captured_sync R G κ₁ κ₂ κ₃ κ₄ κ₅ r s = declared_sync (type_at [] (ShrRef static κ₁ R ∷ ShrRef static [] heap.the_row ∷ ShrRef static κ₂ code.the_row ∷ ShrRef static κ₃ G ∷ ShrRef static κ₄ signs.the_row ∷ ShrRef static κ₅ effort.the_row ∷ []))
    (search (sendable, r), (search (sendable, crosses) depth 20, (search (sendable, code_sync), (search (sendable, s), (search (sendable, signs_sync), (search (sendable, crosses) depth 20, tt))))))

pub for_each_mut-requires-send-T : goal.for_each_mut-requires-send-T
for_each_mut-requires-send-T g c κs within = param_send 1 _ (arg_send _ no _ (seat_send _ c.type_bounds.send-P))

pub for_each_mut-requires-sync-F : goal.for_each_mut-requires-sync-F
for_each_mut-requires-sync-F g c κs within = record { shared = (captured_sync (param 0 g.row.R) (param 2 g.row.G) _ _ _ _ _ c.type_bounds.sync-R c.type_bounds.sync-G).shared }

pub for_each_mut-requires-clause-accepts : goal.for_each_mut-requires-clause-accepts
for_each_mut-requires-clause-accepts g c κs within = λ i p less is. (
  subst (λ (s : Seat _). Seated g.P.Port c.args.code.now s) (sym is) (c.requires i p.now less),
  (
    param_send 1 _ (arg_send _ no _ c.type_bounds.send-P),
    search (sendable, c.type_bounds.sync-R),
    search (sendable, c.type_bounds.sync-G),
  ),
)

pub returns : goal.returns
returns g c = grind (arith, common_steps)
