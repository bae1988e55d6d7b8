use Rattle.std.proofs.Common.{◌≤◌, ◌+◌, arith, length}
use Rattle.std.proofs.Math.Logic.{∥∥₁_elim, ∥∥₁_map}
use Rattle.std.proofs.Props.{props}
use Rattle.std.proofs.lemmas.Grind.{common_steps}
use Rattle.site_links.specs.declared.places.TheConstants.{PLACES}
use Rattle.site_links.proofs.Resting.{rest_settled, rest_none, rest_free}
use Rattle.site_links.proofs.tray_ends.TrayEndsEnds.settle_own.Goals as goal

pub returns-clause-stays : goal.returns-clause-stays
returns-clause-stays g c = grind (arith, common_steps)

pub returns-clause-settled : goal.returns-clause-settled
returns-clause-settled g c = grind (arith, common_steps)

pub returns-clause-same : goal.returns-clause-same
returns-clause-same g c = grind (arith, common_steps)

pub invariant_of-self : goal.invariant_of-self
invariant_of-self g c = grind (arith, common_steps)

pub returns-then-rests-clause-settled : goal.returns-then-rests-clause-settled
returns-then-rests-clause-settled g c = let h = c.rests.ensures c.if-rests.true in rest_settled g.row.I.coded (∥∥₁_map c.requires (λ m. m.3)) h.0 h.1

pub returns-then-rests-clause-free : goal.returns-then-rests-clause-free
returns-then-rests-clause-free g c = let h = c.rests.ensures c.if-rests.true in rest_free g.row.I.coded (∥∥₁_map c.requires (λ m. m.3)) h.0 h.1

pub returns-then-rests-clause-waiting : goal.returns-then-rests-clause-waiting
returns-then-rests-clause-waiting g c = let h = c.rests.ensures c.if-rests.true in rest_none g.row.I.coded (∥∥₁_map c.requires (λ m. m.3)) h.0 h.1

pub hand_over-requires-clause-pair : goal.hand_over-requires-clause-pair
hand_over-requires-clause-pair g c = ∥∥₁_map c.requires (λ m. m.0)

pub hand_over-requires-clause-even : goal.hand_over-requires-clause-even
hand_over-requires-clause-even g c = ∥∥₁_elim c.requires (Prim.hlevel props) (λ m. m.1)

pub hand_over-requires-clause-room : goal.hand_over-requires-clause-room
hand_over-requires-clause-room g c =
    let room : length c.args.self.now.inside.items + length c.args.self.now.out.items ≤ PLACES = ∥∥₁_elim c.requires (Prim.hlevel props) (λ m. omega (arith, m.2)) in
    let reserved = c.args.self.now.reserved.1 in omega (arith, room, reserved)

pub overflow_cast-self : goal.overflow_cast-self
overflow_cast-self g c =
    let room : length c.args.self.now.inside.items + length c.args.self.now.out.items ≤ PLACES = ∥∥₁_elim c.requires (Prim.hlevel props) (λ m. omega (arith, m.2)) in
    grind (arith, common_steps, room)

pub overflow_sub-self : goal.overflow_sub-self
overflow_sub-self g c =
    let room : length c.args.self.now.inside.items + length c.args.self.now.out.items ≤ PLACES = ∥∥₁_elim c.requires (Prim.hlevel props) (λ m. omega (arith, m.2)) in
    grind (arith, common_steps, room)
