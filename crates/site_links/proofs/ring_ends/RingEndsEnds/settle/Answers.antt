use Rattle.std.proofs.Math.Logic.{∥∥₁_map}
use Rattle.site_links.proofs.Resting.{rest_settled, rest_none, rest_free}
use Rattle.site_links.proofs.ring_ends.RingEndsEnds.settle.Goals as goal

pub returns-then-rests-clause-settled : goal.returns-then-rests-clause-settled
returns-then-rests-clause-settled g c = let h = c.rests.ensures c.if-rests.true in rest_settled g.row.I.coded (∥∥₁_map c.requires (λ m. m.1)) h.0 h.1

pub returns-then-rests-clause-free : goal.returns-then-rests-clause-free
returns-then-rests-clause-free g c = let h = c.rests.ensures c.if-rests.true in rest_free g.row.I.coded (∥∥₁_map c.requires (λ m. m.1)) h.0 h.1

pub returns-then-rests-clause-waiting : goal.returns-then-rests-clause-waiting
returns-then-rests-clause-waiting g c = let h = c.rests.ensures c.if-rests.true in rest_none g.row.I.coded (∥∥₁_map c.requires (λ m. m.1)) h.0 h.1

pub settle_ring-spare-requires : goal.settle_ring-spare-requires
settle_ring-spare-requires g c = let e = c.args.self.now in (∥∥₁_map c.requires (λ m. m.0), e.size, e.free)
