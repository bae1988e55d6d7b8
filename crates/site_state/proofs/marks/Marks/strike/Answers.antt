use Rattle.std.proofs.Common.{ℕ, subst, bit_and, ◌*◌, ◌%◌, ◌^◌}
use Rattle.std.specs.Int.{bit_not, w128}
use Rattle.site_state.specs.Lines.{IsStruck}
use Rattle.site_state.proofs.Bits.{is_struck}
use Rattle.site_state.proofs.marks.Marks.strike.Goals as goal

pub returns-then-site-lt-MOST_SITES : goal.returns-then-site-lt-MOST_SITES
returns-then-site-lt-MOST_SITES c =
    subst (λ (m : ℕ). IsStruck m c.args.site (bit_and c.self.inside.bits (bit_not w128 (1 * 2 ^ c.args.site % 2 ^ 128)))) c.self.view_is (is_struck c.self.inside.bits c.args.site c.if-site-lt-MOST_SITES.true)
