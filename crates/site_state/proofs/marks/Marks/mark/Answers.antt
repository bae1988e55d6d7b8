use Rattle.std.proofs.Common.{ℕ, subst, bit_or, ◌*◌, ◌%◌, ◌^◌}
use Rattle.site_state.specs.Lines.{IsMarked}
use Rattle.site_state.proofs.Bits.{is_marked}
use Rattle.site_state.proofs.marks.Marks.mark.Goals as goal

pub returns-then-site-lt-MOST_SITES : goal.returns-then-site-lt-MOST_SITES
returns-then-site-lt-MOST_SITES c =
    subst (λ (m : ℕ). IsMarked m c.args.site (bit_or c.self.inside.bits (1 * 2 ^ c.args.site % 2 ^ 128))) c.self.view_is (is_marked c.self.inside.bits c.args.site c.if-site-lt-MOST_SITES.true)
