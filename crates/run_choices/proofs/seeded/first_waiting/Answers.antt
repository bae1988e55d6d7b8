use Rattle.std.proofs.Common.{ℕ, subst}
use Rattle.run_choices.specs.Held.{Agrees, held}
use Rattle.run_choices.proofs.Following.{first-lists}
use Rattle.run_choices.proofs.seeded.first_waiting.Goals as goal

pub returns : goal.returns
returns c =
    let start = c.args.start.now in
    first-lists start c.requires (held c.new-waiting.result) (held c.refresh.new.self) (held c.refresh-2.new.self) c.new-waiting.ensures.filed c.new-waiting.ensures.none
    (subst (λ (s : ℕ). Agrees start (held c.refresh.new.self) (record { site = s; n = 11 })) c.sites-site.ensures c.in_ok-refresh.ensures.here)
    c.in_ok-refresh.ensures.kept c.in_ok-refresh-2.ensures.step
    (subst (λ (s : ℕ). Agrees start (held c.refresh-2.new.self) (record { site = s; n = 12 })) c.sites-site.ensures c.in_ok-refresh-2.ensures.here)
    c.in_ok-refresh-2.ensures.kept
