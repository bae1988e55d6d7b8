use Rattle.std.proofs.Common.{ℕ, Option, subst, rules}
use Rattle.std.specs.Prelude.{◌↔◌, IsNone}
use Rattle.run_save.specs.Ours.{IsOurs}
use Rattle.site_crew.specs.Lists.{AreWithin}
use Rattle.site_crew.proofs.past.refusal.Goals as goal

pub unreachable-requires : goal.unreachable-requires
unreachable-requires c =
    let ours = subst (λ (o : Option ℕ). IsNone o ↔ IsOurs c.args.low.now c.args.events.now) c.in-Ok-None.field-0-is c.in-Ok-None.ensures.ours in
    let within = subst (λ (n : ℕ). AreWithin n c.args.budget c.args.events.now) c.requires.sites c.in-None.ensures in
    c.requires.stops (record { runs = c.requires.run; few = c.requires.few; within = within; ours = ours.0 (search rules) })
