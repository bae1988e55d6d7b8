use Rattle.std.proofs.Common.{◌||◌, sym, ap, ◌∙◌}
use Rattle.history_conditions.specs.Born.{is_own}
use Rattle.history_conditions.proofs.Born.{born_is}
use Rattle.history_conditions.proofs.made.is_born.Goals as goal

pub returns-then-is_made_in : goal.returns-then-is_made_in
returns-then-is_made_in c =
    let told = born_is c.args.before.now c.args.reached.now c.args.name c.requires in
    let made = sym c.is_made_in.ensures ∙ c.if-is_made_in.true in
    c.if-is_made_in.true ∙ sym (told ∙ ap (λ t. t || is_own c.args.reached.now.sites c.args.name) made)

pub returns-else-is_made_in : goal.returns-else-is_made_in
returns-else-is_made_in c =
    let told = born_is c.args.before.now c.args.reached.now c.args.name c.requires in
    let made = sym c.is_made_in.ensures ∙ c.if-is_made_in.false in
    c.is_own.ensures ∙ ap (λ n. is_own n c.args.name) c.sites.ensures ∙ sym (told ∙ ap (λ t. t || is_own c.args.reached.now.sites c.args.name) made)
