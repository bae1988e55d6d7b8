use Rattle.std.proofs.Common.{◌≡◌, ◌∙◌, rules, arith}
use Rattle.std.proofs.lemmas.Grind.{common_steps}
use Rattle.np_example_files.specs.Changes.{exchanged}
use Rattle.np_example_files.proofs.Exchanges.{exchanged_swap}
use Rattle.np_example_files.proofs.change.exchanged.Goals as goal

pub returns-clause-swapped : goal.returns-clause-swapped
returns-clause-swapped c =
    let made : c.append-4.new.self ≡ exchanged c.args.events.now c.args.earlier c.args.later = first_of (search rules, grind (arith, common_steps)) in
    λ order last. made ∙ exchanged_swap c.args.events.now c.args.earlier c.args.later order last
