use Rattle.std.proofs.Common.{◌≡◌, ◌∙◌, rules, arith}
use Rattle.std.proofs.lemmas.Grind.{common_steps}
use Rattle.np_example_files.specs.Changes.{moved}
use Rattle.np_example_files.proofs.Exchanges.{moved_insert}
use Rattle.np_example_files.proofs.change.moved.Goals as goal

pub returns-clause-inserted : goal.returns-clause-inserted
returns-clause-inserted c =
    let made : c.append-3.new.self ≡ moved c.args.events.now c.args.earlier c.args.later = first_of (search rules, grind (arith, common_steps)) in
    λ event order there. made ∙ moved_insert c.args.events.now c.args.earlier c.args.later event order there
