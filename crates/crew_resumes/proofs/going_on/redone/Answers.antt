use Rattle.std.proofs.lemmas.Grind.{common_steps}
use Rattle.std.proofs.Common.{arith, subst}
use Rattle.np_syntax.specs.declared.program.LowProgram.{LowProgram}
use Rattle.site_crew.specs.Lists.{IsToFollow}
use Rattle.crew_resumes.proofs.Later.{have_later, in_place}
use Rattle.crew_resumes.proofs.going_on.redone.Goals as goal

pub returns-in-Ok-clause-resumed : goal.returns-in-Ok-clause-resumed
returns-in-Ok-clause-resumed g c =
    let before = c.redo.new.self in
    let after = c.run.new.self in
    let again = c.in_ok-redo.ensures.ok c.if-not-branch.false in
    c.law_resumes.ensures c.args.events.now before.histories after.histories (in_place _ _ before.histories c.redo.ensures.run.1.sites)
    (in_place _ _ after.histories c.run.ensures.run.1.sites) again.of (have_later _ before after again.clocks c.run.ensures.later)

pub returns-in-Err-clause-code : goal.returns-in-Err-clause-code
returns-in-Err-clause-code g c = grind (arith, common_steps)

pub returns-in-Ok-clause-followed : goal.returns-in-Ok-clause-followed
returns-in-Ok-clause-followed g c = grind (arith, common_steps)

pub returns-in-Ok-clause-code : goal.returns-in-Ok-clause-code
returns-in-Ok-clause-code g c = grind (arith, common_steps)

pub returns-then-not-branch-clause-never : goal.returns-then-not-branch-clause-never
returns-then-not-branch-clause-never g c =
    subst (λ (low : LowProgram). IsToFollow low c.args.crew.now.budget c.args.events.now → ⊥) c.requires.code (c.in_ok-redo.ensures.never c.if-not-branch.true)
