use Rattle.std.proofs.Common.{rules, ◌≡◌, Some, position}
use Rattle.std.proofs.lemmas.Option.{same_Some}
use Rattle.np_io.specs.MemTexts.{is_named}
use Rattle.np_io.proofs.Places.{stands, is_held}
use Rattle.np_io.proofs.mem_texts.MemTextsTexts.begin.Goals as goal

pub invariant_of-self-2 : goal.invariant_of-self-2
invariant_of-self-2 c = record {
  counts = c.self.invariant.counts;
  stands = λ i e. let it = stands _ _ _ c.in-Some.ensures in rw (← same_Some _ _ e) (it.0, it.1);
}

pub returns-clause-last : goal.returns-clause-last
returns-clause-last c =
    let it = stands c.self.inside.texts c.args.name.now c.in-Some.place c.in-Some.ensures in rw it.1.here it.2

pub returns-clause-exact : goal.returns-clause-exact
returns-clause-exact c =
    let is : Some c.in-Some.place ≡ position (is_named c.args.name.now) c.args.self.now.texts =
    rw (← c.self.view_is) c.in-Some.ensures in
    rw (is_held c.args.self.now c.args.name.now c.in-Some.place is) (search rules)
