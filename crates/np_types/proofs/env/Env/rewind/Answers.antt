use Rattle.std.proofs.lemmas.Grind.{common_steps}
use Rattle.std.proofs.Common.{sym, ◌∙◌, arith}
use Rattle.np_types.proofs.Slots.{held_pop, rewound-push}
use Rattle.np_types.proofs.env.Env.rewind.Goals as goal

pub back-requires : goal.back-requires
back-requires c = (held_pop c.pop.new.self (c.in-Some.binder, c.in-Some.old) c.loop-binder.self (rw (← c.in-Some.ensures) c.loop-binder.invariant.held)).0

pub loop-binder-preserved : goal.loop-binder-preserved
loop-binder-preserved c = rw c.back.ensures (record {
  held = (held_pop c.pop.new.self (c.in-Some.binder, c.in-Some.old) c.loop-binder.self (rw (← c.in-Some.ensures) c.loop-binder.invariant.held)).1;
  same = sym (rewound-push c.pop.new.self (c.in-Some.binder, c.in-Some.old) c.loop-binder.self) ∙ rw (← c.in-Some.ensures) c.loop-binder.invariant.same;
})

pub loop-binder-smaller : goal.loop-binder-smaller
loop-binder-smaller c = grind (arith, common_steps)
