use Rattle.np_configuration.proofs.Travels.{travels-at, travels-way}
use Rattle.np_configuration.proofs.places.Places.put.Goals as goal
use Rattle.np_configuration.proofs.places.Places.put.Goals.{in-At, in-Way}

pub invariant_of-self : goal.invariant_of-self
invariant_of-self c = elim c.match-place.branch [
  | in-At w ↦ rw (c.put-2.ensures.items, w.self-inside-is, w.remove.ensures.members, w.in-At.is) (travels-at c.self.invariant c.args.agent w.in-At.field-0)
  | in-Way w ↦ rw (c.put-2.ensures.items, w.self-inside-is, w.put.ensures.members, w.in-Way.is) (travels-way c.self.invariant c.args.agent w.in-Way.field-0)
]
