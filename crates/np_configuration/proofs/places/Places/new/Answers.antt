use Rattle.np_configuration.proofs.Travels.{travels-none}
use Rattle.np_configuration.proofs.places.Places.new.Goals as goal

pub invariant_of-result : goal.invariant_of-result
invariant_of-result c = rw (c.new.ensures, c.new-2.ensures) travels-none
