use Rattle.std.proofs.lemmas.Grind.{common_steps}
use Rattle.std.proofs.Common.{◌≡◌, Some, rules, arith}
use Rattle.std.specs.FinMap as map
use Rattle.np_configuration.proofs.Keeping.{kept-flight, kept-landed}
use Rattle.np_configuration.proofs.NewOutputs.{kept-output}
use Rattle.np_configuration.proofs.cfg.Cfg.apply_land.Goals as goal

pub invariant_of-self : goal.invariant_of-self
invariant_of-self c = rw (c.remove.ensures.items) (kept-landed c.self.invariant c.args.e.now.actor)

pub invariant_of-self-2 : goal.invariant_of-self-2
invariant_of-self-2 c =
    let flies : map.get c.self.inside.packets.items c.args.e.now.actor ≡ Some c.in_ok-packet.packet.now = search rules in
    rw (c.in_ok-file.ensures.ok, c.put.ensures.items, c.in_ok-file.ensures.atoms, c.remove-2.ensures.items, c.in_ok-made.ensures, c.in_ok-copy.ensures)
    (kept-output (kept-landed c.self.invariant c.args.e.now.actor) c.args.e.now.actor c.in_ok-packet.packet.now.agent c.in_ok-packet.packet.now.chan
    c.in_ok-packet.packet.now.value c.args.e.now.tag (kept-flight c.self.invariant c.args.e.now.actor c.in_ok-packet.packet.now flies))

pub put-requires : goal.put-requires
put-requires c = grind (arith, common_steps)

pub invariant_of-self-in_err-file : goal.invariant_of-self-in_err-file
invariant_of-self-in_err-file c = grind (arith, common_steps)
