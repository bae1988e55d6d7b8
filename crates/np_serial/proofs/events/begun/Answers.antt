use Rattle.std.proofs.Common.{◌≡◌, Some, sym, ap, ◌∙◌}
use Rattle.std.specs.Option.{option_copied}
use Rattle.std.specs.FinMap as map
use Rattle.np_serial.specs.Serial.{actor_of}
use Rattle.np_serial.proofs.SerialEvents.{actor-there, begun-enabled, begun-some, standing}
use Rattle.np_serial.proofs.events.begun.Goals as goal

pub unreachable-requires : goal.unreachable-requires
unreachable-requires c =
    let a = actor-there c.args.c.now c.args.ready c.requires.next.0 in
    let none = ap option_copied (sym c.in_default.is) ∙ c.atom.ensures ∙ ap (map.get c.args.c.now.atoms) c.actor_of-actor.ensures ∙ a.1 in
    cc

pub unreachable-requires-in_default-begun_by : goal.unreachable-requires-in_default-begun_by
unreachable-requires-in_default-begun_by c =
    let there : map.get c.args.c.now.atoms (actor_of c.args.ready) ≡ Some c.in-Some.atom.now = ap (map.get c.args.c.now.atoms) (sym c.actor_of-actor.ensures) ∙ sym c.atom.ensures ∙ ap option_copied c.in-Some.is in
    let place = standing c.args.c.now c.requires.reached c.requires.next.1 _ c.in-Some.atom.now there in
    begun-some c.args.c.now c.requires.reached c.args.ready c.requires.next.0 c.in-Some.atom.now there place.0 place.1 c.args.first c.args.second c.requires.new
    (sym c.begun_by.ensures ∙ c.in_default-begun_by.is)

pub site_of-site-requires : goal.site_of-site-requires
site_of-site-requires c =
    let there : map.get c.args.c.now.atoms (actor_of c.args.ready) ≡ Some c.in-Some.atom.now = ap (map.get c.args.c.now.atoms) (sym c.actor_of-actor.ensures) ∙ sym c.atom.ensures ∙ ap option_copied c.in-Some.is in
    standing c.args.c.now c.requires.reached c.requires.next.1 _ c.in-Some.atom.now there

pub returns : goal.returns
returns c =
    let there : map.get c.args.c.now.atoms (actor_of c.args.ready) ≡ Some c.in-Some.atom.now = ap (map.get c.args.c.now.atoms) (sym c.actor_of-actor.ensures) ∙ sym c.atom.ensures ∙ ap option_copied c.in-Some.is in
    rw (c.actor_of-actor.ensures, c.taken_by.ensures, c.in_ok-made.ensures)
    (begun-enabled c.args.c.now c.requires.reached c.args.ready c.requires.next.0 c.in-Some.atom.now there c.site_of-site.result c.site_of-site.ensures c.args.first c.args.second c.requires.new
    c.in-Some-begun_by.kind (sym c.begun_by.ensures ∙ c.in-Some-begun_by.is))
