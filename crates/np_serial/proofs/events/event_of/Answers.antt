use Rattle.std.proofs.Common.{◌≡◌, Some, sym, ap, subst, ◌∙◌}
use Rattle.std.specs.Option.{option_copied}
use Rattle.std.specs.FinMap as map
use Rattle.np_syntax.specs.declared.event.Event.{Event}
use Rattle.np_calculus.specs.declared.config.Place.TheVariants as place
use Rattle.np_configuration.specs.Next.{IsNext}
use Rattle.np_serial.specs.Serial.{IsEnabled}
use Rattle.np_calculus.proofs.Enabled.{arrival-enabled, landing-enabled}
use Rattle.np_serial.proofs.events.event_of.Goals as goal

pub returns-in-Arrives : goal.returns-in-Arrives
returns-in-Arrives c =
    let comes : map.get c.args.c.now.places c.in-Arrives.agent ≡ Some (place.Way c.in-Arrives.site) = subst (IsNext c.args.c.now) c.in-Arrives.is c.requires.next in
    subst (λ (e : Event). IsEnabled c.args.c.now e c.args.first c.args.second) (sym c.arrival.ensures) (record { enabled = arrival-enabled _ _ _ comes; made = tt })

pub returns-in-Some : goal.returns-in-Some
returns-in-Some c =
    let flies : map.get c.args.c.now.packets c.in-Lands.mark ≡ Some c.in-Some.packet.now = sym c.packet.ensures ∙ ap option_copied c.in-Some.is in
    subst (λ (e : Event). IsEnabled c.args.c.now e c.args.first c.args.second) (sym c.landing.ensures) (record { enabled = landing-enabled _ _ _ flies; made = tt })
