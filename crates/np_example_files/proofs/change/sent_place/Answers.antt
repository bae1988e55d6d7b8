use Rattle.np_example_files.proofs.Latest.{not_sent, sent_found}
use Rattle.np_example_files.proofs.Places.{item}
use Rattle.np_example_files.proofs.change.sent_place.Goals as goal

pub returns-in-Land : goal.returns-in-Land
returns-in-Land c =
    sent_found c.args.events.now c.args.place c.in_ok-landing.landing.now _
    (item _ _ c.in_ok-landing.landing c.in_ok-landing.ensures.lookup) c.in-Land.is c.latest_of_actor.ensures

pub returns-in_default : goal.returns-in_default
returns-in_default c = not_sent c.args.events.now c.args.place c.in_ok-landing.landing.now (item _ _ c.in_ok-landing.landing c.in_ok-landing.ensures.lookup) c.in_default.not-Land
