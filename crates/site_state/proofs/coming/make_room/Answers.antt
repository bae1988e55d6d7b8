use Rattle.std.proofs.Common.{refl, sym}
use Rattle.std.proofs.lemmas.Result.{on_ok_weaker}
use Rattle.site_state.proofs.Seats.{keeps_with, same_again, spare_back}
use Rattle.site_state.proofs.coming.make_room.Goals as goal

pub returns-in-Some : goal.returns-in-Some
returns-in-Some c = record {
  same = same_again _ _ c.args.name _ _ (sym c.in-Some.ensures.agent) refl c.make_room.ensures.unchanged;
  keeps = keeps_with c.args.agents.now c.args.name c.in-Some.agent.now c.make_room.new.self (sym c.in-Some.ensures.agent) c.make_room.ensures.unchanged.name;
  spare = on_ok_weaker c.make_room.result (λ room. spare_back _ c.args.agents.now.agents c.args.name c.make_room.new.self refl room) c.make_room.ensures.ok;
}
