use Rattle.std.proofs.Common.{refl, sym}
use Rattle.site_state.proofs.Seats.{given_some, keeps_with}
use Rattle.site_state.proofs.coming.give.Goals as goal

pub returns : goal.returns
returns c =
    let stood = sym c.in-Some.ensures.agent in
    record {
      given = given_some c.args.agents.now.agents _ c.args.to c.args.mark c.args.chan c.args.value c.args.tag c.in-Some.agent.now stood
          (record { after = c.receive.new.self; name = c.receive.ensures.name; atoms = c.in-Ok.ensures.atoms; agents = refl });
      keeps = keeps_with c.args.agents.now c.args.to c.in-Some.agent.now c.receive.new.self stood c.receive.ensures.name;
    }
