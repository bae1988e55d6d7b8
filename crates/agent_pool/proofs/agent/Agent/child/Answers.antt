use Rattle.std.proofs.Common.{[], ◌∷◌, Some, sym, ap, ◌∙◌}
use Rattle.std.specs.FinMap as map
use Rattle.np_syntax.specs.Options.{◌>>=◌}
use Rattle.np_calculus.specs.declared.config.Place.TheVariants as place
use Rattle.np_calculus.specs.Changes.{put, still}
use Rattle.np_calculus.specs.Rows.{leaves_outside}
use Rattle.agent_pool.specs.Held.{atom_of}
use Rattle.agent_pool.specs.Pools.{atoms_of}
use Rattle.agent_pool.proofs.Maps.{gone-on}
use Rattle.agent_pool.proofs.agent.Agent.child.Goals as goal

pub returns-clause-row : goal.returns-clause-row
returns-clause-row c =
    let ts = c.args.code.now.processes in
    let old = c.args.self.now in
    record {
      body = c.in_ok-body.body;
      row = λ site.
          ap (λ o. o >>= leaves_outside (atoms_of ts old)) (c.in_ok-body.ensures site)
          ∙ ap (λ m. Some (record still { places = put c.args.agent (place.At site) ∷ []; atoms = put c.args.mark (atom_of ts c.args.agent c.in_ok-body.body) ∷ [] }, m))
          (sym (gone-on ts old c.go_on.new.self c.args.r.actor _ c.in_ok-body.rest c.in_ok-go_on.ensures.name c.in_ok-go_on.ensures.atoms));
      name = c.in_ok-child.ensures.name;
      atoms = c.in_ok-child.ensures.atoms ∙ ap (λ w. map.insert map.empty c.args.mark (w, c.in_ok-body.body)) c.wait_of-wait.ensures;
    }
