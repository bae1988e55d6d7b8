-- Where one agent stands at a site that has made no name, the fork that it can do is an event of the site.
use Rattle.std.proofs.Common.{◌≡◌, refl, ap, ◌∙◌}
use Rattle.std.specs.FinMap as map
use Rattle.np_syntax.specs.declared.event.Kind.TheVariants as kind
use Rattle.np_syntax.specs.declared.event.Made.TheVariants as made
use Rattle.np_tables.specs.Names.{NameMap}
use Rattle.np_tables.proofs.Tables.{put_here}
use Rattle.np_code.specs.Programs.{ProgramTable}
use Rattle.agent_pool.specs.Pools.{Pool, atoms_of}
use Rattle.agent_pool.specs.Readies.{IsReady}
use Rattle.agent_pool.specs.declared.ready.Ready.{Ready}
use Rattle.site_state.specs.Doing.{IsPossible}
use Rattle.site_state.specs.Standings.{Standing}

module _ (code : ProgramTable) (s : Standing) (p : Pool) (r : Ready) where
  pub is_possible : s.site ≡ 0 → s.next ≡ 0 → s.agents ≡ map.insert map.empty p.name p → r.kind ≡ kind.Fork
      → IsReady code (atoms_of code.processes p) r
      → IsPossible code s (record {
        site = 0;
        kind = r.kind;
        actor = r.actor;
        other = r.other;
        tag = r.tag;
        made = made.One (record { site = 0; n = 0 });
      })
  is_possible number next agents fork ready = record {
    agent = p.name;
    can = record { agent = p; here = ap (λ (m : NameMap Pool). map.get m p.name) agents ∙ put_here map.empty p.name p; ready = ready };
    is = λ name can. rw (fork, number, next) refl;
  }
