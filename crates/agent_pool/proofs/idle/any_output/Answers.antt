use Rattle.std.proofs.lemmas.Grind.{common_steps}
use Rattle.std.proofs.Common.{◌≡◌, false, ap, refl, arith}
use Rattle.std.specs.FinMap as map
use Rattle.agent_pool.proofs.Walking.{met-all}
use Rattle.agent_pool.specs.Idle.{waits_in, is_output}
use Rattle.agent_pool.proofs.idle.any_output.Goals as goal

pub returns : goal.returns
returns c = (
  (λ e. record {
    each = met-all (λ q. is_output (waits_in c.args.code.now.processes (map.get c.args.atoms.now.items q)) c.args.chan ≡ false) c.args.atoms.now.items c.args.atoms.now.keys
        c.len-at-end.ensures.covers (λ q h. ap (λ o. is_output (waits_in c.args.code.now.processes o) c.args.chan) h)
        (λ k d l. c.loop-at.invariant k d (omega (arith, l, c.loop-at-test.false, c.len-at-end.ensures.len)));
  }),
  (λ n. refl),
)

pub loop-at-preserved : goal.loop-at-preserved
loop-at-preserved c = grind (arith, common_steps)
