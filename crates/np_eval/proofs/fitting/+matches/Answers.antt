use Rattle.std.proofs.lemmas.Grind.{common_steps}
use Rattle.std.proofs.Common.{sym, ◌∙◌, arith}
use Rattle.np_eval.proofs.FittingPatterns.{bind_all-next}
use Rattle.np_eval.proofs.Binds.{binds}
use Rattle.np_eval.proofs.fitting.+matches.Goals as goal

pub matches_all-loop-at-preserved : goal.matches_all-loop-at-preserved
matches_all-loop-at-preserved t c = (
  c.loop-at.invariant.0,
  λ env. c.loop-at.invariant.1 env
      ∙ bind_all-next c.args.parts.now c.args.values.now c.loop-at.at _ _ env c.loop-at-test.true c.loop-at.invariant.0 c.index-parts-at.is c.index-values-at.is (sym c.if-not-matches.false ∙ c.matches.ensures env),
)

pub matches_all-returns-then-not-matches : goal.matches_all-returns-then-not-matches
matches_all-returns-then-not-matches t c = grind (arith, common_steps, binds)

pub matches-returns-in-Any : goal.matches-returns-in-Any
matches-returns-in-Any t c = grind (arith, common_steps, binds)

pub matches-returns-in-Bind : goal.matches-returns-in-Bind
matches-returns-in-Bind t c = grind (arith, common_steps, binds)
