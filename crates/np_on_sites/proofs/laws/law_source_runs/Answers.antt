use Rattle.np_on_sites.proofs.SourceRuns.{by_infrastructure, cached_run, central_run, on_sites}
use Rattle.np_on_sites.proofs.laws.law_source_runs.Goals as goal

pub returns-clause-runs : goal.returns-clause-runs
returns-clause-runs c = by_infrastructure
    (λ p events printed end accepted. central_run c.law_rests_together.ensures p accepted events printed end c.law_translates.ensures.program c.law_low_runs_well.ensures
    c.law_runs_are_lifted.ensures c.law_posts_are_paired.ensures.central c.law_one_place.ensures.held c.law_all_handed.ensures.handed)
    (λ p events printed end accepted. cached_run c.law_rests_together.ensures p accepted events printed end c.law_cached_translates.ensures.program c.law_cached_runs_well.ensures
    c.law_cached_runs_are_lifted.ensures c.law_posts_are_paired.ensures.cached c.law_one_place.ensures.cached_held c.law_all_handed.ensures.cached)

pub returns-clause-sites : goal.returns-clause-sites
returns-clause-sites c = on_sites (returns-clause-runs c)
