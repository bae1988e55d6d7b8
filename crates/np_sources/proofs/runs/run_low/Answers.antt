use Rattle.np_sources.proofs.runs.run_low.Goals as goal

pub returns-in-Ok-clause-made : goal.returns-in-Ok-clause-made
returns-in-Ok-clause-made c = record { low = c.in_ok-low.low; lowered = c.in_ok-low.ensures.made; run = c.in-Ok.ensures }
