use Rattle.look_reasons.proofs.notes.is_run_with.Goals as goal

pub returns-in-Ok-check_run : goal.returns-in-Ok-check_run
returns-in-Ok-check_run c = λ yes. record { low = c.in-Ok.low; lowered = c.in-Ok.ensures.made; run = c.in-Ok-check_run.ensures.run }
