use Rattle.np_sources.proofs.sources.job_of.Goals as goal

pub returns-in-Run-clause-refused : goal.returns-in-Run-clause-refused
returns-in-Run-clause-refused g c = rw c.in-Run.is c.job_on_sites.ensures.refused

pub returns-in-Low-clause-refused : goal.returns-in-Low-clause-refused
returns-in-Low-clause-refused g c = rw c.in-Low.is c.low_source.ensures.refused

pub returns-in-High-clause-refused : goal.returns-in-High-clause-refused
returns-in-High-clause-refused g c = rw c.in-High.is c.high_source.ensures.refused

pub returns-in-Check-clause-refused : goal.returns-in-Check-clause-refused
returns-in-Check-clause-refused g c = rw c.in-Check.is c.check_source.ensures.refused

pub returns-in-Show-clause-refused : goal.returns-in-Show-clause-refused
returns-in-Show-clause-refused g c = rw c.in-Show.is c.show_source.ensures.refused
