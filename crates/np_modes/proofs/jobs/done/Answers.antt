use Rattle.np_modes.proofs.Loading.{load_made, load_refused}
use Rattle.np_modes.proofs.jobs.done.Goals as goal

pub returns-in-Replay-clause-refused : goal.returns-in-Replay-clause-refused
returns-in-Replay-clause-refused g c = rw c.in-Replay.is c.replay.ensures.refused

pub returns-in-Resume-clause-refused : goal.returns-in-Resume-clause-refused
returns-in-Resume-clause-refused g c = rw c.in-Resume.is c.resume.ensures.refused

pub returns-in-Source-clause-refused : goal.returns-in-Source-clause-refused
returns-in-Source-clause-refused g c = rw c.in-Source.is c.on_source.ensures.refused

pub returns-in-Load-clause-made : goal.returns-in-Load-clause-made
returns-in-Load-clause-made g c = rw c.in-Load.is (load_made _ _ c.load_of.result c.load_of.ensures.short c.load_of.ensures.made)

pub returns-in-Load-clause-refused : goal.returns-in-Load-clause-refused
returns-in-Load-clause-refused g c = rw c.in-Load.is (load_refused _ _ c.load_of.result c.load_of.ensures.short c.load_of.ensures.refused)

pub returns-in-Upgrade-clause-refused : goal.returns-in-Upgrade-clause-refused
returns-in-Upgrade-clause-refused g c = rw c.in-Upgrade.is c.upgrade.ensures.refused
