use Rattle.std.proofs.Common.{◌≡◌, drop}
use Rattle.shiviz_log.specs.Logs.{clock_text, counts_from}
use Rattle.shiviz_log.proofs.entries.clock_text.Given as goal

-- the counts so far, and those still to come
abbrev pub invariant-loop-site : goal.invariant-loop-site
invariant-loop-site l = counts_from l.sites l.text l.site (drop l.site l.clock) ≡ clock_text l.sites l.clock
