use Rattle.std.proofs.Common.{◌≡◌, [], length, Some}
use Rattle.np_calculus.specs.Reductions.{run}
use Rattle.np_serial.specs.Serial.{AreFresh}
use Rattle.rand_pcg.specs.Pcg.{pcg32}
use Rattle.run_choices.specs.Draws.{behind, draws, seeded}
use Rattle.run_choices.specs.Made.{AreMade}
use Rattle.run_choices.specs.Held.{Lists, held}
use Rattle.run_choices.specs.Runs.{ChoosesNext}
use Rattle.run_choices.proofs.seeded.run_on.Given as goal

abbrev pub invariant-loop-n : goal.invariant-loop-n
invariant-loop-n l = record {
  reaches : run l.fn.last l.events ≡ Some l.last;
  made : length l.events ≡ l.n;
  fresh : AreFresh l.last.born l.fn.last.sites l.n;
  lists : Lists l.last (held l.waiting);
  words : l.words ≡ behind pcg32 (seeded l.fn.seed) l.n;
  drawn : AreMade ChoosesNext [] l.fn.last (draws pcg32 (seeded l.fn.seed) l.n) l.events;
}
