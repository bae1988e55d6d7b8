use Rattle.std.proofs.Common.{◌≡◌, [], length}
use Rattle.rand_pcg.specs.Pcg.{pcg32}
use Rattle.run_choices.specs.Draws.{behind, draws, seeded}
use Rattle.run_choices.specs.Made.{AreMade}
use Rattle.run_choices.specs.Held.{Lists, held}
use Rattle.run_choices.specs.InTurn.{IsCourse, MakesNext}
use Rattle.run_choices.proofs.seeded_low.run_on.Given as goal

abbrev pub invariant-loop-n : goal.invariant-loop-n
invariant-loop-n l = record {
  course : IsCourse l.fn.last l.last l.notes l.events;
  made : length l.events ≡ l.n;
  lists : Lists l.last (held l.waiting);
  words : l.words ≡ behind pcg32 (seeded l.fn.seed) l.n;
  drawn : AreMade (MakesNext l.fn.last) [] l.fn.last (draws pcg32 (seeded l.fn.seed) l.n) l.events;
}
