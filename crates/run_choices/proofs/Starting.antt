-- The low start of a program is one from which its sites run.
use Rattle.std.proofs.Common.{◌<◌, ⊎_elim, length, sym, subst, arith}
use Rattle.np_syntax.specs.declared.program.LowProgram.{LowProgram}
use Rattle.np_calculus.specs.declared.config.Place.{Place}
unfoldable use Rattle.np_calculus.specs.Starts.{start_low}
use Rattle.np_calculus.proofs.LowStart.{placed}
use Rattle.np_serial.proofs.SerialEvents.{low-fresh}
use Rattle.run_views.proofs.StartBorn.{low-born, low-single}
use Rattle.run_choices.specs.InTurn.{IsOwnStart, seat}
use Rattle.run_choices.proofs.Following.{low-first}

pub own-start : (q : LowProgram) → q.at < length q.sites → IsOwnStart (start_low q)
unfolding start_low
own-start q less = record {
  marks = low-first q;
  born = low-born q;
  single = low-single q;
  fresh = low-fresh q;
  housed = λ a p there. ⊎_elim
      (λ last. subst (λ (p : Place). seat p < length q.sites) (sym last.1) (omega (arith, less)))
      (λ first. subst (λ (p : Place). seat p < length q.sites) (sym first.1) less)
      (placed (length q.sites) q.at q.main q.daemon a p there);
}
