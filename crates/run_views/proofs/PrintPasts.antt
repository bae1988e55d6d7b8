-- The past of a Print is a run, which says just its value.
use Rattle.std.proofs.Common.{◌≡◌, ℕ, ◌+◌, ◌<◌, Bool, List, length, Option, None, Some, IsSome, slice_get, refl}
use Rattle.std.proofs.lemmas.Option.{slice_get_within}
use Rattle.np_syntax.specs.declared.event.Event.{Event}
use Rattle.np_syntax.specs.declared.program.LowProgram.{LowProgram}
use Rattle.np_calculus.specs.Config.{Config}
use Rattle.np_calculus.specs.Reductions.{run}
use Rattle.np_calculus.specs.Starts.{start_low}
use Rattle.run_views.specs.Past.{IsPastOf, picked, traces}
use Rattle.run_views.proofs.PastRuns.{low-past-is-run, print-says}
use Rattle.run_views.specs.declared.causing.Causes.{Causes}
use Rattle.run_views.specs.Causes.{AreCauses, AreMarked, is_marked}
use Rattle.run_views.specs.Pasts.{IsPastRun, IsPrint}
use Rattle.run_views.proofs.Marks.{marked-past}

-- a Print stands at a place of the run
pub print-within : (events : List Event) (i : ℕ) → IsPrint (slice_get events i) → i < length events
print-within events i prints = on (slice_get events i) refl prints
  where
    on : (o : Option Event) → slice_get events i ≡ o → IsPrint o → i < length events
    on None is prints = absurd prints
    on (Some e) is prints = slice_get_within events i e is

pub is-past : (c : Config) (events past : List Event) (i : ℕ) (found : List Causes) (marked : List Bool)
    → AreCauses (traces c events) (i + 1) found → AreMarked found i 0 marked → past ≡ picked (is_marked marked) 0 events → IsPastOf c events i past
is-past c events past i found marked causes marks answer = record { places = is_marked marked; is = marked-past (traces c events) i found marked causes marks; answer = answer }

pub is-past-run : (low : LowProgram) (events past : List Event) (i : ℕ) → IsSome (run (start_low low) events) → IsPrint (slice_get events i)
    → IsPastOf (start_low low) events i past → IsPastRun low events i past
is-past-run low events past i runs prints p = on (run (start_low low) events) (slice_get events i) refl refl runs prints
  where
    on : (o : Option Config) (q : Option Event) → run (start_low low) events ≡ o → slice_get events i ≡ q → IsSome o → IsPrint q → IsPastRun low events i past
    on None q leads is runs prints = absurd cc
    on (Some last) None leads is runs prints = absurd prints
    on (Some last) (Some e) leads is runs prints =
        let says = print-says (start_low low) last events i e leads is prints in
        let alone = low-past-is-run low last events past i says.0 leads says.1 p in
        record { past = p; item = says.0; says = says.1; last = alone.0; runs = alone.1; said = alone.2 }
