-- What is told of an event is of a condition that it fails, and something is told of each refusal.
use Rattle.std.specs.Prelude.{◌↔◌}
use Rattle.std.proofs.Common.{◌≡◌, ◌<◌, ◌≤◌, ◌+◌, ℕ, List, [], ◌∷◌, ◌++◌, Option, None, Some, IsSome, Result, Ok, Err, IfOk, length, take, refl, sym, ap, ◌∙◌, arith}
use Rattle.std.proofs.lemmas.List.{take_more}
use Rattle.std.proofs.lemmas.Option.{get_or_from_slice_get, slice_get_within}
use Rattle.std.specs.List.{slice_get}
use Rattle.np_syntax.proofs.Options.{none_there, there-is}
use Rattle.np_syntax.specs.declared.program.LowProgram.{LowProgram}
use Rattle.np_calculus.proofs.Common.{Event, Config, apply}
use Rattle.np_calculus.specs.Reductions.{run}
use Rattle.np_calculus.specs.Starts.{start_low}
use Rattle.np_serial.specs.Replays.{StopsAt}
use Rattle.np_serial.proofs.SerialEvents.{run-push}
use Rattle.source_places.specs.declared.reasons.Reasons.{Reasons}
use Rattle.history_conditions.specs.Conditions.{first_unmet}
use Rattle.history_conditions.specs.declared.condition.Condition.{Condition}
use Rattle.history_conditions.proofs.Law.{refused_where_unmet}
use Rattle.history_reasons.specs.declared.replayed.Failing.{Failing}
use Rattle.history_reasons.specs.Unmet.{IsFailing, IsUnmetIn}

push : (events : List Event) (index : ℕ) (event : Event) → slice_get events index ≡ Some event → take (index + 1) events ≡ take index events ++ event ∷ []
push events index event is =
    take_more events index event (slice_get_within events index event is)
    ∙ ap (λ (e : Event). take index events ++ e ∷ []) (get_or_from_slice_get events index event event is)

-- an event that fails no condition goes on
goes-on : (q : LowProgram) (events : List Event) (index : ℕ) (reached : Config) (event : Event) (o : Option Config) → run (start_low q) (take index events) ≡ Some reached
    → slice_get events index ≡ Some event → (IsSome (first_unmet reached event) → ⊥) → apply reached event ≡ o → StopsAt (start_low q) events index → ⊥
goes-on q events index reached event None runs is met refused stops = met ((refused_where_unmet reached event).0 refused)
goes-on q events index reached event (Some d) runs is met made stops =
    let more : run (start_low q) (take index events ++ event ∷ []) ≡ Some d = run-push (start_low q) (take index events) event reached d runs made in
    let none : run (start_low q) (take index events ++ event ∷ []) ≡ None = ap (run (start_low q)) (sym (push events index event is)) ∙ stops.none in
    let apart : None ≡ Some d = sym none ∙ more in
    cc

pub told : (q : LowProgram) (events : List Event) (index : ℕ) (reached : Config) (event : Event) (found : Option Reasons) → run (start_low q) (take index events) ≡ Some reached
    → slice_get events index ≡ Some event → (IsSome found ↔ IsSome (first_unmet reached event)) → IsUnmetIn q events index found
told q events index reached event (Some reasons) runs is same =
    let x = there-is (first_unmet reached event) (same.0 refl) in
    record { reached = reached; runs = runs; event = event; is = is; condition = x.0; unmet = x.1 }
told q events index reached event None runs is same =
    goes-on q events index reached event (apply reached event) runs is (λ some. none_there {X = Reasons} None (same.1 some) refl) refl

-- nothing is told where the events before it are no run
pub unrun : (q : LowProgram) (events : List Event) (index : ℕ) → run (start_low q) (take index events) ≡ None → StopsAt (start_low q) events index → ⊥
unrun q events index none stops = let apart : None ≡ Some stops.before.0 = sym none ∙ stops.before.1 in cc

-- and where there is no such event
pub unreached : (q : LowProgram) (events : List Event) (index : ℕ) → length events ≤ index → StopsAt (start_low q) events index → ⊥
unreached q events index past stops = let within : index < length events = stops.within in omega arith

-- the same of what may fail
pub told-all : {E : Type 0} (q : LowProgram) (events front : List Event) (index : ℕ) (reached : Config) (event : Event) (r : Result (Option Reasons) E) → front ≡ take index events
    → run (start_low q) front ≡ Some reached → slice_get events index ≡ Some event → IfOk r (λ found. IsSome found ↔ IsSome (first_unmet reached event))
    → IfOk r (λ found. IsUnmetIn q events index found)
told-all q events front index reached event (Ok found) is runs at same = told q events index reached event found (ap (run (start_low q)) (sym is) ∙ runs) at same
told-all q events front index reached event (Err e) is runs at same = tt

-- something is told of a condition
pub tells : (o : Option Condition) (x : Condition) (reasons : Reasons) → o ≡ Some x → IsSome (Some reasons) ↔ IsSome o
tells None x reasons is = absurd cc
tells (Some y) x reasons is = (λ some. refl, λ some. refl)

-- and nothing of none
pub tells-none : (o : Option Condition) (found : Option Reasons) → found ≡ None → o ≡ None → IsSome found ↔ IsSome o
tells-none None None is none = (λ some. some, λ some. some)
tells-none None (Some reasons) is none = absurd cc
tells-none (Some x) found is none = absurd cc

-- something is told where an event fails a condition
pub told-some : (c : Config) (e : Event) (found : Option Failing) (failing : Failing) (reasons : Reasons) → IsFailing c e found → found ≡ Some failing
    → IsSome (Some reasons) ↔ IsSome (first_unmet c e)
told-some c e None failing reasons is at = absurd cc
told-some c e (Some f) failing reasons is at = tells (first_unmet c e) f.condition reasons is.0

-- and nothing where it fails none
pub told-none : (c : Config) (e : Event) (found : Option Failing) → IsFailing c e found → found ≡ None → IsSome {T = Reasons} None ↔ IsSome (first_unmet c e)
told-none c e None is at = tells-none (first_unmet c e) None refl is
told-none c e (Some f) is at = absurd cc
