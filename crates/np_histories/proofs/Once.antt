-- A history is read or refused, replayed or refused, and refused in one way alone.
use Rattle.std.proofs.Common.{◌≡◌, ℕ, inl, inr, List, length, Some, sym, subst, ap, ◌∙◌, arith}
use Rattle.np_syntax.specs.declared.event.Event.{Event}
use Rattle.np_syntax.specs.declared.program.LowProgram.{LowProgram}
use Rattle.np_syntax.specs.declared.value.Value.{Value}
use Rattle.np_calculus.specs.Config.{Config}
use Rattle.np_calculus.specs.Reductions.{run}
use Rattle.np_calculus.specs.Starts.{start_low}
use Rattle.history_text.specs.Laws.{IsSomeHistory, IsSomewhereRefused}
use Rattle.history_text.proofs.Found.{one_reading}
use Rattle.np_serial.proofs.Runs.{one-end}
use Rattle.np_verdict.specs.Lines.{status_of}
use Rattle.np_verdict.specs.declared.refusal.Refusal.{Refusal}
use Rattle.np_verdict.specs.declared.refusal.Refusal.TheVariants.{HistSyntax, NotARun, NoLine}
use Rattle.np_words.specs.declared.planning.View.{View}
use Rattle.np_words.specs.declared.planning.View.TheVariants as view
use Rattle.np_histories.specs.Histories.{IsRead, HasEvents, HasRun, HasView, HasNoEvents, Lacks, Stops, IsFaulty}
use Rattle.np_histories.specs.Pasts.{HasPrinted}

abbrev some_history : (bytes : List ℕ) (events : List Event) → IsRead bytes events → IsSomeHistory bytes
some_history bytes events r = record { format = r.format; events = events; is = r.history }

abbrev some_refusal : (bytes : List ℕ) (refusal : Refusal) → HasNoEvents bytes refusal → IsSomewhereRefused bytes
some_refusal bytes refusal h = record { line = h.line; is = h.refused }

pub events_once : (bytes : List ℕ) (a b : List Event) → IsRead bytes a → IsRead bytes b → a ≡ b
events_once bytes a b r s = (one_reading bytes).events (some_history bytes a r) (some_history bytes b s)

read_not_refused : (bytes : List ℕ) (events : List Event) (refusal : Refusal) → IsRead bytes events → HasNoEvents bytes refusal → ⊥
read_not_refused bytes events refusal r h = (one_reading bytes).apart (some_history bytes events r) (some_refusal bytes refusal h)

-- ---- the text alone

pub not_both : (bytes : List ℕ) (refusal : Refusal) → HasEvents bytes → HasNoEvents bytes refusal → ⊥
not_both bytes refusal a h = read_not_refused bytes a.events refusal a.read h

pub same_fault : (bytes : List ℕ) (a b : Refusal) → HasNoEvents bytes a → HasNoEvents bytes b → a ≡ b
same_fault bytes a b h k = h.is ∙ ap HistSyntax ((one_reading bytes).line (some_refusal bytes a h) (some_refusal bytes b k)) ∙ sym k.is

pub fault_status : (bytes : List ℕ) (refusal : Refusal) → HasNoEvents bytes refusal → status_of refusal ≡ 7
fault_status bytes refusal h = ap status_of h.is

-- ---- the replay

run_not_stopped : (start : Config) (events : List Event) (last : Config) (refusal : Refusal) → run start events ≡ Some last → Stops start events refusal → ⊥
run_not_stopped start events last refusal reaches s = let none = (one-end start events).none s.index s.stops in cc

stops_once : (start : Config) (events : List Event) (a b : Refusal) → Stops start events a → Stops start events b → a ≡ b
stops_once start events a b s t = s.is ∙ ap NotARun ((one-end start events).index s.index t.index s.stops t.stops) ∙ sym t.is

-- what a run printed it printed
said_once : (low : LowProgram) (events : List Event) (last : Config) (said : List (ℕ × Value)) → run (start_low low) events ≡ Some last → HasPrinted low events said
    → said ≡ last.said
said_once low events last said reaches h =
    let same : Some h.last ≡ Some last = sym h.reaches ∙ reaches in
    let one : h.last ≡ last = cc in
    sym h.is ∙ ap (λ (c : Config). c.said) one

-- a run that has what is to be shown does not lack it
not_lacking : (low : LowProgram) (shown : View) (events : List Event) (last : Config) (refusal : Refusal) → run (start_low low) events ≡ Some last → HasView shown last
    → Lacks shown low events refusal → ⊥
not_lacking low view.Said events last refusal reaches has lacks = lacks
not_lacking low (view.Past line) events last refusal reaches has lacks =
    let count : length lacks.said ≡ length last.said = ap length (said_once low events last lacks.said reaches lacks.printed) in
    let few = lacks.few in
    omega arith

lacks_once : (low : LowProgram) (shown : View) (events : List Event) (a b : Refusal) → Lacks shown low events a → Lacks shown low events b → a ≡ b
lacks_once low view.Said events a b h k = absurd h
lacks_once low (view.Past line) events a b h k =
    let same : k.said ≡ h.printed.last.said = said_once low events h.printed.last k.said h.printed.reaches k.printed in
    h.is ∙ ap (λ said. NoLine (length said)) (sym h.printed.is ∙ sym same) ∙ sym k.is

-- what lacks a view is a run
lacking_runs : (low : LowProgram) (shown : View) (events : List Event) (refusal : Refusal) → Lacks shown low events refusal → (last : Config) × (run (start_low low) events ≡ Some last)
lacking_runs low view.Said events refusal h = absurd h
lacking_runs low (view.Past line) events refusal h = (h.printed.last, h.printed.reaches)

stops_or_lacks : (low : LowProgram) (shown : View) (events : List Event) (a b : Refusal) → Stops (start_low low) events a → Lacks shown low events b → ⊥
stops_or_lacks low shown events a b stops lacks =
    let runs = lacking_runs low shown events b lacks in run_not_stopped (start_low low) events runs.0 a runs.1 stops

pub run_not_both : (low : LowProgram) (shown : View) (bytes : List ℕ) (refusal : Refusal) → HasRun low shown bytes → IsFaulty low shown bytes refusal → ⊥
run_not_both low shown bytes refusal a (inl h) = read_not_refused bytes a.events refusal a.read h
run_not_both low shown bytes refusal a (inr (inl h)) =
    let same : h.events ≡ a.events = events_once bytes h.events a.events h.read a.read in
    run_not_stopped (start_low low) a.events a.last refusal a.reaches (subst (λ (events : List Event). Stops (start_low low) events refusal) same h.stops)
run_not_both low shown bytes refusal a (inr (inr h)) =
    let same : h.events ≡ a.events = events_once bytes h.events a.events h.read a.read in
    not_lacking low shown a.events a.last refusal a.reaches a.has (subst (λ (events : List Event). Lacks shown low events refusal) same h.lacks)

pub same_run_fault : (low : LowProgram) (shown : View) (bytes : List ℕ) (a b : Refusal) → IsFaulty low shown bytes a → IsFaulty low shown bytes b → a ≡ b
same_run_fault low shown bytes a b (inl h) (inl k) = same_fault bytes a b h k
same_run_fault low shown bytes a b (inl h) (inr (inl k)) = absurd (read_not_refused bytes k.events a k.read h)
same_run_fault low shown bytes a b (inl h) (inr (inr k)) = absurd (read_not_refused bytes k.events a k.read h)
same_run_fault low shown bytes a b (inr (inl h)) (inl k) = absurd (read_not_refused bytes h.events b h.read k)
same_run_fault low shown bytes a b (inr (inr h)) (inl k) = absurd (read_not_refused bytes h.events b h.read k)
same_run_fault low shown bytes a b (inr (inl h)) (inr (inl k)) =
    let same : h.events ≡ k.events = events_once bytes h.events k.events h.read k.read in
    stops_once (start_low low) k.events a b (subst (λ (events : List Event). Stops (start_low low) events a) same h.stops) k.stops
same_run_fault low shown bytes a b (inr (inl h)) (inr (inr k)) =
    let same : h.events ≡ k.events = events_once bytes h.events k.events h.read k.read in
    absurd (stops_or_lacks low shown k.events a b (subst (λ (events : List Event). Stops (start_low low) events a) same h.stops) k.lacks)
same_run_fault low shown bytes a b (inr (inr h)) (inr (inl k)) =
    let same : k.events ≡ h.events = events_once bytes k.events h.events k.read h.read in
    absurd (stops_or_lacks low shown h.events b a (subst (λ (events : List Event). Stops (start_low low) events b) same k.stops) h.lacks)
same_run_fault low shown bytes a b (inr (inr h)) (inr (inr k)) =
    let same : h.events ≡ k.events = events_once bytes h.events k.events h.read k.read in
    lacks_once low shown k.events a b (subst (λ (events : List Event). Lacks shown low events a) same h.lacks) k.lacks

lack_status : (low : LowProgram) (shown : View) (events : List Event) (refusal : Refusal) → Lacks shown low events refusal → status_of refusal ≡ 7
lack_status low view.Said events refusal h = absurd h
lack_status low (view.Past line) events refusal h = ap status_of h.is

pub run_fault_status : (low : LowProgram) (shown : View) (bytes : List ℕ) (refusal : Refusal) → IsFaulty low shown bytes refusal → status_of refusal ≡ 7
run_fault_status low shown bytes refusal (inl h) = fault_status bytes refusal h
run_fault_status low shown bytes refusal (inr (inl h)) = ap status_of h.stops.is
run_fault_status low shown bytes refusal (inr (inr h)) = lack_status low shown h.events refusal h.lacks
