-- A source is taken so far or refused, and refused in one way alone.
use Rattle.std.proofs.Common.{◌≡◌, ℕ, zero, suc, ◌+◌, ◌*◌, ◌≤◌, ◌<◌, ◌⊎◌, inl, inr, List, length, Some, refl, sym, subst, ap, ◌∙◌, arith}
use Rattle.np_syntax.specs.declared.event.Event.{Event}
use Rattle.np_syntax.specs.declared.program.LowProgram.{LowProgram}
use Rattle.np_syntax.specs.declared.program.Program.{Program}
use Rattle.np_syntax.specs.declared.limits.TheConstants.{MOST_EVENTS}
use Rattle.np_calculus.specs.Config.{Config}
use Rattle.np_calculus.specs.Starts.{start_low}
use Rattle.np_code.specs.Sizes.{capped, program_nodes}
use Rattle.np_code.specs.declared.limits.TheConstants.{MOST_CODE_NODES}
use Rattle.np_verdict.specs.Faults.{Stage, Faulty}
use Rattle.np_verdict.specs.Lines.{status_of}
use Rattle.np_verdict.specs.declared.refusal.Refusal.{Refusal}
use Rattle.np_verdict.specs.declared.refusal.Refusal.TheVariants.{Usage, TooLong, LocationTest, TooManyNodes, TooManyEvents, NotOurs, BudgetPast}
use Rattle.np_words.specs.declared.modes.HighText.{HighText}
use Rattle.np_words.specs.declared.modes.Infrastructure.{Infrastructure}
use Rattle.np_verdict.proofs.Verdicts as verdicts
use Rattle.run_save.specs.Ours.{PrefixIsOurs, StopsBeingOurs}
use Rattle.site_crew.specs.Lists.{AreWithin, IsFirstPast}
use Rattle.np_on_sites.specs.ByInfrastructure.{low_by}
use Rattle.np_sources.specs.Reaches.{Reach, CanGoOn, CannotGoOn, HasFewEvents, HasManyEvents, HasNoLow, IsBarred, IsFree, IsLowOf, IsTooLarge, TakenTo, FaultyTo, barred}

-- a source has one low program of each infrastructure
pub same_low : (infrastructure : Infrastructure) (bytes : List ℕ) (low other : LowProgram) → IsLowOf infrastructure bytes low → IsLowOf infrastructure bytes other → low ≡ other
same_low infrastructure bytes low other a b = a.is ∙ ap (low_by infrastructure) (verdicts.well_typed_once bytes a.program b.program a.accepted b.accepted) ∙ sym b.is

-- the nodes of a low program are few or too many
few_or_many : (n : ℕ) → n ≤ MOST_CODE_NODES → MOST_CODE_NODES < n → ⊥
few_or_many n few many = omega (arith, few, many)

not_too_large : (infrastructure : Infrastructure) (bytes : List ℕ) (low : LowProgram) (refusal : Refusal) → IsLowOf infrastructure bytes low → IsTooLarge infrastructure bytes refusal → ⊥
not_too_large infrastructure bytes low refusal a f =
    let same : low ≡ low_by infrastructure f.program = a.is ∙ ap (low_by infrastructure) (verdicts.well_typed_once bytes a.program f.program a.accepted f.accepted) in
    few_or_many (program_nodes (low_by infrastructure f.program)) (subst (λ (p : LowProgram). program_nodes p ≤ MOST_CODE_NODES) same a.few) f.large.many

low_not_both : (infrastructure : Infrastructure) (bytes : List ℕ) (refusal : Refusal) (low : LowProgram) → IsLowOf infrastructure bytes low → HasNoLow infrastructure bytes refusal → ⊥
low_not_both infrastructure bytes refusal low is (inl f) = verdicts.not_both Stage.program bytes refusal (is.program, is.accepted) f
low_not_both infrastructure bytes refusal low is (inr f) = not_too_large infrastructure bytes low refusal is f

-- the events within a budget are few or too many
few_events : (n : ℕ) → n ≤ MOST_EVENTS → MOST_EVENTS < n → ⊥
few_events n few many = omega (arith, few, many)

not_many : (infrastructure : Infrastructure) (budget : ℕ) (bytes : List ℕ) (refusal : Refusal) → HasFewEvents infrastructure budget bytes
    → HasManyEvents infrastructure budget bytes refusal → ⊥
not_many infrastructure budget bytes refusal a f =
    let same : a.low ≡ f.low = same_low infrastructure bytes a.low f.low a.lowered f.lowered in
    few_events (length f.low.sites * budget) (subst (λ (p : LowProgram). length p.sites * budget ≤ MOST_EVENTS) same a.few) f.many

-- nothing bars it, or something does
free_not_barred : (high : HighText) (bytes : List ℕ) (refusal : Refusal) → IsFree high bytes → IsBarred high bytes refusal → ⊥
free_not_barred high bytes refusal free f = let none = free f.program f.accepted in let some = f.bars in cc

barred_once : (high : HighText) (bytes : List ℕ) (a b : Refusal) → IsBarred high bytes a → IsBarred high bytes b → a ≡ b
barred_once high bytes a b f g =
    let same : f.program ≡ g.program = verdicts.well_typed_once bytes f.program g.program f.accepted g.accepted in
    let some : Some f.at ≡ Some g.at = sym f.bars ∙ ap (barred high) same ∙ g.bars in
    let place : f.at ≡ g.at = cc in
    f.is ∙ ap LocationTest place ∙ sym g.is

-- no source is both taken so far and refused
pub not_both : (reach : Reach) (bytes : List ℕ) (refusal : Refusal) → TakenTo reach bytes → FaultyTo reach bytes refusal → ⊥
not_both Reach.tree bytes refusal a f = verdicts.not_both Stage.tree bytes refusal a f
not_both Reach.program bytes refusal a f = verdicts.not_both Stage.program bytes refusal a f
not_both (Reach.low infrastructure) bytes refusal a f = low_not_both infrastructure bytes refusal a.0 a.1 f
not_both (Reach.sites infrastructure budget) bytes refusal a (inl f) = low_not_both infrastructure bytes refusal a.low a.lowered f
not_both (Reach.sites infrastructure budget) bytes refusal a (inr f) = not_many infrastructure budget bytes refusal a f
not_both (Reach.shown high reach) bytes refusal a (inl f) = free_not_barred high bytes refusal a.0 f
not_both (Reach.shown high reach) bytes refusal a (inr f) = not_both reach bytes refusal a.1 f.1

large_once : (infrastructure : Infrastructure) (bytes : List ℕ) (a b : Refusal) → IsTooLarge infrastructure bytes a → IsTooLarge infrastructure bytes b → a ≡ b
large_once infrastructure bytes a b f g =
    let same : f.program ≡ g.program = verdicts.well_typed_once bytes f.program g.program f.accepted g.accepted in
    f.large.is ∙ ap (λ (p : Program). TooManyNodes (capped (program_nodes (low_by infrastructure p)))) same ∙ sym g.large.is

-- a source that is too large is well typed
not_faulty : (infrastructure : Infrastructure) (bytes : List ℕ) (a b : Refusal) → IsTooLarge infrastructure bytes a → Faulty Stage.program bytes b → ⊥
not_faulty infrastructure bytes a b f g = verdicts.not_both Stage.program bytes b (f.program, f.accepted) g

low_fault : (infrastructure : Infrastructure) (bytes : List ℕ) (a b : Refusal) → HasNoLow infrastructure bytes a → HasNoLow infrastructure bytes b → a ≡ b
low_fault infrastructure bytes a b (inl f) (inl g) = verdicts.same_fault Stage.program bytes a b f g
low_fault infrastructure bytes a b (inl f) (inr g) = absurd (not_faulty infrastructure bytes b a g f)
low_fault infrastructure bytes a b (inr f) (inl g) = absurd (not_faulty infrastructure bytes a b f g)
low_fault infrastructure bytes a b (inr f) (inr g) = large_once infrastructure bytes a b f g

-- a source is refused in one way
pub same_fault : (reach : Reach) (bytes : List ℕ) (a b : Refusal) → FaultyTo reach bytes a → FaultyTo reach bytes b → a ≡ b
same_fault Reach.tree bytes a b f g = verdicts.same_fault Stage.tree bytes a b f g
same_fault Reach.program bytes a b f g = verdicts.same_fault Stage.program bytes a b f g
same_fault (Reach.low infrastructure) bytes a b f g = low_fault infrastructure bytes a b f g
same_fault (Reach.sites infrastructure budget) bytes a b (inl f) (inl g) = low_fault infrastructure bytes a b f g
same_fault (Reach.sites infrastructure budget) bytes a b (inl f) (inr g) = absurd (low_not_both infrastructure bytes a g.low g.lowered f)
same_fault (Reach.sites infrastructure budget) bytes a b (inr f) (inl g) = absurd (low_not_both infrastructure bytes b f.low f.lowered g)
same_fault (Reach.sites infrastructure budget) bytes a b (inr f) (inr g) = f.is ∙ sym g.is
same_fault (Reach.shown high reach) bytes a b (inl f) (inl g) = barred_once high bytes a b f g
same_fault (Reach.shown high reach) bytes a b (inl f) (inr g) = absurd (free_not_barred high bytes a g.0 f)
same_fault (Reach.shown high reach) bytes a b (inr f) (inl g) = absurd (free_not_barred high bytes b f.0 g)
same_fault (Reach.shown high reach) bytes a b (inr f) (inr g) = same_fault reach bytes a b f.1 g.1

-- ---- refusals that are of no source

low_not_long : (infrastructure : Infrastructure) (bytes : List ℕ) → HasNoLow infrastructure bytes TooLong → ⊥
low_not_long infrastructure bytes (inl f) = verdicts.not_long Stage.program bytes f
low_not_long infrastructure bytes (inr f) = let is = f.large.is in cc

pub not_long : (reach : Reach) (bytes : List ℕ) → FaultyTo reach bytes TooLong → ⊥
not_long Reach.tree bytes f = verdicts.not_long Stage.tree bytes f
not_long Reach.program bytes f = verdicts.not_long Stage.program bytes f
not_long (Reach.low infrastructure) bytes f = low_not_long infrastructure bytes f
not_long (Reach.sites infrastructure budget) bytes (inl f) = low_not_long infrastructure bytes f
not_long (Reach.sites infrastructure budget) bytes (inr f) = let is = f.is in cc
not_long (Reach.shown high reach) bytes (inl f) = let is = f.is in cc
not_long (Reach.shown high reach) bytes (inr f) = not_long reach bytes f.1

low_not_usage : (infrastructure : Infrastructure) (bytes : List ℕ) → HasNoLow infrastructure bytes Usage → ⊥
low_not_usage infrastructure bytes (inl f) = verdicts.not_usage Stage.program bytes f
low_not_usage infrastructure bytes (inr f) = let is = f.large.is in cc

pub not_usage : (reach : Reach) (bytes : List ℕ) → FaultyTo reach bytes Usage → ⊥
not_usage Reach.tree bytes f = verdicts.not_usage Stage.tree bytes f
not_usage Reach.program bytes f = verdicts.not_usage Stage.program bytes f
not_usage (Reach.low infrastructure) bytes f = low_not_usage infrastructure bytes f
not_usage (Reach.sites infrastructure budget) bytes (inl f) = low_not_usage infrastructure bytes f
not_usage (Reach.sites infrastructure budget) bytes (inr f) = let is = f.is in cc
not_usage (Reach.shown high reach) bytes (inl f) = let is = f.is in cc
not_usage (Reach.shown high reach) bytes (inr f) = not_usage reach bytes f.1

low_status : (infrastructure : Infrastructure) (bytes : List ℕ) (refusal : Refusal) → HasNoLow infrastructure bytes refusal → status_of refusal ≡ 3
low_status infrastructure bytes refusal (inl f) = verdicts.faulty_status Stage.program bytes refusal f
low_status infrastructure bytes refusal (inr f) = ap status_of f.large.is

-- the status of such a refusal is 3
pub faulty_status : (reach : Reach) (bytes : List ℕ) (refusal : Refusal) → FaultyTo reach bytes refusal → status_of refusal ≡ 3
faulty_status Reach.tree bytes refusal f = verdicts.faulty_status Stage.tree bytes refusal f
faulty_status Reach.program bytes refusal f = verdicts.faulty_status Stage.program bytes refusal f
faulty_status (Reach.low infrastructure) bytes refusal f = low_status infrastructure bytes refusal f
faulty_status (Reach.sites infrastructure budget) bytes refusal (inl f) = low_status infrastructure bytes refusal f
faulty_status (Reach.sites infrastructure budget) bytes refusal (inr f) = ap status_of f.is
faulty_status (Reach.shown high reach) bytes refusal (inl f) = ap status_of f.is
faulty_status (Reach.shown high reach) bytes refusal (inr f) = faulty_status reach bytes refusal f.1

-- ---- saved events

compare : (m n : ℕ) → (m < n) ⊎ (m ≡ n) ⊎ (n < m)
compare zero zero = inr (inl refl)
compare zero (suc n) = inl (omega arith)
compare (suc m) zero = inr (inr (omega arith))
compare (suc m) (suc n) = elim (compare m n) [ inl h ↦ inl (omega arith) | inr h ↦ elim h [ inl e ↦ inr (inl (ap suc e)) | inr g ↦ inr (inr (omega arith)) ] ]

not_past : (sites budget : ℕ) (events : List Event) (s : ℕ) → AreWithin sites budget events → IsFirstPast sites budget events s → ⊥
not_past sites budget events s within past = let few = within.each s past.site in let more = past.more in omega arith

first_once : (sites budget : ℕ) (events : List Event) (s t : ℕ) → IsFirstPast sites budget events s → IsFirstPast sites budget events t → s ≡ t
first_once sites budget events s t a b = elim (compare s t) [
  | inl h ↦ let few = b.before s h in let more = a.more in absurd (omega arith)
  | inr h ↦ elim h [ inl e ↦ e | inr g ↦ let few = a.before t g in let more = b.more in absurd (omega arith) ]
]

stops_once : (start : Config) (events : List Event) (i j : ℕ) → StopsBeingOurs start events i → StopsBeingOurs start events j → i ≡ j
stops_once start events i j a b = elim (compare i j) [
  | inl h ↦ absurd (a.not (b.before (i + 1) (omega arith)))
  | inr h ↦ elim h [ inl e ↦ e | inr g ↦ absurd (b.not (a.before (j + 1) (omega arith))) ]
]

pub goes_on : PrefixIsOurs → (budget : ℕ) (low : LowProgram) (events : List Event) (refusal : Refusal) → CanGoOn budget low events → CannotGoOn budget low events refusal → ⊥
goes_on prefix budget low events refusal a (inl h) = few_events (length low.sites * budget) a.few h.many
goes_on prefix budget low events refusal a (inr (inl h)) = not_past (length low.sites) budget events h.site a.within h.past
goes_on prefix budget low events refusal a (inr (inr h)) = h.stops.not (prefix low events (h.index + 1) a.ours)

pub same_stop : (budget : ℕ) (low : LowProgram) (events : List Event) (a b : Refusal) → CannotGoOn budget low events a → CannotGoOn budget low events b → a ≡ b
same_stop budget low events a b (inl h) (inl k) = h.is ∙ sym k.is
same_stop budget low events a b (inl h) (inr (inl k)) = absurd (few_events (length low.sites * budget) k.few h.many)
same_stop budget low events a b (inl h) (inr (inr k)) = absurd (few_events (length low.sites * budget) k.few h.many)
same_stop budget low events a b (inr (inl h)) (inl k) = absurd (few_events (length low.sites * budget) h.few k.many)
same_stop budget low events a b (inr (inr h)) (inl k) = absurd (few_events (length low.sites * budget) h.few k.many)
same_stop budget low events a b (inr (inl h)) (inr (inl k)) = h.is ∙ ap BudgetPast (first_once (length low.sites) budget events h.site k.site h.past k.past) ∙ sym k.is
same_stop budget low events a b (inr (inl h)) (inr (inr k)) = absurd (not_past (length low.sites) budget events h.site k.within h.past)
same_stop budget low events a b (inr (inr h)) (inr (inl k)) = absurd (not_past (length low.sites) budget events k.site h.within k.past)
same_stop budget low events a b (inr (inr h)) (inr (inr k)) = h.is ∙ ap NotOurs (stops_once (start_low low) events h.index k.index h.stops k.stops) ∙ sym k.is

pub stop_status : (budget : ℕ) (low : LowProgram) (events : List Event) (refusal : Refusal) → CannotGoOn budget low events refusal
    → (refusal ≡ TooManyEvents) ⊎ (status_of refusal ≡ 7)
stop_status budget low events refusal (inl h) = inl h.is
stop_status budget low events refusal (inr (inl h)) = inr (ap status_of h.is)
stop_status budget low events refusal (inr (inr h)) = inr (ap status_of h.is)
