-- No stamp is above the number of events before it, and one.
use Rattle.std.proofs.Common.{◌≡◌, ◌<◌, ◌≤◌, ◌+◌, ◌==◌, ℕ, zero, suc, cond, nat_eq, List, [], ◌∷◌, ◌++◌, length, drop, Option, None, Some, IfSome, option_to_list, filter, refl, sym, subst, arith}
use Rattle.std.proofs.lemmas.Bool.{eq-eqb}
use Rattle.std.specs.List.{AllByRecursion}
use Rattle.np_site_runs.proofs.merged.Steps.{false_eq}
use Rattle.run_merge.proofs.InOrder.{all_append, all_filter, all_weaker, at_cond}
use Rattle.np_site_runs.specs.merged.Deeds.{Deed, StampedItem, Ticks, TicksByOne, ticked}
use Rattle.np_site_runs.specs.merged.Turns.{Flows, Waiting, moved, own, puts, takes, takes_at, without}
use Rattle.np_site_runs.proofs.merged.Flowing.{IsStamped, each_site, own-here, own-there, takes-here}

-- ---- Lamport's rule

lower : (clock m : ℕ) (o : Option StampedItem) → ticked clock o ≤ m → IfSome o (λ x. x.stamp < m)
lower clock m None is = tt
lower clock m (Some x) is = omega arith

pub ticks-stamped : (clock : ℕ) (ds : List Deed) → Ticks clock ds → AllByRecursion IsStamped ds
ticks-stamped clock [] ticks = tt
ticks-stamped clock (d ∷ ds) ticks = (record { put = ticks.0.put; taken = lower clock d.event.stamp d.taken ticks.0.event }, ticks-stamped d.event.stamp ds ticks.1)

-- ---- one event

-- no item that waits has a stamp above this
abbrev pub WaitsLow : ℕ → Waiting → Type 0
WaitsLow m w = (u v : ℕ) → AllByRecursion (λ x. x.stamp ≤ m) (w u v)

one_more : (m clock stamp s : ℕ) (o : Option StampedItem) (w : Waiting) → clock ≤ m → stamp ≤ ticked clock o → WaitsLow m w
    → ((u v : ℕ) → w u v ≡ takes_at u v s o ++ drop (length (takes_at u v s o)) (w u v)) → stamp ≤ m + 1
one_more m clock stamp s None w low is waits front = omega arith
one_more m clock stamp s (Some x) w low is waits front =
    let a = x.item.sender in
    let first : w a s ≡ x ∷ drop 1 (w a s) = subst (λ ts. w a s ≡ ts ++ drop (length ts) (w a s)) (takes-here s x) (front a s) in
    let all = subst (AllByRecursion (λ x. x.stamp ≤ m)) first (waits a s) in
    let under : x.stamp ≤ m = all.0 in
    omega arith

all_drop : {A : Type 0} (P : A → Type 0) (k : ℕ) (xs : List A) → AllByRecursion P xs → AllByRecursion P (drop k xs)
all_drop P zero xs all = all
all_drop P (suc k) [] all = tt
all_drop P (suc k) (x ∷ xs) all = all_drop P k xs all.1

listed-low : (m n : ℕ) (o : Option StampedItem) → n ≤ m → IfSome o (λ x. x.stamp ≡ n) → AllByRecursion (λ x. x.stamp ≤ m) (option_to_list o)
listed-low m n None low is = tt
listed-low m n (Some x) low is = let same : x.stamp ≡ n = is in (omega arith, tt)

waits-after : (m : ℕ) (d : Deed) (w : Waiting) → WaitsLow m w → d.event.stamp ≤ m + 1 → IfSome d.put (λ x. x.stamp ≡ d.event.stamp) → WaitsLow (m + 1) (moved w d)
waits-after m d w waits low put u v =
    all_append (λ x. x.stamp ≤ m + 1) (without w d u v) (puts u v d)
    (all_drop (λ x. x.stamp ≤ m + 1) (length (takes u v d)) (w u v) (all_weaker (λ x. x.stamp ≤ m) (λ x. x.stamp ≤ m + 1) (λ x is. omega arith) (w u v) (waits u v)))
    (at_cond (AllByRecursion (λ x. x.stamp ≤ m + 1)) (d.event.event.site == u) (filter (λ x. x.item.receiver == v) (option_to_list d.put)) []
    (λ h. all_filter (λ x. x.stamp ≤ m + 1) (λ x. x.item.receiver == v) (option_to_list d.put) (listed-low (m + 1) d.event.stamp d.put low put))
    (λ h. tt))

-- ---- all events

abbrev clock_at : (ℕ → ℕ) → ℕ → ℕ → ℕ → ℕ
clock_at clock s stamp u = cond (nat_eq u s) stamp (clock u)

clock-here : (clock : ℕ → ℕ) (s stamp : ℕ) → clock_at clock s stamp s ≡ stamp
clock-here clock s stamp = rw (eq-eqb s s refl) refl

clock-there : (clock : ℕ → ℕ) (s stamp u : ℕ) → (u ≡ s → ⊥) → clock_at clock s stamp u ≡ clock u
clock-there clock s stamp u apart = rw (false_eq u s apart) refl

pub few : (m : ℕ) (ds : List Deed) (clock : ℕ → ℕ) (w rest : Waiting) → ((s : ℕ) → Ticks (clock s) (own s ds)) → ((s : ℕ) → TicksByOne (clock s) (own s ds)) → ((s : ℕ) → clock s ≤ m) → WaitsLow m w → Flows w ds rest
    → AllByRecursion (λ d. d.event.stamp ≤ m + length ds) ds × WaitsLow (m + length ds) rest
few m [] clock w rest ticks few_ticks low waits flow =
    (tt, λ u v. subst (AllByRecursion (λ x. x.stamp ≤ m + zero)) (flow u v) (all_weaker (λ x. x.stamp ≤ m) (λ x. x.stamp ≤ m + zero) (λ x is. omega arith) (w u v) (waits u v)))
few m (d ∷ ds) clock w rest ticks few_ticks low waits flow =
    let s = d.event.event.site in
    let t = subst (Ticks (clock d.event.event.site)) (own-here d.event.event.site d ds refl) (ticks d.event.event.site) in
    let b = subst (TicksByOne (clock d.event.event.site)) (own-here d.event.event.site d ds refl) (few_ticks d.event.event.site) in
    let here : d.event.stamp ≤ m + 1 = one_more m (clock d.event.event.site) d.event.stamp d.event.event.site d.taken w (low d.event.event.site) b.0 waits flow.0 in
    let more = few (m + 1) ds (clock_at clock d.event.event.site d.event.stamp) (moved w d) rest
    (each_site (λ u. Ticks (clock_at clock d.event.event.site d.event.stamp u) (own u ds)) d.event.event.site
    (subst (λ k. Ticks k (own d.event.event.site ds)) (sym (clock-here clock d.event.event.site d.event.stamp)) t.1)
    (λ u apart.
    subst (λ k. Ticks k (own u ds)) (sym (clock-there clock d.event.event.site d.event.stamp u apart))
    (subst (Ticks (clock u)) (own-there d.event.event.site d ds refl u apart) (ticks u))))
    (each_site (λ u. TicksByOne (clock_at clock d.event.event.site d.event.stamp u) (own u ds)) d.event.event.site
    (subst (λ k. TicksByOne k (own d.event.event.site ds)) (sym (clock-here clock d.event.event.site d.event.stamp)) b.1)
    (λ u apart.
    subst (λ k. TicksByOne k (own u ds)) (sym (clock-there clock d.event.event.site d.event.stamp u apart))
    (subst (TicksByOne (clock u)) (own-there d.event.event.site d ds refl u apart) (few_ticks u))))
    (each_site (λ u. clock_at clock d.event.event.site d.event.stamp u ≤ m + 1) d.event.event.site
    (subst (λ k. k ≤ m + 1) (sym (clock-here clock d.event.event.site d.event.stamp)) here)
    (λ u apart. subst (λ k. k ≤ m + 1) (sym (clock-there clock d.event.event.site d.event.stamp u apart)) (let k : clock u ≤ m = low u in omega arith)))
    (waits-after m d w waits here t.0.put)
    flow.1 in (
      (omega arith, all_weaker (λ (e : Deed). e.event.stamp ≤ m + 1 + length ds) (λ (e : Deed). e.event.stamp ≤ m + suc (length ds)) (λ e is. omega arith) ds more.0),
      λ u v. all_weaker (λ x. x.stamp ≤ m + 1 + length ds) (λ x. x.stamp ≤ m + suc (length ds)) (λ x is. omega arith) (rest u v) (more.1 u v),
    )
