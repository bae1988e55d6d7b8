-- A crew goes on until no event is added.
use Rattle.std.proofs.Common.{◌≡◌, ◌<◌, ◌≤◌, ◌*◌, ◌-◌, ℕ, suc, List, [], ◌∷◌, length, get_or, refl, sym, ap₂, subst, ◌∙◌, arith}
use Rattle.stamp_history.specs.Histories.{Recorded}
use Rattle.site_turn.proofs.Holdings.{history_trans, later_trans}
use Rattle.np_syntax.specs.declared.event.End.TheVariants as ends
use Rattle.site_crew.specs.declared.round.Round.{Round}
use Rattle.site_crew.specs.declared.round.Round.TheVariants as round
use Rattle.site_crew.specs.Crews.{CrewState, GoesOn, HasEnded, IsRoundOf}
use Rattle.site_crew.specs.Runs.{AreHistoriesOf}
use Rattle.site_crew.specs.Seats.{AllGrow, AllLater, event_count}
use Rattle.site_crew.proofs.Crewing.{grow_refl}

pub grow_trans : {xs ys zs : List Recorded} → AllGrow xs ys → AllGrow ys zs → AllGrow xs zs
grow_trans {xs} {ys} {zs} h k = record {
  count = k.count ∙ h.count;
  each = λ i d lt. history_trans (h.each i d lt) (k.each i d (subst (λ (m : ℕ). i < m) (sym h.count) lt));
}

pub all_later_trans : {us vs ws : List ℕ} {xs ys zs : List Recorded} → AllLater us xs vs ys → AllLater vs ys ws zs → AllLater us xs ws zs
all_later_trans {us} {vs} {ws} {xs} {ys} {zs} h k = record {
  count = k.count ∙ h.count;
  each = λ i d lt. later_trans (h.each i d lt) (k.each i d (subst (λ (m : ℕ). i < m) (sym h.count) lt));
}

pub on_refl : (c : CrewState) → GoesOn c c
on_refl c = record { code = refl; budget = refl; histories = grow_refl c.histories }

pub on_trans : {a b c : CrewState} → GoesOn a b → GoesOn b c → GoesOn a c
on_trans h k = record { code = k.code ∙ h.code; budget = k.budget ∙ h.budget; histories = grow_trans h.histories k.histories }

bounded : (most : ℕ) (hs : List Recorded) → ((k : ℕ) (d : Recorded) → k < length hs → length (get_or hs k d).events ≤ most) → event_count hs ≤ length hs * most
bounded most [] f = omega arith
bounded most (h ∷ hs) f =
    let first : length h.events ≤ most = f 0 h (omega arith) in
    let rest : event_count hs ≤ length hs * most = bounded most hs (λ k d lt. f (suc k) d (omega arith)) in
    omega arith

count-bound : (n most : ℕ) (hs : List Recorded) → AreHistoriesOf n most hs → event_count hs ≤ length hs * most
count-bound n most hs are = bounded most hs (λ k d lt.
    let is = are.each k d (subst (λ (m : ℕ). k < m) are.count lt) in
    subst (λ (m : ℕ). length (get_or hs k d).events ≤ m) is.budget is.history.within)

-- how many more events there is room for
abbrev pub room_left : CrewState → ℕ
room_left c = length c.histories * c.budget - event_count c.histories

pub room_less : (n : ℕ) (old new : CrewState) → GoesOn old new → event_count old.histories < event_count new.histories → AreHistoriesOf n new.budget new.histories → room_left new < room_left old
room_less n old new on went are =
    let bound : event_count new.histories ≤ length new.histories * new.budget = count-bound n new.budget new.histories are in
    let same : length new.histories * new.budget ≡ length old.histories * old.budget = ap₂ (λ x y. x * y) on.histories.count on.budget in
    omega arith

-- what the last round tells
pub ended_rest : (old new : CrewState) (r : Round) → IsRoundOf old new r → r ≡ round.Rest → HasEnded new ends.Rest
ended_rest old new r is e =
    let t : IsRoundOf old new round.Rest = subst (IsRoundOf old new) e is in
    record { last = t.end; run = t.run; shown = t.shown; carried = t.carried; rests = (λ h. t.tells.1, λ idle. refl); spent = λ h. absurd (let x = h in cc); still = λ h. absurd (let x = h in cc) }

pub ended_spent : (old new : CrewState) (r : Round) → IsRoundOf old new r → r ≡ round.Spent → HasEnded new ends.Spent
ended_spent old new r is e =
    let t : IsRoundOf old new round.Spent = subst (IsRoundOf old new) e is in
    record { last = t.end; run = t.run; shown = t.shown; carried = t.carried; rests = (λ h. absurd (let x = h in cc), λ idle. absurd (t.tells.1 idle)); spent = λ h. t.spent refl; still = λ h. t.still refl }

pub went_less : (old new : CrewState) (r : Round) → GoesOn old new → IsRoundOf old new r → r ≡ round.Went → room_left new < room_left old
went_less old new r on is e =
    let t : IsRoundOf old new round.Went = subst (IsRoundOf old new) e is in
    room_less _ old new on t.tells t.run.sites
