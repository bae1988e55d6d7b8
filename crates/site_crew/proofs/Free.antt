-- Where no seat wanted for memory no item is set aside: no stamp is so great that it is not accepted.
use Rattle.std.proofs.Common.{◌≡◌, ◌<◌, ◌≤◌, ◌*◌, ℕ, suc, inl, inr, List, [], ◌∷◌, length, get_or, refl, subst, arith}
use Rattle.std.specs.List.{AllByRecursion}
use Rattle.np_syntax.specs.declared.limits.TheConstants.{LARGEST_BUDGET, MOST_SITES, STAMPS_END}
use Rattle.stamp_history.specs.declared.stamped.Stamped.{Stamped}
use Rattle.stamp_history.specs.Histories.{Recorded}
use Rattle.site_links.specs.declared.port.Port as Port
use Rattle.np_code.specs.Programs.{ProgramTable}
use Rattle.agent_move.specs.declared.item.Item.{Item}
use Rattle.site_turn.specs.declared.seat.Seat.{Seat}
use Rattle.site_turn.specs.Steady.{IsStampOf}
use Rattle.site_crew.specs.Crews.{NoneFailed}
use Rattle.site_crew.specs.Passes.{AreLow, NoneAside}
use Rattle.site_crew.specs.Seats.{Stand, event_count, histories}
use Rattle.site_crew.proofs.Aside.{none_aside}
use Rattle.site_crew.proofs.Clocks.{stamp_few}
use Rattle.site_crew.proofs.Whole.{are_histories}

-- histories of no more events than the greatest budget
count-within : (hs : List Recorded) → ((i : ℕ) (d : Recorded) → i < length hs → length (get_or hs i d).events ≤ LARGEST_BUDGET) → event_count hs ≤ length hs * LARGEST_BUDGET
count-within [] within = omega arith
count-within (h ∷ hs) within =
    let here : length h.events ≤ LARGEST_BUDGET = within 0 h (omega arith) in
    let rest : event_count hs ≤ length hs * LARGEST_BUDGET = count-within hs (λ i d less. within (suc i) d (omega arith)) in
    omega arith

all-below : (n : ℕ) (es : List Stamped) → ((m : ℕ) → IsStampOf m es → m < n) → AllByRecursion (λ e. e.stamp < n) es
all-below n [] below = tt
all-below n (e ∷ es) below = (below e.stamp (inl refl), all-below n es (λ m is. below m (inr is)))

module _ {P R : Type 0} {g : Port.Ghosts P R Item} {code : ProgramTable} {limit : ℕ} {xs : List (Seat P)} (stand : Stand g code limit xs) (few : length code.sites ≤ MOST_SITES)
    (budget : limit ≤ LARGEST_BUDGET) where
  total : event_count (histories xs) < STAMPS_END
  total =
      let are = are_histories g code limit xs stand.seats stand.whole in
      let count : length (histories xs) ≡ length code.sites = are.count in
      let all : event_count (histories xs) ≤ length (histories xs) * LARGEST_BUDGET =
      count-within (histories xs) (λ i d less.
      let its = are.each i d (subst (λ (m : ℕ). i < m) count less) in
      let within : length (get_or (histories xs) i d).events ≤ limit = subst (λ (m : ℕ). length (get_or (histories xs) i d).events ≤ m) its.budget its.history.within in
      omega arith) in
      omega arith

  are-low : AreLow xs
  are-low = record {
    each = λ i s at.
        all-below STAMPS_END s.site.history.events (λ m is.
        let low : m ≤ event_count (histories xs) = stamp_few stand.seats stand.settled stand.steady i s at m is in
        let end : event_count (histories xs) < STAMPS_END = total in
        omega arith);
  }

  pub free_aside : NoneFailed xs → NoneAside xs
  free_aside ok = none_aside stand are-low ok
