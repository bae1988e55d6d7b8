-- What a site did alone, and one event more; and the stamps of what it did rise.
use Rattle.std.proofs.Common.{◌≡◌, ◌<◌, ◌≤◌, ◌==◌, ℕ, Bool, List, [], ◌∷◌, ◌++◌, map, Option, None, Some, IfSome, option_to_list, filter, flat_map, refl, sym, ap, subst, ◌∙◌, arith}
use Rattle.std.proofs.lemmas.Grind.{flat_map-append}
use Rattle.std.proofs.lemmas.List.Elements.{filter-append}
use Rattle.std.specs.List.{AllByRecursion}
use Rattle.np_calculus.specs.Config.{Config}
use Rattle.np_site_runs.specs.merged.Links.{loads}
use Rattle.np_site_runs.specs.merged.Steps.{IsStep}
use Rattle.stamp_history.specs.Histories.{Rises}
use Rattle.run_merge.proofs.InOrder.{all_append, all_filter, all_flat_map, all_map, all_weaker, at_cond}
use Rattle.np_site_runs.specs.merged.Deeds.{Deed, HasStamps, Leads, StampedItem, Ticks, clock_after, plain, ticked}
use Rattle.np_site_runs.specs.merged.Growing.{ClockGoesOn, PutsFollow, RunGrows, RunStarts, TakesFollow}
use Rattle.np_site_runs.specs.merged.StampedLaws.{ItemsRise, StampsRise}
use Rattle.np_site_runs.proofs.merged.Counting.{ticks-stamped}
use Rattle.np_site_runs.proofs.merged.Flowing.{IsStamped, all_both}

-- ---- one event more

leads-on : (start old new : Config) (ds : List Deed) (d : Deed) → Leads start ds old → IsStep d.event.event old (loads (plain d.taken)) new (loads (plain d.put)) → Leads start (ds ++ d ∷ []) new
leads-on start old new [] d leads step = (new, subst (λ l. IsStep d.event.event l (loads (plain d.taken)) new (loads (plain d.put))) (sym leads) step, refl)
leads-on start old new (e ∷ es) d leads step = (leads.0, leads.1, leads-on leads.0 old new es d leads.2 step)

pub ticks-on : (clock : ℕ) (ds : List Deed) (d : Deed) → Ticks clock ds → HasStamps (clock_after clock ds) d → Ticks clock (ds ++ d ∷ [])
ticks-on clock [] d ticks has = (has, tt)
ticks-on clock (e ∷ es) d ticks has = (ticks.0, ticks-on e.event.stamp es d ticks.1 has)

pub run_starts : RunStarts
run_starts n site start = record { own = tt; leads = refl; ticks = tt }

pub run_grows : RunGrows
run_grows n site start old new ds d run next = record {
  own = all_append _ ds (d ∷ []) run.own (next.own, tt);
  leads = leads-on start old new ds d run.leads next.step;
  ticks = ticks-on 0 ds d run.ticks next.stamps;
}

pub clock_goes_on : ClockGoesOn
clock_goes_on clock [] d = refl
clock_goes_on clock (e ∷ es) d = clock_goes_on e.event.stamp es d

follow : (g : Deed → List StampedItem) (q : StampedItem → Bool) (ds es : List Deed) → filter q (flat_map g (ds ++ es)) ≡ filter q (flat_map g ds) ++ filter q (flat_map g es)
follow g q ds es = ap (filter q) (flat_map-append g ds es) ∙ filter-append q (flat_map g ds) (flat_map g es)

pub puts_follow : PutsFollow
puts_follow t = follow (λ d. option_to_list d.put) (λ x. x.item.receiver == t)

pub takes_follow : TakesFollow
takes_follow s = follow (λ d. option_to_list d.taken) (λ x. x.item.sender == s)

-- ---- rising stamps

above : (clock m : ℕ) (o : Option StampedItem) → ticked clock o ≤ m → clock < m
above clock m None is = omega arith
above clock m (Some x) is = omega arith

ticks-above : (clock : ℕ) (ds : List Deed) → Ticks clock ds → AllByRecursion (λ d. clock < d.event.stamp) ds
ticks-above clock [] ticks = tt
ticks-above clock (d ∷ ds) ticks =
    let first : clock < d.event.stamp = above clock d.event.stamp d.taken ticks.0.event in
    (first, all_weaker (λ (e : Deed). d.event.stamp < e.event.stamp) (λ (e : Deed). clock < e.event.stamp) (λ e is. omega arith) ds (ticks-above d.event.stamp ds ticks.1))

pub events-rise : (clock : ℕ) (ds : List Deed) → Ticks clock ds → Rises (map (λ d. d.event) ds)
events-rise clock [] ticks = tt
events-rise clock (d ∷ ds) ticks =
    (all_map (λ later. d.event.stamp < later.stamp) (λ (d : Deed). d.event) ds (ticks-above d.event.stamp ds ticks.1), events-rise d.event.stamp ds ticks.1)

put-above : (m n : ℕ) (o : Option StampedItem) → m < n → IfSome o (λ x. x.stamp ≡ n) → AllByRecursion (λ x. m < x.stamp) (option_to_list o)
put-above m n None less is = tt
put-above m n (Some x) less is = let same : x.stamp ≡ n = is in (omega arith, tt)

puts-above : (clock : ℕ) (ds : List Deed) → Ticks clock ds → AllByRecursion (λ x. clock < x.stamp) (flat_map (λ d. option_to_list d.put) ds)
puts-above clock ds ticks =
    all_flat_map (λ x. clock < x.stamp) (λ d. option_to_list d.put) ds
    (all_weaker (λ d. (clock < d.event.stamp) × IsStamped d) (λ d. AllByRecursion (λ x. clock < x.stamp) (option_to_list d.put)) (λ d is. put-above clock d.event.stamp d.put is.0 is.1.put) ds
    (all_both (λ d. clock < d.event.stamp) IsStamped ds (ticks-above clock ds ticks) (ticks-stamped clock ds ticks)))

rise-after : (m : ℕ) (o : Option StampedItem) (xs : List StampedItem) → IfSome o (λ x. x.stamp ≡ m) → AllByRecursion (λ x. m < x.stamp) xs → ItemsRise xs → ItemsRise (option_to_list o ++ xs)
rise-after m None xs is high rise = rise
rise-after m (Some x) xs is high rise =
    let same : x.stamp ≡ m = is in
    (all_weaker (λ (y : StampedItem). m < y.stamp) (λ y. x.stamp < y.stamp) (λ y h. omega arith) xs high, rise)

puts-rise : (clock : ℕ) (ds : List Deed) → Ticks clock ds → ItemsRise (flat_map (λ d. option_to_list d.put) ds)
puts-rise clock [] ticks = tt
puts-rise clock (d ∷ ds) ticks =
    rise-after d.event.stamp d.put (flat_map (λ d. option_to_list d.put) ds) ticks.0.put (puts-above d.event.stamp ds ticks.1) (puts-rise d.event.stamp ds ticks.1)

rise-filter : (q : StampedItem → Bool) (xs : List StampedItem) → ItemsRise xs → ItemsRise (filter q xs)
rise-filter q [] rise = tt
rise-filter q (x ∷ xs) rise =
    let rest = rise-filter q xs rise.1 in
    at_cond ItemsRise (q x) (x ∷ filter q xs) (filter q xs) (λ h. (all_filter (λ later. x.stamp < later.stamp) q xs rise.0, rest)) (λ h. rest)

pub stamps_rise : StampsRise
stamps_rise n site start end ds run = record {
  events = events-rise 0 ds run.ticks;
  items = λ t. rise-filter (λ x. x.item.receiver == t) (flat_map (λ d. option_to_list d.put) ds) (puts-rise 0 ds run.ticks);
}
