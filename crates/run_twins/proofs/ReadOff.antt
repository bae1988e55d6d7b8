-- Each event of the source is read off from its twin.
use Rattle.std.proofs.Common.{◌≡◌, ℕ, zero, suc, ◌+◌, List, [], ◌∷◌, ◌++◌, take, slice_get, Option, None, Some, is_some, refl, ap, arith, subst, ◌∙◌}
use Rattle.np_syntax.specs.declared.event.Event.{Event}
use Rattle.np_lift.specs.Posts.{prepended}
use Rattle.np_lift.specs.Lift as central
use Rattle.np_lift.specs.CachedLift as cached
use Rattle.run_twins.specs.Laws.{CachedTwinsAreReadOff, IsCachedReadOff, IsReadOff, TwinsAreReadOff}
use Rattle.run_twins.specs.Twins.{cached_from, one_if, twins_from}
use Rattle.run_twins.proofs.Counted.{lift-more}

-- a twin by its place, where the numbers begin with this one
record Placed (at twin : ℕ) (Is : ℕ → Type 0) : Type 0 where
  place : ℕ
  number : twin ≡ at + place
  is : Is place

-- behind one event more
behind : (at twin : ℕ) (Is Was : ℕ → Type 0) → ((j : ℕ) → Was j → Is (suc j)) → Placed (at + 1) twin Was → Placed at twin Is
behind at twin Is Was on p =
    let n : twin ≡ at + suc p.place = omega (arith, p.number) in
    record { place = suc p.place; number = n; is = on p.place p.is }

first : (at twin : ℕ) (Is : ℕ → Type 0) → Some at ≡ Some twin → Is zero → Placed at twin Is
first at twin Is h is =
    let same : at ≡ twin = cc in
    let n : twin ≡ at + zero = omega (arith, same) in
    record { place = zero; number = n; is = is }

one-read : (o : Option Event) (at k twin : ℕ) (high : Event) (e : Event) (es : List Event) (ns : List ℕ) (hs : List Event) → central.lifted e ≡ o
    → ((k : ℕ) → slice_get ns k ≡ Some twin → slice_get hs k ≡ Some high → Placed (at + 1) twin (λ j. IsReadOff es j high))
    → slice_get (one_if (is_some o) at ++ ns) k ≡ Some twin → slice_get (prepended o hs) k ≡ Some high → Placed at twin (λ j. IsReadOff (e ∷ es) j high)
one-read None at k twin high e es ns hs is more t h =
    behind at twin _ (λ j. IsReadOff es j high) (λ j r. record { low = r.low; there = r.there; becomes = r.becomes }) (more k t h)
one-read (Some x) at zero twin high e es ns hs is more t h = first at twin _ t (record { low = e; there = refl; becomes = is ∙ h })
one-read (Some x) at (suc k) twin high e es ns hs is more t h =
    behind at twin _ (λ j. IsReadOff es j high) (λ j r. record { low = r.low; there = r.there; becomes = r.becomes }) (more k t h)

read-off : (at : ℕ) (events : List Event) (k twin : ℕ) (high : Event) → slice_get (twins_from at events) k ≡ Some twin → slice_get (central.lift events) k ≡ Some high
    → Placed at twin (λ j. IsReadOff events j high)
read-off at [] k twin high t h = absurd cc
read-off at (e ∷ es) k twin high t h =
    one-read (central.lifted e) at k twin high e es (twins_from (at + 1) es) (central.lift es) refl (λ k t h. read-off (at + 1) es k twin high t h) t
    (subst (λ l. slice_get l k ≡ Some high) (lift-more (central.lifted e) e es refl) h)

at-number : (twin : ℕ) (Is : ℕ → Type 0) → Placed 0 twin Is → Is twin
at-number twin Is p = let n : p.place ≡ twin = omega (arith, p.number) in subst Is n p.is

pub twins-are-read-off : TwinsAreReadOff
twins-are-read-off events k twin high t h = at-number twin (λ j. IsReadOff events j high) (read-off 0 events k twin high t h)

-- ---- with caches

one-cached : (o : Option Event) (s : cached.Standing) (at k twin : ℕ) (high : Event) (e : Event) (es : List Event) (ns : List ℕ) (hs : List Event) → (cached.lifted s e).event ≡ o
    → ((k : ℕ) → slice_get ns k ≡ Some twin → slice_get hs k ≡ Some high → Placed (at + 1) twin (λ j. IsCachedReadOff (cached.lifted s e).standing es j high))
    → slice_get (one_if (is_some o) at ++ ns) k ≡ Some twin → slice_get (prepended o hs) k ≡ Some high → Placed at twin (λ j. IsCachedReadOff s (e ∷ es) j high)
one-cached None s at k twin high e es ns hs is more t h =
    behind at twin _ (λ j. IsCachedReadOff (cached.lifted s e).standing es j high) (λ j r. record { low = r.low; there = r.there; becomes = r.becomes }) (more k t h)
one-cached (Some x) s at zero twin high e es ns hs is more t h = first at twin _ t (record { low = e; there = refl; becomes = is ∙ h })
one-cached (Some x) s at (suc k) twin high e es ns hs is more t h =
    behind at twin _ (λ j. IsCachedReadOff (cached.lifted s e).standing es j high) (λ j r. record { low = r.low; there = r.there; becomes = r.becomes }) (more k t h)

cached-read-off : (s : cached.Standing) (at : ℕ) (events : List Event) (k twin : ℕ) (high : Event) → slice_get (cached_from s at events) k ≡ Some twin
    → slice_get (cached.lift_from s events) k ≡ Some high → Placed at twin (λ j. IsCachedReadOff s events j high)
cached-read-off s at [] k twin high t h = absurd cc
cached-read-off s at (e ∷ es) k twin high t h =
    let next = (cached.lifted s e).standing in
    one-cached (cached.lifted s e).event s at k twin high e es (cached_from next (at + 1) es) (cached.lift_from next es) refl
    (λ k t h. cached-read-off next (at + 1) es k twin high t h) t h

pub cached-twins-are-read-off : CachedTwinsAreReadOff
cached-twins-are-read-off events k twin high t h =
    at-number twin (λ j. IsCachedReadOff cached.at_first events j high) (cached-read-off cached.at_first 0 events k twin high t h)
