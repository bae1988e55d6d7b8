-- How many of the first events of a list print a value.
use Rattle.std.proofs.Common.{◌≡◌, ◌+◌, ◌<◌, ℕ, zero, suc, Bool, true, false, cond, List, [], ◌∷◌, length, take, refl, sym, arith, get_or}
use Rattle.np_syntax.specs.declared.event.Event.{Event}
use Rattle.run_views.specs.Past.{is_print}
use Rattle.run_views.specs.Saying.{prints}

next : (n : ℕ) → n + 1 ≡ suc n
next n = omega arith

-- one event more
step : (events : List Event) (i : ℕ) (d : Event) → i < length events
    → prints (take (suc i) events) ≡ cond (is_print (get_or events i d).kind) (suc (prints (take i events))) (prints (take i events))
step [] i d less = absurd (omega arith)
step (e ∷ es) zero d less = refl
step (e ∷ es) (suc i) d less = rw (step es i d (omega arith)) (both (is_print e.kind) (is_print (get_or es i d).kind) (prints (take i es)))
  where
    both : (a b : Bool) (n : ℕ) → cond a (suc (cond b (suc n) n)) (cond b (suc n) n) ≡ cond b (suc (cond a (suc n) n)) (cond a (suc n) n)
    both true true n = refl
    both true false n = refl
    both false true n = refl
    both false false n = refl

pub one_more : (events : List Event) (i : ℕ) (d : Event) (n m : ℕ) → i < length events → true ≡ is_print (get_or events i d).kind → n ≡ prints (take i events) → m ≡ n + 1
    → m ≡ prints (take (i + 1) events)
one_more events i d n m less is e more = rw (more, next i, next n, step events i d less, sym is, e) refl

pub none_more : (events : List Event) (i : ℕ) (d : Event) (n m : ℕ) → i < length events → false ≡ is_print (get_or events i d).kind → n ≡ prints (take i events) → m ≡ n
    → m ≡ prints (take (i + 1) events)
none_more events i d n m less is e same = rw (same, next i, step events i d less, sym is, e) refl
