-- A history that one more event, and one more value, is recorded in.
use Rattle.std.proofs.Common.{◌≡◌, ◌≢◌, ◌<◌, ◌≤◌, ◌+◌, ℕ, Bool, true, false, cond, List, [], ◌∷◌, ◌++◌, length, refl, ap, ◌∙◌, arith, length-append, count_by, zero-add}
use Rattle.std.proofs.lemmas.List.Sums.{sum_by-append}
use Rattle.std.specs.List.{AllByRecursion}
use Rattle.np_syntax.specs.declared.event.Kind.{Kind}
use Rattle.np_syntax.specs.declared.event.Kind.TheVariants as kind
use Rattle.np_syntax.specs.declared.value.Value.{Value}
use Rattle.stamp_history.specs.declared.stamped.Stamped.{Stamped}
use Rattle.stamp_history.specs.Histories.{Recorded, IsHistory, IsRoomy, Rises, IsAboveLast, prints, is_print, with_event, with_said}

-- the last stamp is the greatest
above_all : (es : List Stamped) (stamp : ℕ) → Rises es → IsAboveLast es stamp → AllByRecursion (λ e. e.stamp < stamp) es
above_all [] stamp r a = tt
above_all (e ∷ []) stamp r a = (a, tt)
above_all (e ∷ f ∷ es) stamp r a =
    let rest = above_all (f ∷ es) stamp r.1 a in
    let near : e.stamp < f.stamp = r.0.0 in
    let far : f.stamp < stamp = rest.0 in
    let through : e.stamp < stamp = omega arith in
    (through, rest)

All-snoc : {A : Type 0} (P : A → Type 0) (xs : List A) (x : A) → AllByRecursion P xs → P x → AllByRecursion P (xs ++ x ∷ [])
All-snoc P [] x all p = (p, tt)
All-snoc P (y ∷ ys) x all p = (all.0, All-snoc P ys x all.1 p)

Rises-snoc : (es : List Stamped) (e : Stamped) → Rises es → AllByRecursion (λ x. x.stamp < e.stamp) es → Rises (es ++ e ∷ [])
Rises-snoc [] e r a = (tt, tt)
Rises-snoc (x ∷ xs) e r a = (All-snoc (λ later. x.stamp < later.stamp) xs e r.0 a.0, Rises-snoc xs e r.1 a.1)

prints_not : (k : Kind) → k ≢ kind.Print → prints k ≡ false
prints_not kind.Print apart = absurd (apart refl)
prints_not _ apart = refl

prints_so : (k : Kind) → k ≡ kind.Print → prints k ≡ true
prints_so k e = ap prints e

count-snoc : (es : List Stamped) (e : Stamped) (b : Bool) → is_print e ≡ b → count_by is_print (es ++ e ∷ []) ≡ count_by is_print es + cond b 1 0
count-snoc es e b is = sum_by-append (λ x. cond (is_print x) 1 0) es (e ∷ []) ∙ rw is (ap (λ n. count_by is_print es + n) (zero-add (cond b 1 0)))

-- what recording an event leaves to say of the values
with_one_more : (h : Recorded) (e : Stamped) → IsHistory h → length h.events < h.budget → IsAboveLast h.events e.stamp
    → (length (h.events ++ e ∷ []) ≤ h.budget) × Rises (h.events ++ e ∷ [])
with_one_more h e is room above =
    (let long = length-append h.events (e ∷ []) in omega (arith, long), Rises-snoc h.events e is.rising (above_all h.events e.stamp is.rising above))

pub roomy-event : (h : Recorded) (e : Stamped) (room more : ℕ) → IsRoomy h room → length h.events < h.budget → IsAboveLast h.events e.stamp
    → e.event.kind ≢ kind.Print → room ≤ more → IsRoomy (with_event h e) more
roomy-event h e room more is fits above apart grows =
    let one = with_one_more h e is.history fits above in
    let count = count-snoc h.events e false (prints_not e.event.kind apart) in
    record {
      history = record { within = one.0; rising = one.1; one_each = let was = is.history.one_each in omega (arith, count, was) };
      fits = is.fits;
      reserved = let was = is.reserved in omega (arith, was);
    }

pub roomy-said : (h : Recorded) (e : Stamped) (v : Value) (room more : ℕ) → IsRoomy h room → length h.events < h.budget → IsAboveLast h.events e.stamp
    → e.event.kind ≡ kind.Print → room ≤ more → IsRoomy (with_said (with_event h e) v) more
roomy-said h e v room more is fits above so grows =
    let one = with_one_more h e is.history fits above in
    let count = count-snoc h.events e true (prints_so e.event.kind so) in
    let long = length-append h.said (v ∷ []) in
    record {
      history = record { within = one.0; rising = one.1; one_each = let was = is.history.one_each in omega (arith, count, was, long) };
      fits = is.fits;
      reserved = let was = is.reserved in omega (arith, was);
    }
