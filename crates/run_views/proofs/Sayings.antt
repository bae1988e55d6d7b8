-- What a run says is said by its Prints, in their order.
use Rattle.std.proofs.Common.{◌≡◌, ◌+◌, ℕ, zero, suc, Bool, true, false, cond, List, [], ◌∷◌, ◌++◌, length, take, is_some, Option, None, Some, refl, ap, ap₂, sym, subst, ◌∙◌, arith}
use Rattle.std.proofs.Common.{append_assoc, append-nil}
use Rattle.std.proofs.lemmas.List.{length-append}
use Rattle.std.specs.Prelude.{slice_get}
use Rattle.np_calculus.proofs.Common.{Value, Event, then, done, Config, inside, apply}
use Rattle.np_calculus.specs.Changes.{with_said}
use Rattle.np_calculus.specs.Reductions.{run}
use Rattle.np_calculus.specs.Starts.{start_low}
use Rattle.np_calculus.proofs.Steps.{RowStep, row-step}
use Rattle.run_views.specs.Laws.{Says}
use Rattle.run_views.specs.Past.{is_print}
use Rattle.run_views.specs.Saying.{LowSaidByPrints, SaidByPrints, prints}
use Rattle.run_views.proofs.StartBorn.{low-silent}
use Rattle.run_views.proofs.Traced.{traced}

-- what was said behind the front, as many values as this
record Adds (front all : List (ℕ × Value)) (n : ℕ) : Type 0 where
  more : List (ℕ × Value)
  is : all ≡ front ++ more
  count : length more ≡ n

-- what one event says
saying : (xs : List (ℕ × Value)) (site : ℕ) (o : Option Value) (b : Bool) → is_some o ≡ b → Adds xs (with_said xs site o) (cond b 1 0)
saying xs site None b h = subst (λ b. Adds xs xs (cond b 1 0)) h (record { more = []; is = sym (append-nil xs); count = refl })
saying xs site (Some v) b h = subst (λ b. Adds xs (xs ++ (site, v) ∷ []) (cond b 1 0)) h (record { more = (site, v) ∷ []; is = refl; count = refl })

said-after : (c d : Config) (e : Event) → apply c e ≡ Some d → Adds c.said d.said (cond (is_print e.kind) 1 0)
said-after c d e h =
    let r : RowStep c e d e.kind = row-step c e d e.kind h in
    subst (λ (x : Config). Adds c.said x.said (cond (is_print e.kind) 1 0)) (sym r.is)
    (saying c.said e.site r.made.said (is_print e.kind) (traced c.sites (inside c) e r.made e.kind r.gives).says)

joined : {a b c : List (ℕ × Value)} {m n : ℕ} → Adds a b m → Adds b c n → Adds a c (m + n)
joined {a} f s = record {
  more = f.more ++ s.more;
  is = s.is ∙ ap (λ xs. xs ++ s.more) f.is ∙ append_assoc a f.more s.more;
  count = length-append f.more s.more ∙ (let one = f.count in let two = s.count in omega arith);
}

one-more : (b : Bool) (n : ℕ) → cond b 1 0 + n ≡ cond b (suc n) n
one-more true n = omega arith
one-more false n = omega arith

said-along : (events : List Event) (c last : Config) → run c events ≡ Some last → Adds c.said last.said (prints events)
said-along [] c last h = record { more = []; is = ap (λ (d : Config). d.said) (done h) ∙ sym (append-nil c.said); count = refl }
said-along (e ∷ es) c last h = then (apply c e) _ h λ next first h.
    subst (Adds c.said last.said) (one-more (is_print e.kind) (prints es)) (joined (said-after c next e first) (said-along es next last h))

-- ---- the value of a Print

found : (xs ys : List (ℕ × Value)) (item : ℕ × Value) → slice_get ((xs ++ item ∷ []) ++ ys) (length xs + 0) ≡ Some item
found [] ys item = refl
found (x ∷ xs) ys item = ap (slice_get ((x ∷ xs ++ item ∷ []) ++ ys)) (next (length xs)) ∙ found xs ys item
  where
    next : (n : ℕ) → suc n + 0 ≡ suc (n + 0)
    next n = omega arith

said-at : (events : List Event) (c last : Config) → run c events ≡ Some last → (i : ℕ) (item : ℕ × Value) → Says c events i item
    → slice_get last.said (length c.said + prints (take i events)) ≡ Some item
said-at [] c last h i item s = absurd (let none = s.is in cc)
said-at (e ∷ es) c last h zero item s = then (apply c e) _ h λ next first h.
    let before : s.before ≡ c = done s.comes in
    let event : e ≡ s.event = (let k : Some e ≡ Some s.event = s.is in cc) in
    let after : next ≡ s.after = done (sym s.applies ∙ ap₂ apply before (sym event) ∙ first) in
    let says : next.said ≡ c.said ++ item ∷ [] = ap (λ (d : Config). d.said) after ∙ s.says ∙ ap (λ (d : Config). d.said ++ item ∷ []) before in
    let rest = said-along es next last h in
    ap (λ xs. slice_get xs (length c.said + 0)) (rest.is ∙ ap (λ xs. xs ++ rest.more) says) ∙ found c.said rest.more item
said-at (e ∷ es) c last h (suc i) item s = then (apply c e) _ h λ next first h. then (apply c e) _ s.comes λ other again comes.
    let same : other ≡ next = done (sym first ∙ again) in
    let later : Says next es i item = record {
      before = s.before;
      comes = ap (λ (d : Config). run d (take i es)) (sym same) ∙ comes;
      event = s.event;
      is = s.is;
      prints = s.prints;
      after = s.after;
      applies = s.applies;
      says = s.says;
    } in
    let adds = said-after c next e first in
    let count : length next.said ≡ length c.said + cond (is_print e.kind) 1 0 = ap length adds.is ∙ length-append c.said adds.more ∙ ap (λ n. length c.said + n) adds.count in
    let place : length next.said + prints (take i es) ≡ length c.said + prints (take (suc i) (e ∷ es)) =
    ap (λ n. n + prints (take i es)) count ∙ added (length c.said) (is_print e.kind) (prints (take i es)) in
    ap (slice_get last.said) (sym place) ∙ said-at es next last h i item later
  where
    added : (m : ℕ) (b : Bool) (n : ℕ) → (m + cond b 1 0) + n ≡ m + cond b (suc n) n
    added m true n = omega arith
    added m false n = omega arith

pub said-by-prints : SaidByPrints
said-by-prints c last events h =
    let all = said-along events c last h in
    (ap length all.is ∙ length-append c.said all.more ∙ ap (λ n. length c.said + n) all.count, λ i item s. said-at events c last h i item s)

from-none : (n : ℕ) → 0 + n ≡ n
from-none n = omega arith

pub low-said-by-prints : LowSaidByPrints
low-said-by-prints low last events h =
    let both = said-by-prints (start_low low) last events h in
    let none : length (start_low low).said ≡ 0 = ap length (low-silent low) in (
      both.0 ∙ ap (λ n. n + prints events) none ∙ from-none (prints events),
      λ i item s. ap (slice_get last.said) (sym (ap (λ n. n + prints (take i events)) none ∙ from-none (prints (take i events)))) ∙ both.1 i item s,
    )
