-- Which names are born behind a run of a low program.
use Rattle.std.proofs.Common.{◌≡◌, ℕ, Bool, true, false, ◌&&◌, ◌||◌, nat_eq, List, [], ◌∷◌, map, length, Some, refl, sym, ap, ◌∙◌}
use Rattle.std.proofs.lemmas.Bool.{eqb-true, eq-eqb}
use Rattle.std.specs.FinSet as set
use Rattle.std.specs.List.{list_any}
use Rattle.np_syntax.specs.declared.event.Made.TheVariants as made
use Rattle.np_tables.proofs.Tables.{born_insert, contains-none}
use Rattle.np_calculus.proofs.Common.{Name, Event, Made, NameSet, same_name, same_name-is, same_name-itself, then, done, Config, apply}
use Rattle.np_calculus.proofs.OwnNames.{not_true, own_names-lacks}
use Rattle.np_calculus.proofs.Steps.{row-step}
use Rattle.np_calculus.specs.Changes.{with_made}
use Rattle.np_calculus.specs.Reductions.{run}
use Rattle.np_calculus.specs.Starts.{own, own_names, own_numbers, start_low, with_all}
use Rattle.history_conditions.specs.Born.{IsReached, is_made, is_made_in, is_own}

-- ---- the names that a program has from the start

apart : (n i j : ℕ) → nat_eq i j ≡ false → same_name (own n i) (own n j) ≡ false
apart n i j h = not_true _ (λ e. let same : i ≡ j = ap (λ (x : Name). x.n) (same_name-is (own n i) (own n j) e) in let k = eq-eqb i j same in cc)

same-own : (n i j : ℕ) → same_name (own n i) (own n j) ≡ nat_eq i j
same-own n i j = at (nat_eq i j) refl
  where
    at : (t : Bool) → nat_eq i j ≡ t → same_name (own n i) (own n j) ≡ t
    at true e = ap (λ k. same_name (own n k) (own n j)) (eqb-true i j e) ∙ same_name-itself (own n j)
    at false e = apart n i j e

or_assoc : (a b c : Bool) → (b || (a || c)) ≡ ((a || b) || c)
or_assoc true true c = refl
or_assoc true false c = refl
or_assoc false b c = refl

or_nothing : (a : Bool) → (a || false) ≡ a
or_nothing true = refl
or_nothing false = refl

with_all-has : (names : NameSet) (n k : ℕ) (numbers : List ℕ) → set.contains (with_all names (map (own n) numbers)) (own n k) ≡ (list_any (nat_eq k) numbers || set.contains names (own n k))
with_all-has names n k [] = refl
with_all-has names n k (j ∷ numbers) =
    with_all-has (set.insert names (own n j)) n k numbers
    ∙ ap (λ t. list_any (nat_eq k) numbers || t) (born_insert names (own n j) (own n k) ∙ ap (λ t. t || set.contains names (own n k)) (same-own n k j))
    ∙ or_assoc (nat_eq k j) (list_any (nat_eq k) numbers) (set.contains names (own n k))

own-born : (n k : ℕ) → set.contains (own_names n) (own n k) ≡ list_any (nat_eq k) own_numbers
own-born n k =
    with_all-has set.empty n k own_numbers
    ∙ ap (λ t. list_any (nat_eq k) own_numbers || t) (contains-none (own n k))
    ∙ or_nothing (list_any (nat_eq k) own_numbers)

start-born : (n : ℕ) (q : Name) → set.contains (own_names n) q ≡ is_own n q
start-born n q = at (nat_eq q.site n) refl
  where
    at : (t : Bool) → nat_eq q.site n ≡ t → set.contains (own_names n) q ≡ (t && list_any (nat_eq q.n) own_numbers)
    at true e = ap (λ s. set.contains (own_names n) (record { site = s; n = q.n })) (eqb-true q.site n e) ∙ own-born n q.n
    at false e = own_names-lacks n q (λ same. let h = eq-eqb q.site n same in cc)

-- ---- the names that events make

or-assoc : (a b c : Bool) → (a || (b || c)) ≡ ((a || b) || c)
or-assoc true b c = refl
or-assoc false b c = refl

made-born : (born : NameSet) (x : Made) (q : Name) → set.contains (with_made born x) q ≡ (is_made x q || set.contains born q)
made-born born made.Nothing q = refl
made-born born (made.One m) q = born_insert born m q
made-born born (made.Two m n) q =
    born_insert (set.insert born m) n q ∙ ap (λ t. same_name q n || t) (born_insert born m q) ∙ or-assoc (same_name q n) (same_name q m) (set.contains born q)

or-swap : (a b c : Bool) → (b || (a || c)) ≡ ((a || b) || c)
or-swap a b c = or_assoc a b c

along : (es : List Event) (c d : Config) (q : Name) → run c es ≡ Some d → set.contains d.born q ≡ (is_made_in es q || set.contains c.born q)
along [] c d q runs = ap (λ (x : Config). set.contains x.born q) (let e : d ≡ c = done runs in e)
along (e ∷ es) c d q runs = then (apply c e) _ runs λ f applies more.
    let step = row-step c e f e.kind applies in
    let born : f.born ≡ with_made c.born e.made = ap (λ (x : Config). x.born) step.is in
    along es f d q more
    ∙ ap (λ t. is_made_in es q || t) (ap (λ b. set.contains b q) born ∙ made-born c.born e.made q)
    ∙ or-swap (is_made e.made q) (is_made_in es q) (set.contains c.born q)

same-sites : (es : List Event) (c d : Config) → run c es ≡ Some d → d.sites ≡ c.sites
same-sites [] c d runs = ap (λ (x : Config). x.sites) (let e : d ≡ c = done runs in e)
same-sites (e ∷ es) c d runs = then (apply c e) _ runs λ f applies more.
    let step = row-step c e f e.kind applies in
    same-sites es f d more ∙ ap (λ (x : Config). x.sites) step.is

-- a name is born where an event made it or the program has it from the start
pub born_is : (es : List Event) (c : Config) (q : Name) → IsReached es c → set.contains c.born q ≡ (is_made_in es q || is_own c.sites q)
unfolding start_low
born_is es c q reached =
    along es (start_low reached.low) c q reached.runs
    ∙ ap (λ t. is_made_in es q || t) (start-born (length reached.low.sites) q ∙ ap (λ n. is_own n q) (sym (same-sites es (start_low reached.low) c reached.runs)))
