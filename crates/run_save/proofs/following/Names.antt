-- The number of a site's next name is that of the names that it made.
use Rattle.std.proofs.Common.{◌≡◌, ◌+◌, ◌==◌, ℕ, suc, Bool, false, cond, ◌||◌, nat_eq, nat_lt, List, [], ◌∷◌, ◌++◌, length, Some, inl, inr, refl, sym, ap, ap₂, subst, ◌∙◌, length-append, arith}
use Rattle.std.proofs.lemmas.Bool.{eq-eqb}
use Rattle.std.proofs.lemmas.Bool.Decides.{eqb_tells, nat_tests}
use Rattle.std.specs.FinSet as set
use Rattle.std.specs.List.{AllByRecursion}
use Rattle.np_calculus.proofs.Common.{Name, Event, Made, NameSet, same_name, same_name-is, then, Config, apply}
use Rattle.np_syntax.specs.declared.event.Made.TheVariants as made
use Rattle.np_tables.proofs.Tables.{born_insert, same_name-itself}
use Rattle.np_calculus.specs.Changes.{with_made}
use Rattle.np_calculus.specs.FrameRule.{IsMade}
use Rattle.np_calculus.specs.Reductions.{run}
use Rattle.np_calculus.specs.Starts.{own_numbers, start_low}
use Rattle.np_calculus.proofs.OwnNames.{not_true}
use Rattle.np_calculus.proofs.Steps.{row-step}
use Rattle.np_site_runs.proofs.merged.Steps.{false_eq}
use Rattle.run_merge.specs.Merged.{items, merged}
use Rattle.np_site_runs.specs.Holdings.{name_of}
use Rattle.np_site_runs.proofs.Starting.{low_start_is_held}
use Rattle.run_save.specs.Ours.{AreNext, names_by, names_of}
use Rattle.run_save.proofs.NameLaws.{next-back, next-front}
use Rattle.run_save.specs.following.Names.{NextIsCounted}

-- ---- the names that an event makes are its site's own

own-of : (s n : ℕ) (x : Made) → AreNext s n (names_of x) → (q : Name) → IsMade x q → q.site ≡ s
own-of s n made.Nothing next q is = absurd is
own-of s n (made.One m) next q is = ap (λ (q : Name). q.site) (is ∙ next.0)
own-of s n (made.Two m k) next q (inl is) = ap (λ (q : Name). q.site) (is ∙ next.0)
own-of s n (made.Two m k) next q (inr is) = ap (λ (q : Name). q.site) (is ∙ next.1.0)

abbrev MakesOwn : Event → Type 0
MakesOwn e = (q : Name) → IsMade e.made q → q.site ≡ e.site

-- the site numbers its names, from some number on
abbrev Numbers : List Event → Type 0
Numbers es = (u : ℕ) → (n : ℕ) × AreNext u n (names_by u es)

next-here : (e : Event) (es : List Event) (n : ℕ) → AreNext e.site n (names_by e.site (e ∷ es)) → AreNext e.site n (names_of e.made ++ names_by e.site es)
next-here e es n h = subst (λ t. AreNext e.site n (cond t (names_of e.made) [] ++ names_by e.site es)) (eq-eqb e.site e.site refl) h

next-after : (e : Event) (es : List Event) (u n : ℕ) → AreNext u n (names_by u (e ∷ es)) → (m : ℕ) × AreNext u m (names_by u es)
next-after e es u n h = (n + length (cond (e.site == u) (names_of e.made) []), next-back u n (cond (e.site == u) (names_of e.made) []) (names_by u es) h)

make-own : (es : List Event) → Numbers es → AllByRecursion MakesOwn es
make-own [] h = tt
make-own (e ∷ es) h = (
  own-of e.site (h e.site).0 e.made (next-front e.site (h e.site).0 (names_of e.made) (names_by e.site es) (next-here e es (h e.site).0 (h e.site).1)),
  make-own es (λ u. next-after e es u (h u).0 (h u).1),
)

-- ---- which names are born along a run

below-more : (k m : ℕ) → (nat_eq k m || nat_lt k m) ≡ nat_lt k (suc m)
below-more k m = grind (arith, nat_tests)

same-number : (s j k : ℕ) → same_name (name_of s j) (name_of s k) ≡ nat_eq j k
same-number s j k = elim (eqb_tells j k) [
  | inl w ↦ subst (λ m. same_name (name_of s j) (name_of s m) ≡ nat_eq j m) w.1 (same_name-itself (name_of s j) ∙ sym (eq-eqb j j refl))
  | inr w ↦ not_true _ (λ t. w.1 (ap (λ (q : Name). q.n) (same_name-is (name_of s j) (name_of s k) t))) ∙ sym (false_eq j k w.1)
]

-- of the names of a site those below a number are born
abbrev Below : ℕ → ℕ → NameSet → Type 0
Below s m born = (k : ℕ) → set.contains born (name_of s k) ≡ nat_lt k m

one-born : (s m : ℕ) (born : NameSet) (q : Name) → q ≡ name_of s m → Below s m born → Below s (suc m) (set.insert born q)
one-born s m born q is below k =
    ap (λ q. set.contains (set.insert born q) (name_of s k)) is ∙ born_insert born (name_of s m) (name_of s k) ∙ ap₂ (λ a b. a || b) (same-number s k m) (below k) ∙ below-more k m

below-is : (s : ℕ) (m n : ℕ) (born : NameSet) → m ≡ n → Below s m born → Below s n born
below-is s m n born e h = subst (λ k. Below s k born) e h

born-here : (s m : ℕ) (born : NameSet) (x : Made) → AreNext s m (names_of x) → Below s m born → Below s (m + length (names_of x)) (with_made born x)
born-here s m born made.Nothing next below = below-is s m (m + 0) born (omega arith) below
born-here s m born (made.One p) next below = below-is s (suc m) (m + 1) (set.insert born p) (omega arith) (one-born s m born p next.0 below)
born-here s m born (made.Two p q) next below =
    let e : m + 1 ≡ suc m = omega arith in
    below-is s (suc (suc m)) (m + 2) (set.insert (set.insert born p) q) (omega arith)
    (one-born s (suc m) (set.insert born p) q (next.1.0 ∙ ap (name_of s) e) (one-born s m born p next.0 below))

or_false : (t b : Bool) → t ≡ false → (t || b) ≡ b
or_false t b h = ap (λ t. t || b) h

not-born : (born : NameSet) (p q : Name) → (p.site ≡ q.site → ⊥) → set.contains (set.insert born p) q ≡ set.contains born q
not-born born p q apart = born_insert born p q ∙ or_false (same_name q p) _ (not_true _ (λ t. apart (ap (λ (n : Name). n.site) (sym (same_name-is q p t)))))

born-there : (s : ℕ) (born : NameSet) (x : Made) (u : ℕ) → ((q : Name) → IsMade x q → q.site ≡ u) → (u ≡ s → ⊥) → (k : ℕ)
    → set.contains (with_made born x) (name_of s k) ≡ set.contains born (name_of s k)
born-there s born made.Nothing u own apart k = refl
born-there s born (made.One p) u own apart k = not-born born p (name_of s k) (λ e. apart (sym (own p refl) ∙ e))
born-there s born (made.Two p q) u own apart k =
    not-born (set.insert born p) q (name_of s k) (λ e. apart (sym (own q (inr refl)) ∙ e)) ∙ not-born born p (name_of s k) (λ e. apart (sym (own p (inl refl)) ∙ e))

below-along : (s : ℕ) (es : List Event) (c d : Config) (m : ℕ) → run c es ≡ Some d → AllByRecursion MakesOwn es → AreNext s m (names_by s es) → Below s m c.born
    → Below s (m + length (names_by s es)) d.born
below-along s [] c d m runs own next below = subst (λ (x : Config). Below s (m + 0) x.born) (let e : c ≡ d = cc in e) (below-is s m (m + 0) c.born (omega arith) below)
below-along s (e ∷ es) c d m runs own next below = then (apply c e) _ runs λ f applies more.
    let step = row-step c e f e.kind applies in
    let born : f.born ≡ with_made c.born e.made = ap (λ (x : Config). x.born) step.is in
    elim (eqb_tells e.site s) [
      | inl w ↦
          let there : names_by s (e ∷ es) ≡ names_of e.made ++ names_by s es = ap (λ t. cond t (names_of e.made) [] ++ names_by s es) w.0 in
          let all : AreNext s m (names_of e.made ++ names_by s es) = subst (AreNext s m) there next in
          let now : Below s (m + length (names_of e.made)) f.born = subst (Below s (m + length (names_of e.made))) (sym born) (born-here s m c.born e.made (next-front s m (names_of e.made) (names_by s es) all) below) in
          let rest = below-along s es f d (m + length (names_of e.made)) more own.1 (next-back s m (names_of e.made) (names_by s es) all) now in
          let long : length (names_by s (e ∷ es)) ≡ length (names_of e.made) + length (names_by s es) = ap length there ∙ length-append (names_of e.made) (names_by s es) in
          below-is s (m + length (names_of e.made) + length (names_by s es)) (m + length (names_by s (e ∷ es))) d.born (omega arith) rest
      | inr w ↦
          let there : names_by s (e ∷ es) ≡ names_by s es = ap (λ t. cond t (names_of e.made) [] ++ names_by s es) w.0 in
          let now : Below s m f.born = λ k. ap (λ b. set.contains b (name_of s k)) born ∙ born-there s c.born e.made e.site own.0 w.1 k ∙ below k in
          let rest = below-along s es f d m more own.1 (subst (AreNext s m) there next) now in
          below-is s (m + length (names_by s es)) (m + length (names_by s (e ∷ es))) d.born (ap (λ xs. m + length xs) (sym there)) rest
    ]

-- ---- at the end

one-bound : (a b : ℕ) → ((k : ℕ) → nat_lt k a ≡ nat_lt k b) → a ≡ b
one-bound a b same = elim (eqb_tells a b) [
  | inl w ↦ w.1
  | inr w ↦ let one : nat_lt a a ≡ nat_lt a b = same a in let two : nat_lt b a ≡ nat_lt b b = same b in absurd (grind (arith, nat_tests))
]

pub next_is_counted : NextIsCounted
next_is_counted q r hs s at e less here next =
    let n : ℕ = length q.sites in
    let es : List Event = items (merged hs) in
    let begins = low_start_is_held q at in
    let apart : nat_eq s n ≡ false = false_eq s n (λ e. absurd (omega arith)) in
    let none : Below s 0 (start_low q).born = λ k. begins.2.own (name_of s k) ∙ (begins.1 s).born k ∙ ap (λ t. nat_lt k (cond t (length own_numbers) 0)) apart in
    let ended = below-along s es (start_low q) e.whole 0 e.runs (make-own es (λ u. (0, next u))) (next s) none in
    one-bound (r.end s).next (length (names_by s es)) (λ k.
    let held : set.contains (e.here s).born (name_of (r.end s).site k) ≡ nat_lt k (r.end s).next = (e.parts s less).born k in
    sym held ∙ ap (λ u. set.contains (e.here s).born (name_of u k)) here ∙ sym (e.spread.own (name_of s k)) ∙ ended k ∙ ap (nat_lt k) (let z : 0 + length (names_by s es) ≡ length (names_by s es) = omega arith in z))
