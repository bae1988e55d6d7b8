-- At the low start the sites hold its parts.
use Rattle.std.proofs.Common.{◌≡◌, ◌≤◌, ◌+◌, ◌⊎◌, inl, inr, ⊎_elim, ℕ, zero, suc, Bool, true, false, cond, ◌&&◌, ◌||◌, nat_eq, nat_lt, List, [], ◌∷◌, length, map, Option, None, Some, option_map, refl, sym, ap, ap₂, subst, subst₂, ◌∙◌, arith}
use mathlib.Core.Path.{fun_ext}
use Rattle.std.proofs.lemmas.Bool.{eqb-true, eq-eqb}
use Rattle.std.proofs.lemmas.Bool.Decides.{nat_tests}
use Rattle.std.specs.FinMap as table
use Rattle.std.specs.FinSet as set
use Rattle.np_syntax.proofs.Numbers.{nat_eq-turned}
use Rattle.np_syntax.specs.declared.process.Proc.{Proc}
use Rattle.np_tables.specs.Names.{NameMap, NameSet, same_name}
use Rattle.np_tables.proofs.Tables.{born_insert, contains-none, get-none, get-put, put_cases, put_here, same_name-is, same_name-itself}
use Rattle.np_calculus.proofs.Common.{Config, Name, ◌>>=◌, ◌>>◌, at_site, inside, need}
use Rattle.np_calculus.specs.declared.config.Atom.{Atom}
use Rattle.np_calculus.specs.declared.config.Place.{Place}
use Rattle.np_calculus.specs.declared.config.Place.TheVariants as place
use Rattle.np_calculus.specs.Starts.{daemon_agent, daemon_mark, first_atom, main_agent, main_mark, own, own_names, own_numbers, start_low, with_all}
use Rattle.np_calculus.proofs.OwnNames.{not_true, own_names-lacks}
use Rattle.np_site_runs.specs.merged.Starting.{part_at}
use Rattle.np_site_runs.proofs.merged.LowStart.{low_start_is_settled}
use Rattle.np_site_runs.proofs.merged.Starting.{spread_by_sites}
use Rattle.np_site_runs.specs.Holdings.{Holding, IsHeld, IsPart, name_of}
use Rattle.np_site_runs.specs.Starting.{LowStartIsHeld, alone, with_if}

-- ---- maps with a value where a test holds

abbrev empty_map : (X : Type 0) → NameMap X
empty_map X = table.empty

module _ {X : Type 0} where
  -- one of two values, each under its name where its test holds
  abbrev one_of : Bool → Bool → X → X → Option X
  one_of p q x y = cond p (Some x) (cond q (Some y) None)

  get-if : (t : Bool) (m : NameMap X) (k : Name) (v : X) (q : Name) → table.get (with_if t m k v) q ≡ cond (t && same_name q k) (Some v) (table.get m q)
  get-if true m k v q = get-put m k v q
  get-if false m k v q = refl

  get-two : (b c : Bool) (j k : Name) (x y : X) (q : Name)
      → table.get (with_if b (with_if c table.empty k y) j x) q ≡ one_of (b && same_name q j) (c && same_name q k) x y
  get-two b c j k x y q =
      get-if b (with_if c (empty_map X) k y) j x q
      ∙ ap (cond (b && same_name q j) (Some x)) (get-if c (empty_map X) k y q ∙ ap (cond (c && same_name q k) (Some y)) (get-none q))

  two-cases : (b c s t : Bool) (x y z : X) → one_of (b && s) (c && t) x y ≡ Some z
      → ((b ≡ true) × (s ≡ true) × (z ≡ x)) ⊎ ((c ≡ true) × (t ≡ true) × (z ≡ y))
  two-cases true c true t x y z h = inl (refl, refl, cc)
  two-cases true true false true x y z h = inr (refl, refl, cc)
  two-cases true true false false x y z h = absurd cc
  two-cases true false false t x y z h = absurd cc
  two-cases false true s true x y z h = inr (refl, refl, cc)
  two-cases false true s false x y z h = absurd cc
  two-cases false false s t x y z h = absurd cc

  first-there : (b s q : Bool) (x y : X) → b ≡ true → s ≡ true → one_of (b && s) q x y ≡ Some x
  first-there b s q x y h k = rw (h, k) refl

  second-there : (b s c t : Bool) (x y : X) → s ≡ false → c ≡ true → t ≡ true → one_of (b && s) (c && t) x y ≡ Some y
  second-there true s c t x y e h k = rw (e, h, k) refl
  second-there false s c t x y e h k = rw (h, k) refl

-- ---- the names that a program has from the start

apart : (n i j : ℕ) → nat_eq i j ≡ false → same_name (own n i) (own n j) ≡ false
apart n i j h = not_true _ (λ e. let same : i ≡ j = ap (λ (x : Name). x.n) (same_name-is (own n i) (own n j) e) in let k = eq-eqb i j same in cc)

abbrev from : ℕ → ℕ → List ℕ
from a zero = []
from a (suc n) = a ∷ from (a + 1) n

abbrev among : ℕ → List ℕ → Bool
among k [] = false
among k (x ∷ xs) = nat_eq k x || among k xs

none-from : (k a : ℕ) → a ≤ k → false ≡ nat_lt k (a + zero)
none-from k a h = grind (arith, nat_tests)

here-from : (k a n : ℕ) → nat_eq k a ≡ true → true ≡ nat_lt k (a + suc n)
here-from k a n h = grind (arith, nat_tests)

more-from : (k a n : ℕ) → nat_lt k (a + 1 + n) ≡ nat_lt k (a + suc n)
more-from k a n = grind (arith, nat_tests)

above : (k a : ℕ) → a ≤ k → nat_eq k a ≡ false → a + 1 ≤ k
above k a h e = grind (arith, nat_tests)

among-from : (k a n : ℕ) → a ≤ k → among k (from a n) ≡ nat_lt k (a + n)
among-from k a zero h = none-from k a h
among-from k a (suc n) h = at (nat_eq k a) refl (among-from k (a + 1) n)
  where
    at : (t : Bool) → nat_eq k a ≡ t → (a + 1 ≤ k → among k (from (a + 1) n) ≡ nat_lt k (a + 1 + n)) → (t || among k (from (a + 1) n)) ≡ nat_lt k (a + suc n)
    at true e more = here-from k a n e
    at false e more = more (above k a h e) ∙ more-from k a n

same-own : (n i j : ℕ) → same_name (own n i) (own n j) ≡ nat_eq i j
same-own n i j = at (nat_eq i j) refl
  where
    at : (t : Bool) → nat_eq i j ≡ t → same_name (own n i) (own n j) ≡ t
    at true e = ap (λ k. same_name (own n k) (own n j)) (eqb-true i j e) ∙ same_name-itself (own n j)
    at false e = apart n i j e

or_assoc : (a b c : Bool) → (b || (a || c)) ≡ ((a || b) || c)
or_assoc true true c = refl
or_assoc true false c = refl
or_assoc false b c = refl

with_all-has : (names : NameSet) (n k : ℕ) (numbers : List ℕ) → set.contains (with_all names (map (own n) numbers)) (own n k)
    ≡ (among k numbers || set.contains names (own n k))
with_all-has names n k [] = refl
with_all-has names n k (j ∷ numbers) =
    with_all-has (set.insert names (own n j)) n k numbers
    ∙ ap (λ t. among k numbers || t) (born_insert names (own n j) (own n k) ∙ ap (λ t. t || set.contains names (own n k)) (same-own n k j))
    ∙ or_assoc (nat_eq k j) (among k numbers) (set.contains names (own n k))

or_nothing : (a : Bool) → (a || false) ≡ a
or_nothing true = refl
or_nothing false = refl

own-born : (n k : ℕ) → set.contains (own_names n) (own n k) ≡ nat_lt k (length own_numbers)
own-born n k =
    with_all-has set.empty n k own_numbers
    ∙ ap (λ t. among k own_numbers || t) (contains-none (own n k))
    ∙ or_nothing (among k own_numbers)
    ∙ among-from k 0 17 (omega arith)

born-at : (n s k : ℕ) → set.contains (own_names n) (name_of s k) ≡ nat_lt k (cond (nat_eq s n) (length own_numbers) 0)
born-at n s k = at (nat_eq s n) refl
  where
    none : false ≡ nat_lt k 0
    none = grind (arith, nat_tests)

    at : (t : Bool) → nat_eq s n ≡ t → set.contains (own_names n) (name_of s k) ≡ nat_lt k (cond t (length own_numbers) 0)
    at true e = ap (λ u. set.contains (own_names n) (name_of u k)) (eqb-true s n e) ∙ own-born n k
    at false e = own_names-lacks n (name_of s k) (λ same. let h = eq-eqb s n same in cc) ∙ none

-- ---- what stands at the site s, where it is the site u

and_true : (b : Bool) → (b && true) ≡ b
and_true true = refl
and_true false = refl

and_false : (b : Bool) → (b && false) ≡ false
and_false true = refl
and_false false = refl

placed-there : (s u : ℕ) (t : Bool) → nat_eq s u ≡ t → cond t (Some (place.At s)) None ≡ cond (nat_eq u s) (Some (place.At u)) None
placed-there s u true e = ap (λ v. Some (place.At v)) (eqb-true s u e) ∙ ap (λ t. cond t (Some (place.At u)) None) (sym (nat_eq-turned u s ∙ e))
placed-there s u false e = ap (λ t. cond t (Some (place.At u)) None) (sym (nat_eq-turned u s ∙ e))

kept-there : (s u : ℕ) (t : Bool) (a : Atom) → nat_eq s u ≡ t → cond t (Some a) None ≡ (need (nat_eq u s) >> Some a)
kept-there s u true a e = ap (λ t. need t >> Some a) (sym (nat_eq-turned u s ∙ e))
kept-there s u false a e = ap (λ t. need t >> Some a) (sym (nat_eq-turned u s ∙ e))

-- ---- what one site holds

module _ (n at : ℕ) (main daemon : Proc) (s : ℕ) where
  abbrev agents : NameMap (NameMap Atom)
  agents = with_if (nat_eq s 0) (with_if (nat_eq s at) table.empty (main_agent n) (alone (main_agent n) (main_mark n) main)) (daemon_agent n)
      (alone (daemon_agent n) (daemon_mark n) daemon)

  abbrev held : Holding
  held = record { site = s; sites = n; agents = agents; next = cond (nat_eq s n) (length own_numbers) 0; said = [] }

  abbrev places : NameMap Place
  places = with_if (nat_eq s 0) (with_if (nat_eq s at) table.empty (main_agent n) (place.At s)) (daemon_agent n) (place.At s)

  abbrev atoms : NameMap Atom
  atoms = with_if (nat_eq s 0) (with_if (nat_eq s at) table.empty (main_mark n) (first_atom (main_agent n) main)) (daemon_mark n)
      (first_atom (daemon_agent n) daemon)

  abbrev part : Config
  part = record { sites = n; places = places; atoms = atoms; packets = table.empty; born = own_names n; said = [] }

  abbrev is_daemon : Name → Bool
  is_daemon q = same_name q (daemon_agent n)

  abbrev is_main : Name → Bool
  is_main q = same_name q (main_agent n)

  agent-get : (q : Name) → table.get agents q ≡ one_of (nat_eq s 0 && is_daemon q) (nat_eq s at && is_main q)
      (alone (daemon_agent n) (daemon_mark n) daemon) (alone (main_agent n) (main_mark n) main)
  agent-get = get-two (nat_eq s 0) (nat_eq s at) (daemon_agent n) (main_agent n) (alone (daemon_agent n) (daemon_mark n) daemon)
      (alone (main_agent n) (main_mark n) main)

  atom-get : (m : Name) → table.get atoms m ≡ one_of (nat_eq s 0 && same_name m (daemon_mark n)) (nat_eq s at && same_name m (main_mark n))
      (first_atom (daemon_agent n) daemon) (first_atom (main_agent n) main)
  atom-get = get-two (nat_eq s 0) (nat_eq s at) (daemon_mark n) (main_mark n) (first_atom (daemon_agent n) daemon) (first_atom (main_agent n) main)

  place-get : (q : Name) → table.get places q ≡ one_of (nat_eq s 0 && is_daemon q) (nat_eq s at && is_main q) (place.At s) (place.At s)
  place-get = get-two (nat_eq s 0) (nat_eq s at) (daemon_agent n) (main_agent n) (place.At s) (place.At s)

  -- an atom that stands alone is the one that was put
  alone-is : (agent mark : Name) (p : Proc) (m : Name) (a : Atom) → table.get (alone agent mark p) m ≡ Some a → (m ≡ mark) × (a ≡ first_atom agent p)
  alone-is agent mark p m a h = ⊎_elim (λ is. is) (λ none. absurd (let e = get-none {X = Atom} m in cc))
      (put_cases (empty_map Atom) mark (first_atom agent p) m a h)

  alone-has : (agent mark : Name) (p : Proc) → table.get (alone agent mark p) mark ≡ Some (first_atom agent p)
  alone-has agent mark p = put_here (empty_map Atom) mark (first_atom agent p)

  -- an agent that stands here is the daemon, or main
  which : (q : Name) (x : NameMap Atom) → table.get agents q ≡ Some x
      → ((nat_eq s 0 ≡ true) × (q ≡ daemon_agent n) × (x ≡ alone (daemon_agent n) (daemon_mark n) daemon)) ⊎
      ((nat_eq s at ≡ true) × (q ≡ main_agent n) × (x ≡ alone (main_agent n) (main_mark n) main))
  which q x h = ⊎_elim
      (λ (here, same, is). inl (here, same_name-is q (daemon_agent n) same, is))
      (λ (here, same, is). inr (here, same_name-is q (main_agent n) same, is))
      (two-cases (nat_eq s 0) (nat_eq s at) (is_daemon q) (is_main q) _ _ x (sym (agent-get q) ∙ h))

  daemon-here : nat_eq s 0 ≡ true → table.get atoms (daemon_mark n) ≡ Some (first_atom (daemon_agent n) daemon)
  daemon-here here = atom-get (daemon_mark n)
      ∙ first-there (nat_eq s 0) (same_name (daemon_mark n) (daemon_mark n)) _ _ _ here (same_name-itself (daemon_mark n))

  main-here : nat_eq s at ≡ true → table.get atoms (main_mark n) ≡ Some (first_atom (main_agent n) main)
  main-here here = atom-get (main_mark n) ∙ second-there (nat_eq s 0) (same_name (main_mark n) (daemon_mark n)) (nat_eq s at)
      (same_name (main_mark n) (main_mark n)) _ _ (apart n 11 12 refl) here (same_name-itself (main_mark n))

  has : (m : Name) (a : Atom) → IsHeld held m a → table.get atoms m ≡ Some a
  has m a is = ⊎_elim
      (λ (here, _, x). let t = alone-is (daemon_agent n) (daemon_mark n) daemon m a (subst (λ x. table.get x m ≡ Some a) x is.has) in
      ap (table.get atoms) t.0 ∙ daemon-here here ∙ ap Some (sym t.1))
      (λ (here, _, x). let t = alone-is (main_agent n) (main_mark n) main m a (subst (λ x. table.get x m ≡ Some a) x is.has) in
      ap (table.get atoms) t.0 ∙ main-here here ∙ ap Some (sym t.1))
      (which a.agent is.atoms is.here)

  only : (m : Name) (a : Atom) → table.get atoms m ≡ Some a → IsHeld held m a
  only m a h = ⊎_elim
      (λ (here, same, is). subst₂ (IsHeld held) (sym (same_name-is m (daemon_mark n) same)) (sym is) (record {
        atoms = alone (daemon_agent n) (daemon_mark n) daemon;
        here = agent-get (daemon_agent n) ∙ first-there (nat_eq s 0) (is_daemon (daemon_agent n)) _ _ _ here (same_name-itself (daemon_agent n));
        has = alone-has (daemon_agent n) (daemon_mark n) daemon;
      }))
      (λ (here, same, is). subst₂ (IsHeld held) (sym (same_name-is m (main_mark n) same)) (sym is) (record {
        atoms = alone (main_agent n) (main_mark n) main;
        here = agent-get (main_agent n) ∙ second-there (nat_eq s 0) (is_daemon (main_agent n)) (nat_eq s at) (is_main (main_agent n)) _ _
            (apart n 0 1 refl) here (same_name-itself (main_agent n));
        has = alone-has (main_agent n) (main_mark n) main;
      }))
      (two-cases (nat_eq s 0) (nat_eq s at) (same_name m (daemon_mark n)) (same_name m (main_mark n)) _ _ a (sym (atom-get m) ∙ h))

  own-atom : (q : Name) (x : NameMap Atom) (m : Name) (a : Atom) → table.get agents q ≡ Some x → table.get x m ≡ Some a → a.agent ≡ q
  own-atom q x m a h k = ⊎_elim
      (λ (_, same, is). ap (λ (a : Atom). a.agent)
      (alone-is (daemon_agent n) (daemon_mark n) daemon m a (subst (λ x. table.get x m ≡ Some a) is k)).1 ∙ sym same)
      (λ (_, same, is). ap (λ (a : Atom). a.agent) (alone-is (main_agent n) (main_mark n) main m a (subst (λ x. table.get x m ≡ Some a) is k)).1 ∙ sym same)
      (which q x h)

  place-of : (p r : Bool) (x y : NameMap Atom) → one_of p r (place.At s) (place.At s) ≡ option_map (λ atoms. place.At s) (one_of p r x y)
  place-of true r x y = refl
  place-of false true x y = refl
  place-of false false x y = refl

  is_part : IsPart held part
  is_part = record {
    sites = refl;
    places = λ q. place-get q ∙ place-of (nat_eq s 0 && is_daemon q) (nat_eq s at && is_main q) _ _ ∙ ap (option_map (λ atoms. place.At s)) (sym (agent-get q));
    own = own-atom;
    has = has;
    only = only;
    packets = λ m. get-none m;
    born = born-at n s;
    said = refl;
  }

  -- ---- the start without what the others hold

  abbrev whole : Config
  whole = record {
    sites = n;
    places = table.insert (table.insert table.empty (main_agent n) (place.At at)) (daemon_agent n) (place.At 0);
    atoms = table.insert (table.insert table.empty (main_mark n) (first_atom (main_agent n) main)) (daemon_mark n) (first_atom (daemon_agent n) daemon);
    packets = table.empty;
    born = own_names n;
    said = [];
  }

  whole-place : (q : Name) → table.get whole.places q ≡ one_of (is_daemon q) (is_main q) (place.At 0) (place.At at)
  whole-place = get-two true true (daemon_agent n) (main_agent n) (place.At 0) (place.At at)

  whole-atom : (m : Name) → table.get whole.atoms m
      ≡ one_of (same_name m (daemon_mark n)) (same_name m (main_mark n)) (first_atom (daemon_agent n) daemon) (first_atom (main_agent n) main)
  whole-atom = get-two true true (daemon_mark n) (main_mark n) (first_atom (daemon_agent n) daemon) (first_atom (main_agent n) main)

  -- of one name
  not-both : (i j : ℕ) (q : Name) → nat_eq i j ≡ false → same_name q (own n i) ≡ true → same_name q (own n j) ≡ false
  not-both i j q other is = ap (λ q. same_name q (own n j)) (same_name-is q (own n i) is) ∙ apart n i j other

  places-at : (d m : Bool) → (d ≡ true → m ≡ false) → one_of (nat_eq s 0 && d) (nat_eq s at && m) (place.At s) (place.At s)
      ≡ cond (at_site (one_of d m (place.At 0) (place.At at)) s) (one_of d m (place.At 0) (place.At at)) None
  places-at true m alone =
      ap₂ (λ p r. one_of p r (place.At s) (place.At s)) (and_true (nat_eq s 0)) (ap (λ m. nat_eq s at && m) (alone refl) ∙ and_false (nat_eq s at))
      ∙ placed-there s 0 (nat_eq s 0) refl
  places-at false true alone =
      ap₂ (λ p r. one_of p r (place.At s) (place.At s)) (and_false (nat_eq s 0)) (and_true (nat_eq s at)) ∙ placed-there s at (nat_eq s at) refl
  places-at false false alone = ap₂ (λ p r. one_of p r (place.At s) (place.At s)) (and_false (nat_eq s 0)) (and_false (nat_eq s at))

  abbrev kept : Atom → Option Atom
  kept a = need (at_site (table.get whole.places a.agent) s) >> Some a

  kept-daemon : cond (nat_eq s 0) (Some (first_atom (daemon_agent n) daemon)) None ≡ kept (first_atom (daemon_agent n) daemon)
  kept-daemon =
      kept-there s 0 (nat_eq s 0) (first_atom (daemon_agent n) daemon) refl
      ∙ ap (λ o. need (at_site o s) >> Some (first_atom (daemon_agent n) daemon))
      (sym (whole-place (daemon_agent n)
      ∙ first-there true (is_daemon (daemon_agent n)) (is_main (daemon_agent n)) _ _ refl (same_name-itself (daemon_agent n))))

  kept-main : cond (nat_eq s at) (Some (first_atom (main_agent n) main)) None ≡ kept (first_atom (main_agent n) main)
  kept-main =
      kept-there s at (nat_eq s at) (first_atom (main_agent n) main) refl
      ∙ ap (λ o. need (at_site o s) >> Some (first_atom (main_agent n) main))
      (sym (whole-place (main_agent n) ∙ second-there true (is_daemon (main_agent n)) true (is_main (main_agent n)) _ _ (apart n 0 1 refl) refl
      (same_name-itself (main_agent n))))

  atoms-at : (d m : Bool) → (d ≡ true → m ≡ false)
      → one_of (nat_eq s 0 && d) (nat_eq s at && m) (first_atom (daemon_agent n) daemon) (first_atom (main_agent n) main)
      ≡ (one_of d m (first_atom (daemon_agent n) daemon) (first_atom (main_agent n) main) >>= kept)
  atoms-at true m alone =
      ap₂ (λ p r. one_of p r (first_atom (daemon_agent n) daemon) (first_atom (main_agent n) main)) (and_true (nat_eq s 0))
      (ap (λ m. nat_eq s at && m) (alone refl) ∙ and_false (nat_eq s at)) ∙ kept-daemon
  atoms-at false true alone =
      ap₂ (λ p r. one_of p r (first_atom (daemon_agent n) daemon) (first_atom (main_agent n) main)) (and_false (nat_eq s 0)) (and_true (nat_eq s at))
      ∙ kept-main
  atoms-at false false alone = ap₂ (λ p r. one_of p r (first_atom (daemon_agent n) daemon) (first_atom (main_agent n) main)) (and_false (nat_eq s 0))
      (and_false (nat_eq s at))

  inside-part : inside part ≡ part_at s (inside whole)
  inside-part = λ i. record {
    place = fun_ext (λ q. place-get q ∙ places-at (is_daemon q) (is_main q) (not-both 1 0 q refl)
        ∙ ap (λ o. cond (at_site o s) o None) (sym (whole-place q))) i;
    atom = fun_ext (λ m. atom-get m ∙ atoms-at (same_name m (daemon_mark n)) (same_name m (main_mark n)) (not-both 12 11 m refl)
        ∙ ap (λ o. o >>= kept) (sym (whole-atom m))) i;
    packet = fun_ext (λ m. get-none m) i;
  }

pub low_start_is_held : LowStartIsHeld
unfolding start_low
low_start_is_held q less = (
  λ s. part (length q.sites) q.at q.main q.daemon s,
  λ s. is_part (length q.sites) q.at q.main q.daemon s,
  spread_by_sites (length q.sites) (λ s. part (length q.sites) q.at q.main q.daemon s) (start_low q) (low_start_is_settled q less)
      (λ s. inside-part (length q.sites) q.at q.main q.daemon s)
      (λ s. record { sites = refl; born = refl; said = refl }),
)
