-- A configuration that is what a site holds.
use Rattle.std.proofs.Common.{◌≡◌, ◌<◌, ◌+◌, ℕ, Bool, true, false, not, cond, nat_lt, ◌||◌, ◌&&◌, inl, inr, [], ◌∷◌, ◌++◌, Option, None, Some, map, option_map, refl, sym, ap, subst, ◌∙◌, arith}
use Rattle.std.proofs.lemmas.Bool.Decides.{nat_tests}
use Rattle.std.proofs.lemmas.List.{map-append}
use Rattle.std.specs.FinMap as table
use Rattle.std.specs.FinSet as set
use Rattle.np_syntax.specs.declared.event.Made.TheVariants as made
use Rattle.np_tables.proofs.Tables.{born_insert, get-put}
use Rattle.np_calculus.proofs.Common.{Config, Event, Made, Name, NameMap, Value, are_new, done, inside, same_name, same_name-is, same_name-itself}
use Rattle.np_calculus.specs.declared.config.Atom.{Atom}
use Rattle.np_calculus.specs.declared.config.Place.{Place}
use Rattle.np_calculus.specs.declared.config.Place.TheVariants as place
use Rattle.np_calculus.specs.Changes.{with_made, with_said}
use Rattle.np_calculus.specs.FrameRule.{IsMade}
use Rattle.np_calculus.specs.Parts.{IsOfSite}
use Rattle.np_calculus.proofs.Fits.{some}
use Rattle.np_syntax.proofs.Options.{none_of}
use Rattle.np_calculus.proofs.OwnNames.{not_true}
use Rattle.np_site_runs.specs.Holdings.{AreMade, Holding, IsPart, Numbers, name_of}
use Rattle.np_site_runs.specs.Making.{AreNext, next_after}
use Rattle.np_site_runs.specs.Within.{with_value}
use Rattle.np_site_runs.proofs.Holds.{Holds}
use Rattle.np_site_runs.proofs.Showing.{Shows}

-- ---- names of a site

not-self : (n : ℕ) → nat_lt n n ≡ false
not-self n = grind (arith, nat_tests)

not-more : (n : ℕ) → nat_lt (n + 1) n ≡ false
not-more n = grind (arith, nat_tests)

pub below : (k n : ℕ) → nat_lt k n ≡ true → k < n
below k n h = grind (arith, nat_tests)

pub name-apart : (s j k : ℕ) → (j ≡ k → ⊥) → same_name (name_of s j) (name_of s k) ≡ false
name-apart s j k far = not_true (same_name (name_of s j) (name_of s k)) (λ e. far (ap (λ (q : Name). q.n) (same_name-is (name_of s j) (name_of s k) e)))

one-more : (s k n : ℕ) (t b : Bool) → same_name (name_of s k) (name_of s n) ≡ t → nat_lt k n ≡ b → (t || b) ≡ nat_lt k (n + 1)
one-more s k n true b e h =
    let same : k ≡ n = ap (λ (q : Name). q.n) (same_name-is (name_of s k) (name_of s n) e) in
    grind (arith, nat_tests)
one-more s k n false true e h = grind (arith, nat_tests)
one-more s k n false false e h =
    let far : (k ≡ n → ⊥) = λ (i : k ≡ n). let t : same_name (name_of s k) (name_of s n) ≡ true = ap (λ k. same_name (name_of s k) (name_of s n)) i ∙ same_name-itself (name_of s n) in cc in
    grind (arith, nat_tests)

-- the site has made the next names then, or none
pub numbers-next : (h then : Holding) (x : Made) → AreNext h x → then.next ≡ next_after h.next x → Numbers h x then
numbers-next h then made.Nothing n e = e
numbers-next h then (made.One m) n e = (n, e)
numbers-next h then (made.Two m k) n e = (n.0, n.1, e)

pub numbers-none : (h then : Holding) (x : Made) → x ≡ made.Nothing → then.next ≡ h.next → Numbers h x then
numbers-none h then x none e = subst (λ y. Numbers h y then) (sym none) e

-- ---- the configuration

pub holds : (h : Holding) (c : Config) → IsPart h c → Holds h.agents c.atoms
holds h c p = record {
  own = p.own;
  has = λ m b t is g. p.has m b (record { atoms = t; here = is; has = g });
  only = λ m b g. let k = p.only m b g in (k.atoms, k.here, k.has);
}

module _ (h : Holding) (c : Config) (p : IsPart h c) where
  pub place-of : (q : Name) (t : NameMap Atom) → table.get h.agents q ≡ Some t → table.get c.places q ≡ Some (place.At h.site)
  place-of q t is = p.places q ∙ ap (option_map (λ t. place.At h.site)) is

  pub no-place : (q : Name) → table.get h.agents q ≡ None → table.get c.places q ≡ None
  no-place q is = p.places q ∙ ap (option_map (λ t. place.At h.site)) is

  pub no-agent : (q : Name) → table.get c.places q ≡ None → table.get h.agents q ≡ None
  no-agent q none = by (table.get h.agents q) (sym (p.places q) ∙ none)
    where
      by : (o : Option (NameMap Atom)) → option_map (λ t. place.At h.site) o ≡ None → o ≡ None
      by None e = refl
      by (Some t) e = absurd cc

  pub shows : (agent : Name) (t : NameMap Atom) (site : ℕ) → site ≡ h.site → table.get h.agents agent ≡ Some t → Shows (inside c) agent t site
  shows agent t site at is = record {
    stands = place-of agent t is ∙ ap (λ s. Some (place.At s)) (sym at);
    own = λ m a g. p.own agent t m a is g;
    has = λ m a g. p.has m a (record { atoms = t; here = ap (table.get h.agents) (p.own agent t m a is g) ∙ is; has = g });
    only = λ m a g of.
        let k = p.only m a g in
        let same : k.atoms ≡ t = done (sym is ∙ ap (table.get h.agents) (sym of) ∙ k.here) in
        subst (λ t. table.get t m ≡ Some a) same k.has;
  }

  pub of-site : IsOfSite h.site (inside c)
  of-site = record {
    lodged = record { each = λ m a g. let k = p.only m a g in some (table.get c.places a.agent) (place.At h.site) (place-of a.agent k.atoms k.here) };
    away = λ u apart. record { none = λ q is. elsewhere u apart (table.get h.agents q) (sym (p.places q) ∙ is) };
  }
    where
      elsewhere : (u : ℕ) → (u ≡ h.site → ⊥) → (o : Option (NameMap Atom)) → option_map (λ t. place.At h.site) o ≡ Some (place.At u) → ⊥
      elsewhere u apart None e = cc
      elsewhere u apart (Some t) e = apart cc

  -- ---- names that are made next

  pub are-new : (x : Made) → AreNext h x → are_new c.born x ≡ true
  are-new made.Nothing n = refl
  are-new (made.One m) n = ap (λ q. not (set.contains c.born q)) n ∙ ap not (p.born h.next ∙ not-self h.next)
  are-new (made.Two m k) n =
      ap (λ q. not (same_name q k) && (not (set.contains c.born q) && not (set.contains c.born k))) n.0
      ∙ ap (λ q. not (same_name (name_of h.site h.next) q) && (not (set.contains c.born (name_of h.site h.next)) && not (set.contains c.born q))) n.1
      ∙ rw (name-apart h.site h.next (h.next + 1) (λ e. omega arith), p.born h.next, p.born (h.next + 1), not-self h.next, not-more h.next) refl

  born-one : (k : ℕ) → set.contains (set.insert c.born (name_of h.site h.next)) (name_of h.site k) ≡ nat_lt k (h.next + 1)
  born-one k =
      born_insert c.born (name_of h.site h.next) (name_of h.site k)
      ∙ one-more h.site k h.next (same_name (name_of h.site k) (name_of h.site h.next)) (set.contains c.born (name_of h.site k)) refl (sym (p.born k))

  pub born-after : (x : Made) → AreNext h x → (k : ℕ) → set.contains (with_made c.born x) (name_of h.site k) ≡ nat_lt k (next_after h.next x)
  born-after made.Nothing n k = p.born k
  born-after (made.One m) n k = ap (λ m. set.contains (set.insert c.born m) (name_of h.site k)) n ∙ born-one k
  born-after (made.Two m j) n k =
      ap (λ m. set.contains (set.insert (set.insert c.born m) j) (name_of h.site k)) n.0
      ∙ ap (λ j. set.contains (set.insert (set.insert c.born (name_of h.site h.next)) j) (name_of h.site k)) n.1
      ∙ born_insert (set.insert c.born (name_of h.site h.next)) (name_of h.site (h.next + 1)) (name_of h.site k)
      ∙ ap (λ b. same_name (name_of h.site k) (name_of h.site (h.next + 1)) || b) (born-one k)
      ∙ one-more h.site k (h.next + 1) (same_name (name_of h.site k) (name_of h.site (h.next + 1))) (nat_lt k (h.next + 1)) refl refl
      ∙ ap (nat_lt k) two
    where
      two : h.next + 1 + 1 ≡ h.next + 2
      two = omega arith

  pub own-names : (x : Made) → AreNext h x → (q : Name) → IsMade x q → q.site ≡ h.site
  own-names made.Nothing n q is = absurd is
  own-names (made.One m) n q is = ap (λ (q : Name). q.site) (is ∙ n)
  own-names (made.Two m k) n q (inl is) = ap (λ (q : Name). q.site) (is ∙ n.0)
  own-names (made.Two m k) n q (inr is) = ap (λ (q : Name). q.site) (is ∙ n.1)

  -- where no name that stands here is yet to be made, those that are made next stand nowhere
  module _ (m : AreMade h) where
    unmarked : (k : ℕ) → (k < h.next → ⊥) → table.get c.atoms (name_of h.site k) ≡ None
    unmarked k far = by (table.get c.atoms (name_of h.site k)) refl
      where
        by : (o : Option Atom) → table.get c.atoms (name_of h.site k) ≡ o → o ≡ None
        by None e = refl
        by (Some a) e = absurd (far (m.marks k a (p.only (name_of h.site k) a e)))

    pub no-mark : (x : Made) → AreNext h x → (q : Name) → IsMade x q → table.get c.atoms q ≡ None
    no-mark made.Nothing n q is = absurd is
    no-mark (made.One x) n q is = ap (table.get c.atoms) (is ∙ n) ∙ unmarked h.next (λ less. omega arith)
    no-mark (made.Two x y) n q (inl is) = ap (table.get c.atoms) (is ∙ n.0) ∙ unmarked h.next (λ less. omega arith)
    no-mark (made.Two x y) n q (inr is) = ap (table.get c.atoms) (is ∙ n.1) ∙ unmarked (h.next + 1) (λ less. omega arith)

    pub no-name : table.get h.agents (name_of h.site h.next) ≡ None
    no-name = none_of (table.get h.agents (name_of h.site h.next)) (λ is. let less = m.agents h.next is in omega arith)

  pub said-after : (e : Event) (v : Option Value) → e.site ≡ h.site → with_said c.said e.site v ≡ map (λ v. (h.site, v)) (with_value h.said v)
  said-after e None at = p.said
  said-after e (Some v) at =
      ap (λ said. said ++ (e.site, v) ∷ []) p.said ∙ ap (λ s. map (λ v. (h.site, v)) h.said ++ (s, v) ∷ []) at ∙ sym (map-append (λ v. (h.site, v)) h.said (v ∷ []))

-- ---- the same places, where an agent that stands here has other atoms

module _ (agents : NameMap (NameMap Atom)) (a : Name) (t new : NameMap Atom) (p : Place) (is : table.get agents a ≡ Some t) where
  same_place : (s : Bool) (q : Name) → same_name q a ≡ s → option_map (λ (t : NameMap Atom). p) (table.get agents q) ≡ option_map (λ (t : NameMap Atom). p) (cond s (Some new) (table.get agents q))
  same_place true q e = ap (λ q. option_map (λ (t : NameMap Atom). p) (table.get agents q)) (same_name-is q a e) ∙ ap (option_map (λ (t : NameMap Atom). p)) is
  same_place false q e = refl

  pub same-places : (q : Name) → option_map (λ (t : NameMap Atom). p) (table.get agents q) ≡ option_map (λ (t : NameMap Atom). p) (table.get (table.insert agents a new) q)
  same-places q = same_place (same_name q a) q refl ∙ ap (option_map (λ (t : NameMap Atom). p)) (sym (get-put agents a new q))

-- a part of what a site holds then, by its atoms and its places
module _ (h : Holding) (c : Config) where
  pub part-of : c.sites ≡ h.sites → ((q : Name) → table.get c.places q ≡ option_map (λ t. place.At h.site) (table.get h.agents q)) → Holds h.agents c.atoms
      → ((m : Name) → table.get c.packets m ≡ None) → ((k : ℕ) → set.contains c.born (name_of h.site k) ≡ nat_lt k h.next) → c.said ≡ map (λ v. (h.site, v)) h.said → IsPart h c
  part-of sites places s packets born said = record {
    sites = sites;
    places = places;
    own = s.own;
    has = λ m a is. s.has m a is.atoms is.here is.has;
    only = λ m a g. let k = s.only m a g in record { atoms = k.0; here = k.1; has = k.2 };
    packets = packets;
    born = born;
    said = said;
  }
