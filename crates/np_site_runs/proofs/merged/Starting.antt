-- A configuration in which nothing is under way is what its sites have.
use Rattle.std.proofs.Common.{◌≡◌, ◌<◌, ℕ, zero, suc, Bool, true, false, cond, nat_eq, nat_lt, [], ◌++◌, Option, None, Some, IsSome, refl, sym, ap, ap₂, subst, subst₂, ⊎_elim, ◌∙◌, append-nil, arith}
use mathlib.Core.Path.{fun_ext}
use Rattle.std.proofs.lemmas.Bool.Decides.{nat_tests}
use Rattle.std.specs.FinSet as set
use Rattle.np_calculus.proofs.Common.{Name, Config, Contents, ◌>>=◌, ◌>>◌, need, when, done, inside, at_site}
use Rattle.np_calculus.specs.declared.config.Atom.{Atom}
use Rattle.np_calculus.specs.declared.config.Place.{Place}
use Rattle.np_calculus.specs.declared.config.Place.TheVariants as place
use Rattle.np_calculus.specs.Parts.{IsApart, IsOfSite, beside, either, nothing}
use Rattle.np_calculus.proofs.Fits.{some}
use Rattle.np_calculus.proofs.Steps.{at_site-is}
use Rattle.np_site_runs.specs.merged.Joined.{AreApart, together}
use Rattle.np_site_runs.specs.merged.Steps.{said_at, sites}
use Rattle.np_site_runs.specs.merged.Starting.{IsSettled, SpreadBySites, part_at}

-- at a site below k
abbrev at_below : Option Place → ℕ → Bool
at_below (Some (place.At u)) k = nat_lt u k
at_below _ k = false

-- what the sites below k have
abbrev parts_below : ℕ → Contents → Contents
parts_below k x = record {
  place = λ q. cond (at_below (x.place q) k) (x.place q) None;
  atom = λ m. x.atom m >>= λ a. need (at_below (x.place a.agent) k) >> Some a;
  packet = λ m. None;
}

below-more : (u k : ℕ) → nat_eq u k ≡ false → nat_lt u (suc k) ≡ nat_lt u k
below-more u k apart = grind (arith, nat_tests)

below-last : (u k : ℕ) → nat_eq u k ≡ true → nat_lt u (suc k) ≡ true
below-last u k is = grind (arith, nat_tests)

not-below : (u k : ℕ) → nat_eq u k ≡ true → nat_lt u k ≡ false
not-below u k is = grind (arith, nat_tests)

none-below : (u : ℕ) → nat_lt u 0 ≡ false
none-below u = grind (arith, nat_tests)

-- the tests of a place
one-more : (o : Option Place) (k : ℕ) → at_site o k ≡ false → at_below o (suc k) ≡ at_below o k
one-more None k apart = refl
one-more (Some (place.Way u)) k apart = refl
one-more (Some (place.At u)) k apart = below-more u k apart

last-one : (o : Option Place) (k : ℕ) → at_site o k ≡ true → at_below o (suc k) ≡ true
last-one None k is = absurd cc
last-one (Some (place.Way u)) k is = absurd cc
last-one (Some (place.At u)) k is = below-last u k is

last-not : (o : Option Place) (k : ℕ) → at_site o k ≡ true → at_below o k ≡ false
last-not None k is = absurd cc
last-not (Some (place.Way u)) k is = absurd cc
last-not (Some (place.At u)) k is = not-below u k is

no-place : (o : Option Place) → at_below o 0 ≡ false
no-place None = refl
no-place (Some (place.Way u)) = refl
no-place (Some (place.At u)) = none-below u

-- ---- look-ups that are kept where a test is met

abbrev only : Bool → Atom → Option Atom
only t a = need t >> Some a

module _ {X : Type 0} where
  kept_none : (t : Bool) (o : Option X) → o ≡ None → cond t o None ≡ None
  kept_none true o none = none
  kept_none false o none = refl

  kept_either : (t b more : Bool) (o : Option X) → (t ≡ false → more ≡ b) → (t ≡ true → more ≡ true) → cond more o None ≡ either (cond t o None) (cond b o None)
  kept_either true b more (Some x) f g = ap (λ t. cond t (Some x) None) (g refl)
  kept_either true b more None f g = kept_none more None refl ∙ sym (kept_none b None refl)
  kept_either false b more o f g = ap (λ t. cond t o None) (f refl)

  kept_apart : (t b : Bool) (o : Option X) → (t ≡ true → b ≡ false) → IsSome (cond t o None) → cond b o None ≡ None
  kept_apart true b o f h = ap (λ t. cond t o None) (f refl)
  kept_apart false b o f h = absurd cc

one_either : (t b more : Bool) (a : Atom) → (t ≡ false → more ≡ b) → (t ≡ true → more ≡ true) → only more a ≡ either (only t a) (only b a)
one_either true b more a f g = ap (λ t. only t a) (g refl)
one_either false b more a f g = ap (λ t. only t a) (f refl)

one_apart : (t b : Bool) (a : Atom) → (t ≡ true → b ≡ false) → IsSome (only t a) → only b a ≡ None
one_apart true b a f h = ap (λ t. only t a) (f refl)
one_apart false b a f h = absurd cc

atoms_either : (o : Option Atom) (t b more : Atom → Bool) → ((a : Atom) → t a ≡ false → more a ≡ b a) → ((a : Atom) → t a ≡ true → more a ≡ true)
    → (o >>= λ a. only (more a) a) ≡ either (o >>= λ a. only (t a) a) (o >>= λ a. only (b a) a)
atoms_either None t b more f g = refl
atoms_either (Some a) t b more f g = one_either (t a) (b a) (more a) a (f a) (g a)

atoms_apart : (o : Option Atom) (t b : Atom → Bool) → ((a : Atom) → t a ≡ true → b a ≡ false) → IsSome (o >>= λ a. only (t a) a) → (o >>= λ a. only (b a) a) ≡ None
atoms_apart None t b f h = refl
atoms_apart (Some a) t b f h = one_apart (t a) (b a) a (f a) h

-- ---- the parts

module _ (x : Contents) where
  none-yet : nothing ≡ parts_below 0 x
  none-yet = λ i. record {
    place = fun_ext (λ q. sym (ap (λ t. cond t (x.place q) None) (no-place (x.place q)))) i;
    atom = fun_ext (λ m. none (x.atom m)) i;
    packet = λ m. None;
  }
    where
      none : (o : Option Atom) → None ≡ (o >>= λ a. only (at_below (x.place a.agent) 0) a)
      none None = refl
      none (Some a) = sym (ap (λ t. only t a) (no-place (x.place a.agent)))

  one-part : (k : ℕ) → beside (part_at k x) (parts_below k x) ≡ parts_below (suc k) x
  one-part k = λ i. record {
    place = fun_ext (λ q. sym (kept_either (at_site (x.place q) k) (at_below (x.place q) k) (at_below (x.place q) (suc k)) (x.place q) (one-more (x.place q) k) (last-one (x.place q) k))) i;
    atom = fun_ext (λ m. sym (atoms_either (x.atom m) (λ a. at_site (x.place a.agent) k) (λ a. at_below (x.place a.agent) k) (λ a. at_below (x.place a.agent) (suc k))
        (λ a. one-more (x.place a.agent) k) (λ a. last-one (x.place a.agent) k))) i;
    packet = λ m. None;
  }

  apart-below : (k : ℕ) → IsApart (part_at k x) (parts_below k x)
  apart-below k = record {
    agents = λ q is. kept_apart (at_site (x.place q) k) (at_below (x.place q) k) (x.place q) (last-not (x.place q) k) is;
    marks = λ q is. ⊎_elim
        (λ is. record { atom = atoms_apart (x.atom q) (λ a. at_site (x.place a.agent) k) (λ a. at_below (x.place a.agent) k) (λ a. last-not (x.place a.agent) k) is; packet = refl })
        (λ is. absurd cc) is;
  }

  at-site-place : (o : Option Place) (s : ℕ) → at_site o s ≡ true → IsSome (cond (at_site o s) o None)
  at-site-place o s h = let is : o ≡ Some (place.At s) = at_site-is o s h in subst (λ t. IsSome (cond t o None)) (sym h) (some o (place.At s) is)

  of-site : (s : ℕ) → IsOfSite s (part_at s x)
  of-site s = record {
    lodged = record { each = λ m a. lodged-at (x.atom m) a };
    away = λ u apart. record { none = λ q. away-at (at_site (x.place q) s) (x.place q) u apart refl };
  }
    where
      lodged-at : (o : Option Atom) (a : Atom) → (o >>= λ a. only (at_site (x.place a.agent) s) a) ≡ Some a → IsSome (cond (at_site (x.place a.agent) s) (x.place a.agent) None)
      lodged-at None a h = absurd cc
      lodged-at (Some b) a h = when (at_site (x.place b.agent) s) _ h λ here h. subst (λ (a : Atom). IsSome (cond (at_site (x.place a.agent) s) (x.place a.agent) None)) (sym (done h)) (at-site-place (x.place b.agent) s here)

      away-at : (t : Bool) (o : Option Place) (u : ℕ) → (u ≡ s → ⊥) → at_site o s ≡ t → cond t o None ≡ Some (place.At u) → ⊥
      away-at true o u apart e h =
          let here : o ≡ Some (place.At s) = at_site-is o s e in
          let both : Some (place.At s) ≡ Some (place.At u) = sym here ∙ h in
          apart cc
      away-at false o u apart e h = absurd cc

  module _ (here : ℕ → Config) (are : (s : ℕ) → inside (here s) ≡ part_at s x) where
    together-below : (k : ℕ) → together (sites k here) ≡ parts_below k x
    together-below zero = none-yet
    together-below (suc k) = ap₂ beside (are k) (together-below k) ∙ one-part k

    sites-apart : (k : ℕ) → AreApart (sites k here)
    sites-apart zero = tt
    sites-apart (suc k) = (subst₂ IsApart (sym (are k)) (sym (together-below k)) (apart-below k), sites-apart k)

-- ---- the whole

module _ (n : ℕ) (c : Config) (is : IsSettled n c) where
  abbrev x : Contents
  x = inside c

  all-below : (o : Option Place) → ((p : Place) → o ≡ Some p → (u : ℕ) × (u < n) × (p ≡ place.At u)) → IsSome o → at_below o n ≡ true
  all-below None at h = absurd cc
  all-below (Some p) at h = let t = at p refl in ap (λ p. at_below (Some p) n) t.2 ∙ less t.0 t.1
    where
      less : (u : ℕ) → u < n → nat_lt u n ≡ true
      less u h = grind (arith, nat_tests)

  every-place : (o : Option Place) → ((p : Place) → o ≡ Some p → (u : ℕ) × (u < n) × (p ≡ place.At u)) → cond (at_below o n) o None ≡ o
  every-place None at = refl
  every-place (Some p) at = ap (λ t. cond t (Some p) None) (all-below (Some p) at refl)

  every-atom : (m : Name) (o : Option Atom) → (inside c).atom m ≡ o → (o >>= λ a. only (at_below ((inside c).place a.agent) n) a) ≡ o
  every-atom m None e = refl
  every-atom m (Some a) e = ap (λ t. only t a) (all-below ((inside c).place a.agent) (is.agents a.agent) (is.lodged.each m a e))

  all-parts : parts_below n (inside c) ≡ inside c
  all-parts = λ i. record {
    place = fun_ext (λ q. every-place ((inside c).place q) (is.agents q)) i;
    atom = fun_ext (λ m. every-atom m ((inside c).atom m) refl) i;
    packet = fun_ext (λ m. sym (is.packets m)) i;
  }

pub spread_by_sites : SpreadBySites
spread_by_sites n here c is are same =
    let whole : together (sites n here) ≡ inside c = together-below (inside c) here are n ∙ all-parts n c is in
    let parts : sites n here ++ [] ≡ sites n here = append-nil (sites n here) in
    record {
      joined = record { is = sym whole ∙ ap together (sym parts); apart = subst AreApart (sym parts) (sites-apart (inside c) here are n) };
      born = is.born;
      own = λ q. ap (λ b. set.contains b q) (sym (same q.site).born);
      said = λ s. ap (said_at s) is.silent ∙ sym ((same s).said ∙ is.silent);
      number = λ s. sym (same s).sites;
      site = λ s. subst (IsOfSite s) (sym (are s)) (of-site (inside c) s);
      items = tt;
    }
