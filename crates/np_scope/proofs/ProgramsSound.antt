-- A resolved program is sound.
use Rattle.std.proofs.Common.{◌≡◌, ◌<◌, ◌≤◌, ℕ, ◌+◌, Bool, true, false, cond, nat_lt, is_some, if◌then◌else◌, Option, None, Some, List, [], ◌∷◌, length, map, Ok, Err, refl, sym, ap, subst, arith}
use Rattle.std.proofs.lemmas.List.{length-map}
use Rattle.std.specs.Str.{bytes_eq}
use Rattle.np_syntax.specs.declared.program.Program.{Program}
use Rattle.np_syntax.specs.declared.limits.TheConstants.{MOST_SITES, MOST_NODES, MOST_BINDERS}
use Rattle.np_tree.specs.declared.tree.Ident.{Ident}
use Rattle.np_tree.specs.declared.tree.Tree.{Tree}
use Rattle.np_tree.specs.Sizes.{nodes, binders}
use Rattle.np_scope.specs.declared.fail.ScopeFail.{ScopeFail}
use Rattle.np_scope.specs.declared.numbers.Placed.{Placed}
use Rattle.np_scope.specs.declared.scope.Meaning.{Meaning}
use Rattle.np_scope.specs.declared.scope.Meaning.TheVariants as meaning
use Rattle.np_scope.specs.Naming.{Named, meaning_of}
use Rattle.np_scope.specs.Resolved.{with_site, with_sites, home_at, home_of, first_numbers, proc_of, main_of, resolved}
use Rattle.np_scope.specs.Sound.{IsNumbered, IsSound, IsSoundProc}
use Rattle.np_scope.specs.Written.{IsWritten}
use Rattle.np_scope.proofs.Outcomes.{All, done, refused, and_then}
use Rattle.np_scope.proofs.Numbering.{next_below, next_once}
use Rattle.np_scope.proofs.PatternsSound.{Fine, Agrees, some_of}
use Rattle.np_scope.proofs.ProcessesSound.{Done, proc-sound}

-- ---- sites

-- a site below k
abbrev Below : ℕ → Meaning → Type 0
Below k (meaning.Site s) = s < k
Below k (meaning.Binder x) = ⊥

abbrev Sited : ℕ → List Named → Type 0
Sited k scope = (name : List ℕ) (m : Meaning) → meaning_of scope name ≡ Some m → Below k m

higher : (k : ℕ) (m : Meaning) → Below k m → Below (k + 1) m
higher k (meaning.Site s) h = omega (arith, h)
higher k (meaning.Binder x) h = h

site-name : (k : ℕ) (outer : Option Meaning) (test : Bool) (m : Meaning) → ((m : Meaning) → outer ≡ Some m → Below k m)
    → cond test (Some (meaning.Site k)) outer ≡ Some m → Below (k + 1) m
site-name k outer true m h is = subst (Below (k + 1)) (ap (some_of m) is) (omega arith)
site-name k outer false m h is = higher k m (h m is)

by_tests : {A : Type 0} {P : A → Type 0} (a b : Bool) (d e : ScopeFail) (new : A) → (b ≡ true → P new) → All P (if a then Err d else (if b then Ok new else Err e))
by_tests true b d e new h = refused d
by_tests false true d e new h = done (h refl)
by_tests false false d e new h = refused e

below-most : (k : ℕ) → nat_lt k MOST_SITES ≡ true → k < MOST_SITES
below-most k e = grind (arith, e)

site-sound : (site : Ident) (k : ℕ) (scope : List Named) → Sited k scope → All (λ new. Sited (k + 1) new × (k < MOST_SITES)) (with_site site k scope)
unfolding with_site
site-sound site k scope h =
    by_tests (is_some (meaning_of scope site.text)) (nat_lt k MOST_SITES) _ _ ((site.text, meaning.Site k) ∷ scope)
    (λ e. ((λ name m is. site-name k (meaning_of scope name) (bytes_eq site.text name) m (h name) is), below-most k e))

abbrev SitesDone : ℕ → List Named → Type 0
SitesDone k new = Sited k new × (k ≤ MOST_SITES)

sites-sound : (sites : List Ident) (k : ℕ) (scope : List Named) → Sited k scope → k ≤ MOST_SITES → All (SitesDone (k + length sites)) (with_sites sites k scope)
sites-sound [] k scope h few = let e : k ≡ k + length {A = Ident} [] = omega arith in done (subst (λ n. SitesDone n scope) e (h, few))
sites-sound (site ∷ sites) k scope h few =
    let e : (k + 1) + length sites ≡ k + length (site ∷ sites) = omega arith in
    and_then (with_site site k scope) (site-sound site k scope h) (λ new r.
    subst (λ n. All (SitesDone n) (with_sites sites (k + 1) new)) e (sites-sound sites (k + 1) new r.0 (let f = r.1 in omega (arith, f))))

home-meaning : (k at : ℕ) (o : Option Meaning) → ((m : Meaning) → o ≡ Some m → Below k m) → All (λ s. s < k) (home_at at o)
home-meaning k at None h = refused _
home-meaning k at (Some (meaning.Site s)) h = done (h (meaning.Site s) refl)
home-meaning k at (Some (meaning.Binder x)) h = refused _

below-fine : (k : ℕ) (m : Meaning) → Below k m → Fine k [] m
below-fine k (meaning.Site s) h = h
below-fine k (meaning.Binder x) h = h

agrees : (k : ℕ) (scope : List Named) → Sited k scope → Agrees k scope []
agrees k scope h name m is = below-fine k m (h name m is)

-- ---- programs

record MainDone (tree : Tree) (m : ℕ × Placed) : Type 0 where
  home : m.0 < length tree.sites
  few : length tree.sites ≤ MOST_SITES
  main : Done (length tree.sites) [] first_numbers tree.main m.1

main-sound : (tree : Tree) → IsWritten tree.main → All (MainDone tree) (main_of tree)
unfolding main_of
main-sound tree w =
    let n : ℕ = length tree.sites in
    let none : Sited 0 [] = λ name m is. absurd cc in
    and_then (with_sites tree.sites 0 []) (sites-sound tree.sites 0 [] none (omega arith)) (λ scope s.
    let e : 0 + length tree.sites ≡ n = omega arith in
    let r : SitesDone n scope = subst (λ k. SitesDone k scope) e s in
    and_then (home_of scope tree.at) (home-meaning n tree.at.at (meaning_of scope tree.at.text) (r.0 tree.at.text)) (λ home below.
    and_then (proc_of n tree.main scope first_numbers) (proc-sound n w scope [] first_numbers (agrees n scope r.0)) (λ main d.
    done (record { home = below; few = r.1; main = d }))))

sound-of : (tree : Tree) → nodes tree.main ≤ MOST_NODES → binders tree.main ≤ MOST_BINDERS → IsWritten tree.main → All IsNumbered (resolved tree)
unfolding resolved
sound-of tree many bound w =
    and_then (main_of tree) (main-sound tree w) (λ m d.
    let e : length tree.sites ≡ length (map (λ site. site.text) tree.sites) = sym (length-map tree.sites (λ site. site.text)) in
    let a = d.few in let b = d.main.node in let c = d.main.binder in
    done (record {
      sound = record {
        bound = d.main.bound;
        after = m.1.next.node;
        main = subst (λ n. IsSoundProc n [] 1 m.1.proc m.1.next.node d.main.bound) e d.main.sound;
        below = next_below d.main.numbered;
        once = next_once d.main.numbered;
        at = subst (λ n. m.0 < n) e d.home;
        sites = subst (λ n. n ≤ MOST_SITES) e (omega (arith, a));
        few_nodes = omega (arith, b, many);
        few_binders = omega (arith, c, bound);
      };
      numbered = d.main.numbered;
    }))

pub numbered_where_resolved : (tree : Tree) (p : Program) → nodes tree.main ≤ MOST_NODES → binders tree.main ≤ MOST_BINDERS → IsWritten tree.main → resolved tree ≡ Ok p → IsNumbered p
numbered_where_resolved tree p many bound w is = (sound-of tree many bound w).each p is

pub sound_where_resolved : (tree : Tree) (p : Program) → nodes tree.main ≤ MOST_NODES → binders tree.main ≤ MOST_BINDERS → IsWritten tree.main → resolved tree ≡ Ok p → IsSound p
sound_where_resolved tree p many bound w is = (numbered_where_resolved tree p many bound w is).sound
