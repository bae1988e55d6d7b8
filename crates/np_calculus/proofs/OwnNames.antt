-- The names that a program has from the start, and no others.
use Rattle.std.proofs.Common.{◌≡◌, ℕ, Bool, true, false, List, [], ◌∷◌, map, refl, ap, ◌∙◌}
use Rattle.std.proofs.lemmas.Bool.{or_right}
use Rattle.std.specs.FinSet as set
use Rattle.np_syntax.specs.declared.value.Name.{Name}
use Rattle.np_tables.specs.Names.{NameSet, same_name}
use Rattle.np_tables.proofs.Tables.{contains-none, born_insert, born_here, same_name-is}
use Rattle.np_calculus.specs.Starts.{own, own_names, own_numbers, main_agent, daemon_agent, main_mark, daemon_mark, with_all}

-- what is in a set stays in it
pub with_all-keeps : (names : NameSet) (more : List Name) (q : Name) → set.contains names q ≡ true → set.contains (with_all names more) q ≡ true
with_all-keeps names [] q h = h
with_all-keeps names (m ∷ more) q h = with_all-keeps (set.insert names m) more q (born_insert names m q ∙ or_right (same_name q m) _ h)

pub main-born : (n : ℕ) → set.contains (own_names n) (main_agent n) ≡ true
main-born n = with_all-keeps _ (map (own n) (1 ∷ 2 ∷ 3 ∷ 4 ∷ 5 ∷ 6 ∷ 7 ∷ 8 ∷ 9 ∷ 10 ∷ 11 ∷ 12 ∷ 13 ∷ 14 ∷ 15 ∷ 16 ∷ [])) (main_agent n) (born_here _ (main_agent n))

pub daemon-born : (n : ℕ) → set.contains (own_names n) (daemon_agent n) ≡ true
daemon-born n = with_all-keeps _ (map (own n) (2 ∷ 3 ∷ 4 ∷ 5 ∷ 6 ∷ 7 ∷ 8 ∷ 9 ∷ 10 ∷ 11 ∷ 12 ∷ 13 ∷ 14 ∷ 15 ∷ 16 ∷ [])) (daemon_agent n) (born_here _ (daemon_agent n))

pub mark-born : (n : ℕ) → set.contains (own_names n) (main_mark n) ≡ true
mark-born n = with_all-keeps _ (map (own n) (12 ∷ 13 ∷ 14 ∷ 15 ∷ 16 ∷ [])) (main_mark n) (born_here _ (main_mark n))

pub daemon_mark-born : (n : ℕ) → set.contains (own_names n) (daemon_mark n) ≡ true
daemon_mark-born n = with_all-keeps _ (map (own n) (13 ∷ 14 ∷ 15 ∷ 16 ∷ [])) (daemon_mark n) (born_here _ (daemon_mark n))

pub not_true : (b : Bool) → (b ≡ true → ⊥) → b ≡ false
not_true true h = absurd (h refl)
not_true false h = refl

-- a name of another number than the program's own is none of them
with_all-lacks : (names : NameSet) (n : ℕ) (numbers : List ℕ) (q : Name) → (q.site ≡ n → ⊥) → set.contains names q ≡ false → set.contains (with_all names (map (own n) numbers)) q ≡ false
with_all-lacks names n [] q apart h = h
with_all-lacks names n (k ∷ numbers) q apart h =
    let other : same_name q (own n k) ≡ false = not_true _ (λ e. apart (ap (λ (x : Name). x.site) (same_name-is q (own n k) e))) in
    with_all-lacks (set.insert names (own n k)) n numbers q apart (rw (born_insert names (own n k) q, other) h)

pub own_names-lacks : (n : ℕ) (q : Name) → (q.site ≡ n → ⊥) → set.contains (own_names n) q ≡ false
own_names-lacks n q apart = with_all-lacks set.empty n own_numbers q apart (contains-none q)
