-- Who waits in a queue after its steps.
use Rattle.std.proofs.Common.{◌≡◌, ℕ, zero, suc, Bool, true, false, ◌||◌, List, [], ◌∷◌, length, Option, None, Some, IsSome, OnSome, refl, sym, subst, arith}
use Rattle.std.specs.Prelude.{slice_index_or, remove}
use Rattle.np_syntax.specs.declared.value.Name.{Name}
use Rattle.np_tables.specs.Names.{same_name}
use Rattle.np_tables.proofs.Walks.{Before}
use Rattle.site_agents.specs.Queues.{Waiting, listed, waits, Keeps, KeepsBut}

or_left : (a b c : Bool) → (a || b) ≡ true → (b ≡ true → c ≡ true) → (a || c) ≡ true
or_left true b c h f = refl
or_left false b c h f = f h

abbrev pub waiting : List Name → Bool → Waiting
waiting names lost = record { names = names; lost = lost }

drop_or : (a b : Bool) → a ≡ false → (a || b) ≡ true → b ≡ true
drop_or true b e h = absurd cc
drop_or false b e h = h

cut_listed : (q : Name) (names : List Name) (i : ℕ) (n : Name) → n ≡ slice_index_or names i n → same_name q n ≡ false → listed names q ≡ true → listed (remove names i) q ≡ true
cut_listed q [] i n e apart h = absurd cc
cut_listed q (x ∷ xs) zero n e apart h = drop_or (same_name q x) (listed xs q) (subst (λ y. same_name q y ≡ false) e apart) h
cut_listed q (x ∷ xs) (suc i) n e apart h = or_left (same_name q x) (listed xs q) _ h (cut_listed q xs i n e apart)

pub keeps_cut : (names : List Name) (lost : Bool) (i : ℕ) (n : Name) → n ≡ slice_index_or names i n → KeepsBut n (waiting names lost) (waiting (remove names i) lost)
keeps_cut names lost i n e = record { each = λ q apart h. or_left lost _ _ h (cut_listed q names i n e apart) }

tie : (a b : Bool) → (a ≡ true → b ≡ true) → (a ≡ false → b ≡ true) → b ≡ true
tie true b f g = f refl
tie false b f g = g refl

-- a name that went and comes again
pub keeps_again : (old now new : Waiting) (n : Name) → KeepsBut n old now → Keeps now new → waits new n ≡ true → ((q : Name) → same_name q n ≡ true → q ≡ n) → Keeps old new
keeps_again old now new n but keeps here same =
    record { each = λ q h. tie (same_name q n) (waits new q) (λ t. subst (λ y. waits new y ≡ true) (sym (same q t)) here) (λ f. keeps.each q (but.each q f h)) }

pub keeps_cut_to : (names new : List Name) (lost : Bool) (i : ℕ) (n : Name) → n ≡ slice_index_or names i n → new ≡ remove names i → KeepsBut n (waiting names lost) (waiting new lost)
keeps_cut_to names new lost i n e r = subst (λ ns. KeepsBut n (waiting names lost) (waiting ns lost)) (sym r) (keeps_cut names lost i n e)

-- ---- where a name stands

pub met : {A : Type 0} (o : Option A) (X : Type 0) → IsSome o → OnSome o X → X
met None X h f = absurd cc
met (Some x) X h f = f

or_none : (a b : Bool) → a ≡ false → b ≡ false → (a || b) ≡ false
or_none true b e f = e
or_none false b e f = f

-- a name that a walk to the end did not meet is not in the list
pub not_listed : (names : List Name) (q : Name) → Before (λ x. same_name q x ≡ false) names (length names) → listed names q ≡ false
not_listed [] q none = refl
not_listed (x ∷ xs) q none = or_none (same_name q x) (listed xs q) (none 0 x (omega arith)) (not_listed xs q (λ k d less. none (suc k) d (omega arith)))
