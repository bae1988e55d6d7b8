-- A set of names one of which may stand in place.
use Rattle.std.proofs.Common.{◌≡◌, Bool, true, false, not, ◌&&◌, ◌||◌, Option, None, Some, Result, Ok, Err, OnOk, OnErr, IsTrue, refl, sym, ap, subst, ◌∙◌}
use Rattle.std.specs.FinSet as set
use Rattle.np_syntax.specs.declared.value.Name.{Name}
use Rattle.np_tables.specs.Names.{NameSet, same_name, with_one, is_one}
use Rattle.np_tables.proofs.Tables.{same_name-is, same_names, both_names, born_insert, born_remove, born_here, born_swap, contains-none}
use Rattle.np_tables.proofs.LineLaws.{true_false, empty-cut}

pub one_has : (one : Option Name) (s : NameSet) (q : Name) → (is_one one q || set.contains s q) ≡ set.contains (with_one one s) q
one_has None s q = refl
one_has (Some n) s q = sym (born_insert s n q)

pub one_there : (one : Option Name) (s : NameSet) (q : Name) → is_one one q ≡ true → true ≡ set.contains (with_one one s) q
one_there one s q h = sym (ap (λ b. b || set.contains s q) h) ∙ one_has one s q

pub one_away : (one : Option Name) (s : NameSet) (q : Name) → is_one one q ≡ false → set.contains s q ≡ set.contains (with_one one s) q
one_away one s q h = sym (ap (λ b. b || set.contains s q) h) ∙ one_has one s q

-- in a set with no names nothing is found, and from it nothing is taken out
pub none_has : (s : NameSet) (q : Name) → s ≡ set.empty → false ≡ set.contains s q
none_has s q e = sym (ap (λ (t : NameSet). set.contains t q) e ∙ contains-none q)

pub none_cut : (s : NameSet) (q : Name) → s ≡ set.empty → s ≡ set.remove s q
none_cut s q e = e ∙ sym (ap (λ (t : NameSet). set.remove t q) e ∙ empty-cut q)

-- where one stands in place
module _ (one : Option Name) (s : NameSet) (n : Name) (there : one ≡ Some n) where
  pub one_first : IsTrue (set.contains (with_one one s) n)
  one_first = subst (λ o. IsTrue (set.contains (with_one o s) n)) (sym there) (born_here s n)

  pub one_filled : with_one one s ≡ set.empty → ⊥
  one_filled e = true_false (sym one_first ∙ ap (λ t. set.contains t n) e ∙ contains-none n)

  pub one_put : (t : NameSet) (q : Name) → t ≡ set.insert s q → with_one one t ≡ set.insert (with_one one s) q
  one_put t q h = subst (λ o. with_one o t ≡ set.insert (with_one o s) q) (sym there) (ap (λ u. set.insert u n) h ∙ born_swap s q n)

-- what holds where all went well, and where it did not
pub on_ok : {A E P Q : Type 0} (r : Result A E) → (P → Q) → OnOk r P → OnOk r Q
on_ok (Ok a) f h = f h
on_ok (Err e) f h = h

pub on_err : {A E P Q : Type 0} (r : Result A E) → (P → Q) → OnErr r P → OnErr r Q
on_err (Ok a) f h = h
on_err (Err e) f h = f h

cut_twice : (s t b : Bool) → s ≡ t → (not s && b) ≡ (not s && (t || b))
cut_twice true t b e = refl
cut_twice false true b e = absurd (true_false (sym e))
cut_twice false false b e = refl

-- the one that stands in place is taken out
pub one_gone : (one : Option Name) (s : NameSet) (q : Name) → is_one one q ≡ true → set.remove s q ≡ set.remove (with_one one s) q
one_gone None s q h = absurd (true_false (sym h))
one_gone (Some n) s q h = same_names _ _ λ x.
    rw (born_remove s q x, born_remove (set.insert s n) q x, born_insert s n x) (cut_twice (same_name x q) (same_name x n) (set.contains s x) (ap (same_name x) (same_name-is q n h)))

cut_other : (s t b : Bool) → (s ≡ true → t ≡ true → ⊥) → (t || (not s && b)) ≡ (not s && (t || b))
cut_other true true b apart = absurd (apart refl refl)
cut_other true false b apart = refl
cut_other false t b apart = refl

-- another is taken out
pub one_stays : (one : Option Name) (s : NameSet) (q : Name) → is_one one q ≡ false → with_one one (set.remove s q) ≡ set.remove (with_one one s) q
one_stays None s q h = refl
one_stays (Some n) s q h = same_names _ _ λ x.
    rw (born_insert (set.remove s q) n x, born_remove s q x, born_remove (set.insert s n) q x, born_insert s n x) (cut_other (same_name x q) (same_name x n) (set.contains s x) (both_names q n x h))
