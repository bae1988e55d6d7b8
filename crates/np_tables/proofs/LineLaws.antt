-- The marks by their errands: how a change of one line shows in the others, in the busy meetings and in what is ready.
use Rattle.std.proofs.Common.{◌≡◌, Bool, true, false, not, cond, ◌&&◌, ◌||◌, nat_eq, Option, None, Some, unwrap_or, is_some, IsSome, IfNone, List, [], ◌∷◌, slice_get, IsTrue, ℕ, refl, sym, ap, subst, ◌∙◌, arith}
use Rattle.std.specs.FinSet as set
use Rattle.std.specs.FinSet.{len-empty, empty_of_len}
use Rattle.std.specs.Map.{lookup}
use Rattle.indexmap.specs.IndexMap as index_map
use Rattle.indexmap.specs.IndexMap.{IndexMap}
use Rattle.np_syntax.specs.declared.value.Name.{Name}
use Rattle.np_syntax.proofs.Bools.{and-out, and-true, and-false}
use Rattle.np_tables.specs.Names.{NameSet, name_cmp, same_name}
use Rattle.np_tables.specs.declared.errand.Meeting.{Meeting}
use Rattle.np_tables.specs.declared.errand.Errand.{Errand}
use Rattle.np_tables.specs.declared.errand.Errand.TheVariants.{Acts, Gives, Takes, Stuck}
use Rattle.np_tables.specs.Errands.{same_meeting, same_errand, meeting_of}
use Rattle.np_tables.specs.Lines.{line_of, with_acts, has_some, has_both, is_here, is_at, is_busy, SetsLine, SameLines, BusyAt}
use Rattle.np_tables.proofs.Keyed.{alike, alike-same}
use Rattle.np_tables.proofs.Tables.{same_name-is, same_names, born_remove, born_here, contains-none}

pub same_meeting-is : (a b : Meeting) → same_meeting a b ≡ true → a ≡ b
same_meeting-is a b e =
    let h = and-out (alike a.agent b.agent) (alike a.chan b.chan) e in
    let p = same_name-is a.agent b.agent (sym (alike-same a.agent b.agent) ∙ h.0) in
    let q = same_name-is a.chan b.chan (sym (alike-same a.chan b.chan) ∙ h.1) in
    λ i. record { agent = p i; chan = q i }

pub same_meeting-itself : (a : Meeting) → same_meeting a a ≡ true
same_meeting-itself a = grind arith

pub same_errand-is : (e f : Errand) → same_errand e f ≡ true → e ≡ f
same_errand-is Acts Acts h = refl
same_errand-is Acts (Gives k) h = absurd cc
same_errand-is Acts (Takes k) h = absurd cc
same_errand-is Acts Stuck h = absurd cc
same_errand-is (Gives l) Acts h = absurd cc
same_errand-is (Gives l) (Gives k) h = ap Gives (same_meeting-is l k h)
same_errand-is (Gives l) (Takes k) h = absurd cc
same_errand-is (Gives l) Stuck h = absurd cc
same_errand-is (Takes l) Acts h = absurd cc
same_errand-is (Takes l) (Gives k) h = absurd cc
same_errand-is (Takes l) (Takes k) h = ap Takes (same_meeting-is l k h)
same_errand-is (Takes l) Stuck h = absurd cc
same_errand-is Stuck Acts h = absurd cc
same_errand-is Stuck (Gives k) h = absurd cc
same_errand-is Stuck (Takes k) h = absurd cc
same_errand-is Stuck Stuck h = refl

pub same_errand-itself : (e : Errand) → same_errand e e ≡ true
same_errand-itself Acts = refl
same_errand-itself (Gives l) = same_meeting-itself l
same_errand-itself (Takes l) = same_meeting-itself l
same_errand-itself Stuck = refl

pub true_false : true ≡ false → ⊥
true_false e = cc

-- no name can be taken out of the empty set
pub empty-cut : (m : Name) → set.remove (set.empty {R = name_cmp}) m ≡ set.empty
empty-cut m = same_names _ _ λ q. born_remove set.empty m q ∙ ap (λ b. not (same_name q m) && b) (contains-none q) ∙ and-false (not (same_name q m)) ∙ sym (contains-none q)

module _ {S : Type 0} where
  -- an errand with no line stays as it is where a mark leaves it
  pub leave_none : (old new : IndexMap Errand NameSet S) (e : Errand) (m : Name) → None ≡ index_map.get same_errand old e → new ≡ old → SetsLine old new e (set.remove (line_of old e) m)
  leave_none old new e m none is = record { at = λ f. ap (λ (n : IndexMap Errand NameSet S). line_of n f) is ∙ at_one (same_errand e f) f refl }
    where
      at_one : (t : Bool) (f : Errand) → same_errand e f ≡ t → line_of old f ≡ cond t (set.remove (line_of old e) m) (line_of old f)
      at_one true f h = ap (line_of old) (sym (same_errand-is e f h)) ∙ ap (λ o. unwrap_or o set.empty) (sym none) ∙ sym (empty-cut m) ∙ ap (λ o. set.remove (unwrap_or o set.empty) m) none
      at_one false f h = refl

  -- the line that was written
  pub line_written : (old new : IndexMap Errand NameSet S) (e : Errand) (line left : NameSet) → Some line ≡ index_map.get same_errand old e
      → (IsSome (index_map.get same_errand old e) → (f : Errand) → index_map.get same_errand new f ≡ cond (same_errand e f) (Some left) (index_map.get same_errand old f)) → line_of new e ≡ left
  line_written old new e line left there write =
      ap (λ o. unwrap_or o set.empty) (write (subst IsSome there refl) e) ∙ ap (λ t. unwrap_or (cond t (Some left) (index_map.get same_errand old e)) set.empty) (same_errand-itself e)

-- the line of the marks that act alone, and the others
module _ {S : Type 0} where
  other_line : (a : NameSet) (m : IndexMap Errand NameSet S) (e : Errand) → same_errand e Acts ≡ false → line_of (with_acts a m) e ≡ line_of m e
  other_line a m e h = ap (λ t. unwrap_or (cond t (Some a) (index_map.get same_errand m e)) set.empty) h

  each_line : (F : NameSet → Type 0) (a : NameSet) (m : IndexMap Errand NameSet S) (e : Errand) → same_errand e Acts ≡ false → F (line_of m e) → F (line_of (with_acts a m) e)
  each_line F a m e h = subst F (sym (other_line a m e h))

  acts_set : (F : NameSet → NameSet) (a b : NameSet) (m : IndexMap Errand NameSet S) (e : Errand) → e ≡ Acts → b ≡ F a → SetsLine (with_acts a m) (with_acts b m) e (F (line_of (with_acts a m) e))
  acts_set F a b m e is h = subst (λ f. SetsLine (with_acts a m) (with_acts b m) f (F (line_of (with_acts a m) f))) (sym is) (record { at = at_one })
    where
      at_one : (f : Errand) → line_of (with_acts b m) f ≡ cond (same_errand Acts f) (F a) (line_of (with_acts a m) f)
      at_one Acts = h
      at_one (Gives k) = refl
      at_one (Takes k) = refl
      at_one Stuck = refl

  pub acts_same : (a b : NameSet) (m : IndexMap Errand NameSet S) → b ≡ a → SameLines (with_acts a m) (with_acts b m)
  acts_same a b m h = record { same = λ f. ap (λ c. line_of (with_acts c m) f) h }

  others_set : (F : NameSet → NameSet) (a : NameSet) (m n : IndexMap Errand NameSet S) (e : Errand) → same_errand e Acts ≡ false → SetsLine m n e (F (line_of m e)) → SetsLine (with_acts a m) (with_acts a n) e (F (line_of (with_acts a m) e))
  others_set F a m n e h sets = each_line (λ s. SetsLine (with_acts a m) (with_acts a n) e (F s)) a m e h (record { at = at_one })
    where
      at_one : (f : Errand) → line_of (with_acts a n) f ≡ cond (same_errand e f) (F (line_of m e)) (line_of (with_acts a m) f)
      at_one Acts = sym (ap (λ t. cond t (F (line_of m e)) a) h)
      at_one (Gives k) = sets.at (Gives k)
      at_one (Takes k) = sets.at (Takes k)
      at_one Stuck = sets.at Stuck

  pub others_same : (a : NameSet) (m n : IndexMap Errand NameSet S) → SameLines m n → SameLines (with_acts a m) (with_acts a n)
  others_same a m n same = record { same = at_one }
    where
      at_one : (f : Errand) → line_of (with_acts a n) f ≡ line_of (with_acts a m) f
      at_one Acts = refl
      at_one (Gives k) = same.same (Gives k)
      at_one (Takes k) = same.same (Takes k)
      at_one Stuck = same.same Stuck

  pub acts_enter : (a b : NameSet) (m : IndexMap Errand NameSet S) (e : Errand) (q : Name) → same_errand e Acts ≡ true → b ≡ set.insert a q → SetsLine (with_acts a m) (with_acts b m) e (set.insert (line_of (with_acts a m) e) q)
  acts_enter a b m e q h = acts_set (λ s. set.insert s q) a b m e (same_errand-is e Acts h)

  pub acts_leave : (a b : NameSet) (m : IndexMap Errand NameSet S) (e : Errand) (q : Name) → same_errand e Acts ≡ true → b ≡ set.remove a q → SetsLine (with_acts a m) (with_acts b m) e (set.remove (line_of (with_acts a m) e) q)
  acts_leave a b m e q h = acts_set (λ s. set.remove s q) a b m e (same_errand-is e Acts h)

  pub others_enter : (a : NameSet) (m n : IndexMap Errand NameSet S) (e : Errand) (q : Name) → same_errand e Acts ≡ false → SetsLine m n e (set.insert (line_of m e) q)
      → SetsLine (with_acts a m) (with_acts a n) e (set.insert (line_of (with_acts a m) e) q)
  others_enter a m n e q = others_set (λ s. set.insert s q) a m n e

  pub others_leave : (a : NameSet) (m n : IndexMap Errand NameSet S) (e : Errand) (q : Name) → same_errand e Acts ≡ false → SetsLine m n e (set.remove (line_of m e) q)
      → SetsLine (with_acts a m) (with_acts a n) e (set.remove (line_of (with_acts a m) e) q)
  others_leave a m n e q = others_set (λ s. set.remove s q) a m n e

  -- the line of an errand, where it is known which kind it is
  pub acts_line : (a : NameSet) (m : IndexMap Errand NameSet S) (e : Errand) → same_errand e Acts ≡ true → a ≡ line_of (with_acts a m) e
  acts_line a m e h = ap (line_of (with_acts a m)) (sym (same_errand-is e Acts h))

  pub others_line : (a : NameSet) (m : IndexMap Errand NameSet S) (e : Errand) → same_errand e Acts ≡ false → line_of m e ≡ line_of (with_acts a m) e
  others_line a m e h = sym (other_line a m e h)

  -- no line has marks at first
  pub none_first : (a : NameSet) (m : IndexMap Errand NameSet S) → a ≡ set.empty → m.entries ≡ [] → (e : Errand) → line_of (with_acts a m) e ≡ set.empty
  none_first a m none empty Acts = none
  none_first a m none empty (Gives k) = ap (λ es. unwrap_or (lookup (same_errand (Gives k)) es) set.empty) empty
  none_first a m none empty (Takes k) = ap (λ es. unwrap_or (lookup (same_errand (Takes k)) es) set.empty) empty
  none_first a m none empty Stuck = ap (λ es. unwrap_or (lookup (same_errand Stuck) es) set.empty) empty

pub some-empty : has_some set.empty ≡ false
some-empty = ap (λ n. not (nat_eq n 0)) (len-empty name_cmp)

no_length : (n : ℕ) → not (nat_eq n 0) ≡ false → n ≡ 0
no_length n e = grind (arith, e)

-- a set that has none is the empty one
pub empty_of-some : (s : NameSet) → has_some s ≡ false → s ≡ set.empty
empty_of-some s e = empty_of_len s (no_length (set.len s) e)

-- a line with no marks may be given up
pub given_up : {S : Type 0} (old new : IndexMap Errand NameSet S) (e : Errand) → has_some (line_of old e) ≡ false
    → ((f : Errand) → index_map.get same_errand new f ≡ cond (same_errand e f) None (index_map.get same_errand old f)) → SameLines old new
given_up old new e none cut = record { same = λ f. ap (λ o. unwrap_or o set.empty) (cut f) ∙ by_case (same_errand e f) f refl }
  where
    by_case : (t : Bool) (f : Errand) → same_errand e f ≡ t → unwrap_or (cond t None (index_map.get same_errand old f)) set.empty ≡ line_of old f
    by_case true f is = sym (empty_of-some (line_of old e) none) ∙ ap (line_of old) (same_errand-is e f is)
    by_case false f is = refl

-- the test of emptiness, turned round
pub some-is_empty : (b : Bool) (s : NameSet) → (IsTrue b → s ≡ set.empty) → (s ≡ set.empty → IsTrue b) → not b ≡ has_some s
some-is_empty true s to from = sym (ap has_some (to refl) ∙ some-empty)
some-is_empty false s to from = by_case (has_some s) refl
  where
    by_case : (b : Bool) → has_some s ≡ b → true ≡ b
    by_case true e = refl
    by_case false e = absurd cc (from (empty_of-some s e))

pub none_of-empty : (s : NameSet) → s ≡ set.empty → has_some s ≡ false
none_of-empty s e = ap has_some e ∙ some-empty

-- what holds where there is none
pub if_none : {A P Q : Type 0} (o : Option A) → (P → Q) → IfNone o P → IfNone o Q
if_none None f h = f h
if_none (Some a) f h = h

module _ {S : Type 0} (lines : IndexMap Errand NameSet S) (e : Errand) where
  -- the line of an errand that has none
  pub no_line : None ≡ index_map.get same_errand lines e → set.empty ≡ line_of lines e
  no_line h = ap (λ o. unwrap_or o set.empty) h

  -- an errand that has marks has a line
  pub has_line : IsTrue (has_some (line_of lines e)) → None ≡ index_map.get same_errand lines e → ⊥
  has_line h n = true_false (sym h ∙ ap has_some (sym (no_line n)) ∙ some-empty)

-- an errand that has no line has no marks
pub none_left : {S : Type 0} (old new : IndexMap Errand NameSet S) (e : Errand) → None ≡ index_map.get same_errand old e → new ≡ old → false ≡ has_some (line_of new e)
none_left {S = S} old new e none is = sym (ap (λ (n : IndexMap Errand NameSet S). has_some (line_of n e)) is ∙ none_of-empty _ (sym (no_line old e none)))

pub some_of_member : (s : NameSet) (m : Name) → set.contains s m ≡ true → has_some s ≡ true
some_of_member s m h = by_case (has_some s) refl
  where
    by_case : (b : Bool) → has_some s ≡ b → b ≡ true
    by_case true e = refl
    by_case false e = let n : set.contains s m ≡ false = ap (λ t. set.contains t m) (empty_of-some s e) ∙ contains-none m in absurd (true_false (sym h ∙ n))

some-insert : (s : NameSet) (m : Name) → has_some (set.insert s m) ≡ true
some-insert s m = some_of_member (set.insert s m) m (born_here s m)

some_before : (s : NameSet) (m : Name) → has_some (set.remove s m) ≡ true → has_some s ≡ true
some_before s m h = by_case (has_some s) refl
  where
    by_case : (b : Bool) → has_some s ≡ b → b ≡ true
    by_case true e = refl
    by_case false e = absurd (true_false (sym h ∙ ap (λ t. has_some (set.remove t m)) (empty_of-some s e) ∙ ap has_some (empty-cut m) ∙ some-empty))

-- the line that a mark came under has some
pub some_entered : {S : Type 0} (old new : IndexMap Errand NameSet S) (e : Errand) (m : Name) → SetsLine old new e (set.insert (line_of old e) m) → has_some (line_of new e) ≡ true
some_entered old new e m sets =
    ap has_some (sets.at e) ∙ ap (λ t. has_some (cond t (set.insert (line_of old e) m) (line_of old e))) (same_errand-itself e) ∙ some-insert (line_of old e) m

-- a test of the meeting of an errand, made at any meeting
at_here : {S : Type 0} (lines : IndexMap Errand NameSet S) (x k : Meeting) (at r : Bool) → at ≡ same_meeting x k → r ≡ has_both lines x → (at && has_both lines k) ≡ (same_meeting x k && r)
at_here lines x k at r is here = ap (λ b. b && has_both lines k) is ∙ by_case (same_meeting x k) refl
  where
    by_case : (t : Bool) → same_meeting x k ≡ t → (t && has_both lines k) ≡ (t && r)
    by_case true e = ap (has_both lines) (sym (same_meeting-is x k e)) ∙ sym here
    by_case false e = refl

here : (e : Errand) (x : Meeting) → Some x ≡ meeting_of e → (k : Meeting) → is_at e k ≡ same_meeting x k
here e x there k = ap (λ o. is_here o k) (sym there)

module _ {S V R : Type 0} (lines : IndexMap Errand NameSet S) (e : Errand) (x : Meeting) (there : Some x ≡ meeting_of e) where
  pub opens : (old new : IndexMap Meeting V R) (v : V) → true ≡ has_both lines x
      → ((k : Meeting) → index_map.get same_meeting new k ≡ cond (same_meeting x k) (Some v) (index_map.get same_meeting old k))
      → (k : Meeting) → is_busy new k ≡ (is_busy old k || (is_at e k && has_both lines k))
  opens old new v meets write k = ap is_some (write k) ∙ put (same_meeting x k) _ ∙ ap (λ b. is_busy old k || b) (sym (at_here lines x k (is_at e k) true (here e x there k) meets))
    where
      put : (t : Bool) (o : Option V) → is_some (cond t (Some v) o) ≡ (is_some o || (t && true))
      put true None = refl
      put true (Some w) = refl
      put false None = refl
      put false (Some w) = refl

  pub stays_shut : (busy : IndexMap Meeting V R) → false ≡ has_both lines x → (k : Meeting) → is_busy busy k ≡ (is_busy busy k || (is_at e k && has_both lines k))
  stays_shut busy apart k = same (same_meeting x k) _ ∙ ap (λ b. is_busy busy k || b) (sym (at_here lines x k (is_at e k) false (here e x there k) apart))
    where
      same : (t b : Bool) → b ≡ (b || (t && false))
      same true true = refl
      same true false = refl
      same false true = refl
      same false false = refl

-- a meeting whose errand has no marks left
pub shuts : {V R : Type 0} (e : Errand) (x : Meeting) → Some x ≡ meeting_of e → (others : Bool) → others ≡ false → (old new : IndexMap Meeting V R)
    → ((k : Meeting) → index_map.get same_meeting new k ≡ cond (same_meeting x k) None (index_map.get same_meeting old k)) → (k : Meeting) → is_busy new k ≡ (is_busy old k && (others || not (is_at e k)))
shuts {V = V} e x there others none old new write k =
    ap is_some (write k) ∙ cut (same_meeting x k) (index_map.get same_meeting old k) ∙ ap (λ b. is_busy old k && not b) (sym (here e x there k)) ∙ ap (λ b. is_busy old k && (b || not (is_at e k))) (sym none)
  where
    cut : (t : Bool) (o : Option V) → is_some (cond t None o) ≡ (is_some o && not t)
    cut true None = refl
    cut true (Some v) = refl
    cut false None = refl
    cut false (Some v) = refl

apart_takes : (e : Errand) (k : Meeting) → is_at e k ≡ false → same_errand e (Takes k) ≡ false
apart_takes Acts k h = refl
apart_takes (Gives l) k h = refl
apart_takes (Takes l) k h = h
apart_takes Stuck k h = refl

apart_gives : (e : Errand) (k : Meeting) → is_at e k ≡ false → same_errand e (Gives k) ≡ false
apart_gives Acts k h = refl
apart_gives (Gives l) k h = h
apart_gives (Takes l) k h = refl
apart_gives Stuck k h = refl

opened : (at p q : Bool) → (p ≡ true → q ≡ true) → (at ≡ false → q ≡ p) → (p || (at && q)) ≡ q
opened at true q grows away = sym (grows refl)
opened true false q grows away = refl
opened false false q grows away = sym (away refl)

closed : (at l p q : Bool) → (l ≡ true → q ≡ p) → (at ≡ false → q ≡ p) → (at ≡ true → l ≡ false → q ≡ false) → (p && (l || not at)) ≡ q
closed at true p q stays away ends = and-true p ∙ sym (stays refl)
closed true false p q stays away ends = and-false p ∙ sym (ends refl refl)
closed false false p q stays away ends = and-true p ∙ sym (away refl)

module _ {S : Type 0} (old new : IndexMap Errand NameSet S) (e : Errand) (line : NameSet) (sets : SetsLine old new e line) where
  line_away : (f : Errand) → same_errand e f ≡ false → line_of new f ≡ line_of old f
  line_away f h = sets.at f ∙ ap (λ t. cond t line (line_of old f)) h

  both_away : (k : Meeting) → is_at e k ≡ false → has_both new k ≡ has_both old k
  both_away k h = let t = line_away (Takes k) (apart_takes e k h) in let g = line_away (Gives k) (apart_gives e k h) in λ i. has_some (t i) && has_some (g i)

and_both : (a b c d : Bool) → (a ≡ true → c ≡ true) → (b ≡ true → d ≡ true) → (a && b) ≡ true → (c && d) ≡ true
and_both true true c d f g h = let p = f refl in let q = g refl in λ i. p i && q i
and_both true false c d f g h = absurd cc
and_both false b c d f g h = absurd cc

module _ {S : Type 0} (old new : IndexMap Errand NameSet S) (e : Errand) (m : Name) where
  some_more : SetsLine old new e (set.insert (line_of old e) m) → (f : Errand) → has_some (line_of old f) ≡ true → has_some (line_of new f) ≡ true
  some_more sets f h = ap has_some (sets.at f) ∙ by_case (same_errand e f)
    where
      by_case : (t : Bool) → has_some (cond t (set.insert (line_of old e) m) (line_of old f)) ≡ true
      by_case true = some-insert (line_of old e) m
      by_case false = h

  some_fewer : SetsLine old new e (set.remove (line_of old e) m) → (f : Errand) → has_some (line_of new f) ≡ true → has_some (line_of old f) ≡ true
  some_fewer sets f h = by_case (same_errand e f) refl (sym (ap has_some (sets.at f)) ∙ h)
    where
      by_case : (t : Bool) → same_errand e f ≡ t → has_some (cond t (set.remove (line_of old e) m) (line_of old f)) ≡ true → has_some (line_of old f) ≡ true
      by_case true is h = ap (λ g. has_some (line_of old g)) (sym (same_errand-is e f is)) ∙ some_before (line_of old e) m h
      by_case false is h = h

  -- where the errand has marks left, each errand that had some has some
  some_kept : SetsLine old new e (set.remove (line_of old e) m) → has_some (line_of new e) ≡ true → (f : Errand) → has_some (line_of new f) ≡ has_some (line_of old f)
  some_kept sets some f = by_case (same_errand e f) refl
    where
      by_case : (t : Bool) → same_errand e f ≡ t → has_some (line_of new f) ≡ has_some (line_of old f)
      by_case true is =
          let j = same_errand-is e f is in
          ap (λ g. has_some (line_of new g)) (sym j) ∙ some ∙ sym (some_fewer sets e some) ∙ ap (λ g. has_some (line_of old g)) j
      by_case false is = ap has_some (line_away old new e _ sets f is)

  both_kept : SetsLine old new e (set.remove (line_of old e) m) → has_some (line_of new e) ≡ true → (k : Meeting) → has_both new k ≡ has_both old k
  both_kept sets some k = let t = some_kept sets some (Takes k) in let g = some_kept sets some (Gives k) in λ i. t i && g i

-- where the errand has none left, nothing meets at its meeting
ended : {S : Type 0} (new : IndexMap Errand NameSet S) (e : Errand) → has_some (line_of new e) ≡ false → (k : Meeting) → is_at e k ≡ true → has_both new k ≡ false
ended new Acts none k h = absurd (true_false (sym h))
ended new (Gives l) none k h = ap (λ b. has_some (line_of new (Takes k)) && b) (ap (λ j. has_some (line_of new (Gives j))) (sym (same_meeting-is l k h)) ∙ none) ∙ and-false _
ended new (Takes l) none k h = ap (λ b. b && has_some (line_of new (Gives k))) (ap (λ j. has_some (line_of new (Takes j))) (sym (same_meeting-is l k h)) ∙ none)
ended new Stuck none k h = absurd (true_false (sym h))

module _ {S V R : Type 0} (old new : IndexMap Errand NameSet S) (busy after : IndexMap Meeting V R) where
  both_lines : (k : Meeting) → line_of old (Takes k) ≡ line_of new (Takes k) → line_of old (Gives k) ≡ line_of new (Gives k) → has_both old k ≡ has_both new k
  both_lines k t g = λ i. has_some (t i) && has_some (g i)

  pub busy_same : BusyAt old busy → SameLines old new → after.entries ≡ busy.entries → BusyAt new after
  busy_same at lines entries = record {
    at = λ k.
        ap (λ ks. is_some (lookup (same_meeting k) ks)) entries ∙ at.at k ∙ both_lines k (sym (lines.same (Takes k))) (sym (lines.same (Gives k)));
  }

  pub busy_more : (e : Errand) (m : Name) → BusyAt old busy → SetsLine old new e (set.insert (line_of old e) m) → ((k : Meeting) → is_busy after k ≡ (is_busy busy k || (is_at e k && has_both new k))) → BusyAt new after
  busy_more e m at sets opens = record {
    at = λ k.
        opens k ∙ ap (λ b. b || (is_at e k && has_both new k)) (at.at k)
        ∙ opened (is_at e k) (has_both old k) (has_both new k) (and_both _ _ _ _ (some_more old new e m sets (Takes k)) (some_more old new e m sets (Gives k))) (both_away old new e _ sets k);
  }

  pub busy_fewer : (e : Errand) (m : Name) (others : Bool) → BusyAt old busy → SetsLine old new e (set.remove (line_of old e) m) → others ≡ has_some (line_of new e)
      → ((k : Meeting) → is_busy after k ≡ (is_busy busy k && (others || not (is_at e k)))) → BusyAt new after
  busy_fewer e m others at sets are shuts = record {
    at = λ k.
        shuts k ∙ ap (λ b. b && (others || not (is_at e k))) (at.at k)
        ∙ closed (is_at e k) others (has_both old k) (has_both new k) (λ l. both_kept old new e m sets (sym are ∙ l) k) (both_away old new e _ sets k) (λ h l. ended new e (sym are ∙ l) k h);
  }

-- nothing is busy where there are no marks
pub busy_none : {S V R : Type 0} (lines : IndexMap Errand NameSet S) (busy : IndexMap Meeting V R) → ((e : Errand) → line_of lines e ≡ set.empty) → busy.entries ≡ [] → BusyAt lines busy
busy_none lines busy none no_entries = record { at = λ k. ap (λ ks. is_some (lookup (same_meeting k) ks)) no_entries ∙ sym (nowhere k) }
  where
    takes_none : (k : Meeting) → has_some (line_of lines (Takes k)) ≡ false
    takes_none k = ap has_some (none (Takes k)) ∙ some-empty

    nowhere : (k : Meeting) → has_both lines k ≡ false
    nowhere k = ap (λ b. b && has_some (line_of lines (Gives k))) (takes_none k)

-- the first of the entries is found
pub first_found : {V : Type 0} (e : Meeting × V) (es : List (Meeting × V)) → is_some (lookup (same_meeting e.0) (e ∷ es)) ≡ true
first_found e es = ap (λ t. is_some (cond t (Some e.1) (lookup (same_meeting e.0) es))) (same_meeting-itself e.0)

-- the first of the busy meetings is busy
pub first_busy : {V R : Type 0} (busy : IndexMap Meeting V R) (meeting : Meeting) (v : V) → Some (meeting, v) ≡ slice_get busy.entries 0 → IsTrue (is_busy busy meeting)
first_busy {V = V} busy meeting v e = first busy.entries e
  where
    first : (es : List (Meeting × V)) → Some (meeting, v) ≡ slice_get es 0 → IsTrue (is_some (lookup (same_meeting meeting) es))
    first [] e = absurd cc
    first (k ∷ es) e = let is : k.0 ≡ meeting = cc in subst (λ m. IsTrue (is_some (lookup (same_meeting m) (k ∷ es)))) is (first_found k es)
