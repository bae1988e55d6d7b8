-- The marks in their lines as the work that is filed: how a change of one shows in the other, and what is ready.
use Rattle.std.proofs.Common.{◌≡◌, Bool, true, false, cond, ◌&&◌, ◌||◌, Option, None, Some, is_some, IsTrue, List, [], ◌∷◌, refl, sym, ap, ◌∙◌}
use Rattle.std.specs.Map.{lookup}
use Rattle.std.specs.FinMap as map
use Rattle.std.specs.FinSet as set
use Rattle.indexmap.specs.IndexMap.{IndexMap}
use Rattle.np_syntax.specs.declared.value.Name.{Name}
use Rattle.np_syntax.proofs.Bools.{and-out, and-true}
use Rattle.np_tables.specs.Names.{NameSet, same_name}
use Rattle.np_tables.specs.declared.errand.Meeting.{Meeting}
use Rattle.np_tables.specs.declared.errand.Errand.{Errand}
use Rattle.np_tables.specs.declared.errand.Errand.TheVariants.{Acts, Gives, Takes}
use Rattle.np_tables.specs.Errands.{Work, Meet, NothingReady, same_meeting, same_errand, is_filed}
use Rattle.np_tables.specs.Lines.{line_of, has_some, has_both, SetsLine, InLines, InLinesAnd, BusyAt, NoneDue}
use Rattle.np_tables.proofs.Tables.{get-none, get-put, get-cut, cut_absent, same_name-is, same_names, born_insert, born_remove, contains-none}
use Rattle.np_tables.proofs.LineLaws.{same_errand-is, same_errand-itself, first_found, some_of_member, some-empty, true_false}

abbrev member : {S : Type 0} → IndexMap Errand NameSet S → Errand → Name → Bool
member lines e q = set.contains (line_of lines e) q

-- what stands under the name that two spellings give
at_name : (work : Work) (m q : Name) (o : Option Errand) → map.get work m ≡ o → same_name q m ≡ true → map.get work q ≡ o
at_name work m q o is same = ap (map.get work) (same_name-is q m same) ∙ is

apart_back : (e f : Errand) → same_errand e f ≡ false → same_errand f e ≡ false
apart_back e f h = by_case (same_errand f e) refl
  where
    by_case : (t : Bool) → same_errand f e ≡ t → t ≡ false
    by_case true is = absurd (true_false (sym (same_errand-itself e) ∙ ap (same_errand e) (sym (same_errand-is f e is)) ∙ h))
    by_case false is = refl

module _ {S : Type 0} (work : Work) where
  -- a mark has come under an errand
  pub entered : (old new : IndexMap Errand NameSet S) (e : Errand) (m : Name) → InLines work old → SetsLine old new e (set.insert (line_of old e) m) → InLinesAnd work new e m
  entered old new e m lines sets = record { at = λ f q. ap (λ s. set.contains s q) (sets.at f) ∙ by_case f q (same_errand e f) refl }
    where
      swap : (t b : Bool) → (t || b) ≡ (b || (true && t))
      swap true true = refl
      swap true false = refl
      swap false true = refl
      swap false false = refl

      or_false : (b : Bool) → b ≡ (b || false)
      or_false true = refl
      or_false false = refl

      by_case : (f : Errand) (q : Name) (s : Bool) → same_errand e f ≡ s → set.contains (cond s (set.insert (line_of old e) m) (line_of old f)) q ≡ (is_filed (map.get work q) f || (s && same_name q m))
      by_case f q true is =
          born_insert (line_of old e) m q ∙ ap (λ b. same_name q m || b) (lines.at e q ∙ ap (is_filed (map.get work q)) (same_errand-is e f is)) ∙ swap (same_name q m) _
      by_case f q false is = lines.at f q ∙ or_false _

  module _ (lines : IndexMap Errand NameSet S) (e : Errand) (m : Name) (and : InLinesAnd work lines e m) where
    filed_now : (o : Option Errand) → map.get work m ≡ o → ((f : Errand) → (is_filed o f || same_errand e f) ≡ same_errand e f)
        → (f : Errand) (q : Name) → (is_filed (map.get work q) f || (same_errand e f && same_name q m)) ≡ is_filed (map.get (map.insert work m e) q) f
    filed_now o is only f q = by_case (same_name q m) refl ∙ ap (λ p. is_filed p f) (sym (get-put work m e q))
      where
        or_false : (b c : Bool) → (b || (c && false)) ≡ b
        or_false true c = refl
        or_false false true = refl
        or_false false false = refl

        by_case : (t : Bool) → same_name q m ≡ t → (is_filed (map.get work q) f || (same_errand e f && same_name q m)) ≡ is_filed (cond (same_name q m) (Some e) (map.get work q)) f
        by_case true t = rw (t, and-true (same_errand e f), at_name work m q o is t) (only f)
        by_case false t = rw t (or_false (is_filed (map.get work q) f) (same_errand e f))

    -- it was filed under none
    pub settled_new : map.get work m ≡ None → InLines (map.insert work m e) lines
    settled_new is = record { at = λ f q. and.at f q ∙ filed_now None is (λ g. refl) f q }

    -- it was filed under this errand
    pub settled_same : map.get work m ≡ Some e → InLines (map.insert work m e) lines
    settled_same is = record { at = λ f q. and.at f q ∙ filed_now (Some e) is (λ g. or_itself (same_errand e g)) f q }
      where
        or_itself : (b : Bool) → (b || b) ≡ b
        or_itself true = refl
        or_itself false = refl

    -- it was filed under another, whose line it has left
    pub settled_moved : (new : IndexMap Errand NameSet S) (o : Errand) → map.get work m ≡ Some o → same_errand o e ≡ false → SetsLine lines new o (set.remove (line_of lines o) m) → InLines (map.insert work m e) new
    settled_moved new o is apart sets = record { at = λ f q. ap (λ s. set.contains s q) (sets.at f) ∙ by_case f q (same_errand o f) refl (same_name q m) refl ∙ ap (λ p. is_filed p f) (sym (get-put work m e q)) }
      where
        or_false : (b c : Bool) → (b || (c && false)) ≡ b
        or_false true c = refl
        or_false false true = refl
        or_false false false = refl

        by_case : (f : Errand) (q : Name) (s : Bool) → same_errand o f ≡ s → (t : Bool) → same_name q m ≡ t
            → set.contains (cond s (set.remove (line_of lines o) m) (line_of lines f)) q ≡ is_filed (cond (same_name q m) (Some e) (map.get work q)) f
        by_case f q true s true t = born_remove (line_of lines o) m q ∙ rw (t, ← same_errand-is o f s) (sym (apart_back o e apart))
        by_case f q true s false t = born_remove (line_of lines o) m q ∙ rw (t, ← same_errand-is o f s) (and.at o q ∙ rw t (or_false (is_filed (map.get work q) o) (same_errand e o)))
        by_case f q false s true t = and.at f q ∙ rw (t, at_name work m q (Some o) is t, s) (and-true (same_errand e f))
        by_case f q false s false t = and.at f q ∙ rw t (or_false (is_filed (map.get work q) f) (same_errand e f))

  module _ (lines : IndexMap Errand NameSet S) (m : Name) (at : InLines work lines) where
    -- a mark that is filed no more, whose line it has left
    pub removed : (new : IndexMap Errand NameSet S) (o : Errand) → Some o ≡ map.get work m → SetsLine lines new o (set.remove (line_of lines o) m) → InLines (map.remove work m) new
    removed new o is sets = record { at = λ f q. ap (λ s. set.contains s q) (sets.at f) ∙ by_case f q (same_errand o f) refl (same_name q m) refl ∙ ap (λ p. is_filed p f) (sym (get-cut work m q)) }
      where
        by_case : (f : Errand) (q : Name) (s : Bool) → same_errand o f ≡ s → (t : Bool) → same_name q m ≡ t
            → set.contains (cond s (set.remove (line_of lines o) m) (line_of lines f)) q ≡ is_filed (cond (same_name q m) None (map.get work q)) f
        by_case f q true s true t = born_remove (line_of lines o) m q ∙ rw t refl
        by_case f q true s false t = born_remove (line_of lines o) m q ∙ rw (t, ← same_errand-is o f s) (at.at o q)
        by_case f q false s true t = at.at f q ∙ rw (t, at_name work m q (Some o) (sym is) t) s
        by_case f q false s false t = at.at f q ∙ rw t refl

    pub removed_none : None ≡ map.get work m → InLines (map.remove work m) lines
    removed_none none = record { at = λ f q. at.at f q ∙ ap (λ (w : Work). is_filed (map.get w q) f) (sym (cut_absent work m (sym none))) }

  filed_there : (lines : IndexMap Errand NameSet S) → InLines work lines → (e : Errand) (q : Name) → IsTrue (member lines e q) → map.get work q ≡ Some e
  filed_there lines at e q h = by_case (map.get work q) (sym (at.at e q) ∙ h)
    where
      by_case : (o : Option Errand) → is_filed o e ≡ true → o ≡ Some e
      by_case None is = absurd (true_false (sym is))
      by_case (Some f) is = ap Some (same_errand-is f e is)

  member_there : (lines : IndexMap Errand NameSet S) → InLines work lines → (e : Errand) (q : Name) → map.get work q ≡ Some e → member lines e q ≡ true
  member_there lines at e q is = at.at e q ∙ ap (λ o. is_filed o e) is ∙ same_errand-itself e

-- a set that has some is not without members
some_member : (s : NameSet) → has_some s ≡ true → ((q : Name) → set.contains s q ≡ true → ⊥) → ⊥
some_member s some none = true_false (sym some ∙ ap has_some (same_names s set.empty (λ q. by_case q (set.contains s q) refl ∙ sym (contains-none q))) ∙ some-empty)
  where
    by_case : (q : Name) (t : Bool) → set.contains s q ≡ t → set.contains s q ≡ false
    by_case q true h = absurd (none q h)
    by_case q false h = h

module _ {S V R : Type 0} (work : Work) (lines : IndexMap Errand NameSet S) (busy : IndexMap Meeting V R) (at : InLines work lines) (met : BusyAt lines busy) where
  -- where nothing is due, nothing is ready
  pub nothing_ready : NoneDue lines busy → NothingReady work
  nothing_ready none = record {
    alone = λ q is. true_false (sym (some_of_member (line_of lines Acts) q (member_there work lines at Acts q is)) ∙ none.none_alone);
    apart = λ i o meet. true_false (sym (both i o meet) ∙ sym (met.at meet.meeting) ∙ ap (λ (ks : List (Meeting × V)). is_some (lookup (same_meeting meet.meeting) ks)) none.none_busy);
  }
    where
      both : (i o : Name) (meet : Meet work i o) → has_both lines meet.meeting ≡ true
      both i o meet =
          let t = some_of_member (line_of lines (Takes meet.meeting)) i (member_there work lines at (Takes meet.meeting) i meet.takes) in
          let g = some_of_member (line_of lines (Gives meet.meeting)) o (member_there work lines at (Gives meet.meeting) o meet.gives) in
          λ j. t j && g j

  pub none_due : NothingReady work → NoneDue lines busy
  none_due nothing = record { none_alone = no_alone (has_some (line_of lines Acts)) refl; none_busy = no_busy busy.entries refl }
    where
      no_alone : (t : Bool) → has_some (line_of lines Acts) ≡ t → has_some (line_of lines Acts) ≡ false
      no_alone true h = absurd (some_member (line_of lines Acts) h λ q is. nothing.alone q (filed_there work lines at Acts q is))
      no_alone false h = h

      meets_none : (k : Meeting) → has_both lines k ≡ true → ⊥
      meets_none k h = let p = and-out (has_some (line_of lines (Takes k))) (has_some (line_of lines (Gives k))) h in
          some_member (line_of lines (Takes k)) p.0 λ i takes. some_member (line_of lines (Gives k)) p.1 λ o gives.
          nothing.apart i o (record { meeting = k; takes = filed_there work lines at (Takes k) i takes; gives = filed_there work lines at (Gives k) o gives })

      no_busy : (ks : List (Meeting × V)) → busy.entries ≡ ks → busy.entries ≡ []
      no_busy [] h = h
      no_busy (k ∷ ks) h = absurd (meets_none k.0 (sym (met.at k.0) ∙ ap (λ js. is_some (lookup (same_meeting k.0) js)) h ∙ first_found k ks))

-- nothing is filed where there are no lines
pub in_no_lines : {S : Type 0} (work : Work) (lines : IndexMap Errand NameSet S) → work ≡ map.empty → ((e : Errand) → line_of lines e ≡ set.empty) → InLines work lines
in_no_lines work lines none empty = record {
  at = λ e q.
      ap (λ s. set.contains s q) (empty e) ∙ contains-none q ∙ sym (ap (λ (w : Work). is_filed (map.get w q) e) none ∙ ap (λ o. is_filed o e) (get-none q));
}
