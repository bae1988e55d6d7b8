-- How the lists change where a mark comes under an errand or leaves it.
use Rattle.std.proofs.Common.{◌≡◌, Bool, true, false, cond, not, ◌&&◌, is_some, List, [], ◌∷◌, Option, None, Some, Result, Ok, Err, refl, sym, ap, ◌∙◌}
use Rattle.std.specs.Prelude.{OnOk}
use Rattle.std.specs.FinMap as map
use Rattle.np_syntax.specs.declared.value.Name.{Name}
use Rattle.np_syntax.proofs.Bools.{and-true, and-false}
use Rattle.np_tables.specs.Names.{same_name}
use Rattle.np_tables.specs.declared.errand.Meeting.{Meeting}
use Rattle.np_tables.specs.declared.errand.Errand.{Errand}
use Rattle.np_tables.specs.declared.errand.Errand.TheVariants as errand
use Rattle.np_tables.specs.Errands.{Work, is_filed, same_errand, same_meeting}
use Rattle.np_tables.proofs.Keyed.{alike-same}
use Rattle.np_tables.proofs.LineLaws.{same_errand-is, same_errand-itself, same_meeting-is}
use Rattle.np_tables.proofs.Tables.{get-none, get-put, get-cut, same_name-is, same_name-itself, same_name-swap}
use Rattle.np_configuration.specs.Placed.{travels}
use Rattle.np_calculus.specs.Config.{Config}
use Rattle.choice_entries.specs.declared.entry.Entry.{Entry}
use Rattle.choice_entries.specs.declared.entry.Entry.TheVariants as entry
use Rattle.run_choices.specs.Choices.{errand_in}
use Rattle.run_choices.specs.Held.{Agrees, InStep}
use Rattle.run_choices.specs.Lines.{InLines, Line, Moves, SameComing, SetsEntry, alike, closed_by, has, has_both, has_some, is_one, meeting_if, opened_by, stands}

pub turned : (q k : Name) → alike q k ≡ same_name k q
turned q k = alike-same q k ∙ same_name-swap q k

pub alike-itself : (q : Name) → alike q q ≡ true
alike-itself q = alike-same q q ∙ same_name-itself q

-- ---- lines

pub some-has : (ks : List Name) (q : Name) → has ks q ≡ true → has_some ks ≡ true
some-has [] q h = h
some-has (k ∷ ks) q h = refl

pub none-has : (ks : List Name) → has_some ks ≡ false → ks ≡ []
none-has [] h = refl
none-has (k ∷ ks) h = absurd cc

module _ (work : Work) (old new : Line) (e : Errand) (q : Name) where
  entered : map.get work q ≡ None → InLines work old → Moves old new e q true → InLines (map.insert work q e) new
  entered none at m = record { at = λ f k. ap (λ l. has l k) (m.lines f) ∙ by_case f k (same_errand e f) refl (same_name k q) refl ∙ ap (λ o. is_filed o f) (sym (get-put work q e k)) }
    where
      by_case : (f : Errand) (k : Name) (s : Bool) → same_errand e f ≡ s → (t : Bool) → same_name k q ≡ t → has (cond s m.line (old f)) k ≡ is_filed (cond t (Some e) (map.get work k)) f
      by_case f k true is true t = m.moved.at k ∙ ap (λ b. cond b true (has (old e) k)) (turned q k ∙ t) ∙ sym is
      by_case f k true is false t = m.moved.at k ∙ ap (λ b. cond b true (has (old e) k)) (turned q k ∙ t) ∙ at.at e k ∙ ap (is_filed (map.get work k)) (same_errand-is e f is)
      by_case f k false is true t = at.at f k ∙ ap (λ o. is_filed o f) (ap (map.get work) (same_name-is k q t) ∙ none) ∙ sym is
      by_case f k false is false t = at.at f k

  left : map.get work q ≡ Some e → InLines work old → Moves old new e q false → InLines (map.remove work q) new
  left some at m = record { at = λ f k. ap (λ l. has l k) (m.lines f) ∙ by_case f k (same_errand e f) refl (same_name k q) refl ∙ ap (λ o. is_filed o f) (sym (get-cut work q k)) }
    where
      by_case : (f : Errand) (k : Name) (s : Bool) → same_errand e f ≡ s → (t : Bool) → same_name k q ≡ t → has (cond s m.line (old f)) k ≡ is_filed (cond t None (map.get work k)) f
      by_case f k true is true t = m.moved.at k ∙ ap (λ b. cond b false (has (old e) k)) (turned q k ∙ t)
      by_case f k true is false t = m.moved.at k ∙ ap (λ b. cond b false (has (old e) k)) (turned q k ∙ t) ∙ at.at e k ∙ ap (is_filed (map.get work k)) (same_errand-is e f is)
      by_case f k false is true t = at.at f k ∙ ap (λ o. is_filed o f) (ap (map.get work) (same_name-is k q t) ∙ some) ∙ is
      by_case f k false is false t = at.at f k

-- ---- entries

if_alone : (b : Bool) (x : Meeting) (m : Name) → is_one (meeting_if b x) (entry.Acts m) ≡ false
if_alone true x m = refl
if_alone false x m = refl

if_busy : (b : Bool) (x k : Meeting) → is_one (meeting_if b x) (entry.Meets k) ≡ (b && same_meeting x k)
if_busy true x k = refl
if_busy false x k = refl

one_alone : (line : Line) (q : Name) (e : Errand) (m : Name) → is_one (opened_by line q e) (entry.Acts m) ≡ (same_errand e errand.Acts && alike q m)
one_alone line q errand.Acts m = refl
one_alone line q (errand.Gives x) m = if_alone (has_some (line (errand.Takes x))) x m
one_alone line q (errand.Takes x) m = if_alone (has_some (line (errand.Gives x))) x m
one_alone line q errand.Stuck m = refl

gone_alone : (others : Bool) (q : Name) (e : Errand) (m : Name) → is_one (closed_by q e others) (entry.Acts m) ≡ (same_errand e errand.Acts && alike q m)
gone_alone others q errand.Acts m = refl
gone_alone others q (errand.Gives x) m = if_alone (not others) x m
gone_alone others q (errand.Takes x) m = if_alone (not others) x m
gone_alone others q errand.Stuck m = refl

and_swap : (a b : Bool) → (a && b) ≡ (b && a)
and_swap true b = sym (and-true b)
and_swap false b = sym (and-false b)

opens : (b s y x p q : Bool) → (s ≡ true → p ≡ true) → (s ≡ false → p ≡ y) → q ≡ x → (s ≡ true → b ≡ q) → cond (b && s) true (y && x) ≡ (p && q)
opens true true y x p q moved away stays at = at refl ∙ ap (λ t. t && q) (sym (moved refl))
opens false true y x p q moved away stays at = ap (λ t. y && t) (sym stays ∙ sym (at refl)) ∙ and-false y ∙ sym (and-false p) ∙ ap (λ t. p && t) (at refl)
opens true false y x p q moved away stays at = ap (λ t. t && x) (sym (away refl)) ∙ ap (λ t. p && t) (sym stays)
opens false false y x p q moved away stays at = ap (λ t. t && x) (sym (away refl)) ∙ ap (λ t. p && t) (sym stays)

shuts : (o s y x p q : Bool) → (s ≡ true → p ≡ o) → (s ≡ true → y ≡ true) → (s ≡ false → p ≡ y) → q ≡ x → cond (not o && s) false (y && x) ≡ (p && q)
shuts true true y x p q moved was away stays = ap (λ t. t && x) (was refl ∙ sym (moved refl)) ∙ ap (λ t. p && t) (sym stays)
shuts false true y x p q moved was away stays = ap (λ t. t && q) (sym (moved refl))
shuts true false y x p q moved was away stays = ap (λ t. t && x) (sym (away refl)) ∙ ap (λ t. p && t) (sym stays)
shuts false false y x p q moved was away stays = ap (λ t. t && x) (sym (away refl)) ∙ ap (λ t. p && t) (sym stays)

both_same : (old new : Line) (k : Meeting) → new (errand.Takes k) ≡ old (errand.Takes k) → new (errand.Gives k) ≡ old (errand.Gives k) → has_both old k ≡ has_both new k
both_same old new k t g = ap (λ l. has_some l && has_some (old (errand.Gives k))) (sym t) ∙ ap (λ l. has_some (new (errand.Takes k)) && has_some l) (sym g)

module _ (old new : Line) (q : Name) (k : Meeting) where
  busy_opened : (e : Errand) (line : List Name) → has_some line ≡ true → ((f : Errand) → new f ≡ cond (same_errand e f) line (old f))
      → cond (is_one (opened_by new q e) (entry.Meets k)) true (has_both old k) ≡ has_both new k
  busy_opened errand.Acts line some is = both_same old new k (is (errand.Takes k)) (is (errand.Gives k))
  busy_opened (errand.Takes x) line some is =
      ap (λ b. cond b true (has_both old k)) (if_busy (has_some (new (errand.Gives x))) x k)
      ∙ opens (has_some (new (errand.Gives x))) (same_meeting x k) (has_some (old (errand.Takes k))) (has_some (old (errand.Gives k))) (has_some (new (errand.Takes k))) (has_some (new (errand.Gives k)))
      (λ s. ap has_some (is (errand.Takes k) ∙ ap (λ b. cond b line (old (errand.Takes k))) s) ∙ some)
      (λ s. ap has_some (is (errand.Takes k) ∙ ap (λ b. cond b line (old (errand.Takes k))) s))
      (ap has_some (is (errand.Gives k)))
      (λ s. ap (λ j. has_some (new (errand.Gives j))) (same_meeting-is x k s))
  busy_opened (errand.Gives x) line some is =
      ap (λ b. cond b true (has_both old k)) (if_busy (has_some (new (errand.Takes x))) x k)
      ∙ ap (λ b. cond (has_some (new (errand.Takes x)) && same_meeting x k) true b) (and_swap (has_some (old (errand.Takes k))) (has_some (old (errand.Gives k))))
      ∙ opens (has_some (new (errand.Takes x))) (same_meeting x k) (has_some (old (errand.Gives k))) (has_some (old (errand.Takes k))) (has_some (new (errand.Gives k))) (has_some (new (errand.Takes k)))
      (λ s. ap has_some (is (errand.Gives k) ∙ ap (λ b. cond b line (old (errand.Gives k))) s) ∙ some)
      (λ s. ap has_some (is (errand.Gives k) ∙ ap (λ b. cond b line (old (errand.Gives k))) s))
      (ap has_some (is (errand.Takes k)))
      (λ s. ap (λ j. has_some (new (errand.Takes j))) (same_meeting-is x k s))
      ∙ and_swap (has_some (new (errand.Gives k))) (has_some (new (errand.Takes k)))
  busy_opened errand.Stuck line some is = both_same old new k (is (errand.Takes k)) (is (errand.Gives k))

  busy_closed : (e : Errand) (line : List Name) → has_some (old e) ≡ true → ((f : Errand) → new f ≡ cond (same_errand e f) line (old f))
      → cond (is_one (closed_by q e (has_some (new e))) (entry.Meets k)) false (has_both old k) ≡ has_both new k
  busy_closed errand.Acts line was is = both_same old new k (is (errand.Takes k)) (is (errand.Gives k))
  busy_closed (errand.Takes x) line was is =
      ap (λ b. cond b false (has_both old k)) (if_busy (not (has_some (new (errand.Takes x)))) x k)
      ∙ shuts (has_some (new (errand.Takes x))) (same_meeting x k) (has_some (old (errand.Takes k))) (has_some (old (errand.Gives k))) (has_some (new (errand.Takes k))) (has_some (new (errand.Gives k)))
      (λ s. ap (λ j. has_some (new (errand.Takes j))) (sym (same_meeting-is x k s)))
      (λ s. ap (λ j. has_some (old (errand.Takes j))) (sym (same_meeting-is x k s)) ∙ was)
      (λ s. ap has_some (is (errand.Takes k) ∙ ap (λ b. cond b line (old (errand.Takes k))) s))
      (ap has_some (is (errand.Gives k)))
  busy_closed (errand.Gives x) line was is =
      ap (λ b. cond b false (has_both old k)) (if_busy (not (has_some (new (errand.Gives x)))) x k)
      ∙ ap (λ b. cond (not (has_some (new (errand.Gives x))) && same_meeting x k) false b) (and_swap (has_some (old (errand.Takes k))) (has_some (old (errand.Gives k))))
      ∙ shuts (has_some (new (errand.Gives x))) (same_meeting x k) (has_some (old (errand.Gives k))) (has_some (old (errand.Takes k))) (has_some (new (errand.Gives k))) (has_some (new (errand.Takes k)))
      (λ s. ap (λ j. has_some (new (errand.Gives j))) (sym (same_meeting-is x k s)))
      (λ s. ap (λ j. has_some (old (errand.Gives j))) (sym (same_meeting-is x k s)) ∙ was)
      (λ s. ap has_some (is (errand.Gives k) ∙ ap (λ b. cond b line (old (errand.Gives k))) s))
      (ap has_some (is (errand.Takes k)))
      ∙ and_swap (has_some (new (errand.Gives k))) (has_some (new (errand.Takes k)))
  busy_closed errand.Stuck line was is = both_same old new k (is (errand.Takes k)) (is (errand.Gives k))

put_alone : (s : Bool) → cond (s && true) true false ≡ s
put_alone true = refl
put_alone false = refl

cut_alone : (s : Bool) → cond (s && true) false s ≡ false
cut_alone true = refl
cut_alone false = refl

else_alone : (s b x : Bool) → cond (s && false) b x ≡ x
else_alone true b x = refl
else_alone false b x = refl

module _ (work : Work) (old new : Line) (list after : List Entry) (e : Errand) (q : Name) (s : InStep (record { work = work; line = old; list = list })) where
  -- an atom has come under a mark under which none stood
  pub filed-step : map.get work q ≡ None → Moves old new e q true → SetsEntry list after (opened_by new q e) true → InStep (record { work = map.insert work q e; line = new; list = after })
  filed-step none m sets = record {
    in_lines = entered work old new e q none s.in_lines m;
    alone = λ k.
        sets.at (entry.Acts k) ∙ ap (λ b. cond b true (stands list (entry.Acts k))) (one_alone new q e k)
        ∙ ap (λ b. cond (same_errand e errand.Acts && alike q k) true b) (s.alone k)
        ∙ by_case k (same_name k q) refl ∙ ap (λ o. is_filed o errand.Acts) (sym (get-put work q e k));
    busy = λ k.
        sets.at (entry.Meets k) ∙ ap (λ b. cond (is_one (opened_by new q e) (entry.Meets k)) true b) (s.busy k)
        ∙ busy_opened old new q k e m.line (some-has m.line q (m.moved.at q ∙ ap (λ b. cond b true (has (old e) q)) (alike-itself q))) m.lines;
  }
    where
      by_case : (k : Name) (t : Bool) → same_name k q ≡ t → cond (same_errand e errand.Acts && alike q k) true (is_filed (map.get work k) errand.Acts) ≡ is_filed (cond t (Some e) (map.get work k)) errand.Acts
      by_case k true t =
          ap (λ b. cond (same_errand e errand.Acts && b) true (is_filed (map.get work k) errand.Acts)) (turned q k ∙ t)
          ∙ ap (λ o. cond (same_errand e errand.Acts && true) true (is_filed o errand.Acts)) (ap (map.get work) (same_name-is k q t) ∙ none)
          ∙ put_alone (same_errand e errand.Acts)
      by_case k false t = ap (λ b. cond (same_errand e errand.Acts && b) true (is_filed (map.get work k) errand.Acts)) (turned q k ∙ t) ∙ else_alone (same_errand e errand.Acts) true _

  -- the atom of a mark has gone
  pub unfiled-step : map.get work q ≡ Some e → Moves old new e q false → (others : Bool) → others ≡ has_some (new e) → SetsEntry list after (closed_by q e others) false
      → InStep (record { work = map.remove work q; line = new; list = after })
  unfiled-step some m others are sets = record {
    in_lines = left work old new e q some s.in_lines m;
    alone = λ k.
        sets.at (entry.Acts k) ∙ ap (λ b. cond b false (stands list (entry.Acts k))) (gone_alone others q e k)
        ∙ ap (λ b. cond (same_errand e errand.Acts && alike q k) false b) (s.alone k)
        ∙ by_case k (same_name k q) refl ∙ ap (λ o. is_filed o errand.Acts) (sym (get-cut work q k));
    busy = λ k.
        sets.at (entry.Meets k) ∙ ap (λ b. cond (is_one (closed_by q e others) (entry.Meets k)) false b) (s.busy k)
        ∙ ap (λ b. cond (is_one (closed_by q e b) (entry.Meets k)) false (has_both old k)) are
        ∙ busy_closed old new q k e m.line (some-has (old e) q (s.in_lines.at e q ∙ ap (λ o. is_filed o e) some ∙ same_errand-itself e)) m.lines;
  }
    where
      by_case : (k : Name) (t : Bool) → same_name k q ≡ t → cond (same_errand e errand.Acts && alike q k) false (is_filed (map.get work k) errand.Acts) ≡ is_filed (cond t None (map.get work k)) errand.Acts
      by_case k true t =
          ap (λ b. cond (same_errand e errand.Acts && b) false (is_filed (map.get work k) errand.Acts)) (turned q k ∙ t)
          ∙ ap (λ o. cond (same_errand e errand.Acts && true) false (is_filed o errand.Acts)) (ap (map.get work) (same_name-is k q t) ∙ some)
          ∙ cut_alone (same_errand e errand.Acts)
      by_case k false t = ap (λ b. cond (same_errand e errand.Acts && b) false (is_filed (map.get work k) errand.Acts)) (turned q k ∙ t) ∙ else_alone (same_errand e errand.Acts) false _

-- ---- what comes is an entry as before

same_coming : (list after : List Entry) (o : Option Entry) (b : Bool) → ((k : Name) → is_one o (entry.Lands k) ≡ false) → ((k : Name) → is_one o (entry.Arrives k) ≡ false) → SetsEntry list after o b → SameComing list after
same_coming list after o b lands arrives sets = record {
  lands = λ k. sets.at (entry.Lands k) ∙ ap (λ t. cond t b (stands list (entry.Lands k))) (lands k);
  arrives = λ k. sets.at (entry.Arrives k) ∙ ap (λ t. cond t b (stands list (entry.Arrives k))) (arrives k);
}

if_lands : (b : Bool) (x : Meeting) (m : Name) → is_one (meeting_if b x) (entry.Lands m) ≡ false
if_lands true x m = refl
if_lands false x m = refl

if_arrives : (b : Bool) (x : Meeting) (m : Name) → is_one (meeting_if b x) (entry.Arrives m) ≡ false
if_arrives true x m = refl
if_arrives false x m = refl

pub opened-coming : (list after : List Entry) (line : Line) (q : Name) (e : Errand) → SetsEntry list after (opened_by line q e) true → SameComing list after
opened-coming list after line q e = same_coming list after (opened_by line q e) true (lands e) (arrives e)
  where
    lands : (e : Errand) (k : Name) → is_one (opened_by line q e) (entry.Lands k) ≡ false
    lands errand.Acts k = refl
    lands (errand.Gives x) k = if_lands (has_some (line (errand.Takes x))) x k
    lands (errand.Takes x) k = if_lands (has_some (line (errand.Gives x))) x k
    lands errand.Stuck k = refl

    arrives : (e : Errand) (k : Name) → is_one (opened_by line q e) (entry.Arrives k) ≡ false
    arrives errand.Acts k = refl
    arrives (errand.Gives x) k = if_arrives (has_some (line (errand.Takes x))) x k
    arrives (errand.Takes x) k = if_arrives (has_some (line (errand.Gives x))) x k
    arrives errand.Stuck k = refl

pub closed-coming : (list after : List Entry) (q : Name) (e : Errand) (others : Bool) → SetsEntry list after (closed_by q e others) false → SameComing list after
closed-coming list after q e others = same_coming list after (closed_by q e others) false (lands e) (arrives e)
  where
    lands : (e : Errand) (k : Name) → is_one (closed_by q e others) (entry.Lands k) ≡ false
    lands errand.Acts k = refl
    lands (errand.Gives x) k = if_lands (not others) x k
    lands (errand.Takes x) k = if_lands (not others) x k
    lands errand.Stuck k = refl

    arrives : (e : Errand) (k : Name) → is_one (closed_by q e others) (entry.Arrives k) ≡ false
    arrives errand.Acts k = refl
    arrives (errand.Gives x) k = if_arrives (not others) x k
    arrives (errand.Takes x) k = if_arrives (not others) x k
    arrives errand.Stuck k = refl

pub coming_on : (a b c : List Entry) → SameComing a b → SameComing b c → SameComing a c
coming_on a b c f g = record { lands = λ k. g.lands k ∙ f.lands k; arrives = λ k. g.arrives k ∙ f.arrives k }

-- ---- a name that is listed anew

module _ (c : Config) (name : Name) (work work' : Work) (line line' : Line) (l0 l1 l2 l3 : List Entry) (flies way : Bool)
    (filed : (q : Name) → map.get work' q ≡ cond (same_name q name) (errand_in c name) (map.get work q)) (coming : SameComing l0 l1)
    (one : SetsEntry l1 l2 (Some (entry.Lands name)) flies) (flies_is : flies ≡ is_some (map.get c.packets name))
    (two : SetsEntry l2 l3 (Some (entry.Arrives name)) way) (way_is : way ≡ travels (map.get c.places name)) where
  agrees_by : (k : Name) (t : Bool) → same_name k name ≡ t → (t ≡ false → Agrees c (record { work = work; line = line; list = l0 }) k) → Agrees c (record { work = work'; line = line'; list = l3 }) k
  agrees_by k true t old = record {
    filed = filed k ∙ ap (λ b. cond b (errand_in c name) (map.get work k)) t ∙ ap (errand_in c) (sym (same_name-is k name t));
    lands =
        two.at (entry.Lands k) ∙ one.at (entry.Lands k) ∙ ap (λ b. cond b flies (stands l1 (entry.Lands k))) (turned name k ∙ t) ∙ flies_is
        ∙ ap (λ n. is_some (map.get c.packets n)) (sym (same_name-is k name t));
    arrives =
        two.at (entry.Arrives k) ∙ ap (λ b. cond b way (stands l2 (entry.Arrives k))) (turned name k ∙ t) ∙ way_is
        ∙ ap (λ n. travels (map.get c.places n)) (sym (same_name-is k name t));
  }
  agrees_by k false t old = record {
    filed = filed k ∙ ap (λ b. cond b (errand_in c name) (map.get work k)) t ∙ (old refl).filed;
    lands = two.at (entry.Lands k) ∙ one.at (entry.Lands k) ∙ ap (λ b. cond b flies (stands l1 (entry.Lands k))) (turned name k ∙ t) ∙ coming.lands k ∙ (old refl).lands;
    arrives = two.at (entry.Arrives k) ∙ ap (λ b. cond b way (stands l2 (entry.Arrives k))) (turned name k ∙ t) ∙ one.at (entry.Arrives k) ∙ coming.arrives k ∙ (old refl).arrives;
  }

  pub refreshed-here : Agrees c (record { work = work'; line = line'; list = l3 }) name
  refreshed-here = agrees_by name true (same_name-itself name) (λ f. absurd cc)

  pub refreshed-kept : (k : Name) → Agrees c (record { work = work; line = line; list = l0 }) k → Agrees c (record { work = work'; line = line'; list = l3 }) k
  refreshed-kept k old = agrees_by k (same_name k name) refl (λ f. old)

-- the lists stay in step where something that comes is an entry or is none
pub lands-step : (work : Work) (line : Line) (list after : List Entry) (q : Name) (b : Bool) → InStep (record { work = work; line = line; list = list }) → SetsEntry list after (Some (entry.Lands q)) b
    → InStep (record { work = work; line = line; list = after })
lands-step work line list after q b s sets = record { in_lines = s.in_lines; alone = λ m. sets.at (entry.Acts m) ∙ s.alone m; busy = λ k. sets.at (entry.Meets k) ∙ s.busy k }

pub arrives-step : (work : Work) (line : Line) (list after : List Entry) (q : Name) (b : Bool) → InStep (record { work = work; line = line; list = list }) → SetsEntry list after (Some (entry.Arrives q)) b
    → InStep (record { work = work; line = line; list = after })
arrives-step work line list after q b s sets = record { in_lines = s.in_lines; alone = λ m. sets.at (entry.Acts m) ∙ s.alone m; busy = λ k. sets.at (entry.Meets k) ∙ s.busy k }

-- nothing is filed, and nothing is listed
pub none-step : (line : Line) (list : List Entry) → ((e : Errand) → line e ≡ []) → list ≡ [] → InStep (record { work = map.empty; line = line; list = list })
none-step line list none empty = record {
  in_lines = record { at = λ e q. ap (λ l. has l q) (none e) ∙ ap (λ o. is_filed o e) (sym (get-none q)) };
  alone = λ m. ap (λ xs. stands xs (entry.Acts m)) empty ∙ ap (λ o. is_filed o errand.Acts) (sym (get-none m));
  busy = λ k. ap (λ xs. stands xs (entry.Meets k)) empty ∙ ap (λ l. has_some l && has_some (line (errand.Gives k))) (sym (none (errand.Takes k)));
}

-- ---- a mark that is filed anew

refile : (t : Bool) (o : Option Errand) (x : Option Errand) → cond t o (cond t None x) ≡ cond t o x
refile true o x = refl
refile false o x = refl

pub unfiled-there : (work mid : Work) (m : Name) → mid ≡ map.remove work m → map.get mid m ≡ None
unfiled-there work mid m out = ap (λ w. map.get w m) out ∙ get-cut work m m ∙ ap (λ t. cond t None (map.get work m)) (same_name-itself m)

pub refiled-some : (work mid after : Work) (m : Name) (o : Option Errand) (e : Errand) → o ≡ Some e → mid ≡ map.remove work m → after ≡ map.insert mid m e → (q : Name)
    → map.get after q ≡ cond (same_name q m) o (map.get work q)
refiled-some work mid after m o e is out back q =
    ap (λ w. map.get w q) back ∙ get-put mid m e q
    ∙ ap (cond (same_name q m) (Some e)) (ap (λ w. map.get w q) out ∙ get-cut work m q)
    ∙ refile (same_name q m) (Some e) (map.get work q)
    ∙ ap (λ o. cond (same_name q m) o (map.get work q)) (sym is)

pub refiled-none : (work mid : Work) (m : Name) (o : Option Errand) → o ≡ None → mid ≡ map.remove work m → (q : Name) → map.get mid q ≡ cond (same_name q m) o (map.get work q)
refiled-none work mid m o is out q = ap (λ w. map.get w q) out ∙ get-cut work m q ∙ ap (λ o. cond (same_name q m) o (map.get work q)) (sym is)

pub on-ok : {A E P : Type 0} (r : Result A E) → P → OnOk r P
on-ok (Ok a) p = p
on-ok (Err e) p = tt
