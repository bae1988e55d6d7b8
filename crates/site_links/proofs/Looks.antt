-- One look for an item after another.
use Rattle.std.proofs.Common.{◌≡◌, ◌≢◌, ℕ, ◌+◌, ◌<◌, List, [], ◌∷◌, ◌++◌, refl, sym, ◌∙◌, ap, subst, arith, inl, inr, Option, Some, None, MatchOption, Bool, true, false, not, ◌↔◌, IsTrue}
use Rattle.std.proofs.lemmas.Option.{slice_get_within, slice_get_past}
use Rattle.std.proofs.lemmas.Bool.{cases_lt, not-true}
use Rattle.std.proofs.lemmas.Bool.Decides.{eqb_tells}
use Rattle.site_links.specs.Words.{Stays, Begins, only_at, Takes}
use Rattle.site_links.specs.Seats.{read, among_of, got_at, known_at, Looked, Took, KeepsPort, sent_at, room_at}
use Rattle.site_links.specs.declared.ends.Ends as Ends
use Rattle.site_links.specs.declared.port_of.PortOf.{PortOf}
use Rattle.site_links.proofs.Kept.{Keeps-refl, Keeps-trans, Begins-same, Begins-trans, Begins-empty}
use Rattle.site_links.proofs.Changed.{Changes, keeps_changed, same_everywhere, same_elsewhere, read_new, read_old, more_at}

module _ {E I : Type 0} (g : Ends.Ghosts E I) where
  pub took_changed : (a b : PortOf E) (i : ℕ) (x y : E) (item : I) → Changes a b i x y → Stays g.meets x y → (g.sent y ≡ g.sent x) × (g.room y ≡ g.room x)
      → (g.got y ≡ g.got x ++ item ∷ []) × Begins (item ∷ g.known y) (g.known x) → Took g a b i item
  took_changed a b i x y item h stays putting taken = record {
    within = slice_get_within a.ends.items i x h.was;
    keeps = keeps_changed g a b i x y h stays;
    sent_same = same_everywhere g a b i x y h g.sent [] putting.0;
    room_same = same_everywhere g a b i x y h g.room 0 putting.1;
    takes = record {
      taken = more_at g a b i x y h g.got item taken.0;
      first = rw (read_new g a b i x y h g.known [], read_old g a b i x y h g.known []) taken.1;
      others = λ k n. Begins-same (known_at g a k) (known_at g b k) (same_elsewhere g a b i x y h g.known [] k n);
    };
  }

  not_both : {b : Bool} → b ≡ true → b ≡ false → ⊥
  not_both e f = grind arith

  -- what is known there now begins with what was known
  known_grew : (a b : PortOf E) (i : ℕ) (x y : E) → Changes a b i x y → Begins (g.known y) (g.known x) → (k : ℕ) → Begins (known_at g b k) (known_at g a k)
  known_grew a b i x y h begins k =
      elim (eqb_tells k i) [
        | inl w ↦ subst (λ (m : ℕ). Begins (known_at g b m) (known_at g a m)) (sym w.1) (rw (read_new g a b i x y h g.known [], read_old g a b i x y h g.known []) begins)
        | inr w ↦ Begins-same (known_at g a k) (known_at g b k) (same_elsewhere g a b i x y h g.known [] k w.1)
      ]

  -- a look at one site that tells that something is there
  pub looked_at : (a b : PortOf E) (i : ℕ) (x y : E) → Changes a b i x y → Stays g.meets x y → (g.sent y ≡ g.sent x) × (g.room y ≡ g.room x)
      → (g.got y ≡ g.got x) × Begins (g.known y) (g.known x) → Looked g i i a b
  looked_at a b i x y h stays putting taking = record {
    keeps = keeps_changed g a b i x y h stays;
    sent_same = same_everywhere g a b i x y h g.sent [] putting.0;
    room_same = same_everywhere g a b i x y h g.room 0 putting.1;
    got_same = same_everywhere g a b i x y h g.got [] taking.0;
    known_begins = known_grew a b i x y h taking.1;
    none_known = λ k lo hi. absurd (omega arith);
  }

  -- and one that tells that nothing is there
  pub looked_past : (a b : PortOf E) (i : ℕ) (x y : E) → Changes a b i x y → Stays g.meets x y → (g.sent y ≡ g.sent x) × (g.room y ≡ g.room x)
      → (g.got y ≡ g.got x) × Begins (g.known y) (g.known x) → g.known y ≡ [] → Looked g i (i + 1) a b
  looked_past a b i x y h stays putting taking empty =
      let l = looked_at a b i x y h stays putting taking in
      let none : g.known x ≡ [] = Begins-empty (g.known x) (subst (λ (v : List I). Begins v (g.known x)) empty taking.1) in
      record {
        keeps = l.keeps;
        sent_same = l.sent_same;
        room_same = l.room_same;
        got_same = l.got_same;
        known_begins = l.known_begins;
        none_known = λ k lo hi. let is : k ≡ i = omega arith in subst (λ (m : ℕ). known_at g a m ≡ []) (sym is) (read_old g a b i x y h g.known [] ∙ none);
      }

  -- where the ends of a site are not empty, an item is known there
  pub there_is : (a b : PortOf E) (i : ℕ) (x y : E) {empty : Bool} → Changes a b i x y → IsTrue empty ↔ (g.known y ≡ []) → not empty ≡ true → known_at g b i ≢ []
  there_is a b i x y {empty} h told full none = not_both (told.1 (sym (read_new g a b i x y h g.known []) ∙ none)) (not-true empty full)

  pub take_changed : (a b : PortOf E) (i : ℕ) (x y : E) (result : Option I) → Changes a b i x y → Stays g.meets x y → (g.sent y ≡ g.sent x) × (g.room y ≡ g.room x)
      → MatchOption result ((g.got y ≡ g.got x) × (g.known x ≡ []) × (g.known y ≡ [])) (λ item. (g.got y ≡ g.got x ++ item ∷ []) × Begins (item ∷ g.known y) (g.known x))
      → MatchOption result (known_at g a i ≡ []) (λ item. Took g a b i item)
  take_changed a b i x y None h stays putting taken = read_old g a b i x y h g.known [] ∙ taken.1
  take_changed a b i x y (Some item) h stays putting taken = took_changed a b i x y item h stays putting taken

  pub Looked-none : (lo : ℕ) (a : PortOf E) → Looked g lo lo a a
  Looked-none lo a = record {
    keeps = Keeps-refl a;
    sent_same = λ j. refl;
    room_same = λ j. refl;
    got_same = λ j. refl;
    known_begins = λ j. Begins-same _ _ refl;
    none_known = λ j l u. absurd (omega arith);
  }

  -- what is not known after a look was not known before it
  none_before : {lo hi : ℕ} {a b : PortOf E} → Looked g lo hi a b → (k : ℕ) → known_at g b k ≡ [] → known_at g a k ≡ []
  none_before {lo} {hi} {a} {b} h k none = Begins-empty (known_at g a k) (subst (λ (v : List I). Begins v (known_at g a k)) none (h.known_begins k))

  pub Looked-trans : {lo mid hi : ℕ} {a b c : PortOf E} → Looked g lo mid a b → Looked g mid hi b c → Looked g lo hi a c
  Looked-trans {lo} {mid} {hi} {a} {b} {c} h k = record {
    keeps = Keeps-trans h.keeps k.keeps;
    sent_same = λ j. k.sent_same j ∙ h.sent_same j;
    room_same = λ j. k.room_same j ∙ h.room_same j;
    got_same = λ j. k.got_same j ∙ h.got_same j;
    known_begins = λ j. Begins-trans (h.known_begins j) (k.known_begins j);
    none_known = λ j l u. elim (cases_lt j mid) [ inl w ↦ h.none_known j l w | inr w ↦ none_before h j (k.none_known j w u) ];
  }

  -- a look after a look, whatever they told
  pub looked_twice : {lo hi from end : ℕ} {a b c : PortOf E} → Looked g lo hi a b → Looked g from end b c → Looked g 0 0 a c
  looked_twice h k = record {
    keeps = Keeps-trans h.keeps k.keeps;
    sent_same = λ j. k.sent_same j ∙ h.sent_same j;
    room_same = λ j. k.room_same j ∙ h.room_same j;
    got_same = λ j. k.got_same j ∙ h.got_same j;
    known_begins = λ j. Begins-trans (h.known_begins j) (k.known_begins j);
    none_known = λ j l u. absurd (omega arith);
  }

  pub Took-after : {lo hi : ℕ} {a b c : PortOf E} {from : ℕ} {item : I} → Looked g lo hi a b → Took g b c from item → Took g a c from item
  Took-after {lo} {hi} {a} {b} {c} {from} {item} h k = record {
    within = subst (λ (v : ℕ). from < v) h.keeps.among_same k.within;
    keeps = Keeps-trans h.keeps k.keeps;
    sent_same = λ j. k.sent_same j ∙ h.sent_same j;
    room_same = λ j. k.room_same j ∙ h.room_same j;
    takes = record {
      taken = λ j. subst (λ (v : List I). got_at g c j ≡ v ++ only_at j from item) (h.got_same j) (k.takes.taken j);
      first = Begins-trans (h.known_begins from) k.takes.first;
      others = λ j n. Begins-trans (h.known_begins j) (k.takes.others j n);
    };
  }

  -- after a look from mid on and one below mid, nothing was known from any site
  pub Looked-all : {mid n : ℕ} {a b c : PortOf E} → Looked g mid n a b → Looked g 0 mid b c → n ≡ among_of a → (k : ℕ) → known_at g a k ≡ []
  Looked-all {mid} {n} {a} {b} {c} h l e k =
      elim (cases_lt k mid) [
        | inl w ↦ none_before h k (l.none_known k (omega arith) w)
        | inr w ↦ elim (cases_lt k n) [ inl v ↦ h.none_known k w v | inr v ↦ ap (read g.known []) (slice_get_past a.ends.items k (omega arith)) ]
      ]

  -- all that is said of a look that takes nothing
  pub looked_all : {mid n : ℕ} {a b c : PortOf E} → Looked g mid n a b → Looked g 0 mid b c → n ≡ among_of a
      → KeepsPort g a c × ((k : ℕ) → (sent_at g c k ≡ sent_at g a k) × (room_at g c k ≡ room_at g a k)) × ((k : ℕ) → (got_at g c k ≡ got_at g a k) × (known_at g a k ≡ []))
  looked_all h l e = (Keeps-trans h.keeps l.keeps, λ k. (l.sent_same k ∙ h.sent_same k, l.room_same k ∙ h.room_same k), λ k. (l.got_same k ∙ h.got_same k, Looked-all h l e k))

  -- a take from a site after a look that told of it
  pub taken_after : {lo hi : ℕ} {a b c : PortOf E} {from : ℕ} (result : Option I) → Looked g lo hi a b → from < among_of a → known_at g b from ≢ []
      → MatchOption result (known_at g b from ≡ []) (λ item. Took g b c from item)
      → KeepsPort g a c × ((k : ℕ) → (sent_at g c k ≡ sent_at g a k) × (room_at g c k ≡ room_at g a k))
      × MatchOption result ((k : ℕ) → (got_at g c k ≡ got_at g a k) × (known_at g a k ≡ []))
      (λ item. (site : ℕ) × (site < among_of a) × Takes (got_at g a) (known_at g a) (got_at g c) (known_at g c) site item)
  taken_after None h within there taken = absurd (there taken)
  taken_after {from = from} (Some item) h within there taken = let t = Took-after h taken in (t.keeps, λ k. (t.sent_same k, t.room_same k), (from, within, t.takes))

  -- and where a take that takes nothing tells nothing of what was known
  pub told_after : {lo hi : ℕ} {a b c : PortOf E} {from : ℕ} (result : Option I) → Looked g lo hi a b → from < among_of a → known_at g b from ≢ []
      → MatchOption result (known_at g b from ≡ []) (λ item. Took g b c from item)
      → KeepsPort g a c × ((k : ℕ) → (sent_at g c k ≡ sent_at g a k) × (room_at g c k ≡ room_at g a k))
      × MatchOption result ((k : ℕ) → got_at g c k ≡ got_at g a k)
      (λ item. (site : ℕ) × (site < among_of a) × Takes (got_at g a) (known_at g a) (got_at g c) (known_at g c) site item)
  told_after None h within there taken = absurd (there taken)
  told_after {from = from} (Some item) h within there taken = let t = Took-after h taken in (t.keeps, λ k. (t.sent_same k, t.room_same k), (from, within, t.takes))
