-- How the ports of all sites come to be linked, each with each.
use Rattle.std.proofs.Common.{◌≡◌, ◌≢◌, ℕ, ◌+◌, ◌<◌, ◌≤◌, List, [], ◌∷◌, ◌++◌, length, set, refl, sym, ◌∙◌, ap, subst, arith, Some, inl, inr, length-set}
use Rattle.std.specs.Prelude.{slice_get}
use Rattle.std.proofs.lemmas.List.{length_push}
use Rattle.std.proofs.lemmas.Option.{slice_get_within, slice_get_cases}
use Rattle.std.proofs.lemmas.Bool.Decides.{eqb_tells}
use Rattle.site_links.specs.declared.places.TheConstants.{PLACES}
use Rattle.site_links.specs.Words.{IsFullMake, IsUnused}
use Rattle.site_links.specs.Seats.{read, site_of, among_of, sent_at, got_at, known_at, room_at, Linked, IsNew, Grown, Tied, OwnTied, AllFresh, Made, Partly}
use Rattle.site_links.specs.declared.ends.Ends as Ends
use Rattle.site_links.specs.declared.port_of.PortOf.{PortOf}
use Rattle.np_syntax.proofs.Options.{some_is}
use Rattle.site_links.proofs.Rows.{get-set_same, get-set_other, get-push_old, get-push_at, get-push_cases}

module _ {E I : Type 0} (g : Ends.Ghosts E I) where
  -- what a port that has grown is linked with still
  pub grown_out : {a b : PortOf E} {l : E} → Grown g a b l → (q : PortOf E) → Linked g a q → Linked g b q
  grown_out {a} {b} {l} h q k = record { out = k.out; in_ = k.in_; out_is = rw h.ends (get-push_old a.ends.items q.site k.out l k.out_is); in_is = rw h.site_same k.in_is; meet = k.meet }

  pub grown_in : {a b : PortOf E} {l : E} → Grown g a b l → (q : PortOf E) → Linked g q a → Linked g q b
  grown_in {a} {b} {l} h q k = record { out = k.out; in_ = k.in_; out_is = rw h.site_same k.out_is; in_is = rw h.ends (get-push_old a.ends.items q.site k.in_ l k.in_is); meet = k.meet }

  pub grown_fresh : {a b : PortOf E} {l : E} → Grown g a b l → AllFresh g a → AllFresh g b
  grown_fresh {a} {b} {l} h f k v e =
      elim (get-push_cases a.ends.items k l v (subst (λ (xs : List E). slice_get xs k ≡ Some v) h.ends e)) [
        | inl w ↦ f k v w
        | inr w ↦ subst (λ (o : E). IsNew g o) (sym w.1) h.fresh
      ]

  pub grown_count : {a b : PortOf E} {l : E} (n : ℕ) → Grown g a b l → length a.ends.items ≡ n → length b.ends.items ≡ n + 1
  grown_count {a} {b} {l} n h e = ap length h.ends ∙ (length_push a.ends.items l ∙ ap (λ m. m + 1) e)

  -- the two ports of a tie are linked both ways
  pub tied_there : {a b a' b' : PortOf E} (n m : ℕ) → Tied g a b a' b' → a.site ≡ m → b.site ≡ n → length a.ends.items ≡ n → length b.ends.items ≡ m → Linked g a' b'
  tied_there {a} {b} {a'} {b'} n m t am bn la lb = record {
    out = t.first;
    in_ = t.second;
    out_is = rw (t.grown_first.ends, t.grown_second.site_same, bn) (get-push_at a.ends.items n t.first la);
    in_is = rw (t.grown_second.ends, t.grown_first.site_same, am) (get-push_at b.ends.items m t.second lb);
    meet = t.there;
  }

  pub tied_back : {a b a' b' : PortOf E} (n m : ℕ) → Tied g a b a' b' → a.site ≡ m → b.site ≡ n → length a.ends.items ≡ n → length b.ends.items ≡ m → Linked g b' a'
  tied_back {a} {b} {a'} {b'} n m t am bn la lb = record {
    out = t.second;
    in_ = t.first;
    out_is = rw (t.grown_second.ends, t.grown_first.site_same, am) (get-push_at b.ends.items m t.second lb);
    in_is = rw (t.grown_first.ends, t.grown_second.site_same, bn) (get-push_at a.ends.items n t.first la);
    meet = t.back;
  }

  -- what a port was, of which one place was written
  pub record Ext (a b : PortOf E) : Type 0 where
    pub out : (q : PortOf E) → Linked g a q → Linked g b q
    pub in_ : (q : PortOf E) → Linked g q a → Linked g q b
    pub fresh : AllFresh g a → AllFresh g b

  ext_refl : (a : PortOf E) → Ext a a
  ext_refl a = record { out = λ q h. h; in_ = λ q h. h; fresh = λ h. h }

  ext_grown : {a b : PortOf E} {l : E} → Grown g a b l → Ext a b
  ext_grown h = record { out = grown_out h; in_ = grown_in h; fresh = grown_fresh h }

  record Before (ps : List (PortOf E)) (s : ℕ) (p p' : PortOf E) (i : ℕ) (v : PortOf E) : Type 0 where
    pub before : PortOf E
    pub was : slice_get ps i ≡ Some before
    pub ext : Ext before v
    pub same : (i ≢ s) → before ≡ v
    pub changed : (i ≡ s) → v ≡ p'

  before_of : (ps : List (PortOf E)) (s : ℕ) (p p' : PortOf E) → slice_get ps s ≡ Some p → Ext p p' → (i : ℕ) (v : PortOf E) → slice_get (set ps s p') i ≡ Some v → Before ps s p p' i v
  before_of ps s p p' at x i v h =
      elim (eqb_tells i s) [
        | inl w ↦
            let is : p' ≡ v = some_is (slice_get (set ps s p') s) p' v (get-set_same ps s p' (slice_get_within ps s p at)) (subst (λ (m : ℕ). slice_get (set ps s p') m ≡ Some v) w.1 h) in
            record { before = p; was = rw w.1 at; ext = subst (λ (o : PortOf E). Ext p o) is x; same = λ n. absurd (n w.1); changed = λ e. sym is }
        | inr w ↦ record { before = v; was = sym (get-set_other ps s i p' w.1) ∙ h; ext = ext_refl v; same = λ n. refl; changed = λ e. absurd (w.1 e) }
      ]

  -- one more tie
  pub partly_more : {t : ℕ} (s : ℕ) {ps : List (PortOf E)} {q p p' q' : PortOf E} → Partly g t s ps q → slice_get ps s ≡ Some p → Tied g p q p' q' → Partly g t (s + 1) (set ps s p') q'
  partly_more {t} s {ps} {q} {p} {p'} {q'} h at tie =
      let shape = h.high s p at (omega arith) in
      let be = before_of ps s p p' at (ext_grown tie.grown_first) in
      record {
        count = length-set ps s p' ∙ h.count;
        low = λ i v e lt. elim (eqb_tells i s) [
          | inl w ↦ let c = (be i v e).changed w.1 in
              (ap (λ (o : PortOf E). o.site) c ∙ (tie.grown_first.site_same ∙ (shape.0 ∙ sym w.1)), ap (λ (o : PortOf E). length o.ends.items) c ∙ grown_count t tie.grown_first shape.1)
          | inr w ↦ let b = be i v e in let u = h.low i b.before b.was (omega arith) in let c = sym (b.same w.1) in
              (ap (λ (o : PortOf E). o.site) c ∙ u.0, ap (λ (o : PortOf E). length o.ends.items) c ∙ u.1)
        ];
        high = λ i v e le. let ne : i ≢ s = omega arith in let b = be i v e in let u = h.high i b.before b.was (omega arith) in let c = sym (b.same ne) in
            (ap (λ (o : PortOf E). o.site) c ∙ u.0, ap (λ (o : PortOf E). length o.ends.items) c ∙ u.1);
        fresh = λ i v e. let b = be i v e in b.ext.fresh (h.fresh i b.before b.was);
        pairs = λ i j v w e f. let a = be i v e in let b = be j w f in b.ext.in_ v (a.ext.out b.before (h.pairs i j a.before b.before a.was b.was));
        own_site = tie.grown_second.site_same ∙ h.own_site;
        own_count = grown_count s tie.grown_second h.own_count;
        own_fresh = grown_fresh tie.grown_second h.own_fresh;
        to_own = λ i v e lt. elim (eqb_tells i s) [
          | inl w ↦ subst (λ (o : PortOf E). Linked g o q') (sym ((be i v e).changed w.1)) (tied_there t s tie shape.0 h.own_site shape.1 h.own_count)
          | inr w ↦ let b = be i v e in grown_in tie.grown_second v (subst (λ (o : PortOf E). Linked g o q) (b.same w.1) (h.to_own i b.before b.was (omega arith)))
        ];
        from_own = λ i v e lt. elim (eqb_tells i s) [
          | inl w ↦ subst (λ (o : PortOf E). Linked g q' o) (sym ((be i v e).changed w.1)) (tied_back t s tie shape.0 h.own_site shape.1 h.own_count)
          | inr w ↦ let b = be i v e in grown_out tie.grown_second v (subst (λ (o : PortOf E). Linked g q o) (b.same w.1) (h.from_own i b.before b.was (omega arith)))
        ];
      }

  -- the last port joins the others
  pub made_more : {t : ℕ} {ps : List (PortOf E)} {q q' : PortOf E} → Partly g t t ps q → OwnTied g q q' → Made g (t + 1) (ps ++ q' ∷ [])
  made_more {t} {ps} {q} {q'} h own =
      let site' : q'.site ≡ t = own.grown.site_same ∙ h.own_site in
      let at' : slice_get q'.ends.items q'.site ≡ Some own.own = rw (own.grown.ends, site') (get-push_at q.ends.items t own.own h.own_count) in
      let self : Linked g q' q' = record { out = own.own; in_ = own.own; out_is = at'; in_is = at'; meet = own.meet } in
      let lt : (i : ℕ) (p : PortOf E) → slice_get ps i ≡ Some p → i < t = λ i p e. omega (arith, slice_get_within ps i p e, h.count) in
      record {
        count = length_push ps q' ∙ ap (λ m. m + 1) h.count;
        shape = λ i p e. elim (get-push_cases ps i q' p e) [
          | inl w ↦ h.low i p w (lt i p w)
          | inr w ↦ (ap (λ (o : PortOf E). o.site) w.1 ∙ (site' ∙ (sym h.count ∙ sym w.0)), ap (λ (o : PortOf E). length o.ends.items) w.1 ∙ grown_count t own.grown h.own_count)
        ];
        fresh = λ i p e. elim (get-push_cases ps i q' p e) [
          | inl w ↦ h.fresh i p w
          | inr w ↦ subst (λ (o : PortOf E). AllFresh g o) (sym w.1) (grown_fresh own.grown h.own_fresh)
        ];
        pairs = λ i j p r e f. elim (get-push_cases ps i q' p e) [
          | inl w ↦ elim (get-push_cases ps j q' r f) [
            | inl u ↦ h.pairs i j p r w u
            | inr u ↦ subst (λ (o : PortOf E). Linked g p o) (sym u.1) (grown_in own.grown p (h.to_own i p w (lt i p w)))
          ]
          | inr w ↦ elim (get-push_cases ps j q' r f) [
            | inl u ↦ subst (λ (o : PortOf E). Linked g o r) (sym w.1) (grown_out own.grown r (h.from_own j r u (lt j r u)))
            | inr u ↦ subst (λ (o : PortOf E). Linked g o r) (sym w.1) (subst (λ (o : PortOf E). Linked g q' o) (sym u.1) self)
          ]
        ];
      }

  pub made_joined : {t : ℕ} (n : ℕ) {ps ps' : List (PortOf E)} {q q' : PortOf E} → Partly g t t ps q → OwnTied g q q' → ps' ≡ ps ++ q' ∷ [] → t ≡ n → Made g (n + 1) ps'
  made_joined {t} n {ps} {ps'} {q} {q'} h own e f =
      subst (λ (m : ℕ). Made g (m + 1) ps') f (subst (λ (xs : List (PortOf E)). Made g (t + 1) xs) (sym e) (made_more h own))

  pub made_as : {t : ℕ} (n : ℕ) (ps : List (PortOf E)) → Made g t ps → t ≡ n → Made g n ps
  made_as n ps h e = subst (λ (m : ℕ). Made g m ps) e h

  pub partly_none : {t : ℕ} {ps : List (PortOf E)} (q : PortOf E) → Made g t ps → q.site ≡ t → q.ends.items ≡ [] → Partly g t 0 ps q
  partly_none {t} {ps} q h s e = record {
    count = h.count;
    low = λ i p a lt. absurd (omega arith);
    high = λ i p a le. h.shape i p a;
    fresh = h.fresh;
    pairs = h.pairs;
    own_site = s;
    own_count = ap length e;
    own_fresh = λ k l a. absurd (omega (arith, slice_get_within q.ends.items k l a, ap length e));
    to_own = λ i p a lt. absurd (omega arith);
    from_own = λ i p a lt. absurd (omega arith);
  }

  fresh_read : {X : Type 0} (f : E → X) (d v : X) (p : PortOf E) (k : ℕ) → AllFresh g p → ((x : E) → IsNew g x → f x ≡ v) → (length p.ends.items ≤ k → d ≡ v) → read f d (slice_get p.ends.items k) ≡ v
  fresh_read f d v p k h here past =
      elim (slice_get_cases p.ends.items k).1 [
        | inl w ↦ rw w.2 (here w.0 (h k w.0 w.2))
        | inr w ↦ rw w.1 (past w.0)
      ]

  pub unused_fresh : (p : PortOf E) (n : ℕ) → AllFresh g p → length p.ends.items ≡ n → IsUnused n (sent_at g p) (got_at g p) (known_at g p) (room_at g p)
  unused_fresh p n h e = record {
    sent_none = λ k. fresh_read g.sent [] [] p k h (λ x f. f.sent_none) (λ le. refl);
    got_none = λ k. fresh_read g.got [] [] p k h (λ x f. f.got_none) (λ le. refl);
    known_none = λ k. fresh_read g.known [] [] p k h (λ x f. f.known_none) (λ le. refl);
    all_free = λ k lt. fresh_read g.room 0 PLACES p k h (λ x f. f.all_free) (λ le. absurd (omega arith));
  }

  pub full_from_made : {t : ℕ} {ps : List (PortOf E)} → Made g t ps → IsFullMake site_of among_of (Linked g) t ps
  full_from_made h = record { count = h.count; places = h.shape; pairs = h.pairs }
