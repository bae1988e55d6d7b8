-- What becomes of a port of which the ends in one place change.
use Rattle.std.proofs.Common.{◌≡◌, ◌≢◌, ℕ, ◌+◌, ◌<◌, ◌≤◌, List, [], ◌∷◌, ◌++◌, length, set, refl, sym, ◌∙◌, ap, subst, Some, inl, inr, length-set}
use Rattle.std.specs.Prelude.{slice_get}
use Rattle.std.proofs.Math.Logic.{∥∥₁_elim, ∥∥₁_map}
use Rattle.std.proofs.lemmas.Option.{slice_get_within}
use Rattle.std.proofs.lemmas.Bool.Decides.{eqb_tells}
use Rattle.np_syntax.proofs.Numbers.{lt-prop}
use Rattle.np_syntax.proofs.Options.{some_is}
use Rattle.site_links.specs.Words.{Stays, KeepsBut, only_at}
use Rattle.site_links.specs.Seats.{read, site_of, among_of, Linked, KeepsPort}
use Rattle.site_links.specs.declared.ends.Ends as Ends
use Rattle.site_links.specs.declared.port_of.PortOf.{PortOf}
use Rattle.site_links.proofs.Rows.{get-set_same, get-set_other, rows_same, rows_more, rows_less}

-- b is a with other ends in one place, y for x
pub record Changes {E : Type 0} (a b : PortOf E) (i : ℕ) (x y : E) : Type 0 where
  pub site_same : b.site ≡ a.site
  pub ends : b.ends.items ≡ set a.ends.items i y
  pub was : slice_get a.ends.items i ≡ Some x

-- where the sites and the ends are the same, the port is kept
pub Keeps-same : {E I : Type 0} (g : Ends.Ghosts E I) (a b : PortOf E) → b.site ≡ a.site → b.ends ≡ a.ends → KeepsPort g a b
Keeps-same g a b s l = record {
  site_same = s;
  among_same = ap (λ v. length v.items) l;
  links = record {
    out_same = λ q k. record { out = k.out; in_ = k.in_; out_is = rw l k.out_is; in_is = rw s k.in_is; meet = k.meet };
    in_same = λ q k. record { out = k.out; in_ = k.in_; out_is = rw s k.out_is; in_is = rw l k.in_is; meet = k.meet };
  };
}

module _ {E I : Type 0} (g : Ends.Ghosts E I) (a b : PortOf E) (i : ℕ) (x y : E) (h : Changes a b i x y) where
  written : slice_get b.ends.items i ≡ Some y
  written = rw h.ends (get-set_same a.ends.items i y (slice_get_within a.ends.items i x h.was))

  others : (k : ℕ) → k ≢ i → slice_get b.ends.items k ≡ slice_get a.ends.items k
  others k n = rw h.ends (get-set_other a.ends.items i k y n)

  was_is : (k : ℕ) (v : E) → k ≡ i → slice_get a.ends.items k ≡ Some v → x ≡ v
  was_is k v e f = some_is (slice_get a.ends.items i) x v h.was (subst (λ (m : ℕ). slice_get a.ends.items m ≡ Some v) e f)

  out_kept : Stays g.meets x y → (q : PortOf E) → Linked g a q → Linked g b q
  out_kept s q l =
      elim (eqb_tells q.site i) [
        | inl w ↦ record {
          out = y;
          in_ = l.in_;
          out_is = subst (λ (m : ℕ). slice_get b.ends.items m ≡ Some y) (sym w.1) written;
          in_is = rw h.site_same l.in_is;
          meet = s.out_same l.in_ (subst (λ (o : E). g.meets o l.in_) (sym (was_is q.site l.out w.1 l.out_is)) l.meet);
        }
        | inr w ↦ record { out = l.out; in_ = l.in_; out_is = others q.site w.1 ∙ l.out_is; in_is = rw h.site_same l.in_is; meet = l.meet }
      ]

  in_kept : Stays g.meets x y → (q : PortOf E) → Linked g q a → Linked g q b
  in_kept s q l =
      elim (eqb_tells q.site i) [
        | inl w ↦ record {
          out = l.out;
          in_ = y;
          out_is = rw h.site_same l.out_is;
          in_is = subst (λ (m : ℕ). slice_get b.ends.items m ≡ Some y) (sym w.1) written;
          meet = s.in_same l.out (subst (λ (o : E). g.meets l.out o) (sym (was_is q.site l.in_ w.1 l.in_is)) l.meet);
        }
        | inr w ↦ record { out = l.out; in_ = l.in_; out_is = rw h.site_same l.out_is; in_is = others q.site w.1 ∙ l.in_is; meet = l.meet }
      ]

  pub keeps_changed : Stays g.meets x y → KeepsPort g a b
  keeps_changed s = record { site_same = h.site_same; among_same = ap length h.ends ∙ length-set a.ends.items i y; links = record { out_same = out_kept s; in_same = in_kept s } }

  pub keeps_but : KeepsBut site_of among_of (Linked g) i a b
  keeps_but = record {
    site_same = h.site_same;
    among_same = ap length h.ends ∙ length-set a.ends.items i y;
    out_same = λ q n l. record { out = l.out; in_ = l.in_; out_is = others q.site n ∙ l.out_is; in_is = rw h.site_same l.in_is; meet = l.meet };
    in_same = λ q n l. record { out = l.out; in_ = l.in_; out_is = rw h.site_same l.out_is; in_is = others q.site n ∙ l.in_is; meet = l.meet };
  }

  module _ {X : Type 0} (f : E → X) (d : X) where
    pub same_everywhere : f y ≡ f x → (k : ℕ) → read f d (slice_get b.ends.items k) ≡ read f d (slice_get a.ends.items k)
    same_everywhere e = rw h.ends (rows_same f d a.ends.items i x y h.was e)

    pub same_elsewhere : (k : ℕ) → k ≢ i → read f d (slice_get b.ends.items k) ≡ read f d (slice_get a.ends.items k)
    same_elsewhere k n = ap (read f d) (others k n)

    pub read_new : read f d (slice_get b.ends.items i) ≡ f y
    read_new = ap (read f d) written

    pub read_old : read f d (slice_get a.ends.items i) ≡ f x
    read_old = ap (read f d) h.was

  pub more_at : (f : E → List I) (item : I) → f y ≡ f x ++ item ∷ [] → (k : ℕ) → read f [] (slice_get b.ends.items k) ≡ read f [] (slice_get a.ends.items k) ++ only_at k i item
  more_at f item e = rw h.ends (rows_more f a.ends.items i x y item h.was e)

  pub less_at : (f : E → ℕ) (item : I) → f x ≤ f y + 1 → (k : ℕ) → read f 0 (slice_get a.ends.items k) ≤ read f 0 (slice_get b.ends.items k) + length (only_at k i item)
  less_at f item e = rw h.ends (rows_less f a.ends.items i x y item h.was e)

-- two ports stay linked where the two ends of their link change together
pub still_linked : {E I : Type 0} (g : Ends.Ghosts E I) (a b a' b' : PortOf E) (x z y w : E) → Changes a a' b.site x y → Changes b b' a.site z w → (g.meets x z → g.meets y w)
    → Linked g a b → Linked g a' b'
still_linked {E} g a b a' b' x z y w h k m l = record {
  out = y;
  in_ = w;
  out_is = subst (λ (n : ℕ). slice_get a'.ends.items n ≡ Some y) (sym k.site_same) (written g a a' b.site x y h);
  in_is = subst (λ (n : ℕ). slice_get b'.ends.items n ≡ Some w) (sym h.site_same) (written g b b' a.site z w k);
  meet =
      let out : x ≡ l.out = was_is g a a' b.site x y h b.site l.out refl l.out_is in
      let in' : z ≡ l.in_ = was_is g b b' a.site z w k a.site l.in_ refl l.in_is in
      m (subst (λ (o : E). g.meets x o) (sym in') (subst (λ (o : E). g.meets o l.in_) (sym out) l.meet));
}

-- the two ends of a link stand in their ports
module _ {E I : Type 0} (g : Ends.Ghosts E I) {a b : PortOf E} (linked : ∥ Linked g a b ∥₁) where
  pub out_within : b.site < length a.ends.items
  out_within = ∥∥₁_elim linked (lt-prop b.site (length a.ends.items)) (λ l. slice_get_within a.ends.items b.site l.out l.out_is)

  pub in_within : a.site < length b.ends.items
  in_within = ∥∥₁_elim linked (lt-prop a.site (length b.ends.items)) (λ l. slice_get_within b.ends.items a.site l.in_ l.in_is)

  pub ends_meet : (x y : E) → slice_get a.ends.items b.site ≡ Some x → slice_get b.ends.items a.site ≡ Some y → ∥ g.meets x y ∥₁
  ends_meet x y e f = ∥∥₁_map linked (λ l.
      subst (λ (o : E). g.meets x o) (some_is (slice_get b.ends.items a.site) l.in_ y l.in_is f)
      (subst (λ (o : E). g.meets o l.in_) (some_is (slice_get a.ends.items b.site) l.out x l.out_is e) l.meet))
