-- `Stays`, `Keeps` and `Begins` go on from step to step.
use Rattle.std.proofs.Common.{◌≡◌, ◌≢◌, ℕ, List, [], ◌∷◌, ◌++◌, refl, sym, ap, ◌∙◌, arith}
use Rattle.std.proofs.lemmas.List.{append-nil, append_assoc}
use Rattle.site_links.specs.Words.{Stays, Keeps, KeepsAll, Begins}

module _ {P : Type 0} {joined : P → P → Type 0} where
  pub Stays-refl : (a : P) → Stays joined a a
  Stays-refl a = record { out_same = λ other h. h; in_same = λ other h. h }

  pub Stays-trans : {a b c : P} → Stays joined a b → Stays joined b c → Stays joined a c
  Stays-trans h k = record { out_same = λ other l. k.out_same other (h.out_same other l); in_same = λ other l. k.in_same other (h.in_same other l) }

  -- what was joined still is, whatever became of both
  pub joined_still : {a b a' b' : P} → Stays joined a a' → Stays joined b b' → joined a b → joined a' b'
  joined_still {a} {b} {a'} {b'} h k l = k.in_same a' (h.out_same b l)

module _ {P : Type 0} {site among : P → ℕ} {linked : P → P → Type 0} where
  pub Keeps-refl : (a : P) → Keeps site among linked a a
  Keeps-refl a = record { site_same = refl; among_same = refl; links = Stays-refl a }

  pub Keeps-trans : {a b c : P} → Keeps site among linked a b → Keeps site among linked b c → Keeps site among linked a c
  Keeps-trans h k = record { site_same = k.site_same ∙ h.site_same; among_same = k.among_same ∙ h.among_same; links = Stays-trans h.links k.links }

  -- what is kept, the link to itself among it
  pub kept_all : {a b : P} → Keeps site among linked a b → KeepsAll site among linked a b
  kept_all {a} {b} h = record {
    others = record { site_same = h.site_same; among_same = h.among_same; out_same = λ q apart. h.links.out_same q; in_same = λ q apart. h.links.in_same q };
    own = joined_still h.links h.links;
  }

  pub all_trans : {a b c : P} → KeepsAll site among linked a b → KeepsAll site among linked b c → KeepsAll site among linked a c
  all_trans {a} {b} {c} h k = record {
    others = record {
      site_same = k.others.site_same ∙ h.others.site_same;
      among_same = k.others.among_same ∙ h.others.among_same;
      out_same = λ q apart l. k.others.out_same q (λ e. apart (e ∙ h.others.site_same)) (h.others.out_same q apart l);
      in_same = λ q apart l. k.others.in_same q (λ e. apart (e ∙ h.others.site_same)) (h.others.in_same q apart l);
    };
    own = λ l. k.own (h.own l);
  }

  -- two ports of different sites that were linked still are
  pub linked_still : {a b a' b' : P} → site a ≢ site b → KeepsAll site among linked a a' → KeepsAll site among linked b b' → linked a b → linked a' b'
  linked_still {a} {b} {a'} {b'} apart h k l =
      k.others.in_same a' (λ e. apart (sym h.others.site_same ∙ e)) (h.others.out_same b (λ e. apart (sym e)) l)

module _ {T : Type 0} where
  pub Begins-same : (a b : List T) → b ≡ a → Begins b a
  Begins-same a b e = record { rest = []; is = e ∙ sym (append-nil a) }

  pub Begins-trans : {a b c : List T} → Begins b a → Begins c b → Begins c a
  Begins-trans {a} {b} {c} h k = record { rest = h.rest ++ k.rest; is = k.is ∙ ap (λ (v : List T). v ++ k.rest) h.is ∙ append_assoc a h.rest k.rest }

  -- what begins an empty list is empty
  pub Begins-empty : (a : List T) → Begins [] a → a ≡ []
  Begins-empty [] h = refl
  Begins-empty (x ∷ xs) h = grind arith
