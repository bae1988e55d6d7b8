-- Parts side by side may be grouped and ordered in any way.
use Rattle.std.proofs.Common.{◌≡◌, ◌⊎◌, inl, inr, List, [], ◌∷◌, ◌++◌, Option, None, Some, IsSome, refl, ap, sym, subst, ◌∙◌}
use mathlib.Core.Path.{fun_ext}
use Rattle.np_calculus.proofs.Common.{Name, Contents}
use Rattle.np_calculus.specs.FrameRule.{Every}
use Rattle.np_calculus.specs.Parts.{IsApart, IsMark, LacksMark, either, beside, nothing}
use Rattle.np_syntax.proofs.Options.{none_of}
use Rattle.np_calculus.proofs.FrameRule.{lacks, none-some}
use Rattle.np_syntax.specs.Reordering.{Reordered, and_then, behind, kept, swapped}
use Rattle.np_site_runs.specs.merged.Joined.{AreApart, IsJoined, together}

module _ {X : Type 0} where
  either-assoc : (a b c : Option X) → either a (either b c) ≡ either (either a b) c
  either-assoc (Some x) b c = refl
  either-assoc None b c = refl

  either-swap : (a b c : Option X) → (IsSome a → b ≡ None) → either a (either b c) ≡ either b (either a c)
  either-swap (Some x) b c h = sym (ap (λ o. either o (Some x)) (h refl))
  either-swap None b c h = refl

  neither : (a b : Option X) → a ≡ None → b ≡ None → either a b ≡ None
  neither a b h i = ap (λ o. either o b) h ∙ i

  one_of : (a b : Option X) → IsSome (either a b) → IsSome a ⊎ IsSome b
  one_of (Some x) b h = inl h
  one_of None b h = inr h

  first-none : (a b : Option X) → either a b ≡ None → a ≡ None
  first-none (Some x) b h = absurd cc
  first-none None b h = refl

  second-none : (a b : Option X) → either a b ≡ None → b ≡ None
  second-none (Some x) b h = absurd cc
  second-none None b h = h

pub beside-assoc : (x y z : Contents) → beside x (beside y z) ≡ beside (beside x y) z
beside-assoc x y z = λ i. record {
  place = fun_ext (λ q. either-assoc (x.place q) (y.place q) (z.place q)) i;
  atom = fun_ext (λ q. either-assoc (x.atom q) (y.atom q) (z.atom q)) i;
  packet = fun_ext (λ q. either-assoc (x.packet q) (y.packet q) (z.packet q)) i;
}

pub beside-swap : (x y z : Contents) → IsApart x y → beside x (beside y z) ≡ beside y (beside x z)
beside-swap x y z h = λ i. record {
  place = fun_ext (λ q. either-swap (x.place q) (y.place q) (z.place q) (h.agents q)) i;
  atom = fun_ext (λ q. either-swap (x.atom q) (y.atom q) (z.atom q) (λ is. (h.marks q (inl is)).atom)) i;
  packet = fun_ext (λ q. either-swap (x.packet q) (y.packet q) (z.packet q) (λ is. (h.marks q (inr is)).packet)) i;
}

mark-not : (x : Contents) (q : Name) → IsMark x q → LacksMark x q → ⊥
mark-not x q (inl h) l = none-some (x.atom q) l.atom h
mark-not x q (inr h) l = none-some (x.packet q) l.packet h

mark-one : (x y : Contents) (q : Name) → IsMark (beside x y) q → IsMark x q ⊎ IsMark y q
mark-one x y q (inl h) = elim (one_of (x.atom q) (y.atom q) h) [ inl a ↦ inl (inl a) | inr b ↦ inr (inl b) ]
mark-one x y q (inr h) = elim (one_of (x.packet q) (y.packet q) h) [ inl a ↦ inl (inr a) | inr b ↦ inr (inr b) ]

-- ---- what is apart

pub apart-back : (x y : Contents) → IsApart x y → IsApart y x
apart-back x y h = record {
  agents = λ q is. none_of (x.place q) λ other. none-some (y.place q) (h.agents q other) is;
  marks = λ q is. lacks x q λ other. mark-not y q is (h.marks q other);
}

module _ (x y z : Contents) where
  pub apart-both : IsApart x y → IsApart x z → IsApart x (beside y z)
  apart-both a b = record {
    agents = λ q is. neither (y.place q) (z.place q) (a.agents q is) (b.agents q is);
    marks = λ q is. record { atom = neither _ _ (a.marks q is).atom (b.marks q is).atom; packet = neither _ _ (a.marks q is).packet (b.marks q is).packet };
  }

  pub apart-first : IsApart x (beside y z) → IsApart x y
  apart-first h = record {
    agents = λ q is. first-none _ _ (h.agents q is);
    marks = λ q is. record { atom = first-none _ _ (h.marks q is).atom; packet = first-none _ _ (h.marks q is).packet };
  }

  pub apart-second : IsApart x (beside y z) → IsApart x z
  apart-second h = record {
    agents = λ q is. second-none (y.place q) _ (h.agents q is);
    marks = λ q is. record { atom = second-none (y.atom q) _ (h.marks q is).atom; packet = second-none (y.packet q) _ (h.marks q is).packet };
  }

  pub apart-join : IsApart x z → IsApart y z → IsApart (beside x y) z
  apart-join a b = record {
    agents = λ q is. elim (one_of (x.place q) (y.place q) is) [ inl i ↦ a.agents q i | inr j ↦ b.agents q j ];
    marks = λ q is. elim (mark-one x y q is) [ inl i ↦ a.marks q i | inr j ↦ b.marks q j ];
  }

pub apart-none : (x : Contents) → IsApart nothing x
apart-none x = record { agents = λ q is. absurd cc; marks = λ q is. absurd (mark-not nothing q is (record { atom = refl; packet = refl })) }

-- what is apart from both is apart from each
pub apart-halves : (x y z : Contents) → IsApart (beside x y) z → IsApart x z × IsApart y z
apart-halves x y z h =
    let back = apart-back (beside x y) z h in
    (apart-back z x (apart-first z x y back), apart-back z y (apart-second z x y back))

-- ---- lists of parts

pub together-append : (xs ys : List Contents) → together (xs ++ ys) ≡ beside (together xs) (together ys)
together-append [] ys = refl
together-append (x ∷ xs) ys = ap (beside x) (together-append xs ys) ∙ beside-assoc x (together xs) (together ys)

-- parts of two lists are two parts
pub divide_apart : (xs ys : List Contents) → AreApart (xs ++ ys) → AreApart xs × AreApart ys × IsApart (together xs) (together ys)
divide_apart [] ys h = (tt, h, apart-none (together ys))
divide_apart (x ∷ xs) ys h =
    let t = divide_apart xs ys h.1 in
    let far : IsApart x (beside (together xs) (together ys)) = subst (IsApart x) (together-append xs ys) h.0 in
    ((apart-first x (together xs) (together ys) far, t.0), t.1, apart-join x (together xs) (together ys) (apart-second x (together xs) (together ys) far) t.2)

pub unite_apart : (xs ys : List Contents) → AreApart xs → AreApart ys → IsApart (together xs) (together ys) → AreApart (xs ++ ys)
unite_apart [] ys a b far = b
unite_apart (x ∷ xs) ys a b far =
    let t = apart-halves x (together xs) (together ys) far in
    (subst (IsApart x) (sym (together-append xs ys)) (apart-both x (together xs) (together ys) a.0 t.0), unite_apart xs ys a.1 b t.1)

-- parts in another order
pub reorder-apart : {xs ys : List Contents} → Reordered xs ys → AreApart xs → (together xs ≡ together ys) × AreApart ys
reorder-apart kept h = (refl, h)
reorder-apart (behind {x = x} p) h =
    let t = reorder-apart p h.1 in
    (ap (beside x) t.0, (subst (IsApart x) t.0 h.0, t.1))
reorder-apart (swapped {x = x} {y = y} {xs = xs}) h =
    let far : IsApart x y = apart-first x y (together xs) h.0 in
    (beside-swap x y (together xs) far, (apart-both y x (together xs) (apart-back x y far) h.1.0, (apart-second x y (together xs) h.0, h.1.1)))
reorder-apart (and_then p r) h =
    let t = reorder-apart p h in
    let u = reorder-apart r t.1 in
    (t.0 ∙ u.0, u.1)

pub reorder-joined : {xs ys : List Contents} (c : Contents) → Reordered xs ys → IsJoined c xs → IsJoined c ys
reorder-joined c p j = let t = reorder-apart p j.apart in record { is = j.is ∙ t.0; apart = t.1 }

module _ {A : Type 0} where
  pub reorder-every : (P : A → Type 0) {xs ys : List A} → Reordered xs ys → Every P xs → Every P ys
  reorder-every P kept h = h
  reorder-every P (behind p) h = (h.0, reorder-every P p h.1)
  reorder-every P swapped h = (h.1.0, (h.0, h.1.1))
  reorder-every P (and_then p r) h = reorder-every P r (reorder-every P p h)

  pub every-append : (P : A → Type 0) (xs ys : List A) → Every P xs → Every P ys → Every P (xs ++ ys)
  every-append P [] ys h i = i
  every-append P (x ∷ xs) ys h i = (h.0, every-append P xs ys h.1 i)
