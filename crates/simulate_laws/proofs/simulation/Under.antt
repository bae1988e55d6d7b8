-- The letter under way for a mark of the high level: one mark of the low level that stands for it has it, or none has any.
use Rattle.std.proofs.Common.{◌≡◌, ◌⊎◌, inl, inr, ℕ, Bool, true, false, cond, Option, None, Some, List, [], ◌∷◌, option_map, refl, sym, ap, subst, ◌∙◌}
use Rattle.std.specs.FinMap as map
use Rattle.np_syntax.specs.declared.value.Name.{Name}
use Rattle.np_syntax.specs.Options.{◌>>=◌}
use Rattle.np_syntax.proofs.Options.{done}
use Rattle.np_tables.specs.Names.{same_name}
use Rattle.np_tables.proofs.Tables.{same_name-is, same_name-itself, same_name-swap}
use Rattle.np_calculus.specs.declared.config.Atom.{Atom}
use Rattle.np_calculus.specs.Config.{Config}
use Rattle.np_calculus.proofs.OwnNames.{not_true}
use Rattle.np_lift.specs.Posts.{Deed, Hands, Letter, deeds_to, prepended}
use Rattle.np_lift.specs.CachedLift.{stands_for}
use Rattle.infrastructure_texts.specs.Infrastructures.{Infrastructure}
use Rattle.simulate_laws.specs.things.Mail.{Posted, as_output}
use Rattle.simulate_laws.specs.things.Things.{Thing, carried}
use Rattle.simulate_laws.specs.levels.Coupled.{Coupled, View, is_high}
use Rattle.simulate_laws.specs.levels.Letters.{OtherLetter, SameLetters, as_letter, first_letter_of, letter_under}
use Rattle.simulate_laws.proofs.levels.Together.{high_by_atom}
use Rattle.simulate_laws.proofs.simulation.Carrying.{carried-output}
use Rattle.simulate_laws.proofs.simulation.Turns.{Turns}

-- ---- the deeds to a mark, of one event and of those after it

pub to-its : (m : Name) (x : Name × Deed) (ds : List (Name × Deed)) → same_name x.0 m ≡ true → deeds_to m (x ∷ ds) ≡ x.1 ∷ deeds_to m ds
to-its m x ds e = rw e refl

pub to-others : (m : Name) (x : Name × Deed) (ds : List (Name × Deed)) → same_name x.0 m ≡ false → deeds_to m (x ∷ ds) ≡ deeds_to m ds
to-others m x ds e = rw e refl

-- ---- the letter of a mark of the high level

-- the letter that is under way under a mark of the low level
abbrev pub letter : View → Name → Option Letter
letter v m = option_map as_letter (letter_under v.things m)

-- a mark that stands for it has the letter
pub record HasOne (v : View) (k : Name) (l : Letter) : Type 0 where
  pub at : Name
  pub stands : stands_for v.standing at ≡ k
  pub posted : Posted
  pub is : letter_under v.things at ≡ Some posted
  pub same : as_letter posted ≡ l

-- none has any
abbrev pub HasNone : View → Name → Type 0
HasNone v k = (m : Name) → stands_for v.standing m ≡ k → letter_under v.things m ≡ None

abbrev pub Under : View → Name → Option Letter → Type 0
Under v k None = HasNone v k
Under v k (Some l) = HasOne v k l

no-letter : {X : Type 0} (o : Option Posted) (p : Posted) → o ≡ None → o ≡ Some p → X
no-letter o p none some = absurd (let bad : None ≡ Some p = sym none ∙ some in cc)

-- what carries a letter is something of the high level
record IsHighThings (o : Option (List Thing)) : Type 0 where
  things : List Thing
  is : o ≡ Some things
  high : is_high things ≡ true

high-things : (o : Option (List Thing)) (p : Posted) → (o >>= first_letter_of) ≡ Some p → IsHighThings o
high-things None p h = absurd cc
high-things (Some []) p h = absurd cc
high-things (Some (t ∷ ts)) p h = record { things = t ∷ ts; is = refl; high = high_by_atom (t ∷ ts) (as_output p) (carried-output t p h) }

-- so two marks that stand for one mark and have a letter are one
pub one-mark : {i : Infrastructure} {n from first : ℕ} {low high : Config} {v : View} → Coupled i n from first low high v → (m k : Name) (p r : Posted)
    → letter_under v.things m ≡ Some p → letter_under v.things k ≡ Some r → stands_for v.standing m ≡ stands_for v.standing k → m ≡ k
one-mark {v = v} c m k p r at_m at_k same =
    let x = high-things (map.get v.things m) p at_m in
    let y = high-things (map.get v.things k) r at_k in
    c.distinct m k x.things y.things x.is y.is x.high y.high same

-- ---- the turn of an event

-- what it makes of the letter of each mark of the high level
abbrev pub Turned : View → View → Option (Name × Deed) → Type 0
Turned v u d = (k : Name) (o : Option Letter) → Under v k o
    → (p : Option Letter) × Under u k p × ((ds : List (Name × Deed)) (q : Option Letter) → Turns p (deeds_to k ds) q → Turns o (deeds_to k (prepended d ds)) q)

-- nothing, where marks stand for the same and have the same letters
same-under : (v u : View) → u.standing ≡ v.standing → SameLetters v u → (k : Name) (o : Option Letter) → Under v k o → Under u k o
same-under v u stand same k None none = λ m is. same m ∙ none m (ap (λ s. stands_for s m) (sym stand) ∙ is)
same-under v u stand same k (Some l) one = record {
  at = one.at;
  stands = ap (λ s. stands_for s one.at) stand ∙ one.stands;
  posted = one.posted;
  is = same one.at ∙ one.is;
  same = one.same;
}

pub same-turn : (v u : View) → u.standing ≡ v.standing → SameLetters v u → Turned v u None
same-turn v u stand same k o under = (o, same-under v u stand same k o under, λ ds q t. t)

-- The letter of one mark m of the low level changes, which stands for k afterwards; each mark stands for what it stood for, or it stands for k now and had no
-- letter.
pub record Changes (v u : View) (m k : Name) (o : Option Posted) : Type 0 where
  pub letters : OtherLetter v u m o
  pub stands : stands_for u.standing m ≡ k
  pub others : (q : Name) → (stands_for u.standing q ≡ stands_for v.standing q) ⊎ ((stands_for u.standing q ≡ k) × (letter_under v.things q ≡ None))

module _ {v u : View} {m k : Name} {o : Option Posted} (c : Changes v u m k o) where
  kept : (q : Name) → same_name q m ≡ false → letter_under u.things q ≡ letter_under v.things q
  kept q far = c.letters q ∙ ap (λ t. cond t o (letter_under v.things q)) far

  its : letter_under u.things m ≡ o
  its = c.letters m ∙ ap (λ t. cond t o (letter_under v.things m)) (same_name-itself m)

  -- what stands for another mark is not the one that changes
  apart : (j q : Name) → same_name j k ≡ false → stands_for u.standing q ≡ j → same_name q m ≡ false
  apart j q far is = not_true _ (λ t.
      let same : j ≡ k = sym is ∙ ap (stands_for u.standing) (same_name-is q m t) ∙ c.stands in
      let bad : false ≡ true = sym far ∙ ap (λ x. same_name x k) same ∙ same_name-itself k in cc)

  -- the letters of other marks stay
  others-under : (j : Name) → same_name j k ≡ false → (l : Option Letter) → Under v j l → Under u j l
  others-under j far None none = λ q is. kept q (apart j q far is) ∙ elim (c.others q) [ inl same ↦ none q (sym same ∙ is) | inr new ↦ new.1 ]
  others-under j far (Some l) one = elim (c.others one.at) [
    | inl same ↦ (let is : stands_for u.standing one.at ≡ j = same ∙ one.stands in
        record { at = one.at; stands = is; posted = one.posted; is = kept one.at (apart j one.at far is) ∙ one.is; same = one.same })
    | inr new ↦ no-letter (letter_under v.things one.at) one.posted new.1 one.is
  ]

  others-turn : (d : Deed) (j : Name) → same_name j k ≡ false → (l : Option Letter) → Under v j l
      → (p : Option Letter) × Under u j p × ((ds : List (Name × Deed)) (q : Option Letter) → Turns p (deeds_to j ds) q → Turns l (deeds_to j ((k, d) ∷ ds)) q)
  others-turn d j far l under =
      (l, others-under j far l under, λ ds q t. subst (λ xs. Turns l xs q) (sym (to-others j (k, d) ds (same_name-swap k j ∙ far))) t)

  -- the turn is that of k, and of no other
  turn-of : (d : Deed) → ((l : Option Letter) → Under v k l
      → (p : Option Letter) × Under u k p × ((ds : List Deed) (q : Option Letter) → Turns p ds q → Turns l (d ∷ ds) q)) → Turned v u (Some (k, d))
  turn-of d here j l under = go (same_name j k) refl
    where
      go : (t : Bool) → same_name j k ≡ t
          → (p : Option Letter) × Under u j p × ((ds : List (Name × Deed)) (q : Option Letter) → Turns p (deeds_to j ds) q → Turns l (deeds_to j ((k, d) ∷ ds)) q)
      go true is =
          let same : j ≡ k = same_name-is j k is in
          let r = here l (subst (λ x. Under v x l) same under) in (
            r.0,
            subst (λ x. Under u x r.0) (sym same) r.1,
            λ ds q t. subst (λ xs. Turns l xs q) (sym (to-its j (k, d) ds (same_name-swap k j ∙ is))) (r.2 (deeds_to j ds) q t),
          )
      go false is = others-turn d j is l under

-- a post: its letter is under way then
module _ {i : Infrastructure} {n from first : ℕ} {low high : Config} {v u : View} (c : Coupled i n from first low high u) (m k : Name) (p : Posted) (x : Changes v u m k (Some p))
    (none : letter_under v.things m ≡ None) where
  none-before : HasNone v k
  none-before q is = go (letter_under v.things q) refl
    where
      go : (o : Option Posted) → letter_under v.things q ≡ o → o ≡ None
      go None e = refl
      go (Some r) e =
          let far : same_name q m ≡ false = not_true _ (λ t. no-letter (letter_under v.things q) r (ap (letter_under v.things) (same_name-is q m t) ∙ none) e) in
          let stands : stands_for u.standing q ≡ k = elim (x.others q) [ inl same ↦ same ∙ is | inr new ↦ new.0 ] in
          let same : q ≡ m = one-mark c q m r p (kept x q far ∙ e) (its x) (stands ∙ sym x.stands) in
          absurd (let bad : false ≡ true = sym far ∙ ap (λ y. same_name y m) same ∙ same_name-itself m in cc)

  pub posted-turn : Turned v u (Some (k, Deed.posts (Some (as_letter p))))
  posted-turn = turn-of x (Deed.posts (Some (as_letter p))) here
    where
      here : (l : Option Letter) → Under v k l
          → (r : Option Letter) × Under u k r × ((ds : List Deed) (q : Option Letter) → Turns r ds q → Turns l (Deed.posts (Some (as_letter p)) ∷ ds) q)
      here None under = (Some (as_letter p), record { at = m; stands = x.stands; posted = p; is = its x; same = refl }, λ ds q t. Turns.posts t)
      here (Some l) one = no-letter (letter_under v.things one.at) one.posted (none-before one.at one.stands) one.is

-- it is handed over: none is under way then
module _ {i : Infrastructure} {n from first : ℕ} {low high : Config} {v u : View} (c : Coupled i n from first low high v) (m k : Name) (p : Posted) (x : Changes v u m k None)
    (was : letter_under v.things m ≡ Some p) (stood : stands_for v.standing m ≡ k) (a : Option Atom) (hands : Hands (Some (as_letter p)) a) where
  none-after : HasNone u k
  none-after q is = go (same_name q m) refl
    where
      of : same_name q m ≡ false → (o : Option Posted) → letter_under v.things q ≡ o → o ≡ None
      of far None e = refl
      of far (Some r) e = elim (x.others q) [
        | inl same ↦ (let one : q ≡ m = one-mark c q m r p e was (sym same ∙ is ∙ sym stood) in
            absurd (let bad : false ≡ true = sym far ∙ ap (λ y. same_name y m) one ∙ same_name-itself m in cc))
        | inr new ↦ no-letter (letter_under v.things q) r new.1 e
      ]

      go : (t : Bool) → same_name q m ≡ t → letter_under u.things q ≡ None
      go true t = ap (letter_under u.things) (same_name-is q m t) ∙ its x
      go false t = kept x q t ∙ of t (letter_under v.things q) refl

  pub handed-turn : Turned v u (Some (k, Deed.opens a))
  handed-turn = turn-of x (Deed.opens a) here
    where
      here : (l : Option Letter) → Under v k l
          → (r : Option Letter) × Under u k r × ((ds : List Deed) (q : Option Letter) → Turns r ds q → Turns l (Deed.opens a ∷ ds) q)
      here None none = no-letter (letter_under v.things m) p (none m stood) was
      here (Some l) one =
          let same : one.at ≡ m = one-mark c one.at m one.posted p one.is was (one.stands ∙ sym stood) in
          let letter_is : p ≡ one.posted = done (sym one.is ∙ ap (letter_under v.things) same ∙ was) in
          let its_is : as_letter p ≡ l = ap as_letter letter_is ∙ one.same in
          (None, none-after, λ ds q t. Turns.opens (subst (λ y. Hands (Some y) a) its_is hands) t)
