-- The steps of sites on their parts are a run of the configuration that the parts make up.
use Rattle.std.proofs.Common.{◌≡◌, ◌<◌, ◌≤◌, inl, inr, ℕ, zero, suc, Bool, true, false, not, cond, ◌&&◌, ◌||◌, nat_eq, List, [], ◌∷◌, ◌++◌, map, Option, None, Some, IsSome, refl, ap, sym, subst, ◌∙◌, arith}
use Rattle.std.proofs.lemmas.Bool.{eqb-true, eq-eqb}
use Rattle.std.proofs.lemmas.List.{append-nil}
use Rattle.std.proofs.lemmas.List.Elements.{filter-append}
use Rattle.std.specs.FinSet as set
use Rattle.np_calculus.proofs.Common.{Name, Value, Event, Made, ◌>>=◌, NameSet, same_name, same_name-is, Config, Contents, inside, are_new, apply}
use Rattle.np_syntax.specs.declared.event.Made.TheVariants as made
use Rattle.np_syntax.specs.Reordering.{Reordered, and_then, behind, kept, swapped}
use Rattle.np_tables.proofs.Tables.{born_insert}
use Rattle.np_calculus.specs.declared.config.Atom.{Atom}
use Rattle.np_calculus.specs.declared.config.Place.{Place}
use Rattle.np_calculus.specs.declared.config.Place.TheVariants as place
use Rattle.np_calculus.specs.Changes.{with_made, with_said}
use Rattle.np_calculus.specs.FrameRule.{Every, Framed, IsMade}
use Rattle.np_calculus.specs.Parts.{IsApart, IsAway, IsLodged, IsOfSite, IsWhole, beside, either}
use Rattle.np_calculus.specs.Reductions.{run}
use Rattle.np_calculus.proofs.FrameRule.{either-here, either-there, frame_rule}
use Rattle.np_calculus.proofs.OwnNames.{not_true}
use Rattle.np_calculus.proofs.Steps.{row-step}
use Rattle.np_calculus.proofs.Touches.{every-last}
use Rattle.np_calculus.proofs.Writes.{every-map}
use Rattle.np_site_runs.specs.merged.Joined.{AreApart, IsJoined, together}
use Rattle.np_site_runs.specs.merged.Steps.{IsItem, IsSpread, IsStep, Spread, Step, StepsRun, StepsTo, said_at, sites, with_site}
use Rattle.np_syntax.proofs.Reorderings.{reorder-after, reorder-back, reorder-before, reorder-front}
use Rattle.np_site_runs.proofs.merged.Joined.{divide_apart, every-append, reorder-every, reorder-joined, together-append, unite_apart}

-- ---- parts that are lodged, and away from a site

pub together-lodged : (ps : List Contents) → Every IsLodged ps → IsLodged (together ps)
together-lodged [] h = record { each = λ m a is. absurd cc }
together-lodged (p ∷ ps) h = record { each = λ m a is. one (p.atom m) ((together ps).atom m) a is (h.0.each m) ((together-lodged ps h.1).each m) }
  where
    one : (o b : Option Atom) (a : Atom) → either o b ≡ Some a → ((a : Atom) → o ≡ Some a → IsSome (p.place a.agent)) → ((a : Atom) → b ≡ Some a → IsSome ((together ps).place a.agent))
        → IsSome (either (p.place a.agent) ((together ps).place a.agent))
    one (Some x) b a is f g = either-here (p.place a.agent) ((together ps).place a.agent) (f a is)
    one None b a is f g = either-there (p.place a.agent) ((together ps).place a.agent) (g a is)

pub together-away : (s : ℕ) (ps : List Contents) → Every (λ p. IsAway p s) ps → IsAway (together ps) s
together-away s [] h = record { none = λ agent is. absurd cc }
together-away s (p ∷ ps) h = record { none = λ agent. one (p.place agent) ((together ps).place agent) (h.0.none agent) ((together-away s ps h.1).none agent) }
  where
    one : (o b : Option Place) → (o ≡ Some (place.At s) → ⊥) → (b ≡ Some (place.At s) → ⊥) → either o b ≡ Some (place.At s) → ⊥
    one (Some x) b f g is = f is
    one None b f g is = g is

-- ---- the sites but one

abbrev others : ℕ → ℕ → (ℕ → Config) → List Contents
others zero s here = []
others (suc n) s here = cond (nat_eq n s) (others n s here) (inside (here n) ∷ others n s here)

pub false_eq : (n s : ℕ) → (n ≡ s → ⊥) → nat_eq n s ≡ false
false_eq n s h = not_true (nat_eq n s) λ t. h (eqb-true n s t)

pub not_eq : (n s : ℕ) → nat_eq n s ≡ false → (n ≡ s → ⊥)
not_eq n s h e = let x = eq-eqb n s e in cc

others-all : (n s : ℕ) (here : ℕ → Config) → n ≤ s → others n s here ≡ sites n here
others-all zero s here h = refl
others-all (suc n) s here h =
    let apart : (n ≡ s → ⊥) = λ e. omega arith in
    ap (λ t. cond t (others n s here) (inside (here n) ∷ others n s here)) (false_eq n s apart) ∙ ap (λ ps. inside (here n) ∷ ps) (others-all n s here (omega arith))

pick : (n s : ℕ) (here : ℕ → Config) → s < n → Reordered (sites n here) (inside (here s) ∷ others n s here)
pick zero s here h = absurd (omega arith)
pick (suc n) s here h = one (nat_eq n s) refl (λ less. pick n s here less)
  where
    one : (t : Bool) → nat_eq n s ≡ t → (s < n → Reordered (sites n here) (inside (here s) ∷ others n s here))
        → Reordered (inside (here n) ∷ sites n here) (inside (here s) ∷ cond t (others n s here) (inside (here n) ∷ others n s here))
    one true e more =
        let is : n ≡ s = eqb-true n s e in
        subst (λ ps. Reordered (inside (here n) ∷ sites n here) ps) (ap (λ u. inside (here u) ∷ sites n here) is ∙ ap (λ ps. inside (here s) ∷ ps) (sym (others-all n s here (omega arith)))) kept
    one false e more = let apart : (n ≡ s → ⊥) = not_eq n s e in and_then (behind (more (omega arith))) swapped

module _ (s : ℕ) (here : ℕ → Config) where
  pub with-site-same : (l : Config) → with_site here s l s ≡ l
  with-site-same l = ap (λ t. cond t l (here s)) (eq-eqb s s refl)

  with_site_one : (t : Bool) (l : Config) (x : Config) (ps rs : List Contents) → ps ≡ rs → cond t ps (inside (cond t l x) ∷ ps) ≡ cond t rs (inside x ∷ rs)
  with_site_one true l x ps rs h = h
  with_site_one false l x ps rs h = ap (λ ps. inside x ∷ ps) h

  others-with-site : (l : Config) (n : ℕ) → others n s (with_site here s l) ≡ others n s here
  others-with-site l zero = refl
  others-with-site l (suc n) = with_site_one (nat_eq n s) l (here n) _ _ (others-with-site l n)

  others-every : (P : Contents → Type 0) → ((u : ℕ) → (u ≡ s → ⊥) → P (inside (here u))) → (n : ℕ) → Every P (others n s here)
  others-every P h zero = tt
  others-every P h (suc n) = one (nat_eq n s) refl (others-every P h n)
    where
      one : (t : Bool) → nat_eq n s ≡ t → Every P (others n s here) → Every P (cond t (others n s here) (inside (here n) ∷ others n s here))
      one true e more = more
      one false e more = (h n (not_eq n s e), more)

-- ---- names of the site's own

module _ (a b : NameSet) (s : ℕ) (same : (q : Name) → q.site ≡ s → set.contains a q ≡ set.contains b q) where
  own-new : (x : Made) → ((q : Name) → IsMade x q → q.site ≡ s) → are_new b x ≡ true → are_new a x ≡ true
  own-new made.Nothing own h = refl
  own-new (made.One m) own h = ap not (same m (own m refl)) ∙ h
  own-new (made.Two m n) own h =
      ap (λ t. not (same_name m n) && (not t && not (set.contains a n))) (same m (own m (inl refl)))
      ∙ ap (λ t. not (same_name m n) && (not (set.contains b m) && not t)) (same n (own n (inr refl))) ∙ h

same_or : (t x y : Bool) → x ≡ y → (t || x) ≡ (t || y)
same_or t x y h = ap (λ z. t || z) h

or_false : (t x : Bool) → t ≡ false → (t || x) ≡ x
or_false t x h = ap (λ z. z || x) h

-- sets that agree on a name agree on it with more names in both
with-same : (a b : NameSet) (x : Made) (q : Name) → set.contains a q ≡ set.contains b q → set.contains (with_made a x) q ≡ set.contains (with_made b x) q
with-same a b made.Nothing q h = h
with-same a b (made.One m) q h = born_insert a m q ∙ same_or (same_name q m) _ _ h ∙ sym (born_insert b m q)
with-same a b (made.Two m n) q h =
    born_insert (set.insert a m) n q ∙ same_or (same_name q n) _ _ (born_insert a m q ∙ same_or (same_name q m) _ _ h ∙ sym (born_insert b m q)) ∙ sym (born_insert (set.insert b m) n q)

lacks_one : (a : NameSet) (m q : Name) → (q ≡ m → ⊥) → set.contains (set.insert a m) q ≡ set.contains a q
lacks_one a m q h = born_insert a m q ∙ or_false (same_name q m) _ (not_true (same_name q m) λ t. h (same_name-is q m t))

with-other : (a : NameSet) (x : Made) (q : Name) → (IsMade x q → ⊥) → set.contains (with_made a x) q ≡ set.contains a q
with-other a made.Nothing q h = refl
with-other a (made.One m) q h = lacks_one a m q h
with-other a (made.Two m n) q h = lacks_one (set.insert a m) n q (λ e. h (inr e)) ∙ lacks_one a m q (λ e. h (inl e))

-- ---- what is said

said-here : (said : List (ℕ × Value)) (s : ℕ) (o : Option Value) → said_at s (with_said said s o) ≡ with_said (said_at s said) s o
said-here said s None = refl
said-here said s (Some v) = filter-append (λ (p : ℕ × Value). nat_eq p.0 s) said ((s, v) ∷ []) ∙ ap (λ t. said_at s said ++ cond t ((s, v) ∷ []) []) (eq-eqb s s refl)

said-there : (said : List (ℕ × Value)) (s u : ℕ) (o : Option Value) → (u ≡ s → ⊥) → said_at u (with_said said s o) ≡ said_at u said
said-there said s u None h = refl
said-there said s u (Some v) h =
    filter-append (λ (p : ℕ × Value). nat_eq p.0 u) said ((s, v) ∷ []) ∙ ap (λ t. said_at u said ++ cond t ((s, v) ∷ []) []) (false_eq s u λ e. h (sym e)) ∙ append-nil (said_at u said)

-- ---- one step

after-is : (c d : Config) (e : Event) → apply c e ≡ Some d → (are_new c.born e.made ≡ true) × (d.born ≡ with_made c.born e.made) × (d.sites ≡ c.sites)
after-is c d e h =
    let s = row-step c e d e.kind h in
    (s.new, ap (λ (d : Config). d.born) s.is, ap (λ (d : Config). d.sites) s.is)

module _ (n : ℕ) (g : Spread) (c : Config) (i : IsSpread n g c) (d : Step) (h : Spread) (st : StepsTo n g d h) where
  abbrev s : ℕ
  s = d.event.site

  abbrev l : Config
  l = g.here d.event.site

  -- the other sites and what stays under way
  abbrev R : List Contents
  R = others n d.event.site g.here ++ st.rest

  abbrev k : IsStep d.event (g.here d.event.site) d.taken st.now d.put
  k = st.step

  regrouped : IsJoined (inside c) ((inside l ∷ d.taken) ++ R)
  regrouped = reorder-joined (inside c) (and_then (reorder-after g.air (pick n s g.here st.within)) (behind (and_then (reorder-before (others n s g.here) st.took) (reorder-front (others n s g.here) d.taken st.rest)))) i.joined

  parted : AreApart (inside l ∷ d.taken) × AreApart R × IsApart (together (inside l ∷ d.taken)) (together R)
  parted = divide_apart (inside l ∷ d.taken) R regrouped.apart

  whole : IsWhole c k.full (together R)
  whole = record {
    sites = i.number s ∙ sym k.same.sites;
    split = record {
      is = regrouped.is ∙ together-append (inside l ∷ d.taken) R ∙ ap (λ x. beside x (together R)) (sym k.joins.is);
      apart = subst (λ x. IsApart x (together R)) (sym k.joins.is) parted.2;
    };
    born = i.born;
  }

  rest-items : Every IsItem st.rest
  rest-items = every-last IsItem d.taken st.rest (reorder-every IsItem st.took i.items)

  R-each : (P : Contents → Type 0) → ((u : ℕ) → (u ≡ s → ⊥) → P (inside (g.here u))) → ((x : Contents) → IsItem x → P x) → Every P R
  R-each P f e = every-append P (others n s g.here) st.rest (others-every s g.here P f n) (every-map IsItem P e st.rest rest-items)

  lodged : IsLodged (together R)
  lodged = together-lodged R (R-each IsLodged (λ u apart. (i.site u).lodged) (λ x item. item.lodged))

  away : IsAway (together R) s
  away = together-away s R (R-each (λ p. IsAway p s) (λ u apart. (i.site u).away s (λ e. apart (sym e))) (λ x item. item.away s))

  makes : (are_new k.full.born d.event.made ≡ true) × (k.next.born ≡ with_made k.full.born d.event.made) × (k.next.sites ≡ k.full.sites)
  makes = after-is k.full k.next d.event k.applies

  own-same : (q : Name) → q.site ≡ s → set.contains c.born q ≡ set.contains k.full.born q
  own-same q is = i.own q ∙ ap (λ u. set.contains (g.here u).born q) is ∙ ap (λ b. set.contains b q) (sym k.same.born)

  framed : Framed c k.full k.next (together R) d.event
  framed = frame_rule c k.full k.next (together R) d.event whole lodged away (own-new c.born k.full.born s own-same d.event.made k.own makes.0) k.applies

  now-born : st.now.born ≡ with_made l.born d.event.made
  now-born = k.kept.born ∙ makes.1 ∙ ap (λ b. with_made b d.event.made) k.same.born

  abbrev here1 : ℕ → Config
  here1 = with_site g.here d.event.site st.now

  back : Reordered ((inside st.now ∷ d.put) ++ R) (sites n here1 ++ (d.put ++ st.rest))
  back =
      let first : Reordered (inside st.now ∷ others n s g.here) (sites n here1) =
      reorder-back (subst (λ ps. Reordered (sites n here1) ps) (ap (λ (x : Config). inside x ∷ others n s here1) (with-site-same s g.here st.now) ∙ ap (λ ps. inside st.now ∷ ps) (others-with-site s g.here st.now n))
      (pick n s here1 st.within)) in
      and_then (behind (reorder-front d.put (others n s g.here) st.rest)) (reorder-after (d.put ++ st.rest) first)

  joined1 : IsJoined (inside framed.after) (sites n here1 ++ h.air)
  joined1 = reorder-joined (inside framed.after) (and_then back (reorder-before (sites n here1) st.left)) (record {
    is = framed.is.split.is ∙ ap (λ x. beside x (together R)) k.parts.is ∙ sym (together-append (inside st.now ∷ d.put) R);
    apart = unite_apart (inside st.now ∷ d.put) R k.parts.apart parted.1 (subst (λ x. IsApart x (together R)) k.parts.is framed.is.split.apart);
  })

  -- what holds of each site but this one, and of what it has now
  here_case : (P : ℕ → Config → Type 0) → P s st.now → ((u : ℕ) → (u ≡ s → ⊥) → P u (g.here u)) → (u : ℕ) → P u (here1 u)
  here_case P a b u = one (nat_eq u s) refl
    where
      one : (t : Bool) → nat_eq u s ≡ t → P u (cond t st.now (g.here u))
      one true e = subst (λ v. P v st.now) (sym (eqb-true u s e)) a
      one false e = b u (not_eq u s e)

  own1 : (q : Name) → set.contains framed.after.born q ≡ set.contains (here1 q.site).born q
  own1 q = ap (λ b. set.contains b q) framed.born ∙ one (nat_eq q.site s) refl
    where
      one : (t : Bool) → nat_eq q.site s ≡ t → set.contains (with_made c.born d.event.made) q ≡ set.contains (cond t st.now (g.here q.site)).born q
      one true e =
          let is : q.site ≡ s = eqb-true q.site s e in
          with-same c.born l.born d.event.made q (i.own q ∙ ap (λ u. set.contains (g.here u).born q) is) ∙ ap (λ b. set.contains b q) (sym now-born)
      one false e = with-other c.born d.event.made q (λ m. not_eq q.site s e (k.own q m)) ∙ i.own q

  said1 : (u : ℕ) → said_at u framed.after.said ≡ (here1 u).said
  said1 u = ap (said_at u) framed.said.0 ∙ one (nat_eq u s) refl
    where
      one : (t : Bool) → nat_eq u s ≡ t → said_at u (with_said c.said s framed.value) ≡ (cond t st.now (g.here u)).said
      one true e =
          let is : u ≡ s = eqb-true u s e in
          ap (λ u. said_at u (with_said c.said s framed.value)) is ∙ said-here c.said s framed.value ∙ ap (λ said. with_said said s framed.value) (i.said s ∙ sym k.same.said) ∙ sym framed.said.1 ∙ sym k.kept.said
      one false e = said-there c.said s u framed.value (not_eq u s e) ∙ i.said u

  pub step_spread : (c1 : Config) × (apply c d.event ≡ Some c1) × IsSpread n h c1
  step_spread = (
    framed.after,
    framed.applies,
    subst (λ here. IsSpread n (record { here = here; air = h.air }) framed.after) (sym st.here) (record {
      joined = joined1;
      born = framed.is.born;
      own = own1;
      said = said1;
      number = here_case (λ u x. framed.after.sites ≡ x.sites) (framed.is.sites ∙ sym k.kept.sites) (λ u apart. framed.is.sites ∙ makes.2 ∙ k.same.sites ∙ sym (i.number s) ∙ i.number u);
      site = here_case (λ u x. IsOfSite u (inside x)) k.site (λ u apart. i.site u);
      items = reorder-every IsItem st.left (every-append IsItem d.put st.rest k.items rest-items);
    }),
  )

pub steps_run : StepsRun
steps_run n [] g h c i r = (c, refl, subst (λ h. IsSpread n h c) r i)
steps_run n (d ∷ ds) g h c i (f, st, rest) =
    let one = step_spread n g c i d f st in
    let more = steps_run n ds f h one.0 one.2 rest in
    (more.0, (ap (λ o. o >>= λ x. run x (map (λ d. d.event) ds)) one.1 ∙ more.1), more.2)
