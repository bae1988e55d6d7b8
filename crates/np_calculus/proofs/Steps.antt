-- What a row that is met says of its change, its new names and its acting atom.
use Rattle.std.proofs.Common.{◌≡◌, ℕ, Bool, true, false, not, Option, None, Some, nat_eq, refl, ap, sym, subst, ◌∙◌, eq-eqb}
use Rattle.std.proofs.lemmas.Bool.{eqb-true}
use Rattle.std.specs.FinMap as map
use Rattle.std.specs.FinSet as set
use Rattle.np_calculus.proofs.Common.{Contents, Name, Value, Event, Kind, Made, ◌>>=◌, ◌>>◌, need, then, when, done, NameSet, same_name, same_name-is, Atom, Place}
use Rattle.np_calculus.proofs.Common.{Config, inside, sight, at_site, Change, effect, same_tag, none_made, one_made, two_made, sends, offered_in, are_new}
use Rattle.np_calculus.proofs.Common.{change, row, acting, is_at, offered}
use Rattle.np_syntax.specs.declared.event.Made.TheVariants as made
use Rattle.np_calculus.specs.declared.config.Place.TheVariants as place

-- ---- the names that are made

pub is-none : (x : Made) (u : Unit {0}) → none_made x ≡ Some u → x ≡ made.Nothing
is-none made.Nothing u h = refl
is-none _ u h = absurd cc

pub is-one : (x : Made) (m : Name) → one_made x ≡ Some m → x ≡ made.One m
is-one (made.One n) m h = ap made.One (sym (done h))
is-one _ m h = absurd cc

pub is-two : (x : Made) (m : Name × Name) → two_made x ≡ Some m → x ≡ made.Two m.0 m.1
is-two (made.Two n o) m h = ap (λ (m : Name × Name). made.Two m.0 m.1) (sym (done h))
is-two _ m h = absurd cc

pub one-new : (born : NameSet) (x : Made) (m : Name) → one_made x ≡ Some m → are_new born x ≡ not (set.contains born m)
one-new born x m h = ap (are_new born) (is-one x m h)

module _ (c : Config) (e : Event) (d : Config) where
  -- a row that is met gives a change, whose names are new, and its effect
  pub record RowStep (k : Kind) : Type 0 where
    pub made : Change
    pub gives : change k c.sites (inside c) e ≡ Some made
    pub new : are_new c.born e.made ≡ true
    pub is : d ≡ effect c e made

  pub row-step : (k : Kind) → row k c e ≡ Some d → RowStep k
  row-step k h = then (change k c.sites (inside c) e) _ h λ x gives h. when (are_new c.born e.made) _ h λ new h. record { made = x; gives = gives; new = new; is = done h }

-- ---- the acting atom

-- a site is itself
pub same_site : (s : ℕ) → nat_eq s s ≡ true
same_site s = eq-eqb s s refl

pub at_site-is : (o : Option Place) (s : ℕ) → at_site o s ≡ true → o ≡ Some (place.At s)
at_site-is (Some (place.At t)) s h = ap (λ t. Some (place.At t)) (eqb-true t s h)
at_site-is _ s h = absurd cc

pub record Acts (c : Config) (e : Event) (a : Atom) : Type 0 where
  pub there : map.get c.atoms e.actor ≡ Some a
  pub stands : map.get c.places a.agent ≡ Some (place.At e.site)
  pub tag : same_tag a.proc.tag e.tag ≡ true

pub acting-step : (c : Config) (e : Event) (a : Atom) → acting c e ≡ Some a → Acts c e a
acting-step c e a h =
    then ((sight c.sites (inside c) e.site).atom e.actor) _ h λ x found h. when (same_tag x.proc.tag e.tag) _ h λ tag h.
    then (map.get c.atoms e.actor) _ found λ b there found. when (is_at c b.agent e.site) _ found λ here found.
    let same : a ≡ b = done h ∙ done found in
    let again : x ≡ b = done found in
    rw same (record {
      there = there;
      stands = at_site-is (map.get c.places b.agent) e.site here;
      tag = subst (λ (y : Atom). same_tag y.proc.tag e.tag ≡ true) again tag;
    })

pub step-acting : (c : Config) (e : Event) (a : Atom) → Acts c e a → acting c e ≡ Some a
step-acting c e a s = rw (s.there, s.stands, same_site e.site, s.tag) refl

-- ---- outputs

-- the atom of a mark, in an agent, outputs a value on a channel
pub record Offers (c : Config) (mark agent chan : Name) (v : Value) : Type 0 where
  pub mate : Atom
  pub waits : map.get c.atoms mark ≡ Some mate
  pub together : same_name agent mate.agent ≡ true
  pub sent : Name × Value
  pub sends_it : sends mate ≡ Some sent
  pub agree : same_name chan sent.0 ≡ true
  pub is : v ≡ sent.1

pub offered-step : (c : Config) (mark agent chan : Name) (v : Value) → offered c mark agent chan ≡ Some v → Offers c mark agent chan v
offered-step c mark agent chan v h =
    then _ _ h λ b waits h. when _ _ h λ together h. then (sends b) _ h λ s sends_it h. when _ _ h λ agree h.
    record { mate = b; waits = waits; together = together; sent = s; sends_it = sends_it; agree = agree; is = done h }

pub step-offered : (c : Config) (mark agent chan : Name) (v : Value) → Offers c mark agent chan v → offered c mark agent chan ≡ Some v
step-offered c mark agent chan v s = rw (s.waits, s.together, s.sends_it, s.agree) (ap Some (sym s.is))

chain : {A B C : Type 0} (o : Option A) (f : A → Option B) (k : B → Option C) (g : A → Option C) → ((a : A) → o ≡ Some a → (f a >>= k) ≡ g a) → ((o >>= f) >>= k) ≡ (o >>= g)
chain None f k g h = refl
chain (Some a) f k g h = h a refl

seen : (t : Bool) (agent : Name) (b : Atom) (R : Atom → Option Value) → (same_name agent b.agent ≡ true → t ≡ true)
    → ((need t >> Some b) >>= λ b. need (same_name agent b.agent) >> R b) ≡ (need (same_name agent b.agent) >> R b)
seen true agent b R h = refl
seen false agent b R h = refused (same_name agent b.agent) (R b) h
  where
    refused : (s : Bool) (o : Option Value) → (s ≡ true → false ≡ true) → None ≡ (need s >> o)
    refused true o h = absurd (let x = h refl in cc)
    refused false o h = refl

-- an output in an agent that is at the site is seen there
pub offer-seen : (x : Contents) (sites site : ℕ) (m agent n : Name) → at_site (x.place agent) site ≡ true → offered_in (sight sites x site).atom m agent n ≡ offered_in x.atom m agent n
offer-seen x sites site m agent n here =
    let value : Atom → Option Value = λ b. sends b >>= λ sent. need (same_name n sent.0) >> Some sent.1 in
    chain (x.atom m) _ (λ b. need (same_name agent b.agent) >> value b) _ λ b there.
    seen (at_site (x.place b.agent) site) agent b value (λ s. ap (λ q. at_site (x.place q) site) (sym (same_name-is agent b.agent s)) ∙ here)

pub same-offer : (c : Config) (e : Event) (a : Atom) (m n : Name) → acting c e ≡ Some a → offered_in (sight c.sites (inside c) e.site).atom m a.agent n ≡ offered c m a.agent n
same-offer c e a m n h = offer-seen (inside c) c.sites e.site m a.agent n (rw (acting-step c e a h).stands (same_site e.site))
