-- A site can act in the whole just where it can in a part, or an item brings it something.
use Rattle.std.proofs.Common.{◌≡◌, ◌<◌, ◌⊎◌, inl, inr, ⊎_elim, ℕ, zero, suc, List, [], ◌∷◌, ◌++◌, map, Option, None, Some, IsSome, sym, ap, subst, ◌∙◌, arith}
use Rattle.np_calculus.proofs.Common.{Name, Config, Contents, inside}
use Rattle.np_calculus.specs.declared.config.Atom.{Atom}
use Rattle.np_calculus.specs.declared.config.Packet.{Packet}
use Rattle.np_calculus.specs.declared.config.Place.{Place}
use Rattle.np_calculus.specs.declared.config.Place.TheVariants as place
use Rattle.np_calculus.specs.FrameRule.{Every}
use Rattle.np_calculus.specs.Idle.{Can, HasAgent, HasArrival, HasMeeting, HasPacket, HasWork}
use Rattle.np_calculus.specs.Parts.{IsLodged, either}
use Rattle.np_calculus.proofs.Fits.{some}
use Rattle.np_syntax.proofs.Options.{none_of}
use Rattle.np_calculus.proofs.FrameRule.{none-some}
use Rattle.np_calculus.proofs.Writes.{every-map}
use Rattle.np_site_runs.specs.merged.Joined.{AreApart, together}
use Rattle.np_site_runs.specs.merged.Links.{Linked, air, over, spread}
use Rattle.np_site_runs.specs.merged.Steps.{IsItem, IsSpread, Spread, sites}
use Rattle.np_site_runs.proofs.merged.Joined.{every-append}
use Rattle.np_site_runs.proofs.merged.Steps.{together-lodged}
use Rattle.np_site_runs.specs.merged.Elements.{Occurs}
use Rattle.np_site_runs.specs.merged.Resting.{Brings, CanInParts, IdleInParts, IsAwaited}
use Rattle.np_site_runs.proofs.merged.Acting.{acts_along}
use Rattle.np_site_runs.proofs.merged.Elements.{last-or_before, mapped-occurs, occurs-either, occurs-first, occurs-map, occurs-mapped, occurs-not, occurs-over, occurs-second, over-occurs}

module _ (P : Contents → Type 0) (here : ℕ → Config) where
  pub in_sites : (n u : ℕ) → u < n → P (inside (here u)) → Occurs P (sites n here)
  in_sites zero u less h = absurd (omega arith)
  in_sites (suc n) u less h = ⊎_elim (λ same. inl (subst (λ u. P (inside (here u))) same h)) (λ lower. inr (in_sites n u lower h)) (last-or_before u n less)

  of_sites : (n : ℕ) → Occurs P (sites n here) → (u : ℕ) × (u < n) × P (inside (here u))
  of_sites zero h = absurd h
  of_sites (suc n) (inl h) = (n, omega arith, h)
  of_sites (suc n) (inr h) = let t = of_sites n h in let less : t.0 < n = t.1 in (t.0, omega arith, t.2)

-- ---- what is in one of the parts

pub either-is : {X : Type 0} (o b : Option X) (x : X) → either o b ≡ Some x → (o ≡ Some x) ⊎ (b ≡ Some x)
either-is (Some y) b x h = inl h
either-is None b x h = inr h

packet-in : (ps : List Contents) (m : Name) (p : Packet) → (together ps).packet m ≡ Some p → Occurs (λ x. x.packet m ≡ Some p) ps
packet-in [] m p h = absurd cc
packet-in (x ∷ ps) m p h = ⊎_elim (λ i. inl i) (λ i. inr (packet-in ps m p i)) (either-is (x.packet m) ((together ps).packet m) p h)

pub place-in : (ps : List Contents) (a : Name) (p : Place) → (together ps).place a ≡ Some p → Occurs (λ x. x.place a ≡ Some p) ps
place-in [] a p h = absurd cc
place-in (x ∷ ps) a p h = ⊎_elim (λ i. inl i) (λ i. inr (place-in ps a p i)) (either-is (x.place a) ((together ps).place a) p h)

-- a part that has the agent, with all the atoms that the whole has of it
record HasWhole (whole : Contents) (a : Name) (p : Place) (x : Contents) : Type 0 where
  place : x.place a ≡ Some p
  atoms : (m : Name) (b : Atom) → whole.atom m ≡ Some b → b.agent ≡ a → x.atom m ≡ Some b

agent-in : (ps : List Contents) (a : Name) (p : Place) → AreApart ps → Every IsLodged ps → (together ps).place a ≡ Some p → Occurs (HasWhole (together ps) a p) ps
agent-in [] a p apart lodged h = absurd cc
agent-in (x ∷ ps) a p apart lodged h = ⊎_elim
    (λ here. inl (record {
      place = here;
      atoms = λ m b is of. ⊎_elim (λ i. i)
          (λ i. absurd (none-some ((together ps).place a) (apart.0.agents a (some (x.place a) p here)) (subst (λ a. IsSome ((together ps).place a)) of ((together-lodged ps lodged.1).each m b i))))
          (either-is (x.atom m) ((together ps).atom m) b is);
    }))
    (λ there. inr (occurs-map (HasWhole (together ps) a p) (HasWhole (together (x ∷ ps)) a p) (λ y has. record {
      place = has.place;
      atoms = λ m b is of. ⊎_elim
          (λ i. absurd (none-some ((together ps).place a) (apart.0.agents a (subst (λ a. IsSome (x.place a)) of (lodged.0.each m b i))) (some ((together ps).place a) p there)))
          (λ i. has.atoms m b i of)
          (either-is (x.atom m) ((together ps).atom m) b is);
    }) ps (agent-in ps a p apart.1 lodged.1 there)))
    (either-is (x.place a) ((together ps).place a) p h)

-- ---- and what is in a part is in all of them together

pub atom-out : (ps : List Contents) (m : Name) (b : Atom) → AreApart ps → Occurs (λ x. x.atom m ≡ Some b) ps → (together ps).atom m ≡ Some b
atom-out [] m b apart h = absurd h
atom-out (x ∷ ps) m b apart (inl h) = ap (λ o. either o ((together ps).atom m)) h
atom-out (x ∷ ps) m b apart (inr h) =
    let more = atom-out ps m b apart.1 h in
    let none = none_of (x.atom m) (λ is. none-some ((together ps).atom m) (apart.0.marks m (inl is)).atom (some ((together ps).atom m) b more)) in
    ap (λ o. either o ((together ps).atom m)) none ∙ more

pub packet-out : (ps : List Contents) (m : Name) (p : Packet) → AreApart ps → Occurs (λ x. x.packet m ≡ Some p) ps → (together ps).packet m ≡ Some p
packet-out [] m p apart h = absurd h
packet-out (x ∷ ps) m p apart (inl h) = ap (λ o. either o ((together ps).packet m)) h
packet-out (x ∷ ps) m p apart (inr h) =
    let more = packet-out ps m p apart.1 h in
    let none = none_of (x.packet m) (λ is. none-some ((together ps).packet m) (apart.0.marks m (inr is)).packet (some ((together ps).packet m) p more)) in
    ap (λ o. either o ((together ps).packet m)) none ∙ more

pub place-out : (ps : List Contents) (a : Name) (p : Place) → AreApart ps → Occurs (λ x. x.place a ≡ Some p) ps → (together ps).place a ≡ Some p
place-out [] a p apart h = absurd h
place-out (x ∷ ps) a p apart (inl h) = ap (λ o. either o ((together ps).place a)) h
place-out (x ∷ ps) a p apart (inr h) =
    let more = place-out ps a p apart.1 h in
    let none = none_of (x.place a) (λ is. none-some ((together ps).place a) (apart.0.agents a is) (some ((together ps).place a) p more)) in
    ap (λ o. either o ((together ps).place a)) none ∙ more

-- ---- the whole and its parts

module _ (n : ℕ) (g : Spread) (c : Config) (s : ℕ) (i : IsSpread n g c) where
  abbrev parts : List Contents
  parts = sites n g.here ++ g.air

  lodged-sites : (n : ℕ) → Every IsLodged (sites n g.here)
  lodged-sites zero = tt
  lodged-sites (suc n) = ((i.site n).lodged, lodged-sites n)

  lodged : Every IsLodged (sites n g.here ++ g.air)
  lodged = every-append IsLodged (sites n g.here) g.air (lodged-sites n) (every-map IsItem IsLodged (λ x is. is.lodged) g.air i.items)

  is-parts : together (sites n g.here ++ g.air) ≡ inside c
  is-parts = sym i.joined.is

  abbrev InParts : Type 0
  InParts = ((u : ℕ) × (u < n) × Can (g.here u) s) ⊎ Occurs (Brings s) g.air

  -- where the whole can

  from-packet : HasPacket c s → InParts
  from-packet p = ⊎_elim
      (λ h. let t = of_sites (λ x. x.packet p.mark ≡ Some p.packet) g.here n h in inl (t.0, t.1, inl (record { mark = p.mark; packet = p.packet; flies = t.2; to = p.to })))
      (λ h. inr (occurs-map (λ x. x.packet p.mark ≡ Some p.packet) (Brings s) (λ x is. inl (record { mark = p.mark; packet = p.packet; flies = is; to = p.to })) g.air h))
      (occurs-either (λ x. x.packet p.mark ≡ Some p.packet) (sites n g.here) g.air
      (packet-in (sites n g.here ++ g.air) p.mark p.packet (ap (λ (x : Contents). x.packet p.mark) is-parts ∙ p.flies)))

  from-arrival : HasArrival c s → InParts
  from-arrival a = ⊎_elim
      (λ h. let t = of_sites (λ x. x.place a.agent ≡ Some (place.Way s)) g.here n h in inl (t.0, t.1, inr (inl (record { agent = a.agent; comes = t.2 }))))
      (λ h. inr (occurs-map (λ x. x.place a.agent ≡ Some (place.Way s)) (Brings s) (λ x is. inr (record { agent = a.agent; comes = is })) g.air h))
      (occurs-either (λ x. x.place a.agent ≡ Some (place.Way s)) (sites n g.here) g.air
      (place-in (sites n g.here ++ g.air) a.agent (place.Way s) (ap (λ (x : Contents). x.place a.agent) is-parts ∙ a.comes)))

  from-agent : HasAgent c s → InParts
  from-agent a = ⊎_elim
      (λ h.
      let t = of_sites (HasWhole (together (sites n g.here ++ g.air)) a.agent (place.At s)) g.here n h in
      inl (t.0, t.1, inr (inr (record { agent = a.agent; stands = t.2.place; works = works t.0 t.2 }))))
      (λ h.
      absurd (occurs-not IsItem (HasWhole (together (sites n g.here ++ g.air)) a.agent (place.At s)) (λ x item has. (item.away s).none a.agent has.place) g.air i.items h))
      (occurs-either (HasWhole (together (sites n g.here ++ g.air)) a.agent (place.At s)) (sites n g.here) g.air
      (agent-in (sites n g.here ++ g.air) a.agent (place.At s) i.joined.apart lodged (ap (λ (x : Contents). x.place a.agent) is-parts ∙ a.stands)))
    where
      works : (u : ℕ) → HasWhole (together (sites n g.here ++ g.air)) a.agent (place.At s) (inside (g.here u)) → HasWork (g.here u) a.agent ⊎ HasMeeting (g.here u) a.agent
      works u has = acts_along c (g.here u) a.agent (λ m b there of. has.atoms m b (ap (λ (x : Contents). x.atom m) is-parts ∙ there) of) a.works

  pub from-whole : Can c s → InParts
  from-whole (inl p) = from-packet p
  from-whole (inr (inl a)) = from-arrival a
  from-whole (inr (inr a)) = from-agent a

  -- where a part can

  whole-packet : (m : Name) (p : Packet) → Occurs (λ x. x.packet m ≡ Some p) (sites n g.here ++ g.air) → (inside c).packet m ≡ Some p
  whole-packet m p h = ap (λ (x : Contents). x.packet m) i.joined.is ∙ packet-out (sites n g.here ++ g.air) m p i.joined.apart h

  whole-place : (a : Name) (p : Place) → Occurs (λ x. x.place a ≡ Some p) (sites n g.here ++ g.air) → (inside c).place a ≡ Some p
  whole-place a p h = ap (λ (x : Contents). x.place a) i.joined.is ∙ place-out (sites n g.here ++ g.air) a p i.joined.apart h

  module _ (u : ℕ) (less : u < n) where
    of-site : (P : Contents → Type 0) → P (inside (g.here u)) → Occurs P (sites n g.here ++ g.air)
    of-site P h = occurs-first P (sites n g.here) g.air (in_sites P g.here n u less h)

    whole-atom : (m : Name) (b : Atom) → (inside (g.here u)).atom m ≡ Some b → (inside c).atom m ≡ Some b
    whole-atom m b h = ap (λ (x : Contents). x.atom m) i.joined.is ∙ atom-out (sites n g.here ++ g.air) m b i.joined.apart (of-site (λ x. x.atom m ≡ Some b) h)

    to-whole : Can (g.here u) s → Can c s
    to-whole (inl p) = inl (record { mark = p.mark; packet = p.packet; flies = whole-packet p.mark p.packet (of-site (λ x. x.packet p.mark ≡ Some p.packet) p.flies); to = p.to })
    to-whole (inr (inl a)) = inr (inl (record { agent = a.agent; comes = whole-place a.agent (place.Way s) (of-site (λ x. x.place a.agent ≡ Some (place.Way s)) a.comes) }))
    to-whole (inr (inr a)) = inr (inr (record {
      agent = a.agent;
      stands = whole-place a.agent (place.At s) (of-site (λ x. x.place a.agent ≡ Some (place.At s)) a.stands);
      works = acts_along (g.here u) c a.agent (λ m b there of. whole-atom m b there) a.works;
    }))

  -- an item that brings something, and what it brings
  brought : (xs : List Contents) → Occurs (Brings s) xs → ((P : Contents → Type 0) → Occurs P xs → Occurs P (sites n g.here ++ g.air)) → Can c s
  brought [] h put = absurd h
  brought (x ∷ xs) (inl (inl p)) put = inl (record { mark = p.mark; packet = p.packet; flies = whole-packet p.mark p.packet (put (λ x. x.packet p.mark ≡ Some p.packet) (inl p.flies)); to = p.to })
  brought (x ∷ xs) (inl (inr a)) put = inr (inl (record { agent = a.agent; comes = whole-place a.agent (place.Way s) (put (λ x. x.place a.agent ≡ Some (place.Way s)) (inl a.comes)) }))
  brought (x ∷ xs) (inr h) put = brought xs h (λ P is. put P (inr is))

  pub from-parts : InParts → Can c s
  from-parts (inl (u, less, can)) = to-whole u less can
  from-parts (inr h) = brought g.air h (λ P is. occurs-second P (sites n g.here) g.air is)

-- ---- what is on links

module _ (n : ℕ) (g : Linked) (s : ℕ) where
  from-air : Occurs (Brings s) (air n g.link) → IsAwaited n g s
  from-air h =
      let u = occurs-over (Brings s) n (λ u. over n (λ t. map (λ x. x.load) (g.link u t))) h in
      let t = occurs-over (Brings s) n (λ t. map (λ x. x.load) (g.link u.0 t)) u.2 in
      (u.0, t.0, u.1, t.1, occurs-mapped (Brings s) (λ x. x.load) (g.link u.0 t.0) t.2)

  to-air : IsAwaited n g s → Occurs (Brings s) (air n g.link)
  to-air (u, t, from, to, h) =
      over-occurs (Brings s) n (λ u. over n (λ t. map (λ x. x.load) (g.link u t))) u from
      (over-occurs (Brings s) n (λ t. map (λ x. x.load) (g.link u t)) t to (mapped-occurs (Brings s) (λ x. x.load) (g.link u t) h))

pub can_in_parts : CanInParts
can_in_parts n g c s i = (
  λ can. ⊎_elim (λ part. inl part) (λ h. inr (from-air n g s h)) (from-whole n (spread n g) c s i can),
  λ h. from-parts n (spread n g) c s i (⊎_elim (λ part. inl part) (λ awaited. inr (to-air n g s awaited)) h),
)

pub idle_in_parts : IdleInParts
idle_in_parts n g c i = (
  λ idle. (λ u less s can. idle s ((can_in_parts n g c s i).1 (inl (u, less, can))), λ s awaited. idle s ((can_in_parts n g c s i).1 (inr awaited))),
  λ (still, none) s can. ⊎_elim (λ (u, less, k). still u less s k) (none s) ((can_in_parts n g c s i).0 can),
)
