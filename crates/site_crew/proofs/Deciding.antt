-- Whether a site can act is decided. So where the whole does not rest, some site can act.
use Rattle.std.proofs.Common.{◌≡◌, ◌<◌, ◌⊎◌, inl, inr, ℕ, zero, suc, Bool, true, false, is_some, List, [], ◌∷◌, Option, None, Some, refl, sym, ap, subst, ◌∙◌, arith}
use Rattle.std.specs.FinMap as map
use Rattle.std.specs.List.{list_any}
use Rattle.std.proofs.lemmas.Bool.Decides.{eqb_tells}
use Rattle.np_syntax.specs.declared.value.Name.{Name}
use Rattle.np_syntax.specs.Options.{◌>>=◌}
use Rattle.np_syntax.proofs.Options.{some_is, then}
use Rattle.np_tables.specs.Names.{NameMap, same_name}
use Rattle.np_tables.proofs.Tables.{same_name-is, same_name-itself}
use Rattle.np_eval.specs.Eval.{chan_of}
use Rattle.np_eval.specs.Forms.{given_on, layer, taken_on}
use Rattle.np_calculus.specs.declared.config.Atom.{Atom}
use Rattle.np_calculus.specs.declared.config.Place.{Place}
use Rattle.np_calculus.specs.declared.config.Place.TheVariants as place
use Rattle.np_calculus.specs.Config.{Config}
use Rattle.np_calculus.specs.Idle.{Can, HasAgent, HasArrival, HasMeeting, HasPacket, HasWork, Idle, waits}
use Rattle.np_site_runs.specs.Resting.{gives_on, takes_on}

-- it is so, or not
abbrev Decided : Type 0 → Type 0
Decided P = P ⊎ (P → ⊥)

decided : {P Q : Type 0} → (P → Q) → (Q → P) → Decided P → Decided Q
decided f g (inl p) = inl (f p)
decided f g (inr none) = inr (λ q. none (g q))

both-decided : {P Q : Type 0} → Decided P → Decided Q → Decided (P × Q)
both-decided (inl p) (inl q) = inl (p, q)
both-decided (inl p) (inr none) = inr (λ h. none h.1)
both-decided (inr none) q = inr (λ h. none h.0)

either-decided : {P Q : Type 0} → Decided P → Decided Q → Decided (P ⊎ Q)
either-decided (inl p) q = inl (inl p)
either-decided (inr none) (inl q) = inl (inr q)
either-decided (inr none) (inr none_too) = inr (λ h. elim h [ inl p ↦ none p | inr q ↦ none_too q ])

same-number : (m n : ℕ) → Decided (m ≡ n)
same-number m n = elim (eqb_tells m n) [ inl w ↦ inl w.1 | inr w ↦ inr w.1 ]

same-name : (p q : Name) → Decided (p ≡ q)
same-name p q = by (same_name p q) refl
  where
    by : (t : Bool) → same_name p q ≡ t → Decided (p ≡ q)
    by true h = inl (same_name-is p q h)
    by false h = inr (λ e. let same : same_name p q ≡ true = subst (λ (r : Name). same_name p r ≡ true) e (same_name-itself p) in let x : false ≡ true = sym h ∙ same in absurd cc)

is-false : (b : Bool) → Decided (b ≡ false)
is-false true = inr (λ e. absurd cc)
is-false false = inl refl

-- ---- what stands under a name

module _ {X : Type 0} (m : NameMap X) (P : Name → X → Type 0) (dec : (q : Name) (x : X) → Decided (P q x)) where
  abbrev At : Name → Type 0
  At q = (x : X) × (map.get m q ≡ Some x) × P q x

  at-decided : (q : Name) → Decided (At q)
  at-decided q = by (map.get m q) refl
    where
      by : (o : Option X) → map.get m q ≡ o → Decided (At q)
      by None h = inr (λ a. let x : None ≡ Some a.0 = sym h ∙ a.1 in absurd cc)
      by (Some x) h = decided (λ p. (x, h, p)) (λ a. subst (P q) (sym (some_is (map.get m q) x a.0 h a.1)) a.2) (dec q x)

  among : (ks : List Name) → ((q : Name) × At q) ⊎ ((q : Name) → list_any (same_name q) ks ≡ true → At q → ⊥)
  among [] = inr (λ q h a. absurd cc)
  among (k ∷ ks) = first (at-decided k) (among ks)
    where
      first : Decided (At k) → ((q : Name) × At q) ⊎ ((q : Name) → list_any (same_name q) ks ≡ true → At q → ⊥)
          → ((q : Name) × At q) ⊎ ((q : Name) → list_any (same_name q) (k ∷ ks) ≡ true → At q → ⊥)
      first (inl a) rest = inl (k, a)
      first (inr none) (inl found) = inl found
      first (inr none) (inr none_too) = inr (λ q h a. by q (same_name q k) refl h a)
        where
          by : (q : Name) (t : Bool) → same_name q k ≡ t → list_any (same_name q) (k ∷ ks) ≡ true → At q → ⊥
          by q true e h a = none (subst At (same_name-is q k e) a)
          by q false e h a = none_too q (rw e at h) a

  pub somewhere : Decided ((q : Name) × At q)
  somewhere = elim (among (map.keys m)) [
    | inl found ↦ inl found
    | inr none_too ↦ inr (λ found. none_too found.0 (sym (map.contains_key-keys m found.0) ∙ ap is_some found.1.1) found.1)
  ]

-- ---- what a site can do

module _ (c : Config) (s : ℕ) where
  packet-decided : Decided (HasPacket c s)
  packet-decided = decided
      (λ f. record { mark = f.0; packet = f.1.0; flies = f.1.1; to = f.1.2 })
      (λ h. (h.mark, (h.packet, h.flies, h.to)))
      (somewhere c.packets (λ q p. p.to ≡ s) (λ q p. same-number p.to s))

  is-way : (p : Place) → Decided (p ≡ place.Way s)
  is-way (place.At t) = inr (λ e. absurd cc)
  is-way (place.Way t) = decided (ap place.Way) (λ e. let same : t ≡ s = cc in same) (same-number t s)

  is-at : (p : Place) → Decided (p ≡ place.At s)
  is-at (place.At t) = decided (ap place.At) (λ e. let same : t ≡ s = cc in same) (same-number t s)
  is-at (place.Way t) = inr (λ e. absurd cc)

  arrival-decided : Decided (HasArrival c s)
  arrival-decided = decided
      (λ f. record { agent = f.0; comes = f.1.1 ∙ ap Some f.1.2 })
      (λ h. (h.agent, (place.Way s, h.comes, refl)))
      (somewhere c.places (λ q p. p ≡ place.Way s) (λ q p. is-way p))

  work-decided : (agent : Name) → Decided (HasWork c agent)
  work-decided agent = decided
      (λ f. record { mark = f.0; atom = f.1.0; there = f.1.1; of = f.1.2.0; acts = f.1.2.1 })
      (λ h. (h.mark, (h.atom, h.there, (h.of, h.acts))))
      (somewhere c.atoms (λ q a. (a.agent ≡ agent) × (waits (layer a.proc) ≡ false)) (λ q a. both-decided (same-name a.agent agent) (is-false (waits (layer a.proc)))))

  -- an atom of the agent that takes what is given on a channel
  abbrev Takes : Name → Name → Atom → Type 0
  Takes agent n a = (a.agent ≡ agent) × (takes_on a ≡ Some n)

  on-channel : (o : Option Name) (n : Name) → Decided (o ≡ Some n)
  on-channel None n = inr (λ e. absurd cc)
  on-channel (Some m) n = decided (ap Some) (λ e. let same : m ≡ n = cc in same) (same-name m n)

  abbrev Meets : Name → Atom → Type 0
  Meets agent b = (b.agent ≡ agent) × ((n : Name) × (gives_on b ≡ Some n) × ((i : Name) × ((a : Atom) × (map.get c.atoms i ≡ Some a) × Takes agent n a)))

  given-decided : (agent : Name) (b : Atom) → Decided ((n : Name) × (gives_on b ≡ Some n) × ((i : Name) × ((a : Atom) × (map.get c.atoms i ≡ Some a) × Takes agent n a)))
  given-decided agent b = by (gives_on b) refl
    where
      by : (o : Option Name) → gives_on b ≡ o → Decided ((n : Name) × (gives_on b ≡ Some n) × ((i : Name) × ((a : Atom) × (map.get c.atoms i ≡ Some a) × Takes agent n a)))
      by None h = inr (λ g. let x : None ≡ Some g.0 = sym h ∙ g.1 in absurd cc)
      by (Some n) h = decided (λ f. (n, h, f))
          (λ g. subst (λ (k : Name). (i : Name) × ((a : Atom) × (map.get c.atoms i ≡ Some a) × Takes agent k a)) (sym (some_is (gives_on b) n g.0 h g.1)) g.2)
          (somewhere c.atoms (λ i a. Takes agent n a) (λ i a. both-decided (same-name a.agent agent) (on-channel (takes_on a) n)))

  meeting-of : (agent o : Name) (b : Atom) → map.get c.atoms o ≡ Some b → Meets agent b → HasMeeting c agent
  meeting-of agent o b gives m =
      then (given_on (layer b.proc)) _ m.1.1 λ from output_form given.
      then (taken_on (layer m.1.2.1.0.proc)) _ m.1.2.1.2.1 λ to input_form taken.
      record {
        output = o;
        giver = b;
        gives = gives;
        giver_of = m.0;
        input = m.1.2.0;
        taker = m.1.2.1.0;
        takes = m.1.2.1.1;
        taker_of = m.1.2.1.2.0;
        from = from;
        output_form = output_form;
        to = to;
        input_form = input_form;
        chan = m.1.0;
        given = given;
        taken = taken;
      }

  of-meeting : (agent : Name) (h : HasMeeting c agent) → Meets agent h.giver
  of-meeting agent h = (
    h.giver_of,
    (
      h.chan,
      ap (λ o. o >>= λ x. chan_of x h.giver.env) h.output_form ∙ h.given,
      (h.input, (h.taker, h.takes, (h.taker_of, ap (λ o. o >>= λ (x, pat). chan_of x h.taker.env) h.input_form ∙ h.taken))),
    ),
  )

  meeting-decided : (agent : Name) → Decided (HasMeeting c agent)
  meeting-decided agent = decided
      (λ f. meeting-of agent f.0 f.1.0 f.1.1 f.1.2)
      (λ h. (h.output, (h.giver, h.gives, of-meeting agent h)))
      (somewhere c.atoms (λ q b. Meets agent b) (λ q b. both-decided (same-name b.agent agent) (given-decided agent b)))

  agent-decided : Decided (HasAgent c s)
  agent-decided = decided
      (λ f. record { agent = f.0; stands = f.1.1 ∙ ap Some f.1.2.0; works = f.1.2.1 })
      (λ h. (h.agent, (place.At s, h.stands, (refl, h.works))))
      (somewhere c.places (λ q p. (p ≡ place.At s) × (HasWork c q ⊎ HasMeeting c q)) (λ q p. both-decided (is-at p) (either-decided (work-decided q) (meeting-decided q))))

  pub can_decided : Decided (Can c s)
  can_decided = either-decided packet-decided (either-decided arrival-decided agent-decided)

below-decided : (c : Config) (n : ℕ) → ((s : ℕ) × Can c s) ⊎ ((s : ℕ) → s < n → Can c s → ⊥)
below-decided c zero = inr (λ s h. absurd (omega arith))
below-decided c (suc n) = next (can_decided c n) (below-decided c n)
  where
    next : Decided (Can c n) → ((s : ℕ) × Can c s) ⊎ ((s : ℕ) → s < n → Can c s → ⊥) → ((s : ℕ) × Can c s) ⊎ ((s : ℕ) → s < suc n → Can c s → ⊥)
    next (inl can) rest = inl (n, can)
    next (inr none) (inl found) = inl found
    next (inr none) (inr none_too) = inr (λ s h can. elim (eqb_tells s n) [ inl w ↦ none (subst (Can c) w.1 can) | inr w ↦ none_too s (omega arith) can ])

-- where sites below a number alone can act, and the whole does not rest, one of them can
pub some_can : (c : Config) (n : ℕ) → ((s : ℕ) → Can c s → s < n) → (Idle c → ⊥) → (s : ℕ) × Can c s
some_can c n within busy = elim (below-decided c n) [
  | inl found ↦ found
  | inr none ↦ absurd (busy (λ s can. none s (within s can) can))
]
