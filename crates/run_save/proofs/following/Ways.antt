-- What an event puts on its way where nothing is under way before it, and what it takes where nothing is after it.
use Rattle.std.proofs.Common.{◌≡◌, ◌⊎◌, inl, inr, ℕ, Bool, true, false, cond, Option, None, Some, IsSome, [], ◌∷◌, refl, sym, ap, subst, ◌∙◌}
use Rattle.np_calculus.proofs.Common.{Change, Config, Contents, Event, Kind, Name, apply, inside, same_name, same_name-is, same_name-itself}
use Rattle.np_syntax.specs.declared.event.Kind.TheVariants as kind
use Rattle.np_calculus.specs.declared.config.Atom.{Atom}
use Rattle.np_calculus.specs.declared.config.Packet.{Packet}
use Rattle.np_calculus.specs.declared.config.Place.{Place}
use Rattle.np_calculus.specs.declared.config.Place.TheVariants as place
use Rattle.np_calculus.specs.FrameRule.{IsMade, changed, left_by}
use Rattle.np_calculus.proofs.Steps.{RowStep, row-step}
use Rattle.np_calculus.proofs.Writes.{every-map, inside-effect, left-by}
use Rattle.run_save.proofs.following.Moving.{Departs, IsSent, Moves, StaysHere, moves}

-- no agent is under way, and no packet
pub record NoneFlies (x : Contents) : Type 0 where
  pub ways : (q : Name) (s : ℕ) → x.place q ≡ Some (place.Way s) → ⊥
  pub packets : (m : Name) → x.packet m ≡ None

-- an event of this kind neither puts anything on its way nor takes it
abbrev pub IsInner : Kind → Type 0
IsInner kind.Depart = ⊥
IsInner kind.Send = ⊥
IsInner kind.Arrive = ⊥
IsInner kind.Land = ⊥
IsInner _ = Unit {0}

-- an agent is under way after the event
pub record PutsAgent (full next : Contents) (e : Event) : Type 0 where
  pub kind : e.kind ≡ kind.Depart
  pub agent : Name
  pub to : ℕ
  pub now : Atom
  pub of : now.agent ≡ agent
  pub stood : full.place agent ≡ Some (place.At e.site)
  pub atom : next.atom e.actor ≡ Some now
  pub comes : next.place agent ≡ Some (place.Way to)
  pub only : (q : Name) (s : ℕ) → next.place q ≡ Some (place.Way s) → q ≡ agent
  pub packets : (m : Name) → next.packet m ≡ None

-- a packet is
pub record PutsPacket (full next : Contents) (e : Event) : Type 0 where
  pub kind : e.kind ≡ kind.Send
  pub atom : Atom
  pub stood : full.atom e.actor ≡ Some atom
  pub packet : Packet
  pub flies : next.packet e.actor ≡ Some packet
  pub only : (m : Name) → IsSome (next.packet m) → m ≡ e.actor
  pub ways : (q : Name) (s : ℕ) → next.place q ≡ Some (place.Way s) → ⊥

-- nothing is
pub record PutsNone (next : Contents) (e : Event) : Type 0 where
  pub inner : IsInner e.kind
  pub none : NoneFlies next

module _ {X : Type 0} (k : Name) (v : X) (o : Option X) where
  put-here : left_by ((k, Some v) ∷ []) k o ≡ Some v
  put-here = ap (λ t. cond t (Some v) o) (same_name-itself k)

  put-there : (q : Name) (P : Option X → Type 0) → P (left_by ((k, Some v) ∷ []) q o) → (q ≡ k) ⊎ P o
  put-there q P h = at (same_name q k) refl h
    where
      at : (t : Bool) → same_name q k ≡ t → P (cond t (Some v) o) → (q ≡ k) ⊎ P o
      at true e h = inl (same_name-is q k e)
      at false e h = inr h

none-is : {X : Type 0} (o : Option X) → o ≡ None → IsSome o → ⊥
none-is None e h = cc
none-is (Some x) e h = cc

pub some-none : {X : Type 0} (o : Option X) (x : X) → o ≡ Some x → o ≡ None → ⊥
some-none o x e h = let f : Some x ≡ None = sym e ∙ h in cc

module _ (full next : Config) (e : Event) (applies : apply full e ≡ Some next) where
  abbrev row : RowStep full e next e.kind
  row = row-step full e next e.kind applies

  abbrev d : Change
  d = row.made

  now-is : inside next ≡ changed (inside full) d
  now-is = ap inside row.is ∙ inside-effect full e d

  place-now : (q : Name) → (inside next).place q ≡ left_by d.places q ((inside full).place q)
  place-now q = ap (λ (x : Contents). x.place q) now-is

  atom-now : (q : Name) → (inside next).atom q ≡ left_by d.atoms q ((inside full).atom q)
  atom-now q = ap (λ (x : Contents). x.atom q) now-is

  packet-now : (q : Name) → (inside next).packet q ≡ left_by d.packets q ((inside full).packet q)
  packet-now q = ap (λ (x : Contents). x.packet q) now-is

  -- where no packet is written the packets stay, and so do the places
  packet-still : d.packets ≡ [] → (q : Name) → (inside next).packet q ≡ (inside full).packet q
  packet-still none q = packet-now q ∙ ap (λ ws. left_by ws q ((inside full).packet q)) none

  place-still : d.places ≡ [] → (q : Name) → (inside next).place q ≡ (inside full).place q
  place-still none q = place-now q ∙ ap (λ ws. left_by ws q ((inside full).place q)) none

  place-put : (k : Name) (p : Place) → d.places ≡ (k, Some p) ∷ [] → (q : Name) → (inside next).place q ≡ left_by ((k, Some p) ∷ []) q ((inside full).place q)
  place-put k p is q = place-now q ∙ ap (λ ws. left_by ws q ((inside full).place q)) is

  packet-put : (k : Name) (p : Option Packet) → d.packets ≡ (k, p) ∷ [] → (q : Name) → (inside next).packet q ≡ left_by ((k, p) ∷ []) q ((inside full).packet q)
  packet-put k p is q = packet-now q ∙ ap (λ ws. left_by ws q ((inside full).packet q)) is

  inner-way : StaysHere (inside full) e d → NoneFlies (inside full) → NoneFlies (inside next)
  inner-way here none = record {
    ways = λ q s is. left-by (λ v. v ≡ Some (place.Way s) → ⊥) d.places q ((inside full).place q) (none.ways q s)
        (every-map _ _ (λ w at same h. let f : Some (place.At e.site) ≡ Some (place.Way s) = sym at.1 ∙ h in cc) d.places here.places) (sym (place-now q) ∙ is);
    packets = λ m. packet-still here.packets m ∙ none.packets m;
  }

  -- ---- where nothing is under way before

  abbrev pub Puts : Type 0
  Puts = PutsAgent (inside full) (inside next) e ⊎ (PutsPacket (inside full) (inside next) e ⊎ PutsNone (inside next) e)

  module _ (none : NoneFlies (inside full)) where
    departs : e.kind ≡ kind.Depart → Departs (inside full) e d → PutsAgent (inside full) (inside next) e
    departs is m = record {
      kind = is;
      agent = m.agent;
      to = m.to;
      now = m.now;
      of = m.of;
      stood = m.stands;
      atom = atom-now e.actor ∙ ap (λ ws. left_by ws e.actor ((inside full).atom e.actor)) m.atoms ∙ put-here e.actor m.now ((inside full).atom e.actor);
      comes = place-put m.agent (place.Way m.to) m.places m.agent ∙ put-here m.agent (place.Way m.to) ((inside full).place m.agent);
      only = λ q s h. elim (put-there m.agent (place.Way m.to) ((inside full).place q) q (λ o. o ≡ Some (place.Way s)) (sym (place-put m.agent (place.Way m.to) m.places q) ∙ h))
          [ inl same ↦ same | inr was ↦ absurd (none.ways q s was) ];
      packets = λ q. packet-still m.packets q ∙ none.packets q;
    }

    sends : e.kind ≡ kind.Send → IsSent (inside full) e d → PutsPacket (inside full) (inside next) e
    sends is m = record {
      kind = is;
      atom = m.atom;
      stood = m.there;
      packet = m.packet;
      flies = packet-put e.actor (Some m.packet) m.packets e.actor ∙ put-here e.actor m.packet ((inside full).packet e.actor);
      only = λ q h. elim (put-there e.actor m.packet ((inside full).packet q) q IsSome (subst IsSome (packet-put e.actor (Some m.packet) m.packets q) h))
          [ inl same ↦ same | inr was ↦ absurd (none-is ((inside full).packet q) (none.packets q) was) ];
      ways = λ q s h. none.ways q s (sym (place-still m.places q) ∙ h);
    }

    by-kind : (k : Kind) → e.kind ≡ k → Moves (inside full) e k d → Puts
    by-kind kind.Depart is m = inl (departs is m)
    by-kind kind.Send is m = inr (inl (sends is m))
    by-kind kind.Arrive is m = absurd (none.ways e.actor e.site m.comes)
    by-kind kind.Land is m = absurd (some-none ((inside full).packet e.actor) m.packet m.flies (none.packets e.actor))
    by-kind k is m = inr (inr (record { inner = subst IsInner (sym is) tt; none = inner-way m none }))

    pub puts : Puts
    puts = by-kind e.kind refl (moves (inside full) e full.sites d e.kind row.gives)

  -- ---- where nothing is under way after

  module _ (none : NoneFlies (inside next)) where
    agent-by : (a : Name) (s : ℕ) → (IsMade e.made a → ⊥) → (inside full).place a ≡ Some (place.Way s) → (k : Kind) → e.kind ≡ k → Moves (inside full) e k d
        → (e.kind ≡ kind.Arrive) × (e.actor ≡ a)
    agent-by a s old is kind.Depart at m =
        absurd (none.ways m.agent m.to (place-put m.agent (place.Way m.to) m.places m.agent ∙ put-here m.agent (place.Way m.to) ((inside full).place m.agent)))
    agent-by a s old is kind.Send at m = absurd (none.ways a s (place-still m.places a ∙ is))
    agent-by a s old is kind.Land at m = absurd (none.ways a s (place-still m.places a ∙ is))
    agent-by a s old is kind.Arrive at m = (at, one (same_name a e.actor) refl)
      where
        one : (t : Bool) → same_name a e.actor ≡ t → e.actor ≡ a
        one true h = sym (same_name-is a e.actor h)
        one false h = absurd (none.ways a s (place-put e.actor (place.At e.site) m.places a ∙ ap (λ t. cond t (Some (place.At e.site)) ((inside full).place a)) h ∙ is))
    agent-by a s old is k at m =
        absurd (none.ways a s (place-now a ∙ left-by (λ v. v ≡ Some (place.Way s)) d.places a ((inside full).place a) is
        (every-map _ _ (λ w is same. absurd (old (subst (IsMade e.made) (sym same) is.0))) d.places m.places)))

    pub takes-agent : (a : Name) (s : ℕ) → (IsMade e.made a → ⊥) → (inside full).place a ≡ Some (place.Way s) → (e.kind ≡ kind.Arrive) × (e.actor ≡ a)
    takes-agent a s old is = agent-by a s old is e.kind refl (moves (inside full) e full.sites d e.kind row.gives)

    packet-by : (m : Name) (p : Packet) → (inside full).packet m ≡ Some p → (k : Kind) → e.kind ≡ k → Moves (inside full) e k d → (e.kind ≡ kind.Land) × (e.actor ≡ m)
    packet-by m p is kind.Land at t = (at, one (same_name m e.actor) refl)
      where
        one : (b : Bool) → same_name m e.actor ≡ b → e.actor ≡ m
        one true h = sym (same_name-is m e.actor h)
        one false h = absurd (some-none ((inside next).packet m) p (packet-put e.actor None t.packets m ∙ ap (λ b. cond b None ((inside full).packet m)) h ∙ is) (none.packets m))
    packet-by m p is kind.Send at t =
        absurd (some-none ((inside next).packet e.actor) t.packet
        (packet-put e.actor (Some t.packet) t.packets e.actor ∙ put-here e.actor t.packet ((inside full).packet e.actor)) (none.packets e.actor))
    packet-by m p is k at t = absurd (some-none ((inside next).packet m) p (packet-still t.packets m ∙ is) (none.packets m))

    pub takes-packet : (m : Name) (p : Packet) → (inside full).packet m ≡ Some p → (e.kind ≡ kind.Land) × (e.actor ≡ m)
    takes-packet m p is = packet-by m p is e.kind refl (moves (inside full) e full.sites d e.kind row.gives)
