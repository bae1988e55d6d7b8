-- An event that both levels make: what it leaves at both is coupled.
use Rattle.std.proofs.Common.{◌≡◌, ◌⊎◌, inl, inr, ℕ, Bool, true, false, ◌||◌, Option, None, Some, List, refl, sym, ap, ◌∙◌, is_some}
use Rattle.std.specs.List.{All}
use Rattle.std.specs.FinMap as map
use Rattle.std.specs.FinSet as set
use Rattle.np_syntax.specs.declared.value.Name.{Name}
use Rattle.np_syntax.specs.declared.event.Event.{Event}
use Rattle.np_syntax.specs.declared.event.Made.{Made}
use Rattle.np_syntax.specs.declared.event.Made.TheVariants as made
use Rattle.np_syntax.specs.Options.{◌>>=◌}
use Rattle.np_syntax.proofs.Bools.{and-in, and-out}
use Rattle.np_tables.specs.Names.{NameMap, NameSet, same_name}
use Rattle.np_tables.proofs.Tables.{born_insert}
use Rattle.np_calculus.specs.Changes.{with_made}
use Rattle.np_calculus.specs.Config.{Config}
use Rattle.np_calculus.specs.Reductions.{apply}
use Rattle.np_calculus.specs.Starts.{daemon_agent}
use Rattle.np_calculus.specs.declared.config.Atom.{Atom}
use Rattle.np_calculus.specs.declared.config.Packet.{Packet}
use Rattle.np_lift.specs.CachedLift.{stands_for}
use Rattle.simulate_laws.specs.protocol.Phases.{Phase}
use Rattle.simulate_laws.specs.protocol.Protocol.{Protocol}
use Rattle.infrastructure_texts.specs.Infrastructures.{Infrastructure}
use Rattle.simulate_laws.proofs.things.Known.{more_known}
use Rattle.simulate_laws.specs.things.Mail.{Posted}
use Rattle.simulate_laws.specs.things.Things.{Thing, carried, first_atom_of, first_packet_of}
use Rattle.simulate_laws.specs.levels.Coupled.{Coupled, IsCarrier, IsShaped, KnowsLetter, KnowsOnly, View, chips, is_channel, may_know, scene, is_high}
use Rattle.simulate_laws.specs.levels.Mirrors.{Mirrors}
use Rattle.np_calculus.proofs.BornKept.{born-kept, made-kept}
use Rattle.simulate_laws.proofs.levels.Caches.{KeepsHints, both_grow}
use Rattle.simulate_laws.proofs.levels.Quiet.{or_cases, or_second, things_born}

-- ---- what is known stays known where more agents and channels are

module _ (agents more chans wider : Name → Bool) (from : ℕ) (f : (a : Name) → agents a ≡ true → more a ≡ true)
    (g : (c : Name) → chans c ≡ true → wider c ≡ true) where
  letter_wider : (o : Option Posted) → KnowsLetter agents chans o → KnowsLetter more wider o
  letter_wider None h = tt
  letter_wider (Some p) h = (g p.chan h.0, more_known agents chans more wider f g h.1)

  pub knows_wider : (t : Thing) → KnowsOnly agents chans from t → KnowsOnly more wider from t
  knows_wider (Thing.source a h) k = record { each = λ x v b e. more_known agents chans more wider f g (k.each x v b e) }
  knows_wider (Thing.asking a h) k = record { each = λ x v b e. more_known agents chans more wider f g (k.each x v b e) }
  knows_wider (Thing.leaving a h) k = record { each = λ x v b e. more_known agents chans more wider f g (k.each x v b e) }
  knows_wider (Thing.settling a h s) k = record { each = λ x v b e. more_known agents chans more wider f g (k.each x v b e) }
  knows_wider (Thing.making a h s) k = record { each = λ x v b e. more_known agents chans more wider f g (k.each x v b e) }
  knows_wider (Thing.beginning a h p s) k = record { each = λ x v b e. more_known agents chans more wider f g (k.each x v b e) }
  knows_wider (Thing.calling a h ps) k = record { each = λ x v b e. more_known agents chans more wider f g (k.each x v b e) }
  knows_wider (Thing.hoping a h l) k = record { each = λ x v b e. more_known agents chans more wider f g (k.each x v b e) }
  knows_wider (Thing.hiring a h) k = record { each = λ x v b e. more_known agents chans more wider f g (k.each x v b e) }
  knows_wider (Thing.passing a h) k = record { each = λ x v b e. more_known agents chans more wider f g (k.each x v b e) }
  knows_wider (Thing.opened p) k = (g p.chan k.0, more_known agents chans more wider f g k.1)
  knows_wider (Thing.packet p) k = (f p.agent k.0, g p.chan k.1, more_known agents chans more wider f g k.2)
  knows_wider (Thing.token a s) k = tt
  knows_wider (Thing.letters a) k = tt
  knows_wider (Thing.opening p) k = letter_wider (Some p) k
  knows_wider (Thing.mail m stage) k = letter_wider (carried (Thing.mail m stage)) k
  knows_wider (Thing.taken m) k = letter_wider (carried (Thing.taken m)) k
  knows_wider (Thing.looking m ps) k = letter_wider (carried (Thing.looking m ps)) k
  knows_wider (Thing.wanting m l) k = letter_wider (carried (Thing.wanting m l)) k
  knows_wider (Thing.serving s) k = tt
  knows_wider (Thing.places ps) k = tt
  knows_wider (Thing.free l s) k = tt
  knows_wider (Thing.cache a ps) k = tt
  knows_wider (Thing.hint a l) k = tt
  knows_wider (Thing.keeping a) k = tt
  knows_wider (Thing.told a) k = tt
  knows_wider (Thing.telling a ps) k = tt
  knows_wider (Thing.replacing a l) k = tt
  knows_wider (Thing.adding a ps b) k = tt
  knows_wider Thing.ended k = tt
  knows_wider (Thing.looking_back a b l ps) k = tt
  knows_wider (Thing.reading a b l m) k = tt
  knows_wider (Thing.reading_back a l) k = tt
  knows_wider (Thing.carrying p t a) k = letter_wider (Some p) k
  knows_wider (Thing.trying p t a) k = letter_wider (Some p) k

-- ---- what is of the high level

pub high_by_atom : (ts : List Thing) (a : Atom) → first_atom_of ts ≡ Some a → is_high ts ≡ true
high_by_atom ts a e = ap (λ o. is_some o || is_some (first_packet_of ts)) e

pub high_by_packet : (ts : List Thing) (k : Packet) → first_packet_of ts ≡ Some k → is_high ts ≡ true
high_by_packet ts k e = or_second (is_some (first_atom_of ts)) (is_some (first_packet_of ts)) (ap (λ o. is_some o) e)

-- ---- names that are made

-- what is born at the one level is born at the other, also with what both make
put_in_both : (b d : NameSet) → ((q : Name) → set.contains b q ≡ true → set.contains d q ≡ true) → (m q : Name) → set.contains (set.insert b m) q ≡ true
    → set.contains (set.insert d m) q ≡ true
put_in_both b d f m q h =
    born_insert d m q ∙ elim (or_cases (same_name q m) (set.contains b q) (sym (born_insert b m q) ∙ h))
    [ inl t ↦ ap (λ s. s || set.contains d q) t | inr k ↦ or_second (same_name q m) (set.contains d q) (f q k) ]

made_in_both : (b d : NameSet) → ((q : Name) → set.contains b q ≡ true → set.contains d q ≡ true) → (x : Made) (q : Name)
    → set.contains (with_made b x) q ≡ true → set.contains (with_made d x) q ≡ true
made_in_both b d f made.Nothing q h = f q h
made_in_both b d f (made.One m) q h = put_in_both b d f m q h
made_in_both b d f (made.Two m k) q h = put_in_both (set.insert b m) (set.insert d m) (put_in_both b d f m) k q h

pub true_or_false : (t : Bool) → (t ≡ true) ⊎ (t ≡ false)
true_or_false true = inl refl
true_or_false false = inr refl

-- more channels than before
pub more_channels : (n : ℕ) (born : NameSet) (x : Made) (q : Name) → is_channel n born q ≡ true → is_channel n (with_made born x) q ≡ true
more_channels n born x q h = let both = and-out (set.contains born q) _ h in and-in (made-kept born x q both.0) both.1

-- ---- what an event of both levels leaves

module _ {i : Infrastructure} {n from first : ℕ} {low high : Config} {v : View} (c : Coupled i n from first low high v) where
  -- the mark had something of the high level, or is new
  abbrev pub IsOldOrNew : Name → Type 0
  IsOldOrNew m = ((us : List Thing) × (map.get v.things m ≡ Some us) × (is_high us ≡ true)) ⊎ (set.contains low.born m ≡ false)

  -- such marks that stand for one mark are one
  pub one_mark : (m k : Name) → stands_for v.standing m ≡ stands_for v.standing k → IsOldOrNew m → IsOldOrNew k → m ≡ k
  one_mark m k e (inl a) (inl b) = c.distinct m k a.0 b.0 a.1 b.1 a.2 b.2 e
  one_mark m k e (inl a) (inr g) = absurd (let bad : false ≡ true =
      sym g ∙ ap (set.contains low.born) (sym (c.new_marks k g) ∙ sym e) ∙ c.old_marks m (things_born c m a.0 a.1) in cc)
  one_mark m k e (inr f) (inl b) = absurd (let bad : false ≡ true =
      sym f ∙ ap (set.contains low.born) (sym (c.new_marks m f) ∙ e) ∙ c.old_marks k (things_born c k b.0 b.1) in cc)
  one_mark m k e (inr f) (inr g) = sym (c.new_marks m f) ∙ e ∙ c.new_marks k g

  -- both levels after the event, with the things under the marks and the phases
  pub record Both (next after : Config) (e : Event) (things : NameMap (List Thing)) (phase : Name → Phase) : Type 0 where
    pub applies : apply low e ≡ Some next
    pub sites : next.sites ≡ low.sites
    pub high_sites : after.sites ≡ high.sites
    pub daemon : map.get next.places (daemon_agent n) ≡ map.get low.places (daemon_agent n)
    pub no_daemon : map.get after.places (daemon_agent n) ≡ map.get high.places (daemon_agent n)
    pub places : (q : Name) → same_name q (daemon_agent n) ≡ false → set.contains v.standing.messengers q ≡ false → map.get next.places q ≡ map.get after.places q
    pub messengers : (q : Name) → set.contains v.standing.messengers q ≡ true → map.get after.places q ≡ None
    pub said : next.said ≡ after.said
    pub born : next.born ≡ with_made low.born e.made
    pub high_born : after.born ≡ with_made high.born e.made
    pub shaped : (m : Name) → IsShaped i n from first next things m
    pub mirrored : Mirrors (stands_for v.standing) (λ m. map.get things m >>= first_atom_of) (map.get after.atoms)
    pub mirrored_packets : Mirrors (stands_for v.standing) (λ m. map.get things m >>= first_packet_of) (map.get after.packets)
    pub old_or_new : (m : Name) (ts : List Thing) → map.get things m ≡ Some ts → is_high ts ≡ true → IsOldOrNew m
    pub protocol : Protocol (scene v after) phase (chips things)
    pub known : (m : Name) (ts : List Thing) → map.get things m ≡ Some ts
        → All (λ t. KnowsOnly (may_know v.lock (chips things) t) (is_channel n after.born) from t) ts
    pub hints : KeepsHints i low high next after v.things things
    pub carriers : (m : Name) (ts : List Thing) → map.get things m ≡ Some ts → All (IsCarrier v.standing.messengers) ts

  pub together : (next after : Config) (e : Event) (things : NameMap (List Thing)) (phase : Name → Phase) → Both next after e things phase
      → Coupled i n from first next after (record v { things = things; phase = phase })
  together next after e things phase x = record {
    low_sites = x.sites ∙ c.low_sites;
    high_sites = x.high_sites ∙ c.high_sites;
    daemon = x.daemon ∙ c.daemon;
    no_daemon = x.no_daemon ∙ c.no_daemon;
    places = x.places;
    messengers = x.messengers;
    messengers_born = λ q is. stays q (c.messengers_born q is);
    said = x.said;
    born = λ q h. ap (λ b. set.contains b q) x.born ∙ made_in_both high.born low.born c.born e.made q (ap (λ b. set.contains b q) (sym x.high_born) ∙ h);
    own_born = λ q h. ap (λ b. set.contains b q) x.high_born ∙ made-kept high.born e.made q (c.own_born q h);
    stand_born = born-kept low next e c.stand_born x.applies;
    shaped = x.shaped;
    mirrored = x.mirrored;
    mirrored_packets = x.mirrored_packets;
    new_marks = λ m h. c.new_marks m (still_new m h);
    old_marks = λ m h. old m h (true_or_false (set.contains low.born m));
    distinct = λ m k ts us h i t u e. one_mark m k e (x.old_or_new m ts h t) (x.old_or_new k us i u);
    protocol = x.protocol;
    locks_born = λ a l h. stays l (c.locks_born a l h);
    locks_apart = c.locks_apart;
    main = c.main;
    known = x.known;
    hints = λ is. x.hints is (both_grow low high next after e x.applies stays x.high_born) (c.hints is);
    carriers = x.carriers;
  }
    where
      stays : (q : Name) → set.contains low.born q ≡ true → set.contains next.born q ≡ true
      stays q h = ap (λ b. set.contains b q) x.born ∙ made-kept low.born e.made q h

      still_new : (m : Name) → set.contains next.born m ≡ false → set.contains low.born m ≡ false
      still_new m h = elim (true_or_false (set.contains low.born m)) [ inl t ↦ absurd (let bad = stays m t in cc) | inr f ↦ f ]

      old : (m : Name) → set.contains next.born m ≡ true → (set.contains low.born m ≡ true) ⊎ (set.contains low.born m ≡ false)
          → set.contains next.born (stands_for v.standing m) ≡ true
      old m h (inl t) = stays (stands_for v.standing m) (c.old_marks m t)
      old m h (inr f) = ap (set.contains next.born) (c.new_marks m f) ∙ h
