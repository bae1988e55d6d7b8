-- Events of the low level that are none of the high level: places stay, and the things of the high level keep their marks.
use Rattle.std.proofs.Common.{◌≡◌, ◌⊎◌, inl, inr, ℕ, Bool, true, false, ◌||◌, is_some, Option, None, Some, List, [], ◌∷◌, ◌++◌, refl, sym, ap, ◌∙◌}
use Rattle.std.specs.List.{All, list_any}
use Rattle.std.proofs.lemmas.List.Sorted.{list_any-IsPermutation}
use Rattle.std.specs.FinMap as map
use Rattle.std.specs.FinSet as set
use Rattle.np_syntax.specs.declared.value.Name.{Name}
use Rattle.np_syntax.specs.Options.{◌>>=◌}
use Rattle.np_tables.specs.Names.{NameMap, same_name}
use Rattle.np_tables.proofs.Tables.{same_name-itself}
use Rattle.np_calculus.specs.Config.{Config}
use Rattle.np_calculus.specs.Parts.{AreBorn}
use Rattle.np_calculus.specs.Starts.{daemon_agent, main_agent, own, own_names}
use Rattle.np_lift.specs.CachedLift.{stands_for}
use Rattle.simulate_laws.specs.protocol.Chips.{Chip}
use Rattle.simulate_laws.specs.protocol.Phases.{Phase}
use Rattle.simulate_laws.specs.protocol.Protocol.{Protocol}
use Rattle.simulate_laws.specs.protocol.Scenes.{Locks}
use Rattle.simulate_laws.specs.protocol.Steps.{Step}
use Rattle.infrastructure_texts.specs.Infrastructures.{Infrastructure}
use Rattle.simulate_laws.proofs.things.Known.{more_known}
use Rattle.simulate_laws.specs.things.Things.{Thing, carried, first_atom_of, first_packet_of}
use Rattle.simulate_laws.specs.levels.Coupled.{Coupled, IsCarrier, IsShaped, KnowsLetter, KnowsOnly, View, chips, is_channel, is_high, may_know, scene, whereabouts}
use Rattle.simulate_laws.proofs.levels.Caches.{KeepsHints, low_grows}
use Rattle.simulate_laws.proofs.levels.Values.{no_value}
use Rattle.np_calculus.proofs.Fits.{some}
pub use Rattle.std.proofs.lemmas.Bool.{or_right as or_second}

-- ---- what is known

module _ (agents more chans : Name → Bool) (f : (a : Name) → agents a ≡ true → more a ≡ true) where
  knows_letter : (o : Option _) → KnowsLetter agents chans o → KnowsLetter more chans o
  knows_letter None h = tt
  knows_letter (Some p) h = (h.0, more_known agents chans more chans f (λ c e. e) h.1)

module _ (agents more chans : Name → Bool) (from : ℕ) (f : (a : Name) → agents a ≡ true → more a ≡ true) where
  pub knows_more : (t : Thing) → KnowsOnly agents chans from t → KnowsOnly more chans from t
  knows_more (Thing.source a h) k = record { each = λ x v b e. more_known agents chans more chans f (λ c e. e) (k.each x v b e) }
  knows_more (Thing.asking a h) k = record { each = λ x v b e. more_known agents chans more chans f (λ c e. e) (k.each x v b e) }
  knows_more (Thing.leaving a h) k = record { each = λ x v b e. more_known agents chans more chans f (λ c e. e) (k.each x v b e) }
  knows_more (Thing.settling a h s) k = record { each = λ x v b e. more_known agents chans more chans f (λ c e. e) (k.each x v b e) }
  knows_more (Thing.making a h s) k = record { each = λ x v b e. more_known agents chans more chans f (λ c e. e) (k.each x v b e) }
  knows_more (Thing.beginning a h p s) k = record { each = λ x v b e. more_known agents chans more chans f (λ c e. e) (k.each x v b e) }
  knows_more (Thing.calling a h ps) k = record { each = λ x v b e. more_known agents chans more chans f (λ c e. e) (k.each x v b e) }
  knows_more (Thing.hoping a h l) k = record { each = λ x v b e. more_known agents chans more chans f (λ c e. e) (k.each x v b e) }
  knows_more (Thing.hiring a h) k = record { each = λ x v b e. more_known agents chans more chans f (λ c e. e) (k.each x v b e) }
  knows_more (Thing.passing a h) k = record { each = λ x v b e. more_known agents chans more chans f (λ c e. e) (k.each x v b e) }
  knows_more (Thing.opened p) k = (k.0, more_known agents chans more chans f (λ c e. e) k.1)
  knows_more (Thing.packet p) k = (f p.agent k.0, k.1, more_known agents chans more chans f (λ c e. e) k.2)
  knows_more (Thing.token a s) k = tt
  knows_more (Thing.letters a) k = tt
  knows_more (Thing.opening p) k = knows_letter agents more chans f (Some p) k
  knows_more (Thing.mail m stage) k = knows_letter agents more chans f (carried (Thing.mail m stage)) k
  knows_more (Thing.taken m) k = knows_letter agents more chans f (carried (Thing.taken m)) k
  knows_more (Thing.looking m ps) k = knows_letter agents more chans f (carried (Thing.looking m ps)) k
  knows_more (Thing.wanting m l) k = knows_letter agents more chans f (carried (Thing.wanting m l)) k
  knows_more (Thing.serving s) k = tt
  knows_more (Thing.places ps) k = tt
  knows_more (Thing.free l s) k = tt
  knows_more (Thing.cache a ps) k = tt
  knows_more (Thing.hint a l) k = tt
  knows_more (Thing.keeping a) k = tt
  knows_more (Thing.told a) k = tt
  knows_more (Thing.telling a ps) k = tt
  knows_more (Thing.replacing a l) k = tt
  knows_more (Thing.adding a ps b) k = tt
  knows_more Thing.ended k = tt
  knows_more (Thing.looking_back a b l ps) k = tt
  knows_more (Thing.reading a b l m) k = tt
  knows_more (Thing.reading_back a l) k = tt
  knows_more (Thing.carrying p t a) k = knows_letter agents more chans f (Some p) k
  knows_more (Thing.trying p t a) k = knows_letter agents more chans f (Some p) k

-- ---- what any of the chips is

pub or_cases : (a b : Bool) → (a || b) ≡ true → (a ≡ true) ⊎ (b ≡ true)
or_cases true b h = inl refl
or_cases false b h = inr h

module _ (p : Chip → Bool) where
  pub any_out : (xs ys : List Chip) → list_any p (xs ++ ys) ≡ true → (list_any p xs ≡ true) ⊎ (list_any p ys ≡ true)
  any_out [] ys h = inr h
  any_out (x ∷ xs) ys h = elim (or_cases (p x) (list_any p (xs ++ ys)) h) [
    | inl a ↦ inl (ap (λ t. t || list_any p xs) a)
    | inr b ↦ elim (any_out xs ys b) [ inl c ↦ inl (or_second (p x) _ c) | inr d ↦ inr d ]
  ]

  pub any_in : (xs ys : List Chip) → (list_any p xs ≡ true) ⊎ (list_any p ys ≡ true) → list_any p (xs ++ ys) ≡ true
  any_in [] ys (inl h) = absurd cc
  any_in [] ys (inr h) = h
  any_in (x ∷ xs) ys (inl h) = elim (or_cases (p x) (list_any p xs) h) [ inl a ↦ ap (λ t. t || list_any p (xs ++ ys)) a | inr b ↦ or_second (p x) _ (any_in xs ys (inl b)) ]
  any_in (x ∷ xs) ys (inr h) = or_second (p x) _ (any_in xs ys (inr h))

  -- a chip that is not taken, or given again, is still there
  pub any_kept : {before after take give : List Chip} → Step before after take give → (list_any p take ≡ true → list_any p give ≡ true) → list_any p before ≡ true → list_any p after ≡ true
  any_kept {before} {after} {take} {give} step f h =
      list_any-IsPermutation p after (give ++ step.rest) step.given
      ∙ any_in give step.rest (elim (any_out take step.rest (sym (list_any-IsPermutation p before (take ++ step.rest) step.taken) ∙ h)) [ inl a ↦ inl (f a) | inr b ↦ inr b ])

-- ---- marks

module _ {i : Infrastructure} {n from first : ℕ} {low high : Config} {v : View} (c : Coupled i n from first low high v) where
  -- what has things is born
  pub things_born : (m : Name) (ts : List Thing) → map.get v.things m ≡ Some ts → set.contains low.born m ≡ true
  things_born m ts h = go (c.shaped m)
    where
      go : IsShaped i n from first low v.things m → set.contains low.born m ≡ true
      go (IsShaped.nothing a k t) = no_value (sym t ∙ h)
      go (IsShaped.atom a k t u r) = c.stand_born.marks m (inl (some _ _ a))
      go (IsShaped.packet a k t r) = c.stand_born.marks m (inr (some _ _ k))

  -- the low level has the same places, but for those of messengers
  abbrev pub SamePlaces : Config → Type 0
  SamePlaces next = (q : Name) → (set.contains v.standing.messengers q ≡ true → same_name q (daemon_agent n) ≡ true) → map.get next.places q ≡ map.get low.places q

  -- the next configuration of the low level, with things, locks and phases
  pub record NextWith (next : Config) (things : NameMap (List Thing)) (lock : Locks) (phase : Name → Phase) : Type 0 where
    pub sites : next.sites ≡ low.sites
    pub places : SamePlaces next
    pub said : next.said ≡ low.said
    pub born : (q : Name) → set.contains low.born q ≡ true → set.contains next.born q ≡ true
    pub stand_born : AreBorn next
    pub shaped : (m : Name) → IsShaped i n from first next things m
    pub atoms : (m : Name) → (map.get things m >>= first_atom_of) ≡ (map.get v.things m >>= first_atom_of)
    pub packets : (m : Name) → (map.get things m >>= first_packet_of) ≡ (map.get v.things m >>= first_packet_of)
    pub protocol : Protocol (record { place = λ q. whereabouts (map.get high.places q); lock = lock }) phase (chips things)
    pub locks_born : (a l : Name) → lock a ≡ Some l → set.contains next.born l ≡ true
    pub locks_apart : (a l : Name) → lock a ≡ Some l → set.contains (own_names n) l ≡ true → l ≡ own n 13
    pub main : is_some (lock (main_agent n)) ≡ true
    pub known : (m : Name) (ts : List Thing) → map.get things m ≡ Some ts → All (λ t. KnowsOnly (may_know lock (chips things) t) (is_channel n high.born) from t) ts
    pub hints : KeepsHints i low high next high v.things things
    pub carriers : (m : Name) (ts : List Thing) → map.get things m ≡ Some ts → All (IsCarrier v.standing.messengers) ts

  truth : (t : Bool) → (t ≡ true) ⊎ (t ≡ false)
  truth true = inl refl
  truth false = inr refl

  pub quiet_with : (next : Config) (things : NameMap (List Thing)) (lock : Locks) (phase : Name → Phase) → NextWith next things lock phase → Coupled i n from first next high (record v { things = things; lock = lock; phase = phase })
  quiet_with next things lock phase x = record {
    low_sites = x.sites ∙ c.low_sites;
    high_sites = c.high_sites;
    daemon = x.places (daemon_agent n) (λ is. same_name-itself (daemon_agent n)) ∙ c.daemon;
    no_daemon = c.no_daemon;
    places = λ q e f. x.places q (λ is. absurd (let bad : false ≡ true = sym f ∙ is in cc)) ∙ c.places q e f;
    messengers = c.messengers;
    messengers_born = λ q is. x.born q (c.messengers_born q is);
    said = x.said ∙ c.said;
    born = λ q h. x.born q (c.born q h);
    own_born = c.own_born;
    stand_born = x.stand_born;
    shaped = x.shaped;
    mirrored = record { up = λ m a h. c.mirrored.up m a (sym (x.atoms m) ∙ h); down = λ k a h. let d = c.mirrored.down k a h in (d.0, d.1, x.atoms d.0 ∙ d.2) };
    mirrored_packets = record { up = λ m a h. c.mirrored_packets.up m a (sym (x.packets m) ∙ h); down = λ k a h. let d = c.mirrored_packets.down k a h in (d.0, d.1, x.packets d.0 ∙ d.2) };
    new_marks = λ m h. c.new_marks m (still_new m h);
    old_marks = λ m h. old m h (truth (set.contains low.born m));
    distinct = λ m k ts us h i t u e. let a = was m ts h t in let b = was k us i u in c.distinct m k a.0 b.0 a.1 b.1 a.2 b.2 e;
    protocol = x.protocol;
    locks_born = x.locks_born;
    locks_apart = x.locks_apart;
    main = x.main;
    known = x.known;
    hints = λ is. x.hints is (low_grows low high next x.born) (c.hints is);
    carriers = x.carriers;
  }
    where
      still_new : (m : Name) → set.contains next.born m ≡ false → set.contains low.born m ≡ false
      still_new m h = elim (truth (set.contains low.born m)) [ inl t ↦ absurd (let bad = x.born m t in cc) | inr f ↦ f ]

      old : (m : Name) → set.contains next.born m ≡ true → (set.contains low.born m ≡ true) ⊎ (set.contains low.born m ≡ false) → set.contains next.born (stands_for v.standing m) ≡ true
      old m h (inl t) = x.born (stands_for v.standing m) (c.old_marks m t)
      old m h (inr f) = ap (set.contains next.born) (c.new_marks m f) ∙ h

      -- what is of the high level was so
      was : (m : Name) (ts : List Thing) → map.get things m ≡ Some ts → is_high ts ≡ true → (us : List Thing) × (map.get v.things m ≡ Some us) × (is_high us ≡ true)
      was m ts h t = go (map.get v.things m) refl (same ∙ ap (λ o. is_some (o >>= first_atom_of) || is_some (o >>= first_packet_of)) h ∙ t)
        where
          same : (is_some (map.get v.things m >>= first_atom_of) || is_some (map.get v.things m >>= first_packet_of))
              ≡ (is_some (map.get things m >>= first_atom_of) || is_some (map.get things m >>= first_packet_of))
          same = ap (λ o. is_some o || is_some (map.get v.things m >>= first_packet_of)) (sym (x.atoms m))
              ∙ ap (λ o. is_some (map.get things m >>= first_atom_of) || is_some o) (sym (x.packets m))

          go : (o : Option (List Thing)) → map.get v.things m ≡ o → (is_some (o >>= first_atom_of) || is_some (o >>= first_packet_of)) ≡ true
              → (us : List Thing) × (map.get v.things m ≡ Some us) × (is_high us ≡ true)
          go None i k = absurd cc
          go (Some us) i k = (us, i, k)

  -- the next configuration of the low level, with things and phases
  pub record Next (next : Config) (things : NameMap (List Thing)) (phase : Name → Phase) : Type 0 where
    pub sites : next.sites ≡ low.sites
    pub places : SamePlaces next
    pub said : next.said ≡ low.said
    pub born : (q : Name) → set.contains low.born q ≡ true → set.contains next.born q ≡ true
    pub stand_born : AreBorn next
    pub shaped : (m : Name) → IsShaped i n from first next things m
    pub atoms : (m : Name) → (map.get things m >>= first_atom_of) ≡ (map.get v.things m >>= first_atom_of)
    pub packets : (m : Name) → (map.get things m >>= first_packet_of) ≡ (map.get v.things m >>= first_packet_of)
    pub protocol : Protocol (scene v high) phase (chips things)
    pub known : (m : Name) (ts : List Thing) → map.get things m ≡ Some ts → All (λ t. KnowsOnly (may_know v.lock (chips things) t) (is_channel n high.born) from t) ts
    pub hints : KeepsHints i low high next high v.things things
    pub carriers : (m : Name) (ts : List Thing) → map.get things m ≡ Some ts → All (IsCarrier v.standing.messengers) ts

  pub quiet : (next : Config) (things : NameMap (List Thing)) (phase : Name → Phase) → Next next things phase → Coupled i n from first next high (record v { things = things; phase = phase })
  quiet next things phase x = quiet_with next things v.lock phase (record {
    sites = x.sites;
    places = x.places;
    said = x.said;
    born = x.born;
    stand_born = x.stand_born;
    shaped = x.shaped;
    atoms = x.atoms;
    packets = x.packets;
    protocol = x.protocol;
    locks_born = λ a l h. x.born l (c.locks_born a l h);
    locks_apart = c.locks_apart;
    main = c.main;
    known = x.known;
    hints = x.hints;
    carriers = x.carriers;
  })
