-- What stands under the marks of both levels, written mark by mark, where what goes and comes shows no chips: an atom or a packet of the source.
use Rattle.std.proofs.Common.{
  ◌≡◌,
  ◌⊎◌,
  inl,
  inr,
  ℕ,
  Bool,
  true,
  false,
  cond,
  Option,
  None,
  Some,
  IsSome,
  IfSome,
  List,
  [],
  ◌∷◌,
  ◌++◌,
  refl,
  sym,
  ap,
  subst,
  ◌∙◌,
}
use Rattle.std.specs.List.{All, flat_map}
use Rattle.std.proofs.lemmas.List.Elements.{All-from_recursion, All-nil, All-weaker}
use Rattle.std.proofs.lemmas.List.Sorted.{list_any-IsPermutation}
use Rattle.std.specs.FinMap as map
use Rattle.std.specs.FinSet as set
use Rattle.np_syntax.specs.declared.value.Name.{Name}
use Rattle.np_syntax.specs.declared.value.Value.{Value}
use Rattle.np_syntax.specs.declared.event.Event.{Event}
use Rattle.np_syntax.specs.Options.{◌>>=◌}
use Rattle.np_syntax.specs.Reordering.{Reordered, and_then, kept}
use Rattle.np_syntax.proofs.Options.{done}
use Rattle.np_syntax.proofs.Reorderings.{reorder-back}
use Rattle.np_tables.specs.Names.{NameMap, same_name}
use Rattle.np_tables.proofs.Tables.{cut_absent, same_name-is}
use Rattle.np_calculus.specs.declared.config.Atom.{Atom}
use Rattle.np_calculus.specs.declared.config.Packet.{Packet}
use Rattle.np_calculus.specs.Changes.{rewritten, with_made}
use Rattle.np_calculus.specs.Config.{Config}
use Rattle.np_calculus.specs.Reductions.{apply}
use Rattle.np_calculus.specs.Starts.{daemon_agent}
use Rattle.np_lift.specs.CachedLift.{stands_for}
use Rattle.simulate_laws.specs.protocol.CacheSteps.{CacheStep}
use Rattle.simulate_laws.specs.protocol.Phases.{Phase}
use Rattle.simulate_laws.specs.protocol.Protocol.{Protocol}
use Rattle.infrastructure_texts.specs.Infrastructures.{Infrastructure}
use Rattle.simulate_laws.specs.things.Shapes.{Are, Is, IsUnderWay}
use Rattle.simulate_laws.specs.things.Things.{Thing, carried, first_atom_of, first_packet_of, high_atom, high_packet, show_all, shows, show_all_caches, shows_caches}
use Rattle.simulate_laws.specs.levels.Coupled.{Coupled, IsShaped, KnowsOnly, View, chips, is_channel, is_child_of, may_know, scene, IsCarrier, cache_chips, shown, is_high}
use Rattle.simulate_laws.specs.levels.Letters.{SameLetters, first_letter_of, letter_under}
use Rattle.simulate_laws.specs.levels.Mirrors.{Mirrors}
use Rattle.simulate_laws.proofs.levels.Marks.{may_know_more, reshape}
use Rattle.simulate_laws.proofs.levels.Orders.{entries_at, entries_put, flat, permuted}
use Rattle.simulate_laws.proofs.levels.Quiet.{knows_more, things_born}
use Rattle.simulate_laws.proofs.levels.Starts.{any_order}
use Rattle.simulate_laws.proofs.levels.Together.{IsOldOrNew, knows_wider, more_channels, one_mark, together, true_or_false, high_by_atom, high_by_packet}
use Rattle.simulate_laws.proofs.levels.Writes.{IsOnly, get-rewritten, mirror_at, mirrors_write, rewritten_here, rewritten_there, uncut}
use Rattle.simulate_laws.proofs.levels.Caches.{AllCarry, by_step, carry_cut, carry_put, no_carrier, reordered}
use Rattle.simulate_laws.proofs.levels.Values.{no_value}
use Rattle.np_calculus.proofs.Fits.{some}

-- a thing that shows no chips and carries no letter
abbrev pub IsSilent : Thing → Type 0
IsSilent t = (shows t ≡ []) × (shows_caches t ≡ []) × (carried t ≡ None)

-- what stands under a mark for one thing at most
pub data Holds (i : Infrastructure) (n from first : ℕ) : Option Atom → Option Packet → Option Thing → Type 0 where
  nothing : Holds i n from first None None None
  atom : {a : Atom} {t : Thing} → Is i n from first t a → Holds i n from first (Some a) None (Some t)
  packet : {k : Packet} {t : Thing} → IsUnderWay n t k → Holds i n from first None (Some k) (Some t)

abbrev pub listed : Option Thing → Option (List Thing)
listed None = None
listed (Some t) = Some (t ∷ [])

-- what is shown stays, in another order, where a mark that shows nothing has other things that show nothing
module _ {X : Type 0} (show : Thing → List X) (things : NameMap (List Thing)) (m : Name) where
  abbrev IsBlank : Type 0
  IsBlank = (map.get things m ≡ None) ⊎ ((ts : List Thing) × (map.get things m ≡ Some ts) × (flat_map show ts ≡ []))

  without : IsBlank → Reordered (shown show (map.remove things m)) (shown show things)
  without (inl none) = subst (λ (t : NameMap (List Thing)). Reordered (shown show t) (shown show things)) (sym (cut_absent things m none)) kept
  without (inr some) = reorder-back
      (subst (λ l. Reordered (shown show things) (l ++ shown show (map.remove things m))) some.2
      (flat (λ (e : Name × List Thing). flat_map show e.1) (entries_at things m some.0 some.1)))

  shown_on : IsBlank → (u : Option Thing) → IfSome u (λ t. show t ≡ []) → Reordered (shown show (rewritten things m (listed u))) (shown show things)
  shown_on blank None quiet = without blank
  shown_on blank (Some t) quiet =
      and_then (subst (λ l. Reordered (shown show (map.insert things m (t ∷ []))) (l ++ shown show (map.remove things m))) (ap (λ l. l ++ []) quiet)
      (flat (λ (e : Name × List Thing). flat_map show e.1) (entries_put things m (t ∷ [])))) (without blank)

listed-atom : (o : Option Thing) → (listed o >>= first_atom_of) ≡ (o >>= high_atom)
listed-atom None = refl
listed-atom (Some t) = refl

listed-packet : (o : Option Thing) → (listed o >>= first_packet_of) ≡ (o >>= high_packet)
listed-packet None = refl
listed-packet (Some t) = refl

module _ {i : Infrastructure} {n from first : ℕ} {low high : Config} {v : View} (c : Coupled i n from first low high v) (e : Event) where
  -- what a thing may know is known, where the event's names are made
  abbrev pub Knowing : Thing → Type 0
  Knowing t = KnowsOnly (may_know v.lock (chips v.things) t) (is_channel n (with_made high.born e.made)) from t

  -- what stands under the marks of two configurations that come from the coupled ones, and what it is there for
  pub record Stands (atoms : NameMap Atom) (packets : NameMap Packet) (high_atoms : NameMap Atom) (high_packets : NameMap Packet)
      (things : NameMap (List Thing)) : Type 0 where
    pub shaped : (m : Name) → IsShaped i n from first (record low { atoms = atoms; packets = packets }) things m
    pub mirrored : Mirrors (stands_for v.standing) (λ m. map.get things m >>= first_atom_of) (map.get high_atoms)
    pub mirrored_packets : Mirrors (stands_for v.standing) (λ m. map.get things m >>= first_packet_of) (map.get high_packets)
    pub old_or_new : (m : Name) (ts : List Thing) → map.get things m ≡ Some ts → is_high ts ≡ true → IsOldOrNew c m
    pub order : Reordered (chips things) (chips v.things)
    pub cache_order : Reordered (cache_chips things) (cache_chips v.things)
    pub letters : (m : Name) → letter_under things m ≡ letter_under v.things m
    pub known : (m : Name) (ts : List Thing) → map.get things m ≡ Some ts → All Knowing ts
    pub carriers : AllCarry v.standing.messengers things

  pub stands : Stands low.atoms low.packets high.atoms high.packets v.things
  stands = record {
    shaped = λ m. reshape m refl refl refl (c.shaped m);
    mirrored = c.mirrored;
    mirrored_packets = c.mirrored_packets;
    old_or_new = λ m ts h t. inl (ts, h, t);
    order = kept;
    cache_order = kept;
    letters = λ m. refl;
    known = λ m ts h. All-weaker (λ t. KnowsOnly (may_know v.lock (chips v.things) t) (is_channel n high.born) from t) Knowing
        (λ t k. knows_wider (may_know v.lock (chips v.things) t) (may_know v.lock (chips v.things) t) (is_channel n high.born)
        (is_channel n (with_made high.born e.made)) from (λ a h. h) (more_channels n high.born e.made) t k) ts (c.known m ts h);
    carriers = c.carriers;
  }

  -- a mark that may be written: a new one, or one of a thing that shows no chips and carries no letter
  pub data Free (things : NameMap (List Thing)) (m : Name) : Type 0 where
    new : map.get things m ≡ None → set.contains low.born m ≡ false → Free things m
    old : {ts : List Thing} → map.get things m ≡ Some ts → show_all ts ≡ [] → show_all_caches ts ≡ [] → first_letter_of ts ≡ None → is_high ts ≡ true → Free things m

  module _ {atoms : NameMap Atom} {packets : NameMap Packet} {high_atoms : NameMap Atom} {high_packets : NameMap Packet} {things : NameMap (List Thing)}
      (s : Stands atoms packets high_atoms high_packets things) (m : Name) (free : Free things m) where
    is_old_or_new : IsOldOrNew c m
    is_old_or_new = go free
      where
        go : Free things m → IsOldOrNew c m
        go (Free.new none f) = inr f
        go (Free.old {ts = ts} h silent uncached none high) = s.old_or_new m ts h high

    only : {X : Type 0} (f : List Thing → Option X) → ((ts : List Thing) (y : X) → f ts ≡ Some y → is_high ts ≡ true)
        → IsOnly (stands_for v.standing) (λ q. map.get things q >>= f) m
    only f high q y h same = go (map.get things q) refl h
      where
        go : (o : Option (List Thing)) → map.get things q ≡ o → (o >>= f) ≡ Some y → q ≡ m
        go None i j = no_value j
        go (Some ts) i j = one_mark c q m same (s.old_or_new q ts i (high ts y j)) is_old_or_new

    -- the high level has under this mark what the things are
    pub high_atom_at : map.get high_atoms (stands_for v.standing m) ≡ (map.get things m >>= first_atom_of)
    high_atom_at = mirror_at (stands_for v.standing) (λ q. map.get things q >>= first_atom_of) (map.get high_atoms) m s.mirrored (only first_atom_of high_by_atom)

    pub high_packet_at : map.get high_packets (stands_for v.standing m) ≡ (map.get things m >>= first_packet_of)
    high_packet_at = mirror_at (stands_for v.standing) (λ q. map.get things q >>= first_packet_of) (map.get high_packets) m s.mirrored_packets (only first_packet_of high_by_packet)

    module _ (a : Option Atom) (k : Option Packet) (u : Option Thing) (holds : Holds i n from first a k u) (silent : IfSome u IsSilent)
        (knows : IfSome u Knowing) where
      abbrev after : NameMap (List Thing)
      after = rewritten things m (listed u)

      here : (q : Name) → same_name q m ≡ true → map.get after q ≡ listed u
      here q t = ap (map.get after) (same_name-is q m t) ∙ rewritten_here things m (listed u)

      there : (q : Name) → same_name q m ≡ false → map.get after q ≡ map.get things q
      there q f = rewritten_there things m (listed u) q f

      shape_here : (a : Option Atom) (k : Option Packet) (u : Option Thing) → Holds i n from first a k u → map.get (rewritten atoms m a) m ≡ a
          → map.get (rewritten packets m k) m ≡ k → map.get (rewritten things m (listed u)) m ≡ listed u
          → IsShaped i n from first (record low { atoms = rewritten atoms m a; packets = rewritten packets m k }) (rewritten things m (listed u)) m
      shape_here a k u Holds.nothing x y z = IsShaped.nothing x y z
      shape_here a k u (Holds.atom {t = t} i) x y z = IsShaped.atom x y z (All-nil (λ u. high_atom u ≡ None)) (Are.one i)
      shape_here a k u (Holds.packet i) x y z = IsShaped.packet x y z i

      shaped : (q : Name) (t : Bool) → same_name q m ≡ t
          → IsShaped i n from first (record low { atoms = rewritten atoms m a; packets = rewritten packets m k }) after q
      shaped q true e = subst (IsShaped i n from first (record low { atoms = rewritten atoms m a; packets = rewritten packets m k }) after)
          (sym (same_name-is q m e))
          (shape_here a k u holds (rewritten_here atoms m a) (rewritten_here packets m k) (rewritten_here things m (listed u)))
      shaped q false e = reshape q (rewritten_there atoms m a q e) (rewritten_there packets m k q e) (there q e) (s.shaped q)

      first_of : {X : Type 0} (f : List Thing → Option X) (o : Option X) → (listed u >>= f) ≡ o → (q : Name)
          → (map.get after q >>= f) ≡ cond (same_name q m) o (map.get things q >>= f)
      first_of f o is q = go (same_name q m) refl
        where
          go : (t : Bool) → same_name q m ≡ t → (map.get after q >>= f) ≡ cond t o (map.get things q >>= f)
          go true e = ap (λ x. x >>= f) (here q e) ∙ is
          go false e = ap (λ x. x >>= f) (there q e)

      old_or_new : (q : Name) (ts : List Thing) (t : Bool) → same_name q m ≡ t → map.get after q ≡ Some ts → is_high ts ≡ true → IsOldOrNew c q
      old_or_new q ts true e h k = subst (IsOldOrNew c) (sym (same_name-is q m e)) is_old_or_new
      old_or_new q ts false e h k = s.old_or_new q ts (sym (there q e) ∙ h) k

      known : (q : Name) (ts : List Thing) (t : Bool) → same_name q m ≡ t → map.get after q ≡ Some ts → All Knowing ts
      known q ts true e h = go u knows (sym (here q e) ∙ h)
        where
          go : (u : Option Thing) → IfSome u Knowing → listed u ≡ Some ts → All Knowing ts
          go None k i = no_value i
          go (Some t) k i = subst (All Knowing) (sym (done i)) (All-from_recursion Knowing (t ∷ []) (k, tt))
      known q ts false e h = s.known q ts (sym (there q e) ∙ h)

      order : Reordered (chips after) (chips things)
      order = shown_on shows things m (blank free) u (quiet u silent)
        where
          blank : Free things m → IsBlank shows things m
          blank (Free.new none f) = inl none
          blank (Free.old {ts = ts} h silent uncached none high) = inr (ts, h, silent)

          quiet : (u : Option Thing) → IfSome u IsSilent → IfSome u (λ t. shows t ≡ [])
          quiet None h = tt
          quiet (Some t) h = h.0

      cache_order : Reordered (cache_chips after) (cache_chips things)
      cache_order = shown_on shows_caches things m (blank free) u (quiet u silent)
        where
          blank : Free things m → IsBlank shows_caches things m
          blank (Free.new none f) = inl none
          blank (Free.old {ts = ts} h silent uncached none high) = inr (ts, h, uncached)

          quiet : (u : Option Thing) → IfSome u IsSilent → IfSome u (λ t. shows_caches t ≡ [])
          quiet None h = tt
          quiet (Some t) h = h.1

      carriers : AllCarry v.standing.messengers after
      carriers = go u silent
        where
          go : (u : Option Thing) → IfSome u IsSilent → AllCarry v.standing.messengers (rewritten things m (listed u))
          go None quiet = carry_cut v.standing.messengers things m s.carriers
          go (Some t) quiet = carry_put v.standing.messengers things m s.carriers (t ∷ [])
              (All-from_recursion (IsCarrier v.standing.messengers) (t ∷ []) (no_carrier v.standing.messengers t quiet.2, tt))

      letters : (q : Name) → letter_under after q ≡ letter_under v.things q
      letters q = first_of first_letter_of None (none u silent) q ∙ go (same_name q m) refl
        where
          none : (u : Option Thing) → IfSome u IsSilent → (listed u >>= first_letter_of) ≡ None
          none None quiet = refl
          none (Some t) quiet = quiet.2

          none_there : Free things m → letter_under things m ≡ None
          none_there (Free.new absent f) = ap (λ o. o >>= first_letter_of) absent
          none_there (Free.old h quiet uncached none high) = ap (λ o. o >>= first_letter_of) h ∙ none

          go : (t : Bool) → same_name q m ≡ t → cond t None (letter_under things q) ≡ letter_under v.things q
          go true e = sym (ap (letter_under things) (same_name-is q m e) ∙ none_there free) ∙ s.letters q
          go false e = s.letters q

      pub write : Stands (rewritten atoms m a) (rewritten packets m k) (rewritten high_atoms (stands_for v.standing m) (u >>= high_atom))
          (rewritten high_packets (stands_for v.standing m) (u >>= high_packet)) after
      write = record {
        shaped = λ q. shaped q (same_name q m) refl;
        mirrored = mirrors_write (stands_for v.standing) (λ q. map.get things q >>= first_atom_of) (map.get high_atoms) (λ q. map.get after q >>= first_atom_of)
            (map.get (rewritten high_atoms (stands_for v.standing m) (u >>= high_atom))) m (u >>= high_atom)
            s.mirrored (first_of first_atom_of (u >>= high_atom) (listed-atom u)) (get-rewritten high_atoms (stands_for v.standing m) (u >>= high_atom))
            (only first_atom_of high_by_atom);
        mirrored_packets = mirrors_write (stands_for v.standing) (λ q. map.get things q >>= first_packet_of) (map.get high_packets)
            (λ q. map.get after q >>= first_packet_of) (map.get (rewritten high_packets (stands_for v.standing m) (u >>= high_packet))) m (u >>= high_packet)
            s.mirrored_packets (first_of first_packet_of (u >>= high_packet) (listed-packet u))
            (get-rewritten high_packets (stands_for v.standing m) (u >>= high_packet)) (only first_packet_of high_by_packet);
        old_or_new = λ q ts h k. old_or_new q ts (same_name q m) refl h k;
        order = and_then order s.order;
        cache_order = and_then cache_order s.cache_order;
        letters = letters;
        known = λ q ts h. known q ts (same_name q m) refl h;
        carriers = carriers;
      }

    -- an atom stands there then, and no packet did
    pub put_atom : (a : Atom) (t : Thing) (h : Atom) → Is i n from first t a → high_atom t ≡ Some h → high_packet t ≡ None → IsSilent t → Knowing t
        → map.get packets m ≡ None → (map.get things m >>= first_packet_of) ≡ None
        → Stands (map.insert atoms m a) packets (map.insert high_atoms (stands_for v.standing m) h) high_packets (map.insert things m (t ∷ []))
    put_atom a t h is its_atom no_packet silent knows none high_none =
        let w : Stands (map.insert atoms m a) (rewritten packets m None) (rewritten high_atoms (stands_for v.standing m) (high_atom t))
        (rewritten high_packets (stands_for v.standing m) (high_packet t)) (map.insert things m (t ∷ [])) =
        write (Some a) None (Some t) (Holds.atom is) silent knows in
        let x = subst (λ (p : NameMap Packet). Stands (map.insert atoms m a) p (rewritten high_atoms (stands_for v.standing m) (high_atom t))
        (rewritten high_packets (stands_for v.standing m) (high_packet t)) (map.insert things m (t ∷ []))) (sym (uncut packets m none)) w in
        let y = subst (λ (o : Option Atom). Stands (map.insert atoms m a) packets (rewritten high_atoms (stands_for v.standing m) o)
        (rewritten high_packets (stands_for v.standing m) (high_packet t)) (map.insert things m (t ∷ []))) its_atom x in
        subst (λ (p : NameMap Packet). Stands (map.insert atoms m a) packets (map.insert high_atoms (stands_for v.standing m) h) p (map.insert things m (t ∷ [])))
        (ap (rewritten high_packets (stands_for v.standing m)) no_packet ∙ sym (uncut high_packets (stands_for v.standing m) (high_packet_at ∙ high_none))) y

    -- an atom goes
    pub cut_atom : map.get packets m ≡ None → (map.get things m >>= first_packet_of) ≡ None
        → Stands (map.remove atoms m) packets (map.remove high_atoms (stands_for v.standing m)) high_packets (map.remove things m)
    cut_atom none high_none =
        let w : Stands (map.remove atoms m) (rewritten packets m None) (map.remove high_atoms (stands_for v.standing m)) (rewritten high_packets (stands_for v.standing m) None)
        (map.remove things m) = write None None None Holds.nothing tt tt in
        let x = subst (λ (p : NameMap Packet). Stands (map.remove atoms m) p (map.remove high_atoms (stands_for v.standing m))
        (rewritten high_packets (stands_for v.standing m) None) (map.remove things m)) (sym (uncut packets m none)) w in
        subst (λ (p : NameMap Packet). Stands (map.remove atoms m) packets (map.remove high_atoms (stands_for v.standing m)) p (map.remove things m))
        (sym (uncut high_packets (stands_for v.standing m) (high_packet_at ∙ high_none))) x

    -- a packet goes
    pub cut_packet : map.get atoms m ≡ None → (map.get things m >>= first_atom_of) ≡ None
        → Stands atoms (map.remove packets m) high_atoms (map.remove high_packets (stands_for v.standing m)) (map.remove things m)
    cut_packet none high_none =
        let w : Stands (rewritten atoms m None) (map.remove packets m) (rewritten high_atoms (stands_for v.standing m) None) (map.remove high_packets (stands_for v.standing m))
        (map.remove things m) = write None None None Holds.nothing tt tt in
        let x = subst (λ (p : NameMap Atom). Stands p (map.remove packets m) (rewritten high_atoms (stands_for v.standing m) None)
        (map.remove high_packets (stands_for v.standing m)) (map.remove things m)) (sym (uncut atoms m none)) w in
        subst (λ (p : NameMap Atom). Stands atoms (map.remove packets m) p (map.remove high_packets (stands_for v.standing m)) (map.remove things m))
        (sym (uncut high_atoms (stands_for v.standing m) (high_atom_at ∙ high_none))) x

  -- a new mark stands for itself, and nothing is there
  pub record IsNewMark (m : Name) : Type 0 where
    pub itself : stands_for v.standing m ≡ m
    pub no_things : map.get v.things m ≡ None
    pub no_packet : map.get low.packets m ≡ None
    pub high_new : set.contains high.born m ≡ false

  pub new_mark : (m : Name) → set.contains low.born m ≡ false → IsNewMark m
  new_mark m f = record {
    itself = c.new_marks m f;
    no_things = no_things (map.get v.things m) refl;
    no_packet =
        no_packet (map.get low.packets m) refl;
    high_new = high_new (true_or_false (set.contains high.born m));
  }
    where
      no_things : (o : Option (List Thing)) → map.get v.things m ≡ o → o ≡ None
      no_things None i = refl
      no_things (Some ts) i = absurd (let bad : false ≡ true = sym f ∙ things_born c m ts i in cc)

      no_packet : (o : Option Packet) → map.get low.packets m ≡ o → o ≡ None
      no_packet None i = refl
      no_packet (Some k) i = absurd (let bad : false ≡ true = sym f ∙ c.stand_born.marks m (inr (some (map.get low.packets m) k i)) in cc)

      high_new : (set.contains high.born m ≡ true) ⊎ (set.contains high.born m ≡ false) → set.contains high.born m ≡ false
      high_new (inl t) = absurd (let bad : false ≡ true = sym f ∙ c.born m t in cc)
      high_new (inr g) = g

  -- so both levels are coupled after the event
  pub leave : {atoms : NameMap Atom} {packets : NameMap Packet} {high_atoms : NameMap Atom} {high_packets : NameMap Packet} {things : NameMap (List Thing)}
      → Stands atoms packets high_atoms high_packets things
      → (next : Config) (said high_said : List (ℕ × Value)) → apply low e ≡ Some next
      → next ≡ record low { atoms = atoms; packets = packets; born = with_made low.born e.made; said = said } → said ≡ high_said
      → (w : View) × (w.standing ≡ v.standing) × Coupled i n from first next
      (record high { atoms = high_atoms; packets = high_packets; born = with_made high.born e.made; said = high_said }) w × SameLetters v w
  leave {atoms} {packets} {high_atoms} {high_packets} {things} s next said high_said applies is same = (
    record v { things = things; phase = protocol.0 },
    refl,
    together c next (record high { atoms = high_atoms; packets = high_packets; born = with_made high.born e.made; said = high_said }) e things protocol.0
        (record {
          applies = applies;
          sites = ap (λ (d : Config). d.sites) is;
          high_sites = refl;
          daemon = ap (λ (d : Config). map.get d.places (daemon_agent n)) is;
          no_daemon = refl;
          places = λ q f g. ap (λ (d : Config). map.get d.places q) is ∙ c.places q f g;
          messengers = c.messengers;
          said = ap (λ (d : Config). d.said) is ∙ same;
          born = ap (λ (d : Config). d.born) is;
          high_born = refl;
          shaped = λ m. reshape m (ap (λ (d : Config). map.get d.atoms m) is) (ap (λ (d : Config). map.get d.packets m) is) refl (s.shaped m);
          mirrored = s.mirrored;
          mirrored_packets = s.mirrored_packets;
          old_or_new = s.old_or_new;
          protocol = protocol.1;
          known = λ m ts h. All-weaker Knowing (λ t. KnowsOnly (may_know v.lock (chips things) t) (is_channel n (with_made high.born e.made)) from t)
              (λ t k. knows_more (may_know v.lock (chips v.things) t) (may_know v.lock (chips things) t) (is_channel n (with_made high.born e.made)) from
              (more t) t k) ts (s.known m ts h);
          hints = by_step low high next (record high { atoms = high_atoms; packets = high_packets; born = with_made high.born e.made; said = high_said })
              v.things things (reordered s.cache_order) (λ is. CacheStep.still (λ q. refl));
          carriers = s.carriers;
        }),
    s.letters,
  )
    where
      protocol : (phase : Name → Phase) × Protocol (scene v high) phase (chips things)
      protocol = any_order (scene v high) v.phase (chips v.things) (chips things) (permuted s.order) c.protocol

      more : (t : Thing) (b : Name) → may_know v.lock (chips v.things) t b ≡ true → may_know v.lock (chips things) t b ≡ true
      more = may_know_more v.lock (chips v.things) (chips things)
          (λ a b i. sym (list_any-IsPermutation (is_child_of a b) (chips v.things) (chips things) (permuted (reorder-back s.order))) ∙ i)
