-- What a thing is at the high level goes on as another thing under a new mark, which stands from then on for what its mark stands for; and what it did
-- under that is ended.
use Rattle.std.proofs.Common.{◌≡◌, inl, inr, ℕ, Bool, true, false, cond, Option, None, Some, List, [], ◌∷◌, refl, sym, ap, subst, ◌∙◌, ◌++◌}
use Rattle.std.specs.List.{All, list_any}
use Rattle.std.proofs.lemmas.List.Elements.{All-from_recursion, All-nil, All-weaker}
use Rattle.std.specs.FinMap as map
use Rattle.std.specs.FinSet as set
use Rattle.np_syntax.specs.declared.value.Name.{Name}
use Rattle.np_syntax.specs.declared.event.Event.{Event}
use Rattle.np_syntax.specs.Options.{◌>>=◌}
use Rattle.np_syntax.proofs.Options.{done}
use Rattle.np_tables.specs.Names.{NameMap, same_name}
use Rattle.np_tables.proofs.Tables.{get-put, same_name-is, same_name-itself}
use Rattle.np_calculus.specs.declared.config.Atom.{Atom}
use Rattle.np_calculus.specs.declared.config.Packet.{Packet}
use Rattle.np_calculus.specs.Config.{Config}
use Rattle.np_calculus.proofs.OwnNames.{not_true}
use Rattle.simulate_laws.specs.protocol.Steps.{Step}
use Rattle.np_lift.specs.CachedLift.{stands_for, Standing}
use Rattle.infrastructure_texts.specs.Infrastructures.{Infrastructure}
use Rattle.simulate_laws.specs.things.Shapes.{Are}
use Rattle.simulate_laws.specs.things.Things.{Thing, first_atom_of, first_packet_of, high_atom, shows, shows_caches, carried, high_packet, show_all, show_all_caches}
use Rattle.simulate_laws.specs.levels.Coupled.{Coupled, IsShaped, KnowsOnly, View, chips, is_channel, is_child_of, is_high, may_know, cache_chips}
use Rattle.simulate_laws.specs.levels.Letters.{first_letter_of, letter_under}
use Rattle.simulate_laws.specs.levels.Mirrors.{Mirrors}
use Rattle.simulate_laws.proofs.levels.Keeping.{only_at, step_new}
use Rattle.simulate_laws.proofs.levels.Marks.{may_know_more, reshape}
use Rattle.simulate_laws.proofs.levels.Quiet.{knows_more, things_born}
use Rattle.simulate_laws.proofs.levels.Together.{high_by_atom, true_or_false}
use Rattle.simulate_laws.proofs.levels.Values.{no_value}
use Rattle.np_calculus.proofs.Fits.{some}

module _ {i : Infrastructure} {n from first : ℕ} {low high : Config} {v : View} (c : Coupled i n from first low high v) (e : Event) (next then_high : Config) (m : Name) (standing : Standing)
    (old_thing new_thing : Thing) (low_rest low_child : Atom) where
  abbrev us : List Thing
  us = Thing.ended ∷ []

  abbrev ws : List Thing
  ws = new_thing ∷ []

  abbrev half : NameMap (List Thing)
  half = map.insert v.things e.actor us

  abbrev pub things : NameMap (List Thing)
  things = map.insert half m ws

  -- what the event does at both levels
  pub record Shifts : Type 0 where
    pub there : map.get v.things e.actor ≡ Some (old_thing ∷ [])
    pub old_atom : Atom
    pub was : high_atom old_thing ≡ Some old_atom
    pub was_no_packet : high_packet old_thing ≡ None
    pub new_atom : Atom
    pub now : high_atom new_thing ≡ Some new_atom
    pub no_high_packet : high_packet new_thing ≡ None
    pub new : set.contains low.born m ≡ false
    pub no_packet : map.get low.packets e.actor ≡ None
    pub stands_new : stands_for standing m ≡ stands_for v.standing e.actor
    pub stands_old : (q : Name) → same_name q m ≡ false → stands_for standing q ≡ stands_for v.standing q
    pub atoms : (q : Name) → map.get next.atoms q ≡ cond (same_name q e.actor) (Some low_rest) (cond (same_name q m) (Some low_child) (map.get low.atoms q))
    pub packets : (q : Name) → map.get next.packets q ≡ map.get low.packets q
    pub high_atoms : (k : Name) → map.get then_high.atoms k ≡ cond (same_name k (stands_for v.standing e.actor)) (Some new_atom) (map.get high.atoms k)
    pub high_packets : (k : Name) → map.get then_high.packets k ≡ map.get high.packets k
    pub born : (q : Name) → set.contains low.born q ≡ true → set.contains next.born q ≡ true
    pub mark_born : set.contains next.born m ≡ true
    pub are_rest : Are i n from first low_rest us
    pub are_child : Are i n from first low_child ws

  -- and what both levels have afterwards
  pub record Shifted : Type 0 where
    pub shaped : (q : Name) → IsShaped i n from first next things q
    pub mirrored : Mirrors (stands_for standing) (λ q. map.get things q >>= first_atom_of) (map.get then_high.atoms)
    pub mirrored_packets : Mirrors (stands_for standing) (λ q. map.get things q >>= first_packet_of) (map.get then_high.packets)
    pub new_marks : (q : Name) → set.contains next.born q ≡ false → stands_for standing q ≡ q
    pub old_marks : (q : Name) → set.contains next.born q ≡ true → set.contains next.born (stands_for standing q) ≡ true
    pub distinct : (q k : Name) (ts os : List Thing) → map.get things q ≡ Some ts → map.get things k ≡ Some os → is_high ts ≡ true → is_high os ≡ true
        → stands_for standing q ≡ stands_for standing k → q ≡ k
    pub unseen : map.get v.things m ≡ None
    pub step : Step (chips v.things) (chips things) (show_all (old_thing ∷ [])) (show_all ws ++ show_all us)
    pub cache_step : Step (cache_chips v.things) (cache_chips things) (show_all_caches (old_thing ∷ [])) (show_all_caches ws ++ show_all_caches us)
    pub known : ((a d : Name) → list_any (is_child_of a d) (chips v.things) ≡ true → list_any (is_child_of a d) (chips things) ≡ true)
        → KnowsOnly (may_know v.lock (chips things) new_thing) (is_channel n high.born) from new_thing
        → (q : Name) (ts : List Thing) → map.get things q ≡ Some ts → All (λ t. KnowsOnly (may_know v.lock (chips things) t) (is_channel n high.born) from t) ts
    pub letters : (q : Name) → letter_under things q ≡ cond (same_name q m) (carried new_thing) (cond (same_name q e.actor) None (letter_under v.things q))

  module _ (s : Shifts) where
    was_high_thing : is_high (old_thing ∷ []) ≡ true
    was_high_thing = high_by_atom (old_thing ∷ []) s.old_atom s.was

    other : same_name m e.actor ≡ false
    other = not_true _ (λ t. let bad : false ≡ true = sym s.new ∙ ap (set.contains low.born) (same_name-is m e.actor t) ∙ things_born c e.actor (old_thing ∷ []) s.there in cc)

    no_things : (o : Option (List Thing)) → map.get v.things m ≡ o → o ≡ None
    no_things None j = refl
    no_things (Some ts) j = absurd (let bad : false ≡ true = sym s.new ∙ things_born c m ts j in cc)

    no_new_packet : (o : Option Packet) → map.get low.packets m ≡ o → o ≡ None
    no_new_packet None j = refl
    no_new_packet (Some k) j = absurd (let bad : false ≡ true = sym s.new ∙ c.stand_born.marks m (inr (some _ k j)) in cc)

    absent : map.get half m ≡ None
    absent = get-put v.things e.actor us m ∙ ap (λ z. cond z (Some us) (map.get v.things m)) other ∙ no_things (map.get v.things m) refl

    at_things : (q : Name) → map.get things q ≡ cond (same_name q m) (Some ws) (cond (same_name q e.actor) (Some us) (map.get v.things q))
    at_things q = get-put half m ws q ∙ ap (cond (same_name q m) (Some ws)) (get-put v.things e.actor us q)

    new_at : (q : Name) → same_name q m ≡ true → map.get things q ≡ Some ws
    new_at q f = at_things q ∙ ap (λ z. cond z (Some ws) (cond (same_name q e.actor) (Some us) (map.get v.things q))) f

    its_at : (q : Name) → same_name q m ≡ false → same_name q e.actor ≡ true → map.get things q ≡ Some us
    its_at q f g = at_things q ∙ ap (λ z. cond z (Some ws) (cond (same_name q e.actor) (Some us) (map.get v.things q))) f ∙ ap (λ z. cond z (Some us) (map.get v.things q)) g

    unchanged : (q : Name) → same_name q m ≡ false → same_name q e.actor ≡ false → map.get things q ≡ map.get v.things q
    unchanged q f g = at_things q ∙ ap (λ z. cond z (Some ws) (cond (same_name q e.actor) (Some us) (map.get v.things q))) f ∙ ap (λ z. cond z (Some us) (map.get v.things q)) g

    not_both : (q : Name) → same_name q m ≡ true → same_name q e.actor ≡ false
    not_both q f = ap (λ z. same_name z e.actor) (same_name-is q m f) ∙ other

    shaped : (q : Name) (t u : Bool) → same_name q m ≡ t → same_name q e.actor ≡ u → IsShaped i n from first next things q
    shaped q true u f g =
        IsShaped.atom (s.atoms q ∙ ap (λ z. cond z (Some low_rest) (cond (same_name q m) (Some low_child) (map.get low.atoms q))) (not_both q f) ∙ ap (λ z. cond z (Some low_child) (map.get low.atoms q)) f)
        (s.packets q ∙ ap (map.get low.packets) (same_name-is q m f) ∙ no_new_packet (map.get low.packets m) refl) (new_at q f) (All-nil (λ u. high_atom u ≡ None)) s.are_child
    shaped q false true f g =
        IsShaped.atom (s.atoms q ∙ ap (λ z. cond z (Some low_rest) (cond (same_name q m) (Some low_child) (map.get low.atoms q))) g)
        (s.packets q ∙ ap (map.get low.packets) (same_name-is q e.actor g) ∙ s.no_packet) (its_at q f g) (All-nil (λ u. high_atom u ≡ None)) s.are_rest
    shaped q false false f g = reshape q (s.atoms q ∙ ap (λ z. cond z (Some low_rest) (cond (same_name q m) (Some low_child) (map.get low.atoms q))) g ∙ ap (λ z. cond z (Some low_child) (map.get low.atoms q)) f)
        (s.packets q) (unchanged q f g) (c.shaped q)

    -- ---- what the high level has

    -- a mark that has an atom of the high level, and is not the actor, stands for another
    far : (q : Name) (y : Atom) → (map.get v.things q >>= first_atom_of) ≡ Some y → same_name q e.actor ≡ false → same_name (stands_for v.standing q) (stands_for v.standing e.actor) ≡ false
    far q y j f = not_true _ (λ t.
        let same = only_at c first_atom_of high_by_atom e.actor (inl (old_thing ∷ [], s.there, was_high_thing)) q y j (same_name-is _ _ t) in
        let bad : false ≡ true = sym f ∙ ap (λ z. same_name z e.actor) same ∙ same_name-itself e.actor in cc)

    up : (q : Name) (y : Atom) (t u : Bool) → same_name q m ≡ t → same_name q e.actor ≡ u → (map.get things q >>= first_atom_of) ≡ Some y → map.get then_high.atoms (stands_for standing q) ≡ Some y
    up q y true u f g j =
        ap (λ z. map.get then_high.atoms (stands_for standing z)) (same_name-is q m f) ∙ ap (map.get then_high.atoms) s.stands_new
        ∙ s.high_atoms (stands_for v.standing e.actor) ∙ ap (λ t. cond t (Some s.new_atom) (map.get high.atoms (stands_for v.standing e.actor))) (same_name-itself (stands_for v.standing e.actor))
        ∙ sym s.now ∙ sym (ap (λ o. o >>= first_atom_of) (new_at q f)) ∙ j
    up q y false true f g j = no_value (sym (ap (λ o. o >>= first_atom_of) (its_at q f g)) ∙ j)
    up q y false false f g j =
        let was = sym (ap (λ o. o >>= first_atom_of) (unchanged q f g)) ∙ j in
        ap (map.get then_high.atoms) (s.stands_old q f) ∙ s.high_atoms (stands_for v.standing q)
        ∙ ap (λ t. cond t (Some s.new_atom) (map.get high.atoms (stands_for v.standing q))) (far q y was g) ∙ c.mirrored.up q y was

    -- a mark that had something is not the new one
    old_mark : {X : Type 0} (f : List Thing → Option X) (q : Name) (y : X) → (map.get v.things q >>= f) ≡ Some y → same_name q m ≡ false
    old_mark f q y j = not_true _ (λ t. no_value (sym (ap (λ o. o >>= f) (ap (map.get v.things) (same_name-is q m t) ∙ no_things (map.get v.things m) refl)) ∙ j))

    down : (k : Name) (y : Atom) → map.get then_high.atoms k ≡ Some y → (q : Name) × (stands_for standing q ≡ k) × ((map.get things q >>= first_atom_of) ≡ Some y)
    down k y j = go (same_name k (stands_for v.standing e.actor)) refl
      where
        go : (t : Bool) → same_name k (stands_for v.standing e.actor) ≡ t → (q : Name) × (stands_for standing q ≡ k) × ((map.get things q >>= first_atom_of) ≡ Some y)
        go true t = (
          m,
          s.stands_new ∙ sym (same_name-is k (stands_for v.standing e.actor) t),
          ap (λ o. o >>= first_atom_of) (new_at m (same_name-itself m)) ∙ s.now ∙ sym (s.high_atoms k ∙ ap (λ t. cond t (Some s.new_atom) (map.get high.atoms k)) t) ∙ j,
        )
        go false t =
            let d = c.mirrored.down k y (sym (s.high_atoms k ∙ ap (λ t. cond t (Some s.new_atom) (map.get high.atoms k)) t) ∙ j) in
            let new = old_mark first_atom_of d.0 y d.2 in
            let actor : same_name d.0 e.actor ≡ false = not_true _ (λ u.
            let bad : false ≡ true = sym t ∙ ap (λ z. same_name z (stands_for v.standing e.actor)) (sym d.1 ∙ ap (stands_for v.standing) (same_name-is d.0 e.actor u))
            ∙ same_name-itself (stands_for v.standing e.actor) in cc) in
            (d.0, s.stands_old d.0 new ∙ d.1, ap (λ o. o >>= first_atom_of) (unchanged d.0 new actor) ∙ d.2)

    up_packet : (q : Name) (y : Packet) (t u : Bool) → same_name q m ≡ t → same_name q e.actor ≡ u → (map.get things q >>= first_packet_of) ≡ Some y
        → map.get then_high.packets (stands_for standing q) ≡ Some y
    up_packet q y true u f g j = no_value (sym (ap (λ o. o >>= first_packet_of) (new_at q f) ∙ s.no_high_packet) ∙ j)
    up_packet q y false true f g j = no_value (sym (ap (λ o. o >>= first_packet_of) (its_at q f g)) ∙ j)
    up_packet q y false false f g j = ap (map.get then_high.packets) (s.stands_old q f) ∙ s.high_packets (stands_for v.standing q)
        ∙ c.mirrored_packets.up q y (sym (ap (λ o. o >>= first_packet_of) (unchanged q f g)) ∙ j)

    down_packet : (k : Name) (y : Packet) → map.get then_high.packets k ≡ Some y → (q : Name) × (stands_for standing q ≡ k) × ((map.get things q >>= first_packet_of) ≡ Some y)
    down_packet k y j =
        let d = c.mirrored_packets.down k y (sym (s.high_packets k) ∙ j) in
        let new = old_mark first_packet_of d.0 y d.2 in
        let actor : same_name d.0 e.actor ≡ false = not_true _ (λ u. no_value (sym (ap (λ o. o >>= first_packet_of) (ap (map.get v.things) (same_name-is d.0 e.actor u) ∙ s.there) ∙ s.was_no_packet) ∙ d.2)) in
        (d.0, s.stands_old d.0 new ∙ d.1, ap (λ o. o >>= first_packet_of) (unchanged d.0 new actor) ∙ d.2)

    -- the mark of high things is that of what was posted, or stands for what it did
    was_high : (q : Name) (ts : List Thing) (t u : Bool) → same_name q m ≡ t → same_name q e.actor ≡ u → map.get things q ≡ Some ts → is_high ts ≡ true
        → (o : Name) × (os : List Thing) × (map.get v.things o ≡ Some os) × (is_high os ≡ true) × (stands_for v.standing o ≡ stands_for standing q)
        × (same_name o e.actor ≡ true → q ≡ m) × (same_name o e.actor ≡ false → q ≡ o)
    was_high q ts true u f g j high_ts = (
      e.actor,
      old_thing ∷ [],
      s.there,
      was_high_thing,
      sym (ap (stands_for standing) (same_name-is q m f) ∙ s.stands_new),
      λ t. same_name-is q m f,
      λ t. absurd (let bad : false ≡ true = sym t ∙ same_name-itself e.actor in cc),
    )
    was_high q ts false true f g j high_ts = absurd (let bad : is_high us ≡ true = ap is_high (done (sym j ∙ its_at q f g)) ∙ high_ts in cc)
    was_high q ts false false f g j high_ts = (
      q,
      ts,
      sym (unchanged q f g) ∙ j,
      high_ts,
      sym (s.stands_old q f),
      λ t. absurd (let bad : false ≡ true = sym g ∙ t in cc),
      λ t. refl,
    )

    distinct : (q k : Name) (ts os : List Thing) → map.get things q ≡ Some ts → map.get things k ≡ Some os → is_high ts ≡ true → is_high os ≡ true
        → stands_for standing q ≡ stands_for standing k → q ≡ k
    distinct q k ts os j l y z same =
        let a = was_high q ts (same_name q m) (same_name q e.actor) refl refl j y in
        let d = was_high k os (same_name k m) (same_name k e.actor) refl refl l z in
        let one : a.0 ≡ d.0 = c.distinct a.0 d.0 a.1 d.1 a.2 d.2 a.3 d.3 (a.4 ∙ same ∙ sym d.4) in
        elim (true_or_false (same_name a.0 e.actor)) [
          | inl t ↦ a.5 t ∙ sym (d.5 (ap (λ o. same_name o e.actor) (sym one) ∙ t))
          | inr f ↦ a.6 f ∙ one ∙ sym (d.6 (ap (λ o. same_name o e.actor) (sym one) ∙ f))
        ]

    still_new : (q : Name) → set.contains next.born q ≡ false → (set.contains low.born q ≡ false) × (same_name q m ≡ false)
    still_new q j = (
      not_true _ (λ t. let bad : false ≡ true = sym j ∙ s.born q t in cc),
      not_true _ (λ t. let bad : false ≡ true = sym j ∙ ap (set.contains next.born) (same_name-is q m t) ∙ s.mark_born in cc),
    )

    old_marks : (q : Name) (t u : Bool) → same_name q m ≡ t → set.contains low.born q ≡ u → set.contains next.born q ≡ true → set.contains next.born (stands_for standing q) ≡ true
    old_marks q true u f g j = ap (λ z. set.contains next.born (stands_for standing z)) (same_name-is q m f) ∙ ap (set.contains next.born) s.stands_new
        ∙ s.born (stands_for v.standing e.actor) (c.old_marks e.actor (things_born c e.actor (old_thing ∷ []) s.there))
    old_marks q false true f g j = ap (set.contains next.born) (s.stands_old q f) ∙ s.born (stands_for v.standing q) (c.old_marks q g)
    old_marks q false false f g j = ap (set.contains next.born) (s.stands_old q f ∙ c.new_marks q g) ∙ j

    known : ((a d : Name) → list_any (is_child_of a d) (chips v.things) ≡ true → list_any (is_child_of a d) (chips things) ≡ true)
        → KnowsOnly (may_know v.lock (chips things) new_thing) (is_channel n high.born) from new_thing
        → (q : Name) (ts : List Thing) (t u : Bool) → same_name q m ≡ t → same_name q e.actor ≡ u → map.get things q ≡ Some ts
        → All (λ t. KnowsOnly (may_know v.lock (chips things) t) (is_channel n high.born) from t) ts
    known children knows q ts true u f g j = subst (All (λ t. KnowsOnly (may_know v.lock (chips things) t) (is_channel n high.born) from t)) (sym (done (sym (new_at q f) ∙ j)))
        (All-from_recursion (λ t. KnowsOnly (may_know v.lock (chips things) t) (is_channel n high.born) from t) ws (knows, tt))
    known children knows q ts false true f g j = subst (All (λ t. KnowsOnly (may_know v.lock (chips things) t) (is_channel n high.born) from t)) (sym (done (sym (its_at q f g) ∙ j)))
        (All-from_recursion (λ t. KnowsOnly (may_know v.lock (chips things) t) (is_channel n high.born) from t) us (tt, tt))
    known children knows q ts false false f g j = All-weaker (λ t. KnowsOnly (may_know v.lock (chips v.things) t) (is_channel n high.born) from t)
        (λ t. KnowsOnly (may_know v.lock (chips things) t) (is_channel n high.born) from t)
        (λ z k. knows_more (may_know v.lock (chips v.things) z) (may_know v.lock (chips things) z) (is_channel n high.born) from
        (may_know_more v.lock (chips v.things) (chips things) children z) z k)
        ts (c.known q ts (sym (unchanged q f g) ∙ j))

    letters : (q : Name) (t u : Bool) → same_name q m ≡ t → same_name q e.actor ≡ u
        → letter_under things q ≡ cond (same_name q m) (carried new_thing) (cond (same_name q e.actor) None (letter_under v.things q))
    letters q true u f g = ap (λ o. o >>= first_letter_of) (new_at q f) ∙ sym (ap (λ t. cond t (carried new_thing) (cond (same_name q e.actor) None (letter_under v.things q))) f)
    letters q false true f g = ap (λ o. o >>= first_letter_of) (its_at q f g)
        ∙ sym (ap (λ t. cond t (carried new_thing) (cond (same_name q e.actor) None (letter_under v.things q))) f ∙ ap (λ t. cond t None (letter_under v.things q)) g)
    letters q false false f g = ap (λ o. o >>= first_letter_of) (unchanged q f g)
        ∙ sym (ap (λ t. cond t (carried new_thing) (cond (same_name q e.actor) None (letter_under v.things q))) f ∙ ap (λ t. cond t None (letter_under v.things q)) g)

    pub shift : Shifted
    shift = record {
      shaped = λ q. shaped q (same_name q m) (same_name q e.actor) refl refl;
      mirrored = record { up = λ q y j. up q y (same_name q m) (same_name q e.actor) refl refl j; down = down };
      mirrored_packets = record { up = λ q y j. up_packet q y (same_name q m) (same_name q e.actor) refl refl j; down = down_packet };
      new_marks = λ q j. let new = still_new q j in s.stands_old q new.1 ∙ c.new_marks q new.0;
      old_marks = λ q j. old_marks q (same_name q m) (set.contains low.born q) refl refl j;
      distinct = distinct;
      unseen = no_things (map.get v.things m) refl;
      step = step_new shows v.things e.actor m (old_thing ∷ []) us ws s.there absent;
      cache_step = step_new shows_caches v.things e.actor m (old_thing ∷ []) us ws s.there absent;
      known = λ children knows q ts j. known children knows q ts (same_name q m) (same_name q e.actor) refl refl j;
      letters = λ q. letters q (same_name q m) (same_name q e.actor) refl refl;
    }
