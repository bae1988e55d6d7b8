-- The two starts are coupled.
use Rattle.std.proofs.Common.{◌≡◌, ◌⊎◌, inl, inr, ℕ, Bool, true, false, cond, Option, None, Some, IsSome, List, [], ◌∷◌, length, map as names, refl, sym, ap, subst, ◌∙◌, arith, append-nil, ◌++◌, is_some}
use Rattle.std.specs.List.{All, flat_map, AllByRecursion}
use Rattle.std.specs.List.Sorted.{IsPermutation}
use Rattle.std.proofs.lemmas.List.Sorted.{IsPermutation-refl}
use Rattle.std.proofs.lemmas.List.Elements.{All-from_recursion, All-nil}
use Rattle.std.specs.FinMap as map
use Rattle.std.specs.FinMap.{get-empty, len-empty, len-entries}
use Rattle.std.specs.Ordering.{nat_cmp}
use Rattle.std.specs.FinSet as set
use Rattle.np_syntax.specs.declared.value.Name.{Name}
use Rattle.np_syntax.specs.declared.program.Program.{Program}
use Rattle.np_syntax.specs.declared.program.LowProgram.{LowProgram}
use Rattle.np_syntax.specs.Options.{◌>>=◌}
use Rattle.np_syntax.specs.Reordering.{Reordered, and_then, behind, kept}
use Rattle.np_tables.specs.Names.{NameMap, name_cmp, same_name}
use Rattle.np_tables.proofs.Tables.{contains-none, get-none, get-put, put_cases, put_here, born_here, same_name-is, same_name-itself, same_name-swap}
use Rattle.np_calculus.specs.declared.config.Atom.{Atom}
use Rattle.np_calculus.specs.declared.config.Packet.{Packet}
use Rattle.np_calculus.specs.declared.config.Place.{Place}
use Rattle.np_calculus.specs.declared.config.Place.TheVariants as place
use Rattle.np_calculus.specs.Config.{Config}
use Rattle.np_calculus.specs.Parts.{IsMark}
use Rattle.np_calculus.specs.Sight.{inside}
use Rattle.np_calculus.specs.Starts.{daemon_agent, daemon_mark, first_atom, main_agent, main_mark, names_alone, own, own_names, start_high, start_low, with_agent}
use Rattle.np_calculus.proofs.OwnNames.{daemon_mark-born, mark-born, with_all-keeps}
use Rattle.np_lift.specs.CachedLift.{at_first}
use Rattle.np_lift.proofs.Standings.{stands-itself}
use Rattle.simulate_laws.specs.protocol.CacheChips.{CacheChip}
use Rattle.simulate_laws.specs.protocol.CacheLevels.{Levels}
use Rattle.simulate_laws.specs.protocol.CacheRule.{CacheRule}
use Rattle.simulate_laws.specs.protocol.CacheSteps.{CacheStep}
use Rattle.simulate_laws.proofs.protocol.CacheKeeps.{keeps-rule, starts-by-rule}
use Rattle.simulate_laws.specs.protocol.Chips.{Chip, Service}
use Rattle.simulate_laws.specs.protocol.Phases.{Phase}
use Rattle.simulate_laws.specs.protocol.Protocol.{Protocol}
use Rattle.simulate_laws.specs.protocol.Rules.{IsKnowledge, IsLearnt, Rule}
use Rattle.simulate_laws.specs.protocol.Scenes.{Scene, Whereabouts, Locks}
use Rattle.simulate_laws.specs.protocol.Starts.{first_chips, first_locks, first_phase, first_scene}
use Rattle.simulate_laws.proofs.protocol.Keeps.{keeps-protocol}
use Rattle.simulate_laws.proofs.protocol.Scenes.{same_scene}
use Rattle.simulate_laws.proofs.protocol.Starts.{starts-in-order, serves-more}
use Rattle.np_eval.specs.Eval.{find_place}
use Rattle.np_scope.specs.Sound.{IsSound}
use Rattle.infrastructure_texts.specs.Infrastructures.{Infrastructure}
use Rattle.daemon_encode.specs.Translates.{IsLowOf}
use Rattle.simulate_laws.specs.things.Laws.{HasStartThings}
use Rattle.simulate_laws.specs.things.Starts.{daemon_things, main_things, first_cache, tells_where}
use Rattle.simulate_laws.specs.things.Things.{Thing, first_atom_of, first_packet_of, IsHeaded, high_atom, show_all, shows, shows_caches, show_all_caches}
use Rattle.simulate_laws.proofs.things.Starts.{own-apart, starts-with-things, caching_holds}
use Rattle.simulate_laws.specs.levels.Coupled.{Coupled, IsShaped, KnowsOnly, View, chips, is_channel, may_know, whereabouts, IsCarrier, cache_chips, levels, shown}
use Rattle.simulate_laws.specs.levels.Laws.{StartsCoupled}
use Rattle.simulate_laws.specs.levels.Letters.{first_letter_of}
use Rattle.np_syntax.proofs.Reorderings.{reorder-front}
use Rattle.simulate_laws.proofs.levels.Orders.{entries_new, flat, permuted}
use Rattle.simulate_laws.proofs.levels.Caches.{low_grows, reordered}
use Rattle.simulate_laws.proofs.levels.Values.{no_value}

-- the protocol does not see the order of chips
pub any_order : (w : Scene) (phase : Name → Phase) (xs ys : List Chip) → IsPermutation ys xs → Protocol w phase xs → (then : Name → Phase) × Protocol w then ys
any_order w phase xs ys order p =
    keeps-protocol w w phase xs ys [] [] (Rule.knows (All-nil IsKnowledge) (All-nil (IsLearnt w))) (record { rest = xs; taken = IsPermutation-refl xs; given = order }) p

no_entries : {X : Type 0} → map.entries (map.empty {X = X} {R = name_cmp}) ≡ []
no_entries {X} = none (map.entries (map.empty {X = X} {R = name_cmp})) (sym (len-entries (map.empty {X = X} {R = name_cmp})) ∙ len-empty name_cmp X)
  where
    none : {A : Type 0} (xs : List A) → length xs ≡ 0 → xs ≡ []
    none [] e = refl
    none (x ∷ xs) e = absurd (omega arith)

-- ---- what there is with caches alone

no_chips : (i : Infrastructure) (a : Name) → show_all (first_cache i a) ≡ []
no_chips Infrastructure.central a = refl
no_chips Infrastructure.cached a = refl

cache_holds : (i : Infrastructure) (a : Name) (P : Thing → Type 0) → P (Thing.cache a []) → P (Thing.keeping a) → AllByRecursion P (first_cache i a)
cache_holds i a P p q = subst (AllByRecursion P) (append-nil (first_cache i a)) (caching_holds i a P p q [] tt)

tells_holds : (i : Infrastructure) (P : Thing → Type 0) → P (Thing.serving Service.tells) → AllByRecursion P (tells_where i)
tells_holds Infrastructure.central P p = tt
tells_holds Infrastructure.cached P p = (p, tt)

-- the protocol holds with one server more
starts-with : (i : Infrastructure) (main lock : Name) (site : ℕ) (map : Locks) → ((a : Name) → map a ≡ first_locks main lock a)
    → (then : Name → Phase) × Protocol (first_scene main lock site) then (first_chips main lock site map ++ show_all (tells_where i))
starts-with Infrastructure.central main lock site map same = (first_phase main, starts-in-order main lock site map same)
starts-with Infrastructure.cached main lock site map same =
    let chips = first_chips main lock site map in
    any_order (first_scene main lock site) (first_phase main) (Chip.serves Service.tells ∷ chips) (chips ++ Chip.serves Service.tells ∷ [])
    (permuted (reorder-front chips (Chip.serves Service.tells ∷ []) []))
    (serves-more (first_scene main lock site) (first_phase main) chips Service.tells (starts-in-order main lock site map same))

module _ {structure : Infrastructure} (p : Program) (q : LowProgram) (low : IsLowOf structure p q) (sound : IsSound p) where
  abbrev n : ℕ
  n = length p.sites

  abbrev main : Name
  main = main_agent n

  abbrev daemon : Name
  daemon = daemon_agent n

  abbrev here : Name
  here = own n 13

  abbrev things : NameMap (List Thing)
  things = map.insert (map.insert map.empty (main_mark n) (main_things structure n p.at p.main)) (daemon_mark n) (daemon_things structure n p.at)

  -- the starts, with the sites of the program
  abbrev low_start : Config
  low_start = with_agent (with_agent (names_alone n) main p.at (main_mark n) q.main) daemon 0 (daemon_mark n) q.daemon

  abbrev high_start : Config
  high_start = with_agent (names_alone n) main p.at (main_mark n) p.main

  marks-apart : same_name (daemon_mark n) (main_mark n) ≡ false
  marks-apart = own-apart n 12 11 (λ e. cc)

  daemon-apart : same_name daemon main ≡ false
  daemon-apart = own-apart n 1 0 (λ e. cc)

  map-is : (a : Name) → find_place ((main, here) ∷ []) a ≡ first_locks main here a
  map-is a = ap (λ t. cond t (Some here) None) (same_name-swap main a)

  -- the chips of the central infrastructure, and with caches one that tells where agents are
  abbrev protocol_chips : List Chip
  protocol_chips = first_chips main here p.at (find_place ((main, here) ∷ []))

  -- what the things of the two marks show
  in_entries : {X : Type 0} (show : Thing → List X) → Reordered (shown show things) (flat_map show (daemon_things structure n p.at) ++ (flat_map show (main_things structure n p.at p.main) ++ []))
  in_entries show =
      let entries = and_then (entries_new (map.insert map.empty (main_mark n) (main_things structure n p.at p.main)) (daemon_mark n) (daemon_things structure n p.at) absent)
      (behind (entries_new map.empty (main_mark n) (main_things structure n p.at p.main) (get-none (main_mark n)))) in
      subst (λ es. Reordered (shown show things) (flat_map (λ (e : Name × List Thing). flat_map show e.1) ((daemon_mark n, daemon_things structure n p.at) ∷ (main_mark n, main_things structure n p.at p.main) ∷ es))) no_entries
      (flat (λ (e : Name × List Thing). flat_map show e.1) entries)
    where
      absent : map.get (map.insert (map.empty {X = List Thing} {R = name_cmp}) (main_mark n) (main_things structure n p.at p.main)) (daemon_mark n) ≡ None
      absent = rw (get-put (map.empty {X = List Thing} {R = name_cmp}) (main_mark n) (main_things structure n p.at p.main) (daemon_mark n), marks-apart, get-none {X = List Thing} (daemon_mark n)) refl

  in-order : Reordered (chips things) (protocol_chips ++ show_all (tells_where structure))
  in-order =
      let shown = in_entries shows in
      let mains : show_all (main_things structure n p.at p.main) ≡ Chip.token main p.at ∷ Chip.takes_letters main ∷ [] =
      ap (λ l. Chip.token main p.at ∷ Chip.takes_letters main ∷ l) (no_chips structure main) in
      and_then shown (and_then (reorder-front (show_all (daemon_things structure n p.at)) (show_all (main_things structure n p.at p.main)) [])
      (subst (λ l. Reordered (show_all (main_things structure n p.at p.main) ++ (show_all (daemon_things structure n p.at) ++ [])) (l ++ show_all (daemon_things structure n p.at))) mains
      (subst (λ l. Reordered (show_all (main_things structure n p.at p.main) ++ (show_all (daemon_things structure n p.at) ++ [])) (show_all (main_things structure n p.at p.main) ++ l))
      (append-nil (show_all (daemon_things structure n p.at))) kept)))

  -- what the protocol sees of the high start
  places-are : (x : Name) → cond (same_name x main) (Whereabouts.at p.at) Whereabouts.nowhere ≡ whereabouts (map.get (map.insert (map.empty {X = Place} {R = name_cmp}) main (place.At p.at)) x)
  places-are x = go (same_name x main) ∙ sym (ap whereabouts (get-put (map.empty {X = Place} {R = name_cmp}) main (place.At p.at) x ∙ ap (cond (same_name x main) (Some (place.At p.at))) (get-none {X = Place} x)))
    where
      go : (t : Bool) → cond t (Whereabouts.at p.at) Whereabouts.nowhere ≡ whereabouts (cond t (Some (place.At p.at)) None)
      go true = refl
      go false = refl

  abbrev Ordered : Type 0
  Ordered = (then : Name → Phase) × Protocol (record { place = λ x. whereabouts (map.get high_start.places x); lock = first_locks main here }) then (chips things)

  ordered : Ordered
  ordered = any_order _ first.0 (protocol_chips ++ show_all (tells_where structure)) (chips things) (permuted in-order)
      (same_scene (first_scene main here p.at) _ first.0 _ places-are (λ x. refl) first.1)
    where
      first : (then : Name → Phase) × Protocol (first_scene main here p.at) then (protocol_chips ++ show_all (tells_where structure))
      first = starts-with structure main here p.at (find_place ((main, here) ∷ [])) map-is

  abbrev view : View
  view = record { things = things; standing = at_first; lock = first_locks main here; phase = ordered.0 }

  -- ---- what stands under which name

  its-place : (x : Name) (t u : Bool) → same_name x daemon ≡ t → same_name x main ≡ u → IsSome (cond t (Some (place.At 0)) (cond u (Some (place.At p.at)) None)) → set.contains (own_names n) x ≡ true
  its-place x true u e f h = ap (set.contains (own_names n)) (same_name-is x daemon e) ∙ own-born 1 refl
    where
      own-born : (i : ℕ) → i ≡ 1 → set.contains (own_names n) (own n 1) ≡ true
      own-born i e = with_all-keeps _ (names (own n) (2 ∷ 3 ∷ 4 ∷ 5 ∷ 6 ∷ 7 ∷ 8 ∷ 9 ∷ 10 ∷ 11 ∷ 12 ∷ 13 ∷ 14 ∷ 15 ∷ 16 ∷ [])) (own n 1) (born_here _ (own n 1))
  its-place x false true e f h = ap (set.contains (own_names n)) (same_name-is x main f) ∙ own-born
    where
      own-born : set.contains (own_names n) (own n 0) ≡ true
      own-born = with_all-keeps _ (names (own n) (1 ∷ 2 ∷ 3 ∷ 4 ∷ 5 ∷ 6 ∷ 7 ∷ 8 ∷ 9 ∷ 10 ∷ 11 ∷ 12 ∷ 13 ∷ 14 ∷ 15 ∷ 16 ∷ [])) (own n 0) (born_here _ (own n 0))
  its-place x false false e f h = absurd cc

  data ThingsAtStart (m : Name) (ts : List Thing) : Type 0 where
    of_main : m ≡ main_mark n → ts ≡ main_things structure n p.at p.main → ThingsAtStart m ts
    of_daemon : m ≡ daemon_mark n → ts ≡ daemon_things structure n p.at → ThingsAtStart m ts

  its-things : (m : Name) (ts : List Thing) → map.get things m ≡ Some ts → ThingsAtStart m ts
  its-things m ts h = first (put_cases (map.insert (map.empty {X = List Thing} {R = name_cmp}) (main_mark n) (main_things structure n p.at p.main)) (daemon_mark n) (daemon_things structure n p.at) m ts h)
    where
      second : ((m ≡ main_mark n) × (ts ≡ main_things structure n p.at p.main)) ⊎ (map.get (map.empty {X = List Thing} {R = name_cmp}) m ≡ Some ts) → ThingsAtStart m ts
      second (inl e) = ThingsAtStart.of_main e.0 e.1
      second (inr h) = no_value (sym (get-none m) ∙ h)

      first : ((m ≡ daemon_mark n) × (ts ≡ daemon_things structure n p.at)) ⊎ (map.get (map.insert (map.empty {X = List Thing} {R = name_cmp}) (main_mark n) (main_things structure n p.at p.main)) m ≡ Some ts) → ThingsAtStart m ts
      first (inl e) = ThingsAtStart.of_daemon e.0 e.1
      first (inr h) = second (put_cases (map.empty {X = List Thing} {R = name_cmp}) (main_mark n) (main_things structure n p.at p.main) m ts h)

  abbrev two : {X : Type 0} → X → X → NameMap X
  two x y = map.insert (map.insert map.empty (main_mark n) x) (daemon_mark n) y

  at-daemon : {X : Type 0} (x y : X) → map.get (two x y) (daemon_mark n) ≡ Some y
  at-daemon x y = put_here (map.insert map.empty (main_mark n) x) (daemon_mark n) y

  at-main : {X : Type 0} (x y : X) → map.get (two x y) (main_mark n) ≡ Some x
  at-main {X} x y = rw (
    get-put (map.insert (map.empty {X = X} {R = name_cmp}) (main_mark n) x) (daemon_mark n) y (main_mark n),
    same_name-swap (main_mark n) (daemon_mark n),
    marks-apart,
    put_here
        (map.empty {X = X} {R = name_cmp}) (main_mark n) x,
  ) refl

  are : HasStartThings structure p q low.first
  are = starts-with-things p q low sound

  headed : IsHeaded (main_things structure n p.at p.main) × IsHeaded (daemon_things structure n p.at)
  headed = (
    All-from_recursion (λ u. high_atom u ≡ None) (Thing.token main p.at ∷ Thing.letters main ∷ first_cache structure main)
        (refl, (refl, cache_holds structure main (λ u. high_atom u ≡ None) refl refl)),
    All-from_recursion (λ u. high_atom u ≡ None)
        (Thing.free here p.at ∷ Thing.serving Service.registers ∷ Thing.serving Service.grants ∷ Thing.serving Service.notes_moves ∷ Thing.serving Service.passes_on ∷ Thing.serving Service.ends_deliveries ∷ tells_where structure)
        (refl, (refl, (refl, (refl, (refl, (refl, tells_holds structure (λ u. high_atom u ≡ None) refl)))))),
  )

  neither : {X : Type 0} (x y : X) (m : Name) → same_name m (daemon_mark n) ≡ false → same_name m (main_mark n) ≡ false → map.get (two x y) m ≡ None
  neither {X} x y m e f = rw (get-put (map.insert (map.empty {X = X} {R = name_cmp}) (main_mark n) x) (daemon_mark n) y m, e, get-put (map.empty {X = X} {R = name_cmp}) (main_mark n) x m, f, get-none {X = X} m) refl

  is-shaped : (m : Name) → IsShaped structure n p.binders low.first low_start things m
  is-shaped m = go (same_name m (daemon_mark n)) (same_name m (main_mark n)) refl refl
    where
      go : (t u : Bool) → same_name m (daemon_mark n) ≡ t → same_name m (main_mark n) ≡ u → IsShaped structure n p.binders low.first low_start things m
      go true u e f =
          let same = same_name-is m (daemon_mark n) e in
          IsShaped.atom (ap (map.get low_start.atoms) same ∙ at-daemon (first_atom main q.main) (first_atom daemon q.daemon)) (get-none m)
          (ap (map.get things) same ∙ at-daemon (main_things structure n p.at p.main) (daemon_things structure n p.at)) headed.1 are.daemon
      go false true e f =
          let same = same_name-is m (main_mark n) f in
          IsShaped.atom (ap (map.get low_start.atoms) same ∙ at-main (first_atom main q.main) (first_atom daemon q.daemon)) (get-none m)
          (ap (map.get things) same ∙ at-main (main_things structure n p.at p.main) (daemon_things structure n p.at)) headed.0 are.main
      go false false e f = IsShaped.nothing (neither (first_atom main q.main) (first_atom daemon q.daemon) m e f) (get-none m) (neither (main_things structure n p.at p.main) (daemon_things structure n p.at) m e f)

  up : (m : Name) (o : Option (List Thing)) (x : Atom) → map.get things m ≡ o → (o >>= first_atom_of) ≡ Some x → map.get high_start.atoms m ≡ Some x
  up m None x e h = no_value h
  up m (Some ts) x e h = go (its-things m ts e)
    where
      go : ThingsAtStart m ts → map.get high_start.atoms m ≡ Some x
      go (ThingsAtStart.of_main e f) = ap (map.get high_start.atoms) e ∙ put_here (map.empty {X = Atom} {R = name_cmp}) (main_mark n) (first_atom main p.main) ∙ ap first_atom_of (sym f) ∙ h
      go (ThingsAtStart.of_daemon e f) = no_value (ap first_atom_of (sym f) ∙ h)

  down : (k : Name) (x : Atom) → map.get high_start.atoms k ≡ Some x → (m : Name) × (m ≡ k) × ((map.get things m >>= first_atom_of) ≡ Some x)
  down k x h = go (put_cases (map.empty {X = Atom} {R = name_cmp}) (main_mark n) (first_atom main p.main) k x h)
    where
      go : ((k ≡ main_mark n) × (x ≡ first_atom main p.main)) ⊎ (map.get (map.empty {X = Atom} {R = name_cmp}) k ≡ Some x) → (m : Name) × (m ≡ k) × ((map.get things m >>= first_atom_of) ≡ Some x)
      go (inl e) = (k, refl, ap (λ m. map.get things m >>= first_atom_of) e.0 ∙ ap (λ o. o >>= first_atom_of) (at-main (main_things structure n p.at p.main) (daemon_things structure n p.at)) ∙ ap Some (sym e.1))
      go (inr h) = no_value (sym (get-none k) ∙ h)

  no-packet : (m : Name) (o : Option (List Thing)) (k : Packet) → map.get things m ≡ o → (o >>= first_packet_of) ≡ Some k → ⊥
  no-packet m None k e h = no_value h
  no-packet m (Some ts) k e h = go (its-things m ts e)
    where
      go : ThingsAtStart m ts → ⊥
      go (ThingsAtStart.of_main e f) = no_value (ap first_packet_of (sym f) ∙ h)
      go (ThingsAtStart.of_daemon e f) = no_value (ap first_packet_of (sym f) ∙ h)

  no-letter : (m : Name) (o : Option (List Thing)) → map.get things m ≡ o → (o >>= first_letter_of) ≡ None
  no-letter m None e = refl
  no-letter m (Some ts) e = go (its-things m ts e)
    where
      go : ThingsAtStart m ts → first_letter_of ts ≡ None
      go (ThingsAtStart.of_main e f) = ap first_letter_of f
      go (ThingsAtStart.of_daemon e f) = ap first_letter_of f

  is-known : (m : Name) (ts : List Thing) → ThingsAtStart m ts → All (λ t. KnowsOnly (may_know (first_locks main here) (chips things) t) (is_channel n high_start.born) p.binders t) ts
  is-known m ts (ThingsAtStart.of_main e f) = subst (All (λ t. KnowsOnly (may_know (first_locks main here) (chips things) t) (is_channel n high_start.born) p.binders t)) (sym f)
      (All-from_recursion (λ t. KnowsOnly (may_know (first_locks main here) (chips things) t) (is_channel n high_start.born) p.binders t) (main_things structure n p.at p.main) (
        record { each = λ x v b h. no_value (sym (get-empty nat_cmp x) ∙ h) },
        (tt, (tt, cache_holds structure main (λ t. KnowsOnly (may_know (first_locks main here) (chips things) t) (is_channel n high_start.born) p.binders t) tt tt)),
      ))
  is-known m ts (ThingsAtStart.of_daemon e f) = subst (All (λ t. KnowsOnly (may_know (first_locks main here) (chips things) t) (is_channel n high_start.born) p.binders t)) (sym f)
      (All-from_recursion (λ t. KnowsOnly (may_know (first_locks main here) (chips things) t) (is_channel n high_start.born) p.binders t) (daemon_things structure n p.at)
      (tt, (tt, (tt, (tt, (tt, (tt, (tt, tells_holds structure (λ t. KnowsOnly (may_know (first_locks main here) (chips things) t) (is_channel n high_start.born) p.binders t) tt))))))))

  no-carrier : (m : Name) (ts : List Thing) → ThingsAtStart m ts → All (IsCarrier at_first.messengers) ts
  no-carrier m ts (ThingsAtStart.of_main e f) =
      subst (All (IsCarrier at_first.messengers)) (sym f) (All-from_recursion (IsCarrier at_first.messengers) (main_things structure n p.at p.main)
      (tt, (tt, (tt, cache_holds structure main (IsCarrier at_first.messengers) tt tt))))
  no-carrier m ts (ThingsAtStart.of_daemon e f) = subst (All (IsCarrier at_first.messengers)) (sym f)
      (All-from_recursion (IsCarrier at_first.messengers) (daemon_things structure n p.at)
      (tt, (tt, (tt, (tt, (tt, (tt, (tt, tells_holds structure (IsCarrier at_first.messengers) tt))))))))

  its-lock : (a l : Name) (t : Bool) → cond t (Some here) None ≡ Some l → l ≡ here
  its-lock a l true h = cc
  its-lock a l false h = absurd cc

  here-born : set.contains (own_names n) here ≡ true
  here-born = with_all-keeps _ (names (own n) (14 ∷ 15 ∷ 16 ∷ [])) here (born_here _ here)

  none-yet : (x : Name) → set.contains at_first.messengers x ≡ true → ⊥
  none-yet x is = let bad : false ≡ true = sym (contains-none x) ∙ is in cc

  -- main has an empty cache
  has_cache : structure ≡ Infrastructure.cached → CacheRule (levels low_start high_start) (cache_chips things)
  has_cache is = keeps-rule w w (CacheChip.cache main (find_place []) ∷ []) (cache_chips things) [] [] (low_grows low_start high_start low_start (λ x h. h)) (CacheStep.still (λ x. refl))
      (reordered cache_order) (starts-by-rule w main (find_place []) only_main (λ x. refl))
    where
      w : Levels
      w = levels low_start high_start

      cache_order : Reordered (cache_chips things) (CacheChip.cache main (find_place []) ∷ [])
      cache_order = subst (λ k. Reordered (cache_chips things) (show_all_caches (tells_where k) ++ (show_all_caches (first_cache k main) ++ []))) is (in_entries shows_caches)

      only_main : (x : Name) → is_some (map.get high_start.places x) ≡ true → x ≡ main
      only_main x h = its (same_name x main) refl (sym (ap (λ (o : Option Place). is_some o) (get-put (map.empty {X = Place} {R = name_cmp}) main (place.At p.at) x
          ∙ ap (cond (same_name x main) (Some (place.At p.at))) (get-none {X = Place} x))) ∙ h)
        where
          its : (t : Bool) → same_name x main ≡ t → is_some (cond t (Some (place.At p.at)) None) ≡ true → x ≡ main
          its true e k = same_name-is x main e
          its false e k = absurd cc

  coupled : Coupled structure n p.binders low.first low_start high_start view
  coupled = record {
    low_sites = refl;
    high_sites = refl;
    daemon = put_here (map.insert (map.empty {X = Place} {R = name_cmp}) main (place.At p.at)) daemon (place.At 0);
    no_daemon = rw (get-put (map.empty {X = Place} {R = name_cmp}) main (place.At p.at) daemon, daemon-apart, get-none {X = Place} daemon) refl;
    places = λ x e f. rw (get-put (map.insert (map.empty {X = Place} {R = name_cmp}) main (place.At p.at)) daemon (place.At 0) x, e) refl;
    messengers = λ x is. absurd (none-yet x is);
    messengers_born = λ x is. absurd (none-yet x is);
    said = refl;
    born = λ x h. h;
    own_born = λ x h. h;
    stand_born = record { agents = born-agents; marks = born-marks };
    shaped = is-shaped;
    mirrored = record {
      up = λ m x h. ap (map.get high_start.atoms) (stands-itself m) ∙ up m (map.get things m) x refl h;
      down = λ k x h. let d = down k x h in (d.0, stands-itself d.0 ∙ d.1, d.2);
    };
    mirrored_packets = record { up = λ m k h. absurd (no-packet m (map.get things m) k refl h); down = λ m k h. no_value (sym (get-none m) ∙ h) };
    new_marks = λ m h. stands-itself m;
    old_marks = λ m h. ap (set.contains low_start.born) (stands-itself m) ∙ h;
    distinct = λ m k ts us h i t u e. sym (stands-itself m) ∙ e ∙ stands-itself k;
    protocol = ordered.1;
    locks_born = λ a l h. ap (set.contains (own_names n)) (its-lock a l (same_name a main) h) ∙ here-born;
    locks_apart = λ a l h o. its-lock a l (same_name a main) h;
    main = rw (same_name-itself main) refl;
    known = λ m ts h. is-known m ts (its-things m ts h);
    hints = has_cache;
    carriers = λ m ts h. no-carrier m ts (its-things m ts h);
  }
    where
      born-agents : (x : Name) → IsSome (map.get low_start.places x) → set.contains (own_names n) x ≡ true
      born-agents x h = its-place x (same_name x daemon) (same_name x main) refl refl
          (subst IsSome (get-put (map.insert (map.empty {X = Place} {R = name_cmp}) main (place.At p.at)) daemon (place.At 0) x
          ∙ ap (cond (same_name x daemon) (Some (place.At 0))) (get-put (map.empty {X = Place} {R = name_cmp}) main (place.At p.at) x ∙ ap (cond (same_name x main) (Some (place.At p.at))) (get-none x))) h)

      its-mark : (m : Name) → IsShaped structure n p.binders low.first low_start things m → IsMark (inside low_start) m → set.contains (own_names n) m ≡ true
      its-mark m (IsShaped.nothing a k t) (inl h) = absurd (let none = subst IsSome a h in cc)
      its-mark m (IsShaped.nothing a k t) (inr h) = absurd (let none = subst IsSome k h in cc)
      its-mark m (IsShaped.packet a k t u) h = no_value (sym (get-none m) ∙ k)
      its-mark m (IsShaped.atom {ts = ts} a k t u r) h = go (its-things m ts t)
        where
          go : ThingsAtStart m ts → set.contains (own_names n) m ≡ true
          go (ThingsAtStart.of_main e f) = ap (set.contains (own_names n)) e ∙ mark-born n
          go (ThingsAtStart.of_daemon e f) = ap (set.contains (own_names n)) e ∙ daemon_mark-born n

      born-marks : (m : Name) → IsMark (inside low_start) m → set.contains (own_names n) m ≡ true
      born-marks m h = its-mark m (is-shaped m) h

pub starts-coupled : {i : Infrastructure} → StartsCoupled i
unfolding start_low start_high
starts-coupled {i = structure} p q low sound = (
  view p q low sound,
  subst (λ (c : Config). Coupled structure (length p.sites) p.binders low.first c (start_high p) (view p q low sound)) (sym same) (coupled p q low sound),
  refl,
  λ m. no-letter p q low sound m (map.get (things p q low sound) m) refl,
)
  where
    same : start_low q ≡ low_start p q low sound
    same = λ i. let m : ℕ = length (low.sites i) in with_agent (with_agent (names_alone m) (main_agent m) (low.at i) (main_mark m) q.main) (daemon_agent m) 0 (daemon_mark m) q.daemon
