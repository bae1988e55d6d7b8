-- Events that change the things of one mark.
use Rattle.std.proofs.Common.{◌≡◌, inl, inr, ℕ, Bool, true, false, ◌||◌, Some, List, ◌++◌, refl, sym, ap, subst, ◌∙◌, Option, None, IfSome, [], ◌∷◌}
use Rattle.std.specs.List.{All, flat_map, list_any, AllByRecursion}
use Rattle.std.proofs.lemmas.List.Sorted.{IsPermutation-sym, IsPermutation-trans, IsPermutation-refl}
use Rattle.std.proofs.lemmas.List.Elements.{All-weaker, All-from_recursion, All-nil}
use Rattle.std.specs.FinMap as map
use Rattle.std.specs.FinSet as set
use Rattle.np_syntax.specs.declared.value.Name.{Name}
use Rattle.np_syntax.specs.declared.event.Event.{Event}
use Rattle.np_syntax.specs.Options.{◌>>=◌}
use Rattle.np_syntax.proofs.Options.{done}
use Rattle.np_tables.specs.Names.{NameMap, same_name}
use Rattle.np_tables.proofs.Tables.{get-put, put_here, same_name-is, get-cut, cut_here}
use Rattle.np_calculus.specs.Changes.{with_made}
use Rattle.np_calculus.specs.Config.{Config}
use Rattle.np_calculus.specs.Reductions.{apply}
use Rattle.simulate_laws.specs.protocol.Chips.{Chip}
use Rattle.simulate_laws.specs.protocol.Phases.{Phase}
use Rattle.simulate_laws.specs.protocol.Protocol.{Protocol}
use Rattle.simulate_laws.specs.protocol.Scenes.{Locks, Scene}
use Rattle.simulate_laws.specs.protocol.Steps.{Step}
use Rattle.simulate_laws.specs.protocol.Rules.{IsKnowledge, IsLearnt, Rule}
use Rattle.simulate_laws.proofs.protocol.Keeps.{keeps-protocol}
use Rattle.simulate_laws.specs.protocol.CacheSteps.{CacheStep}
use Rattle.infrastructure_texts.specs.Infrastructures.{Infrastructure}
use Rattle.simulate_laws.specs.things.Things.{Thing, first_atom_of, first_packet_of, shows_caches, high_atom, high_packet, show_all, show_all_caches, shows}
use Rattle.simulate_laws.specs.levels.Coupled.{Coupled, IsCarrier, IsShaped, KnowsOnly, View, chips, is_channel, is_child_of, levels, may_know, scene, shown, cache_chips}
use Rattle.simulate_laws.specs.levels.Letters.{SameLetters, first_letter_of, letter_under}
use Rattle.np_calculus.proofs.BornKept.{born-kept, made-kept}
use Rattle.simulate_laws.proofs.levels.Caches.{by_step, carry_put, AllCarry, KeepsHints, carry_cut, handed_on}
use Rattle.simulate_laws.proofs.levels.Orders.{entries_at, entries_put, flat, permuted}
use Rattle.simulate_laws.proofs.levels.Quiet.{Next, knows_more, or_cases, or_second, any_kept, quiet, SamePlaces}
use Rattle.simulate_laws.proofs.levels.Starts.{any_order}
use Rattle.simulate_laws.proofs.levels.Letters.{low-carries-none}

-- what is shown where one mark has other things
pub step_at : {X : Type 0} (show : Thing → List X) (things : NameMap (List Thing)) (m : Name) (ts us : List Thing) → map.get things m ≡ Some ts
    → Step (shown show things) (shown show (map.insert things m us)) (flat_map show ts) (flat_map show us)
step_at show things m ts us h = record {
  rest = shown show (map.remove things m);
  taken = permuted (flat (λ (e : Name × List Thing). flat_map show e.1) (entries_at things m ts h));
  given = permuted (flat (λ (e : Name × List Thing). flat_map show e.1) (entries_put things m us));
}

-- what is shown where one mark has none
pub step_cut : {X : Type 0} (show : Thing → List X) (things : NameMap (List Thing)) (m : Name) (ts : List Thing) → map.get things m ≡ Some ts
    → Step (shown show things) (shown show (map.remove things m)) (flat_map show ts) []
step_cut show things m ts h = record {
  rest = shown show (map.remove things m);
  taken = permuted (flat (λ (e : Name × List Thing). flat_map show e.1) (entries_at things m ts h));
  given = IsPermutation-refl (shown show (map.remove things m));
}

-- who is only known of is no child
no_child : (a b : Name) (cs : List Chip) → AllByRecursion IsKnowledge cs → list_any (is_child_of a b) cs ≡ true → ⊥
no_child a b [] k h = cc
no_child a b (Chip.wants x l ∷ cs) k h = no_child a b cs k.1 h
no_child a b (Chip.knows x ∷ cs) k h = no_child a b cs k.1 h
no_child a b (_ ∷ cs) k h = absurd k.0

-- what is taken is given again
pub same_chips : {w : Scene} {phase : Name → Phase} {before after take : List Chip} → Step before after take take → Protocol w phase before → (then : Name → Phase) × Protocol w then after
same_chips {w} {phase} {before} {after} {take} step p =
    any_order w phase before after (IsPermutation-trans after (take ++ step.rest) before step.given (IsPermutation-sym before (take ++ step.rest) step.taken)) p

pub reshape : {i : Infrastructure} {n from first : ℕ} {low next : Config} {things others : NameMap (List Thing)} (m : Name) → map.get next.atoms m ≡ map.get low.atoms m
    → map.get next.packets m ≡ map.get low.packets m
    → map.get others m ≡ map.get things m → IsShaped i n from first low things m → IsShaped i n from first next others m
reshape m a k t (IsShaped.nothing x y z) = IsShaped.nothing (a ∙ x) (k ∙ y) (t ∙ z)
reshape m a k t (IsShaped.atom x y z u r) = IsShaped.atom (a ∙ x) (k ∙ y) (t ∙ z) u r
reshape m a k t (IsShaped.packet x y z r) = IsShaped.packet (a ∙ x) (k ∙ y) (t ∙ z) r

-- who waits knows no less
pub may_know_more : (lock : Locks) (cs ds : List Chip) → ((a b : Name) → list_any (is_child_of a b) cs ≡ true → list_any (is_child_of a b) ds ≡ true) → (t : Thing) (b : Name)
    → may_know lock cs t b ≡ true → may_know lock ds t b ≡ true
may_know_more lock cs ds f (Thing.settling a h s) b k = elim (or_cases _ (list_any (is_child_of h.agent b) cs) k) [ inl i ↦ ap (λ t. t || list_any (is_child_of h.agent b) ds) i | inr j ↦ or_second _ _ (f h.agent b j) ]
may_know_more lock cs ds f _ b k = k

module _ {i : Infrastructure} {n from first : ℕ} {low high : Config} {v : View} (c : Coupled i n from first low high v) where
  -- an event that leaves places and what was said, and changes the things of one mark, which then has some or none
  pub record AtAny (next : Config) (e : Event) (m : Name) (ts : List Thing) (now : Option (List Thing)) (things : NameMap (List Thing)) (phase : Name → Phase) : Type 0 where
    pub applies : apply low e ≡ Some next
    pub sites : next.sites ≡ low.sites
    pub places : SamePlaces c next
    pub said : next.said ≡ low.said
    pub born : next.born ≡ with_made low.born e.made
    pub there : map.get v.things m ≡ Some ts
    pub others : (q : Name) → same_name q m ≡ false → (map.get next.atoms q ≡ map.get low.atoms q) × (map.get next.packets q ≡ map.get low.packets q)
    pub at : map.get things m ≡ now
    pub unchanged : (q : Name) → same_name q m ≡ false → map.get things q ≡ map.get v.things q
    pub here : IsShaped i n from first next things m
    pub atoms : (now >>= first_atom_of) ≡ first_atom_of ts
    pub packets : (now >>= first_packet_of) ≡ first_packet_of ts
    pub protocol : Protocol (scene v high) phase (chips things)
    pub children : (a b : Name) → list_any (is_child_of a b) (chips v.things) ≡ true → list_any (is_child_of a b) (chips things) ≡ true
    pub known : IfSome now (All (λ t. KnowsOnly (may_know v.lock (chips things) t) (is_channel n high.born) from t))
    pub hints : KeepsHints i low high next high v.things things
    pub carriers : AllCarry v.standing.messengers things

  pub at_any : (next : Config) (e : Event) (m : Name) (ts : List Thing) (now : Option (List Thing)) (things : NameMap (List Thing)) (phase : Name → Phase)
      → AtAny next e m ts now things phase → Next c next things phase
  at_any next e m ts now things phase x = record {
    sites = x.sites;
    places = x.places;
    said = x.said;
    born = λ q h. ap (λ s. set.contains s q) x.born ∙ made-kept low.born e.made q h;
    stand_born = born-kept low next e c.stand_born x.applies;
    shaped = λ q. shaped q (same_name q m) refl;
    atoms = λ q. first_of first_atom_of x.atoms q (same_name q m) refl;
    packets = λ q. first_of first_packet_of x.packets q (same_name q m) refl;
    protocol = x.protocol;
    known = λ q vs h. known q vs (same_name q m) refl h;
    hints = x.hints;
    carriers = x.carriers;
  }
    where
      changed : (q : Name) → same_name q m ≡ true → map.get things q ≡ now
      changed q e = ap (map.get things) (same_name-is q m e) ∙ x.at

      was : (q : Name) → same_name q m ≡ true → map.get v.things q ≡ Some ts
      was q e = ap (map.get v.things) (same_name-is q m e) ∙ x.there

      shaped : (q : Name) (t : Bool) → same_name q m ≡ t → IsShaped i n from first next things q
      shaped q true e = subst (IsShaped i n from first next things) (sym (same_name-is q m e)) x.here
      shaped q false e = reshape q (x.others q e).0 (x.others q e).1 (x.unchanged q e) (c.shaped q)

      first_of : {X : Type 0} (f : List Thing → Option X) → (now >>= f) ≡ f ts → (q : Name) (t : Bool) → same_name q m ≡ t
          → (map.get things q >>= f) ≡ (map.get v.things q >>= f)
      first_of f same q true e = ap (λ o. o >>= f) (changed q e) ∙ same ∙ sym (ap (λ o. o >>= f) (was q e))
      first_of f same q false e = ap (λ o. o >>= f) (x.unchanged q e)

      known : (q : Name) (vs : List Thing) (t : Bool) → same_name q m ≡ t → map.get things q ≡ Some vs → All (λ t. KnowsOnly (may_know v.lock (chips things) t) (is_channel n high.born) from t) vs
      known q vs true e h = its now (sym (changed q e) ∙ h) x.known
        where
          its : (o : Option (List Thing)) → o ≡ Some vs → IfSome o (All (λ t. KnowsOnly (may_know v.lock (chips things) t) (is_channel n high.born) from t))
              → All (λ t. KnowsOnly (may_know v.lock (chips things) t) (is_channel n high.born) from t) vs
          its None same k = absurd cc
          its (Some us) same k = subst (All (λ t. KnowsOnly (may_know v.lock (chips things) t) (is_channel n high.born) from t)) (sym (done same)) k
      known q vs false e h = All-weaker (λ t. KnowsOnly (may_know v.lock (chips v.things) t) (is_channel n high.born) from t) (λ t. KnowsOnly (may_know v.lock (chips things) t) (is_channel n high.born) from t)
          (λ t k. knows_more (may_know v.lock (chips v.things) t) (may_know v.lock (chips things) t) (is_channel n high.born) from (may_know_more v.lock (chips v.things) (chips things) x.children t) t k)
          vs (c.known q vs (sym (x.unchanged q e) ∙ h))

  -- it has other things
  pub record At (next : Config) (e : Event) (m : Name) (ts us : List Thing) (phase : Name → Phase) : Type 0 where
    pub applies : apply low e ≡ Some next
    pub sites : next.sites ≡ low.sites
    pub places : SamePlaces c next
    pub said : next.said ≡ low.said
    pub born : next.born ≡ with_made low.born e.made
    pub there : map.get v.things m ≡ Some ts
    pub others : (q : Name) → same_name q m ≡ false → (map.get next.atoms q ≡ map.get low.atoms q) × (map.get next.packets q ≡ map.get low.packets q)
    pub here : IsShaped i n from first next (map.insert v.things m us) m
    pub atoms : first_atom_of us ≡ first_atom_of ts
    pub packets : first_packet_of us ≡ first_packet_of ts
    pub protocol : Protocol (scene v high) phase (chips (map.insert v.things m us))
    pub children : (a b : Name) → list_any (is_child_of a b) (chips v.things) ≡ true → list_any (is_child_of a b) (chips (map.insert v.things m us)) ≡ true
    pub known : All (λ t. KnowsOnly (may_know v.lock (chips (map.insert v.things m us)) t) (is_channel n high.born) from t) us
    pub hints : i ≡ Infrastructure.cached → CacheStep (levels low high) (levels next high) (flat_map shows_caches ts) (flat_map shows_caches us)
    pub carriers : All (IsCarrier v.standing.messengers) us

  pub at_mark : (next : Config) (e : Event) (m : Name) (ts us : List Thing) (phase : Name → Phase) → At next e m ts us phase → Next c next (map.insert v.things m us) phase
  at_mark next e m ts us phase x = at_any next e m ts (Some us) (map.insert v.things m us) phase (record {
    applies = x.applies;
    sites = x.sites;
    places = x.places;
    said = x.said;
    born = x.born;
    there = x.there;
    others = x.others;
    at = put_here v.things m us;
    unchanged = λ q e. rw (get-put v.things m us q, e) refl;
    here = x.here;
    atoms = x.atoms;
    packets = x.packets;
    protocol = x.protocol;
    children = x.children;
    known = x.known;
    hints = by_step low high next high v.things (map.insert v.things m us) (step_at shows_caches v.things m ts us x.there) x.hints;
    carriers = carry_put v.standing.messengers v.things m c.carriers us x.carriers;
  })

  -- it has none: what was there was only known of, and nothing of the high level
  pub record Ends (next : Config) (e : Event) (m : Name) (t : Thing) : Type 0 where
    pub applies : apply low e ≡ Some next
    pub sites : next.sites ≡ low.sites
    pub places : SamePlaces c next
    pub said : next.said ≡ low.said
    pub born : next.born ≡ with_made low.born e.made
    pub there : map.get v.things m ≡ Some (t ∷ [])
    pub others : (q : Name) → same_name q m ≡ false → (map.get next.atoms q ≡ map.get low.atoms q) × (map.get next.packets q ≡ map.get low.packets q)
    pub no_atom : map.get next.atoms m ≡ None
    pub no_packet : map.get next.packets m ≡ None
    pub no_high_atom : high_atom t ≡ None
    pub no_high_packet : high_packet t ≡ None
    pub knowledge : AllByRecursion IsKnowledge (show_all (t ∷ []))
    pub no_caches : show_all_caches (t ∷ []) ≡ []

  pub ends : (next : Config) (e : Event) (m : Name) (t : Thing) → Ends next e m t → (w : View) × (w.standing ≡ v.standing) × Coupled i n from first next high w × SameLetters v w
  ends next e m t x =
      let things : NameMap (List Thing) = map.remove v.things m in
      let step = step_cut shows v.things m (t ∷ []) x.there in
      let protocol = keeps-protocol (scene v high) (scene v high) v.phase (chips v.things) (chips things) (show_all (t ∷ [])) []
      (Rule.knows (All-from_recursion IsKnowledge (show_all (t ∷ [])) x.knowledge) (All-nil (IsLearnt (scene v high)))) step c.protocol in (
        record v { things = things; phase = protocol.0 },
        refl,
        quiet c next things protocol.0 (at_any next e m (t ∷ []) None things protocol.0 (record {
          applies = x.applies;
          sites = x.sites;
          places = x.places;
          said = x.said;
          born = x.born;
          there = x.there;
          others = x.others;
          at = cut_here v.things m;
          unchanged = λ q e. rw (get-cut v.things m q, e) refl;
          here = IsShaped.nothing x.no_atom x.no_packet (cut_here v.things m);
          atoms = sym x.no_high_atom;
          packets = sym x.no_high_packet;
          protocol = protocol.1;
          children = λ a b any. any_kept (is_child_of a b) step (λ taken. absurd (no_child a b (show_all (t ∷ [])) x.knowledge taken)) any;
          known = tt;
          hints = by_step low high next high v.things things
              (subst (λ l. Step (cache_chips v.things) (cache_chips things) l []) x.no_caches (step_cut shows_caches v.things m (t ∷ []) x.there))
              (handed_on low high next);
          carriers = carry_cut v.standing.messengers v.things m c.carriers;
        })),
        λ q. letters q (same_name q m) refl,
      )
    where
      letters : (q : Name) (b : Bool) → same_name q m ≡ b → letter_under (map.remove v.things m) q ≡ letter_under v.things q
      letters q true e = ap (λ o. o >>= first_letter_of) (ap (map.get (map.remove v.things m)) (same_name-is q m e) ∙ cut_here v.things m)
          ∙ sym (ap (λ o. o >>= first_letter_of) (ap (map.get v.things) (same_name-is q m e) ∙ x.there) ∙ low-carries-none t x.no_high_atom)
      letters q false e = ap (λ o. o >>= first_letter_of) (rw (get-cut v.things m q, e) refl)
