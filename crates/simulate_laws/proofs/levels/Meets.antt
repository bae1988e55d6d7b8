-- An input of the infrastructure takes an output: the output's mark is gone, and the input goes on.
use Rattle.std.proofs.Common.{◌≡◌, ◌⊎◌, inl, inr, ℕ, Bool, true, false, cond, ◌||◌, is_some, None, Some, List, [], ◌∷◌, ◌++◌, refl, sym, ap, subst, ◌∙◌, append_assoc}
use Rattle.std.specs.List.{All, AllByRecursion, list_any, flat_map}
use Rattle.std.specs.List.Sorted.{IsPermutation}
use Rattle.std.proofs.lemmas.List.Elements.{All-from_recursion, All-weaker, recursion_from_All}
use Rattle.std.specs.FinMap as map
use Rattle.std.specs.FinSet as set
use Rattle.np_syntax.specs.declared.value.Name.{Name}
use Rattle.np_syntax.specs.declared.process.ProcForm.{ProcForm-F}
use Rattle.np_syntax.specs.declared.event.Event.{Event}
use Rattle.np_syntax.specs.declared.event.Kind.TheVariants as kind
use Rattle.np_syntax.specs.declared.event.Made.TheVariants as made
use Rattle.np_syntax.specs.Options.{◌>>=◌}
use Rattle.np_syntax.specs.Reordering.{and_then, behind}
use Rattle.np_syntax.proofs.Options.{then, done}
use Rattle.np_tables.specs.Names.{NameMap, same_name}
use Rattle.np_tables.proofs.Tables.{get-cut, get-put, same_name-is, same_name-swap}
use Rattle.np_calculus.specs.declared.config.Atom.{Atom}
use Rattle.np_calculus.specs.Changes.{cut, put, still, Change}
use Rattle.np_calculus.specs.Config.{Config}
use Rattle.np_calculus.specs.Reductions.{apply, goes_under, row}
use Rattle.np_calculus.specs.Seen.{acting}
use Rattle.np_calculus.specs.Sight.{inside, sight}
unfoldable use Rattle.np_calculus.proofs.Common.{act}
use Rattle.np_calculus.proofs.OwnNames.{not_true}
use Rattle.np_calculus.proofs.Rows.{parts}
use Rattle.np_calculus.proofs.Steps.{row-step}
use Rattle.np_eval.specs.Forms.{layer}
use Rattle.simulate_laws.specs.protocol.Chips.{Chip}
use Rattle.simulate_laws.specs.protocol.Phases.{Phase}
use Rattle.simulate_laws.specs.protocol.Protocol.{Protocol}
use Rattle.simulate_laws.specs.protocol.Scenes.{Locks}
use Rattle.simulate_laws.specs.protocol.Steps.{Step}
use Rattle.infrastructure_texts.specs.Infrastructures.{Infrastructure}
use Rattle.simulate_laws.specs.things.Shapes.{Are}
use Rattle.simulate_laws.specs.things.Things.{IsHeaded, Thing, first_atom_of, first_packet_of, show_all, show_all_caches, shows, shows_caches}
use Rattle.simulate_laws.specs.levels.Coupled.{Coupled, IsShaped, KnowsOnly, View, chips, is_channel, is_child_of, may_know, scene, IsCarrier, levels, shown}
use Rattle.np_calculus.proofs.BornKept.{born-kept, made-kept}
use Rattle.simulate_laws.proofs.levels.Letters.{low-carries-none}
use Rattle.simulate_laws.proofs.levels.Marks.{reshape}
use Rattle.simulate_laws.proofs.levels.Orders.{entries_at, entries_put, flat, permuted}
use Rattle.simulate_laws.proofs.levels.Outputs.{is_output}
use Rattle.simulate_laws.proofs.levels.Quiet.{knows_more, or_cases, or_second, quiet}
use Rattle.simulate_laws.proofs.levels.Caches.{by_step, carry_cut, carry_put}
use Rattle.simulate_laws.specs.levels.Letters.{SameLetters, first_letter_of, letter_under}
use Rattle.simulate_laws.specs.protocol.CacheSteps.{CacheStep}
use Rattle.simulate_laws.proofs.levels.Values.{no_value}
use Rattle.simulate_laws.proofs.levels.Takings.{IsTaking, taking}

-- what a communication does
abbrev pub meets_by : Event → Name → Atom → Change
meets_by e o a = record still { atoms = put e.actor a ∷ cut o ∷ [] }

abbrev pub IsMeeting : Config → Event → Config → Type 0
IsMeeting low e next = IsTaking ProcForm-F.Inp (meets_by e) low e next

pub meeting : (low : Config) (e : Event) (next : Config) → row kind.Comm low e ≡ Some next → IsMeeting low e next
unfolding act
meeting low e next h =
    let r = row-step low e next kind.Comm h in
    then (acting low e) _ r.gives λ a acts h. parts kind.Comm (sight low.sites (inside low) e.site) e a h λ p form h.
    taking ProcForm-F.Inp (meets_by e) low e next _ r.is a acts p.0 p.1 p.2 form h

-- who goes on knows no less: an agent that it made is told of still, or is in the map
pub may_know_on : (lock : Locks) (cs ds : List Chip) → ((a b : Name) → list_any (is_child_of a b) cs ≡ true → (list_any (is_child_of a b) ds ≡ true) ⊎ (is_some (lock b) ≡ true)) → (t : Thing) (b : Name)
    → may_know lock cs t b ≡ true → may_know lock ds t b ≡ true
may_know_on lock cs ds f (Thing.settling a h s) b k = elim (or_cases _ (list_any (is_child_of h.agent b) cs) k) [
  | inl i ↦ ap (λ t. t || list_any (is_child_of h.agent b) ds) i
  | inr j ↦ elim (f h.agent b j) [ inl x ↦ or_second _ _ x | inr y ↦ ap (λ t. t || list_any (is_child_of h.agent b) ds) y ]
]
may_know_on lock cs ds f _ b k = k

-- what is shown where a mark is gone and another has other things
pub step_of_two : {X : Type 0} (show : Thing → List X) (things : NameMap (List Thing)) (m o : Name) (ts gone us : List Thing) → map.get things o ≡ Some gone
    → map.get (map.remove things o) m ≡ Some ts
    → Step (shown show things) (shown show (map.insert (map.remove things o) m us)) (flat_map show gone ++ flat_map show ts) (flat_map show us)
step_of_two show things m o ts gone us h k = record {
  rest = shown show (map.remove (map.remove things o) m);
  taken = subst (IsPermutation (shown show things)) (sym (append_assoc (flat_map show gone) (flat_map show ts) (shown show (map.remove (map.remove things o) m))))
      (permuted (flat (λ (e : Name × List Thing). flat_map show e.1) (and_then (entries_at things o gone h) (behind (entries_at (map.remove things o) m ts k)))));
  given = permuted (flat (λ (e : Name × List Thing). flat_map show e.1) (entries_put (map.remove things o) m us));
}

module _ {i : Infrastructure} {n from first : ℕ} {low high : Config} {v : View} (c : Coupled i n from first low high v) where
  abbrev pub left_things : Name → Name → List Thing → NameMap (List Thing)
  left_things m o us = map.insert (map.remove v.things o) m us

  pub record Meets (next : Config) (e : Event) (s : IsMeeting low e next) (ts us : List Thing) (u : Thing) : Type 0 where
    pub applies : apply low e ≡ Some next
    pub no_packet : map.get low.packets e.actor ≡ None
    pub no_other_packet : map.get low.packets s.other ≡ None
    pub there : map.get v.things e.actor ≡ Some ts
    pub other_there : map.get v.things s.other ≡ Some (u ∷ [])
    pub headed : IsHeaded us
    pub are : Are i n from first (goes_under s.atom s.body s.env) us
    pub atoms : first_atom_of us ≡ first_atom_of ts
    pub packets : first_packet_of us ≡ first_packet_of ts
    pub letters : first_letter_of us ≡ first_letter_of ts
    pub no_atom : first_atom_of (u ∷ []) ≡ None
    pub no_high_packet : first_packet_of (u ∷ []) ≡ None
    pub protocol : Step (chips v.things) (chips (left_things e.actor s.other us)) (show_all (u ∷ []) ++ show_all ts) (show_all us) → (then : Name → Phase) × Protocol (scene v high) then (chips (left_things e.actor s.other us))
    pub children : Step (chips v.things) (chips (left_things e.actor s.other us)) (show_all (u ∷ []) ++ show_all ts) (show_all us) → (a b : Name) → list_any (is_child_of a b) (chips v.things) ≡ true
        → (list_any (is_child_of a b) (chips (left_things e.actor s.other us)) ≡ true) ⊎ (is_some (v.lock b) ≡ true)
    pub known : Step (chips v.things) (chips (left_things e.actor s.other us)) (show_all (u ∷ []) ++ show_all ts) (show_all us) → AllByRecursion (λ t. KnowsOnly (may_know v.lock (chips v.things) t) (is_channel n high.born) from t) ts
        → AllByRecursion (λ t. KnowsOnly (may_know v.lock (chips (left_things e.actor s.other us)) t) (is_channel n high.born) from t) us
    pub hints : i ≡ Infrastructure.cached
        → CacheStep (levels low high) (levels next high) (show_all_caches (u ∷ []) ++ show_all_caches ts) (show_all_caches us)
    pub carriers : AllByRecursion (IsCarrier v.standing.messengers) ts → AllByRecursion (IsCarrier v.standing.messengers) us

  pub meets : (next : Config) (e : Event) (s : IsMeeting low e next) (ts us : List Thing) (u : Thing) → Meets next e s ts us u
      → (w : View) × (w.standing ≡ v.standing) × Coupled i n from first next high w × SameLetters v w
  meets next e s ts us u b = (
    record v { things = things; phase = protocol.0 },
    refl,
    quiet c next things protocol.0 (record {
      sites = ap (λ (d : Config). d.sites) s.is;
      places = λ q _. ap (λ (d : Config). map.get d.places q) s.is;
      said = ap (λ (d : Config). d.said) s.is;
      born = λ q h. ap (λ (d : Config). set.contains d.born q) s.is ∙ made-kept low.born e.made q h;
      stand_born = born-kept low next e c.stand_born b.applies;
      shaped = λ q. shaped q (same_name q s.other) (same_name q e.actor) refl refl;
      atoms = λ q. atoms q (same_name q s.other) (same_name q e.actor) refl refl;
      packets = λ q. packets q (same_name q s.other) (same_name q e.actor) refl refl;
      protocol = protocol.1;
      known = λ q vs h. known q vs (same_name q s.other) (same_name q e.actor) refl refl h;
      hints = by_step low high next high v.things things (step_of_two shows_caches v.things e.actor s.other ts (u ∷ []) us b.other_there still_there) b.hints;
      carriers = carry_put v.standing.messengers (map.remove v.things s.other) e.actor (carry_cut v.standing.messengers v.things s.other c.carriers) us
          (All-from_recursion (IsCarrier v.standing.messengers) us
          (b.carriers (recursion_from_All (IsCarrier v.standing.messengers) ts (c.carriers e.actor ts b.there))));
    }),
    λ q. letters q (same_name q s.other) (same_name q e.actor) refl refl,
  )
    where
      things : NameMap (List Thing)
      things = left_things e.actor s.other us

      -- an input is no output
      actor_other : same_name e.actor s.other ≡ false
      actor_other = not_true _ (λ t.
          let same : s.atom ≡ s.offers.mate = done (sym s.offers.waits ∙ sym (ap (map.get low.atoms) (same_name-is e.actor s.other t)) ∙ s.acts.there) in
          let o = is_output s.offers.mate s.offers.sent s.offers.sends_it in
          let bad : ProcForm-F.Inp s.on s.pattern s.body ≡ ProcForm-F.Out o.on o.sent = sym s.form ∙ ap (λ (a : Atom). layer a.proc) same ∙ o.form in cc)

      still_there : map.get (map.remove v.things s.other) e.actor ≡ Some ts
      still_there = get-cut v.things s.other e.actor ∙ ap (λ t. cond t None (map.get v.things e.actor)) actor_other ∙ b.there

      step : Step (chips v.things) (chips things) (show_all (u ∷ []) ++ show_all ts) (show_all us)
      step = step_of_two shows v.things e.actor s.other ts (u ∷ []) us b.other_there still_there

      protocol : (then : Name → Phase) × Protocol (scene v high) then (chips things)
      protocol = b.protocol step

      at : (q : Name) → map.get things q ≡ cond (same_name q e.actor) (Some us) (cond (same_name q s.other) None (map.get v.things q))
      at q = get-put (map.remove v.things s.other) e.actor us q ∙ ap (cond (same_name q e.actor) (Some us)) (get-cut v.things s.other q)

      at_atoms : (q : Name) → map.get next.atoms q ≡ cond (same_name q s.other) None (cond (same_name q e.actor) (Some (goes_under s.atom s.body s.env)) (map.get low.atoms q))
      at_atoms q = ap (λ (d : Config). map.get d.atoms q) s.is ∙ get-cut (map.insert low.atoms e.actor (goes_under s.atom s.body s.env)) s.other q
          ∙ ap (cond (same_name q s.other) None) (get-put low.atoms e.actor (goes_under s.atom s.body s.env) q)

      at_packets : (q : Name) → map.get next.packets q ≡ map.get low.packets q
      at_packets q = ap (λ (d : Config). map.get d.packets q) s.is

      apart : (q : Name) → same_name q s.other ≡ true → same_name q e.actor ≡ false
      apart q t = ap (λ x. same_name x e.actor) (same_name-is q s.other t) ∙ same_name-swap s.other e.actor ∙ actor_other

      gone : (q : Name) → same_name q s.other ≡ true → map.get things q ≡ None
      gone q t = at q ∙ ap (λ x. cond x (Some us) (cond (same_name q s.other) None (map.get v.things q))) (apart q t) ∙ ap (λ x. cond x None (map.get v.things q)) t

      its : (q : Name) → same_name q e.actor ≡ true → map.get things q ≡ Some us
      its q t = at q ∙ ap (λ x. cond x (Some us) (cond (same_name q s.other) None (map.get v.things q))) t

      unchanged : (q : Name) → same_name q s.other ≡ false → same_name q e.actor ≡ false → map.get things q ≡ map.get v.things q
      unchanged q t r = at q ∙ ap (λ x. cond x (Some us) (cond (same_name q s.other) None (map.get v.things q))) r ∙ ap (λ x. cond x None (map.get v.things q)) t

      shaped : (q : Name) (t r : Bool) → same_name q s.other ≡ t → same_name q e.actor ≡ r → IsShaped i n from first next things q
      shaped q true r x y =
          IsShaped.nothing (at_atoms q ∙ ap (λ t. cond t None (cond (same_name q e.actor) (Some (goes_under s.atom s.body s.env)) (map.get low.atoms q))) x)
          (at_packets q ∙ ap (map.get low.packets) (same_name-is q s.other x) ∙ b.no_other_packet) (gone q x)
      shaped q false true x y =
          IsShaped.atom (at_atoms q ∙ ap (λ t. cond t None (cond (same_name q e.actor) (Some (goes_under s.atom s.body s.env)) (map.get low.atoms q))) x ∙ ap (λ t. cond t (Some (goes_under s.atom s.body s.env)) (map.get low.atoms q)) y)
          (at_packets q ∙ ap (map.get low.packets) (same_name-is q e.actor y) ∙ b.no_packet) (its q y) b.headed b.are
      shaped q false false x y =
          reshape q (at_atoms q ∙ ap (λ t. cond t None (cond (same_name q e.actor) (Some (goes_under s.atom s.body s.env)) (map.get low.atoms q))) x
          ∙ ap (λ t. cond t (Some (goes_under s.atom s.body s.env)) (map.get low.atoms q)) y) (at_packets q) (unchanged q x y) (c.shaped q)

      atoms : (q : Name) (t r : Bool) → same_name q s.other ≡ t → same_name q e.actor ≡ r → (map.get things q >>= first_atom_of) ≡ (map.get v.things q >>= first_atom_of)
      atoms q true r x y = ap (λ o. o >>= first_atom_of) (gone q x) ∙ sym b.no_atom ∙ sym (ap (λ o. o >>= first_atom_of) (ap (map.get v.things) (same_name-is q s.other x) ∙ b.other_there))
      atoms q false true x y = ap (λ o. o >>= first_atom_of) (its q y) ∙ b.atoms ∙ sym (ap (λ o. o >>= first_atom_of) (ap (map.get v.things) (same_name-is q e.actor y) ∙ b.there))
      atoms q false false x y = ap (λ o. o >>= first_atom_of) (unchanged q x y)

      packets : (q : Name) (t r : Bool) → same_name q s.other ≡ t → same_name q e.actor ≡ r → (map.get things q >>= first_packet_of) ≡ (map.get v.things q >>= first_packet_of)
      packets q true r x y = ap (λ o. o >>= first_packet_of) (gone q x) ∙ sym b.no_high_packet ∙ sym (ap (λ o. o >>= first_packet_of) (ap (map.get v.things) (same_name-is q s.other x) ∙ b.other_there))
      packets q false true x y = ap (λ o. o >>= first_packet_of) (its q y) ∙ b.packets ∙ sym (ap (λ o. o >>= first_packet_of) (ap (map.get v.things) (same_name-is q e.actor y) ∙ b.there))
      packets q false false x y = ap (λ o. o >>= first_packet_of) (unchanged q x y)

      letters : (q : Name) (t r : Bool) → same_name q s.other ≡ t → same_name q e.actor ≡ r → letter_under things q ≡ letter_under v.things q
      letters q true r x y = ap (λ o. o >>= first_letter_of) (gone q x) ∙ sym (low-carries-none u b.no_atom)
          ∙ sym (ap (λ o. o >>= first_letter_of) (ap (map.get v.things) (same_name-is q s.other x) ∙ b.other_there))
      letters q false true x y = ap (λ o. o >>= first_letter_of) (its q y) ∙ b.letters
          ∙ sym (ap (λ o. o >>= first_letter_of) (ap (map.get v.things) (same_name-is q e.actor y) ∙ b.there))
      letters q false false x y = ap (λ o. o >>= first_letter_of) (unchanged q x y)

      known : (q : Name) (vs : List Thing) (t r : Bool) → same_name q s.other ≡ t → same_name q e.actor ≡ r → map.get things q ≡ Some vs → All (λ t. KnowsOnly (may_know v.lock (chips things) t) (is_channel n high.born) from t) vs
      known q vs true r x y h = no_value (sym (gone q x) ∙ h)
      known q vs false true x y h = subst (All (λ t. KnowsOnly (may_know v.lock (chips things) t) (is_channel n high.born) from t)) (sym (done (sym (its q y) ∙ h)))
          (All-from_recursion (λ t. KnowsOnly (may_know v.lock (chips things) t) (is_channel n high.born) from t) us
          (b.known step (recursion_from_All (λ t. KnowsOnly (may_know v.lock (chips v.things) t) (is_channel n high.born) from t) ts (c.known e.actor ts b.there))))
      known q vs false false x y h = All-weaker (λ t. KnowsOnly (may_know v.lock (chips v.things) t) (is_channel n high.born) from t) (λ t. KnowsOnly (may_know v.lock (chips things) t) (is_channel n high.born) from t)
          (λ t k. knows_more (may_know v.lock (chips v.things) t) (may_know v.lock (chips things) t) (is_channel n high.born) from (may_know_on v.lock (chips v.things) (chips things) (b.children step) t) t k)
          vs (c.known q vs (sym (unchanged q x y) ∙ h))
