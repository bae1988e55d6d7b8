-- What is said in a run is said by its Print events, in their order.
use Rattle.std.proofs.Common.{◌≡◌, ◌==◌, ⊎_elim, ℕ, Bool, true, false, cond, nat_eq, is_some, List, [], ◌∷◌, ◌++◌, map, get_or, Option, None, Some, filter, refl, sym, ap, ap₂, subst, ◌∙◌, append_assoc, append-nil}
use Rattle.std.proofs.lemmas.Bool.{eq-eqb}
use Rattle.std.proofs.lemmas.List.{map-append}
use Rattle.std.proofs.lemmas.List.Elements.{All-from_recursion}
use Rattle.std.proofs.lemmas.Simd.{map-map}
use Rattle.std.specs.List.{AllByRecursion}
use Rattle.np_syntax.specs.declared.process.Role.TheVariants as role
use Rattle.np_syntax.specs.declared.event.Kind.TheVariants as kind
use Rattle.np_calculus.proofs.Common.{Name, Value, Event, Kind, then, when, done, eval, bind, letter_of, places_of, truth_of, chan_of, agent_of, layer, Proc, Config, Contents, Sight, sight, at_site as is_at_site, Change, same_tag, way, one_made, none_made, two_made, no_other, acting_in, act, arrive_row, land_row, here_row, away_row, change, apply}
use Rattle.np_calculus.specs.declared.config.Atom.{Atom}
use Rattle.np_calculus.specs.Changes.{with_said}
use Rattle.np_calculus.specs.Reductions.{run, site_in}
use Rattle.np_calculus.proofs.Rows.{parts, so, lone, taking}
use Rattle.np_calculus.proofs.Steps.{row-step}
use Rattle.np_site_runs.specs.merged.Steps.{IsSpread}
use Rattle.stamp_history.specs.Histories.{Recorded, prints, without_events}
use Rattle.run_merge.specs.declared.rank.Rank.{Rank}
use Rattle.run_merge.specs.declared.rank.Ranked.{Ranked}
use Rattle.run_merge.specs.Laws.{said_at}
use Rattle.run_merge.specs.Merged.{merged, items, merged_values, at_site, print_events, said}
use Rattle.run_merge.proofs.InOrder.{all_filter, all_map, all_weaker, filter_map_back}
use Rattle.run_merge.proofs.Values.{follows_prints, keeps_said, only_said}
use Rattle.np_site_runs.specs.merged.Deeds.{AreSiteRuns, Leads, SiteRuns, at_end, at_start}
use Rattle.np_site_runs.specs.merged.StampedLaws.{AreRecorded, IsSaid, SaidInOrder}
use Rattle.np_site_runs.proofs.merged.Merging.{HasItsRank, all-ranks, all_deeds, clocked, found, turns-merged}

-- ---- one event

module _ (sites : ℕ) (x : Contents) (e : Event) (d : Change) where
  abbrev w : Sight
  w = sight sites x e.site

  -- a value is said just by an event of a kind that prints
  abbrev Says : Bool → Change → Type 0
  Says b d = is_some d.said ≡ b

  module _ (a : Atom) where
    tested : (t : Bool) → (met unmet : Proc) (b n : Name) (v : Value) → cond t (here_row e a met b n v) (away_row e a unmet) ≡ Some d → Says false d
    unfolding here_row away_row
    tested true met unmet b n v h = then (one_made e.made) _ h λ m made h. so (Says false) e h refl
    tested false met unmet b n v h = then (none_made e.made) _ h λ m made h. so (Says false) e h refl

    says-act : (k : Kind) → act k (layer a.proc) w e a ≡ Some d → Says (prints k) d
    unfolding act
    says-act kind.Stop h = parts kind.Stop w e a h λ p form h. lone (Says false) e h refl
    says-act kind.Fork h = parts kind.Fork w e a h λ p form h. then (one_made e.made) _ h λ m made h. then (no_other e.other) _ h λ l other h. so (Says false) e h refl
    says-act kind.New h = parts kind.New w e a h λ p form h. then (one_made e.made) _ h λ m made h. then (no_other e.other) _ h λ l other h. so (Says false) e h refl
    says-act kind.Let h = parts kind.Let w e a h λ p form h. then (eval p.1 a.env) _ h λ v gives h. then (bind p.0 v a.env) _ h λ env binds h. lone (Says false) e h refl
    says-act kind.If h = parts kind.If w e a h λ p form h. then (truth_of p.0 a.env) _ h λ t truth h. lone (Says false) e h refl
    says-act kind.Comm h = parts kind.Comm w e a h λ p form h. taking w e a p.0 p.1 _ h λ n o v env on offer binds h. so (Says false) e h refl
    says-act kind.Rep h = parts kind.Rep w e a h λ p form h. taking w e a p.0 p.1 _ h λ n o v env on offer binds h. so (Says false) e h refl
    says-act kind.Agent h = parts kind.Agent w e a h λ p form h. then (two_made e.made) _ h λ n made h. then (no_other e.other) _ h λ l other h. so (Says false) e h refl
    says-act kind.Depart h = parts kind.Depart w e a h λ p form h. then (site_in sites p.0 a.env) _ h λ t names h. lone (Says false) e h refl
    says-act kind.Arrive h = absurd cc
    says-act kind.Local h = parts kind.Local w e a h λ p form h. then (agent_of p.0 a.env) _ h λ b names h. then (chan_of p.1 a.env) _ h λ n along h.
        then (eval p.2 a.env) _ h λ v gives h. then (no_other e.other) _ h λ l other h. tested (is_at_site (x.place b) e.site) p.3 p.4 b n v h
    says-act kind.Send h = parts kind.Send w e a h λ p form h. then (agent_of p.0 a.env) _ h λ b names h. then (site_in sites p.1 a.env) _ h λ t goes_to h.
        then (chan_of p.2 a.env) _ h λ n along h. then (eval p.3 a.env) _ h λ v gives h. lone (Says false) e h refl
    says-act kind.Land h = absurd cc
    says-act kind.Print h = parts kind.Print w e a h λ p form h. then (eval p a.env) _ h λ v gives h. lone (Says true) e h refl
    says-act kind.Open h = parts kind.Open w e a h λ p form h. then (letter_of p a.env) _ h λ v gives h. lone (Says false) e h refl
    says-act kind.Lookup h = parts kind.Lookup w e a h λ p form h. then (agent_of p.0 a.env) _ h λ b names h. then (places_of p.1 a.env) _ h λ ps among h. lone (Says false) e h refl
    says-act kind.Post h = parts kind.Post w e a h λ p form h. then (agent_of p.0 a.env) _ h λ b names h. then (chan_of p.1 a.env) _ h λ n along h.
        then (eval p.2 a.env) _ h λ v gives h. lone (Says false) e h refl

  says-arrive : arrive_row (x.place e.actor) e ≡ Some d → Says false d
  unfolding arrive_row
  says-arrive h =
      then (x.place e.actor) _ h λ p there h. then (way p) _ h λ s comes h. when (nat_eq s e.site) _ h λ here h.
      when (same_tag e.tag (record { node = 0; role = role.Plain })) _ h λ tag h. lone (Says false) e h refl

  says-land : land_row (x.packet e.actor) w e ≡ Some d → Says false d
  unfolding land_row
  says-land h = then (x.packet e.actor) _ h λ p flies h. when (nat_eq p.to e.site) _ h λ to h. when (same_tag p.tag e.tag) _ h λ tag h. lone (Says false) e h refl

  says : (k : Kind) → change k sites x e ≡ Some d → Says (prints k) d
  says kind.Arrive h = says-arrive h
  says kind.Land h = says-land h
  says k h = then (acting_in w e) _ h λ a acts h. says-act a k h

-- ---- the sites of what is said

abbrev sites_of : List (ℕ × Value) → List ℕ
sites_of = map (λ p. p.0)

sites-with_said : (before : List (ℕ × Value)) (s : ℕ) (o : Option Value) (b : Bool) → is_some o ≡ b → sites_of (with_said before s o) ≡ sites_of before ++ cond b (s ∷ []) []
sites-with_said before s None b is = sym (append-nil (sites_of before)) ∙ ap (λ b. sites_of before ++ cond b (s ∷ []) []) is
sites-with_said before s (Some v) b is = map-append (λ (p : ℕ × Value). p.0) before ((s, v) ∷ []) ∙ ap (λ b. sites_of before ++ cond b (s ∷ []) []) is

said-after : (c d : Config) (e : Event) → apply c e ≡ Some d → sites_of d.said ≡ sites_of c.said ++ cond (prints e.kind) (e.site ∷ []) []
said-after c d e h =
    let s = row-step c e d e.kind h in
    ap (λ (d : Config). sites_of d.said) s.is ∙ sites-with_said c.said e.site s.made.said (prints e.kind) (says c.sites _ e s.made e.kind s.gives)

said-along : (es : List Event) (c d : Config) → run c es ≡ Some d → sites_of d.said ≡ sites_of c.said ++ map (λ e. e.site) (filter (λ e. prints e.kind) es)
said-along [] c d h = ap (λ (d : Config). sites_of d.said) (done h) ∙ sym (append-nil (sites_of c.said))
said-along (e ∷ es) c d h =
    then (apply c e) _ h λ x first h.
    said-along es x d h
    ∙ ap (λ xs. xs ++ map (λ e. e.site) (filter (λ e. prints e.kind) es)) (said-after c x e first)
    ∙ append_assoc (sites_of c.said) (cond (prints e.kind) (e.site ∷ []) []) (map (λ e. e.site) (filter (λ e. prints e.kind) es))
    ∙ ap (λ xs. sites_of c.said ++ xs) (at (prints e.kind))
  where
    at : (b : Bool) → cond b (e.site ∷ []) [] ++ map (λ e. e.site) (filter (λ e. prints e.kind) es) ≡ map (λ e. e.site) (cond b (e ∷ filter (λ e. prints e.kind) es) (filter (λ e. prints e.kind) es))
    at true = refl
    at false = refl

-- ---- what each site has said

-- where no site has said anything nothing is said
silence : (xs : List (ℕ × Value)) → ((s : ℕ) → said_at s xs ≡ []) → xs ≡ []
silence [] none = refl
silence (x ∷ xs) none = let e : x ∷ said_at x.0 xs ≡ [] = ap (λ b. cond b (x ∷ said_at x.0 xs) (said_at x.0 xs)) (sym (eq-eqb x.0 x.0 refl)) ∙ none x.0 in absurd cc

-- and a site that has said nothing in one list has said nothing in another with the same sites
silent-too : (s : ℕ) (xs ys : List (ℕ × Value)) → sites_of xs ≡ sites_of ys → said_at s xs ≡ [] → said_at s ys ≡ []
silent-too s [] [] same none = refl
silent-too s [] (y ∷ ys) same none = absurd cc
silent-too s (x ∷ xs) [] same none = absurd cc
silent-too s (x ∷ xs) (y ∷ ys) same none =
    let first : x.0 ≡ y.0 = cc in
    let rest : sites_of xs ≡ sites_of ys = cc in
    ap (λ t. cond (t == s) (y ∷ said_at s ys) (said_at s ys)) (sym first) ∙ at (x.0 == s) none (silent-too s xs ys rest)
  where
    at : (b : Bool) → cond b (x ∷ said_at s xs) (said_at s xs) ≡ [] → (said_at s xs ≡ [] → said_at s ys ≡ []) → cond b (y ∷ said_at s ys) (said_at s ys) ≡ []
    at true none more = absurd cc
    at false none more = more none

map_alike : {A B : Type 0} (f g : A → B) (xs : List A) → AllByRecursion (λ x. f x ≡ g x) xs → map f xs ≡ map g xs
map_alike f g [] all = refl
map_alike f g (x ∷ xs) all = ap₂ (λ y ys. y ∷ ys) all.0 (map_alike f g xs all.1)

module _ (n : ℕ) (r : SiteRuns) (hs : List Recorded) (c d : Config) (runs : AreSiteRuns n r) (are : AreRecorded hs r) (said_there : IsSaid hs r) where
  -- the sites of the printed values are those of the Print events
  events-sites : AllByRecursion (λ e. e.item.site ≡ e.rank.site) (merged hs)
  events-sites = subst (AllByRecursion (λ e. e.item.site ≡ e.rank.site)) (turns-merged n r hs (clocked n r runs) are)
      (all_map (λ e. e.item.site ≡ e.rank.site) _ (all_deeds r.deeds hs)
      (all_weaker HasItsRank (λ x. x.item.event.event.site ≡ x.rank.site) (λ x is. is.site) (all_deeds r.deeds hs) (all-ranks n r hs (clocked n r runs) are)))

  said-sites : sites_of (said hs) ≡ map (λ e. e.site) (filter (λ e. prints e.kind) (items (merged hs)))
  said-sites =
      map-map (λ (p : ℕ × Value). p.0) at_site (merged_values hs)
      ∙ sym (map-map (λ (k : Rank). k.site) (λ (v : Ranked Value). v.rank) (merged_values hs))
      ∙ ap (map (λ (k : Rank). k.site)) (follows_prints hs are.histories)
      ∙ map-map (λ (k : Rank). k.site) (λ (e : Ranked Event). e.rank) (print_events (merged hs))
      ∙ sym (map_alike (λ (e : Ranked Event). e.item.site) (λ e. e.rank.site) (print_events (merged hs))
      (all_filter (λ e. e.item.site ≡ e.rank.site) (λ e. prints e.item.kind) (merged hs) events-sites))
      ∙ sym (map-map (λ (e : Event). e.site) (λ (e : Ranked Event). e.item) (print_events (merged hs)))
      ∙ ap (map (λ (e : Event). e.site)) (sym (filter_map_back (λ (e : Event). prints e.kind) (λ (e : Ranked Event). e.item) (merged hs)))

  module _ (begins : IsSpread n (at_start r) c) (h : run c (items (merged hs)) ≡ Some d) (ends : IsSpread n (at_end n r) d) where
    at_first : c.said ≡ []
    at_first = silence c.said (λ s. begins.said s ∙ said_there.silent s)

    same-sites : sites_of d.said ≡ sites_of (said hs)
    same-sites = said-along (items (merged hs)) c d h ∙ ap (λ xs. sites_of xs ++ map (λ e. e.site) (filter (λ e. prints e.kind) (items (merged hs)))) at_first ∙ sym said-sites

    -- a site without a history did nothing
    stays : (s : ℕ) → r.deeds s ≡ [] → (r.end s).said ≡ []
    stays s none =
        let same : r.start s ≡ r.end s = subst (λ ds. Leads (r.start s) ds (r.end s)) none (runs.each s).leads in
        ap (λ (l : Config). l.said) (sym same) ∙ said_there.silent s

    each-site : (s : ℕ) → said_at s d.said ≡ said_at s (said hs)
    each-site s = ⊎_elim
        (λ (k, within, is).
        let h = get_or hs k (without_events 0 0) in
        subst (λ s. said_at s d.said ≡ said_at s (said hs)) is
        (ends.said h.site
        ∙ All-from_recursion (λ h. (r.end h.site).said ≡ map (λ v. (h.site, v)) h.said) hs said_there.values k (without_events 0 0) within
        ∙ sym (keeps_said hs k (without_events 0 0) are.histories within)))
        (λ none.
        let silent : said_at s d.said ≡ [] = ends.said s ∙ stays s (are.others s none) in
        silent ∙ sym (silent-too s d.said (said hs) same-sites silent))
        (found hs s)

    pub in_order_said : d.said ≡ said hs
    in_order_said = only_said hs d.said same-sites each-site

pub said_in_order : SaidInOrder
said_in_order n r hs c d runs are said_there begins h ends = in_order_said n r hs c d runs are said_there begins h ends
