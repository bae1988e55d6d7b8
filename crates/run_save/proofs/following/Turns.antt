-- The deeds of sites one after the other are a run that is ours, and its links are those of the sites.
use Rattle.std.proofs.Common.{◌≡◌, ◌<◌, inl, inr, ⊎_elim, ℕ, false, Option, None, Some, IfSome, IsSome, List, [], ◌∷◌, ◌++◌, drop, length, map, refl, sym, ap, subst, ◌∙◌}
use Rattle.std.proofs.lemmas.Bool.{eq-eqb}
use Rattle.std.proofs.lemmas.List.{append-nil, append_assoc}
use Rattle.std.specs.List.{AllByRecursion}
use Rattle.np_syntax.specs.declared.event.Event.{Event}
use Rattle.np_calculus.proofs.Common.{Config, Contents, Name, apply, inside, then, ◌>>=◌}
use Rattle.np_calculus.specs.FrameRule.{IsMade}
use Rattle.np_calculus.specs.Parts.{IsApart}
use Rattle.np_calculus.specs.Reductions.{run}
use Rattle.np_calculus.proofs.Fits.{some}
use Rattle.np_calculus.proofs.FrameRule.{made-unborn}
use Rattle.np_calculus.proofs.OwnNames.{not_true}
use Rattle.np_calculus.proofs.Steps.{row-step}
use Rattle.np_site_runs.specs.merged.Joined.{together}
use Rattle.np_site_runs.specs.merged.Links.{Linked, air, loads, over, spread}
use Rattle.np_site_runs.specs.merged.Steps.{IsSpread, IsStep, sites}
use Rattle.np_site_runs.proofs.merged.Joined.{divide_apart}
use Rattle.np_site_runs.proofs.merged.Steps.{with-site-same}
use Rattle.np_site_runs.specs.merged.Deeds.{Deed, StampedItem, plain, put_for}
use Rattle.np_site_runs.specs.merged.Elements.{Occurs}
use Rattle.np_site_runs.specs.merged.Turns.{Waiting, WaitsOn, moved, own, puts, puts_at, takes, takes_at, without}
use Rattle.np_syntax.proofs.Options.{there-is}
use Rattle.np_site_runs.proofs.merged.Elements.{mapped-occurs, occurs-first, occurs-map, occurs-second, over-occurs}
use Rattle.np_site_runs.proofs.merged.Flowing.{each_site, takes-here}
use Rattle.np_site_runs.proofs.merged.Linking.{all_first, all_second}
use Rattle.np_site_runs.proofs.merged.Moving.{below_or_not}
use Rattle.np_site_runs.proofs.merged.Resting.{in_sites}
use Rattle.np_site_runs.specs.Holdings.{Holding}
use Rattle.np_site_runs.specs.Acting.{LeadsTo}
use Rattle.np_site_runs.specs.Ending.{IsLoad}
use Rattle.np_site_runs.proofs.Running.{IsHeld, IsTaken, holding-here, holding-there, take_turn, with_holding}
use Rattle.run_save.specs.declared.trips.Item.{Item}
use Rattle.run_save.specs.declared.trips.Item.TheVariants as item
use Rattle.run_save.specs.Ours.{IsOursFrom, TakesPutFirst, names_by}
use Rattle.run_save.specs.Travels.{Travels, none_yet, same_item, travels, travels_on}
use Rattle.run_save.proofs.GoingOn.{ours-goes-on}
use Rattle.run_save.proofs.LinkLaws.{takes-from}
use Rattle.run_save.proofs.RunLaws.{travels-more}
use Rattle.run_save.specs.following.ByKind.{IsOfKind}
use Rattle.run_save.specs.following.Shown.{ShowEach, Shows}
use Rattle.run_save.specs.following.TravelLaws.{link}
use Rattle.run_save.proofs.following.ByKind.{inner-kind, kind-inner, kind-put, kind-taken, puts-kind, takes-kind}
use Rattle.run_save.proofs.following.Lists.{PutMore, Told, first, first-sender, moved-nothing, none-more, none-put, put-first, put-first_there, put-more, same_item-is, show-all, show-append, told-put, told-same, told-take}
use Rattle.run_save.proofs.following.TravelNames.{are-next, count-here, count-there, next-is}
use Rattle.run_save.proofs.following.Trips.{IsPut, StoodIn, Within, inner, inner-still, inner-takes, is_put, is_taken, part-within, together-within}

-- ---- what sites and links have is in the whole

module _ (n : ℕ) (g : Linked) (c : Config) (w : Waiting) (shown : IsSpread n (spread n g) c) (waits : WaitsOn n g.link w) where
  in-whole : (x : Contents) → Occurs (λ z. z ≡ x) (sites n g.here ++ air n g.link) → Within x (inside c)
  in-whole x h = subst (Within x) (sym shown.joined.is) (part-within (sites n g.here ++ air n g.link) x shown.joined.apart h)

  pub site-within : (s : ℕ) → s < n → Within (inside (g.here s)) (inside c)
  site-within s less = in-whole (inside (g.here s)) (occurs-first (λ z. z ≡ inside (g.here s)) (sites n g.here) (air n g.link) (in_sites (λ z. z ≡ inside (g.here s)) g.here n s less refl))

  in-air : (u v : ℕ) (x : StampedItem) → u < n → v < n → Occurs (λ z. z ≡ x) (w u v) → Occurs (λ p. p ≡ x.item.load) (air n g.link)
  in-air u v x from to h =
      over-occurs (λ p. p ≡ x.item.load) n (λ u. over n (λ t. map (λ x. x.load) (g.link u t))) u from
      (over-occurs (λ p. p ≡ x.item.load) n (λ t. map (λ x. x.load) (g.link u t)) v to
      (mapped-occurs (λ p. p ≡ x.item.load) (λ x. x.load) (g.link u v)
      (subst (Occurs (λ z. z.load ≡ x.item.load)) (sym (waits.shows u v))
      (mapped-occurs (λ z. z.load ≡ x.item.load) (λ x. x.item) (w u v)
      (occurs-map (λ z. z ≡ x) (λ z. z.item.load ≡ x.item.load) (λ z same. ap (λ (z : StampedItem). z.item.load) same) (w u v) h)))))

  pub load-within : (u v : ℕ) (x : StampedItem) → u < n → v < n → Occurs (λ z. z ≡ x) (w u v) → Within x.item.load (inside c)
  load-within u v x from to h = in-whole x.item.load (occurs-second (λ z. z ≡ x.item.load) (sites n g.here) (air n g.link) (in-air u v x from to h))

  -- what waits is none of what stands at a site
  module _ (s : ℕ) (less : s < n) (u v : ℕ) (x : StampedItem) (from : u < n) (to : v < n) (h : Occurs (λ z. z ≡ x) (w u v)) where
    at_sites : Within (inside (g.here s)) (together (sites n g.here))
    at_sites = part-within (sites n g.here) (inside (g.here s)) (divide_apart (sites n g.here) (air n g.link) shown.joined.apart).0 (in_sites (λ z. z ≡ inside (g.here s)) g.here n s less refl)

    on_links : Within x.item.load (together (air n g.link))
    on_links = part-within (air n g.link) x.item.load (divide_apart (sites n g.here) (air n g.link) shown.joined.apart).1 (in-air u v x from to h)

    far : IsApart (together (sites n g.here)) (together (air n g.link))
    far = (divide_apart (sites n g.here) (air n g.link) shown.joined.apart).2

    other-item : (i : Item) → StoodIn i (inside (g.here s)) → Shows v i x → ⊥
    other-item (item.Agent agent) stood shows =
        let t = there-is ((inside (g.here s)).place agent) stood in
        let none = far.agents agent (some ((together (sites n g.here)).place agent) t.0 (at_sites.place agent t.0 t.1)) in
        let there = on_links.place agent _ shows.comes in
        let e = sym none ∙ there in
        absurd cc
    other-item (item.Packet mark) stood shows =
        let t = there-is ((inside (g.here s)).atom mark) stood in
        let none = (far.marks mark (inl (some ((together (sites n g.here)).atom mark) t.0 (at_sites.atom mark t.0 t.1)))).packet in
        let there = on_links.packet mark shows.packet shows.flies in
        let e = sym none ∙ there in
        absurd cc

    pub not-same : (i j : Item) → StoodIn i (inside (g.here s)) → Shows v j x → same_item i j ≡ false
    not-same i j stood shows = not_true (same_item i j) (λ t. other-item i stood (subst (λ k. Shows v k x) (sym (same_item-is i j t)) shows))

-- ---- one event more

run-more : (c : Config) (events : List Event) (e : Event) (before after : Config) → run c events ≡ Some before → apply before e ≡ Some after → run c (events ++ e ∷ []) ≡ Some after
run-more c [] e before after reaches enabled =
    let same : c ≡ before = cc in
    ap (λ o. o >>= λ x. Some x) (ap (λ x. apply x e) same ∙ enabled)
run-more c (f ∷ events) e before after reaches enabled =
    then (apply c f) (λ x. run x events) reaches (λ x now rest. ap (λ o. o >>= λ z. run z (events ++ e ∷ [])) now ∙ run-more x events e before after rest enabled)

-- what the sites are still to put leads to its site, and is not empty
abbrev pub AreRight : ℕ → List Deed → Type 0
AreRight n ds = (u v : ℕ) → u < n → v < n → AllByRecursion (λ x. LeadsTo v x × IsLoad x.item.load) (put_for v (own u ds))

module _ (n : ℕ) (start : Config) where
  -- what holds after events
  pub record IsReached (events : List Event) (held : ℕ → Holding) (c : Config) (w : Waiting) : Type 0 where
    pub runs : run start events ≡ Some c
    pub ours : IsOursFrom start events
    pub counts : (s : ℕ) → s < n → (held s).next ≡ length (names_by s events)
    pub told : Told n (travels start events) w

  module _ (d : Deed) (ds : List Deed) (held end : ℕ → Holding) (g : Linked) (w rest : Waiting) (c : Config) (events : List Event) where
    module _ (is : IsHeld n (d ∷ ds) held end g w rest c) (reached : IsReached events held c w) (right : AreRight n (d ∷ ds)) where
      pub turn : IsTaken n d ds held end g w rest c
      turn = take_turn n d ds held end g w rest c is

      -- what the event does to the links
      record HasGone : Type 0 where
        takes : TakesPutFirst d.event.event.kind (travels start events) d.event.event
        told : Told n (travels_on d.event.event.kind (travels start events) turn.on.after d.event.event) (moved w d)
        more : PutMore n (travels start events) (travels_on d.event.event.kind (travels start events) turn.on.after d.event.event) (λ u v. puts u v d)
        kind : IsOfKind d

      the-step : (o p : Option StampedItem) → d.taken ≡ o → d.put ≡ p → IsStep d.event.event (g.here d.event.event.site) (loads (plain o)) turn.now (loads (plain p))
      the-step o p taken put = subst (λ o. IsStep d.event.event (g.here d.event.event.site) (loads (plain o)) turn.now (loads (plain p))) taken
          (subst (λ p. IsStep d.event.event (g.here d.event.event.site) (loads (plain d.taken)) turn.now (loads (plain p))) put turn.step)

      -- the parts of the event are in the whole after it
      now-within : Within (inside turn.now) (inside turn.on.after)
      now-within = subst (λ x. Within (inside x) (inside turn.on.after)) (turn.on.here d.event.event.site ∙ with-site-same d.event.event.site g.here turn.now)
          (site-within n turn.on.next turn.on.after (moved w d) turn.on.spread turn.on.waits d.event.event.site is.among.0.at)

      module _ (y : StampedItem) (none : d.taken ≡ None) (put : d.put ≡ Some y) where
        to : y.item.receiver < n
        to = subst (λ o. IfSome o (λ x. x.item.receiver < n)) put is.among.0.to

        put-is : puts d.event.event.site y.item.receiver d ≡ y ∷ []
        put-is = ap (puts_at d.event.event.site y.item.receiver d.event.event.site) put
            ∙ rw (eq-eqb d.event.event.site d.event.event.site refl, eq-eqb y.item.receiver y.item.receiver refl) refl

        right-here : LeadsTo y.item.receiver y × IsLoad y.item.load
        right-here = (subst (AllByRecursion (λ x. LeadsTo y.item.receiver x × IsLoad x.item.load)) put-is
            (all_first (λ x. LeadsTo y.item.receiver x × IsLoad x.item.load) (puts d.event.event.site y.item.receiver d) (put_for y.item.receiver (own d.event.event.site ds))
            (subst (AllByRecursion (λ x. LeadsTo y.item.receiver x × IsLoad x.item.load)) (put-first d.event.event.site y.item.receiver d ds)
            (right d.event.event.site y.item.receiver is.among.0.at to)))).0

        its-step : IsStep d.event.event (g.here d.event.event.site) [] turn.now (y.item.load ∷ [])
        its-step = the-step None (Some y) none put

        its : IsPut (held d.event.event.site) turn.then (g.here d.event.event.site) turn.now (is.parts d.event.event.site) turn.part d.event.event y its-step
        its = is_put (held d.event.event.site) turn.then (g.here d.event.event.site) turn.now (is.parts d.event.event.site) turn.part d.event.event y its-step right-here.0 right-here.1

        load_after : Within y.item.load (inside turn.on.after)
        load_after = load-within n turn.on.next turn.on.after (moved w d) turn.on.spread turn.on.waits d.event.event.site y.item.receiver y is.among.0.at to
            (occurs-second (λ z. z ≡ y) (without w d d.event.event.site y.item.receiver) (puts d.event.event.site y.item.receiver d) (subst (Occurs (λ z. z ≡ y)) (sym put-is) (inl refl)))

        next-within : Within (inside its-step.next) (inside turn.on.after)
        next-within = subst (λ x. Within x (inside turn.on.after)) (sym its-step.parts.is) (together-within (inside turn.now ∷ y.item.load ∷ []) (inside turn.on.after) each)
          where
            each : (x : Contents) → Occurs (λ z. z ≡ x) (inside turn.now ∷ y.item.load ∷ []) → Within x (inside turn.on.after)
            each x (inl same) = subst (λ x. Within x (inside turn.on.after)) same now-within
            each x (inr (inl same)) = subst (λ x. Within x (inside turn.on.after)) same load_after
            each x (inr (inr none)) = absurd none

        fresh : (u v : ℕ) → u < n → v < n → AllByRecursion (λ j. same_item its.item j ≡ false) (reached.told.waits u v)
        fresh u v from upto = show-all v (λ j. same_item its.item j ≡ false) (reached.told.waits u v) (w u v) (reached.told.shows u v from upto)
            (λ j x o shows. not-same n g c w is.spread is.waits d.event.event.site is.among.0.at u v x from upto o its.item j its.stood shows)

        goes-put : HasGone
        goes-put =
            let same = its.travels (travels start events) turn.on.after next-within in
            record {
              takes = its.takes (travels start events);
              told = subst (λ t. Told n t (moved w d)) (sym same) (told-put n (travels start events) w d reached.told y none put its.item its.shows fresh);
              more = subst (λ t'. PutMore n (travels start events) t' (λ u v. puts u v d)) (sym same)
                  (put-more n (travels start events) w d reached.told y none put its.item its.shows);
              kind = kind-put d y none put
                  (puts-kind d.event.event.kind turn.on.after d.event.event (record { item = its.item; link = link d.event.event.site y.item.receiver })
                  (its.travels none_yet turn.on.after next-within));
            }

      module _ (x : StampedItem) (taken : d.taken ≡ Some x) (none : d.put ≡ None) where
        takes-is : takes x.item.sender d.event.event.site d ≡ x ∷ []
        takes-is = ap (takes_at x.item.sender d.event.event.site d.event.event.site) taken ∙ takes-here d.event.event.site x

        front : w x.item.sender d.event.event.site ≡ x ∷ drop 1 (w x.item.sender d.event.event.site)
        front = subst (λ ts. w x.item.sender d.event.event.site ≡ ts ++ drop (length ts) (w x.item.sender d.event.event.site)) takes-is (is.flow.0 x.item.sender d.event.event.site)

        from : x.item.sender < n
        from = ⊎_elim (λ h. h)
            (λ h. let e : x ∷ drop 1 (w x.item.sender d.event.event.site) ≡ [] = sym front ∙ is.waits.none x.item.sender d.event.event.site h in absurd cc)
            (below_or_not x.item.sender n)

        there : Occurs (λ z. z ≡ x) (w x.item.sender d.event.event.site)
        there = subst (Occurs (λ z. z ≡ x)) (sym front) (inl refl)

        load-there : Within x.item.load (inside c)
        load-there = load-within n g c w is.spread is.waits x.item.sender d.event.event.site x from is.among.0.at there

        known : (q : Name) → IsSome (x.item.load.place q) → IsMade d.event.event.made q → ⊥
        known q stands made =
            let p = there-is (x.item.load.place q) stands in
            let born = is.spread.born.agents q (some ((inside c).place q) p.0 (load-there.place q p.0 p.1)) in
            let unborn = made-unborn c.born d.event.event.made q (row-step c d.event.event turn.on.after d.event.event.kind turn.on.applies).new made in
            let e = sym born ∙ unborn in
            absurd cc

        goes-take : HasGone
        goes-take =
            let t = travels start events in
            let s = the-step (Some x) None taken none in
            let ys = drop 1 (w x.item.sender d.event.event.site) in
            let f = first n t w d reached.told x ys taken none front from is.among.0.at in
            let sent = first-sender n t w d reached.told x ys taken none front from is.among.0.at in
            let its = is_taken (held d.event.event.site) turn.then (g.here d.event.event.site) turn.now (is.parts d.event.event.site) turn.part d.event.event x s known f.item f.shows in
            let same = its.travels t turn.on.after ∙ takes-from t f.item d.event.event.site x.item.sender sent in
            record {
              takes = its.takes t (record { from = x.item.sender; sent = sent; later = f.more; first = put-first_there n t w d reached.told x ys taken none front from is.among.0.at });
              told = subst (λ t. Told n t (moved w d)) (sym same) (told-take n t w d reached.told x ys taken none front from is.among.0.at);
              more = subst (λ t'. PutMore n t t' (λ u v. puts u v d)) (sym same) (record {
                more = λ u v. [];
                are = λ u v h k. sym (append-nil _);
                shows = λ u v h k. subst (ShowEach v []) (sym (none-put w d u v none)) tt;
              });
              kind = kind-taken d x taken none (takes-kind d.event.event.kind turn.on.after d.event.event f.item x f.shows (its.travels none_yet turn.on.after));
            }

      goes-inner : d.taken ≡ None → d.put ≡ None → HasGone
      goes-inner none still =
          let t = travels start events in
          let s = the-step None None none still in
          let its = inner (held d.event.event.site) turn.then (g.here d.event.event.site) turn.now (is.parts d.event.event.site) turn.part d.event.event s in
          let same = inner-still d.event.event.kind t turn.on.after d.event.event its in
          record {
            takes = inner-takes d.event.event.kind t d.event.event its;
            told = subst (λ t. Told n t (moved w d)) (sym same) (told-same n t w (moved w d) (λ u v. sym (moved-nothing w d u v none still)) reached.told);
            more = subst (λ t'. PutMore n t t' (λ u v. puts u v d)) (sym same) (none-more n t (λ u v. puts u v d) (λ u v. none-put w d u v still));
            kind = kind-inner d none still (inner-kind d.event.event.kind its);
          }

      goes : HasGone
      goes = by d.taken d.put refl refl
        where
          by : (o p : Option StampedItem) → d.taken ≡ o → d.put ≡ p → HasGone
          by None None a b = goes-inner a b
          by None (Some y) a b = goes-put y a b
          by (Some x) p a b = goes-take x a (subst (λ o. IfSome o (λ x. d.put ≡ None)) a turn.does.3)

      travels-now : travels start (events ++ d.event.event ∷ []) ≡ travels_on d.event.event.kind (travels start events) turn.on.after d.event.event
      travels-now = travels-more none_yet start events d.event.event c turn.on.after reached.runs turn.on.applies

      next-count : (held d.event.event.site).next ≡ length (names_by d.event.event.site events)
      next-count = reached.counts d.event.event.site is.among.0.at

      pub next-reached : IsReached (events ++ d.event.event ∷ []) (with_holding held d.event.event.site turn.then) turn.on.after (moved w d)
      next-reached = record {
        runs = run-more start events d.event.event c turn.on.after reached.runs turn.on.applies;
        ours = (ours-goes-on start c turn.on.after events d.event.event reached.runs turn.on.applies reached.ours).1 (record {
          names = are-next (held d.event.event.site) turn.then d.event.event.site (length (names_by d.event.event.site events)) (is.sites d.event.event.site) next-count d.event.event.made turn.does.2;
          takes = goes.takes;
        });
        counts = each_site (λ s. s < n → (with_holding held d.event.event.site turn.then s).next ≡ length (names_by s (events ++ d.event.event ∷ []))) d.event.event.site
            (λ less. ap (λ (h : Holding). h.next) (holding-here held d.event.event.site turn.then)
            ∙ next-is (held d.event.event.site) turn.then d.event.event.site (length (names_by d.event.event.site events)) (is.sites d.event.event.site) next-count d.event.event.made turn.does.2
            ∙ sym (count-here events d.event.event))
            (λ s apart less. ap (λ (h : Holding). h.next) (holding-there held d.event.event.site turn.then s apart) ∙ reached.counts s less ∙ sym (count-there s events d.event.event apart));
        told = subst (λ t. Told n t (moved w d)) (sym travels-now) goes.told;
      }

      pub next-more : PutMore n (travels start events) (travels start (events ++ d.event.event ∷ [])) (λ u v. puts u v d)
      next-more = subst (λ t. PutMore n (travels start events) t (λ u v. puts u v d)) (sym travels-now) goes.more

      pub next-kind : IsOfKind d
      next-kind = goes.kind

  -- ---- all events

  pub record IsDone (events later : List Event) (ds : List Deed) (rest : Waiting) : Type 0 where
    pub ours : IsOursFrom start (events ++ later)
    pub told : Told n (travels start (events ++ later)) rest
    pub more : PutMore n (travels start events) (travels start (events ++ later)) (λ u v. put_for v (own u ds))
    pub kinds : AllByRecursion IsOfKind ds

  more-on : (t t' t'' : Travels) (ps qs rs : ℕ → ℕ → List StampedItem) → ((u v : ℕ) → rs u v ≡ ps u v ++ qs u v) → PutMore n t t' ps → PutMore n t' t'' qs → PutMore n t t'' rs
  more-on t t' t'' ps qs rs are a b = record {
    more = λ u v. a.more u v ++ b.more u v;
    are = λ u v h k. b.are u v h k ∙ ap (λ z. z ++ b.more u v) (a.are u v h k) ∙ append_assoc _ (a.more u v) (b.more u v);
    shows = λ u v h k. subst (ShowEach v (a.more u v ++ b.more u v)) (sym (are u v)) (show-append v (a.more u v) (b.more u v) (ps u v) (qs u v) (a.shows u v h k) (b.shows u v h k));
  }

  pub all-done : (ds : List Deed) (held end : ℕ → Holding) (g : Linked) (w rest : Waiting) (c : Config) (events : List Event) → IsHeld n ds held end g w rest c
      → IsReached events held c w → AreRight n ds → IsDone events (map (λ d. d.event.event) ds) ds rest
  all-done [] held end g w rest c events is reached right =
      let same : events ≡ events ++ [] = sym (append-nil events) in
      record {
        ours = subst (IsOursFrom start) same reached.ours;
        told = subst (λ es. Told n (travels start es) rest) same (told-same n (travels start events) w rest is.flow reached.told);
        more = subst (λ es. PutMore n (travels start events) (travels start es) (λ u v. [])) same (none-more n (travels start events) (λ u v. []) (λ u v. refl));
        kinds = tt;
      }
  all-done (d ∷ ds) held end g w rest c events is reached right =
      let t = turn d ds held end g w rest c events is reached right in
      let done = all-done ds (with_holding held d.event.event.site t.then) end t.on.next (moved w d) rest t.on.after (events ++ d.event.event ∷ []) t.more
      (next-reached d ds held end g w rest c events is reached right)
      (λ u v from to. all_second (λ x. LeadsTo v x × IsLoad x.item.load) (puts u v d) (put_for v (own u ds))
      (subst (AllByRecursion (λ x. LeadsTo v x × IsLoad x.item.load)) (put-first u v d ds) (right u v from to))) in
      let same : (events ++ d.event.event ∷ []) ++ map (λ d. d.event.event) ds ≡ events ++ d.event.event ∷ map (λ d. d.event.event) ds =
      append_assoc events (d.event.event ∷ []) (map (λ d. d.event.event) ds) in
      record {
        ours = subst (IsOursFrom start) same done.ours;
        told = subst (λ es. Told n (travels start es) rest) same done.told;
        more = subst (λ es. PutMore n (travels start events) (travels start es) (λ u v. put_for v (own u (d ∷ ds)))) same
            (more-on (travels start events) (travels start (events ++ d.event.event ∷ [])) (travels start ((events ++ d.event.event ∷ []) ++ map (λ d. d.event.event) ds))
            (λ u v. puts u v d) (λ u v. put_for v (own u ds)) (λ u v. put_for v (own u (d ∷ ds))) (λ u v. put-first u v d ds)
            (next-more d ds held end g w rest c events is reached right) done.more);
        kinds = (next-kind d ds held end g w rest c events is reached right, done.kinds);
      }
