-- What comes by an event that goes on with what sites made is the first that is left on its link.
use Rattle.std.proofs.Common.{◌≡◌, ◌<◌, ◌⊎◌, inl, inr, ⊎_elim, ℕ, Bool, true, false, cond, ◌&&◌, nat_eq, List, [], ◌∷◌, ◌++◌, length, map, Option, None, Some, IsSome, option_map, refl, sym, ap, subst, ◌∙◌, arith}
use Rattle.std.specs.List.{AllByRecursion}
use Rattle.std.proofs.lemmas.Bool.{eqb-true}
use Rattle.std.proofs.lemmas.List.{append_cancel_left}
use Rattle.np_syntax.proofs.Bools.{and-out}
use Rattle.np_syntax.specs.declared.event.Event.{Event}
use Rattle.np_syntax.specs.declared.event.Kind.{Kind}
use Rattle.np_syntax.specs.declared.event.Kind.TheVariants as kind
use Rattle.np_syntax.specs.declared.event.Made.TheVariants as made
use Rattle.np_syntax.specs.declared.process.Role.{Role}
use Rattle.np_syntax.specs.declared.process.Role.TheVariants as role
use Rattle.np_syntax.specs.declared.process.Tag.{Tag}
use Rattle.np_syntax.specs.declared.program.LowProgram.{LowProgram}
use Rattle.np_syntax.specs.declared.value.Name.{Name}
use Rattle.np_tables.specs.Names.{NameMap}
use Rattle.np_calculus.proofs.Common.{Change, Contents, change, inside, none_made, no_other, same_tag, sight, then, when, way}
use Rattle.np_calculus.proofs.Common.{arrive_row, land_row}
use Rattle.np_calculus.proofs.Fits.{some}
use Rattle.np_calculus.proofs.Steps.{is-none, row-step}
use Rattle.np_calculus.specs.declared.config.Atom.{Atom}
use Rattle.np_calculus.specs.declared.config.Packet.{Packet}
use Rattle.np_calculus.specs.declared.config.Place.{Place}
use Rattle.np_calculus.specs.declared.config.Place.TheVariants as place
use Rattle.np_calculus.specs.Begins.{arrival, landing}
use Rattle.np_calculus.specs.Config.{Config}
use Rattle.np_calculus.specs.NotEnabled.{by_atom}
use Rattle.np_calculus.specs.Reductions.{apply, role_index}
use Rattle.np_calculus.specs.Starts.{start_low}
use Rattle.stamp_history.specs.Histories.{Recorded}
use Rattle.run_merge.specs.Merged.{items, merged}
use Rattle.np_site_runs.specs.merged.Deeds.{StampedItem}
use Rattle.np_site_runs.specs.merged.Elements.{Occurs}
use Rattle.np_site_runs.specs.merged.Joined.{together}
use Rattle.np_site_runs.specs.merged.Links.{Linked, air, over, spread}
use Rattle.np_site_runs.specs.merged.Steps.{sites}
use Rattle.np_site_runs.proofs.merged.Elements.{occurs-either, occurs-mapped, occurs-over, occurs-second, mapped-occurs, over-occurs}
use Rattle.np_site_runs.proofs.merged.Resting.{either-is, packet-out, place-in}
use Rattle.np_site_runs.specs.Holdings.{IsPart}
use Rattle.np_site_runs.specs.Accounts.{Accounts, AreSettled, AreTheirs, SitesEnd}
use Rattle.np_site_runs.specs.Starting.{start_holding}
use Rattle.run_save.specs.declared.trips.Item.{Item}
use Rattle.run_save.specs.declared.trips.Item.TheVariants as item
use Rattle.run_save.specs.Ours.{GoesOn, IsOurs, IsPutFirst, TakesPutFirst}
use Rattle.run_save.specs.Travels.{Travels, on_link, sender, travels}
use Rattle.run_save.specs.following.Coming.{ComingIsFirst, IsComing, IsFirstLeft}
use Rattle.run_save.specs.following.Shown.{ShowEach, Shows}
use Rattle.run_save.specs.following.TravelLaws.{IsLinkTold, PutsLead, link}
use Rattle.run_save.proofs.GoingOn.{ours-goes-on}
use Rattle.run_save.proofs.following.Ending.{links_are_told, settled_are_ours}
use Rattle.run_save.proofs.following.Parts.{of-sites}

-- ---- tags

role-is : (a b : Role) → role_index a ≡ role_index b → a ≡ b
role-is role.Plain role.Plain h = refl
role-is role.Post role.Post h = refl
role-is role.Infra role.Infra h = refl
role-is role.Plain role.Post h = absurd (omega arith)
role-is role.Plain role.Infra h = absurd (omega arith)
role-is role.Post role.Plain h = absurd (omega arith)
role-is role.Post role.Infra h = absurd (omega arith)
role-is role.Infra role.Plain h = absurd (omega arith)
role-is role.Infra role.Post h = absurd (omega arith)

tag-is : (a b : Tag) → same_tag a b ≡ true → a ≡ b
tag-is a b h =
    let both = and-out (nat_eq a.node b.node) (nat_eq (role_index a.role) (role_index b.role)) h in
    let node : a.node ≡ b.node = eqb-true a.node b.node both.0 in
    let role : a.role ≡ b.role = role-is a.role b.role (eqb-true (role_index a.role) (role_index b.role) both.1) in
    λ i. record { node = node i; role = role i }

other-none : (o : Option Name) (u : Unit {0}) → no_other o ≡ Some u → o ≡ None
other-none None u h = refl
other-none (Some n) u h = absurd cc

way-is : (p : Place) (s : ℕ) → way p ≡ Some s → p ≡ place.Way s
way-is (place.At t) s h = absurd (let e = h in cc)
way-is (place.Way t) s h = let e : t ≡ s = cc in ap place.Way e

-- ---- what an event that is no atom's is

-- an agent arrives, or a packet lands
data Comes (x : Contents) (e : Event) : Type 0 where
  arrives : e.kind ≡ kind.Arrive → x.place e.actor ≡ Some (place.Way e.site) → e ≡ arrival e.actor e.site → Comes x e
  lands : e.kind ≡ kind.Land → (p : Packet) → x.packet e.actor ≡ Some p → p.to ≡ e.site → e ≡ landing e.actor p → Comes x e

module _ (c : Config) (e : Event) where
  comes-by : (k : Kind) → e.kind ≡ k → by_atom k ≡ false → (m : Change) → change k c.sites (inside c) e ≡ Some m → Comes (inside c) e
  unfolding arrive_row land_row
  comes-by kind.Arrive is own m gives =
      then ((inside c).place e.actor) _ gives λ p there gives. then (way p) _ gives λ s goes gives. when (nat_eq s e.site) _ gives λ here gives.
      when (same_tag e.tag (record { node = 0; role = role.Plain })) _ gives λ tag gives. then (none_made e.made) _ gives λ u none gives. then (no_other e.other) _ gives λ v alone gives.
      let site : s ≡ e.site = eqb-true s e.site here in
      let tags : e.tag ≡ record { node = 0; role = role.Plain } = tag-is e.tag (record { node = 0; role = role.Plain }) tag in
      let makes : e.made ≡ made.Nothing = is-none e.made u none in
      let other : e.other ≡ None = other-none e.other v alone in
      Comes.arrives is (there ∙ ap Some (way-is p s goes ∙ ap place.Way site)) (λ i. record { site = e.site; kind = is i; actor = e.actor; other = other i; tag = tags i; made = makes i })
  comes-by kind.Land is own m gives =
      then ((inside c).packet e.actor) _ gives λ p there gives. when (nat_eq p.to e.site) _ gives λ here gives. when (same_tag p.tag e.tag) _ gives λ tag gives.
      then (none_made e.made) _ gives λ u none gives. then (no_other e.other) _ gives λ v alone gives.
      let site : p.to ≡ e.site = eqb-true p.to e.site here in
      let tags : p.tag ≡ e.tag = tag-is p.tag e.tag tag in
      let makes : e.made ≡ made.Nothing = is-none e.made u none in
      let other : e.other ≡ None = other-none e.other v alone in
      Comes.lands is p there site (λ i. record { site = (sym site) i; kind = is i; actor = e.actor; other = other i; tag = (sym tags) i; made = makes i })
  comes-by _ is own m gives = absurd (let h = own in cc)

  comes : (d : Config) → by_atom e.kind ≡ false → apply c e ≡ Some d → Comes (inside c) e
  comes d own applies = let s = row-step c e d e.kind applies in comes-by e.kind refl own s.made s.gives

packet-in : (ps : List Contents) (m : Name) (p : Packet) → (together ps).packet m ≡ Some p → Occurs (λ x. x.packet m ≡ Some p) ps
packet-in [] m p h = absurd cc
packet-in (x ∷ ps) m p h = ⊎_elim (λ i. inl i) (λ i. inr (packet-in ps m p i)) (either-is (x.packet m) ((together ps).packet m) p h)

-- ---- what is shown on a link

-- one of the items, with what it shows
record Shown (v : ℕ) (P : StampedItem → Type 0) (Q : Item → Type 0) : Type 0 where
  item : Item
  what : StampedItem
  shows : Shows v item what
  is : P what
  known : Q item

shown : (v : ℕ) (P : StampedItem → Type 0) (Q : Item → Type 0) (is : List Item) (xs : List StampedItem) → ShowEach v is xs → AllByRecursion Q is → Occurs P xs → Shown v P Q
shown v P Q [] [] h all o = absurd o
shown v P Q (i ∷ is) (x ∷ xs) h all (inl o) = record { item = i; what = x; shows = h.0; is = o; known = all.0 }
shown v P Q (i ∷ is) (x ∷ xs) h all (inr o) = shown v P Q is xs h.1 all.1 o
shown v P Q [] (x ∷ xs) h all o = absurd h
shown v P Q (i ∷ is) [] h all o = absurd h

shows-agent : (v s : ℕ) (i : Item) (a : Name) (x : StampedItem) → Shows v i x → x.item.load.place a ≡ Some (place.Way s) → (i ≡ item.Agent a) × (v ≡ s)
shows-agent v s (item.Agent b) a x h is =
    let same : a ≡ b = h.alone a (some (x.item.load.place a) (place.Way s) is) in
    let there : x.item.load.place a ≡ Some (place.Way v) = subst (λ (n : Name). x.item.load.place n ≡ Some (place.Way v)) (sym same) h.comes in
    (ap item.Agent (sym same), (let e : Some (place.Way v) ≡ Some (place.Way s) = sym there ∙ is in cc))
shows-agent v s (item.Packet m) a x h is = absurd (let e = sym (h.agents a) ∙ is in cc)

shows-packet : (v : ℕ) (i : Item) (m : Name) (p : Packet) (x : StampedItem) → Shows v i x → x.item.load.packet m ≡ Some p → (i ≡ item.Packet m) × (v ≡ p.to)
shows-packet v (item.Agent b) m p x h is = absurd (let e = sym (h.packets m) ∙ is in cc)
shows-packet v (item.Packet n) m p x h is =
    let same : m ≡ n = h.alone m (some (x.item.load.packet m) p is) in
    let there : x.item.load.packet m ≡ Some h.packet = subst (λ (n : Name). x.item.load.packet n ≡ Some h.packet) (sym same) h.flies in
    let one : h.packet ≡ p = (let e : Some h.packet ≡ Some p = sym there ∙ is in cc) in
    (ap item.Packet (sym same), sym h.to ∙ ap (λ (p : Packet). p.to) one)

stands-at : (o : Option (NameMap Atom)) (k s : ℕ) → option_map (λ atoms. place.At k) o ≡ Some (place.Way s) → ⊥
stands-at None k s e = cc
stands-at (Some atoms) k s e = cc

same-some : {A : Type 0} (o : Option A) (a b : A) → o ≡ Some a → o ≡ Some b → a ≡ b
same-some o a b h k = let e : Some a ≡ Some b = sym h ∙ k in cc

module _ (q : LowProgram) (r : Accounts) (hs : List Recorded) (less : q.at < length q.sites) (settled : AreSettled (length q.sites) (start_holding q) r)
    (theirs : AreTheirs (length q.sites) r hs) (right : PutsLead (length q.sites) r) (end : SitesEnd (length q.sites) r hs (start_low q)) (e : Event) (after : Config)
    (applies : apply end.whole e ≡ Some after) (ours : IsOurs q (items (merged hs) ++ e ∷ [])) where
  abbrev n : ℕ
  n = length q.sites

  abbrev linked : Linked
  linked = record { here = end.here; link = λ s t. map (λ x. x.item) (r.rest s t) }

  abbrev parts : List Contents
  parts = sites (length q.sites) end.here ++ air (length q.sites) (λ s t. map (λ x. x.item) (r.rest s t))

  abbrev trips : Travels
  trips = travels (start_low q) (items (merged hs))

  told : (s t : ℕ) → s < length q.sites → t < length q.sites → IsLinkTold (travels (start_low q) (items (merged hs))) r s t
  told = links_are_told q r hs less settled theirs right

  goes : GoesOn (start_low q) (items (merged hs)) e
  goes = (ours-goes-on (start_low q) end.whole after (items (merged hs)) e end.runs applies (settled_are_ours q r hs less settled theirs right)).0 ours

  -- what is under way is on a link
  on-link : (P : Contents → Type 0) → Occurs P (air (length q.sites) (λ s t. map (λ x. x.item) (r.rest s t)))
      → (u t : ℕ) × (u < length q.sites) × (t < length q.sites) × Occurs (λ x. P x.item.load) (r.rest u t)
  on-link P h =
      let u = occurs-over P (length q.sites) (λ u. over (length q.sites) (λ t. map (λ x. x.load) (map (λ (x : StampedItem). x.item) (r.rest u t)))) h in
      let t = occurs-over P (length q.sites) (λ t. map (λ x. x.load) (map (λ (x : StampedItem). x.item) (r.rest u.0 t))) u.2 in
      let one = occurs-mapped P (λ x. x.load) (map (λ (x : StampedItem). x.item) (r.rest u.0 t.0)) t.2 in
      (u.0, t.0, u.1, t.1, occurs-mapped (λ x. P x.load) (λ (x : StampedItem). x.item) (r.rest u.0 t.0) one)

  -- and what is first on a link is under way
  in-air : (P : Contents → Type 0) (u t : ℕ) → u < length q.sites → t < length q.sites → Occurs (λ x. P x.item.load) (r.rest u t)
      → Occurs P (air (length q.sites) (λ s t. map (λ x. x.item) (r.rest s t)))
  in-air P u t from to h =
      over-occurs P (length q.sites) (λ u. over (length q.sites) (λ t. map (λ x. x.load) (map (λ (x : StampedItem). x.item) (r.rest u t)))) u from
      (over-occurs P (length q.sites) (λ t. map (λ x. x.load) (map (λ (x : StampedItem). x.item) (r.rest u t))) t to
      (mapped-occurs P (λ x. x.load) (map (λ (x : StampedItem). x.item) (r.rest u t)) (mapped-occurs (λ x. P x.load) (λ (x : StampedItem). x.item) (r.rest u t) h)))

  -- the item of the event waits on a link to its site, which its sender put there
  record Waits (i : Item) : Type 0 where
    from : ℕ
    within : from < length q.sites
    to : e.site < length q.sites
    sent : sender (travels (start_low q) (items (merged hs))).put i ≡ Some from

  waits-agent : (inside end.whole).place e.actor ≡ Some (place.Way e.site) → Waits (item.Agent e.actor)
  waits-agent there =
      let P : Contents → Type 0 = λ x. x.place e.actor ≡ Some (place.Way e.site) in
      let some = place-in (sites (length q.sites) end.here ++ air (length q.sites) (λ s t. map (λ x. x.item) (r.rest s t))) e.actor (place.Way e.site)
      (ap (λ (x : Contents). x.place e.actor) (sym end.spread.joined.is) ∙ there) in
      ⊎_elim
      (λ h. let t = of-sites P end.here (length q.sites) h in absurd (stands-at _ (r.end t.0).site e.site (sym ((end.parts t.0 t.1).places e.actor) ∙ t.2)))
      (λ h.
      let l = on-link P h in
      let w = told l.0 l.1 l.2 l.3 in
      let s = shown l.1 (λ x. P x.item.load) (λ i. sender (travels (start_low q) (items (merged hs))).put i ≡ Some l.0) w.left (r.rest l.0 l.1) w.rest w.senders l.4 in
      let is = shows-agent l.1 e.site s.item e.actor s.what s.shows s.is in
      record {
        from = l.0;
        within = l.2;
        to = subst (λ (m : ℕ). m < length q.sites) is.1 l.3;
        sent = subst (λ (i : Item). sender (travels (start_low q) (items (merged hs))).put i ≡ Some l.0) is.0 s.known;
      })
      (occurs-either P (sites (length q.sites) end.here) (air (length q.sites) (λ s t. map (λ x. x.item) (r.rest s t))) some)

  waits-packet : (p : Packet) → (inside end.whole).packet e.actor ≡ Some p → p.to ≡ e.site → Waits (item.Packet e.actor)
  waits-packet p there for =
      let P : Contents → Type 0 = λ x. x.packet e.actor ≡ Some p in
      let some = packet-in (sites (length q.sites) end.here ++ air (length q.sites) (λ s t. map (λ x. x.item) (r.rest s t))) e.actor p
      (ap (λ (x : Contents). x.packet e.actor) (sym end.spread.joined.is) ∙ there) in
      ⊎_elim
      (λ h. let t = of-sites P end.here (length q.sites) h in absurd (let e = sym ((end.parts t.0 t.1).packets e.actor) ∙ t.2 in cc))
      (λ h.
      let l = on-link P h in
      let w = told l.0 l.1 l.2 l.3 in
      let s = shown l.1 (λ x. P x.item.load) (λ i. sender (travels (start_low q) (items (merged hs))).put i ≡ Some l.0) w.left (r.rest l.0 l.1) w.rest w.senders l.4 in
      let is = shows-packet l.1 s.item e.actor p s.what s.shows s.is in
      record {
        from = l.0;
        within = l.2;
        to = subst (λ (m : ℕ). m < length q.sites) (is.1 ∙ for) l.3;
        sent = subst (λ (i : Item). sender (travels (start_low q) (items (merged hs))).put i ≡ Some l.0) is.0 s.known;
      })
      (occurs-either P (sites (length q.sites) end.here) (air (length q.sites) (λ s t. map (λ x. x.item) (r.rest s t))) some)

  -- what was put first is the first that is left there
  record IsFirst (i : Item) : Type 0 where
    from : ℕ
    within : from < length q.sites
    to : e.site < length q.sites
    first : StampedItem
    later : List StampedItem
    left : r.rest from e.site ≡ first ∷ later
    shows : Shows e.site i first

  shown-first : (i : Item) (later : List Item) (xs : List StampedItem) → ShowEach e.site (i ∷ later) xs → (x : StampedItem) × (ys : List StampedItem) × (xs ≡ x ∷ ys) × Shows e.site i x
  shown-first i later [] h = absurd h
  shown-first i later (x ∷ xs) h = (x, xs, refl, h.0)

  is-first : (i : Item) → Waits i → IsPutFirst (travels (start_low q) (items (merged hs))) i e.site → IsFirst i
  is-first i waits put =
      let from : put.from ≡ waits.from = same-some (sender (travels (start_low q) (items (merged hs))).put i) put.from waits.from put.sent waits.sent in
      let low : put.from < length q.sites = subst (λ (m : ℕ). m < length q.sites) (sym from) waits.within in
      let w = told put.from e.site low waits.to in
      let left : w.left ≡ i ∷ put.later =
      append_cancel_left (on_link (link put.from e.site) (travels (start_low q) (items (merged hs))).taken) w.left (i ∷ put.later) (sym w.waits ∙ put.first) in
      let s = shown-first i put.later (r.rest put.from e.site) (subst (λ is. ShowEach e.site is (r.rest put.from e.site)) left w.rest) in
      record { from = put.from; within = low; to = waits.to; first = s.0; later = s.1; left = s.2; shows = s.3 }

  takes-agent : e.kind ≡ kind.Arrive → IsPutFirst (travels (start_low q) (items (merged hs))) (item.Agent e.actor) e.site
  takes-agent is = subst (λ (k : Kind). TakesPutFirst k (travels (start_low q) (items (merged hs))) e) is goes.takes

  takes-packet : e.kind ≡ kind.Land → IsPutFirst (travels (start_low q) (items (merged hs))) (item.Packet e.actor) e.site
  takes-packet is = subst (λ (k : Kind). TakesPutFirst k (travels (start_low q) (items (merged hs))) e) is goes.takes

  by-comes : Comes (inside end.whole) e → IsFirstLeft (length q.sites) r e
  by-comes (Comes.arrives is there event) =
      let f = is-first (item.Agent e.actor) (waits-agent there) (takes-agent is) in
      record { from = f.from; within = f.within; first = f.first; later = f.later; left = f.left; comes = IsComing.agent f.shows.comes event }
  by-comes (Comes.lands is p there for event) =
      let f = is-first (item.Packet e.actor) (waits-packet p there for) (takes-packet is) in
      let P : Contents → Type 0 = λ x. x.packet e.actor ≡ Some f.shows.packet in
      let here : Occurs (λ x. P x.item.load) (r.rest f.from e.site) = subst (Occurs (λ x. P x.item.load)) (sym f.left) (inl f.shows.flies) in
      let whole : (inside end.whole).packet e.actor ≡ Some f.shows.packet =
      ap (λ (x : Contents). x.packet e.actor) end.spread.joined.is
      ∙ packet-out (sites (length q.sites) end.here ++ air (length q.sites) (λ s t. map (λ x. x.item) (r.rest s t))) e.actor f.shows.packet end.spread.joined.apart
      (occurs-second P (sites (length q.sites) end.here) (air (length q.sites) (λ s t. map (λ x. x.item) (r.rest s t))) (in-air P f.from e.site f.within f.to here)) in
      let same : p ≡ f.shows.packet = same-some ((inside end.whole).packet e.actor) p f.shows.packet there whole in
      record {
        from = f.from;
        within = f.within;
        first = f.first;
        later = f.later;
        left = f.left;
        comes = IsComing.packet f.shows.packet f.shows.flies (event ∙ ap (landing e.actor) same);
      }

pub coming_is_first : ComingIsFirst
coming_is_first q r hs less settled theirs right end e after own applies ours =
    by-comes q r hs less settled theirs right end e after applies ours (comes end.whole e after own applies)
