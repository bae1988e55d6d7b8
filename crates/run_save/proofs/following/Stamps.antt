-- In the merged history an arrival is stamped above each departure of its agent before it, and a landing above each sending of its mark.
use Rattle.std.proofs.Common.{◌≡◌, ◌<◌, inl, inr, ⊎_elim, ℕ, cond, Option, None, Some, IfSome, IsSome, List, [], ◌∷◌, ◌++◌, length, map, refl, sym, ap, subst, ◌∙◌, arith}
use Rattle.std.specs.FinMap as table
use Rattle.std.specs.List.{AllByRecursion}
use Rattle.np_syntax.specs.declared.event.Kind.TheVariants as kind
use Rattle.np_syntax.specs.declared.program.LowProgram.{LowProgram}
use Rattle.np_calculus.proofs.Common.{Change, Config, Contents, Event, Kind, Name, act, acting_in, apply, change, inside, sight, then}
use Rattle.np_calculus.specs.declared.config.Atom.{Atom}
use Rattle.np_calculus.specs.declared.config.Packet.{Packet}
use Rattle.np_calculus.specs.declared.config.Place.{Place}
use Rattle.np_calculus.specs.declared.config.Place.TheVariants as place
use Rattle.np_calculus.specs.Changes.{put}
use Rattle.np_calculus.specs.FrameRule.{left_by}
use Rattle.np_calculus.specs.Reductions.{site_in}
use Rattle.np_calculus.specs.Starts.{start_low}
use Rattle.np_calculus.proofs.Fits.{actor-seen, some}
use Rattle.np_calculus.proofs.Rows.{lone, parts}
use Rattle.np_calculus.proofs.Steps.{RowStep, row-step}
use Rattle.np_calculus.proofs.Writes.{either-none, inside-effect}
use Rattle.np_tables.proofs.Tables.{same_name-itself}
use Rattle.np_syntax.proofs.Options.{some_is}
use Rattle.stamp_history.specs.Histories.{Recorded}
use Rattle.run_merge.specs.declared.rank.Ranked.{Ranked}
use Rattle.run_merge.specs.Merged.{items, merged}
use Rattle.run_merge.specs.Stamps as stamps
use Rattle.run_merge.specs.Stamps.{Passes, TakesLater}
use Rattle.run_merge.proofs.InOrder.{all_map, all_weaker}
use Rattle.np_site_runs.specs.merged.Joined.{together}
use Rattle.np_site_runs.specs.merged.Links.{Linked, loads}
use Rattle.np_site_runs.specs.merged.Steps.{IsStep}
use Rattle.np_site_runs.specs.merged.Deeds.{Deed, StampedItem, plain}
use Rattle.np_site_runs.specs.merged.StampedLaws.{AreRecorded}
use Rattle.np_site_runs.specs.merged.Passing.{PassesOn}
use Rattle.np_site_runs.specs.merged.Turns.{Waiting, moved, none_waits}
use Rattle.np_site_runs.proofs.merged.Flowing.{all_both}
use Rattle.np_site_runs.proofs.merged.Merging.{HasItsRank, all-ranks, all_deeds, all_unmap, event_of, in_turn, turns-merged}
use Rattle.np_site_runs.proofs.merged.Passing.{AllPassLate, PassLate, all_pass_late}
use Rattle.np_site_runs.proofs.merged.Resting.{either-is}
use Rattle.np_site_runs.proofs.merged.Running.{are_in_turn}
use Rattle.np_site_runs.specs.Holdings.{Holding, IsPart}
use Rattle.np_site_runs.specs.Accounts.{Accounts, AreSettled, AreTheirs, held_runs}
use Rattle.np_site_runs.specs.SiteRuns.{HeldRuns, by_configs}
use Rattle.np_site_runs.specs.Starting.{start_holding}
use Rattle.np_site_runs.proofs.Accounts.{kept, settled_are_runs}
use Rattle.np_site_runs.proofs.HoldingActs.{not-way}
use Rattle.np_site_runs.proofs.Running.{IsHeld, IsTaken, clocked, held_runs_are_runs, is_held, take_turn, with_holding}
use Rattle.np_site_runs.proofs.Starting.{low_start_is_held}
use Rattle.run_save.proofs.following.Moving.{moves}
use Rattle.run_save.proofs.following.Trips.{Within}
use Rattle.run_save.proofs.following.Turns.{site-within}
use Rattle.run_save.proofs.following.Ways.{some-none}
use Rattle.run_save.specs.following.Stamps.{SettledTakeLater}

-- ---- one event

-- a migration: the acting atom's agent is under way then
record SetsOut (x : Contents) (e : Event) (d : Change) : Type 0 where
  atom : Atom
  there : x.atom e.actor ≡ Some atom
  to : ℕ
  places : d.places ≡ put atom.agent (place.Way to) ∷ []

sets_out : (x : Contents) (e : Event) (sites : ℕ) (d : Change) → change kind.Depart sites x e ≡ Some d → SetsOut x e d
unfolding act
sets_out x e sites d h = then (acting_in (sight sites x e.site) e) _ h λ a acts h. parts kind.Depart (sight sites x e.site) e a h λ p form h. then (site_in sites p.0 a.env) _ h λ t names h.
    lone (SetsOut x e) e h (record { atom = a; there = (actor-seen sites x e a acts).there; to = t; places = refl })

-- it has this item, which has an agent or a packet under the name
abbrev HasAgent : Name → Option StampedItem → Type 0
HasAgent q o = (x : StampedItem) × (o ≡ Some x) × IsSome (x.item.load.place q)

abbrev HasPacket : Name → Option StampedItem → Type 0
HasPacket m o = (x : StampedItem) × (o ≡ Some x) × IsSome (x.item.load.packet m)

agent-of : (q : Name) (o : Option StampedItem) (p : Place) → (together (loads (plain o))).place q ≡ Some p → HasAgent q o
agent-of q None p h = absurd cc
agent-of q (Some x) p h = (x, refl, ⊎_elim (λ is. some (x.item.load.place q) p is) (λ is. absurd cc) (either-is (x.item.load.place q) None p h))

packet-of : (m : Name) (o : Option StampedItem) (p : Packet) → (together (loads (plain o))).packet m ≡ Some p → HasPacket m o
packet-of m None p h = absurd cc
packet-of m (Some x) p h = (x, refl, ⊎_elim (λ is. some (x.item.load.packet m) p is) (λ is. absurd cc) (either-is (x.item.load.packet m) None p h))

-- an arrival takes its agent, and a landing its packet
record Comes (d : Deed) : Type 0 where
  agent : d.event.event.kind ≡ kind.Arrive → HasAgent d.event.event.actor d.taken
  packet : d.event.event.kind ≡ kind.Land → HasPacket d.event.event.actor d.taken

module _ (h then_h : Holding) (old now : Config) (was : IsPart h old) (part : IsPart then_h now) (d : Deed) (s : IsStep d.event.event old (loads (plain d.taken)) now (loads (plain d.put))) where
  abbrev e : Event
  e = d.event.event

  abbrev row : RowStep s.full e s.next e.kind
  row = row-step s.full e s.next e.kind s.applies

  -- what is under way in the whole of the step is taken
  taken-agent : (q : Name) (u : ℕ) → (inside s.full).place q ≡ Some (place.Way u) → HasAgent q d.taken
  taken-agent q u is = ⊎_elim
      (λ here. absurd (not-way h old was q u here))
      (λ there. agent-of q d.taken (place.Way u) there)
      (either-is ((inside old).place q) ((together (loads (plain d.taken))).place q) (place.Way u) (sym (ap (λ (x : Contents). x.place q) s.joins.is) ∙ is))

  taken-packet : (m : Name) (p : Packet) → (inside s.full).packet m ≡ Some p → HasPacket m d.taken
  taken-packet m p is = ⊎_elim
      (λ here. absurd (some-none ((inside old).packet m) p here (was.packets m)))
      (λ there. packet-of m d.taken p there)
      (either-is ((inside old).packet m) ((together (loads (plain d.taken))).packet m) p (sym (ap (λ (x : Contents). x.packet m) s.joins.is) ∙ is))

  -- and what is after it is put
  put-agent : (q : Name) (u : ℕ) → (inside s.next).place q ≡ Some (place.Way u) → HasAgent q d.put
  put-agent q u is = ⊎_elim
      (λ here. absurd (not-way then_h now part q u here))
      (λ there. agent-of q d.put (place.Way u) there)
      (either-is ((inside now).place q) ((together (loads (plain d.put))).place q) (place.Way u) (sym (ap (λ (x : Contents). x.place q) s.parts.is) ∙ is))

  put-packet : (m : Name) (p : Packet) → (inside s.next).packet m ≡ Some p → HasPacket m d.put
  put-packet m p is = ⊎_elim
      (λ here. absurd (some-none ((inside now).packet m) p here (part.packets m)))
      (λ there. packet-of m d.put p there)
      (either-is ((inside now).packet m) ((together (loads (plain d.put))).packet m) p (sym (ap (λ (x : Contents). x.packet m) s.parts.is) ∙ is))

  gives-as : (k : Kind) → e.kind ≡ k → change k s.full.sites (inside s.full) e ≡ Some row.made
  gives-as k is = ap (λ k. change k s.full.sites (inside s.full) e) (sym is) ∙ row.gives

  comes : Comes d
  comes = record {
    agent = λ is. taken-agent e.actor e.site (moves (inside s.full) e s.full.sites row.made kind.Arrive (gives-as kind.Arrive is)).comes;
    packet = λ is. let m = moves (inside s.full) e s.full.sites row.made kind.Land (gives-as kind.Land is) in taken-packet e.actor m.packet m.flies;
  }

  place-after : (q : Name) (p : Place) → row.made.places ≡ put q p ∷ [] → (inside s.next).place q ≡ Some p
  place-after q p is =
      ap (λ (c : Config). (inside c).place q) row.is ∙ ap (λ (x : Contents). x.place q) (inside-effect s.full e row.made)
      ∙ ap (λ ws. left_by ws q ((inside s.full).place q)) is ∙ ap (λ t. cond t (Some p) ((inside s.full).place q)) (same_name-itself q)

  packet-after : (m : Name) (p : Packet) → row.made.packets ≡ put m p ∷ [] → (inside s.next).packet m ≡ Some p
  packet-after m p is =
      ap (λ (c : Config). (inside c).packet m) row.is ∙ ap (λ (x : Contents). x.packet m) (inside-effect s.full e row.made)
      ∙ ap (λ ws. left_by ws m ((inside s.full).packet m)) is ∙ ap (λ t. cond t (Some p) ((inside s.full).packet m)) (same_name-itself m)

  -- a message puts out its packet
  sends : e.kind ≡ kind.Send → HasPacket e.actor d.put
  sends is = let m = moves (inside s.full) e s.full.sites row.made kind.Send (gives-as kind.Send is) in put-packet e.actor m.packet (packet-after e.actor m.packet m.packets)

  -- and a migration the agent of the acting atom
  leaves : IfSome d.taken (λ x. d.put ≡ None) → (c : Config) → Within (inside old) (inside c) → (agent : Name) → stamps.Departs c e agent → HasAgent agent d.put
  leaves one_way c within agent departs =
      let m = sets_out (inside s.full) e s.full.sites row.made (gives-as kind.Depart departs.leaves) in
      let out : HasAgent m.atom.agent d.put = put-agent m.atom.agent m.to (place-after m.atom.agent (place.Way m.to) m.places) in
      let same : (inside s.full).atom e.actor ≡ (inside old).atom e.actor = alone m.atom.agent d.taken refl one_way out in
      let in_whole : table.get c.atoms e.actor ≡ Some m.atom = within.atom e.actor m.atom (sym same ∙ m.there) in
      let atoms : m.atom ≡ departs.atom = some_is (table.get c.atoms e.actor) m.atom departs.atom in_whole departs.acts in
      subst (λ q. HasAgent q d.put) (ap (λ (a : Atom). a.agent) atoms ∙ departs.of) out
    where
      -- an event that puts something out takes nothing
      alone : (q : Name) (o : Option StampedItem) → d.taken ≡ o → IfSome o (λ x. d.put ≡ None) → HasAgent q d.put → (inside s.full).atom e.actor ≡ (inside old).atom e.actor
      alone q None is none out =
          ap (λ (x : Contents). x.atom e.actor) s.joins.is ∙ ap (λ o. (together (inside old ∷ loads (plain o))).atom e.actor) is ∙ either-none ((inside old).atom e.actor)
      alone q (Some x) is none out = absurd (let f : None ≡ Some out.0 = sym none ∙ out.1 in cc)

-- ---- all events

comes-all : (n : ℕ) (ds : List Deed) (held end : ℕ → Holding) (g : Linked) (w rest : Waiting) (c : Config) → IsHeld n ds held end g w rest c → AllByRecursion Comes ds
comes-all n [] held end g w rest c is = tt
comes-all n (d ∷ ds) held end g w rest c is =
    let t = take_turn n d ds held end g w rest c is in (
      comes (held d.event.event.site) t.then (g.here d.event.event.site) t.now (is.parts d.event.event.site) t.part d t.step,
      comes-all n ds (with_holding held d.event.event.site t.then) end t.on.next (moved w d) rest t.on.after t.more,
    )

-- what the one puts on its way, if it does, the other takes
module _ (n : ℕ) (d : Deed) (ds : List Deed) (held end : ℕ → Holding) (g : Linked) (w rest : Waiting) (c : Config) (is : IsHeld n (d ∷ ds) held end g w rest c)
    (t : IsTaken n d ds held end g w rest c) (x : Deed) (come : Comes x) where
  passes_on : Passes c d.event.event x.event.event → PassesOn d x
  passes_on (inl p) =
      let out = leaves (held d.event.event.site) t.then (g.here d.event.event.site) t.now (is.parts d.event.event.site) t.part d t.step t.does.3 c
      (site-within n g c w is.spread is.waits d.event.event.site is.among.0.at) x.event.event.actor p.departs in
      let into = come.agent p.comes in
      record { put = out.0; puts = out.1; taken = into.0; takes = into.1; meets = inl (x.event.event.actor, out.2, into.2) }
  passes_on (inr p) =
      let out : HasPacket x.event.event.actor d.put = subst (λ q. HasPacket q d.put) p.mark
      (sends (held d.event.event.site) t.then (g.here d.event.event.site) t.now (is.parts d.event.event.site) t.part d t.step p.sends) in
      let into = come.packet p.comes in
      record { put = out.0; puts = out.1; taken = into.0; takes = into.1; meets = inr (x.event.event.actor, inr out.2, inr into.2) }

later-all : (n : ℕ) (rs : List (Ranked Deed)) (held end : ℕ → Holding) (g : Linked) (w rest : Waiting) (c : Config) → IsHeld n (items rs) held end g w rest c
    → AllByRecursion HasItsRank rs → AllByRecursion (λ r. Comes r.item) rs → AllPassLate (items rs) → TakesLater c (map event_of rs)
later-all n [] held end g w rest c is ranks come late = tt
later-all n (r ∷ rs) held end g w rest c is ranks come late =
    let t = take_turn n r.item (items rs) held end g w rest c is in (
      all_map (λ later. Passes c r.item.event.event later.item → r.rank.stamp < later.rank.stamp) event_of rs
          (all_weaker (λ (x : Ranked Deed). HasItsRank x × (Comes x.item × PassLate r.item x.item)) (λ x. Passes c r.item.event.event x.item.event.event → r.rank.stamp < x.rank.stamp)
          (λ x h passes.
          let less : r.item.event.stamp < x.item.event.stamp = h.1.1 (passes_on n r.item (items rs) held end g w rest c is t x.item h.1.0 passes) in
          let one : r.item.event.stamp ≡ r.rank.stamp = ranks.0.stamp in
          let other : x.item.event.stamp ≡ x.rank.stamp = h.0.stamp in
          omega arith) rs
          (all_both HasItsRank (λ x. Comes x.item × PassLate r.item x.item) rs ranks.1
          (all_both (λ x. Comes x.item) (λ x. PassLate r.item x.item) rs come.1 (all_unmap (PassLate r.item) (λ r. r.item) rs late.0)))),
      λ next applies.
          subst (λ z. TakesLater z (map event_of rs)) (some_is (apply c r.item.event.event) t.on.after next t.on.applies applies)
          (later-all n rs (with_holding held r.item.event.event.site t.then) end t.on.next (moved w r.item) rest t.on.after t.more ranks.1 come.1 late.1),
    )

pub settled_take_later : SettledTakeLater
settled_take_later q r hs less settled theirs =
    let runs = settled_are_runs (length q.sites) (start_holding q) r settled in
    let all = kept (length q.sites) (start_holding q) r hs theirs in
    let t = low_start_is_held q less in
    let each = held_runs_are_runs (length q.sites) (held_runs (length q.sites) (start_holding q) r) t.0 (start_low q) runs.0 t.1 t.2 in
    let are : AreRecorded hs (by_configs (held_runs (length q.sites) (start_holding q) r) t.0 each.0) = record { histories = all.histories; events = all.events; others = all.others } in
    let clock = clocked (length q.sites) (held_runs (length q.sites) (start_holding q) r) runs.0 in
    let first = is_held (length q.sites) (held_runs (length q.sites) (start_holding q) r) (in_turn (held_runs (length q.sites) (start_holding q) r).deeds hs) t.0 (start_low q) runs.0
    (are_in_turn (length q.sites) (by_configs (held_runs (length q.sites) (start_holding q) r) t.0 each.0) hs clock are) t.1 t.2 in
    subst (TakesLater (start_low q)) (turns-merged (length q.sites) (by_configs (held_runs (length q.sites) (start_holding q) r) t.0 each.0) hs clock are)
    (later-all (length q.sites) (all_deeds (held_runs (length q.sites) (start_holding q) r).deeds hs) _ _ _ _ _ (start_low q) first
    (all-ranks (length q.sites) (by_configs (held_runs (length q.sites) (start_holding q) r) t.0 each.0) hs clock are)
    (all_unmap Comes (λ r. r.item) (all_deeds (held_runs (length q.sites) (start_holding q) r).deeds hs) (comes-all (length q.sites) _ _ _ _ _ _ (start_low q) first))
    (all_pass_late (length q.sites) (by_configs (held_runs (length q.sites) (start_holding q) r) t.0 each.0) hs (start_low q) each.2 are t.2))
