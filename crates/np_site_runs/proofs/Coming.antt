-- What an agent that arrives and a packet that lands do.
use Rattle.std.proofs.Common.{◌≡◌, Bool, true, false, cond, nat_eq, inl, inr, List, [], ◌∷◌, ◌++◌, Option, None, Some, IsSome, option_map, refl, sym, ap, subst, ◌∙◌}
use mathlib.Core.Path.{fun_ext}
use Rattle.std.specs.FinMap as table
use Rattle.std.specs.FinMap.{find, get-entries, get-from_entries}
use Rattle.np_tables.specs.Names.{name_cmp}
use Rattle.np_tables.proofs.Tables.{get-cut, get-put, put_here, total}
use Rattle.np_calculus.proofs.Common.{Config, Contents, Event, Name, NameMap, apply, arrive_row, at_site, effect, inside, land_row, same_name, same_name-is, same_name-itself}
use Rattle.np_calculus.specs.declared.config.Atom.{Atom}
use Rattle.np_calculus.specs.declared.config.Packet.{Packet}
use Rattle.np_calculus.specs.declared.config.Place.TheVariants as place
use Rattle.np_calculus.specs.Begins.{arrival, landing}
use Rattle.np_calculus.specs.Changes.{cut, put, still}
use Rattle.np_calculus.specs.FrameRule.{Every}
use Rattle.np_calculus.specs.Parts.{IsOfSite, either}
use Rattle.np_calculus.specs.Rows.{output_of}
use Rattle.np_syntax.proofs.Options.{none_of}
use Rattle.np_calculus.proofs.FrameRule.{none-some}
use Rattle.np_calculus.proofs.Steps.{same_site}
use Rattle.np_calculus.proofs.Writes.{either-none}
use Rattle.np_site_runs.specs.merged.Joined.{AreApart, IsJoined}
use Rattle.np_site_runs.specs.merged.Steps.{IsItem, IsStep}
use Rattle.np_site_runs.proofs.merged.Items.{item_comes}
use Rattle.stamp_history.specs.declared.stamped.Stamped.{Stamped}
use Rattle.np_site_runs.specs.merged.Deeds.{StampedItem}
use Rattle.np_calculus.proofs.Enabled.{tag-itself}
use Rattle.np_site_runs.specs.Holdings.{Holding, IsPart}
use Rattle.np_site_runs.specs.Coming.{Arrives, IsLost, Lands}
use Rattle.np_site_runs.specs.Loads.{agent_load, packet_load}
use Rattle.np_site_runs.specs.Within.{given}
use Rattle.np_site_runs.proofs.Holds.{hold-come, hold-write}
use Rattle.np_site_runs.proofs.Parts.{holds, no-agent, no-place, numbers-none, of-site, part-of, place-of, same-places}

-- ---- two tables as one

module _ {X : Type 0} where
  first_found : (t : Bool) (x : X) (o p : Option X) → cond t (Some x) (either o p) ≡ either (cond t (Some x) o) p
  first_found true x o p = refl
  first_found false x o p = refl

  find-append : (xs ys : List (Name × X)) (q : Name) → find name_cmp q (xs ++ ys) ≡ either (find name_cmp q xs) (find name_cmp q ys)
  find-append [] ys q = refl
  find-append (e ∷ es) ys q = ap (cond (same_name q e.0) (Some e.1)) (find-append es ys q) ∙ first_found (same_name q e.0) e.1 (find name_cmp q es) (find name_cmp q ys)

  abbrev both : NameMap X → NameMap X → NameMap X
  both m n = table.from_entries (table.entries m ++ table.entries n)

  get-both : (m n : NameMap X) (q : Name) → table.get (both m n) q ≡ either (table.get m q) (table.get n q)
  get-both m n q =
      get-from_entries total (table.entries m ++ table.entries n) q ∙ find-append (table.entries m) (table.entries n) q
      ∙ ap (λ o. either o (find name_cmp q (table.entries n))) (sym (get-entries m q)) ∙ ap (either (table.get m q)) (sym (get-entries n q))

  -- what one name has, beside what there is
  beside_one : (t : Bool) (x : X) (o : Option X) → (t ≡ true → o ≡ None) → cond t (Some x) o ≡ either o (either (cond t (Some x) None) None)
  beside_one true x o h = sym (ap (λ o. either o (Some x)) (h refl))
  beside_one false x o h = sym (either-none o)

  not-beside : (t : Bool) (x : X) → t ≡ true → either (cond t (Some x) None) None ≡ None → ⊥
  not-beside true x is h = cc
  not-beside false x is h = absurd cc

-- ---- an agent arrives

module _ (h : Holding) (agent : Name) (atoms : NameMap Atom) (c : Config) (part : IsPart h c) where
  abbrev load : Contents
  load = agent_load agent atoms h.site

  module _ (item : IsItem (agent_load agent atoms h.site)) (apart : AreApart (inside c ∷ agent_load agent atoms h.site ∷ [])) where
    unplaced : table.get c.places agent ≡ None
    unplaced = none_of (table.get c.places agent) (λ is. not-beside (same_name agent agent) (place.Way h.site) (same_name-itself agent) (apart.0.agents agent is))

    absent : table.get h.agents agent ≡ None
    absent = no-agent h c part agent unplaced

    unmarked : (m : Name) → IsSome (table.get atoms m) → table.get c.atoms m ≡ None
    unmarked m is = none_of (table.get c.atoms m) (λ there. none-some (table.get atoms m) (sym (either-none (table.get atoms m)) ∙ (apart.0.marks m (inl there)).atom) is)

    lies : (q : Name) (t : Bool) → same_name q agent ≡ t → IsSome (cond t (Some (place.Way h.site)) None) → q ≡ agent
    lies q true is h = same_name-is q agent is
    lies q false is h = absurd cc

    own-atoms : (m : Name) (b : Atom) → table.get atoms m ≡ Some b → b.agent ≡ agent
    own-atoms m b g = lies b.agent (same_name b.agent agent) refl (item.lodged.each m b g)

    abbrev full : Config
    full = record c { places = table.insert c.places agent (place.Way h.site); atoms = both c.atoms atoms }

    joined : IsJoined (inside full) (inside c ∷ agent_load agent atoms h.site ∷ [])
    joined = record {
      is = λ i. record {
        place = fun_ext (λ q. get-put c.places agent (place.Way h.site) q
            ∙ beside_one (same_name q agent) (place.Way h.site) (table.get c.places q) (λ t. ap (table.get c.places) (same_name-is q agent t) ∙ unplaced)) i;
        atom = fun_ext (λ m. get-both c.atoms atoms m ∙ ap (either (table.get c.atoms m)) (sym (either-none (table.get atoms m)))) i;
        packet = fun_ext (λ m. sym (either-none (table.get c.packets m))) i;
      };
      apart = apart;
    }

    abbrev next : Config
    next = effect full (arrival agent h.site) (record still { places = put agent (place.At h.site) ∷ [] })

    arrived : apply full (arrival agent h.site) ≡ Some next
    unfolding arrive_row
    arrived = rw (put_here c.places agent (place.Way h.site), same_site h.site) refl

    now-place : (t : Bool) (q : Name) → same_name q agent ≡ t
        → cond t (Some (place.At h.site)) (table.get (table.insert c.places agent (place.Way h.site)) q) ≡ option_map (λ (t : NameMap Atom). place.At h.site) (cond t (Some atoms) (table.get h.agents q))
    now-place true q e = refl
    now-place false q e = get-put c.places agent (place.Way h.site) q ∙ ap (λ t. cond t (Some (place.Way h.site)) (table.get c.places q)) e ∙ part.places q

    next-part : IsPart (record h { agents = table.insert h.agents agent atoms }) next
    next-part = part-of (record h { agents = table.insert h.agents agent atoms }) next part.sites
        (λ q. get-put (table.insert c.places agent (place.Way h.site)) agent (place.At h.site) q ∙ now-place (same_name q agent) q refl
        ∙ ap (option_map (λ (t : NameMap Atom). place.At h.site)) (sym (get-put h.agents agent atoms q)))
        (hold-come h.agents c.atoms (holds h c part) agent absent atoms (both c.atoms atoms) own-atoms unmarked (get-both c.atoms atoms))
        part.packets part.born part.said

    next-step : IsStep (arrival agent h.site) c (agent_load agent atoms h.site ∷ []) next []
    next-step = item_comes c full next (arrival agent h.site) (agent_load agent atoms h.site) (of-site h c part) item joined
        (record { sites = refl; born = refl; said = refl }) (λ p. cc) (λ q made. absurd made) arrived

pub arrives : Arrives
arrives h x item agent atoms is load = (
  refl,
  λ made c part items apart.
      let items : Every IsItem (agent_load agent atoms h.site ∷ []) = subst (λ l. Every IsItem (l ∷ [])) load items in
      let apart : AreApart (inside c ∷ agent_load agent atoms h.site ∷ []) = subst (λ l. AreApart (inside c ∷ l ∷ [])) load apart in (
        next h agent atoms c part items.0 apart,
        next-part h agent atoms c part items.0 apart,
        subst (λ l. IsStep x.event c (l ∷ []) (next h agent atoms c part items.0 apart) []) (sym load)
            (subst (λ e. IsStep e c (agent_load agent atoms h.site ∷ []) (next h agent atoms c part items.0 apart) []) (sym is) (next-step h agent atoms c part items.0 apart)),
      ),
  numbers-none h (record h { agents = table.insert h.agents agent atoms }) x.event.made (ap (λ (e : Event). e.made) is) refl,
  refl,
)

-- ---- a packet lands

module _ (h : Holding) (mark : Name) (packet : Packet) (to : packet.to ≡ h.site) (c : Config) (part : IsPart h c) where
  module _ (item : IsItem (packet_load mark packet)) (apart : AreApart (inside c ∷ packet_load mark packet ∷ [])) where
    no-mark : table.get c.atoms mark ≡ None
    no-mark = none_of (table.get c.atoms mark) (λ is. not-beside (same_name mark mark) packet (same_name-itself mark) (apart.0.marks mark (inl is)).packet)

    abbrev with_it : Config
    with_it = record c { packets = table.insert c.packets mark packet }

    with-joined : IsJoined (inside with_it) (inside c ∷ packet_load mark packet ∷ [])
    with-joined = record {
      is = λ i. record {
        place = fun_ext (λ q. sym (either-none (table.get c.places q))) i;
        atom = fun_ext (λ m. sym (either-none (table.get c.atoms m))) i;
        packet = fun_ext (λ m. get-put c.packets mark packet m ∙ beside_one (same_name m mark) packet (table.get c.packets m) (λ t. part.packets m)) i;
      };
      apart = apart;
    }

    empty_again : (t : Bool) (p : Packet) (o : Option Packet) → o ≡ None → cond t None (cond t (Some p) o) ≡ None
    empty_again true p o none = refl
    empty_again false p o none = none

    no-packets : (m : Name) → table.get (table.remove (table.insert c.packets mark packet) mark) m ≡ None
    no-packets m = get-cut (table.insert c.packets mark packet) mark m ∙ ap (cond (same_name m mark) None) (get-put c.packets mark packet m)
        ∙ empty_again (same_name m mark) packet (table.get c.packets m) (part.packets m)

    abbrev out : Atom
    out = output_of packet

    -- whether its agent stands here
    abbrev then_next : Bool → Config
    then_next here = effect with_it (landing mark packet) (record still { packets = cut mark ∷ []; atoms = cond here (put mark (output_of packet) ∷ []) [] })

    landed : (here : Bool) → at_site (table.get c.places packet.agent) packet.to ≡ here → apply with_it (landing mark packet) ≡ Some (then_next here)
    unfolding land_row
    landed here is = rw (put_here c.packets mark packet, same_site packet.to, tag-itself packet.tag, is) refl

    land-step : (here : Bool) → at_site (table.get c.places packet.agent) packet.to ≡ here → IsStep (landing mark packet) c (packet_load mark packet ∷ []) (then_next here) []
    land-step here is = item_comes c with_it (then_next here) (landing mark packet) (packet_load mark packet) (subst (λ s. IsOfSite s (inside c)) (sym to) (of-site h c part)) item with-joined
        (record { sites = refl; born = refl; said = refl }) (λ p. cc) (λ q made. absurd made) (landed here is)

    module _ (there : NameMap Atom) (stands : table.get h.agents packet.agent ≡ Some there) where
      is-here : at_site (table.get c.places packet.agent) packet.to ≡ true
      is-here = ap (λ o. at_site o packet.to) (place-of h c part packet.agent there stands) ∙ ap (nat_eq h.site) to ∙ same_site h.site

      land-part : IsPart (given h packet.agent there mark (output_of packet)) (then_next true)
      land-part = part-of (given h packet.agent there mark (output_of packet)) (then_next true) part.sites
          (λ q. part.places q ∙ same-places h.agents packet.agent there (table.insert there mark (output_of packet)) (place.At h.site) stands q)
          (hold-write h.agents c.atoms (holds h c part) packet.agent there stands (put mark (output_of packet) ∷ []) ((inr no-mark, refl), tt))
          no-packets part.born part.said

    module _ (absent : table.get h.agents packet.agent ≡ None) where
      not-here : at_site (table.get c.places packet.agent) packet.to ≡ false
      not-here = ap (λ o. at_site o packet.to) (no-place h c part packet.agent absent)

      lost-part : IsPart h (then_next false)
      lost-part = part-of h (then_next false) part.sites part.places (holds h c part) no-packets part.born part.said

module _ (h : Holding) (x : Stamped) (item : StampedItem) (mark : Name) (packet : Packet) (is : x.event ≡ landing mark packet) (load : item.item.load ≡ packet_load mark packet) (c : Config) where
  of-landing : (new : Config) → IsStep (landing mark packet) c (packet_load mark packet ∷ []) new [] → IsStep x.event c (item.item.load ∷ []) new []
  of-landing new s = subst (λ l. IsStep x.event c (l ∷ []) new []) (sym load) (subst (λ e. IsStep e c (packet_load mark packet ∷ []) new []) (sym is) s)

  its-items : Every IsItem (item.item.load ∷ []) → IsItem (packet_load mark packet)
  its-items items = (subst (λ l. Every IsItem (l ∷ [])) load items).0

  its-apart : AreApart (inside c ∷ item.item.load ∷ []) → AreApart (inside c ∷ packet_load mark packet ∷ [])
  its-apart apart = subst (λ l. AreApart (inside c ∷ l ∷ [])) load apart

pub lands : Lands
lands h x item mark packet there is to load stands = (
  refl,
  λ made c part items apart.
      let i = its-items h x item mark packet is load c items in
      let a = its-apart h x item mark packet is load c apart in (
        then_next h mark packet to c part i a true,
        land-part h mark packet to c part i a there stands,
        of-landing h x item mark packet is load c _ (land-step h mark packet to c part i a true (is-here h mark packet to c part i a there stands)),
      ),
  numbers-none h (given h packet.agent there mark (output_of packet)) x.event.made (ap (λ (e : Event). e.made) is) refl,
  refl,
)

pub is_lost : IsLost
is_lost h x item mark packet is to load absent = (
  refl,
  λ made c part items apart.
      let i = its-items h x item mark packet is load c items in
      let a = its-apart h x item mark packet is load c apart in (
        then_next h mark packet to c part i a false,
        lost-part h mark packet to c part i a absent,
        of-landing h x item mark packet is load c _ (land-step h mark packet to c part i a false (not-here h mark packet to c part i a absent)),
      ),
  numbers-none h h x.event.made (ap (λ (e : Event). e.made) is) refl,
  refl,
)
