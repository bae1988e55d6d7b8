-- What a migration and a message put out.
use Rattle.std.proofs.Common.{◌≡◌, ℕ, Bool, true, false, cond, not, is_some, nat_lt, ◌⊎◌, inl, [], ◌∷◌, Option, None, Some, IsSome, IfSome, option_map, refl, sym, ap, subst, ◌∙◌}
use mathlib.Core.Path.{fun_ext}
use Rattle.std.specs.FinMap as table
use Rattle.std.specs.FinMap.{get-retain_keys}
use Rattle.np_tables.proofs.Tables.{cut-put, cut_here, exact, get-cut, get-put, put_here}
use Rattle.np_calculus.proofs.Common.{Change, Config, Kind, Name, NameMap, ◌>>=◌, apply, effect, inside, same_name, same_name-is, same_name-itself}
use Rattle.np_syntax.specs.declared.event.Kind.TheVariants as kind
use Rattle.np_calculus.specs.declared.config.Atom.{Atom}
use Rattle.np_calculus.specs.declared.config.Packet.{Packet}
use Rattle.np_calculus.specs.declared.config.Place.TheVariants as place
use Rattle.np_calculus.specs.Changes.{put, still, with_said, written}
use Rattle.np_calculus.specs.FrameRule.{Every}
use Rattle.np_calculus.specs.Rows.{change_in}
use Rattle.np_calculus.proofs.Fits.{some}
use Rattle.np_syntax.proofs.Options.{none_of}
use Rattle.np_site_runs.specs.merged.Items.{IsOwn, of_agent, of_packet}
use Rattle.np_site_runs.specs.merged.Steps.{IsStep}
use Rattle.np_site_runs.proofs.merged.Items.{agent_leaves, packet_leaves}
use Rattle.stamp_history.specs.declared.stamped.Stamped.{Stamped}
use Rattle.np_site_runs.specs.Holdings.{Holding, IsPart}
use Rattle.np_site_runs.specs.Going.{Goes, own_sight}
use Rattle.np_site_runs.specs.Leaving.{Leaves, Sends, without}
use Rattle.np_site_runs.specs.Loads.{agent_load, packet_load}
use Rattle.np_site_runs.specs.Making.{next_after}
use Rattle.np_site_runs.specs.Within.{IsOwnEvent, gone_on}
use Rattle.np_site_runs.proofs.Holds.{Holds, hold-gone, hold-write, mine-there, not-mine, there-mine}
use Rattle.np_site_runs.proofs.Inversions.{Departed, Sent, departed, sent}
use Rattle.np_site_runs.proofs.Parts.{born-after, holds, numbers-next, numbers-none, part-of, said-after, same-places}
use Rattle.np_site_runs.proofs.Within.{Parted, applied, asks-none, changes, own-made, own-site, parted}

module _ {X : Type 0} where
  -- what stands under a name alone
  one_alone : (t : Bool) (x : X) (o p : Option X) → (t ≡ true → o ≡ Some x) → cond t o None ≡ cond t (Some x) None
  one_alone true x o p h = h refl
  one_alone false x o p h = refl

  neither : (t : Bool) (p : Option X) → p ≡ None → cond t None p ≡ None
  neither true p h = refl
  neither false p h = h

-- an event of an agent, whose acting atom asks for no agent
module _ (h : Holding) (x : Stamped) (agent : Name) (old : NameMap Atom) (k : Kind) (o : IsOwnEvent h agent old k x.event) (c : Config) (part : IsPart h c) (d : Change) where
  module _ (local : k ≡ kind.Local → ⊥) (is : change_in k (own_sight h.sites old false) x.event ≡ Some d) where
    pub enabled : apply c x.event ≡ Some (effect c x.event d)
    enabled = applied h c part agent old k x.event o d (changes h c part agent old k x.event o false
        (record { each = λ a b there asks. absurd (asks-none (own_sight h.sites old false) x.event k d local is a b there asks) }) d is)

    pub own : (k ≡ kind.Post → ⊥) → IsOwn c (effect c x.event d) x.event
    own post = record {
      site = own-site h c part agent old k x.event o;
      apart = λ p. post (sym o.kind ∙ p);
      own = own-made h c part agent old k x.event o;
      applies = enabled;
    }

-- ---- a message

module _ (h : Holding) (x : Stamped) (agent : Name) (packet : Packet) (old new : NameMap Atom) (o : IsOwnEvent h agent old kind.Send x.event) where
  module _ (g : Goes kind.Send h.sites old new x.event (record still { packets = put x.event.actor packet ∷ [] })) (c : Config) (part : IsPart h c) where
    abbrev gone : Parted kind.Send h.sites old new x.event (record still { packets = put x.event.actor packet ∷ [] })
    gone = parted kind.Send h.sites old new x.event (record still { packets = put x.event.actor packet ∷ [] }) g

    abbrev row : Sent (own_sight h.sites old false) x.event gone.change
    row = sent (own_sight h.sites old false) x.event gone.change gone.is

    places : [] ≡ gone.change.places
    places = ap (λ (r : Change). r.places) gone.others

    packets : put x.event.actor packet ∷ [] ≡ gone.change.packets
    packets = ap (λ (r : Change). r.packets) gone.others

    abbrev next : Config
    next = effect c x.event gone.change

    abbrev left : Config
    left = record next { packets = table.remove next.packets x.event.actor }

    atom-gone : table.get (written c.atoms gone.change.atoms) x.event.actor ≡ None
    atom-gone = ap (λ ws. table.get (written c.atoms ws) x.event.actor) row.atoms ∙ cut_here c.atoms x.event.actor

    now-holds : Holds (table.insert h.agents agent new) (written c.atoms gone.change.atoms)
    now-holds = subst (λ t. Holds (table.insert h.agents agent t) (written c.atoms gone.change.atoms)) (sym gone.atoms)
        (hold-write h.agents c.atoms (holds h c part) agent old o.stands gone.change.atoms
        (subst (λ ws. Every (λ w. (IsSome (table.get old w.0) ⊎ (table.get c.atoms w.0 ≡ None)) × IfSome w.1 (λ a. a.agent ≡ agent)) ws) (sym row.atoms)
        ((inl (some (table.get old x.event.actor) row.atom row.there), tt), tt)))

    packet-there : (q : Name) → table.get (written c.packets gone.change.packets) q ≡ cond (same_name q x.event.actor) (Some packet) (table.get c.packets q)
    packet-there q = ap (λ ws. table.get (written c.packets ws) q) (sym packets) ∙ get-put c.packets x.event.actor packet q

    no-packet : (t : Bool) (m : Name) → same_name m x.event.actor ≡ t → cond t None (table.get (written c.packets gone.change.packets) m) ≡ None
    no-packet true m is = refl
    no-packet false m is = packet-there m ∙ ap (λ t. cond t (Some packet) (table.get c.packets m)) is ∙ part.packets m

    sent-part : IsPart (gone_on h agent new x.event None) left
    sent-part = part-of (gone_on h agent new x.event None) left part.sites
        (λ q. ap (λ ws. table.get (written c.places ws) q) (sym places) ∙ part.places q ∙ same-places h.agents agent old new (place.At h.site) o.stands q)
        now-holds
        (λ m. get-cut (written c.packets gone.change.packets) x.event.actor m ∙ no-packet (same_name m x.event.actor) m refl)
        (born-after h c part x.event.made o.makes)
        (ap (with_said c.said x.event.site) (sym (ap (λ (r : Change). r.said) gone.others)) ∙ said-after h c part x.event None o.site)

    item-is : of_packet (inside next) x.event.actor ≡ packet_load x.event.actor packet
    item-is = λ i. record {
      place = λ q. None;
      atom = λ m. None;
      packet = fun_ext (λ q. one_alone (same_name q x.event.actor) packet (table.get (written c.packets gone.change.packets) q) None
          (λ t. packet-there q ∙ ap (λ t. cond t (Some packet) (table.get c.packets q)) t)) i;
    }

    sent-step : IsStep x.event c [] left (of_packet (inside next) x.event.actor ∷ [])
    sent-step = packet_leaves c next left x.event x.event.actor
        (own h x agent old kind.Send o c part gone.change (λ e. cc) gone.is (λ e. cc))
        atom-gone
        (record {
          is = λ i. record {
            place = (inside next).place;
            atom = (inside next).atom;
            packet = fun_ext (λ q. get-cut (written c.packets gone.change.packets) x.event.actor q) i;
          };
          same = record { sites = refl; born = refl; said = refl };
        })

pub sends : Sends
sends h x item agent packet old new o g load = (
  refl,
  λ made c part items apart. (
    left h x agent packet old new o g c part,
    sent-part h x agent packet old new o g c part,
    subst (λ l. IsStep x.event c [] (left h x agent packet old new o g c part) (l ∷ [])) (item-is h x agent packet old new o g c part ∙ sym load) (sent-step h x agent packet old new o g c part),
  ),
  numbers-next h (gone_on h agent new x.event None) x.event.made o.makes refl,
  tt,
)

-- ---- a migration

module _ (h : Holding) (x : Stamped) (agent : Name) (to : ℕ) (old new : NameMap Atom) (o : IsOwnEvent h agent old kind.Depart x.event) where
  module _ (g : Goes kind.Depart h.sites old new x.event (record still { places = put agent (place.Way to) ∷ [] })) (c : Config) (part : IsPart h c) where
    abbrev trip : Parted kind.Depart h.sites old new x.event (record still { places = put agent (place.Way to) ∷ [] })
    trip = parted kind.Depart h.sites old new x.event (record still { places = put agent (place.Way to) ∷ [] }) g

    abbrev gone_row : Departed (own_sight h.sites old false) x.event trip.change
    gone_row = departed (own_sight h.sites old false) x.event trip.change trip.is

    abbrev after : Config
    after = effect c x.event trip.change

    abbrev kept_atoms : NameMap Atom
    kept_atoms = table.retain_keys after.atoms (λ m. not (is_some (table.get new m)))

    abbrev stay : Config
    stay = record after { places = table.remove after.places agent; atoms = kept_atoms }

    all-hold : Holds (table.insert h.agents agent new) (written c.atoms trip.change.atoms)
    all-hold = subst (λ t. Holds (table.insert h.agents agent t) (written c.atoms trip.change.atoms)) (sym trip.atoms)
        (hold-write h.agents c.atoms (holds h c part) agent old o.stands trip.change.atoms
        (subst (λ ws. Every (λ w. (IsSome (table.get old w.0) ⊎ (table.get c.atoms w.0 ≡ None)) × IfSome w.1 (λ a. a.agent ≡ agent)) ws) (sym gone_row.atoms)
        ((inl (some (table.get old x.event.actor) gone_row.on.atom gone_row.on.there), gone_row.on.of ∙ part.own agent old x.event.actor gone_row.on.atom o.stands gone_row.on.there), tt)))

    now-here : table.get (table.insert h.agents agent new) agent ≡ Some new
    now-here = put_here h.agents agent new

    place-there : (q : Name) → table.get (written c.places trip.change.places) q ≡ cond (same_name q agent) (Some (place.Way to)) (table.get c.places q)
    place-there q = ap (λ ws. table.get (written c.places ws) q) (sym (ap (λ (r : Change). r.places) trip.others)) ∙ get-put c.places agent (place.Way to) q

    negated : {X : Type 0} (t : Bool) (p : Option X) → cond (not t) p None ≡ cond t None p
    negated true p = refl
    negated false p = refl

    kept : (m : Name) → table.get kept_atoms m ≡ cond (is_some (table.get new m)) None (table.get (written c.atoms trip.change.atoms) m)
    kept m = get-retain_keys after.atoms (λ m. not (is_some (table.get new m))) m (λ n tie. ap (λ n. not (is_some (table.get new n))) (sym (exact m n tie)))
        ∙ negated (is_some (table.get new m)) (table.get after.atoms m)

    -- an atom is the agent's just where it has it
    sorted : (m : Name) (p : Option Atom) → table.get (written c.atoms trip.change.atoms) m ≡ p
        → (cond (is_some (table.get new m)) None p ≡ (p >>= λ b. cond (same_name b.agent agent) None (Some b))) × ((p >>= λ b. cond (same_name b.agent agent) (Some b) None) ≡ table.get new m)
    sorted m None e = (neither (is_some (table.get new m)) None refl, sym (none_of (table.get new m) λ is. lacks (table.get new m) refl is))
      where
        lacks : (p : Option Atom) → table.get new m ≡ p → IsSome p → ⊥
        lacks None f is = absurd cc
        lacks (Some b) f is = let y : None ≡ Some b = sym e ∙ mine-there (table.insert h.agents agent new) (written c.atoms trip.change.atoms) all-hold agent new now-here m b f in cc
    sorted m (Some b) e = one (same_name b.agent agent) refl
      where
        one : (t : Bool) → same_name b.agent agent ≡ t → (cond (is_some (table.get new m)) None (Some b) ≡ cond t None (Some b)) × (cond t (Some b) None ≡ table.get new m)
        one true f =
            let mine = there-mine (table.insert h.agents agent new) (written c.atoms trip.change.atoms) all-hold agent new now-here m b e (same_name-is b.agent agent f) in
            (ap (λ p. cond (is_some p) None (Some b)) mine, sym mine)
        one false f =
            let none = not-mine (table.insert h.agents agent new) (written c.atoms trip.change.atoms) all-hold agent new now-here m b e f in
            (ap (λ p. cond (is_some p) None (Some b)) none, sym none)

    stay-holds : Holds (table.remove h.agents agent) kept_atoms
    stay-holds = subst (λ t. Holds t kept_atoms) (cut-put h.agents agent new)
        (hold-gone (table.insert h.agents agent new) (written c.atoms trip.change.atoms) all-hold agent new now-here kept_atoms kept)

    left-place : (t : Bool) (q : Name) → same_name q agent ≡ t
        → cond t None (table.get (written c.places trip.change.places) q) ≡ option_map (λ (t : NameMap Atom). place.At h.site) (cond t None (table.get h.agents q))
    left-place true q e = refl
    left-place false q e = place-there q ∙ ap (λ t. cond t (Some (place.Way to)) (table.get c.places q)) e ∙ part.places q

    stay-part : IsPart (without h agent) stay
    stay-part = part-of (without h agent) stay part.sites
        (λ q. get-cut (written c.places trip.change.places) agent q ∙ left-place (same_name q agent) q refl ∙ ap (option_map (λ (t : NameMap Atom). place.At h.site)) (sym (get-cut h.agents agent q)))
        stay-holds
        (λ m. ap (λ ws. table.get (written c.packets ws) m) (sym (ap (λ (r : Change). r.packets) trip.others)) ∙ part.packets m)
        (λ k. born-after h c part x.event.made o.makes k ∙ ap (λ made. nat_lt k (next_after h.next made)) gone_row.none)
        (ap (with_said c.said x.event.site) (sym (ap (λ (r : Change). r.said) trip.others)) ∙ said-after h c part x.event None o.site)

    trip-is : of_agent (inside after) agent ≡ agent_load agent new to
    trip-is = λ i. record {
      place = fun_ext (λ q. one_alone (same_name q agent) (place.Way to) (table.get (written c.places trip.change.places) q) None
          (λ t. place-there q ∙ ap (λ t. cond t (Some (place.Way to)) (table.get c.places q)) t)) i;
      atom = fun_ext (λ m. (sorted m (table.get (written c.atoms trip.change.atoms) m) refl).1) i;
      packet = λ m. None;
    }

    trip-step : IsStep x.event c [] stay (of_agent (inside after) agent ∷ [])
    trip-step = agent_leaves c after stay x.event agent to
        (own h x agent old kind.Depart o c part trip.change (λ e. cc) trip.is (λ e. cc))
        (λ m. ap (λ ws. table.get (written c.packets ws) m) (sym (ap (λ (r : Change). r.packets) trip.others)) ∙ part.packets m)
        (place-there agent ∙ ap (λ t. cond t (Some (place.Way to)) (table.get c.places agent)) (same_name-itself agent))
        (record {
          is = λ i. record {
            place = fun_ext (λ q. get-cut (written c.places trip.change.places) agent q) i;
            atom = fun_ext (λ m. kept m ∙ (sorted m (table.get (written c.atoms trip.change.atoms) m) refl).0) i;
            packet = (inside after).packet;
          };
          same = record { sites = refl; born = refl; said = refl };
        })

pub leaves : Leaves
leaves h x item agent to old new o g load = (
  refl,
  λ made c part items apart. (
    stay h x agent to old new o g c part,
    stay-part h x agent to old new o g c part,
    subst (λ l. IsStep x.event c [] (stay h x agent to old new o g c part) (l ∷ [])) (trip-is h x agent to old new o g c part ∙ sym load) (trip-step h x agent to old new o g c part),
  ),
  (let trip = parted kind.Depart h.sites old new x.event (record still { places = put agent (place.Way to) ∷ [] }) g in
      numbers-none h (without h agent) x.event.made (departed (own_sight h.sites old false) x.event trip.change trip.is).none refl),
  tt,
)
