-- An agent with its atoms, or a packet, leaves what a site has, and an item comes to it.
use Rattle.std.proofs.Common.{◌≡◌, inl, inr, ℕ, Bool, true, false, cond, [], ◌∷◌, Option, None, Some, IsSome, refl, ap, sym, subst, ◌∙◌}
use mathlib.Core.Path.{fun_ext}
use Rattle.np_calculus.proofs.Common.{Name, Event, ◌>>=◌, done, same_name, same_name-is, Config, Contents, inside}
use Rattle.np_calculus.specs.declared.config.Atom.{Atom}
use Rattle.np_calculus.specs.declared.config.Place.TheVariants as place
use Rattle.np_calculus.specs.Parts.{IsAway, IsLodged, IsOfSite, either}
use Rattle.np_calculus.proofs.Fits.{some}
use Rattle.np_calculus.proofs.FrameRule.{keeps_of_site, none-some}
use Rattle.np_calculus.proofs.Writes.{either-none}
use Rattle.np_site_runs.specs.merged.Items.{AgentLeaves, IsLeft, IsOwn, ItemComes, PacketLeaves, of_agent, of_packet, without_agent, without_packet}
use Rattle.np_site_runs.specs.merged.Joined.{IsJoined}
use Rattle.np_site_runs.specs.merged.Steps.{InnerStep, IsItem, IsStep, SameRecords}
use Rattle.np_site_runs.proofs.merged.Steps.{together-away, together-lodged}

module _ {X : Type 0} where
  -- what is taken out and what is left are the whole
  parted : (t : Bool) (o : Option X) → o ≡ either (cond t None o) (either (cond t o None) None)
  parted true (Some x) = refl
  parted true None = refl
  parted false (Some x) = refl
  parted false None = refl

  sorted : (t : X → Bool) (o : Option X) → o ≡ either (o >>= λ b. cond (t b) None (Some b)) (either (o >>= λ b. cond (t b) (Some b) None) None)
  sorted t None = refl
  sorted t (Some x) = parted (t x) (Some x)

  other : (t : Bool) (o : Option X) → IsSome (cond t None o) → either (cond t o None) None ≡ None
  other true o h = absurd cc
  other false o h = refl

  others : (t : X → Bool) (o : Option X) → IsSome (o >>= λ b. cond (t b) None (Some b)) → either (o >>= λ b. cond (t b) (Some b) None) None ≡ None
  others t None h = refl
  others t (Some x) h = other (t x) (Some x) h

  only : (t : Bool) (o : Option X) (x : X) → cond t o None ≡ Some x → (t ≡ true) × (o ≡ Some x)
  only true o x h = (refl, h)
  only false o x h = absurd cc

  rest : (t : Bool) (o : Option X) (x : X) → cond t None o ≡ Some x → (t ≡ false) × (o ≡ Some x)
  rest true o x h = absurd cc
  rest false o x h = (refl, h)

  of-some : (t : X → Bool) (o : Option X) (x : X) → (o >>= λ b. cond (t b) (Some b) None) ≡ Some x → (t x ≡ true) × (o ≡ Some x)
  of-some t None x h = absurd cc
  of-some t (Some y) x h =
      let p = only (t y) (Some y) x h in
      (ap t (done p.1) ∙ p.0, p.1)

  but-some : (t : X → Bool) (o : Option X) (x : X) → (o >>= λ b. cond (t b) None (Some b)) ≡ Some x → (t x ≡ false) × (o ≡ Some x)
  but-some t None x h = absurd cc
  but-some t (Some y) x h =
      let p = rest (t y) (Some y) x h in
      (ap t (done p.1) ∙ p.0, p.1)

module _ (x : Contents) where
  agent-joined : (a : Name) → ((m : Name) → x.packet m ≡ None) → IsJoined x (without_agent x a ∷ of_agent x a ∷ [])
  agent-joined a none = record {
    is = λ i. record {
      place = fun_ext (λ q. parted (same_name q a) (x.place q)) i;
      atom = fun_ext (λ m. sorted (λ (b : Atom). same_name b.agent a) (x.atom m)) i;
      packet = fun_ext (λ m. parted false (x.packet m)) i;
    };
    apart = (
      record {
        agents = λ q is. other (same_name q a) (x.place q) is;
        marks = λ m is. elim is [
          | inl h ↦ record { atom = others (λ (b : Atom). same_name b.agent a) (x.atom m) h; packet = refl }
          | inr h ↦ absurd (none-some (x.packet m) (none m) h)
        ];
      },
      (record { agents = λ q is. refl; marks = λ q is. record { atom = refl; packet = refl } }, tt),
    );
  }

  unmarked : (m q : Name) → x.atom m ≡ None → (t : Bool) → same_name q m ≡ t → IsSome (x.atom q) → either (cond t (x.packet q) None) None ≡ None
  unmarked m q none true e h = absurd (none-some (x.atom q) (ap x.atom (same_name-is q m e) ∙ none) h)
  unmarked m q none false e h = refl

  packet-joined : (m : Name) → x.atom m ≡ None → IsJoined x (without_packet x m ∷ of_packet x m ∷ [])
  packet-joined m none = record {
    is = λ i. record {
      place = fun_ext (λ q. parted false (x.place q)) i;
      atom = fun_ext (λ q. parted false (x.atom q)) i;
      packet = fun_ext (λ q. parted (same_name q m) (x.packet q)) i;
    };
    apart = (
      record {
        agents = λ q is. refl;
        marks = λ q is. elim is [
          | inl h ↦ record { atom = refl; packet = unmarked m q none (same_name q m) refl h }
          | inr h ↦ record { atom = refl; packet = other (same_name q m) (x.packet q) h }
        ];
      },
      (record { agents = λ q is. refl; marks = λ q is. record { atom = refl; packet = refl } }, tt),
    );
  }

  agent-item : (a : Name) (t : ℕ) → x.place a ≡ Some (place.Way t) → IsItem (of_agent x a)
  agent-item a t way = record {
    lodged = record {
      each = λ m b is.
          let p = of-some (λ (b : Atom). same_name b.agent a) (x.atom m) b is in
          rw p.0 (some (x.place b.agent) _ (ap x.place (same_name-is b.agent a p.0) ∙ way));
    };
    away = λ u. record {
      none = λ agent is.
          let p = only (same_name agent a) (x.place agent) (place.At u) is in
          let e : Some (place.At u) ≡ Some (place.Way t) = sym p.1 ∙ ap x.place (same_name-is agent a p.0) ∙ way in
          cc;
    };
  }

  packet-item : (m : Name) → IsItem (of_packet x m)
  packet-item m = record { lodged = record { each = λ q b is. absurd cc }; away = λ u. record { none = λ agent is. cc } }

  stays-without-agent : (s : ℕ) (a : Name) → IsOfSite s x → IsOfSite s (without_agent x a)
  stays-without-agent s a i = record {
    lodged = record {
      each = λ m b is.
          let p = but-some (λ (b : Atom). same_name b.agent a) (x.atom m) b is in
          rw p.0 (i.lodged.each m b p.1);
    };
    away = λ u apart. record { none = λ agent is. (i.away u apart).none agent (rest (same_name agent a) (x.place agent) (place.At u) is).1 };
  }

  stays-without-packet : (s : ℕ) (m : Name) → IsOfSite s x → IsOfSite s (without_packet x m)
  stays-without-packet s m i = record { lodged = record { each = i.lodged.each }; away = λ u apart. record { none = (i.away u apart).none } }

whole-alone : (x : Contents) → IsJoined x (x ∷ [])
whole-alone x = record {
  is = λ i. record {
    place = fun_ext (λ q. sym (either-none (x.place q))) i;
    atom = fun_ext (λ q. sym (either-none (x.atom q))) i;
    packet = fun_ext (λ q. sym (either-none (x.packet q))) i;
  };
  apart = (record { agents = λ q is. refl; marks = λ q is. record { atom = refl; packet = refl } }, tt);
}

unchanged : (c : Config) → SameRecords c c
unchanged c = record { sites = refl; born = refl; said = refl }

pub inner_step : InnerStep
inner_step old new e i apart own h = record {
  full = old;
  joins = whole-alone (inside old);
  same = unchanged old;
  next = new;
  applies = h;
  parts = whole-alone (inside new);
  kept = unchanged new;
  site = keeps_of_site old new e apart i h;
  items = tt;
  own = own;
}

-- an item of which what a site has after an event is made up leaves it
leaves : (old next new : Config) (e : Event) (left item : Contents) → IsOwn old next e → IsLeft next new left → IsJoined (inside next) (left ∷ item ∷ [])
    → (IsOfSite e.site (inside next) → IsOfSite e.site left) → IsItem item → IsStep e old [] new (item ∷ [])
leaves old next new e left item o l joined stays is_item = record {
  full = old;
  joins = whole-alone (inside old);
  same = unchanged old;
  next = next;
  applies = o.applies;
  parts = subst (λ y. IsJoined (inside next) (y ∷ item ∷ [])) (sym l.is) joined;
  kept = l.same;
  site = subst (IsOfSite e.site) (sym l.is) (stays (keeps_of_site old next e o.apart o.site o.applies));
  items = (is_item, tt);
  own = o.own;
}

pub agent_leaves : AgentLeaves
agent_leaves old next new e a t o none way left =
    leaves old next new e _ _ o left (agent-joined (inside next) a none) (stays-without-agent (inside next) e.site a) (agent-item (inside next) a t way)

pub packet_leaves : PacketLeaves
packet_leaves old next new e m o none left =
    leaves old next new e _ _ o left (packet-joined (inside next) m none) (stays-without-packet (inside next) e.site m) (packet-item (inside next) m)

pub item_comes : ItemComes
item_comes old full next e x i item joins same apart own h =
    let site : IsOfSite e.site (inside full) = record {
      lodged = subst IsLodged (sym joins.is) (together-lodged (inside old ∷ x ∷ []) (i.lodged, (item.lodged, tt)));
      away = λ u far. subst (λ y. IsAway y u) (sym joins.is) (together-away u (inside old ∷ x ∷ []) (i.away u far, (item.away u, tt)));
    } in
    record {
      full = full;
      joins = joins;
      same = same;
      next = next;
      applies = h;
      parts = whole-alone (inside next);
      kept = unchanged next;
      site = keeps_of_site full next e apart site h;
      items = tt;
      own = own;
    }
