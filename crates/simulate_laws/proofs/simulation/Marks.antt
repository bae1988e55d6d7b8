-- What an event of the low calculus leaves under a mark that it does not make: an atom or a packet of what was there.
use Rattle.std.proofs.Common.{◌≡◌, ℕ, Bool, true, false, cond, nat_eq, ◌⊎◌, inl, inr, List, [], ◌∷◌, Option, None, Some, IfSome, refl, ap, sym, subst, ◌∙◌}
use Rattle.std.specs.FinMap as map
use Rattle.np_syntax.specs.declared.process.Role.TheVariants as role
use Rattle.np_syntax.specs.declared.event.Kind.TheVariants as kind
use Rattle.np_eval.specs.FormParts.{as_stop}
use Rattle.np_eval.specs.Forms.{as_out}
use Rattle.np_calculus.specs.declared.config.Atom.{Atom}
use Rattle.np_calculus.specs.declared.config.Packet.{Packet}
use Rattle.np_calculus.specs.Changes.{put, cut, still}
use Rattle.np_calculus.specs.FrameRule.{Every, IsMade, changed, left_by}
use Rattle.np_calculus.specs.Reductions.{site_in}
use Rattle.np_calculus.proofs.Common.{Name, Value, Expr, Proc, ProcForm-F, Event, Kind, Made, then, when, done, same_name-is, chan_of, agent_of, truth_of, letter_of, places_of}
use Rattle.np_calculus.proofs.Common.{find_place, eval, bind, Layer, layer, Config, Contents, Sight, inside, sight, at_site, Change, Write, same_tag}
use Rattle.np_calculus.proofs.Common.{way, none_made, one_made, two_made, no_other, output_in, found_on, sends, offered_in, acting_in, change, apply}
unfoldable use Rattle.np_calculus.proofs.Common.{here_row, away_row, act, arrive_row, land_row}
use Rattle.np_calculus.proofs.Fits.{actor-seen, makes-one, seen-at}
use Rattle.np_calculus.proofs.Rows.{parts, so, lone, taking}
use Rattle.np_calculus.proofs.Steps.{RowStep, is-two, row-step}
use Rattle.np_calculus.proofs.Writes.{every-map, inside-effect, left-by}
use Rattle.simulate_laws.specs.simulation.OnePlace.{IsSpent}

-- ---- what each write is

-- an atom that stands under the mark and is not `0`
pub record Unended (x : Contents) (q : Name) : Type 0 where
  pub atom : Atom
  pub there : x.atom q ≡ Some atom
  pub not_stop : layer atom.proc ≡ ProcForm-F.Stop → ⊥

-- what an atom comes from that an event puts under a mark: the mark is new, the atom that stood there goes on, or the packet lands
pub data Origin (x : Contents) (e : Event) (q : Name) (b : Atom) : Type 0 where
  new : IsMade e.made q → Origin x e q b
  goes_on : (was : Unended x q) → b.agent ≡ was.atom.agent → Origin x e q b
  lands : (k : Packet) → x.packet q ≡ Some k → b.agent ≡ k.agent → Origin x e q b

-- each atom that a change puts comes from what was under its mark, and each packet from an atom
pub record Follows (x : Contents) (e : Event) (d : Change) : Type 0 where
  pub atoms : Every (λ w. IfSome w.1 (Origin x e w.0)) d.atoms
  pub packets : Every (λ w. IfSome w.1 (λ k. Unended x w.0)) d.packets

not-stop : (l : Layer) → as_stop l ≡ None → l ≡ ProcForm-F.Stop → ⊥
not-stop l none is = let bad = sym none ∙ ap as_stop is in cc

out-not_stop : (l : Layer) {parts : Expr × Expr} → as_out l ≡ Some parts → l ≡ ProcForm-F.Stop → ⊥
out-not_stop l out is = let bad = sym (ap as_out is) ∙ out in cc

makes-second : (x : Made) (m : Name × Name) → two_made x ≡ Some m → IsMade x m.1
makes-second x m h = rw (is-two x m h) (inr refl)

found-agent : (a : Atom) (y : ℕ) (p q : Proc) (o : Option Name) → (found_on a y p q o).agent ≡ a.agent
found-agent a y p q (Some l) = refl
found-agent a y p q None = refl

module _ (sites : ℕ) (x : Contents) (e : Event) (low : e.kind ≡ kind.Post → ⊥) where
  abbrev Follow : Change → Type 0
  Follow d = Follows x e d

  abbrev w : Sight
  w = sight sites x e.site

  -- an output that is offered in an agent is an atom of it, and not `0`
  record Giver (m agent : Name) : Type 0 where
    output : Unended x m
    together : agent ≡ output.atom.agent

  giver : (m agent chan : Name) (v : Value) → offered_in w.atom m agent chan ≡ Some v → Giver m agent
  giver m agent chan v h =
      then (w.atom m) _ h λ b there h. when _ _ h λ together h. then (sends b) _ h λ sent out h. then (as_out (layer b.proc)) _ out λ parts form out.
      record {
        output = record { atom = b; there = (seen-at x sites e.site m b there).there; not_stop = out-not_stop (layer b.proc) form };
        together = same_name-is agent b.agent together;
      }

  module _ (d : Change) where
    module _ (a : Atom) (h : acting_in w e ≡ Some a) where
      -- the actor, which is not `0`
      abbrev actor : as_stop (layer a.proc) ≡ None → Unended x e.actor
      actor form = record { atom = a; there = (actor-seen sites x e a h).there; not_stop = not-stop (layer a.proc) form }

      -- it goes on as an atom of its agent, alone
      on : (b : Atom) → b.agent ≡ a.agent → as_stop (layer a.proc) ≡ None → Follow (record still { atoms = put e.actor b ∷ [] })
      on b same form = record { atoms = (Origin.goes_on (actor form) same, tt); packets = tt }

      -- it is taken out
      out : (v : Option Value) → Follow (record still { atoms = cut e.actor ∷ []; said = v })
      out v = record { atoms = (tt, tt); packets = tt }

      -- it goes on, and an atom stands under the mark that is made
      more : (m : Name) (n b : Atom) → IsMade e.made m → b.agent ≡ a.agent → as_stop (layer a.proc) ≡ None
          → Follow (record still { atoms = put m n ∷ put e.actor b ∷ [] })
      more m n b made same form = record { atoms = (Origin.new made, (Origin.goes_on (actor form) same, tt)); packets = tt }

      -- both ways of a location test
      tested : (t : Bool) (met unmet : Proc) (b n : Name) (v : Value) → as_stop (layer a.proc) ≡ None
          → cond t (here_row e a met b n v) (away_row e a unmet) ≡ Some d → Follow d
      unfolding here_row away_row
      tested true met unmet b n v form h = then (one_made e.made) _ h λ m made h. so Follow e h (more m _ _ (makes-one e.made m made) refl form)
      tested false met unmet b n v form h = then (none_made e.made) _ h λ m made h. so Follow e h (on _ refl form)

      follows-act : (k : Kind) → e.kind ≡ k → act k (layer a.proc) w e a ≡ Some d → Follow d
      unfolding act
      follows-act kind.Stop is h = parts kind.Stop w e a h λ p form h. lone Follow e h (out None)
      follows-act kind.Fork is h = parts kind.Fork w e a h λ p form h. then (one_made e.made) _ h λ m made h. then (no_other e.other) _ h λ l other h.
          so Follow e h (more m _ _ (makes-one e.made m made) refl (ap as_stop form))
      follows-act kind.New is h = parts kind.New w e a h λ p form h. then (one_made e.made) _ h λ m made h. then (no_other e.other) _ h λ l other h.
          so Follow e h (on _ refl (ap as_stop form))
      follows-act kind.Let is h = parts kind.Let w e a h λ p form h. then (eval p.1 a.env) _ h λ v gives h. then (bind p.0 v a.env) _ h λ env binds h.
          lone Follow e h (on _ refl (ap as_stop form))
      follows-act kind.If is h = parts kind.If w e a h λ p form h. then (truth_of p.0 a.env) _ h λ t truth h. lone Follow e h (on _ refl (ap as_stop form))
      follows-act kind.Comm is h = parts kind.Comm w e a h λ p form h. taking w e a p.0 p.1 _ h λ n o v env along offer binds h.
          so Follow e h (record { atoms = (Origin.goes_on (actor (ap as_stop form)) refl, (tt, tt)); packets = tt })
      follows-act kind.Rep is h = parts kind.Rep w e a h λ p form h. taking w e a p.0 p.1 _ h λ n o v env along offer binds h.
          let g = giver o a.agent n v offer in
          so Follow e h (record { atoms = (Origin.goes_on g.output g.together, tt); packets = tt })
      follows-act kind.Agent is h = parts kind.Agent w e a h λ p form h. then (two_made e.made) _ h λ n made h. then (no_other e.other) _ h λ l other h.
          so Follow e h (record {
            atoms = (Origin.new (makes-second e.made n made), (Origin.goes_on (actor (ap as_stop form)) refl, tt));
            packets = tt;
          })
      follows-act kind.Depart is h = parts kind.Depart w e a h λ p form h. then (site_in sites p.0 a.env) _ h λ t names h.
          lone Follow e h (record { atoms = (Origin.goes_on (actor (ap as_stop form)) refl, tt); packets = tt })
      follows-act kind.Arrive is h = absurd cc
      follows-act kind.Local is h = parts kind.Local w e a h λ p form h. then (agent_of p.0 a.env) _ h λ b names h. then (chan_of p.1 a.env) _ h λ n along h.
          then (eval p.2 a.env) _ h λ v gives h. then (no_other e.other) _ h λ l other h.
          tested (at_site (x.place b) e.site) p.3 p.4 b n v (ap as_stop form) h
      follows-act kind.Send is h = parts kind.Send w e a h λ p form h. then (agent_of p.0 a.env) _ h λ b names h. then (site_in sites p.1 a.env) _ h λ t goes_to h.
          then (chan_of p.2 a.env) _ h λ n along h. then (eval p.3 a.env) _ h λ v gives h.
          lone Follow e h (record { atoms = (tt, tt); packets = (actor (ap as_stop form), tt) })
      follows-act kind.Land is h = absurd cc
      follows-act kind.Print is h = parts kind.Print w e a h λ p form h. then (eval p a.env) _ h λ v gives h. lone Follow e h (out (Some v))
      follows-act kind.Open is h = parts kind.Open w e a h λ p form h. then (letter_of p a.env) _ h λ v gives h. lone Follow e h (on _ refl (ap as_stop form))
      follows-act kind.Lookup is h = parts kind.Lookup w e a h λ p form h. then (agent_of p.0 a.env) _ h λ b names h. then (places_of p.1 a.env) _ h λ ps among h.
          lone Follow e h (on _ (found-agent a p.2 p.3 p.4 (find_place ps b)) (ap as_stop form))
      follows-act kind.Post is h = absurd (low is)

    follows-arrive : arrive_row (x.place e.actor) e ≡ Some d → Follow d
    unfolding arrive_row
    follows-arrive h =
        then (x.place e.actor) _ h λ p there h. then (way p) _ h λ s comes h. when (nat_eq s e.site) _ h λ here h.
        when (same_tag e.tag (record { node = 0; role = role.Plain })) _ h λ tag h. lone Follow e h (record { atoms = tt; packets = tt })

    landed : (t : Bool) (k : Packet) (b : Atom) → x.packet e.actor ≡ Some k → b.agent ≡ k.agent
        → Follow (record still { packets = cut e.actor ∷ []; atoms = cond t (put e.actor b ∷ []) [] })
    landed true k b flies same = record { atoms = (Origin.lands k flies same, tt); packets = (tt, tt) }
    landed false k b flies same = record { atoms = tt; packets = (tt, tt) }

    follows-land : land_row (x.packet e.actor) w e ≡ Some d → Follow d
    unfolding land_row
    follows-land h =
        then (x.packet e.actor) _ h λ k flies h. when (nat_eq k.to e.site) _ h λ to h. when (same_tag k.tag e.tag) _ h λ tag h.
        lone Follow e h (landed (at_site (x.place k.agent) e.site) k (output_in k.agent k.chan k.value e.tag) flies refl)

    follows-row : (k : Kind) → e.kind ≡ k → change k sites x e ≡ Some d → Follow d
    follows-row kind.Arrive is h = follows-arrive h
    follows-row kind.Land is h = follows-land h
    follows-row k is h = then (acting_in w e) _ h λ a acts h. follows-act a acts k is h

    -- the change of each event but a post
    pub follows : change e.kind sites x e ≡ Some d → Follow d
    follows = follows-row e.kind refl

-- ---- what is left under a mark

if_some : {X : Type 0} (P : X → Type 0) (v : Option X) → IfSome v P → (y : X) → v ≡ Some y → P y
if_some P (Some z) p y is = subst P (sym (done is)) p
if_some P None p y is = absurd cc

-- what stands under a name after writes stood there before or was written there
left-or-written : {X : Type 0} (P : Name → X → Type 0) (ws : List (Write X)) (q : Name) (o : Option X) → Every (λ w. IfSome w.1 (P w.0)) ws
    → (y : X) → left_by ws q o ≡ Some y → (o ≡ Some y) ⊎ P q y
left-or-written P ws q o h =
    left-by (λ v. (y : _) → v ≡ Some y → (o ≡ Some y) ⊎ P q y) ws q o (λ y is. inl is)
    (every-map _ _ (λ w p same y is. inr (subst (λ k. P k y) (sym same) (if_some (P w.0) w.1 p y is))) ws h)

none-left : {X : Type 0} (o : Option X) → ((y : X) → o ≡ Some y → ⊥) → o ≡ None
none-left None h = refl
none-left (Some y) h = absurd (h y refl)

none-or-some : {X : Type 0} (o : Option X) (y : X) → o ≡ None → o ≡ Some y → ⊥
none-or-some o y none is = let bad = sym none ∙ is in cc

-- the mark of an atom or of a packet of the agent
abbrev pub IsMarkOf : Config → Name → Name → Type 0
IsMarkOf c q agent =
    ((a : Atom) × (map.get c.atoms q ≡ Some a) × (agent ≡ a.agent))
    ⊎ ((k : Packet) × (map.get c.packets q ≡ Some k) × (agent ≡ k.agent))

module _ (c next : Config) (e : Event) (low : e.kind ≡ kind.Post → ⊥) (h : apply c e ≡ Some next) where
  met : RowStep c e next e.kind
  met = row-step c e next e.kind h

  its : Follows (inside c) e met.made
  its = follows c.sites (inside c) e low met.made met.gives

  leaves : inside next ≡ changed (inside c) met.made
  leaves = ap inside met.is ∙ inside-effect c e met.made

  atom-was : (q : Name) (b : Atom) → map.get next.atoms q ≡ Some b → (map.get c.atoms q ≡ Some b) ⊎ Origin (inside c) e q b
  atom-was q b is =
      left-or-written (Origin (inside c) e) met.made.atoms q (map.get c.atoms q) its.atoms b (sym (ap (λ (x : Contents). x.atom q) leaves) ∙ is)

  -- a packet was under way already, or an atom that was not `0` sent it
  pub packet-stays : (q : Name) (k : Packet) → map.get next.packets q ≡ Some k → (map.get c.packets q ≡ Some k) ⊎ Unended (inside c) q
  packet-stays q k is =
      left-or-written (λ q k. Unended (inside c) q) met.made.packets q (map.get c.packets q) its.packets k
      (sym (ap (λ (x : Contents). x.packet q) leaves) ∙ is)

  module _ (q : Name) (old : IsMade e.made q → ⊥) where
    origin-agent : (b : Atom) → Origin (inside c) e q b → IsMarkOf c q b.agent
    origin-agent b (Origin.new made) = absurd (old made)
    origin-agent b (Origin.goes_on was same) = inl (was.atom, was.there, same)
    origin-agent b (Origin.lands k flies same) = inr (k, flies, same)

    -- an atom under an old mark is of the agent of what was there
    pub agent-stays : (b : Atom) → map.get next.atoms q ≡ Some b → IsMarkOf c q b.agent
    agent-stays b is = elim (atom-was q b is) [ inl was ↦ inl (b, was, refl) | inr from ↦ origin-agent b from ]

    no-origin : (b : Atom) → IsSpent c q → Origin (inside c) e q b → ⊥
    no-origin b s (Origin.new made) = old made
    no-origin b s (Origin.goes_on was same) = was.not_stop (s.ended was.atom was.there)
    no-origin b s (Origin.lands k flies same) = none-or-some (map.get c.packets q) k s.no_packet flies

    -- an old mark that is spent stays so
    pub spent-stays : IsSpent c q → IsSpent next q
    spent-stays s = record {
      no_packet = none-left (map.get next.packets q) λ k is. elim (packet-stays q k is) [
        | inl was ↦ none-or-some (map.get c.packets q) k s.no_packet was
        | inr sent ↦ sent.not_stop (s.ended sent.atom sent.there)
      ];
      ended = λ a is. elim (atom-was q a is) [ inl was ↦ s.ended a was | inr from ↦ absurd (no-origin a s from) ];
    }
