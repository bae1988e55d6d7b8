-- Where no site can act at the low level, none can at the high level.
use Rattle.std.proofs.Common.{◌≡◌, ◌+◌, inl, inr, ℕ, true, false, None, Some, IsSome, List, [], ◌∷◌, refl, sym, ap, subst, ◌∙◌}
use Rattle.std.specs.List.{All}
use Rattle.std.proofs.lemmas.List.Elements.{All-from_recursion, recursion_from_All}
use Rattle.std.specs.FinMap as map
use Rattle.np_syntax.specs.declared.value.Name.{Name}
use Rattle.np_syntax.specs.declared.value.Value.{out-Value}
use Rattle.np_syntax.specs.declared.expression.Expr.{Expr}
use Rattle.np_syntax.specs.declared.pattern.Pat.{Pat}
use Rattle.np_syntax.specs.declared.process.Tag.{Tag}
use Rattle.np_syntax.specs.declared.process.ProcForm.{ProcForm-F}
use Rattle.np_syntax.specs.declared.process.ProcForm.TheVariants as forms
use Rattle.np_syntax.specs.Options.{◌>>=◌}
use Rattle.np_syntax.proofs.Options.{then, done}
use Rattle.np_calculus.specs.declared.config.Atom.{Atom}
use Rattle.np_calculus.specs.declared.config.Packet.{Packet}
use Rattle.np_calculus.specs.declared.config.Place.TheVariants as place
use Rattle.np_calculus.specs.Config.{Config}
use Rattle.np_calculus.specs.Idle.{Can, HasMeeting, HasWork, Idle, waits}
use Rattle.np_calculus.specs.Parts.{IsLodged}
use Rattle.np_calculus.specs.Reductions.{output_in}
use Rattle.np_calculus.specs.Sight.{inside}
use Rattle.np_calculus.specs.Starts.{own}
use Rattle.np_eval.specs.Eval.{as_chan, chan_of}
use Rattle.np_eval.specs.Forms.{given_on, layer, taken_on}
use Rattle.simulate_laws.specs.protocol.Chips.{Chip}
use Rattle.simulate_laws.specs.protocol.Phases.{is_present}
use Rattle.simulate_laws.specs.protocol.Protocol.{IsTrueOf}
use Rattle.simulate_laws.specs.protocol.Scenes.{is_there}
use Rattle.np_scope.specs.Sound.{IsSoundExpr}
use Rattle.np_scope.proofs.SoundParts.{ProcParts, proc-parts}
use Rattle.infrastructure_texts.specs.Pieces.{currentloc}
use Rattle.infrastructure_texts.specs.Infrastructures.{Infrastructure}
use Rattle.simulate_laws.proofs.things.Values.{same-value}
use Rattle.simulate_laws.specs.things.Mail.{Mail, Posted, as_output}
use Rattle.simulate_laws.specs.things.Shapes.{Is, IsOfSource}
use Rattle.simulate_laws.specs.things.Things.{Thing, carried, first_atom_of, first_packet_of, high_atom, high_packet}
use Rattle.simulate_laws.specs.levels.Coupled.{Coupled, View, scene, whereabouts}
use Rattle.simulate_laws.proofs.levels.Places.{same_place}
use Rattle.simulate_laws.proofs.levels.Values.{channel-is}
use Rattle.simulate_laws.specs.simulation.RestLaws.{HasCacheRest, HasRest, RestsTogether, WaitsForNone}
use Rattle.simulate_laws.proofs.simulation.Begins.{Goes, goes}
use Rattle.simulate_laws.proofs.simulation.Caches.{free_cache, no_call, no_hoping, waits_for_none}
use Rattle.simulate_laws.proofs.simulation.Locks.{free-locks}
use Rattle.simulate_laws.proofs.simulation.Phases.{free_lock, no_asking, no_beginning, no_settling, no_wanting, rests, token}
use Rattle.simulate_laws.proofs.simulation.Resting.{MayRest, may_rest}
use Rattle.simulate_laws.proofs.simulation.Standing.{map_there, told}
use Rattle.simulate_laws.proofs.simulation.Waiting.{Giving, Taking, gives_there, no_arrival, no_meeting, no_work, one_thing, takes_bound}

-- how an atom of the high level stands at the low one: as its translation, or as the output of a letter that was opened
data Stands (i : Infrastructure) (n from : ℕ) (h a : Atom) : Type 0 where
  source : (x : Expr) → IsOfSource i n from x h a → Stands i n from h a
  opened : (p : Posted) (tag : Tag) → h ≡ as_output p → a ≡ output_in p.agent p.chan p.value tag → Stands i n from h a

module _ {i : Infrastructure} {n from first : ℕ} {low high : Config} {v : View} (c : Coupled i n from first low high v) (lodged : IsLodged (inside low)) (idle : Idle low) where
  -- ---- letters

  -- no letter waits for its agent's lock
  no_letter : {A : Type 0} (m : Name) (p : Posted) (l : Name) (a : Atom) → map.get v.things m ≡ Some (Thing.wanting (Mail.message p) l ∷ []) → map.get low.atoms m ≡ Some a
      → Is i n from first (Thing.wanting (Mail.message p) l) a → A
  no_letter m p l a under there i =
      let tells = recursion_from_All (IsTrueOf (scene v high) v.phase) (Chip.wants p.agent l ∷ Chip.knows p.agent ∷ []) (told c lodged idle m (Thing.wanting (Mail.message p) l ∷ []) under) in
      no_wanting c lodged idle p.agent l tells.0 m a there i.agent (takes_bound a (first + 15) 0 _ _ l i.waits.0 i.waits.2)

  none_carried : (m : Name) (t : Thing) (a : Atom) → map.get v.things m ≡ Some (t ∷ []) → map.get low.atoms m ≡ Some a → Is i n from first t a → MayRest t → carried t ≡ None
  none_carried m t a under there i (MayRest.passes {p = p} {l = l}) = no_letter m p l a under there i
  none_carried m t a under there i _ = refl

  no_letters : (m : Name) (ts : List Thing) → map.get v.things m ≡ Some ts → All (λ t. carried t ≡ None) ts
  no_letters m ts h =
      let o = one_thing c lodged idle m ts h in
      let under : map.get v.things m ≡ Some (o.thing ∷ []) = h ∙ ap Some o.alone in
      subst (All (λ t. carried t ≡ None)) (sym o.alone)
      (All-from_recursion (λ t. carried t ≡ None) (o.thing ∷ []) (none_carried m o.thing o.atom under o.there o.is (may_rest c lodged idle m o.atom o.there o.thing under o.is), tt))

  -- ---- atoms of the high level

  its_agent : (h a : Atom) → Stands i n from h a → a.agent ≡ h.agent
  its_agent h a (Stands.source x i) = i.stands.agent
  its_agent h a (Stands.opened p tag hi is) = ap (λ (b : Atom). b.agent) is ∙ sym (ap (λ (b : Atom). b.agent) hi)

  -- an expression of a source names the same channel at both levels
  same_chan : (x : Expr) (h a : Atom) (i : IsOfSource i n from x h a) (y : Expr) → IsSoundExpr n i.stands.source.scope y → chan_of y a.env ≡ chan_of y h.env
  same_chan x h a i y sound = ap (λ o. o >>= λ u. as_chan (out-Value u)) (same-value n from i.stands.source.scope y a.env h.env sound i.stands.source.in_scope i.stands.agrees)

  -- ---- what can act

  -- an agent that is at a site rests, and its `currentloc` is free
  no_move : {A : Type 0} (m : Name) (a : Atom) (s : ℕ) (w : Pat) (q : _) → map.get low.atoms m ≡ Some a → map.get high.places a.agent ≡ Some (place.At s) → layer a.proc ≡ ProcForm-F.Inp (currentloc n) w q → A
  no_move m a s w q there placed form = elim (rests c lodged idle a.agent) [
    | inl i ↦ (let t = token c lodged idle a.agent i in no_meeting c lodged idle t.0 m t.1 a (own n 9) t.3 there t.4.0.agent (gives_there t.4.0) (record { to = (currentloc n, w); form = ap taken_on form; on = channel-is (own n 9) a.env }))
    | inr i ↦ absurd (let bad : true ≡ false = sym (ap (λ o. is_there (whereabouts o)) placed) ∙ c.protocol.placed a.agent ∙ ap is_present i in cc)
  ]

  no_packets : (t : Thing) (k : Packet) → MayRest t → high_packet t ≡ Some k → ⊥
  no_packets t k MayRest.source h = cc
  no_packets t k _ h = cc

  no_packet_above : (k : Name) (p : Packet) → map.get high.packets k ≡ Some p → ⊥
  no_packet_above k p flies =
      let d = c.mirrored_packets.down k p flies in
      then (map.get v.things d.0) first_packet_of d.2 λ ts held shows.
      let o = one_thing c lodged idle d.0 ts held in
      no_packets o.thing p (may_rest c lodged idle d.0 o.atom o.there o.thing (held ∙ ap Some o.alone) o.is) (ap first_packet_of (sym o.alone) ∙ shows)

  no_arrival_above : (a : Name) (s : ℕ) → map.get high.places a ≡ Some (place.Way s) → ⊥
  no_arrival_above a s comes = no_arrival c lodged idle a s (same_place c a (subst IsSome (sym comes) refl) ∙ comes)

  has_rest : HasRest v
  has_rest = record { agents = rests c lodged idle; lock = (let p = map_there c lodged idle in (p.mark, p.held, p.under)); locks = λ a l has. (let f = free_lock c lodged idle a l has in (f.mark, f.site, f.under)); letters = no_letters }

  -- what an atom of the high level is at rest
  by_thing : (m : Name) (t : Thing) (a h : Atom) → map.get v.things m ≡ Some (t ∷ []) → map.get low.atoms m ≡ Some a → Is i n from first t a → MayRest t → high_atom t ≡ Some h → Stands i n from h a
  by_thing m t a h under there is (MayRest.source {a = x} {h = k}) e = Stands.source x (subst (λ y. IsOfSource i n from x y a) (done (sym e)) is)
  by_thing m t a h under there is (MayRest.asking {a = x} {h = k}) e = no_asking c lodged idle m x k under
  by_thing m t a h under there is (MayRest.settling {a = x} {h = k} {s = s}) e = no_settling c lodged idle m x k s under
  by_thing m t a h under there is (MayRest.beginning {a = x} {h = k} {p = p} {s = s}) e = no_beginning c lodged idle m x k p s under
  by_thing m t a h under there is (MayRest.opened {p = p}) e = Stands.opened p is.tag (done e) is.is
  by_thing m t a h under there is (MayRest.passes {p = p} {l = l}) e = no_letter m p l a under there is
  by_thing m t a h under there is (MayRest.hoping {a = x} {h = k} {l = l}) e = no_hoping c lodged idle is.0 m x k l a under there is
  by_thing m t a h under there is _ e = absurd cc

  -- the atom of the low level for one of the high level
  record Below (h : Atom) : Type 0 where
    mark : Name
    atom : Atom
    there : map.get low.atoms mark ≡ Some atom
    stands : Stands i n from h atom

  below : (k : Name) (h : Atom) → map.get high.atoms k ≡ Some h → Below h
  below k h there =
      let d = c.mirrored.down k h there in
      then (map.get v.things d.0) first_atom_of d.2 λ ts held shows.
      let o = one_thing c lodged idle d.0 ts held in
      let under : map.get v.things d.0 ≡ Some (o.thing ∷ []) = held ∙ ap Some o.alone in
      record {
        mark = d.0;
        atom = o.atom;
        there = o.there;
        stands = by_thing d.0 o.thing o.atom h under o.there o.is (may_rest c lodged idle d.0 o.atom o.there o.thing under o.is) (ap first_atom_of (sym o.alone) ∙ shows);
      }

  -- what gives at the high level gives at the low one
  gives_below : (m : Name) (h a : Atom) (chan : Name) → map.get low.atoms m ≡ Some a → Stands i n from h a → Giving h chan → Giving a chan
  gives_below m h a chan there (Stands.opened p tag hi is) g =
      let given : Giving (as_output p) chan = subst (λ b. Giving b chan) hi g in
      subst (λ b. Giving b chan) (sym is) (record { from = given.from; form = given.form; on = given.on })
  gives_below m h a chan there (Stands.source x its) g = go (goes i n from x h.proc a.proc its.translates)
    where
      go : Goes i n (layer h.proc) (layer a.proc) → Giving a chan
      go (Goes.gives {c = y} {e = e} hi lo) =
          let src = its.stands.source in
          let parts = subst (ProcParts n src.scope src.node src.after src.bound) hi (proc-parts n src.sound) in
          let same : g.from ≡ y = done (sym (ap given_on hi) ∙ g.form) in
          record { from = y; form = ap given_on lo; on = same_chan x h a its y parts.1 ∙ ap (λ z. chan_of z h.env) (sym same) ∙ g.on }
      go (Goes.takes hi lo) = absurd (let bad : Some g.from ≡ None = sym g.form ∙ ap given_on hi in cc)
      go (Goes.serves hi lo) = absurd (let bad : Some g.from ≡ None = sym g.form ∙ ap given_on hi in cc)
      go (Goes.asks none other lo) = absurd (let bad : Some g.from ≡ None = sym g.form ∙ none in cc)
      go (Goes.calls cached none other lo) = absurd (let bad : Some g.from ≡ None = sym g.form ∙ none in cc)
      go (Goes.acts free) = no_work c lodged idle m a there free

  -- what takes at the high level takes at the low one
  takes_below : (m : Name) (h a : Atom) (chan : Name) → map.get low.atoms m ≡ Some a → Stands i n from h a → Taking h chan → Taking a chan
  takes_below m h a chan there (Stands.opened p tag hi is) g =
      absurd (let bad : Some g.to ≡ None = sym g.form ∙ ap (λ (b : Atom). taken_on (layer b.proc)) hi ∙ ap taken_on (forms.outs-Out _ _) in cc)
  takes_below m h a chan there (Stands.source x its) g = go (goes i n from x h.proc a.proc its.translates)
    where
      go : Goes i n (layer h.proc) (layer a.proc) → Taking a chan
      go (Goes.gives hi lo) = absurd (let bad : Some g.to ≡ None = sym g.form ∙ ap taken_on hi in cc)
      go (Goes.takes {c = y} {x = w} hi lo) =
          let src = its.stands.source in
          let parts = subst (ProcParts n src.scope src.node src.after src.bound) hi (proc-parts n src.sound) in
          let same : g.to ≡ (y, w) = done (sym (ap taken_on hi) ∙ g.form) in
          record { to = (y, w); form = ap taken_on lo; on = same_chan x h a its y parts.0 ∙ ap (λ (z : Expr × Pat). chan_of z.0 h.env) (sym same) ∙ g.on }
      go (Goes.serves {c = y} {x = w} hi lo) =
          let src = its.stands.source in
          let parts = subst (ProcParts n src.scope src.node src.after src.bound) hi (proc-parts n src.sound) in
          let same : g.to ≡ (y, w) = done (sym (ap taken_on hi) ∙ g.form) in
          record { to = (y, w); form = ap taken_on lo; on = same_chan x h a its y parts.0 ∙ ap (λ (z : Expr × Pat). chan_of z.0 h.env) (sym same) ∙ g.on }
      go (Goes.asks none other lo) = absurd (let bad : Some g.to ≡ None = sym g.form ∙ other in cc)
      go (Goes.calls cached none other lo) = absurd (let bad : Some g.to ≡ None = sym g.form ∙ other in cc)
      go (Goes.acts free) = no_work c lodged idle m a there free

  no_work_above : (s : ℕ) (agent : Name) → map.get high.places agent ≡ Some (place.At s) → HasWork high agent → ⊥
  no_work_above s agent placed h = go (below h.mark h.atom h.there)
    where
      by_source : (m : Name) (x : Expr) (a : Atom) → map.get low.atoms m ≡ Some a → IsOfSource i n from x h.atom a → Goes i n (layer h.atom.proc) (layer a.proc) → ⊥
      by_source m x a there its (Goes.gives hi lo) = let bad : true ≡ false = sym (ap waits hi) ∙ h.acts in cc
      by_source m x a there its (Goes.takes hi lo) = let bad : true ≡ false = sym (ap waits hi) ∙ h.acts in cc
      by_source m x a there its (Goes.serves hi lo) = let bad : true ≡ false = sym (ap waits hi) ∙ h.acts in cc
      by_source m x a there its (Goes.asks none other lo) = no_move m a s _ _ there (ap (map.get high.places) (its.stands.agent ∙ h.of) ∙ placed) lo
      by_source m x a there its (Goes.calls cached none other lo) = no_call c lodged idle cached m a (place.At s) _ _ there (ap (map.get high.places) (its.stands.agent ∙ h.of) ∙ placed) lo
      by_source m x a there its (Goes.acts free) = no_work c lodged idle m a there free

      by_stand : (m : Name) (a : Atom) → map.get low.atoms m ≡ Some a → Stands i n from h.atom a → ⊥
      by_stand m a there (Stands.source x its) = by_source m x a there its (goes i n from x h.atom.proc a.proc its.translates)
      by_stand m a there (Stands.opened p tag hi is) = let bad : true ≡ false = sym (ap (λ (b : Atom). waits (layer b.proc)) hi ∙ ap waits (forms.outs-Out _ _)) ∙ h.acts in cc

      go : Below h.atom → ⊥
      go b = by_stand b.mark b.atom b.there b.stands

  no_meeting_above : (agent : Name) → HasMeeting high agent → ⊥
  no_meeting_above agent h =
      let o = below h.output h.giver h.gives in
      let k = below h.input h.taker h.takes in
      let given : Giving h.giver h.chan = record { from = h.from; form = h.output_form; on = h.given } in
      let taken : Taking h.taker h.chan = record { to = h.to; form = h.input_form; on = h.taken } in
      no_meeting c lodged idle o.mark k.mark o.atom k.atom h.chan o.there k.there (its_agent h.giver o.atom o.stands ∙ h.giver_of ∙ sym (its_agent h.taker k.atom k.stands ∙ h.taker_of))
      (gives_below o.mark h.giver o.atom h.chan o.there o.stands given) (takes_below k.mark h.taker k.atom h.chan k.there k.stands taken)

  none_can : (s : ℕ) → Can high s → ⊥
  none_can s (inl h) = no_packet_above h.mark h.packet h.flies
  none_can s (inr (inl h)) = no_arrival_above h.agent s h.comes
  none_can s (inr (inr h)) = elim h.works [ inl w ↦ no_work_above s h.agent h.stands w | inr m ↦ no_meeting_above h.agent m ]

  -- ---- with caches

  served : i ≡ Infrastructure.cached → (m : Name) (ts : List Thing) → map.get v.things m ≡ Some ts → All (WaitsForNone high) ts
  served cached m ts h =
      let o = one_thing c lodged idle m ts h in
      let under : map.get v.things m ≡ Some (o.thing ∷ []) = h ∙ ap Some o.alone in
      subst (All (WaitsForNone high)) (sym o.alone)
      (All-from_recursion (WaitsForNone high) (o.thing ∷ []) (waits_for_none c lodged idle cached m o.thing o.atom under o.there o.is (may_rest c lodged idle m o.atom o.there o.thing under o.is), tt))

  cache_rest : i ≡ Infrastructure.cached → HasCacheRest low high v
  cache_rest cached = record { caches = free_cache c lodged idle cached; served = served cached; messengers = λ m b ts there of. no_letters m ts }

pub rests-together : RestsTogether
rests-together i n from first low high v c lodged idle = (none_can c lodged idle, has_rest c lodged idle, cache_rest c lodged idle, free-locks c lodged idle)
