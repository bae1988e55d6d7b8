-- An atom that acts for the source is the translation of an atom of the high level, which acts there.
use Rattle.std.proofs.Common.{◌≡◌, ℕ, Bool, true, false, is_some, None, Some, [], ◌∷◌, refl, sym, ap, subst, ◌∙◌}
use Rattle.std.proofs.lemmas.List.Elements.{recursion_from_All}
use Rattle.std.specs.FinMap as map
use Rattle.np_syntax.specs.declared.value.Name.{Name}
use Rattle.np_syntax.specs.declared.value.Value.{Value, out-Value}
use Rattle.np_syntax.specs.declared.value.Value.TheVariants as outs
use Rattle.np_syntax.specs.declared.expression.Expr.{Expr}
use Rattle.np_syntax.specs.declared.process.Tag.{Tag}
use Rattle.np_syntax.specs.declared.process.Role.TheVariants as role
use Rattle.np_syntax.specs.declared.event.Event.{Event}
use Rattle.np_syntax.specs.declared.event.Kind.{Kind}
use Rattle.np_syntax.specs.declared.event.Kind.TheVariants as kind
use Rattle.np_syntax.specs.Options.{◌>>=◌}
use Rattle.np_syntax.proofs.Options.{then, done}
use Rattle.np_tables.specs.Names.{same_name}
use Rattle.np_calculus.specs.declared.config.Atom.{Atom}
use Rattle.np_calculus.specs.Begins.{begun_by}
use Rattle.np_calculus.specs.Config.{Config}
use Rattle.np_calculus.specs.Parts.{IsLodged}
use Rattle.np_calculus.specs.Sight.{inside}
use Rattle.np_calculus.specs.Reductions.{same_tag}
use Rattle.np_calculus.proofs.Steps.{Acts}
use Rattle.np_calculus.specs.Starts.{daemon_agent}
use Rattle.np_lift.specs.CachedLift.{stands_for}
use Rattle.np_eval.specs.Eval.{agent_of, as_agent, chan_of, eval}
use Rattle.np_eval.specs.Forms.{Layer, layer}
use Rattle.np_scope.specs.Sound.{IsSoundExpr}
use Rattle.np_scope.specs.Written.{IsLiteral}
use Rattle.np_scope.proofs.SoundParts.{ProcParts, proc-parts}
use Rattle.infrastructure_texts.specs.Infrastructures.{Infrastructure}
use Rattle.simulate_laws.specs.things.Known.{IsKnown, Knows}
use Rattle.simulate_laws.proofs.things.Known.{value-is-known}
use Rattle.simulate_laws.proofs.things.Values.{same-value}
use Rattle.simulate_laws.specs.things.Acting.{begins}
use Rattle.simulate_laws.specs.things.Shapes.{Is, IsOfSource}
use Rattle.simulate_laws.specs.things.Things.{Stage, Thing, first_atom_of}
use Rattle.simulate_laws.proofs.things.Acting.{source-plain}
use Rattle.simulate_laws.specs.levels.Coupled.{Coupled, KnowsOnly, View, chips, is_channel, may_know}
use Rattle.simulate_laws.specs.levels.Laws.{event_of}
use Rattle.simulate_laws.proofs.levels.Places.{known_there, not_daemon, same_place}
use Rattle.simulate_laws.proofs.levels.Forms.{IsFormOf, source_form}
use Rattle.simulate_laws.proofs.levels.Outputs.{chan-known}
use Rattle.simulate_laws.proofs.levels.Shapes.{of_actor, same_role}

-- what begins an event of the role Plain, but for an Agent and a Depart, is the translation of an atom
plain_source : {R : Type 0} (i : Infrastructure) (n from first : ℕ) (t : Thing) (k : Kind) (a : Atom) → Is i n from first t a → begins t role.Plain k ≡ true → (k ≡ kind.Agent → ⊥)
    → (k ≡ kind.Depart → ⊥)
    → ((x : Expr) (h : Atom) → t ≡ Thing.source x h → IsOfSource i n from x h a → R) → R
plain_source _ n from first (Thing.source x h) k a i b no_agent no_depart r = r x h refl i
plain_source _ n from first (Thing.leaving x h) kind.Depart a i b no_agent no_depart r = absurd (no_depart refl)
plain_source _ n from first (Thing.making x h s) kind.Agent a i b no_agent no_depart r = absurd (no_agent refl)
plain_source _ n from first (Thing.mail m (Stage.in_agent x)) k a i b no_agent no_depart r = absurd cc
plain_source _ n from first _ k a i b no_agent no_depart r = absurd cc

-- an agent that is known
pub agent_known : (agents chans : Name → Bool) (v : Value) → IsKnown agents chans v → (a : Name) → as_agent (out-Value v) ≡ Some a → agents a ≡ true
agent_known agents chans v (IsKnown.agent {a = b} k) a h = subst (λ x. agents x ≡ true) (sym (done (sym (ap as_agent (outs.outs-Agent b)) ∙ h))) k
agent_known agents chans v (IsKnown.literal (IsLiteral.number {n = i})) c h = absurd (let e = ap as_agent (outs.outs-Int i) in cc)
agent_known agents chans v (IsKnown.literal (IsLiteral.truth {b = b})) c h = absurd (let e = ap as_agent (outs.outs-Truth b) in cc)
agent_known agents chans v (IsKnown.literal (IsLiteral.string {text = t})) c h = absurd (let e = ap as_agent (outs.outs-Str t) in cc)
agent_known agents chans v (IsKnown.site {s = s}) c h = absurd (let e = ap as_agent (outs.outs-Site s) in cc)
agent_known agents chans v (IsKnown.channel {c = d} k) c h = absurd (let e = ap as_agent (outs.outs-Chan d) in cc)
agent_known agents chans v (IsKnown.tuple {vs = vs} k) c h = absurd (let e = ap as_agent (outs.outs-Tuple vs) in cc)

-- an agent that is in the map is not the daemon
pub known_apart : {i : Infrastructure} {n from first : ℕ} {low high : Config} {v : View} → Coupled i n from first low high v → (b : Name) → is_some (v.lock b) ≡ true
    → same_name b (daemon_agent n) ≡ false
known_apart c b h = not_daemon c b (known_there c b h)

module _ {i : Infrastructure} {n from first : ℕ} {low high : Config} {v : View} (c : Coupled i n from first low high v) (e : Event) where
  -- the agents that the source knows
  abbrev pub agents : Name → Bool
  agents b = is_some (v.lock b)

  -- the atom of the high level whose translation acts
  pub record Actor (a : Atom) : Type 0 where
    pub named : Expr
    pub atom : Atom
    pub no_packet : map.get low.packets e.actor ≡ None
    pub there : map.get v.things e.actor ≡ Some (Thing.source named atom ∷ [])
    pub is : IsOfSource i n from named atom a
    pub high_there : map.get high.atoms (stands_for v.standing e.actor) ≡ Some atom
    pub acts : Acts high (event_of v e) atom
    pub tag : atom.proc.tag ≡ a.proc.tag
    pub form : IsFormOf i n from named (layer a.proc) (layer atom.proc)
    pub knows : Knows agents (is_channel n high.born) from atom.env

  pub actor : IsLodged (inside high) → (a : Atom) (k : Kind) → Acts low e a → e.tag.role ≡ role.Plain → begun_by (layer a.proc) ≡ Some k → (k ≡ kind.Agent → ⊥) → (k ≡ kind.Depart → ⊥)
      → Actor a
  actor lodged a k acts plain begun no_agent no_depart =
      let plain_atom = same_role a.proc.tag e.tag acts.tag ∙ plain in
      let o = of_actor c e.actor a k role.Plain acts.there begun plain_atom (λ f r. absurd cc) in
      plain_source _ n from first o.thing k a o.is o.its_kind no_agent no_depart λ x h thing i.
      let there : map.get v.things e.actor ≡ Some (Thing.source x h ∷ []) = o.there ∙ ap (λ t. Some (t ∷ [])) thing in
      let high_there : map.get high.atoms (stands_for v.standing e.actor) ≡ Some h = c.mirrored.up e.actor h (ap (λ o. o >>= first_atom_of) there) in
      let forms = source_form n from x h.proc a.proc i.translates (source-plain i.stands.source.sound) plain_atom in
      record {
        named = x;
        atom = h;
        no_packet = o.no_packet;
        there = there;
        is = i;
        high_there = high_there;
        acts = record {
          there = high_there;
          stands = sym (same_place c h.agent (lodged.each (stands_for v.standing e.actor) h high_there)) ∙ ap (map.get low.places) (sym i.stands.agent) ∙ acts.stands;
          tag = ap (λ (t : Tag). same_tag t e.tag) forms.0 ∙ acts.tag;
        };
        tag = forms.0;
        form = forms.1;
        knows = (recursion_from_All (λ t. KnowsOnly (may_know v.lock (chips v.things) t) (is_channel n high.born) from t) (Thing.source x h ∷ [])
            (c.known e.actor (Thing.source x h ∷ []) there)).0;
      }

  module _ {a : Atom} (o : Actor a) where
    -- its parts, by its form
    abbrev pub Parts : Layer → Type 0
    Parts l = ProcParts n o.is.stands.source.scope o.is.stands.source.node o.is.stands.source.after o.is.stands.source.bound l

    pub parts_of : (l : Layer) → layer o.atom.proc ≡ l → Parts l
    parts_of l is = subst Parts is (proc-parts n o.is.stands.source.sound)

    -- its expressions have the same values at both levels, and know what it knows
    pub same_here : (y : Expr) → IsSoundExpr n o.is.stands.source.scope y → eval y a.env ≡ eval y o.atom.env
    same_here y sound = same-value n from o.is.stands.source.scope y a.env o.atom.env sound o.is.stands.source.in_scope o.is.stands.agrees

    pub known_here : (y : Expr) (u : Value) → IsSoundExpr n o.is.stands.source.scope y → eval y o.atom.env ≡ Some u → IsKnown agents (is_channel n high.born) u
    known_here y u sound is = value-is-known agents
        (is_channel n high.born) n from o.is.stands.source.scope y o.atom.env u c.main sound o.is.stands.source.in_scope o.knows is

    pub known_agent : (y : Expr) (b : Name) → IsSoundExpr n o.is.stands.source.scope y → agent_of y o.atom.env ≡ Some b → agents b ≡ true
    known_agent y b sound is = then (eval y o.atom.env) _ is λ u at names. agent_known agents (is_channel n high.born) u (known_here y u sound at) b names

    pub known_channel : (y : Expr) (b : Name) → IsSoundExpr n o.is.stands.source.scope y → chan_of y o.atom.env ≡ Some b → is_channel n high.born b ≡ true
    known_channel y b sound is = then (eval y o.atom.env) _ is λ u at names. chan-known agents (is_channel n high.born) u (known_here y u sound at) b names
