-- A post is an event of the high level, and what it knows.
use Rattle.std.proofs.Common.{◌≡◌, ℕ, Bool, true, is_some, nat_eq, None, Some, List, [], ◌∷◌, refl, sym, ap, subst, ◌∙◌}
use Rattle.std.proofs.lemmas.List.Elements.{recursion_from_All}
use Rattle.std.specs.FinMap as map
use Rattle.np_syntax.specs.declared.value.Name.{Name}
use Rattle.np_syntax.specs.declared.value.Value.{Value, out-Value}
use Rattle.np_syntax.specs.declared.value.Value as value
use Rattle.np_syntax.specs.declared.value.Value.TheVariants as outs
use Rattle.np_syntax.specs.declared.expression.Expr.{Expr}
use Rattle.np_syntax.specs.declared.process.Tag.{Tag}
use Rattle.np_syntax.specs.declared.process.Proc.{Proc}
use Rattle.np_syntax.specs.declared.process.Role.TheVariants as role
use Rattle.np_syntax.specs.declared.process.ProcForm.{ProcForm-F}
use Rattle.np_syntax.specs.declared.process.ProcForm as form
use Rattle.np_syntax.specs.declared.process.ProcForm.TheVariants as forms
use Rattle.np_syntax.specs.declared.event.Event.{Event}
use Rattle.np_syntax.specs.Options.{◌>>=◌}
use Rattle.np_syntax.proofs.Bools.{and-out}
use Rattle.np_syntax.proofs.Options.{then, done}
use Rattle.np_calculus.specs.declared.config.Atom.{Atom}
use Rattle.np_calculus.specs.Config.{Config}
use Rattle.np_calculus.specs.Parts.{IsLodged}
use Rattle.np_calculus.specs.Sight.{inside}
use Rattle.np_calculus.specs.Reductions.{apply}
use Rattle.np_calculus.specs.Starts.{main_agent}
use Rattle.np_calculus.specs.Well.{Well}
use Rattle.np_eval.specs.Eval.{Env, agent_of, as_agent, as_chan, chan_of, eval}
use Rattle.np_eval.specs.Forms.{layer}
use Rattle.np_scope.specs.Sound.{IsSoundExpr}
use Rattle.np_scope.proofs.SoundParts.{ProcParts, proc-parts}
use Rattle.infrastructure_texts.specs.Infrastructures.{Infrastructure}
use Rattle.daemon_encode.specs.Translates.{source}
use Rattle.simulate_laws.specs.things.Known.{IsKnown, Knows}
use Rattle.simulate_laws.specs.things.Sources.{Agrees, Names}
use Rattle.simulate_laws.proofs.things.Known.{value-is-known}
use Rattle.simulate_laws.proofs.things.Values.{same-value}
use Rattle.simulate_laws.specs.things.Shapes.{StandsFor}
use Rattle.simulate_laws.specs.things.Things.{Thing, high_atom, high_packet}
use Rattle.simulate_laws.proofs.things.Acting.{source-plain}
use Rattle.np_calculus.specs.Changes.{effect, put, still}
use Rattle.np_calculus.specs.Reductions.{role_index}
use Rattle.np_calculus.specs.Well.{Has, Ready}
use Rattle.np_calculus.proofs.Steps.{Acts, step-acting}
unfoldable use Rattle.np_calculus.proofs.Common.{act}
use Rattle.np_syntax.proofs.Bools.{and-in}
use Rattle.np_lift.specs.CachedLift.{stands_for}
use Rattle.simulate_laws.specs.protocol.Chips.{Chip}
use Rattle.simulate_laws.specs.protocol.Scenes.{Locks}
use Rattle.simulate_laws.specs.things.Mail.{Posted, as_output}
use Rattle.simulate_laws.specs.things.Things.{first_atom_of}
use Rattle.simulate_laws.proofs.things.Starts.{constant-is}
use Rattle.simulate_laws.specs.levels.Coupled.{Coupled, KnowsOnly, View, chips, is_channel, may_know}
use Rattle.simulate_laws.specs.levels.Laws.{post_of}
use Rattle.simulate_laws.proofs.levels.Places.{same_place}
use Rattle.simulate_laws.proofs.levels.Actors.{agent_known}
use Rattle.simulate_laws.proofs.levels.Outputs.{chan-known}
use Rattle.simulate_laws.proofs.levels.Stands.{IsSilent}
use Rattle.simulate_laws.proofs.levels.Values.{variable-is}

-- an agent of the source knows itself
pub knows_itself : (agents chans : Name → Bool) (n from : ℕ) (bound : List ℕ) (named : Expr) (a : Name) (env : Env) → agents (main_agent n) ≡ true → Names n from bound named
    → Knows agents chans from env → eval named env ≡ Some (value.Agent a) → agents a ≡ true
knows_itself agents chans n from bound named a env main Names.as_main k called = agent_known agents chans (value.Agent a)
    (subst (IsKnown agents chans) (sym (done (sym (constant-is (value.Agent (main_agent n)) env) ∙ called))) (IsKnown.agent main)) a (ap as_agent (outs.outs-Agent a))
knows_itself agents chans n from bound named a env main (Names.as_binder {y = y} below apart) k called =
    agent_known agents chans (value.Agent a) (k.each y (value.Agent a) below (sym (variable-is y env) ∙ called)) a (ap as_agent (outs.outs-Agent a))

-- a thing that sends a post is an atom of the high level, shows no chips and carries no letter yet
pub record IsPosted (t : Thing) (hi : Atom) : Type 0 where
  pub silent : IsSilent t
  pub atom : high_atom t ≡ Some hi
  pub packet : high_packet t ≡ None
  pub knows : (lock : Locks) (cs : List Chip) (chans : Name → Bool) (from : ℕ) → KnowsOnly (may_know lock cs t) chans from t → Knows (λ b. is_some (lock b)) chans from hi.env

-- the post at the high level, and its letter: the low level gives its parts the same values
pub record PostAbove {j : Infrastructure} {n from first : ℕ} {low high : Config} {v : View} (c : Coupled j n from first low high v) (e : Event) (hi : Atom) (b ch va : Expr) : Type 0 where
  pub letter : Posted
  pub there : map.get high.atoms (stands_for v.standing e.actor) ≡ Some hi
  pub applies : apply high (post_of v e) ≡ Some (effect high (post_of v e) (record still { atoms = put (stands_for v.standing e.actor) (as_output letter) ∷ [] }))
  pub its_agent : is_some (v.lock letter.agent) ≡ true
  pub its_chan : is_channel n high.born letter.chan ≡ true
  pub its_value : IsKnown (λ a. is_some (v.lock a)) (is_channel n high.born) letter.value
  pub values : (env : Env) → Agrees from env hi.env → (agent_of b env ≡ Some letter.agent) × (chan_of ch env ≡ Some letter.chan) × (eval va env ≡ Some letter.value)
  pub sender : is_some (v.lock hi.agent) ≡ true

module _ {j : Infrastructure} {n from first : ℕ} {low high : Config} {v : View} (c : Coupled j n from first low high v) (well : Well high) (lodged : IsLodged (inside high)) (e : Event)
    (lo : Atom) (acting : Acts low e lo) (t : Thing) (x : Expr) (hi : Atom) (there : map.get v.things e.actor ≡ Some (t ∷ [])) (posted : IsPosted t hi) (stands : StandsFor n from x hi lo)
    (tag : Tag) (at : ℕ) (b ch va : Expr) (source_is : hi.proc ≡ source tag at (form.Post b ch va)) (its_node : lo.proc.tag.node ≡ tag.node) where
  high_there : map.get high.atoms (stands_for v.standing e.actor) ≡ Some hi
  high_there = c.mirrored.up e.actor hi (ap (λ o. o >>= first_atom_of) there ∙ posted.atom)

  form_is : layer hi.proc ≡ ProcForm-F.Post b ch va
  form_is = ap layer source_is ∙ forms.outs-Post b ch va

  abbrev ready : Has (agent_of b hi.env) × Has (chan_of ch hi.env) × Has (eval va hi.env)
  ready = subst (Ready high hi.env) form_is (well.ready (stands_for v.standing e.actor) hi high_there)

  abbrev plain : Tag
  plain = record { node = e.tag.node; role = role.Plain }

  abbrev p : Posted
  p = record { agent = ready.0.0; chan = ready.1.0; value = ready.2.0; tag = plain }

  acts : Acts high (post_of v e) hi
  acts = record {
    there = high_there;
    stands = sym (same_place c hi.agent (lodged.each (stands_for v.standing e.actor) hi high_there)) ∙ ap (map.get low.places) (sym stands.agent) ∙ acting.stands;
    tag = and-in (ap (λ (t : Tag). nat_eq t.node e.tag.node) (ap (λ (q : Proc). q.tag) source_is) ∙ ap (λ k. nat_eq k e.tag.node) (sym its_node) ∙ (and-out _ _ acting.tag).0)
        (ap (λ r. nat_eq (role_index r) 0) (source-plain stands.source.sound));
  }

  abbrev then_high : Config
  then_high = effect high (post_of v e) (record still { atoms = put (stands_for v.standing e.actor) (as_output p) ∷ [] })

  applies : apply high (post_of v e) ≡ Some then_high
  unfolding act
  applies = rw (step-acting high (post_of v e) hi acts, form_is, ready.0.1, ready.1.1, ready.2.1) refl

  -- ---- what the post knows

  agents : Name → Bool
  agents a = is_some (v.lock a)

  known_parts : (agents ready.0.0 ≡ true) × (is_channel n high.born ready.1.0 ≡ true) × IsKnown agents (is_channel n high.born) ready.2.0
  unfolding agents
  known_parts =
      let src = stands.source in
      let parts = subst (ProcParts n src.scope src.node src.after src.bound) form_is (proc-parts n src.sound) in
      let knows = posted.knows v.lock (chips v.things) (is_channel n high.born) from
      (recursion_from_All (λ t. KnowsOnly (may_know v.lock (chips v.things) t) (is_channel n high.born) from t) (t ∷ []) (c.known e.actor (t ∷ []) there)).0 in
      let good = λ (y : Expr) (u : Value) (is : IsSoundExpr n src.scope y) (k : eval y hi.env ≡ Some u). value-is-known agents (is_channel n high.born) n from src.scope y hi.env u c.main is src.in_scope knows k in
      then (eval b hi.env) _ ready.0.1 λ vb at_b is_b. then (eval ch hi.env) _ ready.1.1 λ vc at_c is_c.
      (agent_known agents (is_channel n high.born) vb (good b vb parts.1 at_b) ready.0.0 is_b, chan-known agents (is_channel n high.born) vc (good ch vc parts.2 at_c) ready.1.0 is_c, good va ready.2.0 parts.3 ready.2.1)

  low_same : (y : Expr) (env : Env) → Agrees from env hi.env → IsSoundExpr n stands.source.scope y → eval y env ≡ eval y hi.env
  low_same y env agrees is = same-value n from stands.source.scope y env hi.env is stands.source.in_scope agrees

  knows_all : Knows agents (is_channel n high.born) from hi.env
  unfolding agents
  knows_all = posted.knows v.lock (chips v.things) (is_channel n high.born) from
      (recursion_from_All (λ t. KnowsOnly (may_know v.lock (chips v.things) t) (is_channel n high.born) from t) (t ∷ []) (c.known e.actor (t ∷ []) there)).0

  pub post_above : PostAbove c e hi b ch va
  unfolding agents
  post_above =
      let src = stands.source in
      let parts = subst (ProcParts n src.scope src.node src.after src.bound) form_is (proc-parts n src.sound) in
      record {
        letter = p;
        there = high_there;
        applies = applies;
        its_agent = known_parts.0;
        its_chan = known_parts.1;
        its_value = known_parts.2;
        values = λ env agrees. (
          ap (λ o. o >>= λ u. as_agent (out-Value u)) (low_same b env agrees parts.1) ∙ ready.0.1,
          ap (λ o. o >>= λ u. as_chan (out-Value u)) (low_same ch env agrees parts.2) ∙ ready.1.1,
          low_same va env agrees parts.3 ∙ ready.2.1,
        );
        sender = knows_itself agents (is_channel n high.born) n from src.bound x hi.agent hi.env c.main src.named knows_all stands.called;
      }
