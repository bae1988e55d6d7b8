-- An agent looks another up in its cache, to post to it or to keep where it is; and the look-ups of all infrastructures.
use Rattle.std.proofs.Common.{◌≡◌, ◌+◌, ◌≤◌, ℕ, true, is_some, Option, None, Some, List, [], ◌∷◌, refl, sym, ap, subst, ◌∙◌, arith, Bool}
use Rattle.std.proofs.lemmas.List.Elements.{All-from_recursion, All-nil, recursion_from_All}
use Rattle.std.specs.FinMap as map
use Rattle.std.specs.List.{AllByRecursion}
use Rattle.np_syntax.specs.declared.value.Name.{Name}
use Rattle.np_syntax.specs.declared.value.Value as value
use Rattle.np_syntax.specs.declared.value.Value.TheVariants as outs
use Rattle.np_syntax.specs.declared.expression.Expr.{Expr}
use Rattle.np_syntax.specs.declared.process.Proc.{Proc}
use Rattle.np_syntax.specs.declared.process.ProcForm.{ProcForm-F}
use Rattle.np_syntax.specs.declared.process.ProcForm.TheVariants as forms
use Rattle.np_syntax.specs.declared.process.Role.TheVariants as role
use Rattle.np_syntax.specs.declared.event.Event.{Event}
use Rattle.np_syntax.specs.declared.event.Kind.TheVariants as kind
use Rattle.np_calculus.specs.declared.config.Atom.{Atom}
use Rattle.np_calculus.specs.Begins.{begun_by}
use Rattle.np_calculus.specs.Config.{Config}
use Rattle.np_calculus.specs.Changes.{effect, put, still}
use Rattle.np_calculus.specs.Reductions.{apply, found_on, goes, goes_under, row}
use Rattle.np_calculus.specs.Starts.{daemon_agent, main_agent, own}
use Rattle.np_eval.specs.Eval.{Env, agent_of, as_agent, eval, find_place}
use Rattle.np_eval.specs.Forms.{layer}
use Rattle.simulate_laws.specs.protocol.Chips.{Chip}
use Rattle.simulate_laws.specs.protocol.Rules.{IsKnowledge, IsLearnt, Rule}
use Rattle.simulate_laws.proofs.protocol.Keeps.{keeps-protocol}
use Rattle.simulate_laws.specs.protocol.CacheSteps.{CacheStep}
use Rattle.np_scope.proofs.SoundParts.{ProcParts, proc-parts}
use Rattle.infrastructure_texts.specs.Pieces.{beside, daemon, gives, name, nothing, pair, site, takes, variable}
use Rattle.infrastructure_texts.specs.Texts as central
use Rattle.infrastructure_texts.specs.CacheTexts.{adds, asking, asks, goes_by_daemon, goes_by_hint, keeps, makes_messenger, replaces}
use Rattle.infrastructure_texts.specs.Infrastructures.{Infrastructure}
use Rattle.simulate_laws.specs.things.Known.{Knows}
use Rattle.simulate_laws.proofs.things.Known.{value-is-known}
use Rattle.simulate_laws.proofs.things.Values.{same-value}
use Rattle.simulate_laws.specs.things.Acting.{begins}
use Rattle.simulate_laws.specs.things.CacheShapes.{IsCalling, IsTelling}
use Rattle.simulate_laws.specs.things.Mail.{Mail}
use Rattle.simulate_laws.specs.things.Shapes.{Are, Is, IsAgents, StandsFor}
use Rattle.simulate_laws.specs.things.Things.{Stage, Thing, high_atom}
use Rattle.simulate_laws.proofs.things.Starts.{constant-is}
use Rattle.simulate_laws.specs.levels.Coupled.{Coupled, KnowsOnly, View, chips, is_channel, may_know, scene}
use Rattle.simulate_laws.specs.levels.Letters.{SameLetters}
use Rattle.simulate_laws.proofs.levels.Actors.{agent_known}
use Rattle.simulate_laws.proofs.levels.Becomes.{becomes}
use Rattle.simulate_laws.proofs.levels.Caches.{handed_on}
use Rattle.simulate_laws.proofs.levels.Lookups.{IsFinding, finding, finds_text, looked, looked_back, places_var}
use Rattle.simulate_laws.proofs.levels.Marks.{same_chips}
use Rattle.simulate_laws.proofs.levels.Shapes.{of_actor, same_role}
use Rattle.simulate_laws.proofs.levels.Values.{agent-is, channel-is, gives_own, here_is, named_is, pair-is, there_is, variable-is, stands_on, stands_under, named-agent}
use Rattle.simulate_laws.proofs.levels.Posting.{knows_itself}

module _ {i : Infrastructure} {n from first : ℕ} {low high : Config} {v : View} (c : Coupled i n from first low high v) (e : Event) (next : Config) (s : IsFinding low e next)
    (no_packet : map.get low.packets e.actor ≡ None) (h : apply low e ≡ Some next) where
  abbrev Done : Type 0
  Done = (w : View) × (w.standing ≡ v.standing) × Coupled i n from first next high w × SameLetters v w

  -- what the text of the look-up says
  sought_by : (a m : Expr) (l : ℕ) (p q : Proc) → layer s.atom.proc ≡ ProcForm-F.Lookup a m l p q → agent_of a s.atom.env ≡ Some s.sought
  sought_by a m l p q is =
      let text : ProcForm-F.Lookup s.agent s.among s.binder s.met s.unmet ≡ ProcForm-F.Lookup a m l p q = sym s.form ∙ is in
      let same : s.agent ≡ a = cc in
      ap (λ x. agent_of x s.atom.env) (sym same) ∙ s.its_agent

  is_agent : (a : Expr) → agent_of a s.atom.env ≡ Some s.sought → eval a s.atom.env ≡ Some (value.Agent s.sought)
  is_agent a names = named-agent a s.atom.env s.sought names

  -- ---- a post

  module _ (cached : i ≡ Infrastructure.cached) (x : Expr) (hi : Atom) (ps : List (Name × Name)) (stands : StandsFor n from x hi s.atom) (j : IsCalling n from x hi ps s.atom)
      (there : map.get v.things e.actor ≡ Some (Thing.calling x hi ps ∷ [])) where
    abbrev by_hint : Proc
    by_hint = goes_by_hint n j.posts.tag.node x j.posts.to j.posts.on j.posts.sent j.posts.binder

    abbrev by_daemon : Proc
    by_daemon = goes_by_daemon n j.posts.tag.node x j.posts.to j.posts.on j.posts.sent j.posts.binder

    form_is : layer s.atom.proc ≡ ProcForm-F.Lookup j.posts.to (variable j.posts.binder) (j.posts.binder + 1) by_hint by_daemon
    form_is = ap layer j.is ∙ forms.outs-Lookup _ _ _ _ _

    names_it : agent_of j.posts.to s.atom.env ≡ Some s.sought
    names_it = sought_by _ _ _ _ _ form_is

    is_found : (o : Option Name) → find_place ps s.sought ≡ o → next ≡ effect low e (record still { atoms = put e.actor (found_on s.atom (j.posts.binder + 1) by_hint by_daemon o) ∷ [] })
    is_found o found = finds_text low e next s j.posts.to (variable j.posts.binder) (j.posts.binder + 1) by_hint by_daemon s.sought ps o form_is names_it
        (places_var j.posts.binder ps s.atom.env j.holds) found

    -- the cache is put back
    puts_back : (p : Proc) (env : Env) → map.get env j.posts.binder ≡ Some (value.Places ps)
        → Is i n from first (Thing.cache hi.agent ps) (goes_under s.atom (keeps n j.posts.tag.node j.posts.binder) env)
    puts_back p env at = (
      cached,
      record { agent = stands.agent; gives = gives_own n 14 j.posts.tag.node j.posts.binder s.atom.agent env (value.Places ps) at },
      stands.apart,
    )

    -- the post knows its agents
    agents : Name → Bool
    agents a = is_some (v.lock a)

    knows : Knows agents (is_channel n high.born) from hi.env
    unfolding agents
    knows = (recursion_from_All (λ t. KnowsOnly (may_know v.lock (chips v.things) t) (is_channel n high.born) from t) (Thing.calling x hi ps ∷ [])
        (c.known e.actor (Thing.calling x hi ps ∷ []) there)).0

    main : agents (main_agent n) ≡ true
    unfolding agents
    main = c.main

    knows_sender : agents hi.agent ≡ true
    knows_sender = knows_itself agents (is_channel n high.born) n from stands.source.bound x hi.agent hi.env main stands.source.named knows stands.called

    knows_receiver : agents s.sought ≡ true
    knows_receiver =
        let src = stands.source in
        let parts = subst (ProcParts n src.scope src.node src.after src.bound) (ap layer j.posts.is ∙ forms.outs-Post j.posts.to j.posts.on j.posts.sent) (proc-parts n src.sound) in
        let same : eval j.posts.to s.atom.env ≡ eval j.posts.to hi.env = same-value n from src.scope j.posts.to s.atom.env hi.env parts.1 src.in_scope stands.agrees in
        let good = value-is-known agents (is_channel n high.born) n from src.scope j.posts.to hi.env (value.Agent s.sought) main parts.1 src.in_scope knows
        (sym same ∙ is_agent j.posts.to names_it) in
        agent_known agents (is_channel n high.born) (value.Agent s.sought) good s.sought (ap as_agent (outs.outs-Agent s.sought))

    both_known : AllByRecursion (IsLearnt (scene v high)) (Chip.knows hi.agent ∷ Chip.knows s.sought ∷ [])
    unfolding agents
    both_known = (knows_sender, (knows_receiver, tt))

    goes_on : (o : Option Name) → find_place ps s.sought ≡ o → Done
    -- there is a hint: it waits for it
    goes_on (Some l) found =
        let env : Env = map.insert s.atom.env (j.posts.binder + 1) (value.Chan l) in
        let above : from ≤ j.posts.binder = j.posts.above in
        let left : Proc = takes j.posts.tag.node (variable (j.posts.binder + 1)) (name (j.posts.binder + 2))
        (beside j.posts.tag.node (makes_messenger n j.posts.tag.node x j.posts.to j.posts.on j.posts.sent (j.posts.binder + 2) (j.posts.binder + 3))
        (gives j.posts.tag.node (variable (j.posts.binder + 1)) (variable (j.posts.binder + 2)))) in
        let right : Proc = keeps n j.posts.tag.node j.posts.binder in
        becomes c next e e.actor (goes_under s.atom by_hint env) (Thing.calling x hi ps ∷ []) (Thing.hoping x hi l ∷ Thing.cache hi.agent ps ∷ []) refl (record {
          applies = h;
          is = is_found (Some l) found;
          no_packet = no_packet;
          there = there;
          headed = All-from_recursion (λ u. high_atom u ≡ None) (Thing.cache hi.agent ps ∷ []) (refl, tt);
          are = Are.both {k = j.posts.tag.node} {p = left} {q = right} refl
              (Are.one (
                cached,
                stands_under left env (j.posts.binder + 1) (value.Chan l) refl (omega arith) stands,
                record { posts = j.posts; is = refl; waits = here_is s.atom.env (j.posts.binder + 1) (value.Chan l) },
              ))
              (Are.one (puts_back right env (there_is s.atom.env (j.posts.binder + 1) j.posts.binder (value.Chan l) (λ e. let bad : ⊥ = omega arith in bad) ∙ j.holds)));
          atoms = refl;
          packets = refl;
          protocol = λ step. same_chips step c.protocol;
          children = λ a b any. any;
          known = λ k. (k.0, (tt, tt));
          hints = λ is. CacheStep.asks (λ q. refl) s.sought found;
          carriers = λ k. (tt, (tt, tt));
        })
    -- there is none: the daemon passes it on, and is asked where the agent is
    goes_on None found =
        let k : ℕ = j.posts.tag.node in
        let one : Proc = central.post_text n k j.posts.to j.posts.on j.posts.sent in
        let two : Proc = asks n k x j.posts.to in
        let right : Proc = keeps n k j.posts.binder in
        let us : List Thing = Thing.passing x hi ∷ Thing.mail (Mail.asks hi.agent s.sought) (Stage.in_agent s.atom.agent) ∷ Thing.cache hi.agent ps ∷ [] in
        becomes c next e e.actor (goes s.atom by_daemon) (Thing.calling x hi ps ∷ []) us refl (record {
          applies = h;
          is = is_found None found;
          no_packet = no_packet;
          there = there;
          headed = All-from_recursion (λ u. high_atom u ≡ None) (Thing.mail (Mail.asks hi.agent s.sought) (Stage.in_agent s.atom.agent) ∷ Thing.cache hi.agent ps ∷ []) (refl, (refl, tt));
          are = Are.both {k = k} {p = beside k one two} {q = right} refl
              (Are.both {k = k} {p = one} {q = two} refl
              (Are.one (cached, stands_on one s.atom.env refl stands, record { posts = j.posts; is = refl }))
              (Are.one (
                record {
                  agent = refl;
                  receiver = daemon n;
                  to = site 0;
                  chan = asking n;
                  sent = pair x j.posts.to;
                  role = refl;
                  is = forms.outs-Send (daemon n) (site 0) (asking n) (pair x j.posts.to);
                  for_agent = agent-is (daemon_agent n) s.atom.env;
                  for_site = constant-is (value.Site 0) s.atom.env;
                  on = channel-is (own n 15) s.atom.env;
                  holds = pair-is x j.posts.to (value.Agent hi.agent) (value.Agent s.sought) s.atom.env (named_is stands) (is_agent j.posts.to names_it);
                },
                tt,
              )))
              (Are.one (puts_back right s.atom.env j.holds));
          atoms = refl;
          packets = refl;
          protocol = λ step. keeps-protocol (scene v high) (scene v high) v.phase (chips v.things) _ [] (Chip.knows hi.agent ∷ Chip.knows s.sought ∷ [])
              (Rule.knows (All-nil IsKnowledge) (All-from_recursion (IsLearnt (scene v high)) (Chip.knows hi.agent ∷ Chip.knows s.sought ∷ []) both_known)) step c.protocol;
          children = λ a b any. absurd cc;
          known = λ k. (k.0, (tt, (tt, tt)));
          hints = handed_on low high next;
          carriers = λ k. (tt, (tt, (tt, tt)));
        })

  calls_on : i ≡ Infrastructure.cached → (x : Expr) (hi : Atom) (ps : List (Name × Name)) → StandsFor n from x hi s.atom → IsCalling n from x hi ps s.atom
      → map.get v.things e.actor ≡ Some (Thing.calling x hi ps ∷ []) → Done
  calls_on cached x hi ps stands j there = goes_on cached x hi ps stands j there (find_place ps s.sought) refl

  -- ---- an answer of the daemon

  tells_on : i ≡ Infrastructure.cached → (a : Name) (ps : List (Name × Name)) → IsTelling n a ps s.atom → IsAgents n a
      → map.get v.things e.actor ≡ Some (Thing.telling a ps ∷ []) → Done
  tells_on cached a ps j apart there = goes_on (find_place ps s.sought) refl
    where
      met : Proc
      met = replaces n j.node (j.x + 1) (j.x + 2) (j.x + 3)

      unmet : Proc
      unmet = adds n j.node j.x (j.x + 1) (j.x + 2) (j.x + 4)

      form_is : layer s.atom.proc ≡ ProcForm-F.Lookup (variable j.x) (variable (j.x + 2)) (j.x + 3) met unmet
      form_is = ap layer j.is ∙ forms.outs-Lookup _ _ _ _ _

      names_it : agent_of (variable j.x) s.atom.env ≡ Some s.sought
      names_it = sought_by _ _ _ _ _ form_is

      is_found : (o : Option Name) → find_place ps s.sought ≡ o → next ≡ effect low e (record still { atoms = put e.actor (found_on s.atom (j.x + 3) met unmet o) ∷ [] })
      is_found o found = finds_text low e next s (variable j.x) (variable (j.x + 2)) (j.x + 3) met unmet s.sought ps o form_is names_it
          (places_var (j.x + 2) ps s.atom.env j.holds) found

      goes_on : (o : Option Name) → find_place ps s.sought ≡ o → Done
      -- there is a hint: it waits for it
      goes_on (Some l) found =
          let env : Env = map.insert s.atom.env (j.x + 3) (value.Chan l) in
          let left : Proc = takes j.node (variable (j.x + 3)) nothing (gives j.node (variable (j.x + 3)) (variable (j.x + 1))) in
          let right : Proc = keeps n j.node (j.x + 2) in
          becomes c next e e.actor (goes_under s.atom met env) (Thing.telling a ps ∷ []) (Thing.replacing a l ∷ Thing.cache a ps ∷ []) refl (record {
            applies = h;
            is = is_found (Some l) found;
            no_packet = no_packet;
            there = there;
            headed = All-from_recursion (λ u. high_atom u ≡ None) (Thing.cache a ps ∷ []) (refl, tt);
            are = Are.both {k = j.node} {p = left} {q = right} refl
                (Are.one (
                  cached,
                  record {
                    node = j.node;
                    x = j.x;
                    answer = record {
                      agent = j.answer.agent;
                      site = j.answer.site;
                      its_site = there_is s.atom.env (j.x + 3) (j.x + 1) (value.Chan l) (λ e. let bad : ⊥ = omega arith in bad) ∙ j.answer.its_site;
                    };
                    is = refl;
                    waits = here_is s.atom.env (j.x + 3) (value.Chan l);
                  },
                  apart,
                ))
                (Are.one (
                  cached,
                  record {
                    agent = j.answer.agent;
                    gives = gives_own n 14 j.node (j.x + 2) s.atom.agent env (value.Places ps) (there_is s.atom.env (j.x + 3) (j.x + 2) (value.Chan l) (λ e. let bad : ⊥ = omega arith in bad) ∙ j.holds);
                  },
                  apart,
                ));
            atoms = refl;
            packets = refl;
            protocol = λ step. same_chips step c.protocol;
            children = λ a b any. any;
            known = λ k. (tt, (tt, tt));
            hints = λ is. CacheStep.asks (λ q. refl) s.sought found;
            carriers = λ k. (tt, (tt, tt));
          })
      -- there is none: it adds one
      goes_on None found = becomes c next e e.actor (goes s.atom unmet) (Thing.telling a ps ∷ []) (Thing.adding a ps s.sought ∷ []) refl (record {
        applies = h;
        is = is_found None found;
        no_packet = no_packet;
        there = there;
        headed = All-nil (λ u. high_atom u ≡ None);
        are = Are.one (
          cached,
          record {
            node = j.node;
            x = j.x;
            answer = record { agent = j.answer.agent; site = j.answer.site; its_site = j.answer.its_site };
            is = refl;
            holds = j.holds;
            other = sym (variable-is j.x s.atom.env) ∙ is_agent (variable j.x) names_it;
          },
          apart,
        );
        atoms = refl;
        packets = refl;
        protocol = λ step. same_chips step c.protocol;
        children = λ a b any. any;
        known = λ k. (tt, tt);
        hints = handed_on low high next;
        carriers = λ k. (tt, tt);
      })

  -- ---- all of them

  by_thing : (t : Thing) → Is i n from first t s.atom → begins t role.Infra kind.Lookup ≡ true → map.get v.things e.actor ≡ Some (t ∷ []) → Done
  by_thing (Thing.looking m ps) j b there = looked c e next s m ps j no_packet there h
  by_thing (Thing.looking_back a y l ps) j b there = looked_back c e next s a y l ps j no_packet there h
  by_thing (Thing.calling x hi ps) j b there = calls_on j.0 x hi ps j.1 j.2 there
  by_thing (Thing.telling a ps) j b there = tells_on j.0 a ps j.1 j.2 there
  by_thing (Thing.mail m (Stage.in_agent x)) j b there = absurd cc
  by_thing _ j b there = absurd cc

pub looks_up : {i : Infrastructure} {n from first : ℕ} {low high : Config} {v : View} → Coupled i n from first low high v → (e : Event) (next : Config) → e.kind ≡ kind.Lookup
    → e.tag.role ≡ role.Infra → apply low e ≡ Some next → (w : View) × (w.standing ≡ v.standing) × Coupled i n from first next high w × SameLetters v w
looks_up {low = low} c e next is_lookup infra h =
    let s = finding low e next (ap (λ k. row k low e) (sym is_lookup) ∙ h) in
    let o = of_actor c e.actor s.atom kind.Lookup role.Infra s.acts.there (ap begun_by s.form) (same_role s.atom.proc.tag e.tag s.acts.tag ∙ infra) (λ k r. cc) in
    by_thing c e next s o.no_packet h o.thing o.is o.its_kind o.there
