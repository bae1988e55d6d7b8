-- An input of the source takes an output of the source, and so does a copy of a replicated one.
use Rattle.std.proofs.Common.{◌≡◌, ℕ, true, false, cond, None, Some, [], ◌∷◌, ◌++◌, refl, sym, ap, subst, ◌∙◌}
use Rattle.std.proofs.lemmas.List.Elements.{recursion_from_All}
use Rattle.std.specs.Option.{option_map}
use Rattle.std.specs.FinMap as map
use Rattle.np_syntax.specs.declared.value.Name.{Name}
use Rattle.np_syntax.specs.declared.value.Value.{Value, out-Value}
use Rattle.np_syntax.specs.declared.expression.Expr.{Expr}
use Rattle.np_syntax.specs.declared.pattern.Pat.{Pat}
use Rattle.np_syntax.specs.declared.process.Proc.{Proc}
use Rattle.np_syntax.specs.declared.process.ProcForm.{ProcForm-F}
use Rattle.np_syntax.specs.declared.event.Event.{Event}
use Rattle.np_syntax.specs.declared.event.Kind.TheVariants as kind
use Rattle.np_syntax.specs.Options.{◌>>=◌}
use Rattle.np_syntax.proofs.Options.{done}
use Rattle.np_tables.specs.Names.{same_name}
use Rattle.np_tables.proofs.Tables.{get-put, same_name-is, same_name-swap}
use Rattle.np_calculus.specs.declared.config.Atom.{Atom}
use Rattle.np_calculus.specs.Begins.{begun_by}
use Rattle.np_calculus.specs.Changes.{cut, effect, put, still, with_made}
use Rattle.np_calculus.specs.Config.{Config}
use Rattle.np_calculus.specs.Reductions.{apply, goes_under, row, sends}
use Rattle.np_calculus.specs.Starts.{daemon_agent}
use Rattle.np_calculus.proofs.OwnNames.{not_true}
use Rattle.np_calculus.proofs.Steps.{Offers}
use Rattle.np_lift.specs.CachedLift.{stands_for}
use Rattle.np_eval.specs.Eval.{Env, as_chan, bind, chan_of, eval}
use Rattle.np_eval.specs.Forms.{layer}
use Rattle.np_scope.specs.Sound.{IsSoundExpr}
use Rattle.np_scope.proofs.SoundParts.{BodyParts, ProcParts, proc-parts}
use Rattle.simulate_laws.specs.things.Known.{IsKnown, Knows}
use Rattle.simulate_laws.proofs.things.Known.{value-is-known}
use Rattle.simulate_laws.proofs.things.Values.{same-value}
use Rattle.infrastructure_texts.specs.Infrastructures.{Infrastructure}
use Rattle.daemon_encode.specs.Translates.{Translates}
use Rattle.simulate_laws.specs.things.Mail.{Posted, as_output}
use Rattle.simulate_laws.specs.things.Shapes.{Is, IsAgents, IsOfSource, IsOpened}
use Rattle.simulate_laws.specs.things.Things.{Thing, first_atom_of, first_packet_of, high_packet}
use Rattle.simulate_laws.specs.levels.Coupled.{Coupled, KnowsOnly, View, chips, is_channel, may_know, is_high}
use Rattle.simulate_laws.specs.levels.Laws.{IsEvent, event_of}
use Rattle.simulate_laws.proofs.levels.Actors.{Actor, actor, agents, known_channel, parts_of, same_here}
use Rattle.simulate_laws.proofs.levels.Applies.{comm_applies, rep_applies}
use Rattle.simulate_laws.proofs.levels.Bodies.{BoundBoth, bound_both, goes_on_under}
use Rattle.simulate_laws.proofs.levels.Forms.{IsFormOf}
use Rattle.simulate_laws.proofs.levels.Goes.{IsSame, still_knows}
use Rattle.simulate_laws.proofs.levels.Lands.{output-gives}
use Rattle.simulate_laws.proofs.levels.Meets.{IsMeeting, meeting}
use Rattle.simulate_laws.proofs.levels.Outputs.{IsOutput, by_source, given_by, is_of_source, is_output, translated-out}
use Rattle.simulate_laws.proofs.levels.Serves.{IsRepeating, repeating}
use Rattle.simulate_laws.proofs.levels.Shapes.{of_atom}
use Rattle.simulate_laws.proofs.levels.Stands.{Free, IsSilent, cut_atom, leave, put_atom, stands}
use Rattle.simulate_laws.specs.levels.Letters.{SameLetters}

-- ---- the output

module _ {i : Infrastructure} {n from first : ℕ} {low high : Config} {v : View} (c : Coupled i n from first low high v) (e : Event) where
  -- an output of the source that both levels have
  pub record Given (m agent chan : Name) (what : Value) : Type 0 where
    pub no_packet : map.get low.packets m ≡ None
    pub thing : Thing
    pub there : map.get v.things m ≡ Some (thing ∷ [])
    pub silent : IsSilent thing
    pub of_high : is_high (thing ∷ []) ≡ true
    pub no_high_packet : high_packet thing ≡ None
    pub offers : Offers high (stands_for v.standing m) agent chan what
    pub known : IsKnown (agents c e) (is_channel n high.born) what

  module _ (m : Name) (agent chan : Name) (what : Value) (s : Offers low m agent chan what) where
    -- what it gives at the high level
    offers_there : (mate : Atom) → map.get high.atoms (stands_for v.standing m) ≡ Some mate → s.mate.agent ≡ mate.agent → sends mate ≡ Some s.sent
        → Offers high (stands_for v.standing m) agent chan what
    offers_there mate waits same sends_it = record {
      mate = mate;
      waits = waits;
      together = ap (same_name agent) (sym same) ∙ s.together;
      sent = s.sent;
      sends_it = sends_it;
      agree = s.agree;
      is = s.is;
    }

    of_atom_of_source : (x : Expr) (hi : Atom) → IsOfSource i n from x hi s.mate → map.get low.packets m ≡ None
        → map.get v.things m ≡ Some (Thing.source x hi ∷ []) → Given m agent chan what
    of_atom_of_source x hi i none there =
        let o : IsOutput s.mate s.sent.0 s.sent.1 = is_output s.mate s.sent s.sends_it in
        let src = i.stands.source in
        let form : layer hi.proc ≡ ProcForm-F.Out o.on o.sent = translated-out o.on o.sent i.translates o.form in
        let its = subst (ProcParts n src.scope src.node src.after src.bound) form (proc-parts n src.sound) in
        let same = λ (y : Expr) (sound : IsSoundExpr n src.scope y). same-value n from src.scope y s.mate.env hi.env sound src.in_scope i.stands.agrees in
        let on : chan_of o.on hi.env ≡ Some s.sent.0 = ap (λ p. p >>= λ u. as_chan (out-Value u)) (sym (same o.on its.1)) ∙ o.its_chan in
        let gives : eval o.sent hi.env ≡ Some s.sent.1 = sym (same o.sent its.2) ∙ o.its_value in
        let knows = (recursion_from_All (λ t. KnowsOnly (may_know v.lock (chips v.things) t) (is_channel n high.born) from t) (Thing.source x hi ∷ [])
        (c.known m (Thing.source x hi ∷ []) there)).0 in
        record {
          no_packet = none;
          thing = Thing.source x hi;
          there = there;
          silent = (refl, refl, refl);
          of_high = refl;
          no_high_packet = refl;
          offers = offers_there hi (c.mirrored.up m hi (ap (λ o. o >>= first_atom_of) there)) i.stands.agent (rw (form, on, gives) refl);
          known = subst (IsKnown (agents c e) (is_channel n high.born)) (sym s.is)
              (value-is-known (agents c e) (is_channel n high.born) n from src.scope o.sent hi.env s.sent.1 c.main its.2 src.in_scope knows gives);
        }

    of_opened : (p : Posted) → IsOpened n p s.mate → map.get low.packets m ≡ None → map.get v.things m ≡ Some (Thing.opened p ∷ []) → Given m agent chan what
    of_opened p i none there =
        let same : s.sent ≡ (p.chan, p.value) = sym (done (sym s.sends_it ∙ ap sends i.is ∙ output-gives p.agent p.chan p.value i.tag)) in
        let knows = (recursion_from_All (λ t. KnowsOnly (may_know v.lock (chips v.things) t) (is_channel n high.born) from t) (Thing.opened p ∷ [])
        (c.known m (Thing.opened p ∷ []) there)).0 in
        record {
          no_packet = none;
          thing = Thing.opened p;
          there = there;
          silent = (refl, refl, refl);
          of_high = refl;
          no_high_packet = refl;
          offers = offers_there (as_output p) (c.mirrored.up m (as_output p) (ap (λ o. o >>= first_atom_of) there)) (ap (λ (a : Atom). a.agent) i.is)
              (output-gives p.agent p.chan p.value p.tag ∙ ap Some (sym same));
          known = subst (IsKnown (agents c e) (is_channel n high.born)) (sym (s.is ∙ ap (λ (x : Name × Value). x.1) same)) knows.1;
        }

    pub given_both : IsAgents n agent → is_channel n high.born chan ≡ true → Given m agent chan what
    given_both apart known =
        let o = of_atom c m s.mate s.waits in
        let g = given_by c m s.mate s.sent s.waits s.sends_it o.things o.there o.are in
        let there : map.get v.things m ≡ Some (g.thing ∷ []) = o.there ∙ ap Some g.alone in
        let channel : is_channel n high.born s.sent.0 ≡ true = ap (is_channel n high.born) (sym (same_name-is chan s.sent.0 s.agree)) ∙ known in
        let agents_too : IsAgents n s.mate.agent = ap (λ a. same_name a (daemon_agent n)) (sym (same_name-is agent s.mate.agent s.together)) ∙ apart in
        by_source n high.born s.mate s.sent.0 s.sent.1 g.thing channel agents_too g.gift λ of_source. go g.thing of_source g.is o.no_packet there
      where
        go : (t : Thing) → is_of_source t ≡ true → Is i n from first t s.mate → map.get low.packets m ≡ None → map.get v.things m ≡ Some (t ∷ [])
            → Given m agent chan what
        go (Thing.source x hi) of_source i none there = of_atom_of_source x hi i none there
        go (Thing.opened p) of_source i none there = of_opened p i none there
        go _ of_source i none there = absurd cc

-- ---- the input

module _ {i : Infrastructure} {n from first : ℕ} {low high : Config} {v : View} (c : Coupled i n from first low high v) (e : Event) {a : Atom} (o : Actor c e a) (on : Expr)
    (pattern : Pat) (chan other : Name) (what : Value) (env : Env)
    (its_chan : chan_of on a.env ≡ Some chan) (offers : Offers low other a.agent chan what) (binds : bind pattern what a.env ≡ Some env) where
  -- what an input takes at the high level, and binds there
  pub record Taken (p : Proc) : Type 0 where
    pub on_high : chan_of on o.atom.env ≡ Some chan
    pub given : Given c e other o.atom.agent chan what
    pub bound : BoundBoth n from o.named o.atom env p what
    pub binds_high : bind pattern what o.atom.env ≡ Some bound.env
    pub knows : Knows (agents c e) (is_channel n (with_made high.born e.made)) from bound.env

  pub taken : (p : Proc) → IsSoundExpr n o.is.stands.source.scope on
      → BodyParts n o.is.stands.source.scope o.is.stands.source.node o.is.stands.source.after o.is.stands.source.bound pattern p → Taken p
  taken p sound body =
      let on_high : chan_of on o.atom.env ≡ Some chan = ap (λ p. p >>= λ u. as_chan (out-Value u)) (sym (same_here c e o on sound)) ∙ its_chan in
      let given = given_both c e other o.atom.agent chan what (subst (λ x. Offers low other x chan what) o.is.stands.agent offers) o.is.stands.apart
      (known_channel c e o on chan sound on_high) in
      let b = bound_both o.is.stands what env body binds in
      record {
        on_high = on_high;
        given = given;
        bound = b.0;
        binds_high = b.1;
        knows =
            still_knows c e (b.0.knows (agents c e) (is_channel n high.born) o.knows given.known);
      }

-- ---- the input goes on, and the output is gone

module _ {i : Infrastructure} {n from first : ℕ} {low high : Config} {v : View} (c : Coupled i n from first low high v) (e : Event) (next : Config) (s : IsMeeting low e next)
    (o : Actor c e s.atom) (h : apply low e ≡ Some next) where
  -- an input is no output
  apart : same_name e.actor s.other ≡ false
  apart = not_true _ (λ t.
      let same : s.atom ≡ s.offers.mate = done (sym s.offers.waits ∙ sym (ap (map.get low.atoms) (same_name-is e.actor s.other t)) ∙ s.acts.there) in
      let out = is_output s.offers.mate s.offers.sent s.offers.sends_it in
      let bad : ProcForm-F.Inp s.on s.pattern s.body ≡ ProcForm-F.Out out.on out.sent = sym s.form ∙ ap (λ (a : Atom). layer a.proc) same ∙ out.form in cc)

  pub met_both : (goes_low goes_high : Atom) → Given c e s.other o.atom.agent s.chan s.what → IsOfSource i n from o.named goes_high goes_low
      → Knows (agents c e) (is_channel n (with_made high.born e.made)) from goes_high.env
      → next ≡ effect low e (record still { atoms = put e.actor goes_low ∷ cut s.other ∷ [] })
      → (w : View) × (w.standing ≡ v.standing) × Coupled i n from first next
      (effect high (event_of v e) (record still { atoms = put (stands_for v.standing e.actor) goes_high ∷ cut (stands_for v.standing s.other) ∷ [] })) w
      × SameLetters v w
  met_both goes_low goes_high g goes knows is =
      let first = put_atom c e (stands c e) e.actor (Free.old {ts = Thing.source o.named o.atom ∷ []} o.there refl refl refl refl) goes_low
      (Thing.source o.named goes_high) goes_high goes refl refl (refl, refl, refl) knows o.no_packet (ap (λ l. l >>= first_packet_of) o.there) in
      let second = cut_atom c e first s.other (Free.old {ts = g.thing ∷ []} there (ap (λ l. l ++ []) g.silent.0)
      (ap (λ l. l ++ []) g.silent.1) g.silent.2 g.of_high) g.no_packet
      (ap (λ l. l >>= first_packet_of) there ∙ g.no_high_packet) in
      leave c e second next low.said high.said h is c.said
    where
      there : map.get (map.insert v.things e.actor (Thing.source o.named goes_high ∷ [])) s.other ≡ Some (g.thing ∷ [])
      there = get-put v.things e.actor (Thing.source o.named goes_high ∷ []) s.other
          ∙ ap (λ b. cond b (Some (Thing.source o.named goes_high ∷ [])) (map.get v.things s.other)) (same_name-swap s.other e.actor ∙ apart) ∙ g.there

module _ {i : Infrastructure} {n from first : ℕ} {low high : Config} {v : View} (c : Coupled i n from first low high v) (e : Event) (next : Config) (is : e.kind ≡ kind.Comm)
    (h : apply low e ≡ Some next) (s : IsMeeting low e next) (o : Actor c e s.atom) (p : Proc) (form : layer o.atom.proc ≡ ProcForm-F.Inp s.on s.pattern p)
    (translates : Translates i n from o.named p s.body) (t : Taken c e o s.on s.pattern s.chan s.other s.what s.env s.its_chan s.offers s.binds p) where
  meets_both : IsSame c e next
  meets_both =
      let w = met_both c e next s o h (goes_under s.atom s.body s.env) (goes_under o.atom p t.bound.env) t.given
      (record { stands = goes_on_under s.body o.is.stands t.bound; translates = translates }) t.knows s.is in (
        effect high (event_of v e) (record still { atoms = put (stands_for v.standing e.actor) (goes_under o.atom p t.bound.env) ∷ cut (stands_for v.standing s.other) ∷ [] }),
        ap (λ k. row k high (event_of v e)) is
            ∙ comm_applies high (event_of v e) o.atom o.acts s.on s.pattern p s.chan (stands_for v.standing s.other) s.what t.bound.env t.on_high
            (ap (option_map (stands_for v.standing)) s.its_other) t.given.offers t.binds_high s.made_none form,
        w.0,
        w.1,
        w.2,
        w.3,
      )

pub communications-are-events : {i : Infrastructure} → IsEvent i kind.Comm
communications-are-events {i = i} n from first low high v c well lodged e next is plain h =
    let s = meeting low e next (ap (λ k. row k low e) (sym is) ∙ h) in
    let o = actor c e lodged s.atom kind.Comm s.acts plain (ap begun_by s.form) (λ e. cc) (λ e. cc) in
    let f = subst (λ l. IsFormOf i n from o.named l (layer o.atom.proc)) s.form o.form in
    let its = parts_of c e o (ProcForm-F.Inp s.on s.pattern f.0) f.1 in
    meets_both c e next is h s o f.0 f.1 f.2 (taken c e o s.on s.pattern s.chan s.other s.what s.env s.its_chan s.offers s.binds f.0 its.0 its.1)

-- ---- a copy stands in the output's place

module _ {i : Infrastructure} {n from first : ℕ} {low high : Config} {v : View} (c : Coupled i n from first low high v) (e : Event) (next : Config) (is : e.kind ≡ kind.Rep)
    (h : apply low e ≡ Some next) (s : IsRepeating low e next) (o : Actor c e s.atom) (p : Proc) (form : layer o.atom.proc ≡ ProcForm-F.Rep s.on s.pattern p)
    (translates : Translates i n from o.named p s.body) (t : Taken c e o s.on s.pattern s.chan s.other s.what s.env s.its_chan s.offers s.binds p) where
  copies_both : IsSame c e next
  copies_both =
      let r = put_atom c e (stands c e) s.other (Free.old {ts = t.given.thing ∷ []} t.given.there (ap (λ l. l ++ []) t.given.silent.0)
      (ap (λ l. l ++ []) t.given.silent.1) t.given.silent.2 t.given.of_high)
      (goes_under s.atom s.body s.env) (Thing.source o.named (goes_under o.atom p t.bound.env)) (goes_under o.atom p t.bound.env)
      (record { stands = goes_on_under s.body o.is.stands t.bound; translates = translates }) refl refl (refl, refl, refl) t.knows t.given.no_packet
      (ap (λ l. l >>= first_packet_of) t.given.there ∙ t.given.no_high_packet) in
      let w = leave c e r next low.said high.said h s.is c.said in (
        effect high (event_of v e) (record still { atoms = put (stands_for v.standing s.other) (goes_under o.atom p t.bound.env) ∷ [] }),
        ap (λ k. row k high (event_of v e)) is
            ∙ rep_applies high (event_of v e) o.atom o.acts s.on s.pattern p s.chan (stands_for v.standing s.other) s.what t.bound.env t.on_high
            (ap (option_map (stands_for v.standing)) s.its_other) t.given.offers t.binds_high s.made_none form,
        w.0,
        w.1,
        w.2,
        w.3,
      )

pub copies-are-events : {i : Infrastructure} → IsEvent i kind.Rep
copies-are-events {i = i} n from first low high v c well lodged e next is plain h =
    let s = repeating low e next (ap (λ k. row k low e) (sym is) ∙ h) in
    let o = actor c e lodged s.atom kind.Rep s.acts plain (ap begun_by s.form) (λ e. cc) (λ e. cc) in
    let f = subst (λ l. IsFormOf i n from o.named l (layer o.atom.proc)) s.form o.form in
    let its = parts_of c e o (ProcForm-F.Rep s.on s.pattern f.0) f.1 in
    copies_both c e next is h s o f.0 f.1 f.2 (taken c e o s.on s.pattern s.chan s.other s.what s.env s.its_chan s.offers s.binds f.0 its.0 its.1)
