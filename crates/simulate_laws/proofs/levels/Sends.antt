-- The infrastructure sends mail.
use Rattle.std.proofs.Common.{◌≡◌, ℕ, true, false, cond, None, Some, List, [], ◌∷◌, refl, sym, ap, ◌∙◌}
use Rattle.std.specs.List.{list_any}
use Rattle.std.proofs.lemmas.List.Elements.{All-from_recursion, recursion_from_All}
use Rattle.std.specs.FinMap as map
use Rattle.np_syntax.specs.declared.value.Name.{Name}
use Rattle.np_syntax.specs.declared.value.Value.{Value, out-Value}
use Rattle.np_syntax.specs.declared.value.Value as value
use Rattle.np_syntax.specs.declared.value.Value.TheVariants.{outs-Site}
use Rattle.np_syntax.specs.declared.expression.Expr.{Expr}
use Rattle.np_syntax.specs.declared.process.Tag.{Tag}
use Rattle.np_syntax.specs.declared.process.Role.TheVariants as role
use Rattle.np_syntax.specs.declared.process.ProcForm.{ProcForm-F}
use Rattle.np_syntax.specs.declared.event.Event.{Event}
use Rattle.np_syntax.specs.declared.event.Kind.TheVariants as kind
use Rattle.np_syntax.specs.declared.event.Made.TheVariants as made
use Rattle.np_syntax.proofs.Options.{then, when, done}
use Rattle.np_tables.specs.Names.{NameMap}
use Rattle.np_tables.proofs.Tables.{cut_here, get-cut, get-put, put_here}
use Rattle.np_calculus.specs.declared.config.Atom.{Atom}
use Rattle.np_calculus.specs.declared.config.Packet.{Packet}
use Rattle.np_calculus.specs.declared.config.Place.TheVariants as place
use Rattle.np_calculus.specs.Changes.{effect, put, cut, still}
use Rattle.np_calculus.specs.Config.{Config}
use Rattle.np_calculus.specs.Reductions.{apply, no_other, none_made, row, site_in}
use Rattle.np_calculus.specs.Seen.{acting}
use Rattle.np_calculus.specs.Sight.{inside, sight}
unfoldable use Rattle.np_calculus.proofs.Common.{act}
use Rattle.np_calculus.proofs.Rows.{parts}
use Rattle.np_calculus.proofs.Steps.{Acts, acting-step, is-none, row-step}
use Rattle.np_eval.specs.Eval.{agent_of, as_site, chan_of, eval}
use Rattle.np_eval.specs.Forms.{layer}
use Rattle.np_calculus.specs.Begins.{begun_by}
use Rattle.np_calculus.specs.Starts.{own}
use Rattle.simulate_laws.specs.protocol.Chips.{Chip}
use Rattle.simulate_laws.specs.protocol.Phases.{Phase, is_present}
use Rattle.simulate_laws.specs.protocol.Protocol.{IsTrueOf, Protocol}
use Rattle.simulate_laws.specs.protocol.Rules.{Rule}
use Rattle.simulate_laws.specs.protocol.Scenes.{Scene, Whereabouts}
use Rattle.simulate_laws.specs.protocol.Steps.{Step}
use Rattle.simulate_laws.proofs.protocol.Keeps.{keeps-protocol}
use Rattle.simulate_laws.proofs.protocol.Steps.{all_taken}
use Rattle.infrastructure_texts.specs.Infrastructures.{Infrastructure}
use Rattle.simulate_laws.specs.things.Acting.{begins}
use Rattle.simulate_laws.specs.things.Mail.{Mail, content, on_channel, packet_of, receiver as receiver_of, to_site}
use Rattle.simulate_laws.specs.things.Shapes.{Is, IsSender, Mails}
use Rattle.simulate_laws.specs.things.Things.{Stage, Thing, show_all, shows}
use Rattle.simulate_laws.specs.levels.Coupled.{Coupled, IsShaped, KnowsOnly, View, chips, is_channel, is_child_of, may_know, scene, whereabouts, IsCarrier}
use Rattle.simulate_laws.proofs.levels.Places.{same_place, some_there}
use Rattle.simulate_laws.proofs.levels.Applies.{takes_nothing}
use Rattle.simulate_laws.proofs.levels.Letters.{same-letters}
use Rattle.simulate_laws.proofs.levels.Marks.{at_mark, same_chips, step_at}
use Rattle.simulate_laws.proofs.levels.Quiet.{any_kept, quiet}
use Rattle.simulate_laws.proofs.levels.Shapes.{of_actor, same_role}
use Rattle.simulate_laws.proofs.levels.Caches.{handed_on}
use Rattle.simulate_laws.specs.levels.Letters.{SameLetters}

-- what a Send does, by the parts of its atom
pub record IsSending (low : Config) (e : Event) (next : Config) : Type 0 where
  pub atom : Atom
  pub acts : Acts low e atom
  pub receiver : Expr
  pub to : Expr
  pub chan : Expr
  pub sent : Expr
  pub form : layer atom.proc ≡ ProcForm-F.Send receiver to chan sent
  pub packet : Packet
  pub its_agent : agent_of receiver atom.env ≡ Some packet.agent
  pub its_site : site_in low.sites to atom.env ≡ Some packet.to
  pub its_chan : chan_of chan atom.env ≡ Some packet.chan
  pub its_value : eval sent atom.env ≡ Some packet.value
  pub its_tag : packet.tag ≡ e.tag
  pub made_none : e.made ≡ made.Nothing
  pub other_none : e.other ≡ None
  pub is : next ≡ effect low e (record still { atoms = cut e.actor ∷ []; packets = put e.actor packet ∷ [] })

pub sending : (low : Config) (e : Event) (next : Config) → row kind.Send low e ≡ Some next → IsSending low e next
unfolding act
sending low e next h =
    let r = row-step low e next kind.Send h in
    then (acting low e) _ r.gives λ a acts h. parts kind.Send (sight low.sites (inside low) e.site) e a h λ p form h.
    then (agent_of p.0 a.env) _ h λ b ab h. then (site_in low.sites p.1 a.env) _ h λ t at h. then (chan_of p.2 a.env) _ h λ n an h. then (eval p.3 a.env) _ h λ v av h.
    then (none_made e.made) _ h λ u none h. then (no_other e.other) _ h λ w other h.
    record {
      atom = a;
      acts = acting-step low e a acts;
      receiver = p.0;
      to = p.1;
      chan = p.2;
      sent = p.3;
      form = form;
      packet = record { to = t; agent = b; chan = n; value = v; tag = e.tag };
      its_agent = ab;
      its_site = at;
      its_chan = an;
      its_value = av;
      its_tag = refl;
      made_none = is-none e.made u none;
      other_none = takes_nothing e.other w other;
      is = r.is ∙ ap (effect low e) (done h);
    }

-- the values of the mail make its packet
pub packet_is : (n : ℕ) (m : Mail) (low : Config) (e : Event) (next : Config) (s : IsSending low e next) (r t x y : Expr) → layer s.atom.proc ≡ ProcForm-F.Send r t x y → agent_of r s.atom.env ≡ Some (receiver_of n m)
    → eval t s.atom.env ≡ Some (value.Site (to_site m)) → chan_of x s.atom.env ≡ Some (own n (on_channel m)) → eval y s.atom.env ≡ Some (content m) → s.packet ≡ packet_of n m s.packet.tag
packet_is n m low e next s r t x y form for_agent for_site on holds =
    let receivers : s.receiver ≡ r = (let same = sym s.form ∙ form in cc) in
    let tos : s.to ≡ t = (let same = sym s.form ∙ form in cc) in
    let chans : s.chan ≡ x = (let same = sym s.form ∙ form in cc) in
    let sents : s.sent ≡ y = (let same = sym s.form ∙ form in cc) in
    let agent : receiver_of n m ≡ s.packet.agent = some_is (sym for_agent ∙ ap (λ (y : Expr). agent_of y s.atom.env) (sym receivers) ∙ s.its_agent) in
    let chan : own n (on_channel m) ≡ s.packet.chan = some_is (sym on ∙ ap (λ (y : Expr). chan_of y s.atom.env) (sym chans) ∙ s.its_chan) in
    let sent : content m ≡ s.packet.value = some_is (sym holds ∙ ap (λ (y : Expr). eval y s.atom.env) (sym sents) ∙ s.its_value) in
    let to : s.packet.to ≡ to_site m =
    then (eval s.to s.atom.env) _ s.its_site λ v is rest. then (as_site (out-Value v)) _ rest λ t site last. when _ _ last λ below ends.
    let its : Some (value.Site (to_site m)) ≡ Some v = sym for_site ∙ ap (λ (y : Expr). eval y s.atom.env) (sym tos) ∙ is in
    let same : to_site m ≡ t = some_is (ap as_site (sym (outs-Site (to_site m))) ∙ ap (λ (u : Value). as_site (out-Value u)) (some_is its) ∙ site) in
    done ends ∙ sym same in
    λ j. record { to = to j; agent = sym agent j; chan = sym chan j; value = sym sent j; tag = s.packet.tag }
  where
    some_is : {A : Type 0} {a b : A} → Some a ≡ Some b → a ≡ b
    some_is e = cc

-- what is sent is mail
sends_mail : {R : Type 0} (i : Infrastructure) (n from first : ℕ) (t : Thing) (a : Atom) → Is i n from first t a → begins t role.Infra kind.Send ≡ true
    → ((m : Mail) (x : Name) → t ≡ Thing.mail m (Stage.in_agent x) → Mails n m x a → IsSender n m x → R) → R
sends_mail _ n from first (Thing.mail m (Stage.in_agent x)) a i h f = f m x refl i.0 i.1
sends_mail _ n from first _ a i h f = absurd cc

-- mail has no child
no_child : (a b : Name) (m : Mail) (x : Name) → list_any (is_child_of a b) (show_all (Thing.mail m (Stage.in_agent x) ∷ [])) ≡ false
no_child a b (Mail.register y s) x = refl
no_child a b (Mail.migrating y) x = refl
no_child a b (Mail.migrated y t) x = refl
no_child a b (Mail.message p) x = refl
no_child a b (Mail.dack y s) x = refl
no_child a b (Mail.ack y s) x = refl
no_child a b (Mail.deliver p s) x = refl
no_child a b (Mail.asks y z) x = refl
no_child a b (Mail.found y u z s) x = refl

-- on its way mail shows the same chips; but a report is sent then
mail_leaves : {w : Scene} {phase : Name → Phase} {before after : List Chip} (n : ℕ) (m : Mail) (x : Name) (s : ℕ) → IsSender n m x → Step before after (show_all (Thing.mail m (Stage.in_agent x) ∷ [])) (show_all (Thing.mail m Stage.on_the_way ∷ []))
    → ((t : ℕ) → phase x ≡ Phase.reporting t → w.place x ≡ Whereabouts.at s) → Protocol w phase before → (then : Name → Phase) × Protocol w then after
mail_leaves n (Mail.register y t) x s own step there p = same_chips step p
mail_leaves n (Mail.migrating y) x s own step there p = same_chips step p
mail_leaves {w} {phase} {before} {after} n (Mail.migrated y t) x s own step there p =
    let told = (recursion_from_All (IsTrueOf w phase) (Chip.report y t false ∷ []) (all_taken step (IsTrueOf w phase) p.true_chips)).0 in
    let at : w.place y ≡ Whereabouts.at s = ap w.place own ∙ there t (ap phase (sym own) ∙ told.0) in
    keeps-protocol w w phase before after _ _ (Rule.reports {a = y} {s = s} {t = t} at) step p
mail_leaves n (Mail.message q) x s own step there p = same_chips step p
mail_leaves n (Mail.dack y t) x s own step there p = same_chips step p
mail_leaves n (Mail.ack y t) x s own step there p = same_chips step p
mail_leaves n (Mail.deliver q t) x s own step there p = same_chips step p
mail_leaves n (Mail.asks y z) x s own step there p = same_chips step p
mail_leaves n (Mail.found y u z t) x s own step there p = same_chips step p

module _ {i : Infrastructure} {n from first : ℕ} {low high : Config} {v : View} (c : Coupled i n from first low high v) where
  -- an agent that reports is where the low level has it
  at_site_of : (x : Name) (s t : ℕ) → v.phase x ≡ Phase.reporting t → map.get low.places x ≡ Some (place.At s) → (scene v high).place x ≡ Whereabouts.at s
  at_site_of x s t r h = ap whereabouts (sym (same_place c x (some_there (map.get high.places x) (c.protocol.placed x ∙ ap is_present r))) ∙ h)

  pub sends : (e : Event) (next : Config) → e.kind ≡ kind.Send → e.tag.role ≡ role.Infra → apply low e ≡ Some next
      → (w : View) × (w.standing ≡ v.standing) × Coupled i n from first next high w × SameLetters v w
  sends e next is_send infra h =
      let s = sending low e next (ap (λ k. row k low e) (sym is_send) ∙ h) in
      let o = of_actor c e.actor s.atom kind.Send role.Infra s.acts.there (ap begun_by s.form) (same_role s.atom.proc.tag e.tag s.acts.tag ∙ infra) (λ k r. cc) in
      sends_mail _ n from first o.thing s.atom o.is o.its_kind λ m x thing mails own.
      let there : map.get v.things e.actor ≡ Some (Thing.mail m (Stage.in_agent x) ∷ []) = o.there ∙ ap (λ t. Some (t ∷ [])) thing in
      let us : List Thing = Thing.mail m Stage.on_the_way ∷ [] in
      let step = step_at shows v.things e.actor (Thing.mail m (Stage.in_agent x) ∷ []) us there in
      let protocol = mail_leaves n m x e.site own step (λ t r. at_site_of x e.site t r (ap (map.get low.places) (sym mails.agent) ∙ s.acts.stands)) c.protocol in
      let packet = packet_is n m low e next s mails.receiver mails.to mails.chan mails.sent mails.is mails.for_agent mails.for_site mails.on mails.holds in
      let known = recursion_from_All (λ t. KnowsOnly (may_know v.lock (chips v.things) t) (is_channel n high.born) from t) (Thing.mail m (Stage.in_agent x) ∷ []) (c.known e.actor (Thing.mail m (Stage.in_agent x) ∷ []) there) in
      let things : NameMap (List Thing) = map.insert v.things e.actor us in (
        record v { things = things; phase = protocol.0 },
        refl,
        quiet c next things protocol.0 (at_mark c next e e.actor (Thing.mail m (Stage.in_agent x) ∷ []) us protocol.0 (record {
          applies = h;
          sites = ap (λ (d : Config). d.sites) s.is;
          places = λ q _. ap (λ (d : Config). map.get d.places q) s.is;
          said = ap (λ (d : Config). d.said) s.is;
          born = ap (λ (d : Config). d.born) s.is;
          there = there;
          others = λ q d. (
            ap (λ (d : Config). map.get d.atoms q) s.is ∙ get-cut low.atoms e.actor q
                ∙ ap (λ t. cond t None (map.get low.atoms q)) d,
            ap (λ (d : Config). map.get d.packets q) s.is ∙ get-put low.packets e.actor s.packet q
                ∙ ap (λ t. cond t (Some s.packet) (map.get low.packets q)) d,
          );
          here = IsShaped.packet (ap (λ (d : Config). map.get d.atoms e.actor) s.is ∙ cut_here low.atoms e.actor) (ap (λ (d : Config). map.get d.packets e.actor) s.is ∙ put_here low.packets e.actor s.packet)
              (put_here v.things e.actor us) (packet, λ plain. let bad : role.Plain ≡ role.Infra = sym plain ∙ ap (λ (t : Tag). t.role) s.its_tag ∙ infra in cc);
          atoms = refl;
          packets = refl;
          protocol = protocol.1;
          children = λ a b. any_kept (is_child_of a b) step (λ any. absurd (let none = no_child a b m x in cc));
          known = All-from_recursion (λ t. KnowsOnly (may_know v.lock (chips things) t) (is_channel n high.born) from t) us (known.0, tt);
          hints = handed_on low high next;
          carriers = All-from_recursion (IsCarrier v.standing.messengers) us (tt, tt);
        })),
        same-letters v.things e.actor us (Thing.mail m (Stage.in_agent x) ∷ []) there refl,
      )
