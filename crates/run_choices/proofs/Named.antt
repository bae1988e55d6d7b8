-- Each choice is an event that is enabled, and each event that is enabled is one of the choices.
use Rattle.std.proofs.Common.{◌≡◌, ℕ, Bool, true, false, cond, is_some, nat_eq, Option, None, Some, refl, sym, ap, subst, ◌∙◌, arith}
use Rattle.std.proofs.lemmas.Bool.{eqb-true}
use Rattle.std.specs.Option.{option_map}
use Rattle.std.specs.FinMap as map
use Rattle.np_syntax.proofs.Bools.{and-out}
use Rattle.np_syntax.proofs.Options.{there-is}
use Rattle.np_syntax.specs.declared.event.Kind.TheVariants as kind
use Rattle.np_syntax.specs.declared.event.Made.TheVariants as made
use Rattle.np_syntax.specs.declared.process.Role.{Role}
use Rattle.np_syntax.specs.declared.process.Role.TheVariants as role
use Rattle.np_syntax.specs.declared.process.Tag.{Tag}
use Rattle.np_tables.specs.declared.errand.Errand.TheVariants as errand
use Rattle.np_tables.specs.declared.errand.Ready.{Ready as Going}
use Rattle.np_tables.specs.declared.errand.Ready.TheVariants as ready
use Rattle.np_tables.specs.Errands.{IsReady}
use Rattle.np_tables.specs.Mapped.{mapped}
use Rattle.np_tables.proofs.Mapped.{get-mapped}
use Rattle.np_eval.specs.Errands.{errand_at}
use Rattle.np_eval.specs.Forms.{as_out, given_on, taken_on}
use Rattle.np_eval.proofs.FormsByParts.{out-form}
use Rattle.np_calculus.proofs.Common.{Name, Value, Expr, Pat, Proc, Event, Kind, Made, ◌>>=◌, ◌>>◌, then, when, done, same_name-is, chan_of, agent_of, truth_of, letter_of}
use Rattle.np_calculus.proofs.Common.{places_of, eval, bind, Env, layer, Config, Sight, inside, sight, Change, same_tag, way, none_made, one_made}
use Rattle.np_calculus.proofs.Common.{two_made, no_other, sends, change, here_row, away_row, act, arrive_row, land_row, acting, is_at, offered_in}
use Rattle.np_calculus.specs.declared.config.Atom.{Atom}
use Rattle.np_calculus.specs.declared.config.Packet.{Packet}
use Rattle.np_calculus.specs.declared.config.Place.{Place}
use Rattle.np_calculus.specs.declared.config.Place.TheVariants as place
use Rattle.np_configuration.specs.Placed.{travels}
use Rattle.np_calculus.specs.Begins.{AreNew, arrival, begun_by, event_at, landing, made_by, made_there}
use Rattle.np_calculus.specs.Idle.{waits}
use Rattle.np_calculus.specs.Reductions.{role_index, site_in}
use Rattle.np_calculus.proofs.Enabled.{arrival-enabled, landing-enabled}
use Rattle.np_calculus.proofs.Rows.{parts}
use Rattle.np_calculus.proofs.Steps.{acting-step, is-none, is-one, is-two, offered-step, row-step, same-offer}
use Rattle.np_configuration.specs.Errands.{errand_of}
use Rattle.np_configuration.proofs.ErrandForms.{free-acts, given-errand, taken-errand}
use Rattle.np_serial.specs.Serial.{IsEnabled, IsReached, actor_of, taken_by}
use Rattle.np_serial.proofs.SerialEvents.{actor-there, begun-enabled, begun-some}
use Rattle.run_choices.specs.declared.choice.Choice.{Choice}
use Rattle.run_choices.specs.declared.choice.Choice.TheVariants as choice
use Rattle.run_choices.specs.Choices.{IsChoice, begun, begun_at, choice_by, choice_of, event_by}
use Rattle.run_choices.specs.Runs.{EachCanGo, EachIsNamed, IsNamed}
use Rattle.run_choices.proofs.Chosen.{travels-way}

-- ---- each choice can be made

module _ (c : Config) (r : IsReached c) (first second : Name) (new : AreNew c first second) where
  abbrev Goes : Choice → Type 0
  Goes s = (e : Event) × (event_by c s first second ≡ Some e) × IsEnabled c e first second

  abbrev Begins : Going → Type 0
  Begins g = (e : Event) × (begun c (actor_of g) (taken_by g) first second ≡ Some e) × IsEnabled c e first second

  module _ (g : Going) (h : IsReady (mapped errand_of c.atoms) g) (a : Atom) (there : map.get c.atoms (actor_of g) ≡ Some a) where
    begun-there : (p : Place) → map.get c.places a.agent ≡ Some p → begun c (actor_of g) (taken_by g) first second ≡ begun_at c (actor_of g) (taken_by g) first second a p
    begun-there p at =
        ap (λ o. o >>= λ a. map.get c.places a.agent >>= λ p. begun_at c (actor_of g) (taken_by g) first second a p) there
        ∙ ap (λ o. o >>= λ p. begun_at c (actor_of g) (taken_by g) first second a p) at

    by-kind : (s : ℕ) → map.get c.places a.agent ≡ Some (place.At s) → (o : Option Kind) → begun_by (layer a.proc) ≡ o → Begins g
    by-kind s stands None is = absurd (begun-some c r g h a there s stands first second new is)
    by-kind s stands (Some k) is = (
      event_at k s (actor_of g) (taken_by g) a (made_by c s a.env (layer a.proc) first second),
      begun-there (place.At s) stands ∙ ap (λ o. o >>= λ k. Some (event_at k s (actor_of g) (taken_by g) a (made_by c s a.env (layer a.proc) first second))) is,
      begun-enabled c r g h a there s stands first second new k is,
    )

    by-place : (p : Place) → map.get c.places a.agent ≡ Some p → Begins g
    by-place (place.At s) at = by-kind s at (begun_by (layer a.proc)) refl
    by-place (place.Way s) at = (arrival a.agent s, begun-there (place.Way s) at, record { enabled = arrival-enabled c a.agent s at; made = tt })

  begun-goes : (g : Going) → IsReady (mapped errand_of c.atoms) g → Begins g
  begun-goes g h =
      let a = actor-there c g h in
      let p = there-is (map.get c.places a.0.agent) ((r.runs.lodged r.events c r.reaches).each (actor_of g) a.0 a.1) in
      by-place g h a.0 a.1 p.0 p.1

  packet-there : (o : Option Packet) → is_some o ≡ true → (p : Packet) × (o ≡ Some p)
  packet-there None h = absurd cc
  packet-there (Some p) h = (p, refl)

  goes : (s : Choice) → IsChoice c s → Goes s
  goes (choice.Arrives a) is =
      let w = travels-way (map.get c.places a) is in
      (arrival a w.0, ap (λ o. o >>= λ p. way p >>= λ s. Some (arrival a s)) w.1, record { enabled = arrival-enabled c a w.0 w.1; made = tt })
  goes (choice.Lands m) is =
      let p = packet-there (map.get c.packets m) is in
      (landing m p.0, ap (λ o. o >>= λ p. Some (landing m p)) p.1, record { enabled = landing-enabled c m p.0 p.1; made = tt })
  goes (choice.Acts m) is = begun-goes (ready.Acts m) (get-mapped errand_of c.atoms m ∙ is)
  goes (choice.Meets i o) is =
      begun-goes (ready.Meets i o)
      (record { meeting = is.meeting; takes = get-mapped errand_of c.atoms i ∙ is.takes; gives = get-mapped errand_of c.atoms o ∙ is.gives })

pub each-can-go : EachCanGo
each-can-go c s first second r is new = goes c r first second new s is

-- ---- each event that is enabled is a choice

role-is : (a b : Role) → role_index a ≡ role_index b → a ≡ b
role-is role.Plain role.Plain h = refl
role-is role.Post role.Post h = refl
role-is role.Infra role.Infra h = refl
role-is role.Plain role.Post h = absurd (omega arith)
role-is role.Plain role.Infra h = absurd (omega arith)
role-is role.Post role.Plain h = absurd (omega arith)
role-is role.Post role.Infra h = absurd (omega arith)
role-is role.Infra role.Plain h = absurd (omega arith)
role-is role.Infra role.Post h = absurd (omega arith)

tag-is : (a b : Tag) → same_tag a b ≡ true → a ≡ b
tag-is a b h =
    let both = and-out (nat_eq a.node b.node) (nat_eq (role_index a.role) (role_index b.role)) h in
    let node : a.node ≡ b.node = eqb-true a.node b.node both.0 in
    let role : a.role ≡ b.role = role-is a.role b.role (eqb-true (role_index a.role) (role_index b.role) both.1) in
    λ i. record { node = node i; role = role i }

other-none : (o : Option Name) (u : Unit {0}) → no_other o ≡ Some u → o ≡ None
other-none None u h = refl
other-none (Some n) u h = absurd cc

way-is : (p : Place) (s : ℕ) → way p ≡ Some s → p ≡ place.Way s
way-is (place.At t) s h = absurd (let e = h in cc)
way-is (place.Way t) s h = let e : t ≡ s = cc in ap place.Way e

-- an output that sends on a channel gives there
sends-gives : (b : Atom) (agent n : Name) (sent : Name × Value) → b.agent ≡ agent → sends b ≡ Some sent → sent.0 ≡ n → errand_of b ≡ errand.Gives (record { agent = agent; chan = n })
sends-gives b agent n sent of h is =
    then (as_out (layer b.proc)) _ h λ p form h. then (chan_of p.0 b.env) _ h λ m on h. then (eval p.1 b.env) _ h λ v gives h.
    let same : m ≡ n = sym (ap (λ (s : Name × Value). s.0) (done h)) ∙ is in
    ap (λ g. errand_at g b.env (layer b.proc)) of
    ∙ given-errand agent n b.env (layer b.proc) p.0 (ap given_on (out-form (layer b.proc) p form)) (on ∙ ap Some same)

module _ (c : Config) (e : Event) where
  abbrev w : Sight
  w = sight c.sites (inside c) e.site

  module _ (a : Atom) (acts : acting c e ≡ Some a) where
    begins-at : (k : Kind) → begun_by (layer a.proc) ≡ Some k → (o : Option Name) (x y : Name)
        → begun c e.actor o x y ≡ Some (event_at k e.site e.actor o a (made_by c e.site a.env (layer a.proc) x y))
    begins-at k begins o x y =
        let s = acting-step c e a acts in
        ap (λ z. z >>= λ a. map.get c.places a.agent >>= λ p. begun_at c e.actor o x y a p) s.there
        ∙ ap (λ z. z >>= λ p. begun_at c e.actor o x y a p) s.stands
        ∙ ap (λ z. z >>= λ k. Some (event_at k e.site e.actor o a (made_by c e.site a.env (layer a.proc) x y))) begins

    same-event : (k : Kind) (o : Option Name) (m : Made) → e.kind ≡ k → e.other ≡ o → m ≡ e.made → event_at k e.site e.actor o a m ≡ e
    same-event k o m is other makes =
        let tags : a.proc.tag ≡ e.tag = tag-is a.proc.tag e.tag (acting-step c e a acts).tag in
        λ i. record { site = e.site; kind = (sym is) i; actor = e.actor; other = (sym other) i; tag = tags i; made = makes i }

    alone-named : (k : Kind) → e.kind ≡ k → choice_by k e.actor None ≡ choice.Acts e.actor → begun_by (layer a.proc) ≡ Some k → waits (layer a.proc) ≡ false → e.other ≡ None
        → (x y : Name) → made_by c e.site a.env (layer a.proc) x y ≡ e.made → IsNamed c e
    alone-named k is names begins free other x y makes =
        let of : choice_of e ≡ choice.Acts e.actor = ap (λ o. choice_by e.kind e.actor o) other ∙ ap (λ k. choice_by k e.actor None) is ∙ names in
        record {
          choice = subst (IsChoice c) (sym of) (ap (option_map errand_of) (acting-step c e a acts).there ∙ ap Some (free-acts a.agent a.env (layer a.proc) free));
          first = x;
          second = y;
          gives = ap (λ s. event_by c s x y) of ∙ begins-at k begins None x y ∙ ap Some (same-event k None (made_by c e.site a.env (layer a.proc) x y) is other makes);
        }

    taking-named : (k : Kind) → e.kind ≡ k → (o n : Name) (v : Value) (t : Expr × Pat) → choice_by k e.actor (Some o) ≡ choice.Meets e.actor o → begun_by (layer a.proc) ≡ Some k → e.other ≡ Some o
        → taken_on (layer a.proc) ≡ Some t → chan_of t.0 a.env ≡ Some n → offered_in w.atom o a.agent n ≡ Some v → made_by c e.site a.env (layer a.proc) e.actor e.actor ≡ e.made → IsNamed c e
    taking-named k is o n v t names begins other form on offer makes =
        let of : choice_of e ≡ choice.Meets e.actor o = ap (λ o. choice_by e.kind e.actor o) other ∙ ap (λ k. choice_by k e.actor (Some o)) is ∙ names in
        let m = offered-step c o a.agent n v (sym (same-offer c e a o n acts) ∙ offer) in
        record {
          choice = subst (IsChoice c) (sym of) (record {
            meeting = record { agent = a.agent; chan = n };
            takes = ap (option_map errand_of) (acting-step c e a acts).there ∙ ap Some (taken-errand a.agent n a.env (layer a.proc) t form on);
            gives =
                ap (option_map errand_of) m.waits
                ∙ ap Some (sends-gives m.mate a.agent n m.sent (sym (same_name-is a.agent m.mate.agent m.together)) m.sends_it (sym (same_name-is n m.sent.0 m.agree)));
          });
          first = e.actor;
          second = e.actor;
          gives =
              ap (λ s. event_by c s e.actor e.actor) of ∙ begins-at k begins (Some o) e.actor e.actor
              ∙ ap Some (same-event k (Some o) (made_by c e.site a.env (layer a.proc) e.actor e.actor) is other makes);
        }

    -- the last steps of a row that makes no name and takes no output
    lonely : {R : Type 0} {x y : Change} → (none_made e.made >> (no_other e.other >> Some y)) ≡ Some x → (e.other ≡ None → made.Nothing ≡ e.made → Some y ≡ Some x → R) → R
    lonely h f = then (none_made e.made) _ h λ u none h. then (no_other e.other) _ h λ v other h. f (other-none e.other v other) (sym (is-none e.made u none)) h

    -- the steps of an input
    takes : {R : Type 0} (chan : Expr) (pat : Pat) (f : Name → Env → Change) {x : Change}
        → (chan_of chan a.env >>= λ n. e.other >>= λ o. offered_in w.atom o a.agent n >>= λ v. bind pat v a.env >>= λ env. none_made e.made >> Some (f o env)) ≡ Some x
        → ((n o : Name) (v : Value) (env : Env) → chan_of chan a.env ≡ Some n → e.other ≡ Some o → offered_in w.atom o a.agent n ≡ Some v → made.Nothing ≡ e.made → Some (f o env) ≡ Some x → R) → R
    takes chan pat f h r =
        then (chan_of chan a.env) _ h λ n on h. then e.other _ h λ o other h. then (offered_in w.atom o a.agent n) _ h λ v offer h.
        then (bind pat v a.env) _ h λ env binds h. then (none_made e.made) _ h λ u none h. r n o v env on other offer (sym (is-none e.made u none)) h

    abbrev Makes : Proc → Name → Name → Made
    Makes p x y = made_by c e.site a.env (layer p) x y

    -- a location test, either way
    tested : (b m : Name) (agent : Expr) (t : Bool) → agent_of agent a.env ≡ Some b → is_at c b e.site ≡ t → (met unmet : Proc) (n : Name) (v : Value) (x : Change)
        → cond t (here_row e a met b n v) (away_row e a unmet) ≡ Some x → ((y : Name) → made_there c e.site (agent_of agent a.env) y ≡ e.made → IsNamed c e) → IsNamed c e
    unfolding here_row away_row
    tested b m agent true names here met unmet n v x h f = then (one_made e.made) _ h λ k one h.
        f k (ap (λ o. made_there c e.site o k) names ∙ ap (λ t. cond t (made.One k) made.Nothing) here ∙ sym (is-one e.made k one))
    tested b m agent false names here met unmet n v x h f = then (none_made e.made) _ h λ u none h.
        f m (ap (λ o. made_there c e.site o m) names ∙ ap (λ t. cond t (made.One m) made.Nothing) here ∙ sym (is-none e.made u none))

    named-act : (k : Kind) (x : Change) → e.kind ≡ k → act k (layer a.proc) w e a ≡ Some x → IsNamed c e
    unfolding act
    named-act kind.Stop x is h = parts kind.Stop w e a h λ p form h. lonely h λ other none last.
        alone-named kind.Stop is refl (ap begun_by form) (ap waits form) other e.actor e.actor (ap (λ l. made_by c e.site a.env l e.actor e.actor) form ∙ none)
    named-act kind.Fork x is h = parts kind.Fork w e a h λ p form h. then (one_made e.made) _ h λ m made h. then (no_other e.other) _ h λ v other h.
        alone-named kind.Fork is refl (ap begun_by form) (ap waits form) (other-none e.other v other) m m (ap (λ l. made_by c e.site a.env l m m) form ∙ sym (is-one e.made m made))
    named-act kind.New x is h = parts kind.New w e a h λ p form h. then (one_made e.made) _ h λ m made h. then (no_other e.other) _ h λ v other h.
        alone-named kind.New is refl (ap begun_by form) (ap waits form) (other-none e.other v other) m m (ap (λ l. made_by c e.site a.env l m m) form ∙ sym (is-one e.made m made))
    named-act kind.Let x is h = parts kind.Let w e a h λ p form h. then (eval p.1 a.env) _ h λ v gives h. then (bind p.0 v a.env) _ h λ env binds h. lonely h λ other none last.
        alone-named kind.Let is refl (ap begun_by form) (ap waits form) other e.actor e.actor (ap (λ l. made_by c e.site a.env l e.actor e.actor) form ∙ none)
    named-act kind.If x is h = parts kind.If w e a h λ p form h. then (truth_of p.0 a.env) _ h λ t truth h. lonely h λ other none last.
        alone-named kind.If is refl (ap begun_by form) (ap waits form) other e.actor e.actor (ap (λ l. made_by c e.site a.env l e.actor e.actor) form ∙ none)
    named-act kind.Comm x is h = parts kind.Comm w e a h λ p form h. takes p.0 p.1 _ h λ n o v env on other offer none last.
        taking-named kind.Comm is o n v (p.0, p.1) refl (ap begun_by form) other (ap taken_on form) on offer (ap (λ l. made_by c e.site a.env l e.actor e.actor) form ∙ none)
    named-act kind.Rep x is h = parts kind.Rep w e a h λ p form h. takes p.0 p.1 _ h λ n o v env on other offer none last.
        taking-named kind.Rep is o n v (p.0, p.1) refl (ap begun_by form) other (ap taken_on form) on offer (ap (λ l. made_by c e.site a.env l e.actor e.actor) form ∙ none)
    named-act kind.Agent x is h = parts kind.Agent w e a h λ p form h. then (two_made e.made) _ h λ n made h. then (no_other e.other) _ h λ v other h.
        alone-named kind.Agent is refl (ap begun_by form) (ap waits form) (other-none e.other v other) n.0 n.1 (ap (λ l. made_by c e.site a.env l n.0 n.1) form ∙ sym (is-two e.made n made))
    named-act kind.Depart x is h = parts kind.Depart w e a h λ p form h. then (site_in c.sites p.0 a.env) _ h λ t names h. lonely h λ other none last.
        alone-named kind.Depart is refl (ap begun_by form) (ap waits form) other e.actor e.actor (ap (λ l. made_by c e.site a.env l e.actor e.actor) form ∙ none)
    named-act kind.Arrive x is h = absurd cc
    named-act kind.Local x is h = parts kind.Local w e a h λ p form h. then (agent_of p.0 a.env) _ h λ b names h. then (chan_of p.1 a.env) _ h λ n along h.
        then (eval p.2 a.env) _ h λ v gives h. then (no_other e.other) _ h λ u other h.
        tested b e.actor p.0 (is_at c b e.site) names refl p.3 p.4 n v x h λ y makes.
        alone-named kind.Local is refl (ap begun_by form) (ap waits form) (other-none e.other u other) y y (ap (λ l. made_by c e.site a.env l y y) form ∙ makes)
    named-act kind.Send x is h = parts kind.Send w e a h λ p form h. then (agent_of p.0 a.env) _ h λ b names h. then (site_in c.sites p.1 a.env) _ h λ t goes_to h.
        then (chan_of p.2 a.env) _ h λ n along h. then (eval p.3 a.env) _ h λ v gives h. lonely h λ other none last.
        alone-named kind.Send is refl (ap begun_by form) (ap waits form) other e.actor e.actor (ap (λ l. made_by c e.site a.env l e.actor e.actor) form ∙ none)
    named-act kind.Land x is h = absurd cc
    named-act kind.Print x is h = parts kind.Print w e a h λ p form h. then (eval p a.env) _ h λ v gives h. lonely h λ other none last.
        alone-named kind.Print is refl (ap begun_by form) (ap waits form) other e.actor e.actor (ap (λ l. made_by c e.site a.env l e.actor e.actor) form ∙ none)
    named-act kind.Open x is h = parts kind.Open w e a h λ p form h. then (letter_of p a.env) _ h λ v gives h. lonely h λ other none last.
        alone-named kind.Open is refl (ap begun_by form) (ap waits form) other e.actor e.actor (ap (λ l. made_by c e.site a.env l e.actor e.actor) form ∙ none)
    named-act kind.Lookup x is h = parts kind.Lookup w e a h λ p form h. then (agent_of p.0 a.env) _ h λ b names h. then (places_of p.1 a.env) _ h λ ps among h. lonely h λ other none last.
        alone-named kind.Lookup is refl (ap begun_by form) (ap waits form) other e.actor e.actor (ap (λ l. made_by c e.site a.env l e.actor e.actor) form ∙ none)
    named-act kind.Post x is h = parts kind.Post w e a h λ p form h. then (agent_of p.0 a.env) _ h λ b names h. then (chan_of p.1 a.env) _ h λ n along h.
        then (eval p.2 a.env) _ h λ v gives h. lonely h λ other none last.
        alone-named kind.Post is refl (ap begun_by form) (ap waits form) other e.actor e.actor (ap (λ l. made_by c e.site a.env l e.actor e.actor) form ∙ none)

  -- an agent that arrives, and a packet that lands
  arrives-named : (x : Change) → e.kind ≡ kind.Arrive → arrive_row (map.get c.places e.actor) e ≡ Some x → IsNamed c e
  unfolding arrive_row
  arrives-named x is h =
      then (map.get c.places e.actor) _ h λ p there h. then (way p) _ h λ s comes h. when (nat_eq s e.site) _ h λ here h.
      when (same_tag e.tag (record { node = 0; role = role.Plain })) _ h λ tag h. then (none_made e.made) _ h λ u none h. then (no_other e.other) _ h λ v other h.
      let of : choice_of e ≡ choice.Arrives e.actor = ap (λ k. choice_by k e.actor e.other) is in
      let at : map.get c.places e.actor ≡ Some (place.Way s) = there ∙ ap Some (way-is p s comes) in
      let site : s ≡ e.site = eqb-true s e.site here in
      let tags : e.tag ≡ record { node = 0; role = role.Plain } = tag-is e.tag (record { node = 0; role = role.Plain }) tag in
      let makes : e.made ≡ made.Nothing = is-none e.made u none in
      let alone : e.other ≡ None = other-none e.other v other in
      let same : arrival e.actor s ≡ e = (λ i. record { site = site i; kind = (sym is) i; actor = e.actor; other = (sym alone) i; tag = (sym tags) i; made = (sym makes) i }) in
      record {
        choice = subst (IsChoice c) (sym of) (ap travels at);
        first = e.actor;
        second = e.actor;
        gives = ap (λ s. event_by c s e.actor e.actor) of ∙ ap (λ o. o >>= λ p. way p >>= λ s. Some (arrival e.actor s)) at ∙ ap Some same;
      }

  lands-named : (x : Change) → e.kind ≡ kind.Land → land_row (map.get c.packets e.actor) w e ≡ Some x → IsNamed c e
  unfolding land_row
  lands-named x is h =
      then (map.get c.packets e.actor) _ h λ p flies h. when (nat_eq p.to e.site) _ h λ here h. when (same_tag p.tag e.tag) _ h λ tag h.
      then (none_made e.made) _ h λ u none h. then (no_other e.other) _ h λ v other h.
      let of : choice_of e ≡ choice.Lands e.actor = ap (λ k. choice_by k e.actor e.other) is in
      let site : p.to ≡ e.site = eqb-true p.to e.site here in
      let tags : p.tag ≡ e.tag = tag-is p.tag e.tag tag in
      let makes : e.made ≡ made.Nothing = is-none e.made u none in
      let alone : e.other ≡ None = other-none e.other v other in
      let same : landing e.actor p ≡ e = (λ i. record { site = site i; kind = (sym is) i; actor = e.actor; other = (sym alone) i; tag = tags i; made = (sym makes) i }) in
      record {
        choice = subst (IsChoice c) (sym of) (ap is_some flies);
        first = e.actor;
        second = e.actor;
        gives = ap (λ s. event_by c s e.actor e.actor) of ∙ ap (λ o. o >>= λ p. Some (landing e.actor p)) flies ∙ ap Some same;
      }

  named-by : (k : Kind) (x : Change) → e.kind ≡ k → change k c.sites (inside c) e ≡ Some x → IsNamed c e
  named-by kind.Arrive x is h = arrives-named x is h
  named-by kind.Land x is h = lands-named x is h
  named-by k x is h = then (acting c e) _ h λ a acts h. named-act a acts k x is h

pub each-is-named : EachIsNamed
each-is-named c d e h = let s = row-step c e d e.kind h in named-by c e e.kind s.made refl s.gives
