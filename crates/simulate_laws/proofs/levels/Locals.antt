-- A location test: where its agent is at the site, the output is made in it under a new mark at both levels, and else the process goes on otherwise.
use Rattle.std.proofs.Common.{◌≡◌, ◌⊎◌, inl, inr, ℕ, Bool, true, false, cond, None, Some, [], ◌∷◌, refl, sym, ap, subst, ◌∙◌}
use Rattle.std.specs.FinSet as set
use Rattle.std.specs.Option.{option_map}
use Rattle.np_syntax.specs.declared.value.Name.{Name}
use Rattle.np_syntax.specs.declared.value.Value.{Value, out-Value}
use Rattle.np_syntax.specs.declared.expression.Expr.{Expr}
use Rattle.np_syntax.specs.declared.process.Proc.{Proc}
use Rattle.np_syntax.specs.declared.process.ProcForm.{ProcForm-F}
use Rattle.np_syntax.specs.declared.event.Event.{Event}
use Rattle.np_syntax.specs.declared.event.Kind.TheVariants as kind
use Rattle.np_syntax.specs.declared.event.Made.TheVariants as made
use Rattle.np_syntax.specs.Options.{◌>>=◌}
use Rattle.np_syntax.proofs.Options.{then, done}
use Rattle.np_calculus.specs.declared.config.Atom.{Atom}
use Rattle.np_calculus.specs.Begins.{begun_by}
use Rattle.np_calculus.specs.Changes.{Change, effect, put, still, with_made}
use Rattle.np_calculus.specs.Config.{Config}
use Rattle.np_calculus.specs.Reductions.{apply, are_new, becomes, goes, no_other, none_made, one_made, output_in, row}
use Rattle.np_calculus.specs.Seen.{acting, is_at}
use Rattle.np_calculus.specs.Sight.{at_site, inside, sight}
unfoldable use Rattle.np_calculus.proofs.Common.{act, away_row, here_row}
use Rattle.np_calculus.proofs.FrameRule.{not-false}
use Rattle.np_calculus.proofs.Rows.{parts}
use Rattle.np_calculus.proofs.Steps.{Acts, acting-step, is-none, is-one, one-new, row-step, step-acting}
use Rattle.np_lift.specs.CachedLift.{stands_for}
use Rattle.np_eval.specs.Eval.{agent_of, as_agent, as_chan, chan_of, eval}
use Rattle.np_eval.specs.Forms.{layer}
use Rattle.infrastructure_texts.specs.Infrastructures.{Infrastructure}
use Rattle.simulate_laws.specs.things.Mail.{Posted, as_output}
use Rattle.simulate_laws.specs.things.Shapes.{IsAgents, IsOfSource}
use Rattle.simulate_laws.specs.things.Things.{Thing}
use Rattle.simulate_laws.specs.levels.Coupled.{Coupled, View, is_channel}
use Rattle.simulate_laws.specs.levels.Laws.{IsEvent, event_of}
use Rattle.simulate_laws.proofs.levels.Places.{known_there, same_place}
use Rattle.simulate_laws.proofs.levels.Actors.{Actor, actor, agents, known_agent, known_apart, known_channel, known_here, Parts, parts_of, same_here}
use Rattle.simulate_laws.proofs.levels.Applies.{takes_nothing}
use Rattle.simulate_laws.proofs.levels.Bodies.{first_part, goes_on, second_part}
use Rattle.simulate_laws.proofs.levels.Forms.{IsFormOf}
use Rattle.simulate_laws.proofs.levels.Goes.{IsSame, goes_on_both, still_knows}
use Rattle.simulate_laws.proofs.levels.Makes.{made_both}
use Rattle.simulate_laws.proofs.levels.Stands.{new_mark}
use Rattle.simulate_laws.proofs.levels.Together.{knows_wider, more_channels}

-- what a test that finds its agent leaves, and one that does not
pub record FindsIt (low : Config) (e : Event) (next : Config) (a : Atom) (met : Proc) (agent chan : Name) (what : Value) : Type 0 where
  pub here : is_at low agent e.site ≡ true
  pub new : Name
  pub made_one : e.made ≡ made.One new
  pub is_new : set.contains low.born new ≡ false
  pub is : next ≡ effect low e (record still { atoms = put new (output_in agent chan what e.tag) ∷ put e.actor (goes a met) ∷ [] })

pub record Misses (low : Config) (e : Event) (next : Config) (a : Atom) (unmet : Proc) (agent : Name) : Type 0 where
  pub away : is_at low agent e.site ≡ false
  pub made_none : e.made ≡ made.Nothing
  pub is : next ≡ effect low e (becomes e (goes a unmet))

pub record IsLocating (low : Config) (e : Event) (next : Config) : Type 0 where
  pub atom : Atom
  pub acts : Acts low e atom
  pub agent_named : Expr
  pub chan_named : Expr
  pub sent : Expr
  pub met : Proc
  pub unmet : Proc
  pub form : layer atom.proc ≡ ProcForm-F.IfLocal agent_named chan_named sent met unmet
  pub agent : Name
  pub chan : Name
  pub what : Value
  pub its_agent : agent_of agent_named atom.env ≡ Some agent
  pub its_chan : chan_of chan_named atom.env ≡ Some chan
  pub its_value : eval sent atom.env ≡ Some what
  pub other_none : e.other ≡ None
  pub ends : FindsIt low e next atom met agent chan what ⊎ Misses low e next atom unmet agent

module _ (low : Config) (e : Event) (next : Config) (a : Atom) (met unmet : Proc) (agent chan : Name) (what : Value) where
  ends_so : (d : Change) (t : Bool) → is_at low agent e.site ≡ t → cond t (here_row e a met agent chan what) (away_row e a unmet) ≡ Some d
      → are_new low.born e.made ≡ true → next ≡ effect low e d → FindsIt low e next a met agent chan what ⊎ Misses low e next a unmet agent
  unfolding here_row away_row
  ends_so d true at h new is =
      then (one_made e.made) _ h λ m one last.
      inl (record {
        here = at;
        new = m;
        made_one = is-one e.made m one;
        is_new = not-false (set.contains low.born m) (sym (one-new low.born e.made m one) ∙ new);
        is = is ∙ ap (effect low e) (done last);
      })
  ends_so d false at h new is =
      then (none_made e.made) _ h λ u none last. inr (record { away = at; made_none = is-none e.made u none; is = is ∙ ap (effect low e) (done last) })

pub locating : (low : Config) (e : Event) (next : Config) → row kind.Local low e ≡ Some next → IsLocating low e next
unfolding act
locating low e next h =
    let r = row-step low e next kind.Local h in
    then (acting low e) _ r.gives λ a acts h. parts kind.Local (sight low.sites (inside low) e.site) e a h λ p form h.
    then (agent_of p.0 a.env) _ h λ b ab h. then (chan_of p.1 a.env) _ h λ n an h.
    then (eval p.2 a.env) _ h λ v av h. then (no_other e.other) _ h λ w other h.
    record {
      atom = a;
      acts = acting-step low e a acts;
      agent_named = p.0;
      chan_named = p.1;
      sent = p.2;
      met = p.3;
      unmet = p.4;
      form = form;
      agent = b;
      chan = n;
      what = v;
      its_agent = ab;
      its_chan = an;
      its_value = av;
      other_none = takes_nothing e.other w other;
      ends = ends_so low e next a p.3 p.4 b n v r.made (is_at low b e.site) refl h r.new r.is;
    }

module _ (c : Config) (e : Event) (a : Atom) (x y z : Expr) (p q : Proc) (agent chan : Name) (what : Value) (acts : Acts c e a)
    (form : layer a.proc ≡ ProcForm-F.IfLocal x y z p q) (its_agent : agent_of x a.env ≡ Some agent)
    (its_chan : chan_of y a.env ≡ Some chan) (its_value : eval z a.env ≡ Some what) (other : e.other ≡ None) where
  finds_applies : (m : Name) → is_at c agent e.site ≡ true → e.made ≡ made.One m → set.contains c.born m ≡ false
      → row kind.Local c e ≡ Some (effect c e (record still { atoms = put m (output_in agent chan what e.tag) ∷ put e.actor (goes a p) ∷ [] }))
  unfolding act here_row
  finds_applies m here one new = rw (step-acting c e a acts, form, its_agent, its_chan, its_value, other, here, one, new) refl

  misses_applies : is_at c agent e.site ≡ false → e.made ≡ made.Nothing → row kind.Local c e ≡ Some (effect c e (becomes e (goes a q)))
  unfolding act away_row
  misses_applies away none = rw (step-acting c e a acts, form, its_agent, its_chan, its_value, other, away, none) refl

module _ {i : Infrastructure} {n from first : ℕ} {low high : Config} {v : View} (c : Coupled i n from first low high v) (e : Event) (next : Config) (is : e.kind ≡ kind.Local)
    (h : apply low e ≡ Some next) (s : IsLocating low e next) (o : Actor c e s.atom) where
  form : IsFormOf i n from o.named (ProcForm-F.IfLocal s.agent_named s.chan_named s.sent s.met s.unmet) (layer o.atom.proc)
  form = subst (λ l. IsFormOf i n from o.named l (layer o.atom.proc)) s.form o.form

  sound_parts : Parts c e o (ProcForm-F.IfLocal s.agent_named s.chan_named s.sent form.0 form.1)
  sound_parts = parts_of c e o (ProcForm-F.IfLocal s.agent_named s.chan_named s.sent form.0 form.1) form.2

  agent_is : agent_of s.agent_named o.atom.env ≡ Some s.agent
  agent_is = ap (λ y. y >>= λ u. as_agent (out-Value u)) (sym (same_here c e o s.agent_named sound_parts.0)) ∙ s.its_agent

  chan_is : chan_of s.chan_named o.atom.env ≡ Some s.chan
  chan_is = ap (λ y. y >>= λ u. as_chan (out-Value u)) (sym (same_here c e o s.chan_named sound_parts.1)) ∙ s.its_chan

  value_is : eval s.sent o.atom.env ≡ Some s.what
  value_is = sym (same_here c e o s.sent sound_parts.2) ∙ s.its_value

  its_lock : agents c e s.agent ≡ true
  its_lock = known_agent c e o s.agent_named s.agent sound_parts.0 agent_is

  apart : IsAgents n s.agent
  apart = known_apart c s.agent its_lock

  other : (event_of v e).other ≡ None
  other = ap (option_map (stands_for v.standing)) s.other_none

  -- its agent is at the site at both levels, or at none
  same_site : is_at high s.agent e.site ≡ is_at low s.agent e.site
  same_site = ap (λ p. at_site p e.site) (sym (same_place c s.agent (known_there c s.agent its_lock)))

  found : FindsIt low e next s.atom s.met s.agent s.chan s.what → IsSame c e next
  found it =
      let p : Posted = record { agent = s.agent; chan = s.chan; value = s.what; tag = e.tag } in
      let part : IsOfSource i n from o.named (goes o.atom form.0) (goes s.atom s.met) =
      record { stands = goes_on s.met o.is.stands (first_part o.is.stands.source sound_parts.3); translates = form.3 } in
      let knows = knows_wider (agents c e) (agents c e) (is_channel n high.born) (is_channel n (with_made high.born e.made)) from (λ a h. h)
      (more_channels n high.born e.made) (Thing.opened p)
      (known_channel c e o s.chan_named s.chan sound_parts.1 chan_is, known_here c e o s.sent s.what sound_parts.2 value_is) in
      let w = made_both c e next o h it.new (as_output p) (as_output p) (Thing.opened p) it.is_new
      (record { apart = apart; tag = p.tag; is = refl }) refl refl (refl, refl, refl) knows (goes s.atom s.met) (goes o.atom form.0) part
      (still_knows c e o.knows) it.is in (
        effect high (event_of v e) (record still { atoms = put it.new (as_output p) ∷ put (stands_for v.standing e.actor) (goes o.atom form.0) ∷ [] }),
        ap (λ k. row k high (event_of v e)) is
            ∙ finds_applies high (event_of v e) o.atom s.agent_named s.chan_named s.sent form.0 form.1 s.agent s.chan s.what o.acts form.2
            agent_is chan_is value_is other it.new (same_site ∙ it.here) it.made_one (new_mark c e it.new it.is_new).high_new,
        w.0,
        w.1,
        w.2,
        w.3,
      )

  missed : Misses low e next s.atom s.unmet s.agent → IsSame c e next
  missed it =
      let part : IsOfSource i n from o.named (goes o.atom form.1) (goes s.atom s.unmet) =
      record { stands = goes_on s.unmet o.is.stands (second_part o.is.stands.source sound_parts.3); translates = form.4 } in
      let w = goes_on_both c e next o h (goes s.atom s.unmet) (goes o.atom form.1) it.is part (still_knows c e o.knows) in (
        effect high (event_of v e) (becomes (event_of v e) (goes o.atom form.1)),
        ap (λ k. row k high (event_of v e)) is
            ∙ misses_applies high (event_of v e) o.atom s.agent_named s.chan_named s.sent form.0 form.1 s.agent s.chan s.what o.acts form.2
            agent_is chan_is value_is other (same_site ∙ it.away) it.made_none,
        w.0,
        w.1,
        w.2,
        w.3,
      )

  located : IsSame c e next
  located = elim s.ends [ inl i ↦ found i | inr i ↦ missed i ]

pub locals-are-events : {i : Infrastructure} → IsEvent i kind.Local
locals-are-events n from first low high v c well lodged e next is plain h =
    let s = locating low e next (ap (λ k. row k low e) (sym is) ∙ h) in
    located c e next is h s (actor c e lodged s.atom kind.Local s.acts plain (ap begun_by s.form) (λ e. cc) (λ e. cc))
