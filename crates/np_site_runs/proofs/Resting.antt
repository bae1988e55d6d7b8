-- When what a site holds can do nothing, and when it rests.
use Rattle.std.proofs.Common.{◌≡◌, Bool, true, false, inl, inr, Option, None, Some, refl, sym, ap, subst, ◌∙◌}
use Rattle.std.specs.FinMap as table
use Rattle.np_calculus.proofs.Common.{Config, Expr, Name, Pat, apply, chan_of, done, layer, then}
use Rattle.np_calculus.specs.declared.config.Atom.{Atom}
use Rattle.np_calculus.specs.Idle.{HasMeeting, HasWork, Idle, waits}
use Rattle.np_calculus.proofs.Steps.{row-step}
use Rattle.np_eval.specs.Forms.{given_on, taken_on}
use Rattle.np_site_runs.specs.Holdings.{Holding, IsHeld, IsPart}
use Rattle.np_site_runs.specs.Resting.{IdleByAgents, IsIdle, NoEventHere, OfEach, gives_on, takes_on}
use Rattle.np_site_runs.proofs.Parts.{place-of}
use Rattle.np_site_runs.proofs.HoldingActs.{changed-here, not-way}

pub no_event_here : NoEventHere
no_event_here h c part none e post = by (apply c e) refl
  where
    by : (o : Option Config) → apply c e ≡ o → o ≡ None
    by None is = refl
    by (Some after) is =
        let s = row-step c e after e.kind is in
        let a = changed-here h c part e s.made e.kind s.gives in
        let x : None ≡ Some s.made = sym ((none a.agent a.atoms a.stands).none a.here e post) ∙ a.row in
        absurd cc

-- ---- rest

-- an output, and an input, by their channels
record Gives (b : Atom) (chan : Name) : Type 0 where
  from : Expr
  form : given_on (layer b.proc) ≡ Some from
  on : chan_of from b.env ≡ Some chan

gives : (b : Atom) (chan : Name) → gives_on b ≡ Some chan → Gives b chan
gives b chan h = then (given_on (layer b.proc)) _ h λ x form h. record { from = x; form = form; on = h }

record Takes (a : Atom) (chan : Name) : Type 0 where
  to : Expr × Pat
  form : taken_on (layer a.proc) ≡ Some to
  on : chan_of to.0 a.env ≡ Some chan

takes : (a : Atom) (chan : Name) → takes_on a ≡ Some chan → Takes a chan
takes a chan h = then (taken_on (layer a.proc)) _ h λ t form h. record { to = t; form = form; on = h }

module _ (h : Holding) (c : Config) (part : IsPart h c) where
  to-agents : Idle c → OfEach h IsIdle
  to-agents idle agent atoms stands = record {
    wait = λ m a g. waiting m a g (waits (layer a.proc)) refl;
    apart = λ m a chan g takes_it. record {
      none = λ q b f gives_it.
          let t = takes a chan takes_it in
          let o = gives b chan gives_it in
          idle h.site (inr (inr (record {
            agent = agent;
            stands = place-of h c part agent atoms stands;
            works = inr (record {
              output = q;
              giver = b;
              gives = there q b f;
              giver_of = part.own agent atoms q b stands f;
              input = m;
              taker = a;
              takes = there m a g;
              taker_of = part.own agent atoms m a stands g;
              from = o.from;
              output_form = o.form;
              to = t.to;
              input_form = t.form;
              chan = chan;
              given = o.on;
              taken = t.on;
            });
          })));
    };
  }
    where
      there : (m : Name) (a : Atom) → table.get atoms m ≡ Some a → table.get c.atoms m ≡ Some a
      there m a g = part.has m a (record { atoms = atoms; here = ap (table.get h.agents) (part.own agent atoms m a stands g) ∙ stands; has = g })

      waiting : (m : Name) (a : Atom) → table.get atoms m ≡ Some a → (t : Bool) → waits (layer a.proc) ≡ t → t ≡ true
      waiting m a g true is = refl
      waiting m a g false is = absurd (idle h.site (inr (inr (record {
        agent = agent;
        stands = place-of h c part agent atoms stands;
        works = inl (record { mark = m; atom = a; there = there m a g; of = part.own agent atoms m a stands g; acts = is });
      }))))

  module _ (all : OfEach h IsIdle) where
    no-work : (agent : Name) → HasWork c agent → ⊥
    no-work agent w =
        let held : IsHeld h w.mark w.atom = part.only w.mark w.atom w.there in
        let waits : true ≡ false = sym ((all w.atom.agent held.atoms held.here).wait w.mark w.atom held.has) ∙ w.acts in
        cc

    no-meeting : (agent : Name) → HasMeeting c agent → ⊥
    no-meeting agent w =
        let input : IsHeld h w.input w.taker = part.only w.input w.taker w.takes in
        let output : IsHeld h w.output w.giver = part.only w.output w.giver w.gives in
        let same : input.atoms ≡ output.atoms = done (sym output.here ∙ ap (table.get h.agents) (w.giver_of ∙ sym w.taker_of) ∙ input.here) in
        let takes_it : takes_on w.taker ≡ Some w.chan = rw w.input_form w.taken in
        let gives_it : gives_on w.giver ≡ Some w.chan = rw w.output_form w.given in
        ((all w.taker.agent input.atoms input.here).apart w.input w.taker w.chan input.has takes_it).none w.output w.giver (subst (λ t. table.get t w.output ≡ Some w.giver) (sym same) output.has) gives_it

    to-part : Idle c
    to-part site (inl p) = let x : None ≡ Some p.packet = sym (part.packets p.mark) ∙ p.flies in cc
    to-part site (inr (inl a)) = not-way h c part a.agent site a.comes
    to-part site (inr (inr a)) = elim a.works [ inl w ↦ no-work a.agent w | inr w ↦ no-meeting a.agent w ]

pub idle_by_agents : IdleByAgents
idle_by_agents h c part = (to-agents h c part, to-part h c part)
