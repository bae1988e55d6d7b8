-- An event of which every condition holds is made by the table of reductions.
use Rattle.std.proofs.Common.{◌≡◌, Bool, true, false, cond, ◌&&◌, Option, None, Some, is_some, nat_eq, refl, subst, ◌∙◌}
use Rattle.std.specs.FinMap as map
use Rattle.np_syntax.proofs.Bools.{and-out}
use Rattle.np_syntax.proofs.Numbers.{nat_eq-turned}
use Rattle.np_calculus.proofs.Common.{Name, Value, Event, Kind, Proc, Env, ◌>>=◌, then, same_name, chan_of, agent_of, truth_of, letter_of, places_of, eval, bind, Layer, layer, Config, inside, sight}
use Rattle.np_calculus.proofs.Common.{none_made, sends, offered_in, are_new, after_change, row, here_row, away_row, act, arrive_row, land_row, acting, is_at}
use Rattle.np_syntax.specs.declared.expression.Expr.{Expr}
use Rattle.np_syntax.specs.declared.pattern.Pat.{Pat}
use Rattle.np_calculus.specs.declared.config.Atom.{Atom}
use Rattle.np_syntax.specs.declared.process.ProcForm.{ProcForm-F}
use Rattle.np_syntax.specs.declared.event.Kind.TheVariants as kind
use Rattle.np_calculus.specs.NotEnabled.{asks, by_atom}
use Rattle.np_calculus.specs.Reductions.{site_in}
use Rattle.np_calculus.specs.Well.{Has}
use Rattle.np_calculus.proofs.Steps.{at_site-is, same-offer, step-acting, step-offered}
use Rattle.np_calculus.specs.Sight.{at_site}
use Rattle.history_conditions.specs.Conditions.{finds_agent, form_fits, goes_to, input_channel, is_in_agent, is_on_channel}
use Rattle.history_conditions.specs.Conditions.{of_both, some_and, taken_fits}
use Rattle.history_conditions.proofs.Common.{AllHold, AreMade, both, goes, no-name, no-output, not-there, on-channel, one-name, passes, sends-on, there, they-are-new, two-names}

-- the value of a step that has one
got : {A B : Type 0} (o : Option A) → is_some o ≡ true → ((a : A) → o ≡ Some a → B) → B
got None h k = absurd cc
got (Some a) h k = k a refl

module _ (c : Config) (e : Event) where
  new : (k : Kind) → AllHold c e k → are_new c.born e.made ≡ true
  new k h = they-are-new c.born e.made h.first_new h.second_new h.differ

  -- an agent under way arrives
  arrives : AllHold c e kind.Arrive → Has (row kind.Arrive c e)
  unfolding arrive_row
  arrives h =
      let p = passes (map.get c.places e.actor) (λ p. goes_to p e.site) h.site in
      let g = goes p.one e.site p.passes in
      let node : nat_eq e.tag.node 0 ≡ true = nat_eq-turned e.tag.node 0 ∙ h.node in
      let role = nat_eq-turned _ 0 ∙ h.role in
      rw (p.is, g.is, g.same, node, role, no-name e.made (record { first = h.first; second = h.second }), no-output e.other (not-there (is_some e.other) h.other), new kind.Arrive h) (_, refl)

  -- a packet lands
  lands : AllHold c e kind.Land → Has (row kind.Land c e)
  unfolding land_row
  lands h =
      let p = passes (map.get c.packets e.actor) (λ p. nat_eq p.to e.site) h.site in
      let node : nat_eq p.one.tag.node e.tag.node ≡ true = rw p.is at h.node in
      let role = rw p.is at h.role in
      rw (p.is, p.passes, node, role, no-name e.made (record { first = h.first; second = h.second }), no-output e.other (not-there (is_some e.other) h.other), new kind.Land h) (_, refl)

  -- an atom that can act
  record Acting (k : Kind) : Type 0 where
    pub atom : Atom
    pub there : map.get c.atoms e.actor ≡ Some atom
    pub acts : acting c e ≡ Some atom
    pub form : asks k (layer atom.proc) ≡ true
    pub operands : form_fits c.sites (inside c) e atom.env (layer atom.proc) ≡ true

  act-of : (k : Kind) → by_atom k ≡ true → AllHold c e k → Acting k
  act-of kind.Arrive b h = absurd cc
  act-of kind.Land b h = absurd cc
  act-of k b h =
      let p = passes (map.get c.atoms e.actor) (λ a. at_site (map.get c.places a.agent) e.site) h.site in
      let node : nat_eq p.one.proc.tag.node e.tag.node ≡ true = rw p.is at h.node in
      let role = rw p.is at h.role in
      record {
        atom = p.one;
        there = p.is;
        acts = step-acting c e p.one (record { there = p.is; stands = at_site-is (map.get c.places p.one.agent) e.site p.passes; tag = rw (node, role) refl });
        form = rw p.is at h.of_kind;
        operands = rw p.is at h.operands;
      }

  -- a location test, where it finds its agent and where it does not
  located : (t : Bool) (a : Atom) (met unmet : Proc) (b n : Name) (v : Value) → AreMade (cond t 1 0) e.made → are_new c.born e.made ≡ true
      → Has (cond t (here_row e a met b n v) (away_row e a unmet) >>= after_change c e)
  unfolding here_row away_row
  located true a met unmet b n v m fresh = rw ((one-name e.made m).1, fresh) (_, refl)
  located false a met unmet b n v m fresh = rw (no-name e.made m, fresh) (_, refl)

  -- a location test looks for the agent for which its atom asks
  asks-for : (a : Atom) (agent chan sent : Expr) (met unmet : Proc) (b : Name) → map.get c.atoms e.actor ≡ Some a → layer a.proc ≡ ProcForm-F.IfLocal agent chan sent met unmet
      → agent_of agent a.env ≡ Some b → finds_agent c e ≡ is_at c b e.site
  asks-for a agent chan sent met unmet b there is names = rw (there, is, names) refl

  -- what an input takes
  record Taking (a : Atom) (chan : Expr) (pat : Pat) : Type 0 where
    pub n : Name
    pub on : chan_of chan a.env ≡ Some n
    pub o : Name
    pub names : e.other ≡ Some o
    pub v : Value
    pub offer : offered_in (sight c.sites (inside c) e.site).atom o a.agent n ≡ Some v
    pub binds : Has (bind pat v a.env)

  taking : (k : Kind) (x : Acting k) (chan : Expr) (pat : Pat) → (input_channel x.atom ≡ chan_of chan x.atom.env)
      → of_both (inside c) e is_in_agent ≡ true → of_both (inside c) e is_on_channel ≡ true
      → (is_some (chan_of chan x.atom.env) && taken_fits (inside c) e pat x.atom.env) ≡ true → Taking x.atom chan pat
  taking k x chan pat same together agree fit =
      let f = and-out _ _ fit in
      let n = there (chan_of chan x.atom.env) f.0 in
      let p = passes (e.other >>= map.get c.atoms) (λ b. some_and (sends b) (λ sent. is_some (bind pat sent.1 x.atom.env))) f.1 in
      let s = passes (sends p.one) (λ sent. is_some (bind pat sent.1 x.atom.env)) p.passes in
      then e.other _ p.is λ o names stands.
      let agent : same_name x.atom.agent p.one.agent ≡ true = both (inside c) e is_in_agent o x.atom p.one names x.there stands together in
      let on : same_name n.0 s.one.0 ≡ true = on-channel x.atom p.one n.0 s.one.0 (same ∙ n.1) (sends-on p.one s.one s.is) (both (inside c) e is_on_channel o x.atom p.one names x.there stands agree) in
      let offer = step-offered c o x.atom.agent n.0 s.one.1 (record { mate = p.one; waits = stands; together = agent; sent = s.one; sends_it = s.is; agree = on; is = refl }) in
      record {
        n = n.0;
        on = n.1;
        o = o;
        names = names;
        v = s.one.1;
        offer = same-offer c e x.atom o n.0 x.acts ∙ offer;
        binds = there (bind pat s.one.1 x.atom.env) s.passes;
      }

  -- an input, plain or replicated, that takes an output
  meets-comm : (a : Atom) (chan : Expr) (pat : Pat) (body : Proc) (n o : Name) (v : Value) (env : Env) → acting c e ≡ Some a → layer a.proc ≡ ProcForm-F.Inp chan pat body
      → chan_of chan a.env ≡ Some n → e.other ≡ Some o → offered_in (sight c.sites (inside c) e.site).atom o a.agent n ≡ Some v → bind pat v a.env ≡ Some env
      → none_made e.made ≡ Some tt → are_new c.born e.made ≡ true → Has (row kind.Comm c e)
  unfolding act
  meets-comm a chan pat body n o v env acts is on names offer binds none fresh = rw (acts, is, on, names, offer, binds, none, fresh) (_, refl)

  meets-rep : (a : Atom) (chan : Expr) (pat : Pat) (body : Proc) (n o : Name) (v : Value) (env : Env) → acting c e ≡ Some a → layer a.proc ≡ ProcForm-F.Rep chan pat body
      → chan_of chan a.env ≡ Some n → e.other ≡ Some o → offered_in (sight c.sites (inside c) e.site).atom o a.agent n ≡ Some v → bind pat v a.env ≡ Some env
      → none_made e.made ≡ Some tt → are_new c.born e.made ≡ true → Has (row kind.Rep c e)
  unfolding act
  meets-rep a chan pat body n o v env acts is on names offer binds none fresh = rw (acts, is, on, names, offer, binds, none, fresh) (_, refl)

  -- the row of an atom of each form
  met : (k : Kind) (h : AllHold c e k) (x : Acting k) (l : Layer) → layer x.atom.proc ≡ l → asks k l ≡ true → form_fits c.sites (inside c) e x.atom.env l ≡ true
      → Has (row k c e)
  unfolding act
  met kind.Stop h x ProcForm-F.Stop is asked fit =
      rw (x.acts, is, no-name e.made (record { first = h.first; second = h.second }), no-output e.other (not-there (is_some e.other) h.other), new kind.Stop h) (_, refl)
  met kind.Fork h x (ProcForm-F.Par left right) is asked fit =
      rw (x.acts, is, (one-name e.made (record { first = h.first; second = h.second })).1, no-output e.other (not-there (is_some e.other) h.other), new kind.Fork h) (_, refl)
  met kind.New h x (ProcForm-F.New at ty body) is asked fit =
      rw (x.acts, is, (one-name e.made (record { first = h.first; second = h.second })).1, no-output e.other (not-there (is_some e.other) h.other), new kind.New h) (_, refl)
  met kind.Let h x (ProcForm-F.Let pat bound body) is asked fit =
      let t = there (eval bound x.atom.env >>= λ v. bind pat v x.atom.env) fit in
      then (eval bound x.atom.env) _ t.1 λ v says binds.
      rw (x.acts, is, says, binds, no-name e.made (record { first = h.first; second = h.second }), no-output e.other (not-there (is_some e.other) h.other), new kind.Let h) (_, refl)
  met kind.If h x (ProcForm-F.If test met' unmet) is asked fit =
      let t = there (truth_of test x.atom.env) fit in
      rw (x.acts, is, t.1, no-name e.made (record { first = h.first; second = h.second }), no-output e.other (not-there (is_some e.other) h.other), new kind.If h) (_, refl)
  met kind.Comm h x (ProcForm-F.Inp chan pat body) is asked fit =
      let t = taking kind.Comm x chan pat (rw is refl) h.agent h.channel fit in
      meets-comm x.atom chan pat body t.n t.o t.v t.binds.0 x.acts is t.on t.names t.offer t.binds.1 (no-name e.made (record { first = h.first; second = h.second })) (new kind.Comm h)
  met kind.Rep h x (ProcForm-F.Rep chan pat body) is asked fit =
      let t = taking kind.Rep x chan pat (rw is refl) h.agent h.channel fit in
      meets-rep x.atom chan pat body t.n t.o t.v t.binds.0 x.acts is t.on t.names t.offer t.binds.1 (no-name e.made (record { first = h.first; second = h.second })) (new kind.Rep h)
  met kind.Agent h x (ProcForm-F.Agent at body rest) is asked fit =
      rw (x.acts, is, (two-names e.made (record { first = h.first; second = h.second })).1, no-output e.other (not-there (is_some e.other) h.other), new kind.Agent h) (_, refl)
  met kind.Depart h x (ProcForm-F.Migrate to body) is asked fit =
      let t = there (site_in c.sites to x.atom.env) fit in
      rw (x.acts, is, t.1, no-name e.made (record { first = h.first; second = h.second }), no-output e.other (not-there (is_some e.other) h.other), new kind.Depart h) (_, refl)
  met kind.Local h x (ProcForm-F.IfLocal agent chan sent met' unmet) is asked fit =
      let f = and-out _ _ fit in
      let g = and-out _ _ f.1 in
      got (agent_of agent x.atom.env) f.0 λ b names. got (chan_of chan x.atom.env) g.0 λ n on. got (eval sent x.atom.env) g.1 λ v says.
      let finds = asks-for x.atom agent chan sent met' unmet b x.there is names in
      let m : AreMade (cond (is_at c b e.site) 1 0) e.made = subst (λ t. AreMade (cond t 1 0) e.made) finds (record { first = h.first; second = h.second }) in
      rw (x.acts, is, names, on, says, no-output e.other (not-there (is_some e.other) h.other)) (located (is_at c b e.site) x.atom met' unmet b n v m (new kind.Local h))
  met kind.Send h x (ProcForm-F.Send agent to chan sent) is asked fit =
      let d = and-out _ _ fit in
      let f = and-out _ _ d.1 in
      let g = and-out _ _ f.1 in
      got (site_in c.sites to x.atom.env) d.0 λ t goes-to. got (agent_of agent x.atom.env) f.0 λ b names. got (chan_of chan x.atom.env) g.0 λ n on. got (eval sent x.atom.env) g.1 λ v says.
      rw (x.acts, is, names, goes-to, on, says, no-name e.made (record { first = h.first; second = h.second }), no-output e.other (not-there (is_some e.other) h.other), new kind.Send h) (_, refl)
  met kind.Print h x (ProcForm-F.Print said) is asked fit =
      let v = there (eval said x.atom.env) fit in
      rw (x.acts, is, v.1, no-name e.made (record { first = h.first; second = h.second }), no-output e.other (not-there (is_some e.other) h.other), new kind.Print h) (_, refl)
  met kind.Open h x (ProcForm-F.Open letter) is asked fit =
      let v = there (letter_of letter x.atom.env) fit in
      rw (x.acts, is, v.1, no-name e.made (record { first = h.first; second = h.second }), no-output e.other (not-there (is_some e.other) h.other), new kind.Open h) (_, refl)
  met kind.Lookup h x (ProcForm-F.Lookup agent among at met' unmet) is asked fit =
      let f = and-out _ _ fit in
      got (agent_of agent x.atom.env) f.0 λ b names. got (places_of among x.atom.env) f.1 λ p looked.
      rw (x.acts, is, names, looked, no-name e.made (record { first = h.first; second = h.second }), no-output e.other (not-there (is_some e.other) h.other), new kind.Lookup h) (_, refl)
  met kind.Post h x (ProcForm-F.Post agent chan sent) is asked fit =
      let f = and-out _ _ fit in
      let g = and-out _ _ f.1 in
      got (agent_of agent x.atom.env) f.0 λ b names. got (chan_of chan x.atom.env) g.0 λ n on. got (eval sent x.atom.env) g.1 λ v says.
      rw (x.acts, is, names, on, says, no-name e.made (record { first = h.first; second = h.second }), no-output e.other (not-there (is_some e.other) h.other), new kind.Post h) (_, refl)
  met _ h x _ is asked fit = absurd cc

  pub enabled : (k : Kind) → AllHold c e k → Has (row k c e)
  enabled kind.Arrive h = arrives h
  enabled kind.Land h = lands h
  enabled k h = let x = act-of k refl h in met k h x (layer x.atom.proc) refl x.form x.operands
