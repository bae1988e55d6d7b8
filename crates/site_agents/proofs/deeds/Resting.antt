-- When agents that stand at a site can do nothing, and of which an event is.
use Rattle.std.proofs.Common.{◌≡◌, true, false, is_some, List, Option, None, Some, refl, sym, ap, subst, ◌∙◌}
use Rattle.std.specs.Prelude.{option_map}
use Rattle.std.specs.FinMap as map
use Rattle.np_syntax.specs.declared.value.Name.{Name}
use Rattle.np_syntax.specs.declared.process.Proc.{Proc}
use Rattle.np_syntax.specs.declared.process.ProcForm.{ProcForm-F}
use Rattle.np_syntax.specs.Options.{◌>>=◌}
use Rattle.np_syntax.proofs.Options.{done}
use Rattle.np_tables.specs.Mapped.{mapped}
use Rattle.np_tables.specs.Names.{NameMap, same_name}
use Rattle.np_tables.proofs.Mapped.{get-mapped, mapped_there}
use Rattle.np_tables.proofs.Tables.{same_name-is, same_name-itself}
use Rattle.np_eval.specs.Eval.{Env, chan_of}
use Rattle.np_eval.specs.Forms.{Layer, layer, given_on, taken_on}
use Rattle.np_calculus.specs.declared.config.Atom.{Atom}
use Rattle.np_calculus.specs.Idle.{waits}
use Rattle.np_calculus.proofs.OwnNames.{not_true}
use Rattle.np_site_runs.specs.Going.{AsksFor}
use Rattle.np_site_runs.specs.Resting as atoms_rest
use Rattle.np_site_runs.specs.Resting.{gives_on, takes_on}
use Rattle.np_site_runs.proofs.Enabled.{enabled_is_of_agent}
use Rattle.np_site_runs.proofs.Resting.{idle_by_agents, no_event_here}
use Rattle.np_code.specs.Programs.{ProgramTable}
use Rattle.agent_index.specs.declared.wait.Wait.TheVariants as wait
use Rattle.agent_index.specs.Shelves.{Kept}
use Rattle.agent_pool.specs.declared.held.Held.{Held}
use Rattle.agent_pool.specs.Held.{env_of, gives, proc_of, takes, wait_at, wait_of}
use Rattle.agent_pool.specs.Idle.{IsIdle, NoOutputBy, Stays, is_output, waits_in}
use Rattle.agent_pool.specs.Pools.{Pool, atoms_of, seen_as}
use Rattle.agent_pool.specs.Readies.{IsReady}
use Rattle.agent_pool.specs.Rows.{ready_of}
use Rattle.site_agents.specs.deeds.Calls.{Ever}
use Rattle.site_agents.specs.deeds.Resting as rest
use Rattle.site_agents.specs.deeds.Resting.{OfEachAgent}
use Rattle.site_agents.specs.deeds.Standing.{holding}

-- ---- one value of a map

module _ {X Y : Type 0} (f : X → Y) where
  pub mapped-from : (m : NameMap X) (q : Name) (y : Y) → map.get (mapped f m) q ≡ Some y → (x : X) × (map.get m q ≡ Some x) × (y ≡ f x)
  mapped-from m q y g = by (map.get m q) refl (sym (get-mapped f m q) ∙ g)
    where
      by : (o : Option X) → map.get m q ≡ o → option_map f o ≡ Some y → (x : X) × (map.get m q ≡ Some x) × (y ≡ f x)
      by None e h = absurd cc
      by (Some x) e h = (x, e, done h)

  some-mapped : (m : NameMap X) (q : Name) → is_some (map.get (mapped f m) q) ≡ is_some (map.get m q)
  some-mapped m q = ap is_some (get-mapped f m q) ∙ by (map.get m q)
    where
      by : (o : Option X) → is_some (option_map f o) ≡ is_some o
      by None = refl
      by (Some x) = refl

-- ---- an agent is idle just where its atoms are

module _ (ts : List Proc) (p : Pool) where
  waiting : (env : Env) (l : Layer) → Stays ts p.atoms (Some (wait_at env l)) → waits l ≡ true
  waiting env (ProcForm-F.Out c x) s = refl
  waiting env (ProcForm-F.Inp c x body) s = refl
  waiting env (ProcForm-F.Rep c x body) s = refl
  waiting env _ s = absurd s

  taking : (env : Env) (l : Layer) (chan : Name) → (taken_on l >>= λ (c, pat). chan_of c env) ≡ Some chan → wait_at env l ≡ wait.Takes chan
  taking env (ProcForm-F.Inp c x body) chan h = ap takes h
  taking env (ProcForm-F.Rep c x body) chan h = ap takes h
  taking env _ chan h = absurd cc

  giving : (env : Env) (l : Layer) (chan : Name) → (given_on l >>= λ c. chan_of c env) ≡ Some chan → wait_at env l ≡ wait.Gives chan
  giving env (ProcForm-F.Out c x) chan h = ap gives h
  giving env _ chan h = absurd cc

  abbrev see : Kept Held → Atom
  see = seen_as ts p.name

  module _ (idle : IsIdle ts p.atoms) where
    stays : (m : Name) (k : Kept Held) → map.get p.atoms m ≡ Some k → Stays ts p.atoms (Some (wait_of ts k.1))
    stays m k e = subst (λ o. Stays ts p.atoms (waits_in ts o)) e (idle.each m)

    pub atoms-idle : atoms_rest.IsIdle (atoms_of ts p)
    atoms-idle = record {
      wait = λ m a g.
          let k = mapped-from see p.atoms m a g in
          subst (λ (a : Atom). waits (layer a.proc) ≡ true) (sym k.2) (waiting (env_of k.0.1) (layer (proc_of ts k.0.1)) (stays m k.0 k.1));
      apart = λ m a chan g takes_it. record {
        none = λ q b f gives_it.
            let k = mapped-from see p.atoms m a g in
            let l = mapped-from see p.atoms q b f in
            let t : wait_of ts k.0.1 ≡ wait.Takes chan = taking (env_of k.0.1) (layer (proc_of ts k.0.1)) chan (ap takes_on (sym k.2) ∙ takes_it) in
            let o : wait_of ts l.0.1 ≡ wait.Gives chan = giving (env_of l.0.1) (layer (proc_of ts l.0.1)) chan (ap gives_on (sym l.2) ∙ gives_it) in
            let s = subst (λ w. Stays ts p.atoms (Some w)) t (stays m k.0 k.1) in
            let n : same_name chan chan ≡ false = ap (λ w. is_output (Some w) chan) (sym o) ∙ ap (λ o. is_output (waits_in ts o) chan) (sym l.1) ∙ s.each q in
            let y = same_name-itself chan in
            cc;
      };
    }

  module _ (idle : atoms_rest.IsIdle (atoms_of ts p)) where
    -- an atom is no output on a channel
    no-output-at : (chan : Name) (b : Atom) → (gives_on b ≡ Some chan → ⊥) → (env : Env) (l : Layer) → gives_on b ≡ (given_on l >>= λ c. chan_of c env) → is_output (Some (wait_at env l)) chan ≡ false
    no-output-at chan b none env (ProcForm-F.Out c x) is = by (chan_of c env) is
      where
        by : (o : Option Name) → gives_on b ≡ o → is_output (Some (gives o)) chan ≡ false
        by None e = refl
        by (Some on) e = not_true (same_name on chan) (λ t. none (e ∙ ap Some (same_name-is on chan t)))
    no-output-at chan b none env (ProcForm-F.Inp c x body) is = by (chan_of c env)
      where
        by : (o : Option Name) → is_output (Some (takes o)) chan ≡ false
        by None = refl
        by (Some on) = refl
    no-output-at chan b none env (ProcForm-F.Rep c x body) is = by (chan_of c env)
      where
        by : (o : Option Name) → is_output (Some (takes o)) chan ≡ false
        by None = refl
        by (Some on) = refl
    no-output-at chan b none env _ is = refl

    no-output : (m : Name) (k : Kept Held) (chan : Name) → map.get p.atoms m ≡ Some k → takes_on (see k) ≡ Some chan → NoOutputBy ts p.atoms chan
    no-output m k chan e takes_it = record { each = λ q. by q (map.get p.atoms q) refl }
      where
        by : (q : Name) (o : Option (Kept Held)) → map.get p.atoms q ≡ o → is_output (waits_in ts o) chan ≡ false
        by q None f = refl
        by q (Some l) f = no-output-at chan (see l)
            (λ gives_it. (idle.apart m (see k) chan (mapped_there see p.atoms m k e) takes_it).none q (see l) (mapped_there see p.atoms q l f) gives_it)
            (env_of l.1) (layer (proc_of ts l.1)) refl

    -- what an atom waits for is not there
    still-at : (m : Name) (k : Kept Held) → map.get p.atoms m ≡ Some k → (env : Env) (l : Layer) → waits l ≡ true → takes_on (see k) ≡ (taken_on l >>= λ (c, pat). chan_of c env)
        → Stays ts p.atoms (Some (wait_at env l))
    still-at m k e env (ProcForm-F.Out c x) w is = by (chan_of c env)
      where
        by : (o : Option Name) → Stays ts p.atoms (Some (gives o))
        by None = tt
        by (Some on) = tt
    still-at m k e env (ProcForm-F.Inp c x body) w is = by (chan_of c env) is
      where
        by : (o : Option Name) → takes_on (see k) ≡ o → Stays ts p.atoms (Some (takes o))
        by None f = tt
        by (Some chan) f = no-output m k chan e f
    still-at m k e env (ProcForm-F.Rep c x body) w is = by (chan_of c env) is
      where
        by : (o : Option Name) → takes_on (see k) ≡ o → Stays ts p.atoms (Some (takes o))
        by None f = tt
        by (Some chan) f = no-output m k chan e f
    still-at m k e env _ w is = absurd cc

    pub pool-idle : IsIdle ts p.atoms
    pool-idle = record { each = λ q. by q (map.get p.atoms q) refl }
      where
        by : (q : Name) (o : Option (Kept Held)) → map.get p.atoms q ≡ o → Stays ts p.atoms (waits_in ts o)
        by q None e = tt
        by q (Some k) e = still-at q k e (env_of k.1) (layer (proc_of ts k.1)) (idle.wait q (see k) (mapped_there see p.atoms q k e)) refl

-- ---- the agents of a site

module _ (code : ProgramTable) (agents : NameMap Pool) where
  -- what holds of the atoms of each
  to-each : (P : NameMap Atom → Type 0) → OfEachAgent agents (λ p. P (atoms_of code.processes p)) → (q : Name) (t : NameMap Atom) → map.get (mapped (atoms_of code.processes) agents) q ≡ Some t → P t
  to-each P each q t g = let k = mapped-from (atoms_of code.processes) agents q t g in subst P (sym k.2) (each q k.0 k.1)

pub no_event_at : Ever rest.NoEventHere
no_event_at code site agents next said c part none e post =
    no_event_here (holding code site agents next said) c part (to-each code agents (atoms_rest.HasNothingToDo (holding code site agents next said).sites) (λ q p is. record { none = (none q p is).none })) e post

pub idle_at : Ever rest.IdleByAgents
idle_at code site agents next said c part =
    let both = idle_by_agents (holding code site agents next said) c part in (
      λ idle q p is. pool-idle code.processes p (both.0 idle q (atoms_of code.processes p) (mapped_there (atoms_of code.processes) agents q p is)),
      λ each. both.1 (to-each code agents atoms_rest.IsIdle (λ q p is. atoms-idle code.processes p (each q p is))),
    )

pub enabled_at : Ever rest.EnabledIsReady
enabled_at code site agents next said c after e part post is =
    let o = enabled_is_of_agent (holding code site agents next said) c after e part post is in
    let k = mapped-from (atoms_of code.processes) agents o.agent o.atoms o.stands in
    record {
      name = o.agent;
      agent = k.0;
      stands = k.1;
      ready = subst (λ t. IsReady code t (ready_of e)) k.2 o.ready;
      here = o.here;
      told = λ other asks. sym (some-mapped (atoms_of code.processes) agents other) ∙ o.told other (subst (λ t. AsksFor t e.actor other) (sym k.2) asks);
      is = λ makes. λ i. record e { site = o.site i; made = o.made makes i };
    }
