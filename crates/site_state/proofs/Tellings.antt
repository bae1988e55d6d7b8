-- A location test does what the calculus says.
use Rattle.std.proofs.Common.{◌≡◌, ◌≤◌, ◌+◌, Bool, true, false, cond, is_some, [], ◌∷◌, List, length, Option, None, Some, refl, sym, ap, subst, ◌∙◌}
use Rattle.std.specs.Prelude.{option_map}
use Rattle.std.proofs.lemmas.Option.{same_Some}
use Rattle.std.specs.FinMap as map
use Rattle.np_syntax.specs.declared.event.Event.{Event}
use Rattle.np_syntax.specs.declared.event.Kind.TheVariants as kind
use Rattle.np_syntax.specs.declared.event.Made.TheVariants as made
use Rattle.np_syntax.specs.declared.value.Name.{Name}
use Rattle.np_syntax.specs.Options.{◌>>=◌}
use Rattle.np_syntax.proofs.Options.{done, then}
use Rattle.np_tables.specs.Names.{NameMap, same_name}
use Rattle.np_tables.specs.Mapped.{mapped}
use Rattle.np_tables.proofs.Mapped.{get-mapped, mapped-put, mapped_there}
use Rattle.np_tables.proofs.Tables.{get-put}
use Rattle.np_calculus.specs.declared.config.Atom.{Atom}
use Rattle.np_calculus.specs.declared.config.Packet.{Packet}
use Rattle.np_calculus.specs.Changes.{Change, Write, put, still}
use Rattle.np_calculus.specs.Reductions.{output_in}
use Rattle.np_calculus.specs.Rows.{asked_of, change_in, made_of, output_of, outside}
use Rattle.np_calculus.specs.Sight.{Sight}
use Rattle.stamp_history.specs.declared.stamped.Stamped.{Stamped}
use Rattle.stamp_history.specs.Histories.{Recorded}
use Rattle.np_site_runs.specs.Holdings.{Does, name_of}
use Rattle.np_site_runs.specs.Making.{next_after}
use Rattle.np_site_runs.specs.Within.{GoesOnAlone, Tells, given, gone_on, inner}
use Rattle.np_site_runs.proofs.Inversions as inverted
use Rattle.np_code.specs.Programs.{ProgramTable}
use Rattle.agent_index.specs.Shelves.{Kept}
use Rattle.agent_pool.specs.declared.held.Held.{Held}
use Rattle.agent_pool.specs.declared.ready.Ready.{Ready}
use Rattle.agent_pool.specs.Moves.{IsTarget, LocalLeaves}
use Rattle.agent_pool.specs.Pools.{Pool, atoms_of, seen_as, without_room}
use Rattle.agent_pool.specs.Readies.{IsReady}
use Rattle.agent_pool.specs.Rows.{Reduces, event_of, own_sight}
use Rattle.site_state.specs.Coming.{HasGot, HasSpare}
use Rattle.site_state.specs.Doing.{HasDoneEvent, deed_of, finds}
use Rattle.site_state.specs.Parts.{Asks, HasGone, HasTold, IsNoted}
use Rattle.site_agents.specs.Standings.{AreNamed, CanDo}
use Rattle.site_state.specs.Standings.{KeepsQuiet, SameAgents, SameRecords, Standing, holding_of}
use Rattle.site_state.proofs.Arrivals.{got_seen, same_seen}
use Rattle.site_state.proofs.Done.{done_inner}
use Rattle.site_state.proofs.Lines.{lines_are_same}

-- an agent that is there is there, but for its room
pub record IsStillThere (old : NameMap Pool) (q : Name) (p : Pool) : Type 0 where
  pub was : Pool
  pub stood : map.get old q ≡ Some was
  pub same : without_room p ≡ without_room was

some_was : (o : Option Pool) (p : Pool) → Some (without_room p) ≡ option_map without_room o → (was : Pool) × (o ≡ Some was) × (without_room p ≡ without_room was)
some_was None p e = absurd cc
some_was (Some w) p e = (w, refl, same_Some _ _ e)

pub there_still : (old new : NameMap Pool) (q : Name) (p : Pool) → SameAgents old new → map.get new q ≡ Some p → IsStillThere old q p
there_still old new q p h e = let w = some_was (map.get old q) p (sym (ap (option_map without_room) e) ∙ h.each q) in record { was = w.0; stood = w.1; same = w.2 }

pub same_atoms : (code : ProgramTable) (p q : Pool) → without_room p ≡ without_room q → atoms_of code.processes p ≡ atoms_of code.processes q
same_atoms code p q e = ap (λ (x : Name × NameMap (Kept Held)). mapped (seen_as code.processes x.0) x.1) e

-- whether the agent is here for which a location test asks, and what the test makes
module _ (code : ProgramTable) (agents : NameMap Pool) (name : Name) (r : Ready) (target : Name) (can : CanDo code agents name r) (asks : Asks code agents name r target) where
  finds_asked : finds code agents name r ≡ is_some (map.get agents target)
  finds_asked =
      ap (λ (o : Option Pool). is_some (o >>= λ p. map.get (atoms_of code.processes p) r.actor >>= asked_of >>= map.get agents)) can.here
      ∙ ap (λ (o : Option Name). is_some (o >>= map.get agents)) (asks.each can.agent can.here)

  pub local_makes : (here : Bool) (first second : Name) → is_some (map.get agents target) ≡ here
      → made_of kind.Local (finds code agents name r) first second ≡ made_of kind.Local here first second
  local_makes here first second e = ap (λ (t : Bool). made_of kind.Local t first second) (finds_asked ∙ e)

same_sides : (old new : NameMap Pool) → SameAgents old new → SameAgents new old
same_sides old new h = record { each = λ q. sym (h.each q) }

pub can_still : (code : ProgramTable) (old new : NameMap Pool) (name : Name) (r : Ready) → SameAgents old new → CanDo code old name r → CanDo code new name r
can_still code old new name r h can = let t = there_still new old name can.agent (same_sides old new h) can.here in record {
  agent = t.was;
  here = t.stood;
  ready = subst (λ m. IsReady code m r) (same_atoms code can.agent t.was t.same) can.ready;
}

pub asks_still : (code : ProgramTable) (old new : NameMap Pool) (name : Name) (r : Ready) (target : Name) → SameAgents old new → Asks code old name r target → Asks code new name r target
asks_still code old new name r target h asks = record {
  each = λ p e. let t = there_still old new name p h e in subst (λ m. (map.get m r.actor >>= asked_of) ≡ Some target) (sym (same_atoms code p t.was t.same)) (asks.each t.was t.stood);
}

-- no output for an agent comes of a test that does not find it
pub away_row : (code : ProgramTable) (a b : Pool) (r : Ready) (m : Name) (told : Option Packet) → LocalLeaves code a b r m false told → Reduces kind.Local code a b r made.Nothing still
away_row code a b r m None h = h
away_row code a b r m (Some x) h = absurd h

spare_at : (t : Bool) (after : Pool) (o : Option Pool) → 1 ≤ after.spare → ((p : Pool) → o ≡ Some p → 1 ≤ p.spare) → (p : Pool) → cond t (Some after) o ≡ Some p → 1 ≤ p.spare
spare_at true after o l h p e = subst (λ (y : Pool). 1 ≤ y.spare) (same_Some after p e) l
spare_at false after o l h p e = h p e

pub spare_still : (old new : NameMap Pool) (name : Name) (after : Pool) (q : Name) → new ≡ map.insert old name after → 1 ≤ after.spare → HasSpare old q → HasSpare new q
spare_still old new name after q e l h = record {
  each = λ p f. spare_at (same_name q name) after (map.get old q) l h.each p (sym (get-put old name after q) ∙ ap (λ m. map.get m q) (sym e) ∙ f);
}

first_agent : Name → List (Write Atom) → Name
first_agent n ((q, Some a) ∷ ws) = a.agent
first_agent n _ = n

-- the output is for the agent that was asked for
pub told_agent : (code : ProgramTable) (a b : Pool) (r : Ready) (mark : Name) (packet : Packet) (target : Name) → LocalLeaves code a b r mark true (Some packet) → IsTarget code a r target
    → packet.agent ≡ target
unfolding first_agent
told_agent code a b r mark packet target leaves asks =
    then (change_in kind.Local (own_sight code a true) (event_of 0 r (made.One mark))) _ (leaves 0) λ d is same.
    let w : Sight = own_sight code a true in
    let e : Event = event_of 0 r (made.One mark) in
    let t = inverted.told w e d (λ q. refl) is in
    let atoms : NameMap Atom = atoms_of code.processes a in
    let s : outside atoms d (put t.mark t.output ∷ put e.actor t.on.now ∷ []) ≡ Some (record still { atoms = put mark (output_of packet) ∷ [] }, atoms_of code.processes b) =
    subst (λ ws. outside atoms d ws ≡ Some (record still { atoms = put mark (output_of packet) ∷ [] }, atoms_of code.processes b)) t.atoms same in
    let out : packet.agent ≡ t.output.agent = ap (λ (q : Change × NameMap Atom). first_agent mark (q.0).atoms) (done s) in
    let who : asked_of t.on.atom ≡ Some target = subst (λ o. (o >>= asked_of) ≡ Some target) t.on.there asks in
    out ∙ t.of_agent ∙ same_Some _ _ (sym t.asks ∙ who)

pub same_twice : (a b c : NameMap Pool) → SameAgents a b → SameAgents b c → SameAgents a c
same_twice a b c h k = record { each = λ q. k.each q ∙ h.each q }

pub not_some : (o : Option Pool) → is_some o ≡ false → o ≡ None
not_some None e = refl
not_some (Some x) e = absurd cc

is_some_map : (o : Option Pool) → is_some (option_map without_room o) ≡ is_some o
is_some_map None = refl
is_some_map (Some x) = refl

some_value : (o : Option Pool) → is_some o ≡ true → (p : Pool) × (o ≡ Some p)
some_value None e = absurd cc
some_value (Some p) e = (p, refl)

some_put : (t : Bool) (after : Pool) (o : Option Pool) → is_some o ≡ true → is_some (cond t (Some after) o) ≡ true
some_put true after o e = refl
some_put false after o e = e

-- an agent that was there is there
pub still_some : (old ready between : NameMap Pool) (name target : Name) (after : Pool) → SameAgents old ready → between ≡ map.insert ready name after → is_some (map.get old target) ≡ true
    → (p : Pool) × (map.get between target ≡ Some p)
still_some old ready between name target after h e there =
    let ready_has : is_some (map.get ready target) ≡ true = sym (is_some_map (map.get ready target)) ∙ ap is_some (h.each target) ∙ is_some_map (map.get old target) ∙ there in
    some_value (map.get between target)
    (ap (λ m. is_some (map.get m target)) e ∙ ap is_some (get-put ready name after target) ∙ some_put (same_name target name) after (map.get ready target) ready_has)

module _ (alone : GoesOnAlone) (code : ProgramTable) (old mid new : Standing) (name : Name) (r : Ready) (target : Name)
    (gone : HasGone code old.agents name kind.Local r made.Nothing still mid.agents) (asks : Asks code old.agents name r target) (absent : map.get old.agents target ≡ None)
    (records : SameRecords old mid) (outgoing : mid.outgoing ≡ old.outgoing) (quiet : KeepsQuiet code old mid) (is : r.kind ≡ kind.Local)
    (noted : IsNoted mid (mid.clock + 1) (event_of mid.site r made.Nothing) None new) where
  abbrev passed : Stamped
  passed = record { stamp = new.clock; event = event_of mid.site r made.Nothing }

  passed_ends : gone_on (holding_of code old) name (atoms_of code.processes gone.after) passed.event None ≡ holding_of code new
  passed_ends = λ i. record {
    site = (sym (noted.site ∙ records.site)) i;
    sites = length code.sites;
    agents = (sym (ap (mapped (atoms_of code.processes)) (noted.agents ∙ gone.agents) ∙ mapped-put (atoms_of code.processes) old.agents name gone.after)) i;
    next = (sym (noted.next ∙ records.next)) i;
    said = (sym (ap (λ (h : Recorded). h.said) noted.history ∙ ap (λ (h : Recorded). h.said) records.history)) i;
  }

  passes : Does (holding_of code old) (deed_of code (record { stamp = new.clock; event = event_of mid.site r made.Nothing }) None None) (holding_of code new)
  passes = subst (Does (holding_of code old) (inner passed)) passed_ends
      (alone (holding_of code old) passed name target (atoms_of code.processes gone.before) (atoms_of code.processes gone.after)
      (record { site = records.site; kind = is; stands = mapped_there (atoms_of code.processes) old.agents name gone.before gone.stood; makes = tt })
      (asks.each gone.before gone.stood) (get-mapped (atoms_of code.processes) old.agents target ∙ ap (option_map (atoms_of code.processes)) absent) (gone.goes mid.site))

  pub has_passed : HasDoneEvent code old new (event_of mid.site r made.Nothing)
  has_passed = done_inner code old mid new passed.event None records (lines_are_same _ _ outgoing) quiet noted records.site passes

module _ (tells : Tells) (code : ProgramTable) (old mid new : Standing) (name : Name) (r : Ready) (target mark : Name) (packet : Packet) (ready between : NameMap Pool)
    (same : SameAgents old.agents ready) (told : HasTold code ready name r mark packet between) (for_it : packet.agent ≡ target) (named : AreNamed between)
    (before : Pool) (there : map.get between target ≡ Some before) (got : HasGot between target before mark packet.chan packet.value packet.tag mid.agents)
    (records : SameRecords old mid) (outgoing : mid.outgoing ≡ old.outgoing) (quiet : KeepsQuiet code old mid) (is : r.kind ≡ kind.Local) (mark_is : mark ≡ name_of old.site old.next)
    (stood : Pool) (stood_is : map.get old.agents name ≡ Some stood) (stood_same : atoms_of code.processes told.before ≡ atoms_of code.processes stood)
    (noted : IsNoted mid (mid.clock + 1) (event_of mid.site r (made.One mark)) None new) where
  abbrev saying : Stamped
  saying = record { stamp = new.clock; event = event_of mid.site r (made.One mark) }

  between_seen : mapped (atoms_of code.processes) between ≡ map.insert (mapped (atoms_of code.processes) old.agents) name (atoms_of code.processes told.after)
  between_seen = ap (mapped (atoms_of code.processes)) told.agents ∙ mapped-put (atoms_of code.processes) ready name told.after
      ∙ ap (λ m. map.insert m name (atoms_of code.processes told.after)) (same_seen code.processes old.agents ready same)

  told_ends : given (gone_on (holding_of code old) name (atoms_of code.processes told.after) saying.event None) packet.agent (atoms_of code.processes before) mark (output_of packet)
      ≡ holding_of code new
  told_ends = λ i. record {
    site = (sym (noted.site ∙ records.site)) i;
    sites = length code.sites;
    agents = (sym (ap (mapped (atoms_of code.processes)) noted.agents
        ∙ got_seen code.processes between mid.agents target before mark packet.chan packet.value packet.tag (named.each target before there) got
        ∙ ap (λ m. map.insert m target (map.insert (atoms_of code.processes before) mark (output_in target packet.chan packet.value packet.tag))) between_seen
        ∙ ap (λ n. map.insert (map.insert (mapped (atoms_of code.processes) old.agents) name (atoms_of code.processes told.after)) n
        (map.insert (atoms_of code.processes before) mark (output_in n packet.chan packet.value packet.tag))) (sym for_it))) i;
    next = (sym (noted.next ∙ ap (λ n. next_after n (made.One mark)) records.next)) i;
    said = (sym (ap (λ (h : Recorded). h.said) noted.history ∙ ap (λ (h : Recorded). h.said) records.history)) i;
  }

  tell : Does (holding_of code old) (deed_of code (record { stamp = new.clock; event = event_of mid.site r (made.One mark) }) None None) (holding_of code new)
  tell = subst (Does (holding_of code old) (inner saying)) told_ends
      (tells (holding_of code old) saying name mark packet (atoms_of code.processes told.before) (atoms_of code.processes told.after) (atoms_of code.processes before)
      (record { site = records.site; kind = is; stands = mapped_there (atoms_of code.processes) old.agents name stood stood_is ∙ ap Some (sym stood_same); makes = mark_is })
      (told.told mid.site)
      (ap (λ m. map.get m packet.agent) (sym between_seen) ∙ ap (map.get (mapped (atoms_of code.processes) between)) for_it
      ∙ mapped_there (atoms_of code.processes) between target before there))

  pub has_told : HasDoneEvent code old new (event_of mid.site r (made.One mark))
  has_told = done_inner code old mid new saying.event None records (lines_are_same _ _ outgoing) quiet noted records.site tell
