use Rattle.std.proofs.lemmas.Grind.{common_steps}
use Rattle.std.proofs.Common.{◌≡◌, ◌+◌, true, is_some, refl, sym, subst, arith}
use Rattle.std.specs.FinMap as map
use Rattle.np_syntax.specs.declared.event.Kind.TheVariants as kind
use Rattle.np_syntax.specs.declared.event.Made.TheVariants as made
use Rattle.np_site_runs.specs.Holdings.{name_of}
use Rattle.site_state.specs.Parts.{Asks}
use Rattle.site_agents.specs.Standings.{CanDo}
use Rattle.site_state.specs.Standings.{Standing}
use Rattle.site_state.proofs.Done.{done_as, same_quiet}
use Rattle.site_state.proofs.Lines.{lines_same}
use Rattle.site_state.proofs.Seats.{got_at}
use Rattle.site_state.proofs.Sites.{on_any}
use Rattle.site_state.proofs.Tellings.{asks_still, can_still, has_told, local_makes, same_atoms, same_twice, spare_still, still_some, there_still, told_agent}
use Rattle.site_state.proofs.site.Site.do_told.Goals as goal

pub returns-in_err-make_room-clause-err : goal.returns-in_err-make_room-clause-err
returns-in_err-make_room-clause-err c =
    let code = c.args.code.now in
    rw (← c.self.view_is) (on_any c.from_residual.result record {
      same = record { site = refl; agents = c.make_room.ensures.same; next = refl; clock = refl; history = refl; outgoing = lines_same _ };
      quiet = λ q. same_quiet code _ _ refl refl (c.make_room.ensures.keeps.quiet code (same_quiet code _ _ refl refl q));
    })

pub tell_in-requires-clause-can : goal.tell_in-requires-clause-can
tell_in-requires-clause-can c =
    can_still c.args.code.now c.self.inside.agents.agents c.make_room.new.agents.agents c.args.name c.args.r c.make_room.ensures.same
    (subst (λ (x : Standing). CanDo c.args.code.now x.agents c.args.name c.args.r) (sym c.self.view_is) c.requires.can)

pub returns-in_err-packet-clause-err : goal.returns-in_err-packet-clause-err
returns-in_err-packet-clause-err c =
    let code = c.args.code.now in
    rw (← c.self.view_is) (on_any c.from_residual-in_err-packet.result record {
      same = record {
        site = refl;
        agents = same_twice _ _ _ c.make_room.ensures.same c.in_err-packet.ensures.err;
        next = refl;
        clock = refl;
        history = refl;
        outgoing = lines_same _;
      };
      quiet = λ q. same_quiet code _ _ refl refl (c.tell_in.ensures.keeps.quiet code (c.make_room.ensures.keeps.quiet code (same_quiet code _ _ refl refl q)));
    })

pub give-requires-clause-spare : goal.give-requires-clause-spare
give-requires-clause-spare c =
    let told = c.in_ok-packet.ensures.ok in
    spare_still c.make_room.new.agents.agents c.tell_in.new.agents.agents c.args.name told.after c.args.target told.agents told.spare c.in_ok-make_room.ensures.spare

pub returns-clause-ok : goal.returns-clause-ok
returns-clause-ok c =
    let s = c.self.inside in
    let code = c.args.code.now in
    let agents = c.give.new.agents in
    let mid : Standing = record { site = s.site; agents = agents.agents; quiet = agents.quiet; next = s.next; clock = s.clock; history = s.history.history; outgoing = s.outgoing.lines } in
    let mark = name_of s.site s.next in
    let r = c.args.r in
    let target = c.args.target in
    let packet = c.in_ok-packet.packet in
    let told = c.in_ok-packet.ensures.ok in
    let ready = c.make_room.new.agents.agents in
    let between = c.tell_in.new.agents.agents in
    let asks : Asks code ready c.args.name r target = asks_still code s.agents.agents ready c.args.name r target c.make_room.ensures.same
    (subst (λ (x : Standing). Asks code x.agents c.args.name r target) (sym c.self.view_is) c.requires.asks) in
    let there = still_some s.agents.agents ready between c.args.name target told.after c.make_room.ensures.same told.agents
    (subst (λ (x : Standing). is_some (map.get x.agents target) ≡ true) (sym c.self.view_is) c.requires.there) in
    let was = there_still s.agents.agents ready c.args.name told.before c.make_room.ensures.same told.stood in
    let old = c.args.self.now in
    let makes = local_makes code old.agents c.args.name r target c.requires.can c.requires.asks true (name_of old.site old.next) (name_of old.site (old.next + 1)) c.requires.there in
    done_as code old _ c.args.name r kind.Local (made.One (name_of old.site old.next)) c.requires.kind makes
    (rw (← c.self.view_is) (has_told c.law_own_events.ensures.tells code _ mid c.note.new.self c.args.name r target mark packet ready between c.make_room.ensures.same told
    (told_agent code told.before told.after r mark packet target told.told (asks.each told.before told.stood))
    (c.tell_in.ensures.keeps.named (c.make_room.ensures.keeps.named c.self.invariant.0.named)) there.0 there.1
    (got_at between agents.agents target mark packet.chan packet.value packet.tag there.0 there.1 c.give.ensures.given)
    (record { site = refl; next = refl; clock = refl; history = refl }) refl
    (λ q. same_quiet code _ _ refl refl (c.give.ensures.keeps.quiet code (c.tell_in.ensures.keeps.quiet code (c.make_room.ensures.keeps.quiet code (same_quiet code _ _ refl refl q)))))
    c.requires.kind refl was.was was.stood (same_atoms code told.before was.was was.same)
    c.note.ensures.noted))

pub invariant_of-self-2 : goal.invariant_of-self-2
invariant_of-self-2 c = grind (arith, common_steps)

pub invariant_of-self-in_err-packet : goal.invariant_of-self-in_err-packet
invariant_of-self-in_err-packet c = grind (arith, common_steps)
