use Rattle.std.proofs.lemmas.Grind.{common_steps}
use Rattle.std.proofs.Common.{◌+◌, refl, arith}
use Rattle.np_syntax.specs.declared.event.Kind.TheVariants as kind
use Rattle.np_syntax.specs.declared.event.Made.TheVariants as made
use Rattle.np_site_runs.specs.Holdings.{name_of}
use Rattle.site_state.specs.Standings.{Standing}
use Rattle.site_state.proofs.Births.{has_born}
use Rattle.site_state.proofs.Done.{done_as, same_quiet}
use Rattle.site_state.proofs.Lines.{lines_same}
use Rattle.site_state.proofs.Sites.{on_any}
use Rattle.site_state.proofs.site.Site.do_child.Goals as goal

pub returns-in_err-child_in-clause-err : goal.returns-in_err-child_in-clause-err
returns-in_err-child_in-clause-err c =
    let code = c.args.code.now in
    rw (← c.self.view_is) (on_any c.from_residual.result record {
      same = record { site = refl; agents = c.in_err-child_in.ensures.err; next = refl; clock = refl; history = refl; outgoing = lines_same _ };
      quiet = λ q. same_quiet code _ _ refl refl (c.child_in.ensures.keeps.quiet code (same_quiet code _ _ refl refl q));
    })

pub returns-clause-ok : goal.returns-clause-ok
returns-clause-ok c =
    let s = c.self.inside in
    let code = c.args.code.now in
    let agents = c.child_in.new.agents in
    let mid : Standing = record { site = s.site; agents = agents.agents; quiet = agents.quiet; next = s.next; clock = s.clock; history = s.history.history; outgoing = s.outgoing.lines } in
    let child = name_of s.site s.next in
    let mark = name_of s.site (s.next + 1) in
    let old = c.args.self.now in
    done_as code old _ c.args.name c.args.r kind.Agent (made.Two (name_of old.site old.next) (name_of old.site (old.next + 1))) c.requires.kind refl
    (rw (← c.self.view_is) (has_born c.law_own_events.ensures.makes code _ mid c.note.new.self c.args.name c.args.r child mark c.in_ok-child_in.ensures.ok
    (record { site = refl; next = refl; clock = refl; history = refl }) refl
    (λ q. same_quiet code _ _ refl refl (c.child_in.ensures.keeps.quiet code (same_quiet code _ _ refl refl q))) c.requires.kind refl refl c.note.ensures.noted))

pub invariant_of-self-2 : goal.invariant_of-self-2
invariant_of-self-2 c = grind (arith, common_steps)
