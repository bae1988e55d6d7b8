use Rattle.std.proofs.Common.{◌≡◌, ◌+◌, false, None, refl, sym, subst}
use Rattle.std.specs.FinMap as map
use Rattle.np_syntax.specs.declared.event.Kind.TheVariants as kind
use Rattle.np_syntax.specs.declared.event.Made.TheVariants as made
use Rattle.np_site_runs.specs.Holdings.{name_of}
use Rattle.site_state.specs.Parts.{Asks}
use Rattle.site_state.specs.Standings.{Standing}
use Rattle.site_state.proofs.Done.{done_as, same_quiet}
use Rattle.site_state.proofs.Lines.{lines_same}
use Rattle.site_state.proofs.Sites.{on_any}
use Rattle.site_state.proofs.Tellings.{has_passed, local_makes, not_some}
use Rattle.site_state.proofs.site.Site.do_away.Goals as goal

pub returns-in_err-away_in-clause-err : goal.returns-in_err-away_in-clause-err
returns-in_err-away_in-clause-err c =
    let code = c.args.code.now in
    rw (← c.self.view_is) (on_any c.from_residual.result record {
      same = record { site = refl; agents = c.in_err-away_in.ensures.err; next = refl; clock = refl; history = refl; outgoing = lines_same _ };
      quiet = λ q. same_quiet code _ _ refl refl (c.away_in.ensures.keeps.quiet code (same_quiet code _ _ refl refl q));
    })

pub returns-clause-ok : goal.returns-clause-ok
returns-clause-ok c =
    let s = c.self.inside in
    let code = c.args.code.now in
    let agents = c.away_in.new.agents in
    let mid : Standing = record { site = s.site; agents = agents.agents; quiet = agents.quiet; next = s.next; clock = s.clock; history = s.history.history; outgoing = s.outgoing.lines } in
    let old = c.args.self.now in
    let makes = local_makes code old.agents c.args.name c.args.r c.args.target c.requires.can c.requires.asks false (name_of old.site old.next) (name_of old.site (old.next + 1)) c.requires.absent in
    done_as code old _ c.args.name c.args.r kind.Local made.Nothing c.requires.kind makes
    (rw (← c.self.view_is) (has_passed c.law_own_events.ensures.alone code _ mid c.note.new.self c.args.name c.args.r c.args.target c.in_ok-away_in.ensures.ok
    (subst (λ (x : Standing). Asks code x.agents c.args.name c.args.r c.args.target) (sym c.self.view_is) c.requires.asks)
    (subst (λ (x : Standing). map.get x.agents c.args.target ≡ None) (sym c.self.view_is) (not_some _ c.requires.absent))
    (record { site = refl; next = refl; clock = refl; history = refl }) refl
    (λ q. same_quiet code _ _ refl refl (c.away_in.ensures.keeps.quiet code (same_quiet code _ _ refl refl q))) c.requires.kind c.note.ensures.noted))
