use Rattle.std.proofs.Common.{◌+◌, false, None, refl, sym, ap, subst, ◌∙◌}
use Rattle.np_syntax.specs.declared.event.Kind.TheVariants as kind
use Rattle.np_site_runs.specs.Holdings.{name_of}
use Rattle.np_calculus.specs.Rows.{made_of}
use Rattle.agent_pool.specs.Rows.{event_of}
use Rattle.site_state.specs.Doing.{finds}
use Rattle.site_state.specs.Parts.{IsNoted}
use Rattle.site_state.specs.Standings.{holding_of}
use Rattle.site_state.proofs.Done.{done_as, has_done}
use Rattle.site_state.proofs.Rows.{inner_made, inner_makes, not_inner}
use Rattle.site_state.proofs.site.Site.do_inner.Goals as goal

pub returns-clause-ok : goal.returns-clause-ok
returns-clause-ok c =
    let mid = c.reduce.new.self in
    let r = c.args.r in
    let code = c.args.code.now in
    let s = c.args.self.now in
    let first = c.next_name-first.result in
    let makes = inner_made r.kind (finds code s.agents c.args.name r) (name_of s.site s.next) (name_of s.site (s.next + 1)) c.requires.inner
    ∙ ap (λ n. made_of r.kind false n n) (sym c.next_name-first.ensures) in
    done_as code s _ c.args.name r r.kind (made_of r.kind false first first) refl makes
    (has_done c.law_own_events.ensures.on code s mid c.note.new.self c.args.name r _ None c.in_ok-reduce.ensures.ok
    (subst (λ m. IsNoted mid (mid.clock + 1) (event_of mid.site r m) None c.note.new.self) c.made_of.ensures c.note.ensures.noted)
    (not_inner r.kind kind.Local c.requires.inner refl) (not_inner r.kind kind.Post c.requires.inner refl)
    (inner_makes r.kind (holding_of code s) first c.requires.inner c.next_name-first.ensures))
