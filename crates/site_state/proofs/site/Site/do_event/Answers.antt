use Rattle.std.proofs.Common.{sym, ◌∙◌}
use Rattle.site_state.proofs.OwnKinds.{none_else}
use Rattle.site_state.proofs.site.Site.do_event.Goals as goal

pub unreachable-requires : goal.unreachable-requires
unreachable-requires c =
    let d = c.in_default in
    none_else c.args.code.now _ c.args.name c.args.r c.requires.can c.requires.post (sym c.is_inner.ensures ∙ c.if-is_inner.false) d.not-Print d.not-Send d.not-Depart d.not-Agent d.not-Local
