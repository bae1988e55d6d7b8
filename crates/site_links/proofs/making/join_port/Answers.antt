use Rattle.std.proofs.Common.{sym}
use Rattle.site_links.proofs.Ties.{partly_none, made_joined, made_as}
use Rattle.site_links.proofs.making.join_port.Goals as goal

pub link_each-requires : goal.link_each-requires
link_each-requires g c = partly_none g.E.Ends _ (made_as g.E.Ends _ _ c.requires (sym c.requires.count)) (sym c.requires.count) c.new.ensures.items

pub returns : goal.returns
returns g c = made_joined g.E.Ends c.args.number c.in_ok-link_each.ensures c.in_ok-link_own.ensures c.in_ok-push.ensures.items c.requires.count
