use Rattle.std.proofs.Common.{◌≡◌, Some, sym, ap, ◌∙◌}
use Rattle.std.specs.FinMap as map
use Rattle.np_syntax.specs.declared.event.Kind.TheVariants as kind
use Rattle.site_state.specs.Standings.{Standing}
use Rattle.site_state.proofs.Rows.{met_here}
use Rattle.site_state.proofs.site.Site.target.Goals as goal

pub target-requires : goal.target-requires
target-requires c =
    let stood : map.get c.args.self.now.agents c.args.name ≡ Some c.in-Some.agent.now = sym (ap (λ (s : Standing). map.get s.agents c.args.name) c.self.view_is) ∙ sym c.in-Some.ensures in
    met_here c.args.code.now c.args.self.now.agents c.args.name c.args.r kind.Local c.requires.kind c.requires.can c.in-Some.agent.now stood c.args.name c.args.name
