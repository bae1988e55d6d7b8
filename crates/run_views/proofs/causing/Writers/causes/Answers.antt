use Rattle.run_views.specs.Causes.{index_of}
use Rattle.run_views.proofs.Causings.{causes-found}
use Rattle.run_views.proofs.causing.Writers.causes.Goals as goal

pub returns : goal.returns
returns c = causes-found (index_of c.args.self.now) c.args.touched.now (record { actor = c.last.result; other = c.last-2.result; agent = c.last-3.result; asked = c.last-4.result })
    c.last.ensures c.last-2.ensures c.last-3.ensures c.last-4.ensures
