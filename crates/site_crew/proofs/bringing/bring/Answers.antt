use Rattle.site_crew.specs.Bringing.{HasNotBrought}
use Rattle.site_crew.proofs.Crewing.{grow_refl}
use Rattle.site_crew.proofs.bringing.bring.Goals as goal

pub returns-in-None-clause-grow : goal.returns-in-None-clause-grow
returns-in-None-clause-grow g c = grow_refl _

pub returns-in-None-clause-no : goal.returns-in-None-clause-no
returns-in-None-clause-no g c = λ no. HasNotBrought.nowhere c.in-None.ensures
