use Rattle.page_html.proofs.Formed.{pages-formed}
use Rattle.page_html.proofs.laws.law_pages_formed.Goals as goal

pub returns : goal.returns
returns c = pages-formed
