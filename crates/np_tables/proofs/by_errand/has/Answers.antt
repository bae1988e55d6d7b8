use Rattle.std.proofs.Common.{sym, ap, ◌∙◌, unwrap_or}
use Rattle.std.specs.FinSet as set
use Rattle.np_tables.specs.Lines.{has_some}
use Rattle.np_tables.proofs.LineLaws.{some-is_empty, some-empty}
use Rattle.np_tables.proofs.by_errand.has.Goals as goal

pub returns-in-Some : goal.returns-in-Some
returns-in-Some c = some-is_empty c.is_empty.result c.in-Some.line.now c.is_empty.ensures.0 c.is_empty.ensures.1 ∙ ap (λ o. has_some (unwrap_or o set.empty)) c.in-Some.ensures.value

pub returns-in-None : goal.returns-in-None
returns-in-None c = sym some-empty ∙ ap (λ o. has_some (unwrap_or o set.empty)) c.in-None.ensures.value
