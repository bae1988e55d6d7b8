use Rattle.std.proofs.Common.{◌≡◌, ◌++◌, map, drop}
use Rattle.page_html.specs.declared.page.Row.{Row}
use Rattle.look_pages.specs.ShownPages.{line_of}
use Rattle.look_pages.proofs.rows.rows_for.Given as goal

-- the lines of the rows so far, and of those still to come
abbrev pub invariant-loop-step : goal.invariant-loop-step
invariant-loop-step l = map (λ (row : Row). row.event) l.rows ++ map line_of (drop l.step-index l.steps) ≡ map line_of l.steps
