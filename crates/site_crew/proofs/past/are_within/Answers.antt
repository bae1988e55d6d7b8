use Rattle.std.proofs.Common.{◌≡◌, ◌<◌, ◌≤◌, ℕ, Bool, true, false, List, Option, None, Some, not, ap, ◌∙◌, arith}
use Rattle.std.specs.Prelude.{MatchOption, is_some}
use Rattle.np_syntax.specs.declared.event.Event.{Event}
use Rattle.run_save.specs.following.Following.{events_at}
use Rattle.site_crew.specs.Lists.{AreWithin, IsFirstPast}
use Rattle.site_crew.proofs.past.are_within.Goals as goal

-- where one is past the budget, not all are within it
not_within : (sites budget : ℕ) (es : List Event) (o : Option ℕ) (b : Bool) → MatchOption o (AreWithin sites budget es) (IsFirstPast sites budget es) → is_some o ≡ not b → b ≡ false
    → AreWithin sites budget es → ⊥
not_within sites budget es None b found told e within = let same : false ≡ true = told ∙ ap not e in absurd cc
not_within sites budget es (Some s) b found told e within =
    let more : budget < events_at s es = found.more in let few : events_at s es ≤ budget = within.each s found.site in absurd (omega arith)

pub returns-clause-no : goal.returns-clause-no
returns-clause-no c = not_within c.args.sites c.args.budget c.args.events.now c.first_past.result c.is_none.result c.first_past.ensures c.is_none.ensures
