use Rattle.std.proofs.Common.{◌≡◌, true, ap, sym, ◌∙◌, Some, None}
use Rattle.clap.specs.Words.{app_of, found_of, rows_of, is_simple_and_free}
use Rattle.np_words.specs.Arguments.{command, given, taken}
use Rattle.np_words.proofs.Commands.{free, taken_matches, not_taken, same_words, planned_is, no_plan}
use Rattle.np_words.proofs.planning.plan_of.Goals as goal

pub returns-in-Ok-try_get_matches_from-clause-plans : goal.returns-in-Ok-try_get_matches_from-clause-plans
returns-in-Ok-try_get_matches_from-clause-plans c =
    let is : app_of c.in-Ok.command ≡ command = c.in-Ok.ensures in
    let parse = c.in-Ok-try_get_matches_from in
    let simple : is_simple_and_free (app_of c.in-Ok.command) ≡ true = ap is_simple_and_free is ∙ free in
    let taken_is : taken c.args.words.now ≡ Some (given (rows_of (found_of parse.matches))) =
    ap taken (sym (same_words _)) ∙ taken_matches _ _ parse.matches is parse.ensures.matches (parse.ensures.kinds simple) in
    planned_is c.args.words.now _ _ c.planned.result taken_is c.given_by.ensures c.planned.ensures.plans

pub returns-clause-plans : goal.returns-clause-plans
returns-clause-plans c =
    let is : app_of c.in-Ok.command ≡ command = c.in-Ok.ensures in
    let simple : is_simple_and_free (app_of c.in-Ok.command) ≡ true = ap is_simple_and_free is ∙ free in
    let not_taken_is : taken c.args.words.now ≡ None =
    ap taken (sym (same_words _)) ∙ not_taken _ _ c.in-Err.error is (c.in-Err.ensures.kinds simple) (λ e. c.in_default-kind.not-OutOfMemory (c.kind.ensures ∙ e)) in
    no_plan c.args.words.now not_taken_is
