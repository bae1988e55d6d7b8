use Rattle.std.proofs.Common.{refl, sym, ap, ◌∙◌}
use Rattle.np_tables.specs.Lines.{has_some}
use Rattle.np_tables.proofs.LineLaws.{leave_none, none_left, line_written, some-is_empty, none_of-empty}
use Rattle.np_tables.proofs.by_errand.leave.Goals as goal

pub returns-in_default : goal.returns-in_default
returns-in_default c = record {
  lines = leave_none c.args.lines.now _ c.args.errand c.args.mark c.in_default.ensures.value c.get_mut.follows.holds-at-none;
  others = none_left c.args.lines.now _ c.args.errand c.in_default.ensures.value c.get_mut.follows.holds-at-none;
}

pub returns-then-not-is_empty-clause-others : goal.returns-then-not-is_empty-clause-others
returns-then-not-is_empty-clause-others c =
    some-is_empty _ c.remove.new.self c.if-not-is_empty.ensures.0 c.if-not-is_empty.ensures.1
    ∙ ap has_some (sym (line_written c.args.lines.now (c.get_mut.follows.lender c.remove.new.self) c.args.errand c.in-Some.line.now c.remove.new.self c.in-Some.ensures.value (λ there. ((c.get_mut.follows.holds c.remove.new.self).3 there).0)))

pub give_up-requires : goal.give_up-requires
give_up-requires c =
    ap has_some (line_written c.args.lines.now (c.get_mut.follows.lender c.remove.new.self) c.args.errand c.in-Some.line.now c.remove.new.self c.in-Some.ensures.value (λ there. ((c.get_mut.follows.holds c.remove.new.self).3 there).0))
    ∙ none_of-empty c.remove.new.self (c.if-not-is_empty.ensures.0 refl)

pub returns-clause-others : goal.returns-clause-others
returns-clause-others c =
    sym (ap has_some (c.give_up.ensures.same c.args.errand ∙ line_written c.args.lines.now (c.get_mut.follows.lender c.remove.new.self) c.args.errand c.in-Some.line.now c.remove.new.self c.in-Some.ensures.value (λ there. ((c.get_mut.follows.holds c.remove.new.self).3 there).0))
    ∙ none_of-empty c.remove.new.self (c.if-not-is_empty.ensures.0 refl))
