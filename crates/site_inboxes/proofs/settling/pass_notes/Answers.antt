use Rattle.std.proofs.Common.{sym, subst, ◌∙◌}
use Rattle.crossbeam_queue.specs.Passes.{view}
use Rattle.np_inbox_rule.specs.declared.views.View.{View}
use Rattle.site_links.specs.Words.{Begins}
use Rattle.np_inbox_rule.specs.Steps.{sent_in, last_in}
use Rattle.np_inbox_rule.proofs.Steps.{sent-forks, got-forks, sent-merges, got-merges, look-learns}
use Rattle.site_inboxes.proofs.Roles.{settled-is}
use Rattle.site_inboxes.proofs.settling.pass_notes.Goals as goal

pub another-note-requires-clause-rule : goal.another-note-requires-clause-rule
another-note-requires-clause-rule g c = sent-forks g.I.Addressed.sender c.args.sender.now.id (view c.args.sender.now)

pub absorb-requires-clause-rule : goal.absorb-requires-clause-rule
absorb-requires-clause-rule g c = sent-merges g.I.Addressed.sender c.args.owner.now.id c.another-note.result.id (view c.args.owner.now) (view c.another-note.result)

pub another-note-requires-2-clause-rule : goal.another-note-requires-2-clause-rule
another-note-requires-2-clause-rule g c = got-forks g.I.Addressed.sender c.absorb.new.pass.id (view c.absorb.new.pass)

pub absorb-requires-2-clause-rule : goal.absorb-requires-2-clause-rule
absorb-requires-2-clause-rule g c = got-merges g.I.Addressed.sender c.another-note.new.pass.id c.another-note-2.result.id (view c.another-note.new.pass) (view c.another-note-2.result)

pub learn_as-requires-clause-rule : goal.learn_as-requires-clause-rule
learn_as-requires-clause-rule g c = look-learns g.I.Addressed.sender c.absorb-2.new.pass.id (view c.absorb-2.new.pass)

pub returns-clause-settled : goal.returns-clause-settled
returns-clause-settled g c =
    let first = c.another-note.ensures.rule in let second = c.another-note-2.ensures.rule in
    settled-is g.I.Addressed.sender (view c.args.sender.now) (view c.another-note.new.pass) (view c.another-note.result) (view c.args.owner.now) (view c.absorb.new.pass) (view c.another-note-2.new.pass)
    (view c.another-note-2.result) (view c.learn_as.new.pass) c.requires.roles.0 c.requires.roles.1 first.0 first.1 c.absorb.ensures.rule second.0 second.1
    (c.learn_as.ensures.queue.1 ∙ c.absorb-2.ensures.rule)

pub returns-clause-freed : goal.returns-clause-freed
returns-clause-freed g c = subst (λ (v : View g.row.I.Denot). Begins (sent_in v) (last_in v)) (sym c.learn_as.ensures.queue.1) c.learn_as.ensures.rule.1
