use Rattle.std.proofs.Common.{◌≡◌, cond, is_some, ap, arith, ◌∙◌}
use Rattle.std.proofs.lemmas.Grind.{common_steps}
use Rattle.std.specs.FinMap as map
use Rattle.np_tables.specs.Names.{same_name}
use Rattle.np_tables.proofs.MarkLaws.{on_ok}
use Rattle.run_choices.specs.Lines.{line_of}
use Rattle.run_choices.proofs.Lists.{refreshed-kept}
use Rattle.run_choices.proofs.waiting.Waiting.refresh.Goals as goal

pub returns-clause-kept : goal.returns-clause-kept
returns-clause-kept c =
    let old = c.args.self.now in
    let mid = c.refile.new.self in
    let name = c.args.name in
    let flies : c.is_some-flies.result ≡ is_some (map.get c.args.c.now.packets c.args.name) = grind (arith, common_steps) in
    on_ok c.set_entry-2.result
    (λ two.
    refreshed-kept c.args.c.now name old.filed.items mid.filed.items (line_of old.lines) (line_of mid.lines) old.list.entries.keys mid.list.entries.keys c.set_entry.new.entries.keys
    c.set_entry-2.new.entries.keys c.is_some-flies.result c.is_under_way.result
    (λ q. c.in_ok-refile.ensures.filed q ∙ ap (λ o. cond (same_name q name) o (map.get old.filed.items q)) c.errand_in.ensures)
    c.in_ok-refile.ensures.coming c.in_ok-set_entry.ensures flies two c.is_under_way.ensures)
    c.set_entry-2.ensures
