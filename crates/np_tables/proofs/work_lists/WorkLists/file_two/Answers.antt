use Rattle.std.proofs.Common.{ap, ◌∙◌}
use Rattle.std.specs.FinMap as map
use Rattle.np_tables.specs.Errands.{Work}
use Rattle.np_tables.proofs.Tables.{cut-put_absent}
use Rattle.np_tables.proofs.work_lists.WorkLists.file_two.Goals as goal

pub returns-in-Err-clause-err : goal.returns-in-Err-clause-err
returns-in-Err-clause-err c =
    c.remove.ensures ∙ ap (λ (w : Work). map.remove w c.args.new_mark) (c.in-Err.ensures.err ∙ c.in_ok-file.ensures.ok)
    ∙ cut-put_absent c.args.self.now c.args.new_mark c.args.new_errand c.requires.absent
