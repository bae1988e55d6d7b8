use Rattle.np_tables.proofs.MarkLaws.{on_ok}
use Rattle.run_choices.proofs.Lists.{refiled-none, refiled-some, unfiled-there}
use Rattle.run_choices.proofs.waiting.Waiting.refile.Goals as goal

pub file-requires-clause-absent : goal.file-requires-clause-absent
file-requires-clause-absent c = unfiled-there c.args.self.now.filed.items c.unfile.new.self.filed.items c.args.mark c.in_ok-unfile.ensures.filed

pub returns-in-Some-clause-filed : goal.returns-in-Some-clause-filed
returns-in-Some-clause-filed c =
    on_ok c.file.result
    (refiled-some c.args.self.now.filed.items c.unfile.new.self.filed.items c.file.new.self.filed.items c.args.mark c.args.errand c.in-Some.errand c.in-Some.is
    c.in_ok-unfile.ensures.filed)
    c.file.ensures.filed

pub returns-in-None-clause-filed : goal.returns-in-None-clause-filed
returns-in-None-clause-filed c =
    refiled-none c.args.self.now.filed.items c.unfile.new.self.filed.items c.args.mark c.args.errand c.in-None.is c.in_ok-unfile.ensures.filed
