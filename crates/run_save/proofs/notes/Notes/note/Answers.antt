use Rattle.std.proofs.lemmas.Bool.{OnTrue_at}
use Rattle.std.proofs.lemmas.Result.{IfOk-weaker}
use Rattle.np_syntax.proofs.Bools.{clash}
use Rattle.run_save.specs.declared.notes.Notes.{Notes}
use Rattle.run_save.specs.Travels.{travels}
use Rattle.run_save.proofs.RunLaws.{not-next, noted-more}
use Rattle.run_save.proofs.notes.Notes.note.Goals as goal

pub returns-then-not-branch : goal.returns-then-not-branch
returns-then-not-branch c = λ start before events noted reaches enabled ours.
    not-next c.args.self.now c.args.self.now start before c.args.after.now events c.args.e.now noted reaches enabled ours
    (λ next. clash c.if-not-branch.true (c.in_ok-makes.ensures.next.1 next))

pub returns : goal.returns
returns c =
    let new : Notes = record { made = c.makes.new.made; links = c.note.new.self } in
    IfOk-weaker c.note.result _ _
    (λ met told start before events noted reaches enabled ours. noted-more c.args.self.now new start before c.args.after.now events c.args.e.now noted reaches enabled ours met
    (c.in_ok-makes.ensures.next.0 c.if-not-branch.false) (OnTrue_at c.if-not-branch.false c.in_ok-makes.ensures.counts) (told (travels start events) noted.links))
    c.note.ensures
