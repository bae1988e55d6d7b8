use Rattle.std.proofs.Common.{sym, subst}
use Rattle.std.proofs.lemmas.Result.{on_ok_weaker}
use Rattle.run_save.specs.declared.notes.Links.{Links}
use Rattle.run_save.specs.Travels.{puts}
use Rattle.run_save.specs.Notes.{Tells}
use Rattle.run_save.proofs.LinkLaws.{put-told}
use Rattle.run_save.proofs.notes.Links.put.Goals as goal

pub returns : goal.returns
returns c =
    let new : Links = record { alloc = c.args.self.now.alloc; senders = c.insert.new.self; queues = c.enter.new.queues } in
    on_ok_weaker c.enter.result
    (λ sets t told. subst (λ trip. Tells new (puts t trip)) (sym c.in-Some.is) (put-told c.args.self.now new t c.in-Some.trip told c.in_ok-insert.ensures.updates.0 sets))
    c.enter.ensures
