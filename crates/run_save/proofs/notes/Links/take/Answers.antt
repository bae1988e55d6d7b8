use Rattle.std.proofs.Common.{◌≡◌, None, Some, sym, subst, refl}
use Rattle.run_save.specs.declared.trips.Trip.{Trip}
use Rattle.run_save.specs.declared.notes.Links.{Links}
use Rattle.run_save.specs.Travels.{IsFirstInFirstOut, same_item, sender, takes}
use Rattle.run_save.specs.Notes.{IsTold}
use Rattle.run_save.proofs.LinkLaws.{first-told, none-left, stray-taken, takes-from}
use Rattle.run_save.proofs.notes.Links.take.Goals as goal

pub returns-in-Some-take_first : goal.returns-in-Some-take_first
returns-in-Some-take_first c = λ t told.
    (let old : Links = c.args.self.now in
    let new : Links = record { alloc = old.alloc; senders = old.senders; queues = c.take_first.new.queues } in
    let last = told.senders c.args.item in
    let is : sender t.put c.args.item ≡ Some c.in-Some.from = cc in
    let trip : Trip = record { item = c.args.item; link = record { from = c.in-Some.from; to = c.args.site } } in
    let met = first-told old t trip told new refl c.in-Some-take_first.first c.in-Some-take_first.ensures in
    subst (λ b. IsTold b new (takes t c.args.item c.args.site)) (sym c.eq.ensures)
    (subst (IsTold (same_item c.in-Some-take_first.first c.args.item) new) (sym (takes-from t c.args.item c.args.site c.in-Some.from is)) met))

pub returns-in-None : goal.returns-in-None
returns-in-None c = λ t told.
    (let last = told.senders c.args.item in
    let is : sender t.put c.args.item ≡ Some c.in-Some.from = cc in
    let trip : Trip = record { item = c.args.item; link = record { from = c.in-Some.from; to = c.args.site } } in
    λ order. none-left c.args.self.now t trip told c.in-None.ensures (subst IsFirstInFirstOut (takes-from t c.args.item c.args.site c.in-Some.from is) order))

pub returns-in_default : goal.returns-in_default
returns-in_default c = λ t told.
    (let last = told.senders c.args.item in
    let is : sender t.put c.args.item ≡ None = cc in
    stray-taken t c.args.item c.args.site is)
