use Rattle.std.proofs.Common.{◌≡◌, ◌∙◌, ◌∷◌, [], List, None, Some, ap, sym}
use Rattle.std.specs.Prelude.{slice_get}
use Rattle.np_syntax.specs.declared.event.Event.{Event}
use Rattle.np_syntax.proofs.Options.{some_is}
use Rattle.agent_move.specs.declared.item.Item.{Item}
use Rattle.item_events.specs.Coming.{event_for}
use Rattle.site_state.specs.Lines.{queue_at}
use Rattle.site_turn.specs.declared.seat.Seat.{Seat}
use Rattle.site_crew.specs.Bringing.{HasDue}
use Rattle.site_crew.proofs.bringing.has_due.Goals as goal

-- the first of a list
first-is : (xs : List Item) (x : Item) → Some x ≡ slice_get xs 0 → (later : List Item) × (xs ≡ x ∷ later)
first-is [] x e = absurd (let f = e in cc)
first-is (y ∷ ys) x e = (ys, (let same : x ≡ y = cc in ap (λ z. z ∷ ys) (sym same)))

has-due : {P : Type 0} (s : Seat P) (e : Event) (x : Item) → Some x ≡ slice_get (queue_at s.site.outgoing e.site) 0 → event_for e.site x.load ≡ e → HasDue e s
has-due s e x first comes = let f = first-is (queue_at s.site.outgoing e.site) x first in record { item = x; later = f.0; first = f.1; comes = comes }

not-due : {P : Type 0} (s : Seat P) (e : Event) (x : Item) → Some x ≡ slice_get (queue_at s.site.outgoing e.site) 0 → (event_for e.site x.load ≡ e → ⊥) → HasDue e s → ⊥
not-due s e x first missed due =
    let same : x ≡ due.item = some_is (slice_get (queue_at s.site.outgoing e.site) 0) x due.item (sym first) (ap (λ l. slice_get l 0) due.first) in
    missed (ap (λ (y : Item). event_for e.site y.load) same ∙ due.comes)

none-due : {P : Type 0} (s : Seat P) (e : Event) → None ≡ slice_get (queue_at s.site.outgoing e.site) 0 → HasDue e s → ⊥
none-due s e none due = let f : None ≡ Some due.item = none ∙ ap (λ l. slice_get l 0) due.first in cc

pub returns-in-Some-clause-yes : goal.returns-in-Some-clause-yes
returns-in-Some-clause-yes g c = λ yes. has-due c.args.seat.now c.args.event c.in-Some.item.now c.in-Some.ensures (c.brings.ensures.yes yes)

pub returns-in-Some-clause-no : goal.returns-in-Some-clause-no
returns-in-Some-clause-no g c = λ no. not-due c.args.seat.now c.args.event c.in-Some.item.now c.in-Some.ensures (c.brings.ensures.no no)

pub returns-in-None-clause-no : goal.returns-in-None-clause-no
returns-in-None-clause-no g c = λ no. none-due c.args.seat.now c.args.event c.in-None.ensures
