use Rattle.std.proofs.lemmas.Grind.{common_steps}
use Rattle.std.proofs.Common.{◌≡◌, ◌<◌, ◌++◌, ℕ, true, false, Option, IfSome, refl, ap, sym, ◌∙◌, subst, arith}
use Rattle.site_links.specs.Words.{only_at}
use Rattle.site_links.proofs.Kept.{Begins-same}
use Rattle.site_links.specs.declared.port.Port as Port
use Rattle.agent_move.specs.declared.item.Item.{Item}
use Rattle.site_state.specs.Lines.{queue_at}
use Rattle.site_turn.specs.declared.seat.Seat.{Seat}
use Rattle.site_turn.specs.Turns.{IsStrange, SetsAside}
use Rattle.site_turn.proofs.Steps.{turned_received, turned_refl, turned_still}
use Rattle.site_crew.specs.Bringing.{HasGot, HasNotTaken}
use Rattle.site_crew.proofs.Redoing.{adds_last, has_accepted, moves_alone, port_admitted}
use Rattle.site_crew.proofs.bringing.take_for.Goals as goal

has-got : {P R : Type 0} {g : Port.Ghosts P R Item} (a b : Seat P) (p : P) (from : ℕ) (item : Item) → from < g.among a.port → ((k : ℕ) → g.got p k ≡ g.got a.port k ++ only_at k from item)
    → ((k : ℕ) → (g.sent p k ≡ g.sent a.port k) × (g.room p k ≡ g.room a.port k)) → b.port ≡ p → HasGot g from item a b
has-got {P} {R} {g} a b p from item within got sent port = record {
  within = within;
  got = λ k. ap (λ q. g.got q k) port ∙ got k;
  sent = λ k. ap (λ q. g.sent q k) port ∙ (sent k).0;
}

strange-here : {P : Type 0} {item : Item} (m b : Seat P) → SetsAside m item b → b.failed ≡ false → IsStrange m.site.site item
strange-here {P} {item} m b sets ok =
    let s = subst (λ (o : Option Item). IfSome o (IsStrange b.site.site)) sets.aside (sets.strange ok) in
    subst (λ (n : ℕ). IsStrange n item) sets.site.same.site s

pub returns-then-is_some-clause-moves : goal.returns-then-is_some-clause-moves
returns-then-is_some-clause-moves g c = λ i. moves_alone (turned_refl _) refl refl

pub returns-then-is_some-clause-no : goal.returns-then-is_some-clause-no
returns-then-is_some-clause-no g c = λ no. HasNotTaken.aside (λ none. grind (arith, common_steps))

pub returns-then-not-has_room-clause-moves : goal.returns-then-not-has_room-clause-moves
returns-then-not-has_room-clause-moves g c = λ i. moves_alone (turned_refl _) refl refl

pub returns-then-not-has_room-clause-no : goal.returns-then-not-has_room-clause-no
returns-then-not-has_room-clause-no g c = λ no. HasNotTaken.full (λ room. let full : false ≡ true = c.if-not-has_room.ensures.1 room in absurd cc)

pub returns-in-None-clause-moves : goal.returns-in-None-clause-moves
returns-in-None-clause-moves g c =
    let h = c.in-None.ensures in λ i. record {
      turned = turned_still (record {
        number = refl;
        holding = refl;
        clock = refl;
        history = refl;
        aside = refl;
        got = λ k. (h.taken k).0;
        put = λ t. ap (λ l. l ++ queue_at c.args.seat.now.site.outgoing t) (h.putting t).0;
      }) (λ q. q) (λ t. Begins-same _ _ (h.putting t).0) h.keeps refl refl (λ f. f);
      sent = λ k apart. (h.putting k).0;
      room = λ k apart. let same = (h.putting k).1 in omega (arith, same);
      got = λ apart k. absurd (apart refl);
      waits = λ apart. refl;
    }

pub returns-in-None-clause-no : goal.returns-in-None-clause-no
returns-in-None-clause-no g c = λ no. HasNotTaken.none (λ k. (c.in-None.ensures.taken k).1)

pub returns-then-seat-clause-moves : goal.returns-then-seat-clause-moves
returns-then-seat-clause-moves g c = λ i.
    let h = c.in-Some.ensures in
    let port = port_admitted _ _ c.admit-accepted.result c.admit-accepted.ensures.yes c.admit-accepted.ensures.no in record {
      turned = turned_received c.admit-accepted.result h.taken.0 c.in-Some.item c.requires h.taken.1 h.keeps h.putting h.taken.2.taken refl refl refl c.admit-accepted.ensures.yes c.admit-accepted.ensures.no;
      sent = λ k apart. ap (λ p. g.P.Port.sent p k) port ∙ (h.putting k).0;
      room = λ k apart. let same = ap (λ p. g.P.Port.room p k) port ∙ (h.putting k).1 in omega (arith, same);
      got = λ apart. absurd (apart refl);
      waits = λ apart. absurd (apart refl);
    }

pub returns-then-not-accepted-clause-moves : goal.returns-then-not-accepted-clause-moves
returns-then-not-accepted-clause-moves g c = λ i.
    let h = c.in-Some.ensures in
    let port = port_admitted _ _ c.admit-accepted.result c.admit-accepted.ensures.yes c.admit-accepted.ensures.no in record {
      turned = turned_received c.admit-accepted.result h.taken.0 c.in-Some.item c.requires h.taken.1 h.keeps h.putting h.taken.2.taken refl refl refl c.admit-accepted.ensures.yes c.admit-accepted.ensures.no;
      sent = λ k apart. ap (λ p. g.P.Port.sent p k) port ∙ (h.putting k).0;
      room = λ k apart. let same = ap (λ p. g.P.Port.room p k) port ∙ (h.putting k).1 in omega (arith, same);
      got = λ apart. absurd (apart refl);
      waits = λ apart. absurd (apart refl);
    }

pub returns-then-not-accepted-clause-no : goal.returns-then-not-accepted-clause-no
returns-then-not-accepted-clause-no g c = λ no.
    let h = c.in-Some.ensures in
    let sets = c.admit-accepted.ensures.no c.if-not-accepted.true in
    HasNotTaken.strange h.taken.0 c.in-Some.item (has-got c.args.seat.now _ _ h.taken.0 c.in-Some.item h.taken.1 h.taken.2.taken h.putting sets.port) (strange-here _ _ sets c.if-seat.false)

pub returns-else-not-accepted-clause-moves : goal.returns-else-not-accepted-clause-moves
returns-else-not-accepted-clause-moves g c = λ i.
    let h = c.in-Some.ensures in
    let port = port_admitted _ _ c.admit-accepted.result c.admit-accepted.ensures.yes c.admit-accepted.ensures.no in record {
      turned = turned_received c.admit-accepted.result h.taken.0 c.in-Some.item c.requires h.taken.1 h.keeps h.putting h.taken.2.taken refl refl refl c.admit-accepted.ensures.yes c.admit-accepted.ensures.no;
      sent = λ k apart. ap (λ p. g.P.Port.sent p k) port ∙ (h.putting k).0;
      room = λ k apart. let same = ap (λ p. g.P.Port.room p k) port ∙ (h.putting k).1 in omega (arith, same);
      got = λ apart. absurd (apart refl);
      waits = λ apart. absurd (apart refl);
    }

pub returns-else-not-accepted-clause-yes : goal.returns-else-not-accepted-clause-yes
returns-else-not-accepted-clause-yes g c = λ yes.
    let accepts = c.admit-accepted.ensures.yes c.if-not-accepted.false in
    adds_last c.args.event c.args.stamp c.args.seat.now c.admit-accepted.new.seat (has_accepted c.args.code.now c.args.seat.now c.admit-accepted.new.seat c.in-Some.item (sym c.requires.placed.lines) accepts.site)
    c.if-seat.false (c.is_last.ensures.yes yes)

pub returns-else-not-accepted-clause-got : goal.returns-else-not-accepted-clause-got
returns-else-not-accepted-clause-got g c = λ yes.
    let h = c.in-Some.ensures in
    let accepts = c.admit-accepted.ensures.yes c.if-not-accepted.false in
    record { from = h.taken.0; item = c.in-Some.item; got = has-got c.args.seat.now _ _ h.taken.0 c.in-Some.item h.taken.1 h.taken.2.taken h.putting accepts.port; aside = accepts.aside }

pub returns-else-not-accepted-clause-no : goal.returns-else-not-accepted-clause-no
returns-else-not-accepted-clause-no g c = λ no.
    let h = c.in-Some.ensures in
    let accepts = c.admit-accepted.ensures.yes c.if-not-accepted.false in
    HasNotTaken.other h.taken.0 c.in-Some.item (has-got c.args.seat.now _ _ h.taken.0 c.in-Some.item h.taken.1 h.taken.2.taken h.putting accepts.port) accepts.site (c.is_last.ensures.no no)
