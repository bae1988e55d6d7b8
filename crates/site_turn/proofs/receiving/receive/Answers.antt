use Rattle.std.proofs.lemmas.Grind.{common_steps}
use Rattle.std.proofs.Common.{◌≡◌, ◌++◌, ◌∙◌, true, false, ap, refl, sym, inl, inr, arith}
use Rattle.std.specs.Prelude.{is_some}
use Rattle.site_links.proofs.Kept.{Begins-same}
use Rattle.site_state.specs.Lines.{queue_at}
use Rattle.site_turn.proofs.Events.{received, received_aside}
use Rattle.site_turn.proofs.Steps.{turned_received, turned_refl, turned_still}
use Rattle.site_turn.proofs.receiving.receive.Goals as goal
use Rattle.site_turn.proofs.receiving.receive.Goals.{then-is_some-via-then-is_some, then-is_some-via-else-is_some+then-not-has_room}

pub returns-in-Some-clause-turned : goal.returns-in-Some-clause-turned
returns-in-Some-clause-turned g c =
    let h = c.in-Some.ensures in
    turned_received c.admit.result h.taken.0 c.in-Some.item c.requires h.taken.1 h.keeps h.putting h.taken.2.taken refl refl refl c.admit.ensures.yes c.admit.ensures.no

pub returns-in-Some-clause-yes : goal.returns-in-Some-clause-yes
returns-in-Some-clause-yes g c = λ e. let h = c.in-Some.ensures in received h.taken.0 c.in-Some.item h.taken.2.taken refl (c.admit.ensures.yes e)

pub returns-in-Some-clause-no : goal.returns-in-Some-clause-no
returns-in-Some-clause-no g c = λ e. let h = c.in-Some.ensures in inr (received_aside h.taken.0 c.in-Some.item h.taken.2.taken refl (c.admit.ensures.no e))

pub returns-then-is_some-clause-turned : goal.returns-then-is_some-clause-turned
returns-then-is_some-clause-turned g c = turned_refl _

pub returns-then-is_some-clause-no : goal.returns-then-is_some-clause-no
returns-then-is_some-clause-no g c = λ e. inl (record {
  site = refl;
  aside = refl;
  failed = refl;
  got = λ k. refl;
  none = λ free room. absurd (elim c.then-is_some.branch [
    | then-is_some-via-then-is_some w ↦ let some : true ≡ false = sym w.if-is_some.true ∙ c.is_some.ensures ∙ ap is_some free in absurd cc
    | then-is_some-via-else-is_some+then-not-has_room w ↦ let full : false ≡ true = w.if-not-has_room.ensures.1 room in absurd cc
  ]);
})

pub returns-in-None-clause-turned : goal.returns-in-None-clause-turned
returns-in-None-clause-turned g c =
    let h = c.in-None.ensures in
    turned_still (record { number = refl; holding = refl; clock = refl; history = refl; aside = refl; got = λ k. (h.taken k).0; put = λ t. ap (λ l. l ++ queue_at c.args.seat.now.site.outgoing t) (h.putting t).0 })
    (λ q. q) (λ t. Begins-same _ _ (h.putting t).0) h.keeps refl refl (λ f. f)

pub returns-in-None-clause-no : goal.returns-in-None-clause-no
returns-in-None-clause-no g c = λ e. let h = c.in-None.ensures in inl (record { site = refl; aside = refl; failed = refl; got = λ k. (h.taken k).0; none = λ free room k. (h.taken k).1 })

pub admit-requires-clause-room : goal.admit-requires-clause-room
admit-requires-clause-room g c = grind (arith, common_steps)

pub returns-in-None-clause-yes : goal.returns-in-None-clause-yes
returns-in-None-clause-yes g c = grind (arith, common_steps)
