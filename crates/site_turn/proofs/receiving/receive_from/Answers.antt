use Rattle.std.proofs.Common.{◌<◌, ◌++◌, ℕ, ap, refl, subst, sym}
use Rattle.site_links.proofs.Kept.{Begins-same}
use Rattle.site_state.specs.Lines.{queue_at}
use Rattle.site_turn.proofs.Events.{none_for_all, none_refl, one_received, received}
use Rattle.site_turn.proofs.Steps.{turned_received, turned_refl, turned_still}
use Rattle.site_turn.proofs.receiving.receive_from.Goals as goal

pub take_from-requires : goal.take_from-requires
take_from-requires g c = subst (λ (n : ℕ). c.args.from < n) (sym c.requires.seated.placed.among) c.requires.from

pub returns-in-Some-clause-turned : goal.returns-in-Some-clause-turned
returns-in-Some-clause-turned g c =
    let h = c.in-Some.ensures in
    turned_received c.admit.result h.taken.0 c.in-Some.item c.requires.seated h.taken.1 h.keeps h.putting h.taken.2.taken refl refl refl c.admit.ensures.yes c.admit.ensures.no

pub returns-in-Some-clause-yes : goal.returns-in-Some-clause-yes
returns-in-Some-clause-yes g c = λ e. let h = c.in-Some.ensures in one_received c.requires.seated (received h.taken.0 c.in-Some.item h.taken.2.taken refl (c.admit.ensures.yes e))

pub returns-in-Some-clause-no : goal.returns-in-Some-clause-no
returns-in-Some-clause-no g c = λ e. none_for_all (c.admit.ensures.no e).site

pub returns-then-is_some-clause-turned : goal.returns-then-is_some-clause-turned
returns-then-is_some-clause-turned g c = turned_refl _

pub returns-then-is_some-clause-no : goal.returns-then-is_some-clause-no
returns-then-is_some-clause-no g c = λ e. none_refl _

pub returns-in-None-clause-turned : goal.returns-in-None-clause-turned
returns-in-None-clause-turned g c =
    let h = c.in-None.ensures in
    turned_still (record { number = refl; holding = refl; clock = refl; history = refl; aside = refl; got = h.taken; put = λ t. ap (λ l. l ++ queue_at c.args.seat.now.site.outgoing t) (h.putting t).0 })
    (λ q. q) (λ t. Begins-same _ _ (h.putting t).0) h.keeps refl refl (λ f. f)

pub returns-in-None-clause-no : goal.returns-in-None-clause-no
returns-in-None-clause-no g c = λ e. none_refl _
