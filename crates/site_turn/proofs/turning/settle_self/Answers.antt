use Rattle.std.proofs.Common.{◌++◌, ap, refl}
use Rattle.site_links.proofs.Kept.{Begins-same}
use Rattle.site_state.specs.Lines.{queue_at}
use Rattle.site_turn.proofs.Events.{none_refl}
use Rattle.site_turn.proofs.Steps.{turned_settled}
use Rattle.site_turn.proofs.turning.settle_self.Goals as goal

pub settle_own-waiting-requires : goal.settle_own-waiting-requires
settle_own-waiting-requires g c = c.requires.own

pub returns-clause-turned : goal.returns-clause-turned
returns-clause-turned g c =
    let e = c.settle_own-waiting.ensures in
    turned_settled (record { number = refl; holding = refl; clock = refl; history = refl; aside = refl; got = λ k. (e.same k).1; put = λ t. ap (λ l. l ++ queue_at c.args.seat.now.site.outgoing t) (e.same t).0 })
    (λ q. q) (λ t. Begins-same _ _ (e.same t).0) (record { others = e.keeps; own = e.own }) refl refl (λ f. f)

pub returns-clause-none : goal.returns-clause-none
returns-clause-none g c = none_refl _
