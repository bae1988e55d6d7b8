-- A way at rest is what a settling would make of it.
use Rattle.std.proofs.Common.{◌≡◌, ℕ, ◌-◌, List, [], ◌++◌, length, refl, sym, ap, ◌∙◌}
use Rattle.std.proofs.Math.Logic.{∥∥₁_elim}
use Rattle.std.proofs.Props.{props}
use Rattle.std.proofs.lemmas.List.{append-nil}
use Rattle.std.specs.Coded.{Coded-set, coded_list}
use Rattle.crossbeam_queue.specs.Passes.{view}
use Rattle.site_links.specs.declared.places.TheConstants.{PLACES}
use Rattle.agent_move.specs.contracts.item.Item as item
use Rattle.agent_move.specs.declared.item.Item.{Item}
use Rattle.site_inboxes.specs.Views.{number_in}
use Rattle.site_inboxes.specs.declared.ends.Inbox.{Inbox}
use Rattle.site_inboxes.specs.declared.ends.Outlet.{Outlet}
use Rattle.crew_inboxes.specs.Ways.{IsIdle, WaySettled, last_by, sent_by, taken_of, waiting_of}

list-prop : (a b : List Item) → IsProp (a ≡ b)
list-prop = Coded-set (coded_list item.the_row.coded)

module _ (way : Outlet Item) (inbox : Inbox Item) where
  module _ (idle : ∥ IsIdle (taken_of inbox (number_in (view way.pass))) (waiting_of inbox (number_in (view way.pass))) way ∥₁) where
    pub idle_waiting : waiting_of inbox (number_in (view way.pass)) ≡ []
    idle_waiting = ∥∥₁_elim idle (list-prop _ _) (λ i. i.rest.none_known)

    idle_settled : taken_of inbox (number_in (view way.pass)) ++ waiting_of inbox (number_in (view way.pass)) ≡ sent_by way
    idle_settled = ∥∥₁_elim idle (list-prop _ _)
        (λ i. ap (λ v. taken_of inbox (number_in (view way.pass)) ++ v) i.rest.none_known ∙ (append-nil (taken_of inbox (number_in (view way.pass))) ∙ i.rest.all_taken))

    idle_free : way.spare ≡ PLACES - length (waiting_of inbox (number_in (view way.pass)))
    idle_free = ∥∥₁_elim idle (Prim.hlevel props) (λ i. i.rest.all_free ∙ ap (λ v. PLACES - length v) (sym i.rest.none_known))

    idle_last : last_by way ≡ taken_of inbox (number_in (view way.pass))
    idle_last = ∥∥₁_elim idle (list-prop _ _) (λ i. i.last)

    all_free : way.spare ≡ PLACES
    all_free = ∥∥₁_elim idle (Prim.hlevel props) (λ i. i.rest.all_free)

    pub way_idle : WaySettled way inbox way inbox
    way_idle = record {
      same_way = record { queue_same = refl; number_same = refl; fresh_same = refl };
      same_inbox = record { queue_same = refl; sites_same = refl };
      sent = refl;
      got = refl;
      last = idle_last;
      told = λ k n. refl;
      settled = idle_settled;
      free = idle_free;
      rests = λ none. all_free;
    }
