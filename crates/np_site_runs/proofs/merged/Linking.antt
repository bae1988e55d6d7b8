-- What is taken from a link, and what is left on it, was put on its way to its site.
use Rattle.std.proofs.Common.{◌≡◌, ◌==◌, true, List, [], ◌∷◌, ◌++◌, option_to_list, flat_map, subst}
use Rattle.std.proofs.lemmas.Bool.{eqb-true}
use Rattle.std.specs.List.{AllByRecursion}
use Rattle.run_merge.proofs.InOrder.{all_pass, all_weaker}
use Rattle.np_site_runs.specs.merged.Deeds.{StampedItem, put_for, taken_from}
use Rattle.np_site_runs.specs.merged.StampedLaws.{IsFrom, LinksLead}
use Rattle.np_site_runs.proofs.merged.Flowing.{all_both}

pub all_first : {A : Type 0} (P : A → Type 0) (xs ys : List A) → AllByRecursion P (xs ++ ys) → AllByRecursion P xs
all_first P [] ys all = tt
all_first P (x ∷ xs) ys all = (all.0, all_first P xs ys all.1)

pub all_second : {A : Type 0} (P : A → Type 0) (xs ys : List A) → AllByRecursion P (xs ++ ys) → AllByRecursion P ys
all_second P [] ys all = all
all_second P (x ∷ xs) ys all = all_second P xs ys all.1

pub links_lead : LinksLead
links_lead n r s t runs =
    let for_it : AllByRecursion (λ x. x.item.receiver ≡ t) (put_for t (r.deeds s)) =
    all_weaker (λ x. (x.item.receiver == t) ≡ true) (λ x. x.item.receiver ≡ t) (λ x is. eqb-true x.item.receiver t is) (put_for t (r.deeds s))
    (all_pass (λ (x : StampedItem). x.item.receiver == t) (flat_map (λ d. option_to_list d.put) (r.deeds s))) in
    let both = subst (AllByRecursion (λ x. x.item.receiver ≡ t)) (runs.links s t) for_it in
    let from = all_pass (λ (x : StampedItem). x.item.sender == s) (flat_map (λ d. option_to_list d.taken) (r.deeds t)) in
    record {
      taken = all_weaker (λ x. ((x.item.sender == s) ≡ true) × (x.item.receiver ≡ t)) (IsFrom s t) (λ x is. record { sender = eqb-true x.item.sender s is.0; receiver = is.1 }) (taken_from s (r.deeds t))
          (all_both (λ x. (x.item.sender == s) ≡ true) (λ x. x.item.receiver ≡ t) (taken_from s (r.deeds t)) from (all_first _ (taken_from s (r.deeds t)) (r.rest s t) both));
      rest = all_second _ (taken_from s (r.deeds t)) (r.rest s t) both;
    }
