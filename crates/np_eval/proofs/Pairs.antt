-- What a frame's map has, by its newest pair and the older ones.
use Rattle.std.proofs.Common.{◌≡◌, ℕ, cond, Option, Some, None, refl, sym, ap, ◌∙◌, eq-eqb}
use Rattle.std.proofs.lemmas.Bool.{ne_eqb}
use Rattle.std.specs.Arc.{arc_value}
use Rattle.std.specs.Cmp.{unsigned_tied, nat_cmp_total}
use Rattle.std.specs.Ordering.{nat_cmp, eq_by_cmp}
use Rattle.std.specs.FinMap as map
use Rattle.std.specs.FinMap.{get-empty, get-insert}
use Rattle.std.specs.declared.alloc.Global.{Global}
use Rattle.std.specs.declared.sync.Arc.{Arc}
use Rattle.np_eval.specs.declared.frame.Pair.{Pair, Pair', out-Pair, None', Some'}
use Rattle.np_eval.specs.Pairs.{map_of, map_from}

pub over-older : (pair : Pair) → map_of pair ≡ map.insert (map_from (out-Pair pair).older) (out-Pair pair).binder (out-Pair pair).value
unfolding out-Pair denote.Hole.Carrier.out
over-older (Pair' binder value None') = refl
over-older (Pair' binder value (Some' p older)) = refl

looked : (pair : Pair) (q : ℕ) → map.get (map_of pair) q ≡ cond (eq_by_cmp nat_cmp q (out-Pair pair).binder) (Some (out-Pair pair).value) (map.get (map_from (out-Pair pair).older) q)
looked pair q = rw (over-older pair) (get-insert nat_cmp_total (map_from (out-Pair pair).older) (out-Pair pair).binder (out-Pair pair).value q)

module _ (newest : Option (Arc Pair Global)) (shared : Arc Pair Global) (pair : Pair) (q : ℕ) (is : newest ≡ Some shared) (seen : pair ≡ arc_value shared) where
  at_newest : map.get (map_from newest) q ≡ map.get (map_of pair) q
  at_newest = rw (is, seen) refl

  pub found-here : (out-Pair pair).binder ≡ q → map.get (map_from newest) q ≡ Some (out-Pair pair).value
  found-here h =
      at_newest ∙ looked pair q ∙ ap (λ b. cond b (Some (out-Pair pair).value) (map.get (map_from (out-Pair pair).older) q)) (unsigned_tied q (out-Pair pair).binder ∙ eq-eqb q _ (sym h))

  pub found-older : ((out-Pair pair).binder ≡ q → ⊥) → map.get (map_from newest) q ≡ map.get (map_from (out-Pair pair).older) q
  found-older h =
      at_newest ∙ looked pair q ∙ ap (λ b. cond b (Some (out-Pair pair).value) (map.get (map_from (out-Pair pair).older) q)) (unsigned_tied q (out-Pair pair).binder ∙ ne_eqb q _ (λ same. h (sym same)))

pub found-nowhere : (newest : Option (Arc Pair Global)) (q : ℕ) → newest ≡ None → map.get (map_from newest) q ≡ None
found-nowhere newest q is = rw is (get-empty nat_cmp q)
