-- How the lanes keep in step with a mark that comes or goes.
use Rattle.std.proofs.Common.{◌≡◌, ◌+◌, Bool, true, false, cond, [], ◌∷◌, ◌++◌, None, Some, refl, sym, ap, subst, ◌∙◌, arith}
use Rattle.std.specs.FinMap as map
use Rattle.np_syntax.specs.declared.value.Name.{Name}
use Rattle.np_tables.specs.Names.{NameMap, same_name}
use Rattle.np_tables.proofs.Tables.{get-none, get-put, get-cut, same_name-is, same_name-itself}
use Rattle.agent_index.specs.declared.wait.Wait.{Wait}
use Rattle.agent_index.specs.declared.wait.Wait.TheVariants as wait
use Rattle.agent_index.specs.Lines.{Waiting, times, without, in_line, inputs_in, outputs_in, same_line, SetsLine}
use Rattle.agent_index.specs.Shelves.{Kept}
use Rattle.agent_index.specs.InStep.{one, is_under, IsInStep}
use Rattle.agent_index.proofs.Withouts.{times-more, times-without, times-once}

same_line-is : (w f : Wait) → same_line w f ≡ true → w ≡ f
same_line-is (wait.Takes c) (wait.Takes d) h = ap wait.Takes (same_name-is c d h)
same_line-is (wait.Gives c) (wait.Gives d) h = ap wait.Gives (same_name-is c d h)
same_line-is _ _ h = absurd cc

-- no values
abbrev nothing : (X : Type 0) → NameMap (Kept X)
nothing X = map.empty

-- nothing is in step with no lanes
pub nothing-kept : (X : Type 0) → IsInStep {X = X} map.empty map.empty
nothing-kept X = record { at = by }
  where
    by : (f : Wait) (q : Name) → times q (in_line map.empty f) ≡ one (is_under (map.get (nothing X) q) f)
    by (wait.Takes c) q = ap (λ o. times q (inputs_in o)) (get-none c) ∙ sym (ap (λ o. one (is_under o (wait.Takes c))) (get-none q))
    by (wait.Gives c) q = ap (λ o. times q (outputs_in o)) (get-none c) ∙ sym (ap (λ o. one (is_under o (wait.Gives c))) (get-none q))
    by wait.Acts q = sym (ap (λ o. one (is_under o wait.Acts)) (get-none q))
    by wait.Stuck q = sym (ap (λ o. one (is_under o wait.Stuck)) (get-none q))

-- what was taken out is not there
pub gone : {X : Type 0} (items old : NameMap X) (m : Name) → items ≡ map.remove old m → map.get items m ≡ None
gone items old m is = ap (λ t. map.get t m) is ∙ get-cut old m m ∙ ap (λ t. cond t None (map.get old m)) (same_name-itself m)

module _ {X : Type 0} (items : NameMap (Kept X)) (lanes : NameMap Waiting) (step : IsInStep items lanes) where
  module _ (new : NameMap Waiting) (m : Name) (w : Wait) where
    -- a mark that was not there comes into the line of what it waits for
    pub step-put : (v : X) → map.get items m ≡ None → SetsLine lanes new w (in_line lanes w ++ m ∷ []) → IsInStep (map.insert items m (w, v)) new
    step-put v absent sets = record { at = λ f q. ap (times q) (sets.at f) ∙ by f q (same_line w f) refl (same_name q m) refl ∙ sym (ap (λ o. one (is_under o f)) (get-put items m (w, v) q)) }
      where
        gone : (q : Name) → same_name q m ≡ true → map.get items q ≡ None
        gone q is = ap (map.get items) (same_name-is q m is) ∙ absent

        by : (f : Wait) (q : Name) (s : Bool) → same_line w f ≡ s → (t : Bool) → same_name q m ≡ t
            → times q (cond s (in_line lanes w ++ m ∷ []) (in_line lanes f)) ≡ one (is_under (cond t (Some (w, v)) (map.get items q)) f)
        by f q true s true t =
            times-more q m (in_line lanes w) ∙ ap (λ n. n + one (same_name q m)) (step.at w q ∙ ap (λ o. one (is_under o w)) (gone q t)) ∙ ap (λ u. 0 + one u) t ∙ sym (ap one s)
        by f q true s false t =
            times-more q m (in_line lanes w) ∙ ap (λ u. times q (in_line lanes w) + one u) t ∙ omega arith ∙ step.at w q ∙ ap (λ g. one (is_under (map.get items q) g)) (same_line-is w f s)
        by f q false s true t = step.at f q ∙ ap (λ o. one (is_under o f)) (gone q t) ∙ sym (ap one s)
        by f q false s false t = step.at f q

    -- a mark that is there leaves the line of what it waits for
    pub step-cut : (v : X) → map.get items m ≡ Some (w, v) → SetsLine lanes new w (without (in_line lanes w) m) → IsInStep (map.remove items m) new
    step-cut v there sets = record { at = λ f q. ap (times q) (sets.at f) ∙ by f q (same_line w f) refl (same_name q m) refl ∙ sym (ap (λ o. one (is_under o f)) (get-cut items m q)) }
      where
        at-mark : (q : Name) → same_name q m ≡ true → (f : Wait) → times q (in_line lanes f) ≡ one (same_line w f)
        at-mark q is f = step.at f q ∙ ap (λ o. one (is_under o f)) (ap (map.get items) (same_name-is q m is) ∙ there)

        once : (q : Name) → same_name q m ≡ true → (f : Wait) → same_line w f ≡ true → times m (in_line lanes w) ≡ 1
        once q is f s = ap (λ r. times r (in_line lanes w)) (sym (same_name-is q m is)) ∙ at-mark q is w ∙ ap one (subst (λ g. same_line w g ≡ true) (sym (same_line-is w f s)) s)

        by : (f : Wait) (q : Name) (s : Bool) → same_line w f ≡ s → (t : Bool) → same_name q m ≡ t
            → times q (cond s (without (in_line lanes w) m) (in_line lanes f)) ≡ one (is_under (cond t None (map.get items q)) f)
        by f q true s true t = ap (λ r. times r (without (in_line lanes w) m)) (same_name-is q m t) ∙ times-once m (in_line lanes w) (once q t f s)
        by f q true s false t = times-without q m (in_line lanes w) t ∙ step.at w q ∙ ap (λ g. one (is_under (map.get items q) g)) (same_line-is w f s)
        by f q false s true t = at-mark q t f ∙ ap one s
        by f q false s false t = step.at f q

  -- what is taken out where nothing is
  pub step-none : (m : Name) → map.get items m ≡ None → IsInStep (map.remove items m) lanes
  step-none m absent = record { at = λ f q. step.at f q ∙ by f q (same_name q m) refl ∙ sym (ap (λ o. one (is_under o f)) (get-cut items m q)) }
    where
      by : (f : Wait) (q : Name) (t : Bool) → same_name q m ≡ t → one (is_under (map.get items q) f) ≡ one (is_under (cond t None (map.get items q)) f)
      by f q true is = ap (λ o. one (is_under o f)) (ap (map.get items) (same_name-is q m is) ∙ absent)
      by f q false is = refl
