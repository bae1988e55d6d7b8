-- The steps in a part, one after the other.
use Rattle.std.proofs.Common.{◌≡◌, ℕ, suc, ◌+◌, ◌<◌, ◌≤◌, Bool, List, [], ◌∷◌, ◌++◌, append_assoc, append-nil, length, drop, drop-cons, get_or, ap, add-one, sym, ◌∙◌}
use Rattle.std.proofs.lemmas.List.{drop_all}
use Rattle.run_pictures.specs.declared.step.Step.{Step}
use Rattle.run_pictures.specs.declared.parts.Part.{Part}
use Rattle.run_pictures.specs.Parts.{is_shown, one_if, part_from}

-- one step more, and those still to come
pub part-more : (part : Part) (made next all steps : List Step) (i : ℕ) (e : Step) → i < length steps → next ≡ made ++ one_if (is_shown part i (get_or steps i e)) (get_or steps i e)
    → made ++ part_from part i (drop i steps) ≡ all → next ++ part_from part (i + 1) (drop (i + 1) steps) ≡ all
part-more part made next all steps i e less grown h =
    let x : Step = get_or steps i e in
    let rest : List Step = drop (suc i) steps in
    let one : List Step = one_if (is_shown part i x) x in
    let here : part_from part i (drop i steps) ≡ one ++ part_from part (i + 1) rest = ap (part_from part i) (drop-cons steps i e less) in
    ap (λ j. next ++ part_from part (i + 1) (drop j steps)) (add-one i)
    ∙ ap (λ l. l ++ part_from part (i + 1) rest) grown
    ∙ append_assoc made one (part_from part (i + 1) rest)
    ∙ ap (λ l. made ++ l) (sym here)
    ∙ h

pub part-end : (part : Part) (made all steps : List Step) (i : ℕ) → length steps ≤ i → made ++ part_from part i (drop i steps) ≡ all → made ≡ all
part-end part made all steps i whole h = sym (append-nil made) ∙ ap (λ l. made ++ part_from part i l) (sym (drop_all i steps whole)) ∙ h
