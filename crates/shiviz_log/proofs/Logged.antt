-- A log that grows by an entry, and clocks by a count.
use Rattle.std.proofs.Common.{◌≡◌, ℕ, suc, ◌+◌, ◌<◌, ◌≤◌, List, [], ◌∷◌, ◌++◌, append_assoc, append-nil, length, drop, drop-cons, get_or, ap, add-one, sym, ◌∙◌}
use Rattle.std.proofs.lemmas.List.{drop_all}
use Rattle.run_pictures.specs.declared.step.Step.{Step}
use Rattle.shiviz_log.specs.Clocks.{Known, after, clock_of, joined_from, larger}
use Rattle.shiviz_log.specs.Logs.{counts_from, entries, entry, site_name, with_count}

-- one entry more, and those still to come
pub entry-more : (sites : List (List ℕ)) (k l : Known) (text next all : List ℕ) (steps : List Step) (i : ℕ) (e : Step) → i < length steps
    → next ≡ text ++ entry sites (get_or steps i e) (clock_of k (get_or steps i e)) → l ≡ after k (get_or steps i e) → text ++ entries sites k (drop i steps) ≡ all
    → next ++ entries sites l (drop (i + 1) steps) ≡ all
entry-more sites k l text next all steps i e less written goes h =
    let x : Step = get_or steps i e in
    let rest : List Step = drop (suc i) steps in
    let one : List ℕ = entry sites x (clock_of k x) in
    let here : entries sites k (drop i steps) ≡ one ++ entries sites (after k x) rest = ap (entries sites k) (drop-cons steps i e less) in
    ap (λ j. next ++ entries sites l (drop j steps)) (add-one i)
    ∙ ap (λ m. next ++ entries sites m rest) goes
    ∙ ap (λ t. t ++ entries sites (after k x) rest) written
    ∙ append_assoc text one (entries sites (after k x) rest)
    ∙ ap (λ t. text ++ t) (sym here)
    ∙ h

pub entry-end : (sites : List (List ℕ)) (k : Known) (text all : List ℕ) (steps : List Step) (i : ℕ) → length steps ≤ i → text ++ entries sites k (drop i steps) ≡ all → text ≡ all
entry-end sites k text all steps i whole h = sym (append-nil text) ∙ ap (λ l. text ++ entries sites k l) (sym (drop_all i steps whole)) ∙ h

-- one count more, and those still to come
pub count-more : (sites : List (List ℕ)) (text next all clock : List ℕ) (i n : ℕ) → i < length clock → next ≡ with_count text (site_name sites i) (get_or clock i n)
    → counts_from sites text i (drop i clock) ≡ all → counts_from sites next (i + 1) (drop (i + 1) clock) ≡ all
count-more sites text next all clock i n less written h =
    let rest : List ℕ = drop (suc i) clock in
    let here : counts_from sites text i (drop i clock) ≡ counts_from sites (with_count text (site_name sites i) (get_or clock i n)) (i + 1) rest = ap (counts_from sites text i) (drop-cons clock i n less) in
    ap (λ j. counts_from sites next (i + 1) (drop j clock)) (add-one i) ∙ ap (λ t. counts_from sites t (i + 1) rest) written ∙ sym here ∙ h

pub count-end : (sites : List (List ℕ)) (text all clock : List ℕ) (i : ℕ) → length clock ≤ i → counts_from sites text i (drop i clock) ≡ all → text ≡ all
count-end sites text all clock i whole h = ap (counts_from sites text i) (sym (drop_all i clock whole)) ∙ h

-- one site more of two clocks that are joined, and those still to come
pub join-more : (made next all clock other : List ℕ) (i n : ℕ) → i < length clock → next ≡ made ++ larger (get_or clock i n) (get_or other i 0) ∷ []
    → made ++ joined_from other i (drop i clock) ≡ all → next ++ joined_from other (i + 1) (drop (i + 1) clock) ≡ all
join-more made next all clock other i n less grown h =
    let rest : List ℕ = drop (suc i) clock in
    let one : ℕ = larger (get_or clock i n) (get_or other i 0) in
    let here : joined_from other i (drop i clock) ≡ one ∷ joined_from other (i + 1) rest = ap (joined_from other i) (drop-cons clock i n less) in
    ap (λ j. next ++ joined_from other (i + 1) (drop j clock)) (add-one i)
    ∙ ap (λ l. l ++ joined_from other (i + 1) rest) grown
    ∙ append_assoc made (one ∷ []) (joined_from other (i + 1) rest)
    ∙ ap (λ l. made ++ l) (sym here)
    ∙ h

pub join-end : (made all clock other : List ℕ) (i : ℕ) → length clock ≤ i → made ++ joined_from other i (drop i clock) ≡ all → made ≡ all
join-end made all clock other i whole h = sym (append-nil made) ∙ ap (λ l. made ++ joined_from other i l) (sym (drop_all i clock whole)) ∙ h
