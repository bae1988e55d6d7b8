-- Names that stand in a source.
use Rattle.std.proofs.Common.{◌≡◌, ℕ, List, [], ◌++◌, append_assoc, take, drop, take-append-drop, ap, sym, ◌∙◌}
use Rattle.look_sources.specs.Binders.{StandsIn}

regroup : (a b c d : List ℕ) → a ++ (b ++ c ++ d) ≡ a ++ b ++ c ++ d
regroup a b c d = simp append_assoc

pub stands-front : (k : ℕ) (bytes name : List ℕ) → name ≡ take k bytes → StandsIn bytes name
stands-front k bytes name is = record { before = []; behind = drop k bytes; is = sym (take-append-drop k bytes) ∙ ap (λ l. l ++ drop k bytes) (sym is) }

pub stands-behind : (k : ℕ) (bytes rest name : List ℕ) → rest ≡ drop k bytes → StandsIn rest name → StandsIn bytes name
stands-behind k bytes rest name is h = record {
  before = take k bytes ++ h.before;
  behind = h.behind;
  is = sym (take-append-drop k bytes) ∙ ap (λ l. take k bytes ++ l) (sym is ∙ h.is) ∙ regroup (take k bytes) h.before name h.behind;
}
