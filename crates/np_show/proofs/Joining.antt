-- What stands in round brackets.
use Rattle.std.proofs.Common.{Bool, true, false, ◌≡◌, ℕ, List, [], ◌++◌, refl, sym, append-nil}
use Rattle.std.specs.Prelude.{codes, if◌then◌else◌}
use Rattle.np_show.specs.Shown.{bracketed}

abbrev pub opened : Bool → List ℕ
opened round = if round then codes "(" else []

abbrev pub closed : Bool → List ℕ
closed round = if round then codes ")" else []

pub bracketed_is : (r : Bool) (t : List ℕ) → bracketed r t ≡ opened r ++ (t ++ closed r)
bracketed_is true t = refl
bracketed_is false t = sym (append-nil t)
