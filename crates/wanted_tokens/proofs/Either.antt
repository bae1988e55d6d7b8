-- What a test says of one thing or of another.
use Rattle.std.proofs.Common.{Bool, true, false}
use Rattle.std.specs.Prelude.{MatchBool}

pub weaker : {P P' Q Q' : Type 0} (b : Bool) → MatchBool b P Q → (P → P') → (Q → Q') → MatchBool b P' Q'
weaker true h on off = on h
weaker false h on off = off h
