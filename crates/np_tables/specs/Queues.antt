-- How a queue takes a turn.
use Rattle.std.specs.Prelude.{◌≡◌, List, [], ◌∷◌, ◌++◌, ◌⊎◌}
use Rattle.np_tables.specs.declared.turns.Turn.{Turn}

-- the turn comes last, or does not come for want of memory
abbrev pub Queues : List Turn → List Turn → Turn → Type 0
Queues old new turn = (new ≡ old ++ turn ∷ []) ⊎ (new ≡ old)
