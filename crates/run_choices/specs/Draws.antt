-- The numbers that a generator draws (docs/SCHEDULES.md, "What is drawn").
use Rattle.std.specs.Prelude.{ℕ, zero, suc, List, [], ◌∷◌}
use Rattle.rand_core.specs.Pcg32Seed.{pcg32_seed}
use Rattle.rand_pcg.specs.Lcg.{Lcg}
use Rattle.rand_pcg.specs.Pcg.{pcg32_of_seed}
use Rattle.run_choices.specs.declared.choice.Draw.{Draw}

-- the next three words of a generator with this step, and the generator behind them
abbrev pub drawn : {G : Type 0} → (G → ℕ × G) → G → Draw × G
drawn step g =
    (record { entry = (step g).0; input = (step (step g).1).0; output = (step (step (step g).1).1).0 }, (step (step (step g).1).1).1)

-- so many draws, one after another
abbrev pub draws : {G : Type 0} → (G → ℕ × G) → G → ℕ → List Draw
draws step g zero = []
draws step g (suc n) = (drawn step g).0 ∷ draws step (drawn step g).1 n

-- the generator behind so many draws
abbrev pub behind : {G : Type 0} → (G → ℕ × G) → G → ℕ → G
behind step g zero = g
behind step g (suc n) = behind step (drawn step g).1 n

-- the generator of a seed
abbrev pub seeded : ℕ → Lcg
seeded seed = pcg32_of_seed (pcg32_seed 16 seed)
