-- The things that stand at the low start (docs/TRANSLATION.md, "Starts").
use Rattle.std.specs.Prelude.{ℕ, List, [], ◌∷◌}
use Rattle.np_syntax.specs.declared.value.Name.{Name}
use Rattle.np_syntax.specs.declared.process.Proc.{Proc}
use Rattle.np_calculus.specs.Starts.{first_atom, main_agent, own}
use Rattle.simulate_laws.specs.protocol.Chips.{Service}
use Rattle.infrastructure_texts.specs.Infrastructures.{Infrastructure}
use Rattle.infrastructure_texts.specs.Pieces.{main}
use Rattle.simulate_laws.specs.things.Things.{Thing}

-- what keeps the cache of a new agent, and who tells where agents are: with caches alone
abbrev pub first_cache : Infrastructure → Name → List Thing
first_cache Infrastructure.central a = []
first_cache Infrastructure.cached a = Thing.cache a [] ∷ Thing.keeping a ∷ []

abbrev pub tells_where : Infrastructure → List Thing
tells_where Infrastructure.central = []
tells_where Infrastructure.cached = Thing.serving Service.tells ∷ []

-- main's process, its `currentloc` and its server, and what keeps its cache
abbrev pub main_things : Infrastructure → ℕ → ℕ → Proc → List Thing
main_things i n s p =
    Thing.source (main n) (first_atom (main_agent n) p) ∷ Thing.token (main_agent n) s ∷ Thing.letters (main_agent n)
    ∷ first_cache i (main_agent n)

-- the daemon's map, main's lock and the servers
abbrev pub daemon_things : Infrastructure → ℕ → ℕ → List Thing
daemon_things i n s =
    Thing.places ((own n 0, own n 13) ∷ []) ∷ Thing.free (own n 13) s ∷ Thing.serving Service.registers ∷ Thing.serving Service.grants
    ∷ Thing.serving Service.notes_moves
    ∷ Thing.serving Service.passes_on ∷ Thing.serving Service.ends_deliveries ∷ tells_where i
