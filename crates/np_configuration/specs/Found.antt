-- What is found of an event whose row is met, before anything is changed, and what is done then (docs/LANGUAGE.md, "Reductions").
use Rattle.std.specs.Prelude.{ℕ, Option, None, Some, [], ◌∷◌, ◌++◌}
use Rattle.std.specs.FinMap as map
use Rattle.np_syntax.specs.declared.value.Name.{Name}
use Rattle.np_syntax.specs.declared.value.Value.{Value}
use Rattle.np_syntax.specs.declared.value.Value as value
use Rattle.np_syntax.specs.declared.event.Made.{Made}
use Rattle.np_calculus.specs.declared.config.Atom.{Atom}
use Rattle.np_calculus.specs.declared.config.Packet.{Packet}
use Rattle.np_calculus.specs.Changes.{with_made}
use Rattle.np_calculus.specs.Config.{Config}
use Rattle.np_eval.specs.Eval.{Env}

-- ---- an atom ends

abbrev pub ended : Config → Name → Config
ended c mark = record c { atoms = map.remove c.atoms mark }

-- it ends, and a value is said at a site
abbrev pub spoken : Config → Name → ℕ → Value → Config
spoken c mark site v = record (ended c mark) { said = c.said ++ (site, v) ∷ [] }

-- it ends, and a packet flies under its mark
abbrev pub flown : Config → Name → Packet → Config
flown c mark p = record (ended c mark) { packets = map.insert c.packets mark p }

-- ---- an atom stands under a mark

abbrev pub stood : Config → Name → Atom → Config
stood c mark atom = record c { atoms = map.insert c.atoms mark atom }

-- it stands there, and the names that are made are born
abbrev pub entered : Config → Name → Atom → Made → Config
entered c mark atom made = record (stood c mark atom) { born = with_made c.born made }

-- ---- lookups

-- an environment with the channel that was found as a binder's value, if one was
abbrev pub found_env : Env → ℕ → Option Name → Env
found_env env x (Some lock) = map.insert env x (value.Chan lock)
found_env env x None = env
