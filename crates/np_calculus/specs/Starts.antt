-- Where runs begin (docs/TRANSLATION.md, "Starts").
use Rattle.std.specs.Prelude.{ℕ, List, [], ◌∷◌, length, map}
use Rattle.std.specs.FinMap as table
use Rattle.std.specs.FinSet as set
use Rattle.np_syntax.specs.declared.value.Name.{Name}
use Rattle.np_syntax.specs.declared.process.Proc.{Proc}
use Rattle.np_syntax.specs.declared.program.Program.{Program}
use Rattle.np_syntax.specs.declared.program.LowProgram.{LowProgram}
use Rattle.np_calculus.specs.declared.config.Atom.{Atom}
use Rattle.np_calculus.specs.declared.config.Place.TheVariants as place
use Rattle.np_calculus.specs.Config.{Config}
use Rattle.np_tables.specs.Names.{NameSet}

-- a program of n sites has names of its own, made by no site
abbrev pub own : ℕ → ℕ → Name
own n i = record { site = n; n = i }

abbrev pub main_agent : ℕ → Name
main_agent n = own n 0

abbrev pub daemon_agent : ℕ → Name
daemon_agent n = own n 1

-- the marks of the first atoms of main and of the daemon
abbrev pub main_mark : ℕ → Name
main_mark n = own n 11

abbrev pub daemon_mark : ℕ → Name
daemon_mark n = own n 12

-- main, daemon, register, migrating, migrated, message, deliver, ack, dack, currentloc, lock, the two marks, here, cache, where and found
abbrev pub own_numbers : List ℕ
own_numbers = 0 ∷ 1 ∷ 2 ∷ 3 ∷ 4 ∷ 5 ∷ 6 ∷ 7 ∷ 8 ∷ 9 ∷ 10 ∷ 11 ∷ 12 ∷ 13 ∷ 14 ∷ 15 ∷ 16 ∷ []

-- a set with each name of a list
abbrev pub with_all : NameSet → List Name → NameSet
with_all names [] = names
with_all names (name ∷ rest) = with_all (set.insert names name) rest

abbrev pub own_names : ℕ → NameSet
own_names n = with_all set.empty (map (own n) own_numbers)

abbrev pub first_atom : Name → Proc → Atom
first_atom agent p = record { agent = agent; proc = p; env = table.empty }

-- the names of a program of n sites, and nothing else
abbrev pub names_alone : ℕ → Config
names_alone n = record { sites = n; places = table.empty; atoms = table.empty; packets = table.empty; born = own_names n; said = [] }

-- with an atom under a mark, and its agent at a site
abbrev pub with_atom : Config → ℕ → Name → Atom → Config
with_atom c site mark a = record c { places = table.insert c.places a.agent (place.At site); atoms = table.insert c.atoms mark a }

-- with an agent at a site, and its first atom
abbrev pub with_agent : Config → Name → ℕ → Name → Proc → Config
with_agent c agent site mark p = with_atom c site mark (first_atom agent p)

-- main at its site, with its process
unfoldable pub start_high : Program → Config
start_high p = let n : ℕ = length p.sites in with_agent (names_alone n) (main_agent n) p.at (main_mark n) p.main

-- main at its site and the daemon at the first one, each with its process
unfoldable pub start_low : LowProgram → Config
start_low q =
    let n : ℕ = length q.sites in with_agent (with_agent (names_alone n) (main_agent n) q.at (main_mark n) q.main) (daemon_agent n) 0
    (daemon_mark n) q.daemon
