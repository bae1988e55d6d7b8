-- Small runs, and where they lead.
use Rattle.std.specs.Prelude.{◌≡◌, ℕ, false, true, pos, Option, None, Some, List, [], ◌∷◌, nat_lt}
use Rattle.std.specs.FinMap as map
use Rattle.std.specs.FinSet as set
use Rattle.np_syntax.specs.declared.value.Name.{Name}
use Rattle.np_syntax.specs.declared.value.Value.{Value}
use Rattle.np_syntax.specs.declared.value.Value as value
use Rattle.np_syntax.specs.declared.expression.Expr.{Expr}
use Rattle.np_syntax.specs.declared.expression.ExprForm as expr
use Rattle.np_syntax.specs.declared.pattern.Pat.{Pat}
use Rattle.np_syntax.specs.declared.pattern.PatForm as pat
use Rattle.np_syntax.specs.declared.process.Tag.{Tag}
use Rattle.np_syntax.specs.declared.process.Role.TheVariants as role
use Rattle.np_syntax.specs.declared.process.Proc.{Proc}
use Rattle.np_syntax.specs.declared.process.ProcForm.{ProcForm}
use Rattle.np_syntax.specs.declared.process.ProcForm as form
use Rattle.np_syntax.specs.declared.event.Event.{Event}
use Rattle.np_syntax.specs.declared.event.Kind.{Kind}
use Rattle.np_syntax.specs.declared.event.Kind.TheVariants as kind
use Rattle.np_syntax.specs.declared.event.Made.TheVariants as made
use Rattle.np_calculus.specs.declared.config.Atom.{Atom}
use Rattle.np_calculus.specs.declared.config.Place.{Place}
use Rattle.np_calculus.specs.declared.config.Place.TheVariants as place
use Rattle.np_tables.specs.Names.{NameMap, same_name}
use Rattle.np_calculus.specs.Config.{Config}
use Rattle.np_eval.specs.Eval.{Env}
use Rattle.np_calculus.specs.Reductions.{apply, run}

abbrev pub plain : Tag
plain = record { node = 0; role = role.Plain }

abbrev pub process : ProcForm → Proc
process f = record { tag = plain; at = 0; form = f }

abbrev pub constant : Value → Expr
constant v = record { at = 0; form = expr.Val v }

abbrev pub number : ℕ → Value
number i = value.Int (pos i)

-- prints a number
abbrev pub prints : ℕ → ProcForm
prints i = form.Print (constant (number i))

-- c!5
abbrev pub gives_five : Name → ProcForm
gives_five c = form.Out (constant (value.Chan c)) (constant (number 5))

-- print x
abbrev pub prints_it : ℕ → ProcForm
prints_it x = form.Print (record { at = 0; form = expr.Var x })

abbrev pub it : ℕ → Pat
it x = record { at = 0; form = pat.Bind x }

-- c?x -> print x, once and replicated
abbrev pub takes_it : Name → ℕ → ProcForm
takes_it c x = form.Inp (constant (value.Chan c)) (it x) (process (prints_it x))

abbrev pub keeps_taking : Name → ℕ → ProcForm
keeps_taking c x = form.Rep (constant (value.Chan c)) (it x) (process (prints_it x))

abbrev pub leaves : ℕ → ProcForm → ProcForm
leaves t f = form.Migrate (constant (value.Site t)) (process f)

-- opens the letter that 5 is sent on c
abbrev pub opens_five : Name → ProcForm
opens_five c = form.Open (constant (value.Letter c (number 5)))

-- looks the agent up in a map: goes on as the one process where the map has it, and as the other where it has not
abbrev pub looks_up : Name → List (Name × Name) → ℕ → ProcForm → ProcForm → ProcForm
looks_up b places x f g = form.Lookup (constant (value.Agent b)) (constant (value.Places places)) x (process f) (process g)

abbrev pub atom : Name → ProcForm → Env → Atom
atom a f env = record { agent = a; proc = process f; env = env }

-- one agent of a program of n sites, with these atoms
abbrev pub agent_with : ℕ → Place → Name → NameMap Atom → Config
agent_with n p a atoms =
    record { sites = n; places = map.insert map.empty a p; atoms = atoms; packets = map.empty; born = set.insert set.empty a; said = [] }

abbrev pub one : Name → Atom → NameMap Atom
one j x = map.insert map.empty j x

abbrev pub two : Name → Name → Atom → Atom → NameMap Atom
two j k x y = map.insert (map.insert map.empty j x) k y

-- an event that makes no name
abbrev pub event : ℕ → Kind → Name → Option Name → Event
event s row actor other = record { site = s; kind = row; actor = actor; other = other; tag = plain; made = made.Nothing }

-- two prints, one after the other: both numbers were said, in order, and no atom is left
abbrev pub TwoPrints : Type 0
TwoPrints = (n s : ℕ) (a j k : Name) → same_name j k ≡ false →
    run (agent_with n (place.At s) a (two j k (atom a (prints 1) map.empty) (atom a (prints 2) map.empty)))
    (event s kind.Print j None ∷ event s kind.Print k None ∷ [])
    ≡ Some (record (agent_with n (place.At s) a map.empty) { said = (s, number 1) ∷ (s, number 2) ∷ [] })

-- c!5 meets c?x -> print x: the output is gone, and the input goes on with 5 for x
abbrev pub Communication : Type 0
Communication = (n s x : ℕ) (a c j k : Name) → same_name j k ≡ false →
    apply (agent_with n (place.At s) a (two j k (atom a (gives_five c) map.empty) (atom a (takes_it c x) map.empty)))
    (event s kind.Comm k (Some j))
    ≡ Some (agent_with n (place.At s) a (one k (atom a (prints_it x) (map.insert map.empty x (number 5)))))

-- the same with a replicated input: it stays, and its body goes on under the output's mark
abbrev pub Replication : Type 0
Replication = (n s x : ℕ) (a c j k : Name) → same_name j k ≡ false →
    apply (agent_with n (place.At s) a (two j k (atom a (gives_five c) map.empty) (atom a (keeps_taking c x) map.empty)))
    (event s kind.Rep k (Some j))
    ≡ Some (agent_with n (place.At s) a (two j k (atom a (prints_it x) (map.insert map.empty x (number 5)))
    (atom a (keeps_taking c x) map.empty)))

-- a migration: the agent is under way to the site, and then at it
abbrev pub Migration : Type 0
Migration = (n s t : ℕ) (a j : Name) (f : ProcForm) → nat_lt t n ≡ true →
    (apply (agent_with n (place.At s) a (one j (atom a (leaves t f) map.empty))) (event s kind.Depart j None)
    ≡ Some (agent_with n (place.Way t) a (one j (atom a f map.empty))))
    × (apply (agent_with n (place.Way t) a (one j (atom a f map.empty))) (event t kind.Arrive a None)
    ≡ Some (agent_with n (place.At t) a (one j (atom a f map.empty))))

-- a letter that is opened: the output of its value on its channel stands there
abbrev pub Opening : Type 0
Opening = (n s : ℕ) (a c j : Name) →
    apply (agent_with n (place.At s) a (one j (atom a (opens_five c) map.empty))) (event s kind.Open j None)
    ≡ Some (agent_with n (place.At s) a (one j (atom a (gives_five c) map.empty)))

-- an agent that is looked up: with its lock channel l where the map has it, and without where it has not
abbrev pub LookingUp : Type 0
LookingUp = (n s x : ℕ) (a b l j : Name) (f g : ProcForm) →
    (apply (agent_with n (place.At s) a (one j (atom a (looks_up b ((b, l) ∷ []) x f g) map.empty))) (event s kind.Lookup j None)
    ≡ Some (agent_with n (place.At s) a (one j (atom a f (map.insert map.empty x (value.Chan l))))))
    × (apply (agent_with n (place.At s) a (one j (atom a (looks_up b [] x f g) map.empty))) (event s kind.Lookup j None)
    ≡ Some (agent_with n (place.At s) a (one j (atom a g map.empty))))
