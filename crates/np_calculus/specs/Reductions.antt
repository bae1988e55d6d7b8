-- The table of reductions: what an event of each kind changes, or none where its row is not met (docs/LANGUAGE.md, "Reductions").
use Rattle.std.specs.Prelude.{ℕ, Bool, true, not, ◌&&◌, Option, None, Some, List, [], ◌∷◌, nat_eq, nat_lt, cond}
use Rattle.std.specs.FinMap as map
use Rattle.std.specs.FinSet as set
use Rattle.np_syntax.specs.declared.value.Name.{Name}
use Rattle.np_syntax.specs.declared.value.Value.{Value, out-Value}
use Rattle.np_syntax.specs.declared.value.Value as value
use Rattle.np_syntax.specs.declared.expression.Expr.{Expr}
use Rattle.np_syntax.specs.declared.expression.ExprForm as expr
use Rattle.np_syntax.specs.declared.process.Tag.{Tag}
use Rattle.np_syntax.specs.declared.process.Role.{Role}
use Rattle.np_syntax.specs.declared.process.Role.TheVariants as role
use Rattle.np_syntax.specs.declared.process.Proc.{Proc}
use Rattle.np_syntax.specs.declared.process.ProcForm.{ProcForm-F}
use Rattle.np_syntax.specs.declared.process.ProcForm as form
use Rattle.np_syntax.specs.declared.event.Event.{Event}
use Rattle.np_syntax.specs.declared.event.Kind.{Kind}
use Rattle.np_syntax.specs.declared.event.Kind.TheVariants as kind
use Rattle.np_syntax.specs.declared.event.Made.{Made}
use Rattle.np_syntax.specs.declared.event.Made.TheVariants as made
use Rattle.np_calculus.specs.declared.config.Atom.{Atom}
use Rattle.np_calculus.specs.declared.config.Packet.{Packet}
use Rattle.np_calculus.specs.declared.config.Place.{Place}
use Rattle.np_calculus.specs.declared.config.Place.TheVariants as place
use Rattle.np_syntax.specs.Options.{◌>>=◌, ◌>>◌, need}
use Rattle.np_tables.specs.Names.{NameSet, same_name}
use Rattle.np_calculus.specs.Changes.{Change, put, cut, still, effect}
use Rattle.np_calculus.specs.Config.{Config}
use Rattle.np_calculus.specs.Sight.{Contents, Sight, inside, sight}
use Rattle.np_eval.specs.Eval.{Env, eval, bind, as_site, chan_of, agent_of, truth_of, letter_of, places_of, find_place}
use Rattle.np_eval.specs.Forms.{Layer, layer, as_out}

abbrev pub role_index : Role → ℕ
role_index role.Plain = 0
role_index role.Post = 1
role_index role.Infra = 2

abbrev pub same_tag : Tag → Tag → Bool
same_tag a b = nat_eq a.node b.node && nat_eq (role_index a.role) (role_index b.role)

-- the site to which an agent is under way
abbrev pub way : Place → Option ℕ
way (place.At s) = None
way (place.Way s) = Some s

abbrev pub none_made : Made → Option (Unit {0})
none_made made.Nothing = Some tt
none_made _ = None

abbrev pub one_made : Made → Option Name
one_made (made.One m) = Some m
one_made _ = None

abbrev pub two_made : Made → Option (Name × Name)
two_made (made.Two m n) = Some (m, n)
two_made _ = None

abbrev pub no_other : Option Name → Option (Unit {0})
no_other None = Some tt
no_other (Some m) = None

-- the change of an event that makes no name and takes no output
abbrev pub alone : Event → Change → Option Change
alone e d = do none_made e.made; no_other e.other; Some d

-- the acting atom: its agent is at the event's site, and its process has the event's tag
abbrev pub acting_in : Sight → Event → Option Atom
acting_in w e = do a ← w.atom e.actor; need (same_tag a.proc.tag e.tag); Some a

-- the site of the program that an expression names
abbrev pub site_in : ℕ → Expr → Env → Option ℕ
site_in sites e env = do v ← eval e env; s ← as_site (out-Value v); need (nat_lt s sites); Some s

-- the atom goes on as another process
abbrev pub goes : Atom → Proc → Atom
goes a p = record a { proc = p }

abbrev pub goes_under : Atom → Proc → Env → Atom
goes_under a p env = record a { proc = p; env = env }

-- goes on with what was found, if anything was
abbrev pub found_on : Atom → ℕ → Proc → Proc → Option Name → Atom
found_on a x met unmet (Some lock) = goes_under a met (map.insert a.env x (value.Chan lock))
found_on a x met unmet None = goes a unmet

-- the actor's mark stands for this atom
abbrev pub becomes : Event → Atom → Change
becomes e a = record still { atoms = put e.actor a ∷ [] }

-- the output that an event makes: its channel and value stand in it as values
abbrev pub output : Name → Value → Tag → Proc
output c v tag =
    record { tag = tag; at = 0; form = form.Out (record { at = 0; form = expr.Val (value.Chan c) }) (record { at = 0; form = expr.Val v }) }

abbrev pub output_in : Name → Name → Value → Tag → Atom
output_in agent c v tag = record { agent = agent; proc = output c v tag; env = map.empty }

-- the channel and the value of an atom that is an output
abbrev pub sends : Atom → Option (Name × Value)
sends a = do (chan, sent) ← as_out (layer a.proc); n ← chan_of chan a.env; v ← eval sent a.env; Some (n, v)

-- the value that the atom of a mark, in this agent, outputs on this channel
abbrev pub offered_in : (Name → Option Atom) → Name → Name → Name → Option Value
offered_in atom mark agent chan = do
  b ← atom mark
  need (same_name agent b.agent)
  sent ← sends b
  need (same_name chan sent.0)
  Some sent.1

-- a location test that finds its agent, in which the output is made, and one that does not
unfoldable pub here_row : Event → Atom → Proc → Name → Name → Value → Option Change
here_row e a met b n v = do
  m ← one_made e.made
  Some (record still { atoms = put m (output_in b n v e.tag) ∷ put e.actor (goes a met) ∷ [] })

unfoldable pub away_row : Event → Atom → Proc → Option Change
away_row e a unmet = do none_made e.made; Some (becomes e (goes a unmet))

-- the rows of the kinds that have an acting atom: its form, the conditions, the change
unfoldable pub act : Kind → Layer → Sight → Event → Atom → Option Change
act kind.Stop ProcForm-F.Stop w e a = alone e (record still { atoms = cut e.actor ∷ [] })
act kind.Fork (ProcForm-F.Par left right) w e a = do
  m ← one_made e.made
  no_other e.other
  Some (record still { atoms = put m (goes a right) ∷ put e.actor (goes a left) ∷ [] })
act kind.New (ProcForm-F.New x ty body) w e a =
    do n ← one_made e.made; no_other e.other; Some (becomes e (goes_under a body (map.insert a.env x (value.Chan n))))
act kind.Let (ProcForm-F.Let pat bound body) w e a = do
  v ← eval bound a.env
  env ← bind pat v a.env
  alone e (becomes e (goes_under a body env))
act kind.If (ProcForm-F.If test met unmet) w e a = do t ← truth_of test a.env; alone e (becomes e (goes a (cond t met unmet)))
act kind.Comm (ProcForm-F.Inp chan pat body) w e a = do
  n ← chan_of chan a.env
  o ← e.other
  v ← offered_in w.atom o a.agent n
  env ← bind pat v a.env
  none_made e.made
  Some (record still { atoms = put e.actor (goes_under a body env) ∷ cut o ∷ [] })
act kind.Rep (ProcForm-F.Rep chan pat body) w e a = do
  n ← chan_of chan a.env
  o ← e.other
  v ← offered_in w.atom o a.agent n
  env ← bind pat v a.env
  none_made e.made
  Some (record still { atoms = put o (goes_under a body env) ∷ [] })
act kind.Agent (ProcForm-F.Agent x body rest) w e a = do
  (b, m) ← two_made e.made
  no_other e.other
  let env : Env = map.insert a.env x (value.Agent b)
  Some (record still {
    places = put b (place.At e.site) ∷ [];
    atoms = put m (record { agent = b; proc = body; env = env }) ∷ put e.actor (goes_under a rest env) ∷ [];
  })
act kind.Depart (ProcForm-F.Migrate to body) w e a =
    do t ← site_in w.sites to a.env; alone e (record (becomes e (goes a body)) { places = put a.agent (place.Way t) ∷ [] })
act kind.Local (ProcForm-F.IfLocal agent chan sent met unmet) w e a = do
  b ← agent_of agent a.env
  n ← chan_of chan a.env
  v ← eval sent a.env
  no_other e.other
  cond (w.here b) (here_row e a met b n v) (away_row e a unmet)
act kind.Send (ProcForm-F.Send agent to chan sent) w e a = do
  b ← agent_of agent a.env
  t ← site_in w.sites to a.env
  n ← chan_of chan a.env
  v ← eval sent a.env
  alone e (record still {
    atoms = cut e.actor ∷ [];
    packets = put e.actor (record { to = t; agent = b; chan = n; value = v; tag = e.tag }) ∷ [];
  })
act kind.Print (ProcForm-F.Print x) w e a = do v ← eval x a.env; alone e (record still { atoms = cut e.actor ∷ []; said = Some v })
act kind.Open (ProcForm-F.Open x) w e a = do (n, v) ← letter_of x a.env; alone e (becomes e (output_in a.agent n v e.tag))
act kind.Lookup (ProcForm-F.Lookup agent among x met unmet) w e a =
    do b ← agent_of agent a.env; places ← places_of among a.env; alone e (becomes e (found_on a x met unmet (find_place places b)))
act kind.Post (ProcForm-F.Post agent chan sent) w e a =
    do b ← agent_of agent a.env; n ← chan_of chan a.env; v ← eval sent a.env; alone e (becomes e (output_in b n v e.tag))
act _ _ w e a = None

-- an agent that is under way to the site is at it then
unfoldable pub arrive_row : Option Place → Event → Option Change
arrive_row comes e = do
  p ← comes
  s ← way p
  need (nat_eq s e.site)
  need (same_tag e.tag (record { node = 0; role = role.Plain }))
  alone e (record still { places = put e.actor (place.At s) ∷ [] })

-- a packet that lands becomes an output where its agent is at its site, and else nothing
unfoldable pub land_row : Option Packet → Sight → Event → Option Change
land_row comes w e = do
  p ← comes
  need (nat_eq p.to e.site)
  need (same_tag p.tag e.tag)
  alone e (record still {
    packets = cut e.actor ∷ [];
    atoms = cond (w.here p.agent) (put e.actor (output_in p.agent p.chan p.value e.tag) ∷ []) [];
  })

-- the row of each kind
abbrev pub change : Kind → ℕ → Contents → Event → Option Change
change kind.Arrive sites x e = arrive_row (x.place e.actor) e
change kind.Land sites x e = land_row (x.packet e.actor) (sight sites x e.site) e
change k sites x e = acting_in (sight sites x e.site) e >>= λ a. act k (layer a.proc) (sight sites x e.site) e a

-- the names that an event makes are new, and two differ
abbrev pub are_new : NameSet → Made → Bool
are_new born made.Nothing = true
are_new born (made.One m) = not (set.contains born m)
are_new born (made.Two m n) = not (same_name m n) && (not (set.contains born m) && not (set.contains born n))

-- the configuration after a change, where the names that the event makes are new
abbrev pub after_change : Config → Event → Change → Option Config
after_change c e d = do need (are_new c.born e.made); Some (effect c e d)

-- the configuration after an event of a kind, or none where its row is not met
abbrev pub row : Kind → Config → Event → Option Config
row k c e = change k c.sites (inside c) e >>= after_change c e

-- the configuration after an event, or none where it is not enabled
abbrev pub apply : Config → Event → Option Config
apply c e = row e.kind c e

-- the configuration after a list of events, or none where one of them is not enabled in its turn
abbrev pub run : Config → List Event → Option Config
run c [] = Some c
run c (e ∷ es) = apply c e >>= λ d. run d es
