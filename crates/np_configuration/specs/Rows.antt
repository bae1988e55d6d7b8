-- The row of each kind of event that has an acting atom, in the steps in which the code takes it: the atom, the parts of its
-- form, what more is found, and the configuration then (docs/LANGUAGE.md, "Reductions").
use Rattle.std.specs.Prelude.{◌≡◌, ℕ, Bool, Option, Some, cond, is_some}
use Rattle.std.specs.FinMap as map
use Rattle.std.specs.FinSet as set
use Rattle.np_syntax.specs.declared.event.Event.{Event}
use Rattle.np_syntax.specs.declared.event.Kind.{Kind}
use Rattle.np_syntax.specs.declared.event.Kind.TheVariants as kind
use Rattle.np_syntax.specs.declared.expression.Expr.{Expr}
use Rattle.np_syntax.specs.declared.pattern.Pat.{Pat}
use Rattle.np_syntax.specs.declared.process.Proc.{Proc}
use Rattle.np_syntax.specs.declared.types.Ty.{Ty}
use Rattle.np_syntax.specs.declared.value.Name.{Name}
use Rattle.np_syntax.specs.declared.value.Value.{Value}
use Rattle.np_syntax.specs.declared.value.Value as value
use Rattle.np_syntax.specs.Options.{◌>>=◌, ◌>>◌, need}
use Rattle.np_eval.specs.Eval.{Env, agent_of, chan_of, eval, find_place, letter_of, places_of, truth_of}
use Rattle.np_eval.specs.Forms.{Layer, layer}
use Rattle.np_eval.specs.FormParts.{as_stop, as_par, as_new, as_inp, as_rep, as_agent_form, as_migrate, as_iflocal, as_send, as_post, as_if}
use Rattle.np_eval.specs.FormParts.{as_let, as_print, as_open, as_lookup}
use Rattle.np_calculus.specs.declared.config.Atom.{Atom}
use Rattle.np_calculus.specs.declared.config.Packet.{Packet}
use Rattle.np_calculus.specs.declared.config.Place.TheVariants as place
use Rattle.np_calculus.specs.Config.{Config}
use Rattle.np_calculus.specs.Reductions.{goes, goes_under, no_other, none_made, one_made, output_in, row}
use Rattle.np_calculus.specs.Seen.{acting, fresh, is_at, site_of}
use Rattle.np_configuration.specs.declared.alone.Fork.{Fork}
use Rattle.np_configuration.specs.declared.messages.Local.{Local}
use Rattle.np_configuration.specs.declared.travel.Departure.{Departure}
use Rattle.np_configuration.specs.Found.{ended, entered, flown, found_env, spoken, stood}
use Rattle.np_configuration.specs.Views.{bound_to, is_alone, one_new, taken_by, two_new}

-- the acting atom, the parts of its form, and what more is found of them
abbrev pub found_by : {P X : Type 0} → (Layer → Option P) → (Config → Event → Atom → P → Option X) → Config → Event → Option (Atom × P × X)
found_by parts more c e = do
  a ← acting c e
  p ← parts (layer a.proc)
  x ← more c e a p
  Some (a, p, x)

-- that is found
abbrev pub IsFound : {P X : Type 0} → Option (Atom × P × X) → X → Type 0
IsFound found x = (found >>= λ s. Some s.2) ≡ Some x

-- ---- an atom ends

abbrev pub stop_more : Config → Event → Atom → Unit {0} → Option (Unit {0})
stop_more c e a p = do need (is_alone e); Some tt

abbrev pub stop_found : Config → Event → Option (Atom × Unit {0} × Unit {0})
stop_found = found_by as_stop stop_more

abbrev pub stop_row : Config → Event → Option Config
stop_row c e = do stop_found c e; Some (ended c e.actor)

abbrev pub print_more : Config → Event → Atom → Expr → Option Value
print_more c e a x = do need (is_alone e); v ← eval x a.env; Some v

abbrev pub print_found : Config → Event → Option (Atom × Expr × Value)
print_found = found_by as_print print_more

abbrev pub print_row : Config → Event → Option Config
print_row c e = do (a, x, v) ← print_found c e; Some (spoken c e.actor e.site v)

abbrev pub send_more : Config → Event → Atom → Expr × Expr × Expr × Expr → Option Packet
send_more c e a (agent, to, chan, sent) = do
  b ← agent_of agent a.env
  t ← site_of c to a.env
  n ← chan_of chan a.env
  need (is_alone e)
  v ← eval sent a.env
  Some (record { to = t; agent = b; chan = n; value = v; tag = e.tag })

abbrev pub send_found : Config → Event → Option (Atom × (Expr × Expr × Expr × Expr) × Packet)
send_found = found_by as_send send_more

abbrev pub send_row : Config → Event → Option Config
send_row c e = do (a, p, packet) ← send_found c e; Some (flown c e.actor packet)

-- ---- an atom goes on as its body, under another environment

abbrev pub let_more : Config → Event → Atom → Pat × Expr × Proc → Option Atom
let_more c e a (pat, x, body) = do env ← bound_to pat x a.env; need (is_alone e); Some (goes_under a body env)

abbrev pub let_found : Config → Event → Option (Atom × (Pat × Expr × Proc) × Atom)
let_found = found_by as_let let_more

abbrev pub let_row : Config → Event → Option Config
let_row c e = do (a, p, atom) ← let_found c e; Some (stood c e.actor atom)

abbrev pub new_more : Config → Event → Atom → ℕ × Ty × Proc → Option Atom
new_more c e a (x, ty, body) = do n ← one_new c e; Some (goes_under a body (map.insert a.env x (value.Chan n)))

abbrev pub new_found : Config → Event → Option (Atom × (ℕ × Ty × Proc) × Atom)
new_found = found_by as_new new_more

abbrev pub new_row : Config → Event → Option Config
new_row c e = do (a, p, atom) ← new_found c e; Some (entered c e.actor atom e.made)

-- ---- an input takes an output

abbrev pub comm_more : Config → Event → Atom → Expr × Pat × Proc → Option (Name × Atom)
comm_more c e a (chan, pat, body) = do
  n ← chan_of chan a.env
  o ← e.other
  env ← taken_by c o a n pat
  none_made e.made
  Some (o, goes_under a body env)

abbrev pub comm_found : Config → Event → Option (Atom × (Expr × Pat × Proc) × (Name × Atom))
comm_found = found_by as_inp comm_more

abbrev pub comm_row : Config → Event → Option Config
comm_row c e = do (a, p, s) ← comm_found c e; Some (ended (stood c e.actor s.1) s.0)

abbrev pub rep_more : Config → Event → Atom → Expr × Pat × Proc → Option (Name × Atom)
rep_more c e a (chan, pat, body) = do
  n ← chan_of chan a.env
  o ← e.other
  env ← taken_by c o a n pat
  none_made e.made
  Some (o, goes_under a body env)

abbrev pub rep_found : Config → Event → Option (Atom × (Expr × Pat × Proc) × (Name × Atom))
rep_found = found_by as_rep rep_more

abbrev pub rep_row : Config → Event → Option Config
rep_row c e = do (a, p, s) ← rep_found c e; Some (stood c s.0 s.1)

-- ---- an atom goes on as a process in it

abbrev pub if_more : Config → Event → Atom → Expr × Proc × Proc → Option Atom
if_more c e a (test, met, unmet) = do
  t ← truth_of test a.env
  need (is_alone e)
  Some (goes a (cond t met unmet))

abbrev pub if_found : Config → Event → Option (Atom × (Expr × Proc × Proc) × Atom)
if_found = found_by as_if if_more

abbrev pub if_row : Config → Event → Option Config
if_row c e = do (a, p, atom) ← if_found c e; Some (stood c e.actor atom)

abbrev pub depart_more : Config → Event → Atom → Expr × Proc → Option Departure
depart_more c e a (site, body) = do
  t ← site_of c site a.env
  need (is_alone e)
  Some (record { to = t; atom = goes a body })

abbrev pub depart_found : Config → Event → Option (Atom × (Expr × Proc) × Departure)
depart_found = found_by as_migrate depart_more

abbrev pub departed : Config → Event → Departure → Config
departed c e d = record (stood c e.actor d.atom) { places = map.insert c.places d.atom.agent (place.Way d.to) }

abbrev pub depart_row : Config → Event → Option Config
depart_row c e = do (a, p, d) ← depart_found c e; Some (departed c e d)

abbrev pub lookup_by : Atom → ℕ → Proc → Proc → Option Name → Atom
lookup_by a x met unmet o = goes_under a (cond (is_some o) met unmet) (found_env a.env x o)

abbrev pub lookup_more : Config → Event → Atom → Expr × Expr × ℕ × Proc × Proc → Option Atom
lookup_more c e a (agent, among, x, met, unmet) = do
  b ← agent_of agent a.env
  places ← places_of among a.env
  need (is_alone e)
  Some (lookup_by a x met unmet (find_place places b))

abbrev pub lookup_found : Config → Event → Option (Atom × (Expr × Expr × ℕ × Proc × Proc) × Atom)
lookup_found = found_by as_lookup lookup_more

abbrev pub lookup_row : Config → Event → Option Config
lookup_row c e = do (a, p, atom) ← lookup_found c e; Some (stood c e.actor atom)

-- ---- an output comes

abbrev pub open_more : Config → Event → Atom → Expr → Option Atom
open_more c e a x = do need (is_alone e); (n, v) ← letter_of x a.env; Some (output_in a.agent n v e.tag)

abbrev pub open_found : Config → Event → Option (Atom × Expr × Atom)
open_found = found_by as_open open_more

abbrev pub open_row : Config → Event → Option Config
open_row c e = do (a, x, atom) ← open_found c e; Some (stood c e.actor atom)

abbrev pub post_more : Config → Event → Atom → Expr × Expr × Expr → Option Atom
post_more c e a (agent, chan, sent) = do
  b ← agent_of agent a.env
  n ← chan_of chan a.env
  need (is_alone e)
  v ← eval sent a.env
  Some (output_in b n v e.tag)

abbrev pub post_found : Config → Event → Option (Atom × (Expr × Expr × Expr) × Atom)
post_found = found_by as_post post_more

abbrev pub post_row : Config → Event → Option Config
post_row c e = do (a, p, atom) ← post_found c e; Some (stood c e.actor atom)

-- ---- atoms and agents come

-- an atom stands under a new mark, and what the acting one goes on as
abbrev pub forked : Config → Event → Fork → Config
forked c e f = record c { atoms = map.insert (map.insert c.atoms f.mark f.comes) e.actor f.stays; born = set.insert c.born f.mark }

abbrev pub fork_more : Config → Event → Atom → Proc × Proc → Option Fork
fork_more c e a (left, right) = do m ← one_new c e; Some (record { mark = m; comes = goes a right; stays = goes a left })

abbrev pub fork_found : Config → Event → Option (Atom × (Proc × Proc) × Fork)
fork_found = found_by as_par fork_more

abbrev pub fork_row : Config → Event → Option Config
fork_row c e = do (a, p, f) ← fork_found c e; Some (forked c e f)

-- the same, where the atom that comes is that of a new agent
abbrev pub peopled : Config → Event → Fork → Config
peopled c e n =
    record (forked c e n) {
      places = map.insert c.places n.comes.agent (place.At e.site);
      born = set.insert (set.insert c.born n.comes.agent) n.mark;
    }

abbrev pub agent_by : Atom → Proc → Proc → Name → Name → Env → Fork
agent_by a body rest b m env = record { mark = m; comes = record { agent = b; proc = body; env = env }; stays = goes_under a rest env }

abbrev pub agent_more : Config → Event → Atom → ℕ × Proc × Proc → Option Fork
agent_more c e a (x, body, rest) = do (b, m) ← two_new c e; Some (agent_by a body rest b m (map.insert a.env x (value.Agent b)))

abbrev pub agent_found : Config → Event → Option (Atom × (ℕ × Proc × Proc) × Fork)
agent_found = found_by as_agent_form agent_more

abbrev pub agent_row : Config → Event → Option Config
agent_row c e = do (a, p, n) ← agent_found c e; Some (peopled c e n)

-- ---- a location test, whose two ways differ in what they ask further

abbrev pub local_more : Config → Event → Atom → Expr × Expr × Expr × Proc × Proc → Option Local
local_more c e a (agent, chan, sent, met, unmet) = do
  b ← agent_of agent a.env
  n ← chan_of chan a.env
  v ← eval sent a.env
  no_other e.other
  let here : Bool = is_at c b e.site
  Some (record { agent = b; chan = n; value = v; here = here; next = goes a (cond here met unmet) })

abbrev pub local_found : Config → Event → Option (Atom × (Expr × Expr × Expr × Proc × Proc) × Local)
local_found = found_by as_iflocal local_more

-- the agent is here: its output stands under a new mark
abbrev pub here_way : Config → Event → Local → Option Config
here_way c e l = do
  m ← (do n ← one_made e.made; fresh c n; Some n)
  Some (forked c e (record { mark = m; comes = output_in l.agent l.chan l.value e.tag; stays = l.next }))

abbrev pub away_way : Config → Event → Local → Option Config
away_way c e l = do none_made e.made; Some (stood c e.actor l.next)

abbrev pub local_row : Config → Event → Option Config
local_row c e = do (a, p, l) ← local_found c e; cond l.here (here_way c e l) (away_way c e l)

-- the conditions that both ways have are met: the acting atom, and whether the agent is here
pub record IsLocal (c : Config) (e : Event) (l : Local) (here : Bool) : Type 0 where
  pub atom : Atom
  pub there : map.get c.atoms e.actor ≡ Some atom
  pub gives : local_row c e ≡ cond here (here_way c e l) (away_way c e l)

-- ---- the row of each kind

abbrev pub row_of : Kind → Config → Event → Option Config
row_of kind.Stop c e = stop_row c e
row_of kind.Fork c e = fork_row c e
row_of kind.New c e = new_row c e
row_of kind.Let c e = let_row c e
row_of kind.If c e = if_row c e
row_of kind.Comm c e = comm_row c e
row_of kind.Rep c e = rep_row c e
row_of kind.Agent c e = agent_row c e
row_of kind.Depart c e = depart_row c e
row_of kind.Local c e = local_row c e
row_of kind.Send c e = send_row c e
row_of kind.Print c e = print_row c e
row_of kind.Open c e = open_row c e
row_of kind.Lookup c e = lookup_row c e
row_of kind.Post c e = post_row c e
row_of k c e = row k c e
