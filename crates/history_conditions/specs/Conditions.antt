-- The conditions that the row of an event asks, and what it means that one holds (docs/PICTURES.md, "Refusals").
use Rattle.std.specs.Prelude.{ℕ, Bool, true, false, not, ◌&&◌, cond, Option, None, Some, is_some, List, [], ◌∷◌, nat_eq, nat_lt}
use Rattle.std.specs.FinMap as map
use Rattle.std.specs.FinSet as set
use Rattle.np_syntax.specs.declared.value.Name.{Name}
use Rattle.np_syntax.specs.declared.expression.Expr.{Expr}
use Rattle.np_syntax.specs.declared.pattern.Pat.{Pat}
use Rattle.np_syntax.specs.declared.process.Tag.{Tag}
use Rattle.np_syntax.specs.declared.process.Role.TheVariants as role
use Rattle.np_syntax.specs.declared.process.ProcForm.{ProcForm-F}
use Rattle.np_syntax.specs.declared.event.Event.{Event}
use Rattle.np_syntax.specs.declared.event.Kind.{Kind}
use Rattle.np_syntax.specs.declared.event.Kind.TheVariants as kind
use Rattle.np_syntax.specs.declared.event.Made.{Made}
use Rattle.np_syntax.specs.declared.event.Made.TheVariants as made
use Rattle.np_syntax.specs.Options.{◌>>=◌}
use Rattle.np_tables.specs.Names.{NameSet, same_name}
use Rattle.np_calculus.specs.declared.config.Atom.{Atom}
use Rattle.np_calculus.specs.declared.config.Place.{Place}
use Rattle.np_calculus.specs.declared.config.Place.TheVariants as place
use Rattle.np_calculus.specs.Config.{Config}
use Rattle.np_calculus.specs.NotEnabled.{asks}
use Rattle.np_calculus.specs.Reductions.{role_index, sends, site_in}
use Rattle.np_calculus.specs.Seen.{is_at}
use Rattle.np_calculus.specs.Sight.{Contents, at_site, inside}
use Rattle.np_eval.specs.Eval.{Env, agent_of, bind, chan_of, eval, letter_of, places_of, truth_of}
use Rattle.np_eval.specs.Fitting.{fits}
use Rattle.np_eval.specs.FormParts.{as_iflocal}
use Rattle.np_eval.specs.Forms.{Layer, as_out, given_on, layer, taken_on}
use Rattle.history_conditions.specs.declared.condition.Condition.{Condition}
use Rattle.history_conditions.specs.declared.condition.Condition.TheVariants as condition
use Rattle.history_conditions.specs.declared.condition.EventField.{EventField}
use Rattle.history_conditions.specs.declared.condition.EventField.TheVariants as field
use Rattle.history_conditions.specs.declared.condition.TheConstants.{CONDITIONS}

-- there is one, and it passes the test
abbrev pub some_and : {A : Type 0} → Option A → (A → Bool) → Bool
some_and None test = false
some_and (Some a) test = test a

-- it passes the test, if there is one
abbrev pub none_or : {A : Type 0} → Option A → (A → Bool) → Bool
none_or None test = true
none_or (Some a) test = test a

-- ---- what acts

abbrev pub is_on_way : Place → Bool
is_on_way (place.At s) = false
is_on_way (place.Way s) = true

abbrev pub goes_to : Place → ℕ → Bool
goes_to (place.At s) site = false
goes_to (place.Way s) site = nat_eq s site

-- an agent that is under way arrives, a packet that is under way lands, and else an atom acts
abbrev pub actor_stands : Kind → Contents → Name → Bool
actor_stands kind.Arrive x actor = some_and (x.place actor) is_on_way
actor_stands kind.Land x actor = is_some (x.packet actor)
actor_stands _ x actor = is_some (x.atom actor)

-- the agent or the packet goes to the site, or the agent of the atom is at it
abbrev pub is_at_its_site : Kind → Contents → Event → Bool
is_at_its_site kind.Arrive x e = some_and (x.place e.actor) (λ p. goes_to p e.site)
is_at_its_site kind.Land x e = some_and (x.packet e.actor) (λ p. nat_eq p.to e.site)
is_at_its_site _ x e = some_and (x.atom e.actor) (λ a. at_site (x.place a.agent) e.site)

-- the process of the atom has the form that the kind asks for
abbrev pub is_of_kind : Kind → Contents → Name → Bool
is_of_kind kind.Arrive x actor = true
is_of_kind kind.Land x actor = true
is_of_kind k x actor = some_and (x.atom actor) (λ a. asks k (layer a.proc))

-- the tag of an arrival, of the packet, or of the atom's process
abbrev pub owner : Kind → Contents → Name → Option Tag
owner kind.Arrive x actor = Some (record { node = 0; role = role.Plain })
owner kind.Land x actor = x.packet actor >>= λ p. Some p.tag
owner _ x actor = x.atom actor >>= λ a. Some a.proc.tag

abbrev pub has_node : Kind → Contents → Event → Bool
has_node k x e = some_and (owner k x e.actor) (λ tag. nat_eq tag.node e.tag.node)

abbrev pub has_role : Kind → Contents → Event → Bool
has_role k x e = some_and (owner k x e.actor) (λ tag. nat_eq (role_index tag.role) (role_index e.tag.role))

-- ---- names

-- a communication and a repeated one take an output, and no other event does
abbrev pub names_output : Kind → Option Name → Bool
names_output kind.Comm other = is_some other
names_output kind.Rep other = is_some other
names_output _ other = not (is_some other)

-- the agent for which a location test asks
abbrev pub asked_agent : Config → Event → Option Name
asked_agent c e = map.get c.atoms e.actor >>= λ a. as_iflocal (layer a.proc) >>= λ (agent, chan, sent, met, unmet). agent_of agent a.env

abbrev pub finds_agent : Config → Event → Bool
finds_agent c e = some_and (asked_agent c e) (λ agent. is_at c agent e.site)

-- how many names a row makes: a location test one where it finds its agent
abbrev pub names_wanted : Kind → Config → Event → ℕ
names_wanted kind.Fork c e = 1
names_wanted kind.New c e = 1
names_wanted kind.Agent c e = 2
names_wanted kind.Local c e = cond (finds_agent c e) 1 0
names_wanted _ c e = 0

abbrev pub first_of : Made → Option Name
first_of made.Nothing = None
first_of (made.One m) = Some m
first_of (made.Two m n) = Some m

abbrev pub second_of : Made → Option Name
second_of made.Nothing = None
second_of (made.One m) = None
second_of (made.Two m n) = Some n

-- there is a name exactly where one is wanted
abbrev pub is_as_wanted : Bool → Option Name → Bool
is_as_wanted wanted name = cond wanted (is_some name) (not (is_some name))

abbrev pub is_new : NameSet → Option Name → Bool
is_new born name = none_or name (λ q. not (set.contains born q))

abbrev pub names_differ : Made → Bool
names_differ (made.Two m n) = not (same_name m n)
names_differ _ = true

-- ---- outputs that are taken

abbrev pub output_stands : Contents → Event → Bool
output_stands x e = none_or e.other (λ o. is_some (x.atom o))

abbrev pub is_output : Contents → Event → Bool
is_output x e = none_or e.other (λ o. some_and (x.atom o) (λ b. is_some (as_out (layer b.proc))))

-- of the atom that acts and of the one under the mark that is named
abbrev pub of_both : Contents → Event → (Atom → Atom → Bool) → Bool
of_both x e test = none_or e.other (λ o. some_and (x.atom e.actor) (λ a. some_and (x.atom o) (test a)))

abbrev pub is_in_agent : Atom → Atom → Bool
is_in_agent a b = same_name a.agent b.agent

-- the channel of an input, and of an output
abbrev pub input_channel : Atom → Option Name
input_channel a = taken_on (layer a.proc) >>= λ t. chan_of t.0 a.env

abbrev pub output_channel : Atom → Option Name
output_channel b = given_on (layer b.proc) >>= λ chan. chan_of chan b.env

-- no two channels
abbrev pub is_on_channel : Atom → Atom → Bool
is_on_channel a b = none_or (input_channel a) (λ m. none_or (output_channel b) (same_name m))

-- ---- operands

-- an expression names an agent, a channel and what is sent on it
abbrev pub message_fits : Expr → Expr → Expr → Env → Bool
message_fits agent chan sent env = is_some (agent_of agent env) && (is_some (chan_of chan env) && is_some (eval sent env))

-- the pattern matches what the output sends
abbrev pub taken_fits : Contents → Event → Pat → Env → Bool
taken_fits x e pat env = some_and (e.other >>= x.atom) (λ b. some_and (sends b) (λ sent. is_some (bind pat sent.1 env)))

-- the channel of an input, and its pattern, which what the output sends matches
abbrev pub input_fits : Contents → Event → Expr → Pat → Env → Bool
input_fits x e chan pat env = is_some (chan_of chan env) && taken_fits x e pat env

-- the expressions of a process have values of the forms that its row needs, and its pattern matches
abbrev pub form_fits : ℕ → Contents → Event → Env → Layer → Bool
form_fits sites x e env (ProcForm-F.Inp chan pat body) = input_fits x e chan pat env
form_fits sites x e env (ProcForm-F.Rep chan pat body) = input_fits x e chan pat env
form_fits sites x e env (ProcForm-F.Migrate to body) = is_some (site_in sites to env)
form_fits sites x e env (ProcForm-F.IfLocal agent chan sent met unmet) = message_fits agent chan sent env
form_fits sites x e env (ProcForm-F.Send agent to chan sent) = is_some (site_in sites to env) && message_fits agent chan sent env
form_fits sites x e env (ProcForm-F.Post agent chan sent) = message_fits agent chan sent env
form_fits sites x e env (ProcForm-F.If test met unmet) = is_some (truth_of test env)
form_fits sites x e env (ProcForm-F.Let pat bound body) = fits pat bound env
form_fits sites x e env (ProcForm-F.Print said) = is_some (eval said env)
form_fits sites x e env (ProcForm-F.Open letter) = is_some (letter_of letter env)
form_fits sites x e env (ProcForm-F.Lookup agent among at met unmet) = is_some (agent_of agent env) && is_some (places_of among env)
form_fits sites x e env _ = true

abbrev pub operands_fit : Kind → ℕ → Contents → Event → Bool
operands_fit kind.Arrive sites x e = true
operands_fit kind.Land sites x e = true
operands_fit _ sites x e = some_and (x.atom e.actor) (λ a. form_fits sites x e a.env (layer a.proc))

-- ---- the conditions

-- a condition of an event holds in a configuration
abbrev pub holds : Config → Event → Condition → Bool
holds c e condition.ActorStands = actor_stands e.kind (inside c) e.actor
holds c e condition.IsAtSite = is_at_its_site e.kind (inside c) e
holds c e condition.IsOfKind = is_of_kind e.kind (inside c) e.actor
holds c e condition.HasNode = has_node e.kind (inside c) e
holds c e condition.HasRole = has_role e.kind (inside c) e
holds c e condition.NamesOutput = names_output e.kind e.other
holds c e condition.MakesFirst = is_as_wanted (nat_lt 0 (names_wanted e.kind c e)) (first_of e.made)
holds c e condition.MakesSecond = is_as_wanted (nat_lt 1 (names_wanted e.kind c e)) (second_of e.made)
holds c e condition.FirstIsNew = is_new c.born (first_of e.made)
holds c e condition.SecondIsNew = is_new c.born (second_of e.made)
holds c e condition.NamesDiffer = names_differ e.made
holds c e condition.OutputStands = output_stands (inside c) e
holds c e condition.IsOutput = is_output (inside c) e
holds c e condition.IsInAgent = of_both (inside c) e is_in_agent
holds c e condition.IsOnChannel = of_both (inside c) e is_on_channel
holds c e condition.OperandsFit = operands_fit e.kind c.sites (inside c) e

-- the first one of a list that does not hold
abbrev pub first_failing : (Condition → Bool) → List Condition → Option Condition
first_failing test [] = None
first_failing test (x ∷ xs) = cond (test x) (first_failing test xs) (Some x)

-- the first condition of an event that does not hold in a configuration
abbrev pub first_unmet : Config → Event → Option Condition
first_unmet c e = first_failing (holds c e) CONDITIONS

-- the field of an event's line that a condition is about
abbrev pub field_of : Condition → EventField
field_of condition.ActorStands = field.Actor
field_of condition.IsAtSite = field.Site
field_of condition.IsOfKind = field.Kind
field_of condition.HasNode = field.Node
field_of condition.HasRole = field.Role
field_of condition.NamesOutput = field.Other
field_of condition.MakesFirst = field.FirstMade
field_of condition.MakesSecond = field.SecondMade
field_of condition.FirstIsNew = field.FirstMade
field_of condition.SecondIsNew = field.SecondMade
field_of condition.NamesDiffer = field.SecondMade
field_of condition.OutputStands = field.Other
field_of condition.IsOutput = field.Other
field_of condition.IsInAgent = field.Other
field_of condition.IsOnChannel = field.Other
field_of condition.OperandsFit = field.Kind
