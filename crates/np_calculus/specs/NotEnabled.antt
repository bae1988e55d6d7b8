-- Which events are not enabled: one statement for each reason that a row has (docs/LANGUAGE.md, "Reductions").
use Rattle.std.specs.Prelude.{◌≡◌, ℕ, ℤ, Bool, true, false, List, None, Some, is_some, nat_eq, nat_lt}
use Rattle.std.specs.FinMap as map
use Rattle.std.specs.FinSet as set
use Rattle.np_syntax.specs.declared.value.Name.{Name}
use Rattle.np_syntax.specs.declared.value.Value.{Value, out-Value}
use Rattle.np_syntax.specs.declared.value.Value as value
use Rattle.np_syntax.specs.declared.expression.Expr.{Expr}
use Rattle.np_syntax.specs.declared.expression.ExprForm as expr
use Rattle.np_syntax.specs.declared.pattern.Pat.{Pat}
use Rattle.np_syntax.specs.declared.pattern.PatForm as pat
use Rattle.np_syntax.specs.declared.process.Proc.{Proc}
use Rattle.np_syntax.specs.declared.process.ProcForm as form
use Rattle.np_syntax.specs.declared.event.Event.{Event}
use Rattle.np_syntax.specs.declared.event.Kind.{Kind}
use Rattle.np_syntax.specs.declared.event.Kind.TheVariants as kind
use Rattle.np_syntax.specs.declared.event.Made.TheVariants as made
use Rattle.np_calculus.specs.declared.config.Atom.{Atom}
use Rattle.np_calculus.specs.declared.config.Packet.{Packet}
use Rattle.np_calculus.specs.declared.config.Place.TheVariants as place
use Rattle.np_tables.specs.Names.{same_name}
use Rattle.np_calculus.specs.Config.{Config}
use Rattle.np_eval.specs.Eval.{Env, eval, bind, as_site, agent_of, chan_of, letter_of, places_of, truth_of}
use Rattle.np_eval.specs.Forms.{Layer, layer}
use Rattle.np_eval.specs.FormParts.{as_stop, as_par, as_new, as_inp, as_rep, as_agent_form, as_migrate, as_iflocal, as_send, as_post, as_if}
use Rattle.np_eval.specs.FormParts.{as_let, as_print, as_open, as_lookup}
use Rattle.np_calculus.specs.Reductions.{same_tag, sends, row}
use Rattle.np_calculus.specs.Seen.{acting}

-- an arrival and a landing have no acting atom
abbrev pub by_atom : Kind → Bool
by_atom kind.Arrive = false
by_atom kind.Land = false
by_atom _ = true

-- the form that each kind asks of the acting atom
abbrev pub asks : Kind → Layer → Bool
asks kind.Stop l = is_some (as_stop l)
asks kind.Fork l = is_some (as_par l)
asks kind.New l = is_some (as_new l)
asks kind.Let l = is_some (as_let l)
asks kind.If l = is_some (as_if l)
asks kind.Comm l = is_some (as_inp l)
asks kind.Rep l = is_some (as_rep l)
asks kind.Agent l = is_some (as_agent_form l)
asks kind.Depart l = is_some (as_migrate l)
asks kind.Arrive l = false
asks kind.Local l = is_some (as_iflocal l)
asks kind.Send l = is_some (as_send l)
asks kind.Land l = false
asks kind.Print l = is_some (as_print l)
asks kind.Open l = is_some (as_open l)
asks kind.Lookup l = is_some (as_lookup l)
asks kind.Post l = is_some (as_post l)

-- for whatever reason an acting atom is not there, for each kind that has one
pub record NoActor : Type 0 where
  -- no atom has the mark
  pub absent : (k : Kind) (c : Config) (e : Event) → by_atom k ≡ true → map.get c.atoms e.actor ≡ None → row k c e ≡ None
  -- the atom's agent is at another site
  pub elsewhere : (k : Kind) (c : Config) (e : Event) (a : Atom) (s : ℕ) → by_atom k ≡ true → map.get c.atoms e.actor ≡ Some a
      → map.get c.places a.agent ≡ Some (place.At s) → nat_eq s e.site ≡ false → row k c e ≡ None
  -- the atom's agent is under way
  pub travelling : (k : Kind) (c : Config) (e : Event) (a : Atom) (s : ℕ) → by_atom k ≡ true → map.get c.atoms e.actor ≡ Some a
      → map.get c.places a.agent ≡ Some (place.Way s) → row k c e ≡ None
  -- the atom's process has another tag
  pub other_tag : (k : Kind) (c : Config) (e : Event) (a : Atom) (s : ℕ) → by_atom k ≡ true → map.get c.atoms e.actor ≡ Some a
      → map.get c.places a.agent ≡ Some (place.At s) → nat_eq s e.site ≡ true → same_tag a.proc.tag e.tag ≡ false → row k c e ≡ None
  -- the process has another form than the kind asks
  pub other_form : (k : Kind) (c : Config) (e : Event) (a : Atom) → by_atom k ≡ true → acting c e ≡ Some a → asks k (layer a.proc) ≡ false
      → row k c e ≡ None

-- the other reasons, each on one row that has it
pub record NotEnabled : Type 0 where
  pub no_actor : NoActor
  -- a print does not stop
  pub print_to_stop : (c : Config) (e : Event) (a : Atom) (x : Expr) → acting c e ≡ Some a → a.proc.form ≡ form.Print x
      → row kind.Stop c e ≡ None
  -- no packet has the mark
  pub no_packet : (c : Config) (e : Event) → map.get c.packets e.actor ≡ None → row kind.Land c e ≡ None
  -- the agent that is to arrive is at a site
  pub not_travelling : (c : Config) (e : Event) (s : ℕ) → map.get c.places e.actor ≡ Some (place.At s) → row kind.Arrive c e ≡ None
  -- the packet goes to another site
  pub packet_elsewhere : (c : Config) (e : Event) (p : Packet) → map.get c.packets e.actor ≡ Some p → nat_eq p.to e.site ≡ false
      → row kind.Land c e ≡ None
  -- the agent is under way to another site
  pub bound_elsewhere : (c : Config) (e : Event) (s : ℕ) → map.get c.places e.actor ≡ Some (place.Way s) → nat_eq s e.site ≡ false
      → row kind.Arrive c e ≡ None
  -- a stop makes no name
  pub name_made : (c : Config) (e : Event) (m : Name) → e.made ≡ made.One m → row kind.Stop c e ≡ None
  -- a fork makes one name
  pub none_made_there : (c : Config) (e : Event) → e.made ≡ made.Nothing → row kind.Fork c e ≡ None
  -- the name that an event makes is born already
  pub born_already : (k : Kind) (c : Config) (e : Event) (m : Name) → e.made ≡ made.One m → set.contains c.born m ≡ true → row k c e ≡ None
  -- an agent and its first mark have one name
  pub one_name_twice : (k : Kind) (c : Config) (e : Event) (m n : Name) → e.made ≡ made.Two m n → same_name m n ≡ true → row k c e ≡ None
  -- a stop takes no output
  pub output_taken : (c : Config) (e : Event) (o : Name) → e.other ≡ Some o → row kind.Stop c e ≡ None
  -- a communication takes an output
  pub no_output : (c : Config) (e : Event) → e.other ≡ None → row kind.Comm c e ≡ None
  -- the output is on another channel than the input
  pub other_channel : (c : Config) (e : Event) (a b : Atom) (parts : Expr × Pat × Proc) (n o : Name) (sent : Name × Value)
      → acting c e ≡ Some a
      → as_inp (layer a.proc) ≡ Some parts → chan_of parts.0 a.env ≡ Some n → e.other ≡ Some o → map.get c.atoms o ≡ Some b
      → same_name a.agent b.agent ≡ true → sends b ≡ Some sent → same_name n sent.0 ≡ false → row kind.Comm c e ≡ None
  -- the output is in another agent than the input
  pub other_agent : (c : Config) (e : Event) (a b : Atom) (parts : Expr × Pat × Proc) (n o : Name) → acting c e ≡ Some a
      → as_inp (layer a.proc) ≡ Some parts → chan_of parts.0 a.env ≡ Some n → e.other ≡ Some o → map.get c.atoms o ≡ Some b
      → same_name a.agent b.agent ≡ false → row kind.Comm c e ≡ None
  -- the pattern of a let does not match the value
  pub no_match : (c : Config) (e : Event) (a : Atom) (parts : Pat × Expr × Proc) (v : Value) → acting c e ≡ Some a
      → as_let (layer a.proc) ≡ Some parts → eval parts.1 a.env ≡ Some v → bind parts.0 v a.env ≡ None → row kind.Let c e ≡ None
  -- the condition is no truth value
  pub no_truth : (c : Config) (e : Event) (a : Atom) (parts : Expr × Proc × Proc) → acting c e ≡ Some a → as_if (layer a.proc) ≡ Some parts
      → truth_of parts.0 a.env ≡ None → row kind.If c e ≡ None
  -- the expression of a print has no value
  pub no_value : (c : Config) (e : Event) (a : Atom) (x : Expr) → acting c e ≡ Some a → as_print (layer a.proc) ≡ Some x
      → eval x a.env ≡ None
      → row kind.Print c e ≡ None
  -- the program does not have the site to which the agent is to go
  pub no_site : (c : Config) (e : Event) (a : Atom) (parts : Expr × Proc) (v : Value) (t : ℕ) → acting c e ≡ Some a
      → as_migrate (layer a.proc) ≡ Some parts → eval parts.0 a.env ≡ Some v → as_site (out-Value v) ≡ Some t → nat_lt t c.sites ≡ false
      → row kind.Depart c e ≡ None

-- the reasons of the two rows that only the low level has, beside those of every acting atom
pub record LowNotEnabled : Type 0 where
  -- what is opened is no letter
  pub no_letter : (c : Config) (e : Event) (a : Atom) (x : Expr) → acting c e ≡ Some a → as_open (layer a.proc) ≡ Some x
      → letter_of x a.env ≡ None
      → row kind.Open c e ≡ None
  -- what is looked up is no agent
  pub no_agent : (c : Config) (e : Event) (a : Atom) (parts : Expr × Expr × ℕ × Proc × Proc) → acting c e ≡ Some a
      → as_lookup (layer a.proc) ≡ Some parts
      → agent_of parts.0 a.env ≡ None → row kind.Lookup c e ≡ None
  -- where it is looked up is no map of places
  pub no_places : (c : Config) (e : Event) (a : Atom) (parts : Expr × Expr × ℕ × Proc × Proc) (b : Name) → acting c e ≡ Some a
      → as_lookup (layer a.proc) ≡ Some parts → agent_of parts.0 a.env ≡ Some b → places_of parts.1 a.env ≡ None
      → row kind.Lookup c e ≡ None
  -- neither makes a name, and neither takes an output
  pub open_makes : (c : Config) (e : Event) (m : Name) → e.made ≡ made.One m → row kind.Open c e ≡ None
  pub open_takes : (c : Config) (e : Event) (o : Name) → e.other ≡ Some o → row kind.Open c e ≡ None
  pub lookup_makes : (c : Config) (e : Event) (m : Name) → e.made ≡ made.One m → row kind.Lookup c e ≡ None
  pub lookup_takes : (c : Config) (e : Event) (o : Name) → e.other ≡ Some o → row kind.Lookup c e ≡ None

-- what has no value, and what does not match
pub record NoValue : Type 0 where
  -- a variable that nothing stands for has no value
  pub unbound : (x at : ℕ) (env : Env) → map.get env x ≡ None → eval (record { at = at; form = expr.Var x }) env ≡ None
  -- a pattern of a tuple does not match a number
  pub tuple_to_number : (ps : List Pat) (at : ℕ) (i : ℤ) (env : Env)
      → bind (record { at = at; form = pat.Tuple ps }) (value.Int i) env ≡ None
