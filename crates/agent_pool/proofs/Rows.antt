-- What an agent goes on as by the row of each kind, where the parts of its acting atom's form and their values are known.
use Rattle.std.proofs.Common.{◌≡◌, ℕ, Bool, true, false, List, [], ◌∷◌, cond, length, Option, None, Some, IsSome, refl, ap, subst, ◌∙◌}
use Rattle.std.specs.FinMap as map
use Rattle.np_syntax.specs.declared.types.Ty.{Ty}
use Rattle.np_syntax.specs.declared.value.Value as value
use Rattle.np_syntax.specs.declared.event.Kind.TheVariants as kind
use Rattle.np_syntax.specs.declared.event.Made.{Made}
use Rattle.np_syntax.specs.declared.event.Made.TheVariants as made
use Rattle.np_syntax.proofs.Options.{done}
use Rattle.np_calculus.proofs.Common.{Name, Value, Expr, Pat, Kind, ◌>>=◌, ◌>>◌, need, same_name, Env, Change}
use Rattle.np_calculus.proofs.Common.{chan_of, agent_of, truth_of, letter_of, places_of, eval, bind, no_other, sends, act, here_row, away_row}
use Rattle.np_calculus.specs.declared.config.Atom.{Atom}
use Rattle.np_calculus.specs.Changes.{put, cut, still}
use Rattle.np_calculus.specs.Reductions.{site_in, offered_in}
use Rattle.np_calculus.specs.Rows.{change_in}
use Rattle.np_code.specs.declared.node.Node.{Node}
use Rattle.np_code.specs.declared.node.NodeForm.{NodeForm}
use Rattle.np_code.specs.declared.node.NodeForm.TheVariants as node
use Rattle.np_code.specs.Programs.{ProgramTable}
use Rattle.agent_index.specs.Shelves.{value_of}
use Rattle.agent_pool.specs.declared.held.Held.{Held}
use Rattle.agent_pool.specs.declared.held.Held.TheVariants as held
use Rattle.agent_pool.specs.declared.ready.Ready.{Ready}
use Rattle.agent_pool.specs.Held.{atom_of}
use Rattle.agent_pool.specs.Operands.{place_in}
use Rattle.agent_pool.specs.Pools.{Pool, atoms_of}
use Rattle.agent_pool.specs.Rows.{own_sight, event_of, taken_in, ActsAs, IsMet, GoesOnAs, IsFork, IsPrinted}
use Rattle.agent_pool.specs.Moves.{IsDepart, IsSent, IsTold, IsAway, IsTarget, IsSplit}
use Rattle.agent_pool.proofs.Acting.{no-atom, atom-there, acted, row-met, row-is}

-- a chain that has an end has each of its steps
pub first-there : {A B : Type 0} (o : Option A) (f : A → Option B) → IsSome (o >>= f) → None ≡ o → ⊥
first-there None f some none = cc
first-there (Some a) f some none = cc

pub next-there : {A B : Type 0} (a : A) (o : Option A) (f : A → Option B) → Some a ≡ o → IsSome (o >>= f) → IsSome (f a)
next-there a None f is some = absurd (let x = is in cc)
next-there a (Some b) f is some = subst (λ x. IsSome (f x)) (done is) some

some-then : {A B C : Type 0} (o : Option A) (f : A → Option B) → IsSome (o >>= f) → ((a : A) → o ≡ Some a → IsSome (f a) → C) → C
some-then None f some k = absurd (let x = some in cc)
some-then (Some a) f some k = k a refl some

alone-some : (o : Option Name) (d e : Change) → IsSome (no_other o >> Some d) → (no_other o >> Some e) ≡ Some e
alone-some None d e some = refl
alone-some (Some m) d e some = absurd (let x = some in cc)

module _ {code : ProgramTable} {p : Pool} {r : Ready} {n : Node} {env : Env} (acts : ActsAs code p r n env) where
  by-row : (k : Kind) (here : Bool) (made : Made) (f : NodeForm) → n.form ≡ f → IsSome (change_in k (own_sight code p here) (event_of 0 r made))
      → (d : ℕ → Change)
      → ((site : ℕ) → IsSome (acted acts k here made f 0) → acted acts k here made f site ≡ Some (d site)) → (site : ℕ)
      → change_in k (own_sight code p here) (event_of site r made) ≡ Some (d site)
  by-row k here made f is met d same site = row-is acts k here made f is met site ∙ same site (row-met acts k here made f is met)

  pub forks : (mark : Name) (a b : ℕ) → n.form ≡ node.Par a b → IsMet kind.Fork code p r (made.One mark)
      → IsFork code p r mark (held.Node a env) (held.Node b env)
  unfolding act
  forks mark a b is met = by-row kind.Fork false (made.One mark) (node.Par a b) is met _ λ site some. alone-some r.other _ _ some

  pub goes-new : (chan : Name) (x : ℕ) (ty : Ty) (b : ℕ) → n.form ≡ node.New x ty b → IsMet kind.New code p r (made.One chan)
      → GoesOnAs kind.New code p r (made.One chan) r.actor (held.Node b (map.insert env x (value.Chan chan)))
  unfolding act
  goes-new chan x ty b is met = by-row kind.New false (made.One chan) (node.New x ty b) is met _ λ site some. alone-some r.other _ _ some

  pub goes-let : (pat : Pat) (e : Expr) (b : ℕ) → n.form ≡ node.Let pat e b → IsMet kind.Let code p r made.Nothing → (v : Value)
      → Some v ≡ eval e env → (bound : Env) → Some bound ≡ bind pat v env
      → GoesOnAs kind.Let code p r made.Nothing r.actor (held.Node b bound)
  unfolding act
  goes-let pat e b is met v gives bound binds =
      by-row kind.Let false made.Nothing (node.Let pat e b) is met _
      λ site some. rw (← gives, ← binds) (alone-some r.other _ _ (rw (← gives, ← binds) at some))

  pub goes-if : (e : Expr) (a b : ℕ) → n.form ≡ node.If e a b → IsMet kind.If code p r made.Nothing → (t : Bool) → Some t ≡ truth_of e env
      → GoesOnAs kind.If code p r made.Nothing r.actor (held.Node (cond t a b) env)
  unfolding act
  goes-if e a b is met true gives =
      by-row kind.If false made.Nothing (node.If e a b) is met _ λ site some. rw (← gives) (alone-some r.other _ _ (rw (← gives) at some))
  goes-if e a b is met false gives =
      by-row kind.If false made.Nothing (node.If e a b) is met _ λ site some. rw (← gives) (alone-some r.other _ _ (rw (← gives) at some))

  pub prints : (e : Expr) → n.form ≡ node.Print e → IsMet kind.Print code p r made.Nothing → (v : Value) → Some v ≡ eval e env → IsPrinted code p r v
  unfolding act
  prints e is met v gives =
      by-row kind.Print false made.Nothing (node.Print e) is met _ λ site some. rw (← gives) (alone-some r.other _ _ (rw (← gives) at some))

  pub departs : (e : Expr) (b : ℕ) → n.form ≡ node.Migrate e b → IsMet kind.Depart code p r made.Nothing → (to : ℕ)
      → Some to ≡ site_in (length code.sites) e env
      → IsDepart code p r (held.Node b env) to
  unfolding act
  departs e b is met to gives =
      by-row kind.Depart false made.Nothing (node.Migrate e b) is met _ λ site some. rw (← gives) (alone-some r.other _ _ (rw (← gives) at some))

  pub splits : (agent mark : Name) (x a b : ℕ) → n.form ≡ node.Agent x a b → IsMet kind.Agent code p r (made.Two agent mark)
      → IsSplit code p r agent mark (held.Node a (map.insert env x (value.Agent agent))) (held.Node b (map.insert env x (value.Agent agent)))
  unfolding act
  splits agent mark x a b is met = by-row kind.Agent false (made.Two agent mark) (node.Agent x a b) is met _ λ site some. alone-some r.other _ _ some

  pub opens : (e : Expr) → n.form ≡ node.Open e → IsMet kind.Open code p r made.Nothing → (chan : Name) (v : Value) → Some (chan, v) ≡ letter_of e env
      → GoesOnAs kind.Open code p r made.Nothing r.actor (held.Given chan v r.tag)
  unfolding act
  opens e is met chan v gives =
      by-row kind.Open false made.Nothing (node.Open e) is met _ λ site some. rw (← gives) (alone-some r.other _ _ (rw (← gives) at some))

  pub becomes-packet : (b t c e : Expr) → n.form ≡ node.Send b t c e → IsMet kind.Send code p r made.Nothing → (agent : Name)
      → Some agent ≡ agent_of b env
      → (to : ℕ) → Some to ≡ site_in (length code.sites) t env → (chan : Name) → Some chan ≡ chan_of c env → (v : Value) → Some v ≡ eval e env
      → IsSent code p r (record { to = to; agent = agent; chan = chan; value = v; tag = r.tag })
  unfolding act
  becomes-packet b t c e is met agent names to leads chan on v gives =
      by-row kind.Send false made.Nothing (node.Send b t c e) is met _
      λ site some. rw (← names, ← leads, ← on, ← gives) (alone-some r.other _ _ (rw (← names, ← leads, ← on, ← gives) at some))

  pub asks : (b c e : Expr) (i j : ℕ) → n.form ≡ node.IfLocal b c e i j → (agent : Name) → Some agent ≡ agent_of b env → IsTarget code p r agent
  asks b c e i j is agent names = rw (acts.there, acts.layer, is, ← names) refl

  pub tells : (mark : Name) (b c e : Expr) (i j : ℕ) → n.form ≡ node.IfLocal b c e i j
      → IsSome (change_in kind.Local (own_sight code p true) (event_of 0 r (made.One mark)))
      → (agent : Name) → Some agent ≡ agent_of b env → (chan : Name) → Some chan ≡ chan_of c env → (v : Value) → Some v ≡ eval e env
      → IsTold code p r mark (held.Node i env) (record { to = 0; agent = agent; chan = chan; value = v; tag = r.tag })
  unfolding act here_row
  tells mark b c e i j is met agent names chan on v gives =
      by-row kind.Local true (made.One mark) (node.IfLocal b c e i j) is met _
      λ site some. rw (← names, ← on, ← gives) (alone-some r.other _ _ (rw (← names, ← on, ← gives) at some))

  pub passes : (b c e : Expr) (i j : ℕ) → n.form ≡ node.IfLocal b c e i j → IsMet kind.Local code p r made.Nothing → IsAway code p r (held.Node j env)
  unfolding act away_row
  passes b c e i j is met =
      by-row kind.Local false made.Nothing (node.IfLocal b c e i j) is met _
      λ site some. some-then (agent_of b env) _ some λ agent names some. some-then (chan_of c env) _ some
      λ chan on some. some-then (eval e env) _ some λ v gives some.
      rw (names, on, gives) (alone-some r.other _ _ some)

  module _ (b m : Expr) (x i j : ℕ) (is : n.form ≡ node.Lookup b m x i j) (met : IsMet kind.Lookup code p r made.Nothing) (agent : Name)
      (names : Some agent ≡ agent_of b env) where
    pub finds : (lock : Name) → Some (Some lock) ≡ place_in m env agent
        → GoesOnAs kind.Lookup code p r made.Nothing r.actor (held.Node i (map.insert env x (value.Chan lock)))
    unfolding act
    finds lock found =
        by-row kind.Lookup false made.Nothing (node.Lookup b m x i j) is met _ λ site some. rw (← names)
        (some-then (places_of m env) _ (rw (← names) at some)
        λ places among some. rw (among, done (rw (among) at found)) (alone-some r.other _ _ some))

    pub misses : Some None ≡ place_in m env agent → GoesOnAs kind.Lookup code p r made.Nothing r.actor (held.Node j env)
    unfolding act
    misses found =
        by-row kind.Lookup false made.Nothing (node.Lookup b m x i j) is met _ λ site some. rw (← names)
        (some-then (places_of m env) _ (rw (← names) at some)
        λ places among some. rw (among, done (rw (among) at found)) (alone-some r.other _ _ some))

-- an input of the agent that takes an output of the agent
module _ (code : ProgramTable) (p : Pool) (env : Env) (c : Expr) (pat : Pat) where
  abbrev taking : Option Name → (Name → Env → Option Change) → Option Change
  taking other goal =
      chan_of c env >>=
      λ n. other >>= λ o. offered_in (map.get (atoms_of code.processes p)) o p.name n >>= λ v. bind pat v env >>= λ bound. goal o bound

  taker-meets : (other : Option Name) (goal : Name → Env → Option Change) → IsSome (taking other goal) → None ≡ other → ⊥
  taker-meets other goal some none = some-then (chan_of c env) _ some λ n on some. first-there other _ some none

  output-there : (other : Option Name) (o : Name) → other ≡ Some o → (goal : Name → Env → Option Change) → IsSome (taking other goal) → None
      ≡ value_of (map.get p.atoms o) → ⊥
  output-there other o is goal some none = some-then (chan_of c env) _ some λ n on some.
      first-there (offered_in (map.get (atoms_of code.processes p)) o p.name n) (λ v. bind pat v env >>= goal o) (rw is at some)
      (rw (no-atom code p o none) refl)

  -- what an output gives is what was offered, and it fits
  record Given (n : Name) (t : Bool) (o : Option (Name × Value)) : Type 0 where
    pub bound : Env
    pub takes : (o >>= λ sent. bind pat sent.1 env) ≡ Some bound
    pub goes : (goal : Env → Option Change) → ((need t >> (o >>= λ sent. need (same_name n sent.0) >> Some sent.1)) >>= λ v. bind pat v env >>= goal)
        ≡ goal bound

  given : (n : Name) (t : Bool) (o : Option (Name × Value)) (goal : Env → Option Change)
      → IsSome ((need t >> (o >>= λ sent. need (same_name n sent.0) >> Some sent.1)) >>= λ v. bind pat v env >>= goal) → Given n t o
  given n true (Some sent) goal some = on (same_name n sent.0) refl some
    where
      on : (t : Bool) → same_name n sent.0 ≡ t → IsSome ((need t >> Some sent.1) >>= λ v. bind pat v env >>= goal) → Given n true (Some sent)
      on true is some =
          some-then (bind pat sent.1 env) goal some λ bound takes _. record { bound = bound; takes = takes; goes = λ goal. rw (is, takes) refl }
      on false is some = absurd (let x = some in cc)
  given n true None goal some = absurd (let x = some in cc)
  given n false o goal some = absurd (let x = some in cc)

  module _ (other : Option Name) (o : Name) (is : other ≡ Some o) (h : Held) (gets : Some h ≡ value_of (map.get p.atoms o))
      (goal : Name → Env → Option Change) (some : IsSome (taking other goal)) where
    abbrev a : Atom
    a = atom_of code.processes p.name h

    fitting : {C : Type 0} → ((n : Name) → chan_of c env ≡ Some n → Given n (same_name p.name a.agent) (sends a) → C) → C
    fitting goes =
        some-then (chan_of c env) _ some λ n on some. goes n on
        (given n (same_name p.name a.agent) (sends a) (goal o) (rw (is, atom-there code p o h gets) at some))

    output-fits : None ≡ taken_in a pat env → ⊥
    output-fits none = fitting λ n on g. absurd (let x = none ∙ g.takes in cc)

    taking-is : (bound : Env) → Some bound ≡ taken_in a pat env → (to : Name → Env → Option Change) → taking other to ≡ to o bound
    taking-is bound takes to = fitting λ n on g. rw (on, is, atom-there code p o h gets) (g.goes (to o) ∙ ap (to o) (done (takes ∙ g.takes)))

-- a met row of an acting input, by which it takes an output of the agent
pub record Takes (code : ProgramTable) (p : Pool) (r : Ready) (k : Kind) (env : Env) (c : Expr) (pat : Pat) (goal : Name → Env → Change) : Type 0 where
  pub row : (site : ℕ) → change_in k (own_sight code p false) (event_of site r made.Nothing) ≡ taking code p env c pat r.other (λ o bound. Some (goal o bound))
  pub met : IsSome (taking code p env c pat r.other (λ o bound. Some (goal o bound)))

module _ {code : ProgramTable} {p : Pool} {r : Ready} {n : Node} {env : Env} (acts : ActsAs code p r n env) {c : Expr} {pat : Pat} {b : ℕ} where
  pub comm-takes : n.form ≡ node.Inp c pat b → IsMet kind.Comm code p r made.Nothing
      → Takes code p r kind.Comm env c pat (λ o bound. record still { atoms = put r.actor (atom_of code.processes p.name (held.Node b bound)) ∷ cut o ∷ [] })
  unfolding act
  comm-takes is met = record { row = row-is acts kind.Comm false made.Nothing _ is met; met = row-met acts kind.Comm false made.Nothing _ is met }

  pub rep-takes : n.form ≡ node.Rep c pat b → IsMet kind.Rep code p r made.Nothing
      → Takes code p r kind.Rep env c pat (λ o bound. record still { atoms = put o (atom_of code.processes p.name (held.Node b bound)) ∷ [] })
  unfolding act
  rep-takes is met = record { row = row-is acts kind.Rep false made.Nothing _ is met; met = row-met acts kind.Rep false made.Nothing _ is met }

-- what such a row says of the output, which the agent's index has
module _ {code : ProgramTable} {p : Pool} {r : Ready} {k : Kind} {env : Env} {c : Expr} {pat : Pat} {goal : Name → Env → Change} (t : Takes code p r k env c pat goal) where
  pub names-output : None ≡ r.other → ⊥
  names-output = taker-meets code p env c pat r.other _ t.met

  module _ {o : Name} (is : r.other ≡ Some o) {q : Pool} (same : q ≡ p) where
    pub has-output : None ≡ value_of (map.get q.atoms o) → ⊥
    has-output none = output-there code p env c pat r.other o is _ t.met (subst (λ (x : Pool). None ≡ value_of (map.get x.atoms o)) same none)

    module _ {h : Held} (gets : Some h ≡ value_of (map.get q.atoms o)) where
      there : Some h ≡ value_of (map.get p.atoms o)
      there = subst (λ (x : Pool). Some h ≡ value_of (map.get x.atoms o)) same gets

      pub fits-output : None ≡ taken_in (atom_of code.processes p.name h) pat env → ⊥
      fits-output = output-fits code p env c pat r.other o is h there _ t.met

      pub takes-output : {bound : Env} → Some bound ≡ taken_in (atom_of code.processes p.name h) pat env → (site : ℕ)
          → change_in k (own_sight code p false) (event_of site r made.Nothing) ≡ Some (goal o bound)
      takes-output takes site = t.row site ∙ taking-is code p env c pat r.other o is h there _ t.met _ takes (λ o bound. Some (goal o bound))
