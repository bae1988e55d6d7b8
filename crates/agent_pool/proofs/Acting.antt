-- The rows of an acting atom whose node is known.
use Rattle.std.proofs.Common.{◌≡◌, ℕ, Bool, true, false, Option, None, Some, IsSome, refl, sym, ap, subst, ◌∙◌}
use Rattle.std.specs.Prelude.{option_map}
use Rattle.std.specs.FinMap as map
use Rattle.np_syntax.specs.declared.event.Kind.TheVariants as kind
use Rattle.np_syntax.specs.declared.event.Made.{Made}
use Rattle.np_calculus.proofs.Common.{Name, Expr, ProcForm-F, Event, Kind, ◌>>=◌, ◌>>◌, need, Env, layer, Sight, Change, same_tag, act}
use Rattle.np_calculus.specs.declared.config.Atom.{Atom}
use Rattle.np_calculus.specs.Rows.{change_in}
use Rattle.np_tables.proofs.Mapped.{get-mapped}
use Rattle.np_code.specs.declared.node.Node.{Node}
use Rattle.np_code.specs.declared.node.NodeForm.{NodeForm}
use Rattle.np_code.specs.Programs.{ProgramTable}
use Rattle.np_code.specs.Trees.{layer_of}
use Rattle.agent_index.specs.Shelves.{Kept, value_of}
use Rattle.agent_pool.specs.declared.held.Held.{Held}
use Rattle.agent_pool.specs.declared.ready.Ready.{Ready}
use Rattle.agent_pool.specs.Held.{proc_of, atom_of, IsOutput, IsNode}
use Rattle.agent_pool.specs.Pools.{Pool, seen_as, atoms_of}
use Rattle.agent_pool.specs.Rows.{own_sight, event_of, ActsAs, NeverActs}

same-held : (h g : Held) → Some h ≡ Some g → h ≡ g
same-held h g e = cc

need_none : {B : Type 0} (t : Bool) (o : Option B) → o ≡ None → (need t >> o) ≡ None
need_none true o e = e
need_none false o e = refl

-- an output has no row
no-row-out : (k : Kind) (c v : Expr) (w : Sight) (e : Event) (a : Atom) → act k (ProcForm-F.Out c v) w e a ≡ None
unfolding act
no-row-out kind.Stop c v w e a = refl
no-row-out _ c v w e a = refl

tested : {A B : Type 0} (t : Bool) (a : A) (f : A → Option B) → ((need t >> Some a) >>= f) ≡ (need t >> f a)
tested true a f = refl
tested false a f = refl

-- the row of an event, by what the agent has under the acting mark
abbrev row_of : Kind → Sight → Event → Option Atom → Option Change
row_of k w e o = (o >>= λ a. need (same_tag a.proc.tag e.tag) >> Some a) >>= λ a. act k (layer a.proc) w e a

-- the atom of a mark
module _ (code : ProgramTable) (p : Pool) where
  pub no-atom : (m : Name) → None ≡ value_of (map.get p.atoms m) → map.get (atoms_of code.processes p) m ≡ None
  no-atom m gets = get-mapped (seen_as code.processes p.name) p.atoms m ∙ by (map.get p.atoms m) gets
    where
      by : (o : Option (Kept Held)) → None ≡ value_of o → option_map (seen_as code.processes p.name) o ≡ None
      by None is = refl
      by (Some kept) is = absurd (let x = is in cc)

  pub atom-there : (m : Name) (h : Held) → Some h ≡ value_of (map.get p.atoms m) → map.get (atoms_of code.processes p) m
      ≡ Some (atom_of code.processes p.name h)
  atom-there m h gets = get-mapped (seen_as code.processes p.name) p.atoms m ∙ by (map.get p.atoms m) gets
    where
      by : (o : Option (Kept Held)) → Some h ≡ value_of o → option_map (seen_as code.processes p.name) o ≡ Some (atom_of code.processes p.name h)
      by None is = absurd (let x = is in cc)
      by (Some kept) is = ap (λ g. Some (atom_of code.processes p.name g)) (same-held kept.1 h (sym is))

-- what an agent has under the acting mark
module _ (code : ProgramTable) (p : Pool) (r : Ready) where
  pub none-never : None ≡ value_of (map.get p.atoms r.actor) → NeverActs code p r
  none-never gets = record { row = λ k here site made. ap (row_of k (own_sight code p here) (event_of site r made)) (no-atom code p r.actor gets) }

  module _ (h : Held) (gets : Some h ≡ value_of (map.get p.atoms r.actor)) where
    pub out-never : IsOutput (layer (proc_of code.processes h)) → NeverActs code p r
    out-never out = record {
      row = λ k here site made.
          let w = own_sight code p here in
          let e = event_of site r made in
          let a = atom_of code.processes p.name h in
          let t = same_tag a.proc.tag r.tag in
          ap (row_of k w e) (atom-there code p r.actor h gets) ∙ tested t a (λ a. act k (layer a.proc) w e a)
          ∙ need_none t (act k (layer a.proc) w e a) (ap (λ l. act k l w e a) out.is ∙ no-row-out k out.chan out.value w e a);
    }

    pub node-acts : (n : Node) (env : Env) → IsNode code.processes h n env → ActsAs code p r n env
    node-acts n env is = record {
      proc = proc_of code.processes h;
      there = atom-there code p r.actor h gets ∙ ap (λ v. Some (record { agent = p.name; proc = proc_of code.processes h; env = v })) is.env;
      layer = is.layer;
    }

needed-some : {B : Type 0} (t : Bool) (o : Option B) → IsSome (need t >> o) → (t ≡ true) × IsSome o
needed-some true o met = (refl, met)
needed-some false o met = absurd (let x = met in cc)

-- a row that is met is that of the node
module _ {code : ProgramTable} {p : Pool} {r : Ready} {n : Node} {env : Env} (acts : ActsAs code p r n env) (k : Kind) (here : Bool) (made : Made)
    (f : NodeForm) where
  abbrev atom : Atom
  atom = record { agent = p.name; proc = acts.proc; env = env }

  abbrev pub acted : ℕ → Option Change
  acted site =
      act k (layer_of code.processes f) (own_sight code p here) (event_of site r made) (record { agent = p.name; proc = acts.proc; env = env })

  module _ (is : n.form ≡ f) (met : IsSome (change_in k (own_sight code p here) (event_of 0 r made))) where
    by_form : (site : ℕ) → change_in k (own_sight code p here) (event_of site r made) ≡ (need (same_tag acts.proc.tag r.tag) >> acted site)
    by_form site =
        let w = own_sight code p here in
        let e = event_of site r made in
        let t = same_tag acts.proc.tag r.tag in
        ap (row_of k w e) acts.there ∙ tested t atom (λ a. act k (layer a.proc) w e a)
        ∙ ap (λ l. need t >> act k l w e atom) (acts.layer ∙ ap (layer_of code.processes) is)

    met_by : (same_tag acts.proc.tag r.tag ≡ true) × IsSome (acted 0)
    met_by = needed-some (same_tag acts.proc.tag r.tag) (acted 0) (subst (λ o. IsSome o) (by_form 0) met)

    pub row-met : IsSome (acted 0)
    row-met = met_by.1

    pub row-is : (site : ℕ) → change_in k (own_sight code p here) (event_of site r made) ≡ acted site
    row-is site = by_form site ∙ ap (λ t. need t >> acted site) met_by.0
