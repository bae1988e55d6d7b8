-- A ready of a kind meets the row of that kind.
use Rattle.std.proofs.Common.{◌≡◌, Bool, true, false, refl, subst, sym, ap, Some, IsSome, ◌∙◌}
use Rattle.std.specs.FinMap as map
use Rattle.std.proofs.lemmas.Option.{same_Some}
use Rattle.np_syntax.specs.declared.event.Kind.{Kind}
use Rattle.np_syntax.specs.declared.event.Kind.TheVariants as kind
use Rattle.np_syntax.specs.declared.value.Name.{Name}
use Rattle.np_tables.specs.Names.{NameMap}
use Rattle.np_site_runs.specs.Holdings.{Holding, name_of}
use Rattle.np_site_runs.specs.Making.{AreNext}
use Rattle.np_code.specs.Programs.{ProgramTable}
use Rattle.agent_pool.specs.declared.ready.Ready.{Ready}
use Rattle.agent_pool.specs.Pools.{Pool, atoms_of}
use Rattle.np_calculus.specs.Rows.{change_in, made_of}
use Rattle.agent_pool.specs.Readies.{IsReady}
use Rattle.agent_pool.specs.Rows.{IsMet, event_of, own_sight}
use Rattle.site_state.specs.Parts.{is_inner}
use Rattle.site_agents.specs.Standings.{CanDo}

module _ (code : ProgramTable) (p q : Pool) (r : Ready) (k : Kind) (is : r.kind ≡ k) (first : Name) where
  pub met : IsReady code (atoms_of code.processes p) r → IsMet k code p r (made_of k false first first)
  met ready = subst (λ j. IsSome (change_in j (own_sight code p false) (event_of 0 r (made_of j false first first)))) is (ready false first first)

-- an event within an agent makes at most the next name
pub inner_makes : (k : Kind) (h : Holding) (first : Name) → is_inner k ≡ true → first ≡ name_of h.site h.next → AreNext h (made_of k false first first)
inner_makes kind.Stop h first i e = tt
inner_makes kind.Fork h first i e = e
inner_makes kind.New h first i e = e
inner_makes kind.Let h first i e = tt
inner_makes kind.If h first i e = tt
inner_makes kind.Comm h first i e = tt
inner_makes kind.Rep h first i e = tt
inner_makes kind.Agent h first i e = absurd cc
inner_makes kind.Depart h first i e = tt
inner_makes kind.Arrive h first i e = tt
inner_makes kind.Local h first i e = tt
inner_makes kind.Send h first i e = tt
inner_makes kind.Land h first i e = tt
inner_makes kind.Print h first i e = tt
inner_makes kind.Open h first i e = tt
inner_makes kind.Lookup h first i e = tt
inner_makes kind.Post h first i e = tt

-- whatever agent is here, and whatever name would be the second
pub inner_made : (k : Kind) (here : Bool) (first second : Name) → is_inner k ≡ true → made_of k here first second ≡ made_of k false first first
inner_made kind.Stop here first second i = refl
inner_made kind.Fork here first second i = refl
inner_made kind.New here first second i = refl
inner_made kind.Let here first second i = refl
inner_made kind.If here first second i = refl
inner_made kind.Comm here first second i = refl
inner_made kind.Rep here first second i = refl
inner_made kind.Agent here first second i = absurd cc
inner_made kind.Depart here first second i = refl
inner_made kind.Arrive here first second i = refl
inner_made kind.Local here first second i = absurd cc
inner_made kind.Send here first second i = refl
inner_made kind.Land here first second i = refl
inner_made kind.Print here first second i = refl
inner_made kind.Open here first second i = refl
inner_made kind.Lookup here first second i = refl
inner_made kind.Post here first second i = refl

-- a kind that is none within an agent is not that of such an event
pub not_inner : (k j : Kind) → is_inner k ≡ true → is_inner j ≡ false → k ≡ j → ⊥
not_inner k j i n e = let same = ap is_inner e in absurd cc

-- the agent of a name can do what it was found to be ready for
pub ready_here : (code : ProgramTable) (agents : NameMap Pool) (name : Name) (r : Ready) → (can : CanDo code agents name r) → (p : Pool) → map.get agents name ≡ Some p
    → IsReady code (atoms_of code.processes p) r
ready_here code agents name r can p e = subst (λ q. IsReady code (atoms_of code.processes q) r) (same_Some can.agent p (sym can.here ∙ e)) can.ready

pub met_here : (code : ProgramTable) (agents : NameMap Pool) (name : Name) (r : Ready) (k : Kind) → r.kind ≡ k → CanDo code agents name r → (p : Pool) → map.get agents name ≡ Some p
    → (first second : Name) → IsMet k code p r (made_of k false first second)
met_here code agents name r k is can p e first second =
    subst (λ j. IsSome (change_in j (own_sight code p false) (event_of 0 r (made_of j false first second)))) is (ready_here code agents name r can p e false first second)

pub print_not_local : kind.Print ≡ kind.Local → ⊥
print_not_local e = cc

pub print_not_post : kind.Print ≡ kind.Post → ⊥
print_not_post e = cc

-- and so does a location test, where its agent is here
pub met_told : (code : ProgramTable) (agents : NameMap Pool) (name : Name) (r : Ready) → r.kind ≡ kind.Local → CanDo code agents name r → (p : Pool) → map.get agents name ≡ Some p
    → (mark : Name) → IsSome (change_in kind.Local (own_sight code p true) (event_of 0 r (made_of kind.Local true mark mark)))
met_told code agents name r is can p e mark =
    subst (λ j. IsSome (change_in j (own_sight code p true) (event_of 0 r (made_of j true mark mark)))) is (ready_here code agents name r can p e true mark mark)
