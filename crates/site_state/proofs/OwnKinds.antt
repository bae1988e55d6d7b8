-- What an agent can do by an atom of its own is no coming of an item.
use Rattle.std.proofs.Common.{◌≡◌, Bool, true, false, Option, None, Some, IsSome, refl}
use Rattle.np_syntax.specs.declared.event.Event.{Event}
use Rattle.np_syntax.specs.declared.event.Kind.{Kind}
use Rattle.np_syntax.specs.declared.event.Kind.TheVariants as kind
use Rattle.np_syntax.specs.declared.value.Name.{Name}
use Rattle.np_syntax.specs.Options.{◌>>=◌}
use Rattle.np_syntax.proofs.Options.{none_there}
use Rattle.np_tables.specs.Names.{NameMap}
use Rattle.np_calculus.specs.declared.config.Atom.{Atom}
use Rattle.np_calculus.specs.Changes.{Change}
use Rattle.np_calculus.specs.NotEnabled.{by_atom}
use Rattle.np_calculus.specs.Reductions.{act, acting_in}
use Rattle.np_calculus.specs.Rows.{change_in, made_of}
use Rattle.np_calculus.specs.Sight.{Sight}
use Rattle.np_code.specs.Programs.{ProgramTable}
use Rattle.agent_pool.specs.declared.ready.Ready.{Ready}
use Rattle.agent_pool.specs.Pools.{Pool}
use Rattle.agent_pool.specs.Readies.{IsReady, NoPost, sight_of}
use Rattle.agent_pool.specs.Rows.{event_of}
use Rattle.site_agents.specs.Standings.{CanDo}
use Rattle.site_state.specs.Parts.{is_inner}

no-row : {A B : Type 0} (o : Option A) (f : A → Option B) → ((a : A) → f a ≡ None) → IsSome (o >>= f) → ⊥
no-row None f none h = absurd cc
no-row (Some a) f none h = none_there (f a) h (none a)

acts : (k : Kind) (w : Sight) (e : Event) → IsSome (change_in k w e) → by_atom k ≡ true
unfolding act
acts kind.Arrive w e h = absurd (no-row (acting_in w e) _ (λ a. refl) h)
acts kind.Land w e h = absurd (no-row (acting_in w e) _ (λ a. refl) h)
acts _ w e h = refl

ready_acts : (code : ProgramTable) (atoms : NameMap Atom) (r : Ready) → IsReady code atoms r → by_atom r.kind ≡ true
ready_acts code atoms r h = let none : Name = record { site = 0; n = 0 } in acts r.kind (sight_of code atoms false) (event_of 0 r (made_of r.kind false none none)) (h false none none)

no_other : (k : Kind) → by_atom k ≡ true → is_inner k ≡ false → (k ≡ kind.Post → ⊥) → (k ≡ kind.Print → ⊥) → (k ≡ kind.Send → ⊥) → (k ≡ kind.Depart → ⊥) → (k ≡ kind.Agent → ⊥)
    → (k ≡ kind.Local → ⊥) → ⊥
no_other kind.Post own outer post print send depart agent local = post refl
no_other kind.Print own outer post print send depart agent local = print refl
no_other kind.Send own outer post print send depart agent local = send refl
no_other kind.Depart own outer post print send depart agent local = depart refl
no_other kind.Agent own outer post print send depart agent local = agent refl
no_other kind.Local own outer post print send depart agent local = local refl
no_other kind.Arrive own outer post print send depart agent local = cc
no_other kind.Land own outer post print send depart agent local = cc
no_other _ own outer post print send depart agent local = cc

-- so what is not one of these, and no post, nobody can do
pub none_else : (code : ProgramTable) (agents : NameMap Pool) (q : Name) (r : Ready) → CanDo code agents q r → NoPost r → is_inner r.kind ≡ false → (r.kind ≡ kind.Print → ⊥) → (r.kind ≡ kind.Send → ⊥)
    → (r.kind ≡ kind.Depart → ⊥) → (r.kind ≡ kind.Agent → ⊥) → (r.kind ≡ kind.Local → ⊥) → ⊥
none_else code agents q r can post outer = no_other r.kind (ready_acts code _ r can.ready) outer post
