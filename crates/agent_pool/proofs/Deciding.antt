-- An event is one of the agent exactly where it is what its atoms can do.
use Rattle.std.proofs.Common.{◌≡◌, ℕ, true, false, ◌⊎◌, inl, inr, length, nat_eq, Option, None, Some, IsSome, refl, sym, subst, ap, ◌∙◌}
use Rattle.std.proofs.lemmas.Bool.{eqb-true}
use Rattle.std.specs.FinMap as map
use Rattle.np_syntax.proofs.Bools.{and-out}
use Rattle.np_syntax.specs.declared.process.Tag.{Tag}
use Rattle.np_syntax.specs.declared.process.Role.{Role}
use Rattle.np_syntax.specs.declared.process.Role.TheVariants as role
use Rattle.np_syntax.specs.declared.event.Kind.TheVariants as kind
use Rattle.np_calculus.proofs.Common.{Name, Event, Kind, ◌>>=◌, then, when, done, NameMap, layer, Change, same_tag, acting_in, act}
use Rattle.np_calculus.specs.declared.config.Atom.{Atom}
use Rattle.np_calculus.specs.Reductions.{role_index}
use Rattle.np_calculus.specs.Rows.{change_in, made_of}
use Rattle.np_code.specs.Programs.{ProgramTable}
use Rattle.agent_pool.specs.declared.ready.Ready.{Ready}
use Rattle.agent_pool.specs.Deciding.{posts, post_at, lone_in, found_with, found_in}
use Rattle.agent_pool.specs.Readies.{sight_of, IsReady, begins, alone_in, meets}
use Rattle.agent_pool.specs.Rows.{event_of}
use Rattle.agent_pool.proofs.Beginnings.{Begun, Lone, MetWith, row-begun, post-begun, post-ready, alone-ready, pair-ready}

one-role : (r s : Role) → nat_eq (role_index r) (role_index s) ≡ true → r ≡ s
one-role role.Plain role.Plain e = refl
one-role role.Post role.Post e = refl
one-role role.Infra role.Infra e = refl
one-role _ _ e = absurd cc

-- tags that are alike are one
one-tag : (t u : Tag) → same_tag t u ≡ true → t ≡ u
one-tag t u h =
    let both = and-out (nat_eq t.node u.node) (nat_eq (role_index t.role) (role_index u.role)) h in
    let node : t.node ≡ u.node = eqb-true t.node u.node both.0 in
    let role : t.role ≡ u.role = one-role t.role u.role both.1 in
    λ i. record { node = node i; role = role i }

-- a kind that is no post
pub lone-else : (sites : ℕ) (atoms : NameMap Atom) (k : Kind) (mark : Name) → (k ≡ kind.Post → ⊥) → lone_in sites atoms k mark ≡ alone_in sites atoms mark
lone-else sites atoms kind.Post mark differs = absurd (differs refl)
lone-else sites atoms _ mark differs = refl

post-or : (k : Kind) → (k ≡ kind.Post) ⊎ (k ≡ kind.Post → ⊥)
post-or kind.Post = inl refl
post-or _ = inr λ h. cc

some-change : {A : Type 0} (o : Option A) {R : Type 0} → IsSome o → ((x : A) → o ≡ Some x → R) → R
some-change None h f = absurd cc
some-change (Some x) h f = f x refl

module _ (code : ProgramTable) (atoms : NameMap Atom) (r : Ready) where
  abbrev sites : ℕ
  sites = length code.sites

  -- what an atom can do is a ready
  pub found-ready : ((a b : Atom) (p q : Name) → map.get atoms p ≡ Some a → map.get atoms q ≡ Some b → b.agent ≡ a.agent) → found_in sites atoms r ≡ Some r → IsReady code atoms r
  found-ready together h = by r.other h
    where
      lone : (k : Kind) → lone_in sites atoms k r.actor ≡ Some r → IsReady code atoms r
      lone kind.Post h = post-ready code atoms r.actor r h
      lone _ h = alone-ready code atoms r.actor r h

      by : (o : Option Name) → found_with sites atoms r.kind r.actor o ≡ Some r → IsReady code atoms r
      by None h = lone r.kind h
      by (Some other) h = pair-ready code atoms r.actor other r (λ a b there stands. together a b r.actor other there stands) h

  -- the ready of an atom, by what it is
  this : (a : Atom) (o : Option Name) → r.other ≡ o → same_tag a.proc.tag r.tag ≡ true → Some (record { kind = r.kind; actor = r.actor; other = o; tag = a.proc.tag }) ≡ Some r
  this a o is tag = λ i. Some (record { kind = r.kind; actor = r.actor; other = sym is i; tag = one-tag a.proc.tag r.tag tag i })

  module _ (a : Atom) (there : map.get atoms r.actor ≡ Some a) (tag : same_tag a.proc.tag r.tag ≡ true) where
    lone-found : (differs : r.kind ≡ kind.Post → ⊥) → begins sites a.env (layer a.proc) ≡ Some r.kind → r.other ≡ None → found_in sites atoms r ≡ Some r
    lone-found differs begun none =
        ap (found_with sites atoms r.kind r.actor) none ∙ lone-else sites atoms r.kind r.actor differs ∙ rw (there, begun) (this a None none tag)

    pair-found : (m : Name) (b : Atom) → r.other ≡ Some m → map.get atoms m ≡ Some b → meets a b ≡ Some r.kind → found_in sites atoms r ≡ Some r
    pair-found m b is stands meet = ap (found_with sites atoms r.kind r.actor) is ∙ rw (there, stands, meet) (this a (Some m) is tag)

    post-found : r.kind ≡ kind.Post → posts a.env (layer a.proc) ≡ Some kind.Post → r.other ≡ None → found_in sites atoms r ≡ Some r
    post-found is begun none =
        ap (found_with sites atoms r.kind r.actor) none ∙ ap (λ k. lone_in sites atoms k r.actor) is
        ∙ ap (λ o. o >>= post_at r.actor) there ∙ ap (λ o. o >>= λ k. Some (record { kind = k; actor = r.actor; other = None; tag = a.proc.tag })) (begun ∙ ap Some (sym is)) ∙ this a None none tag

  abbrev e : Event
  e = event_of 0 r (made_of r.kind false r.actor r.actor)

  same_atom : (a b : Atom) → map.get atoms r.actor ≡ Some a → map.get atoms r.actor ≡ Some b → a ≡ b
  same_atom a b f g = done (sym g ∙ f)

  -- a ready is what its atoms can do
  module _ (a : Atom) (there : map.get atoms r.actor ≡ Some a) (tag : same_tag a.proc.tag r.tag ≡ true) (d : Change) where
    begun-found : (differs : r.kind ≡ kind.Post → ⊥) → Begun code atoms e r.kind → found_in sites atoms r ≡ Some r
    begun-found differs b = by b.how
      where
        same : b.atom ≡ a
        same = same_atom b.atom a b.there there

        by : Lone sites b.atom e r.kind ⊎ MetWith atoms b.atom e r.kind → found_in sites atoms r ≡ Some r
        by (inl l) = lone-found a there tag differs (subst (λ (x : Atom). begins sites x.env (layer x.proc) ≡ Some r.kind) same l.begun) l.other
        by (inr m) = pair-found a there tag m.mark m.atom m.other m.there (subst (λ (x : Atom). meets x m.atom ≡ Some r.kind) same m.meet)

    acted-found : act r.kind (layer a.proc) (sight_of code atoms false) e a ≡ Some d → found_in sites atoms r ≡ Some r
    acted-found h = by (post-or r.kind)
      where
        by : (r.kind ≡ kind.Post) ⊎ (r.kind ≡ kind.Post → ⊥) → found_in sites atoms r ≡ Some r
        by (inl is) =
            let p = post-begun code atoms false e a there d (ap (λ k. act k (layer a.proc) (sight_of code atoms false) e a) (sym is) ∙ h) in post-found a there tag is p.0 p.1
        by (inr differs) = begun-found differs (row-begun code atoms false e a there d r.kind differs h)

  pub ready-found : IsReady code atoms r → found_in sites atoms r ≡ Some r
  ready-found h = some-change (change_in r.kind (sight_of code atoms false) e) (h false r.actor r.actor) λ d is.
      then (acting_in (sight_of code atoms false) e) _ is λ a acts h. then (map.get atoms r.actor) _ acts λ b there acts. when (same_tag b.proc.tag r.tag) _ acts λ tag acts.
      acted-found a (there ∙ ap Some (sym (done acts))) (subst (λ (x : Atom). same_tag x.proc.tag r.tag ≡ true) (sym (done acts)) tag) d h
