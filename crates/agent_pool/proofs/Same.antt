-- The comparison of readies says whether they are one.
use Rattle.std.proofs.Common.{◌≡◌, Bool, true, Option, None, Some, eqb, eq-eqb, refl, sym, ap, ◌∙◌}
use Rattle.std.proofs.lemmas.Bool.{eqb-true}
use Rattle.std.specs.Option.{option_eq}
use denote.Enum.Bare.{sameb, same_true, true_same}
use Rattle.np_syntax.proofs.Bools.{and-out, and-in}
use Rattle.np_syntax.specs.declared.value.Name.{Name}
use Rattle.np_syntax.specs.contracts.value.NamePartialEq.TheImpl as names
use Rattle.np_syntax.specs.declared.event.Kind.{Kind}
use Rattle.np_syntax.specs.contracts.event.Kind as kinds
use Rattle.np_syntax.specs.declared.process.Role.{Role}
use Rattle.np_syntax.specs.contracts.process.Role as roles
use Rattle.agent_pool.specs.declared.ready.Ready.{Ready}
use Rattle.agent_pool.specs.contracts.ready.ReadyPartialEq.TheImpl as readies

-- the comparisons that `==` makes
abbrev same : Name → Name → Bool
same = names.eq-value.it

abbrev pub same_ready : Ready → Ready → Bool
same_ready = readies.eq-value.it

same-is : (a b : Name) → same a b ≡ true → a ≡ b
same-is a b h =
    let both = and-out (eqb a.site b.site) (eqb a.n b.n) h in
    let site : a.site ≡ b.site = eqb-true a.site b.site both.0 in
    let n : a.n ≡ b.n = eqb-true a.n b.n both.1 in
    λ i. record { site = site i; n = n i }

same-itself : (a : Name) → same a a ≡ true
same-itself a = and-in (eq-eqb a.site a.site refl) (eq-eqb a.n a.n refl)

other-is : (o p : Option Name) → option_eq same o p ≡ true → o ≡ p
other-is None None h = refl
other-is None (Some b) h = absurd cc
other-is (Some a) None h = absurd cc
other-is (Some a) (Some b) h = ap Some (same-is a b h)

other-itself : (o : Option Name) → option_eq same o o ≡ true
other-itself None = refl
other-itself (Some a) = same-itself a

kind-is : (k l : Kind) → sameb kinds.the_type k l ≡ true → k ≡ l
kind-is k l h = same_true kinds.the_type tt k l h

role-is : (r s : Role) → sameb roles.the_type r s ≡ true → r ≡ s
role-is r s h = same_true roles.the_type tt r s h

pub same_ready-is : (f r : Ready) → same_ready f r ≡ true → f ≡ r
same_ready-is f r h =
    let a = and-out (sameb kinds.the_type f.kind r.kind) _ h in
    let b = and-out (same f.actor r.actor) _ a.1 in
    let c = and-out (option_eq same f.other r.other) _ b.1 in
    let d = and-out (eqb f.tag.node r.tag.node) (sameb roles.the_type f.tag.role r.tag.role) c.1 in
    let kind : f.kind ≡ r.kind = kind-is f.kind r.kind a.0 in
    let actor : f.actor ≡ r.actor = same-is f.actor r.actor b.0 in
    let other : f.other ≡ r.other = other-is f.other r.other c.0 in
    let node : f.tag.node ≡ r.tag.node = eqb-true f.tag.node r.tag.node d.0 in
    let role : f.tag.role ≡ r.tag.role = role-is f.tag.role r.tag.role d.1 in
    λ i. record { kind = kind i; actor = actor i; other = other i; tag = record { node = node i; role = role i } }

pub same_ready-itself : (r : Ready) → same_ready r r ≡ true
same_ready-itself r =
    and-in (true_same kinds.the_type r.kind r.kind refl)
    (and-in (same-itself r.actor) (and-in (other-itself r.other) (and-in (eq-eqb r.tag.node r.tag.node refl) (true_same roles.the_type r.tag.role r.tag.role refl))))

some_one : {A : Type 0} (x y : A) → Some x ≡ Some y → x ≡ y
some_one x y e = cc

-- one that was found is this one
pub found-same : (o : Option Ready) (f r : Ready) (t : Bool) → o ≡ Some f → t ≡ same_ready f r → (t ≡ true → o ≡ Some r) × (o ≡ Some r → t ≡ true)
found-same o f r t is told = (
  (λ h. is ∙ ap Some (same_ready-is f r (sym told ∙ h))),
  (λ h. told ∙ ap (same_ready f) (sym (some_one f r (sym is ∙ h))) ∙ same_ready-itself f),
)
