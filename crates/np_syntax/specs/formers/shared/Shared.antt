-- A `Shared` may hold the type that holds it: a process has shared processes in it.
-- What is said here is that it is its value, and owns, lends and is coded as that is.
use mathlib.Core.Path.{refl}
use mathlib.Core.Former.{Former, this, const, pair, via}
use base.Stored.{gnil}
use base.Fml.{ftrue}
use denote.RattleType.{RattleType}
use denote.Memory.{part_of}
use denote.RawPtr.{Ptr}
use denote.Sharing.{nothing}
use denote.HoleLaws.{Alike}
use denote.HolePlaces.{Recodes, struct_places, laid, one_value}
use denote.Hole.Fix.{over}
use denote.Param.Weighed.{Weighed}
use denote.Model.Placed.{view_places}
use Rattle.std.specs.declared.sync.Arc.{Arc}
use Rattle.std.specs.contracts.sync.Arc as arc
use Rattle.std.specs.declared.alloc.Global.{Global}
use Rattle.std.specs.contracts.alloc.Global as heap
use Rattle.std.specs.contracts.impls.GlobalAllocator.TheImpl.{ghosts}
use Rattle.np_syntax.specs.declared.shared.Shared.TheInside.{Inside}
use Rattle.np_syntax.specs.declared.shared.Shared.TheView.{view, invariant}
use Rattle.np_syntax.specs.contracts.shared.Shared as contract
use Rattle.np_syntax.specs.contracts.shared.Shared.TheInside as inside

-- just the value
abbrev pub the_former : Former {0} → Former {0}
the_former value = value

abbrev pub the_weighed : {value : Former {0}} → Weighed value → Weighed (the_former value)
the_weighed weighed = weighed

-- it is a pointer to the value and to the count of its owners, and the value
abbrev fields : Former {0}
fields =
    via (pair (const Ptr) this) Inside (λ X held. (held.inner.ptr, held.inner.value))
    (λ X parts. record { inner = record { ptr = parts.0; value = parts.1 } }) (λ X held. refl) (λ X parts. refl)

-- the same pointer with another value
abbrev holding : {X Y : Type 0} → Arc X Global → Y → Arc Y Global
holding b value = record { ptr = b.ptr; value = value }

abbrev arc_of : RattleType → RattleType
arc_of R = arc.the_row R heap.the_row ghosts

module _ (R S : RattleType) (h : R.Denot → S.Denot) where
  inner_places : Alike R S h → Alike (arc_of R) (arc_of S) (λ b. holding b (h b.value))
  unfolding part_of
  inner_places alike = record {
    mir_same = λ i. (arc_of (one_value R (alike.mir_same i) (λ _. ftrue) (λ _ _. nothing) gnil)).mir;
    own_same = λ b i. (arc_of (one_value R (alike.mir_same i) (alike.own_same b.value i) (alike.shr_same b.value i) gnil)).own_val
        (holding b tt);
    shr_same = λ b i. (arc_of (one_value R (alike.mir_same i) (alike.own_same b.value i) (alike.shr_same b.value i) gnil)).shr_at
        (holding b tt);
  }

  pub the_places : Alike R S h → Alike (contract.the_row R) (contract.the_row S) ((the_former this).map R.Denot S.Denot h)
  the_places alike =
      view_places fields this view (λ X Y k held. refl) (λ X held. refl) R.Denot S.Denot h (contract.the_row R).coded
      (contract.the_row S).coded
      (invariant R.Denot) (invariant S.Denot) (λ held p q. refl) (λ held p q. refl) (λ held e. tt) (λ held e. tt)
      (over (inside.the_row R)) (over (inside.the_row S))
      (struct_places (inside.the_type R) (inside.the_type S) ((λ b. holding b (h b.value)), tt) _ (λ held. refl) refl
      (laid _ _ _ (inner_places alike), tt))

  pub the_codes_placed : Recodes R S h → Recodes (contract.the_row R) (contract.the_row S) ((the_former this).map R.Denot S.Denot h)
  the_codes_placed recodes value = recodes value
