-- The table of reductions refuses an event exactly where one of its conditions does not hold.
use Rattle.std.proofs.Common.{◌≡◌, true, Option, None, Some, IsSome, refl, sym, ◌∙◌}
use Rattle.np_calculus.proofs.Common.{Event, Config}
use Rattle.np_calculus.specs.Reductions.{apply}
use Rattle.std.specs.List.{AllByRecursion}
use Rattle.history_conditions.specs.declared.condition.Condition.{Condition}
use Rattle.history_conditions.specs.declared.condition.TheConstants.{CONDITIONS}
use Rattle.history_conditions.specs.Conditions.{first_unmet, holds}
use Rattle.history_conditions.specs.Refused.{IsRefusedWhereUnmet}
use Rattle.history_conditions.proofs.Common.{AllHold, all-hold, none-fails}
use Rattle.history_conditions.proofs.Enabled.{enabled}
use Rattle.history_conditions.proofs.Held.{all}

module _ (c : Config) (e : Event) where
  by-kind : AllByRecursion (λ x. holds c e x ≡ true) CONDITIONS → AllHold c e e.kind
  by-kind h = record {
    actor = h.0;
    site = h.1.0;
    of_kind = h.1.1.0;
    node = h.1.1.1.0;
    role = h.1.1.1.1.0;
    other = h.1.1.1.1.1.0;
    first = h.1.1.1.1.1.1.0;
    second = h.1.1.1.1.1.1.1.0;
    first_new = h.1.1.1.1.1.1.1.1.0;
    second_new = h.1.1.1.1.1.1.1.1.1.0;
    differ = h.1.1.1.1.1.1.1.1.1.1.0;
    stands = h.1.1.1.1.1.1.1.1.1.1.1.0;
    output = h.1.1.1.1.1.1.1.1.1.1.1.1.0;
    agent = h.1.1.1.1.1.1.1.1.1.1.1.1.1.0;
    channel = h.1.1.1.1.1.1.1.1.1.1.1.1.1.1.0;
    operands = h.1.1.1.1.1.1.1.1.1.1.1.1.1.1.1.0;
  }

  each : AllHold c e e.kind → AllByRecursion (λ x. holds c e x ≡ true) CONDITIONS
  each h =
      (h.actor, (h.site, (h.of_kind, (h.node, (h.role, (h.other, (h.first, (h.second, (h.first_new, (h.second_new, (h.differ, (h.stands, (h.output, (h.agent, (h.channel, (h.operands, tt))))))))))))))))

  found : (o : Option Condition) → first_unmet c e ≡ o → apply c e ≡ None → IsSome o
  found (Some x) is none = refl
  found None is none =
      let made = enabled c e e.kind (by-kind (none-fails (holds c e) CONDITIONS is)) in
      let apart : None ≡ Some made.0 = sym none ∙ made.1 in
      absurd cc

  refused : (o : Option Config) → apply c e ≡ o → IsSome (first_unmet c e) → apply c e ≡ None
  refused None is some = is
  refused (Some d) is some =
      let none : first_unmet c e ≡ None = all-hold (holds c e) CONDITIONS (each (all c e e.kind d is)) in
      absurd (none-of-it (first_unmet c e) none some)
    where
      none-of-it : (o : Option Condition) → o ≡ None → IsSome o → ⊥
      none-of-it None is some = cc
      none-of-it (Some x) is some = cc

pub refused_where_unmet : IsRefusedWhereUnmet
refused_where_unmet c e = (found c e (first_unmet c e) refl, refused c e (apply c e) refl)
