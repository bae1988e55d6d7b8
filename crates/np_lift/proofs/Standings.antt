-- What a mark stands for, and who is a messenger.
use Rattle.std.proofs.Common.{◌≡◌, false, cond, Some, unwrap_or, refl, ap, ◌∙◌}
use Rattle.std.specs.FinMap as map
use Rattle.np_syntax.specs.declared.value.Name.{Name}
use Rattle.np_tables.specs.Names.{same_name}
use Rattle.np_tables.proofs.Tables.{born_insert, contains-none, get-none, get-put, put_here}
use Rattle.np_lift.specs.CachedLift.{Standing, at_first, stands_for, with_mark}
use Rattle.np_lift.specs.CachedLaws.{StandingByTable}

-- at first each stands for itself
pub stands-itself : (q : Name) → stands_for at_first q ≡ q
stands-itself q = ap (λ o. unwrap_or o q) (get-none {X = Name} q)

-- the new one stands for what the other stands for, and the others as before
pub stands-new : (s : Standing) (mark other : Name) → stands_for (with_mark s mark other) mark ≡ stands_for s other
stands-new s mark other = ap (λ o. unwrap_or o mark) (put_here s.marks mark (stands_for s other))

pub stands-as_before : (s : Standing) (mark other q : Name) → same_name q mark ≡ false → stands_for (with_mark s mark other) q ≡ stands_for s q
stands-as_before s mark other q apart =
    ap (λ o. unwrap_or o q) (get-put s.marks mark (stands_for s other) q ∙ ap (λ t. cond t (Some (stands_for s other)) (map.get s.marks q)) apart)

pub standing-by-table : StandingByTable
standing-by-table = record {
  itself = stands-itself;
  added = stands-new;
  others = stands-as_before;
  created = λ s t mark other q. refl;
  no_messenger = contains-none;
  messengers = λ s t mark other q. born_insert s.messengers t q;
}
