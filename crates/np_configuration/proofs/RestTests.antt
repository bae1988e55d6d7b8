-- What the tests of a configuration in code say of rest.
use Rattle.std.proofs.Common.{◌≡◌, ℕ, ◌≤◌, Bool, true, false, not, List, length, Option, Some, None, is_some, refl, sym, subst, ◌∙◌, arith}
use Rattle.std.specs.Prelude.{IsTrue, IfSome, IfNone}
use Rattle.std.specs.FinMap as map
use Rattle.np_configuration.proofs.Common.{Name, NameMap, Work, NothingReady, Covers, get-none, same_tables, Place, Config, IsKept, Idle, IsLodged, inside, NoneTravels}
use Rattle.np_tables.specs.declared.errand.Ready.TheVariants as ready
use Rattle.np_calculus.specs.declared.config.Place.TheVariants as place
use Rattle.np_configuration.specs.declared.step.Step.{Step}
use Rattle.np_configuration.specs.declared.step.Step.TheVariants as step
use Rattle.np_configuration.specs.Next.{IsNext}
use Rattle.np_configuration.proofs.Keeping.{none_some}
use Rattle.np_configuration.proofs.Rests.{quiet-idle, idle-still, idle-quiet}

pub no_way : (places : NameMap Place) (a : Name) (s : ℕ) → map.get places a ≡ Some (place.Way s) → NoneTravels places → ⊥
no_way places a s h none = let x : ◌≡◌ {A = Option ℕ} (Some s) None = none.each a (place.Way s) h in cc

module _ (c : Config) (work : Work) (k : IsKept work c.atoms c.packets c.born) where
  pub rests : NothingReady work → c.packets ≡ map.empty → NoneTravels c.places → Idle c
  rests q p n = quiet-idle c p n.each (subst NothingReady k.filed q)

-- a next step can be taken
pub next-acts : (c : Config) (s : Step) → IsLodged (inside c) → IsNext c s → Idle c → ⊥
next-acts c (step.Arrives agent site) h n idle = no_way c.places agent site n (idle-still c idle).1
next-acts c (step.Lands mark) h n idle = none_some (map.get c.packets mark) (subst (λ packets. map.get packets mark ≡ None) (sym (idle-still c idle).0) (get-none mark)) n
next-acts c (step.Goes (ready.Acts mark)) h n idle = (idle-quiet c idle h).alone mark n.0
next-acts c (step.Goes (ready.Meets input output)) h n idle = (idle-quiet c idle h).apart input output n.0

-- a table without keys is empty
pub no_keys : {X : Type 0} (m : NameMap X) (keys : List Name) → Covers m keys → length keys ≤ 0 → m ≡ map.empty
no_keys m keys covers none = same_tables m map.empty (λ q. absent q (map.get m q) refl ∙ sym (get-none q))
  where
    absent : (q : Name) (o : Option _) → map.get m q ≡ o → o ≡ None
    absent q None is = refl
    absent q (Some x) is = let s = covers q x is in absurd (omega (arith, s.within))

-- where an agent under way is found one is, and where none is found none is
pub some_travels : (places : NameMap Place) (o : Option (Name × ℕ)) → is_some o ≡ true → IfSome o (λ next. map.get places next.0 ≡ Some (place.Way next.1)) → NoneTravels places → ⊥
some_travels places None is some none = absurd cc
some_travels places (Some next) is some none = no_way places next.0 next.1 some none

pub none_travels : (places : NameMap Place) (o : Option (Name × ℕ)) → is_some o ≡ false → IfNone o (NoneTravels places) → NoneTravels places
none_travels places None is none = none
none_travels places (Some next) is none = absurd cc

pub not_both : (b : Bool) → IsTrue (not b) → IsTrue b → ⊥
not_both true n y = absurd cc
not_both false n y = absurd cc

pub not_is : (b : Bool) → (IsTrue b → ⊥) → IsTrue (not b)
not_is true never = absurd (never refl)
not_is false never = refl
