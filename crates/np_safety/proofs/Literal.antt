-- Where the values of a configuration fit some types, its processes have no fault under their least types either.
use Rattle.std.proofs.Common.{◌≡◌, true, Option, None, Some, refl, subst, ◌∙◌}
use Rattle.np_safety.proofs.Common.{Value, Ty, sub, World, kind, Atom, Config, LeastOf, Typed}
use Rattle.np_syntax.proofs.Options.{done}
use Rattle.np_safety.specs.Typed.{TypedAtom}
use Rattle.np_safety.proofs.Fitting.{Valued, FittingAtom, Fitting}
use Rattle.np_safety.proofs.Shapes.{fits-itself}
use Rattle.np_safety.proofs.Atoms.{same_answer, sends-typed}
use Rattle.np_safety.proofs.Narrowing.{Smaller, same_world, weaker}

-- the least type of a value is below each type that it fits
least_smaller : (w : World) (o : Option Value) (p : Option Ty) (t : Ty) → LeastOf w o p → Valued w o t → Smaller p t
least_smaller w None p t l v = absurd (let e = v.is in cc)
least_smaller w (Some x) None t l v = absurd l
least_smaller w (Some x) (Some s) t l v =
    let same : v.value ≡ x = done v.is in
    let is : kind w x ≡ Some v.fits.type = subst (λ x. kind w x ≡ Some v.fits.type) same v.fits.is in
    record { type = s; is = refl; below = subst (λ s. sub s t ≡ true) (same_answer is l) v.fits.below }

least_valued : (w : World) (o : Option Value) (p : Option Ty) (t : Ty) → LeastOf w o p → p ≡ Some t → Valued w o t
least_valued w o None t l h = absurd cc
least_valued w None (Some s) t l h = absurd l
least_valued w (Some x) (Some s) t l h = record { value = x; is = refl; fits = fits-itself w x t (l ∙ h) }

least-atom : (w : World) (a : Atom) → FittingAtom w a → TypedAtom w a
least-atom w a t =
    let k = t.agrees.known in
    record {
      types = k.types;
      least = k.least;
      good = weaker w w (same_world w) a.proc k.types t.types (record { all = λ x u h. least_smaller w _ _ u (k.least.each x) (t.agrees.all x u h) }) t.good;
    }

fitting-atom : (w : World) (a : Atom) → TypedAtom w a → FittingAtom w a
fitting-atom w a t = record {
  types = t.types;
  agrees = record { known = record { types = t.types; least = t.least }; all = λ x u h. least_valued w _ _ u (t.least.each x) h };
  good = t.good;
}

pub fitting-typed : (w : World) (c : Config) → Fitting w c → Typed w c
fitting-typed w c i = record {
  atoms = λ m a is. least-atom w a (i.atoms m a is);
  outputs = λ m a s is sends. sends-typed w a s (i.atoms m a is) sends;
  packets = i.packets;
}

pub typed-fitting : (w : World) (c : Config) → Typed w c → Fitting w c
typed-fitting w c t = record { atoms = λ m a is. fitting-atom w a (t.atoms m a is); packets = t.packets }
