-- What fits in a world fits in each wider one.
use Rattle.std.proofs.Common.{Option, None, Some}
use Rattle.np_safety.proofs.Common.{Name, Value, Ty, World, Types, sub-itself, Env, Atom, Config, Fits, Sent, LeastOf}
use Rattle.np_safety.proofs.Fitting.{Valued, Agrees, FittingAtom, Fitting}
use Rattle.np_safety.proofs.Narrowing.{Wider, Narrower, same-kind, weaker}

-- types are as narrow as themselves
pub itself : (t : Types) → Narrower t t
itself t = record { all = λ x u h. record { type = u; is = h; below = sub-itself u } }

module _ (w v : World) (wider : Wider w v) where
  fits-wider : (x : Value) (t : Ty) → Fits w x t → Fits v x t
  fits-wider x t f = record { type = f.type; is = same-kind w v wider x f.type f.is; below = f.below }

  least-wider : (o : Option Value) (p : Option Ty) → LeastOf w o p → LeastOf v o p
  least-wider None None l = tt
  least-wider None (Some t) l = absurd l
  least-wider (Some x) None l = absurd l
  least-wider (Some x) (Some t) l = same-kind w v wider x t l

  valued-wider : (o : Option Value) (t : Ty) → Valued w o t → Valued v o t
  valued-wider o t f = record { value = f.value; is = f.is; fits = fits-wider f.value t f.fits }

  agrees-wider : (env : Env) (types : Types) → Agrees w env types → Agrees v env types
  agrees-wider env types a = record {
    known = record { types = a.known.types; least = record { each = λ x. least-wider _ _ (a.known.least.each x) } };
    all = λ x t h. valued-wider _ t (a.all x t h);
  }

  atom-wider : (a : Atom) → FittingAtom w a → FittingAtom v a
  atom-wider a t = record { types = t.types; agrees = agrees-wider a.env t.types t.agrees; good = weaker w v wider a.proc t.types t.types (itself t.types) t.good }

  sent-wider : (n : Name) (x : Value) → Sent w n x → Sent v n x
  sent-wider n x s = record { own = s.own; carries = wider.chan n s.own s.carries; may_write = s.may_write; fits = fits-wider x s.own.1 s.fits }

  pub fitting-wider : (c : Config) → Fitting w c → Fitting v c
  fitting-wider c i = record { atoms = λ m a is. atom-wider a (i.atoms m a is); packets = λ m p is. sent-wider p.chan p.value (i.packets m p is) }
