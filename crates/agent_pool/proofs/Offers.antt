-- Whether the value of an output fits a pattern.
use Rattle.std.proofs.Common.{◌≡◌, Bool, true, false, ◌&&◌, Option, None, Some, refl, ap}
use Rattle.std.specs.Prelude.{is_some}
use Rattle.np_calculus.proofs.Common.{Name, Value, Expr, Pat, ◌>>=◌, same_name, eval, bind}
use Rattle.np_eval.specs.Eval.{Env}
use Rattle.np_eval.specs.Fitting.{fits}
use Rattle.np_eval.proofs.FittingPatterns.{bind-anywhere}
use Rattle.agent_pool.specs.Readies.{offers_in}

and_false : (t : Bool) → false ≡ (t && false)
and_false true = refl
and_false false = refl

-- the value of an output at a node
pub offers-value : (x : Expr) (frame env : Env) (chan on : Name) (pat : Pat) → offers_in (eval x frame >>= λ v. Some (on, v)) chan pat env ≡ (same_name chan on && fits pat x frame)
offers-value x frame env chan on pat = by (eval x frame)
  where
    by : (o : Option Value) → offers_in (o >>= λ v. Some (on, v)) chan pat env ≡ (same_name chan on && is_some (o >>= λ v. bind pat v frame))
    by None = and_false (same_name chan on)
    by (Some v) = ap (λ t. same_name chan on && t) (bind-anywhere pat v env frame)

pub ruleset offers = (offers-value)
