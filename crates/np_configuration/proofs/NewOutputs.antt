-- The errand of an output that an event makes, and how a configuration with it stays kept.
use Rattle.std.proofs.Common.{◌≡◌, true, Option, Some, subst, ap, ◌∙◌}
use Rattle.std.specs.FinMap as map
use Rattle.std.specs.FinSet as set
use Rattle.np_configuration.proofs.Common.{Name, Value, Expr, ◌>>=◌, Errand, NameMap, NameSet, Atom, Packet, Env, chan_of, errand_at, giving, IsKept, errand_of, output_in}
use Rattle.np_syntax.specs.declared.value.Value.{out-Value}
use Rattle.np_syntax.specs.declared.value.Value as value
use Rattle.np_syntax.specs.declared.value.Value.TheVariants.{outs-Chan}
use Rattle.np_syntax.specs.declared.expression.ExprForm as expr
use Rattle.np_syntax.specs.declared.process.Tag.{Tag}
use Rattle.np_syntax.specs.declared.process.ProcForm.TheVariants.{outs-Out}
use Rattle.np_tables.specs.declared.errand.Errand.TheVariants as errand
use Rattle.np_eval.specs.Eval.{as_chan}
use Rattle.np_eval.proofs.Evals.{eval-form, eval-val}
use Rattle.np_configuration.proofs.Keeping.{kept-put}

-- a value as an expression, as it stands in an output that is made
abbrev literal : Value → Expr
literal v = record { at = 0; form = expr.Val v }

literal-chan : (n : Name) (env : Env) → chan_of (literal (value.Chan n)) env ≡ Some n
literal-chan n env =
    ap (λ (o : Option Value). o >>= λ v. as_chan (out-Value v)) (eval-form (literal (value.Chan n)) env ∙ eval-val (value.Chan n) env)
    ∙ ap as_chan (outs-Chan n)

pub output-errand : (b n : Name) (v : Value) (tag : Tag) → errand_of (output_in b n v tag) ≡ errand.Gives (record { agent = b; chan = n })
output-errand b n v tag = ap (errand_at b map.empty) (outs-Out (literal (value.Chan n)) (literal v)) ∙ ap (giving b) (literal-chan n map.empty)

module _ {work : NameMap Errand} {atoms : NameMap Atom} {packets : NameMap Packet} {born : NameSet} where
  -- an output stands under a mark that is born
  pub kept-output : IsKept work atoms packets born → (m b n : Name) (v : Value) (tag : Tag) → set.contains born m ≡ true
      → IsKept (map.insert work m (errand.Gives (record { agent = b; chan = n }))) (map.insert atoms m (output_in b n v tag)) packets born
  kept-output k m b n v tag known =
      subst (λ (x : Errand). IsKept (map.insert work m x) (map.insert atoms m (output_in b n v tag)) packets born)
      (output-errand b n v tag) (kept-put k m (output_in b n v tag) known)
