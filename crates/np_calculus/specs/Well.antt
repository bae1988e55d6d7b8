-- No value of a wrong type is met: operands fit their rows, and patterns match what waits for them (docs/LANGUAGE.md, "Reductions").
use Rattle.std.specs.Prelude.{◌≡◌, Bool, true, false, Option, Some, List, ◌++◌}
use Rattle.std.specs.List.{list_all}
use Rattle.std.specs.FinMap as map
use Rattle.np_syntax.specs.declared.value.Name.{Name}
use Rattle.np_syntax.specs.declared.value.Value.{Value, Value-F, fold-Value}
use Rattle.np_syntax.specs.declared.expression.Expr.{Expr}
use Rattle.np_syntax.specs.declared.pattern.Pat.{Pat}
use Rattle.np_syntax.specs.declared.process.ProcForm.{ProcForm-F}
use Rattle.np_syntax.specs.declared.event.Event.{Event}
use Rattle.np_calculus.specs.declared.config.Atom.{Atom}
use Rattle.np_calculus.specs.Config.{Config}
use Rattle.np_eval.specs.Eval.{Env, eval, bind, chan_of, agent_of, truth_of, letter_of, places_of}
use Rattle.np_eval.specs.Forms.{Layer, layer, taken_on}
use Rattle.np_calculus.specs.Reductions.{sends, site_in, run}

-- there is one
abbrev pub Has : {A : Type 0} → Option A → Type 0
Has {A} o = (a : A) × (o ≡ Some a)

abbrev pub printable_step : Value-F Bool → Bool
printable_step (Value-F.Int n) = true
printable_step (Value-F.Truth b) = true
printable_step (Value-F.Str t) = true
printable_step (Value-F.Site s) = true
printable_step (Value-F.Tuple parts) = list_all (λ part. part) parts
printable_step _ = false

-- a number, a truth value, a string, a site, or a tuple of such
unfoldable pub is_printable : Value → Bool
is_printable = fold-Value Bool printable_step

-- the expression has a value, and the pattern matches it
abbrev pub Matches : Pat → Option Value → Env → Type 0
Matches x o env = (v : Value) × (o ≡ Some v) × Has (bind x v env)

-- the operands of a process have values of the forms that its row needs
abbrev pub Ready : Config → Env → Layer → Type 0
Ready c env (ProcForm-F.Out x e) = Has (chan_of x env) × Has (eval e env)
Ready c env (ProcForm-F.Inp x pat body) = Has (chan_of x env)
Ready c env (ProcForm-F.Rep x pat body) = Has (chan_of x env)
Ready c env (ProcForm-F.Migrate s body) = Has (site_in c.sites s env)
Ready c env (ProcForm-F.IfLocal b x e met unmet) = Has (agent_of b env) × Has (chan_of x env) × Has (eval e env)
Ready c env (ProcForm-F.Send b s x e) = Has (agent_of b env) × Has (site_in c.sites s env) × Has (chan_of x env) × Has (eval e env)
Ready c env (ProcForm-F.Post b x e) = Has (agent_of b env) × Has (chan_of x env) × Has (eval e env)
Ready c env (ProcForm-F.If e met unmet) = Has (truth_of e env)
Ready c env (ProcForm-F.Let pat e body) = Matches pat (eval e env) env
Ready c env (ProcForm-F.Print e) = (v : Value) × (eval e env ≡ Some v) × (is_printable v ≡ true)
Ready c env (ProcForm-F.Open e) = Has (letter_of e env)
Ready c env (ProcForm-F.Lookup a m x met unmet) = Has (agent_of a env) × Has (places_of m env)
Ready c env _ = Unit {0}

pub record Well (c : Config) : Type 0 where
  pub ready : (m : Name) (a : Atom) → map.get c.atoms m ≡ Some a → Ready c a.env (layer a.proc)
  -- in each agent, an input's pattern matches the value of each output on its channel
  pub matches : (i o : Name) (a b : Atom) (t : Expr × Pat) (n : Name) (v : Value) → map.get c.atoms i ≡ Some a → map.get c.atoms o ≡ Some b
      → a.agent ≡ b.agent → taken_on (layer a.proc) ≡ Some t → chan_of t.0 a.env ≡ Some n → sends b ≡ Some (n, v) → Has (bind t.1 v a.env)

-- after each prefix of the events they lead somewhere that is well
pub record WellAlong (c : Config) (events : List Event) : Type 0 where
  pub each : (first rest : List Event) → events ≡ first ++ rest → (d : Config) × (run c first ≡ Some d) × Well d
