-- The parts of a process of each form, as code takes them apart.
use Rattle.std.specs.Prelude.{ℕ, Option, None, Some}
use Rattle.np_syntax.specs.declared.types.Ty.{Ty}
use Rattle.np_syntax.specs.declared.expression.Expr.{Expr}
use Rattle.np_syntax.specs.declared.pattern.Pat.{Pat}
use Rattle.np_syntax.specs.declared.process.Proc.{Proc}
use Rattle.np_syntax.specs.declared.process.ProcForm.{ProcForm-F}
use Rattle.np_eval.specs.Forms.{Layer}

abbrev pub as_stop : Layer → Option (Unit {0})
as_stop ProcForm-F.Stop = Some tt
as_stop _ = None

abbrev pub as_par : Layer → Option (Proc × Proc)
as_par (ProcForm-F.Par left right) = Some (left, right)
as_par _ = None

-- the binder, its type and the body
abbrev pub as_new : Layer → Option (ℕ × Ty × Proc)
as_new (ProcForm-F.New c ty body) = Some (c, ty, body)
as_new _ = None

-- the channel, the pattern and the body
abbrev pub as_inp : Layer → Option (Expr × Pat × Proc)
as_inp (ProcForm-F.Inp c x body) = Some (c, x, body)
as_inp _ = None

abbrev pub as_rep : Layer → Option (Expr × Pat × Proc)
as_rep (ProcForm-F.Rep c x body) = Some (c, x, body)
as_rep _ = None

-- the binder, the new agent's process and what goes on
abbrev pub as_agent_form : Layer → Option (ℕ × Proc × Proc)
as_agent_form (ProcForm-F.Agent b body rest) = Some (b, body, rest)
as_agent_form _ = None

abbrev pub as_migrate : Layer → Option (Expr × Proc)
as_migrate (ProcForm-F.Migrate s body) = Some (s, body)
as_migrate _ = None

-- the agent, the channel, the value, and the two ways to go on
abbrev pub as_iflocal : Layer → Option (Expr × Expr × Expr × Proc × Proc)
as_iflocal (ProcForm-F.IfLocal b c e met unmet) = Some (b, c, e, met, unmet)
as_iflocal _ = None

-- the agent, the site, the channel and the value
abbrev pub as_send : Layer → Option (Expr × Expr × Expr × Expr)
as_send (ProcForm-F.Send b s c e) = Some (b, s, c, e)
as_send _ = None

abbrev pub as_post : Layer → Option (Expr × Expr × Expr)
as_post (ProcForm-F.Post b c e) = Some (b, c, e)
as_post _ = None

abbrev pub as_if : Layer → Option (Expr × Proc × Proc)
as_if (ProcForm-F.If e met unmet) = Some (e, met, unmet)
as_if _ = None

abbrev pub as_let : Layer → Option (Pat × Expr × Proc)
as_let (ProcForm-F.Let x e body) = Some (x, e, body)
as_let _ = None

abbrev pub as_print : Layer → Option Expr
as_print (ProcForm-F.Print e) = Some e
as_print _ = None

abbrev pub as_open : Layer → Option Expr
as_open (ProcForm-F.Open e) = Some e
as_open _ = None

-- the agent, the map of places, the binder, and the two ways to go on
abbrev pub as_lookup : Layer → Option (Expr × Expr × ℕ × Proc × Proc)
as_lookup (ProcForm-F.Lookup a m x met unmet) = Some (a, m, x, met, unmet)
as_lookup _ = None
