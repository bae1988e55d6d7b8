-- A process by its form, one level at a time (docs/LANGUAGE.md, "Grammar").
use Rattle.std.specs.Prelude.{Option, None, Some}
use Rattle.np_syntax.specs.declared.expression.Expr.{Expr}
use Rattle.np_syntax.specs.declared.pattern.Pat.{Pat}
use Rattle.np_syntax.specs.declared.process.Proc.{Proc}
use Rattle.np_syntax.specs.declared.process.ProcForm.{ProcForm, ProcForm-F, out-ProcForm}

abbrev pub Layer : Type 0
Layer = ProcForm-F ProcForm Proc

abbrev pub layer : Proc → Layer
layer p = out-ProcForm p.form

-- the channel and the value
abbrev pub as_out : Layer → Option (Expr × Expr)
as_out (ProcForm-F.Out c e) = Some (c, e)
as_out _ = None

-- the channel of an output
abbrev pub given_on : Layer → Option Expr
given_on (ProcForm-F.Out c e) = Some c
given_on _ = None

-- the channel and the pattern of an input, plain or replicated
abbrev pub taken_on : Layer → Option (Expr × Pat)
taken_on (ProcForm-F.Inp c x body) = Some (c, x)
taken_on (ProcForm-F.Rep c x body) = Some (c, x)
taken_on _ = None
