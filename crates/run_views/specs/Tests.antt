-- The location tests of a source.
use Rattle.std.specs.Prelude.{ℕ, List, [], ◌∷◌, ◌++◌}
use Rattle.np_syntax.specs.declared.process.Proc.{Proc, fold-Proc}
use Rattle.np_syntax.specs.declared.process.ProcForm.{ProcForm-F}

abbrev pub Offsets : Type 0
Offsets = List ℕ

-- those of a form at an offset, from those of its parts
abbrev pub test_step : ProcForm-F (ℕ → Offsets) Offsets → ℕ → Offsets
test_step (ProcForm-F.IfLocal b c e met unmet) at = at ∷ (met ++ unmet)
test_step (ProcForm-F.Send b s c e) at = at ∷ []
test_step (ProcForm-F.Par left right) at = left ++ right
test_step (ProcForm-F.New x ty body) at = body
test_step (ProcForm-F.Inp c x body) at = body
test_step (ProcForm-F.Rep c x body) at = body
test_step (ProcForm-F.Agent b body rest) at = body ++ rest
test_step (ProcForm-F.Migrate s body) at = body
test_step (ProcForm-F.If e met unmet) at = met ++ unmet
test_step (ProcForm-F.Let x e body) at = body
test_step (ProcForm-F.Lookup a m x met unmet) at = met ++ unmet
test_step _ at = []

-- the offsets of the location tests of a process, each `iflocal` and each `<b@s>c!v`, in reading order
unfoldable pub tests : Proc → Offsets
tests = fold-Proc (ℕ → Offsets) Offsets test_step (λ p. p.form p.at)
