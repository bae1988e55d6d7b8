-- The processes that are parts of a process: none, one or two (docs/LANGUAGE.md, "Grammar").
use Rattle.std.specs.Prelude.{Option, None, Some}
use Rattle.np_syntax.specs.declared.process.Proc.{Proc}
use Rattle.np_syntax.specs.declared.process.ProcForm.{ProcForm, ProcForm-F}

-- one level of a process
abbrev pub Layer : Type 0
Layer = ProcForm-F ProcForm Proc

-- the first part, or the only one
abbrev pub first_of : {A B : Type 0} → ProcForm-F A B → Option B
first_of (ProcForm-F.Par left right) = Some left
first_of (ProcForm-F.New x ty body) = Some body
first_of (ProcForm-F.Inp c x body) = Some body
first_of (ProcForm-F.Rep c x body) = Some body
first_of (ProcForm-F.Agent b body rest) = Some body
first_of (ProcForm-F.Migrate s body) = Some body
first_of (ProcForm-F.IfLocal b c e met unmet) = Some met
first_of (ProcForm-F.If e met unmet) = Some met
first_of (ProcForm-F.Let x e body) = Some body
first_of (ProcForm-F.Lookup a m x met unmet) = Some met
first_of _ = None

-- the second part
abbrev pub second_of : {A B : Type 0} → ProcForm-F A B → Option B
second_of (ProcForm-F.Par left right) = Some right
second_of (ProcForm-F.Agent b body rest) = Some rest
second_of (ProcForm-F.IfLocal b c e met unmet) = Some unmet
second_of (ProcForm-F.If e met unmet) = Some unmet
second_of (ProcForm-F.Lookup a m x met unmet) = Some unmet
second_of _ = None
