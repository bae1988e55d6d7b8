-- How many process nodes a process and a low program have (docs/LANGUAGE.md, "Scope"; docs/COMMANDS.md, "Limits"). Each composition is a
-- node.
use Rattle.std.specs.Prelude.{ℕ, ◌+◌, ◌-◌, ◌^◌, min, Option, None, Some, unwrap_or}
use Rattle.np_syntax.specs.declared.process.Proc.{Proc}
use Rattle.np_syntax.specs.declared.process.ProcForm.{ProcForm-F, fold-ProcForm}
use Rattle.np_syntax.specs.declared.program.LowProgram.{LowProgram}
use Rattle.np_code.specs.Parts.{first_of, second_of}

-- a node and those of its parts
abbrev pub nodes_step : ProcForm-F ℕ ℕ → ℕ
nodes_step l = 1 + unwrap_or (first_of l) 0 + unwrap_or (second_of l) 0

-- the process nodes of a process
unfoldable pub nodes : Proc → ℕ
nodes p = fold-ProcForm ℕ ℕ nodes_step (λ p. p.form) p.form

-- those of a part, where there is one
abbrev pub part_nodes : Option Proc → ℕ
part_nodes None = 0
part_nodes (Some p) = nodes p

-- those of main and of the daemon
abbrev pub program_nodes : LowProgram → ℕ
program_nodes p = nodes p.main + nodes p.daemon

-- a number that stands still at the greatest `u64`
unfoldable pub capped : ℕ → ℕ
capped n = min n (2 ^ 64 - 1)
