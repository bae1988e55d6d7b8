-- A low program as a table of its process nodes.
use Rattle.std.specs.Prelude.{ℕ, List, refl}
use Rattle.std.specs.Coded.{Coded, code_by, coded×, coded_ℕ, coded_list}
use Rattle.np_syntax.specs.declared.process.Proc.{Proc}
use Rattle.np_syntax.specs.contracts.process.Proc as proc
use Rattle.np_syntax.specs.declared.program.LowProgram.{LowProgram}
use Rattle.np_code.specs.Trees.{nth}

pub record ProgramTable : Type 0 where
  pub sites : List (List ℕ)
  -- main's site
  pub at : ℕ
  -- the process under each number
  pub processes : List Proc
  -- the numbers of main's and of the daemon's process
  pub main : ℕ
  pub daemon : ℕ

-- the low program that a table stands for
abbrev pub program : ProgramTable → LowProgram
program c = record { sites = c.sites; at = c.at; main = nth c.processes c.main; daemon = nth c.processes c.daemon }

-- a table is stored as its parts
abbrev pub table_code : Coded ProgramTable
table_code =
    code_by (List (List ℕ) × (ℕ × (List Proc × (ℕ × ℕ))))
    (coded× (coded_list (coded_list coded_ℕ)) (coded× coded_ℕ (coded× (coded_list proc.the_row.coded) (coded× coded_ℕ coded_ℕ))))
    (λ c. (c.sites, (c.at, (c.processes, (c.main, c.daemon)))))
    (λ p. record { sites = p.0; at = p.1.0; processes = p.1.1.0; main = p.1.1.1.0; daemon = p.1.1.1.1 }) (λ _. refl)
