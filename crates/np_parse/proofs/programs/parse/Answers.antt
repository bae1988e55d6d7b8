use Rattle.np_parse.proofs.Whole.{found, only, complete, refused, sizes}
use Rattle.np_parse.proofs.programs.parse.Goals as goal

pub returns-clause-found : goal.returns-clause-found
returns-clause-found c = found _ c.program.new.tokens c.program.result c.as_slice.ensures.legal (rw (c.new-cursor.ensures, c.as_slice.ensures.value) at c.program.ensures)

pub returns-clause-only : goal.returns-clause-only
returns-clause-only c = only _ c.program.new.tokens c.program.result c.as_slice.ensures.legal (rw (c.new-cursor.ensures, c.as_slice.ensures.value) at c.program.ensures)

pub returns-clause-complete : goal.returns-clause-complete
returns-clause-complete c = complete _ c.program.new.tokens c.program.result c.as_slice.ensures.legal (rw (c.new-cursor.ensures, c.as_slice.ensures.value) at c.program.ensures)

pub returns-clause-refused : goal.returns-clause-refused
returns-clause-refused c = refused _ c.program.new.tokens c.program.result c.as_slice.ensures.legal (rw (c.new-cursor.ensures, c.as_slice.ensures.value) at c.program.ensures)

pub returns-clause-sizes : goal.returns-clause-sizes
returns-clause-sizes c = sizes _ c.program.new.tokens c.program.result c.as_slice.ensures.legal (rw (c.new-cursor.ensures, c.as_slice.ensures.value) at c.program.ensures)
