-- What stands in a configuration is born, from the low start on.
use Rattle.std.proofs.Common.{◌≡◌, [], length, refl}
use Rattle.np_syntax.specs.declared.program.LowProgram.{LowProgram}
use Rattle.np_tables.proofs.Tables.{get-none}
use Rattle.np_calculus.specs.Parts.{AreBorn}
unfoldable use Rattle.np_calculus.specs.Starts.{start_low}
use Rattle.run_views.specs.Laws.{HasSingleMarks}
use Rattle.np_calculus.proofs.LowStart.{names-born}

pub low-born : (q : LowProgram) → AreBorn (start_low q)
unfolding start_low
low-born q = names-born (length q.sites) q.at q.main q.daemon

pub low-single : (q : LowProgram) → HasSingleMarks (start_low q)
unfolding start_low
low-single q = record { each = λ m is. get-none m }

pub low-silent : (q : LowProgram) → (start_low q).said ≡ []
unfolding start_low
low-silent q = refl
