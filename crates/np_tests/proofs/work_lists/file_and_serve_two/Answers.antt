use Rattle.np_tables.proofs.Tables.{get-none}
use Rattle.np_tests.proofs.work_lists.file_and_serve_two.Goals as goal

pub file_two-requires : goal.file_two-requires
file_two-requires c = record { absent = rw c.requires (get-none _) }
