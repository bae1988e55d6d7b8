use Rattle.std.proofs.Common.{Option, subst, sym}
use Rattle.np_configuration.proofs.Common.{Config}
use Rattle.np_configuration.specs.Applied.{Applied}
use Rattle.np_configuration.proofs.RowSteps.{rows-are}
use Rattle.np_configuration.proofs.rows.apply.Goals as goal

pub returns : goal.returns
returns c = subst (λ (o : Option Config). Applied o c.args.c.now c.apply_row.new.c c.apply_row.result) (sym (rows-are c.args.c.now c.args.e.now c.args.e.now.kind)) c.apply_row.ensures
