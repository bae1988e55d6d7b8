use Rattle.std.proofs.Common.{◌∙◌}
use Rattle.np_words.proofs.Commands.{if_ok, whole}
use Rattle.np_words.proofs.arguments.command.Goals as goal

pub returns : goal.returns
returns c =
    let options = c.with_run_options-command.ensures _ (c.with_operands-command.ensures _ c.start.ensures) in
    if_ok c.with_flag.result (λ _ longer. longer ∙ whole) (c.with_flag.ensures _ (c.with_valued-command.ensures _ options))
