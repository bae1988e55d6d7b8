use Rattle.np_words.proofs.arguments.with_run_options.Goals as goal

pub returns : goal.returns
returns c = λ app is.
    let flags = c.with_flag-command-3.ensures _ (c.with_flag-command-2.ensures _ (c.with_flag-command.ensures _ (c.with_valued-command.ensures app is))) in
    c.with_valued.ensures _ (c.with_valued-command-2.ensures _ flags)
