use Rattle.look_pages.proofs.pages.of_program.Goals as goal

pub returns-in_ok-text-in-Ok : goal.returns-in_ok-text-in-Ok
returns-in_ok-text-in-Ok c = record { run = c.in-Ok.run'; looked = c.in-Ok.ensures; page = c.in_ok-text-in-Ok.ensures }
