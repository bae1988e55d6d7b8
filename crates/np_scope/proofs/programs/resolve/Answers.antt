use Rattle.std.proofs.lemmas.Grind.{common_steps}
use Rattle.std.proofs.Common.{◌≡◌, Ok, refl, arith}
use Rattle.np_syntax.specs.declared.program.Program.{Program}
use Rattle.np_scope.specs.Resolved.{resolved}
use Rattle.np_scope.proofs.ProgramsSound.{numbered_where_resolved, sound_where_resolved}
use Rattle.np_scope.proofs.programs.resolve.Goals as goal

pub returns-clause-numbered : goal.returns-clause-numbered
unfolding resolved
returns-clause-numbered c =
    let program : Program = record { sites = c.in_ok-sites.sites; at = c.in_ok-at.at; main = c.in_ok-at.main.proc; binders = c.in_ok-at.main.next.binder } in
    let is : resolved c.args.tree.now ≡ Ok program = rw (c.in_ok-at.ensures.gives, c.in_ok-sites.ensures, c.as_slice.ensures) refl in
    numbered_where_resolved c.args.tree.now program c.requires.nodes c.requires.binders c.requires.written is

pub returns-clause-sound : goal.returns-clause-sound
unfolding resolved
returns-clause-sound c = grind (arith, common_steps, sound_where_resolved)
