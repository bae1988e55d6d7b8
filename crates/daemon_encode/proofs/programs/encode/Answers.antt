use Rattle.std.proofs.Common.{◌+◌, ◌<◌, ◌^◌, length, subst, sym}
use Rattle.np_syntax.specs.declared.program.Program.{Program}
use Rattle.daemon_encode.specs.Encoded.{main_of}
use Rattle.daemon_encode.proofs.Numbers.{numbers-fit}
use Rattle.daemon_encode.proofs.Encodes.{given_as}
use Rattle.daemon_encode.proofs.ProgramsTyped.{faultless_as, sound_as}
use Rattle.daemon_encode.proofs.programs.encode.Goals as goal

pub returns-clause-faultless : goal.returns-clause-faultless
returns-clause-faultless c = faultless_as c.args.p.now c.program.result.now c.low_program.result c.program.ensures.accepted c.program.ensures.value c.low_program.ensures

pub returns-clause-sound : goal.returns-clause-sound
returns-clause-sound c = sound_as c.args.p.now c.program.result.now c.low_program.result c.program.ensures.accepted c.program.ensures.value c.low_program.ensures

pub returns-clause-gives : goal.returns-clause-gives
returns-clause-gives c = given_as c.args.p.now c.program.result.now c.low_program.result c.program.ensures.value c.low_program.ensures

pub low_program-requires-clause-numbers : goal.low_program-requires-clause-numbers
low_program-requires-clause-numbers c = subst (λ (p : Program). (main_of (length p.sites) p).1 + 20 < 2 ^ 32) (sym c.program.ensures.value) (numbers-fit c.args.p.now c.program.ensures.accepted.sound)
