use Rattle.std.proofs.Common.{subst}
use Rattle.np_words.specs.declared.modes.Infrastructure.{Infrastructure}
use Rattle.look_reasons.specs.Noted.{IsRunWith}
use Rattle.look_reasons.proofs.notes.run_note.Goals as goal

pub returns : goal.returns
returns c = subst (λ (i : Infrastructure). IsRunWith i c.args.source.now c.args.events.now) c.other-meant.ensures (c.in_ok-is_run_with.ensures c.if-not-branch.false)
