use Rattle.std.proofs.Common.{◌≡◌, not, None, Some, rules, refl, sym, ◌∙◌}
use Rattle.np_syntax.specs.Options.{need}
use Rattle.np_calculus.specs.Reductions.{no_other, two_made}
use Rattle.np_calculus.specs.Seen.{fresh}
use Rattle.np_configuration.proofs.Common.{same_name}
use Rattle.np_configuration.proofs.cfg.Cfg.two_new.Goals as goal

pub returns-in_err-fresh-2 : goal.returns-in_err-fresh-2
returns-in_err-fresh-2 c =
    let made : two_made c.args.e.now.made ≡ Some (c.in_ok-first.first, c.in_ok-first.second) = search rules in
    let lone : no_other c.args.e.now.other ≡ Some tt = search rules in
    let differ : need (not (same_name c.in_ok-first.first c.in_ok-first.second)) ≡ Some tt = search rules in
    let first : fresh c.args.self.now c.in_ok-first.first ≡ Some tt = search rules in
    let second : fresh c.args.self.now c.in_ok-first.second ≡ None = search rules in
    let none : c.from_residual-in_err-fresh-2.result ≡ None = search rules in
    none ∙ sym (rw (made, lone, differ, first, second) refl)
