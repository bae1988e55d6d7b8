use Rattle.std.proofs.lemmas.Grind.{common_steps}
use Rattle.std.proofs.Common.{◌≡◌, Some, sym, ap, ◌∙◌, arith}
use Rattle.std.specs.FinMap as map
use Rattle.std.specs.Option.{option_copied}
use Rattle.np_tables.specs.declared.errand.Errand.TheVariants as errand
use Rattle.np_tables.specs.Errands.{same_errand}
use Rattle.np_tables.proofs.LineLaws.{same_errand-is, same_errand-itself}
use Rattle.np_configuration.proofs.Goings.{gives-is}
use Rattle.np_configuration.proofs.going.gives_at.Goals as goal

pub returns : goal.returns
returns c =
    let there : map.get c.args.atoms.now.items c.args.mark ≡ Some c.in-Some.atom.now = sym c.get.ensures ∙ ap option_copied c.in-Some.is in (
      λ same. record { atom = c.in-Some.atom.now; there = there; gives = sym c.errand_of.ensures ∙ same_errand-is _ _ (sym c.eq.ensures ∙ same) },
      λ g.
          c.eq.ensures ∙ ap (λ e. same_errand e (errand.Gives c.args.meeting)) (c.errand_of.ensures ∙ gives-is c.args.atoms.now.items c.args.mark c.args.meeting c.in-Some.atom.now there g)
          ∙ same_errand-itself (errand.Gives c.args.meeting),
    )

pub returns-in_default : goal.returns-in_default
returns-in_default c = grind (arith, common_steps)
