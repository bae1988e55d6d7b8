use Rattle.std.proofs.lemmas.Grind.{common_steps}
use Rattle.std.proofs.Common.{◌≡◌, Some, refl, sym, ap, ◌∙◌, arith}
use Rattle.std.specs.FinMap as map
use Rattle.std.specs.Option.{option_copied}
use Rattle.np_configuration.proofs.Goings.{acts-goes, takes-goes, goes-takes}
use Rattle.np_configuration.proofs.going.may_act.Goals as goal

pub returns-in-Acts : goal.returns-in-Acts
returns-in-Acts c =
    let there : map.get c.args.atoms.now.items c.args.mark ≡ Some c.in-Some.atom.now = sym c.get.ensures ∙ ap option_copied c.in-Some.is in
    let placed : map.get c.args.places.now.items c.in-Some.atom.now.agent ≡ Some c.in-Some-get.field-0 = sym c.get-2.ensures ∙ c.in-Some-get.is in (
      λ t. acts-goes c.args.atoms.now.items c.args.mark c.args.places.now.items c.in-Some.atom.now there (rw placed refl) (sym c.errand_of.ensures ∙ c.in-Acts.is),
      λ g. refl,
    )

pub returns-in-Takes : goal.returns-in-Takes
returns-in-Takes c =
    let there : map.get c.args.atoms.now.items c.args.mark ≡ Some c.in-Some.atom.now = sym c.get.ensures ∙ ap option_copied c.in-Some.is in
    let placed : map.get c.args.places.now.items c.in-Some.atom.now.agent ≡ Some c.in-Some-get.field-0 = sym c.get-2.ensures ∙ c.in-Some-get.is in
    let takes = sym c.errand_of.ensures ∙ c.in-Takes.is in (
      λ t. takes-goes c.args.atoms.now.items c.args.mark c.args.places.now.items c.in-Some.atom.now there (rw placed refl) c.in-Takes.meeting takes (c.any_gives.ensures.0 t),
      λ g. c.any_gives.ensures.1 (goes-takes c.args.atoms.now.items c.args.mark c.args.places.now.items c.in-Some.atom.now there c.in-Takes.meeting takes g),
    )

pub returns-in_default-errand_of : goal.returns-in_default-errand_of
returns-in_default-errand_of c = grind (arith, common_steps)

pub returns-in_default-get : goal.returns-in_default-get
returns-in_default-get c = grind (arith, common_steps)

pub returns-in_default : goal.returns-in_default
returns-in_default c = grind (arith, common_steps)
