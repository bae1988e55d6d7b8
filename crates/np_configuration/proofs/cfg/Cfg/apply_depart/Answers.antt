use Rattle.std.proofs.Common.{Some, IsSome, refl, sym, subst, ap, ◌∙◌}
use Rattle.std.specs.FinMap as map
use Rattle.np_configuration.proofs.Common.{NameMap, the_view, Place, Config}
use Rattle.np_calculus.specs.declared.config.Place.TheVariants as place
use Rattle.np_eval.specs.FormParts.{as_migrate}
use Rattle.np_configuration.specs.Rows.{depart_more, departed}
use Rattle.np_configuration.proofs.Finds.{row-gives, stands}
use Rattle.np_configuration.proofs.Keeping.{kept-put}
use Rattle.np_configuration.proofs.Moved.{born-under, kept-equal, remade-placed}
use Rattle.np_configuration.proofs.cfg.Cfg.apply_depart.Goals as goal

pub replace-requires : goal.replace-requires
replace-requires c =
    subst (λ (d : Config). IsSome (map.get d.atoms c.args.e.now.actor)) (sym c.self.view_is)
    (stands as_migrate depart_more c.args.self.now c.args.e.now _ c.in_ok-leaves.ensures)

pub invariant_of-self-2 : goal.invariant_of-self-2
invariant_of-self-2 c =
    kept-equal
    (kept-put c.self.invariant c.args.e.now.actor c.in_ok-leaves.leaves.atom
    (born-under c.self.view_is c.self.invariant c.args.e.now.actor (stands as_migrate depart_more c.args.self.now c.args.e.now _ c.in_ok-leaves.ensures)))
    c.in_ok-file_atom.ensures.ok c.replace.ensures.items refl

pub returns : goal.returns
returns c =
    let d = c.in_ok-leaves.leaves in
    row-gives _ _ (departed c.args.self.now c.args.e.now) c.in_ok-leaves.ensures
    ∙ ap Some (sym
    (remade-placed {c = the_view c.self.inside}
    (c.put.ensures.items
    ∙ ap (λ (x : NameMap Place). map.insert x d.atom.agent (place.Way d.to)) (c.in_ok-reserve.ensures.items ∙ ap (λ (d : Config). d.places) c.self.view_is))
    (c.replace.ensures.items ∙ ap (λ (x : Config). map.insert x.atoms c.args.e.now.actor d.atom) c.self.view_is)
    (ap (λ (d : Config). d.born) c.self.view_is) c.self.view_is))
