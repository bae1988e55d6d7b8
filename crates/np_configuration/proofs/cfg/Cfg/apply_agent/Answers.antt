use Rattle.std.proofs.Common.{◌≡◌, Some, sym, ap, ◌∙◌}
use Rattle.std.specs.FinMap as map
use Rattle.std.specs.FinSet as set
use Rattle.np_configuration.proofs.Common.{NameMap, NameSet, the_view, Atom, Place, Config}
use Rattle.np_calculus.specs.declared.config.Place.TheVariants as place
use Rattle.np_eval.specs.FormParts.{as_agent_form}
use Rattle.np_configuration.specs.Rows.{agent_more, peopled}
use Rattle.np_configuration.proofs.Finds.{agent-new, row-gives, steps-of}
use Rattle.np_configuration.proofs.Keeping.{kept-absent, kept-born, kept-more}
use Rattle.np_configuration.proofs.Moved.{kept-equal, remade-placed}
use Rattle.np_configuration.proofs.cfg.Cfg.apply_agent.Goals as goal

pub file_two-requires : goal.file_two-requires
file_two-requires c =
    kept-absent c.self.invariant c.in_ok-made.made.mark
    (ap (λ (d : Config). set.contains d.born c.in_ok-made.made.mark) c.self.view_is ∙ agent-new c.args.self.now c.args.e.now _ c.in_ok-made.ensures)

abbrev both : goal.After-put-5 → NameMap Atom → NameMap Atom
both c x = map.insert (map.insert x c.in_ok-made.made.mark c.in_ok-made.made.comes) c.args.e.now.actor c.in_ok-made.made.stays

atoms : (c : goal.After-put-5) → c.put-3.new.self.items ≡ both c c.self.inside.atoms.items
atoms c =
    let n = c.in_ok-made.made in
    c.put-3.ensures.items
    ∙ ap (λ (x : NameMap Atom). map.insert x c.args.e.now.actor n.stays)
    (c.put-2.ensures.items ∙ ap (λ (x : NameMap Atom). map.insert x n.mark n.comes) c.in_ok-file_two.ensures.atoms)

members : (c : goal.After-put-5) → c.put-5.new.self.members ≡ set.insert (set.insert c.self.inside.born.members c.in_ok-made.made.comes.agent) c.in_ok-made.made.mark
members c =
    let n = c.in_ok-made.made in
    c.put-5.ensures.members
    ∙ ap (λ (x : NameSet). set.insert x n.mark)
    (c.put-4.ensures.members ∙ ap (λ (x : NameSet). set.insert x n.comes.agent) c.in_ok-file_two.ensures.born)

pub invariant_of-self-2 : goal.invariant_of-self-2
invariant_of-self-2 c =
    let s = steps-of as_agent_form agent_more c.args.self.now c.args.e.now _ c.in_ok-made.ensures in
    let n = c.in_ok-made.made in
    let there : map.get c.self.inside.atoms.items c.args.e.now.actor ≡ Some s.atom = ap (λ (d : Config). map.get d.atoms c.args.e.now.actor) c.self.view_is ∙ s.there in
    kept-equal (kept-more (kept-born c.self.invariant n.comes.agent) c.args.e.now.actor n.mark s.atom n.stays n.comes there)
    c.in_ok-file_two.ensures.ok (atoms c) (members c)

places : (c : goal.After-put-5) → c.put.new.self.items ≡ map.insert c.self.inside.places.items c.in_ok-made.made.comes.agent (place.At c.args.e.now.site)
places c = c.put.ensures.items ∙ ap (λ (x : NameMap Place). map.insert x c.in_ok-made.made.comes.agent (place.At c.args.e.now.site)) c.in_ok-reserve.ensures.items

pub returns : goal.returns
returns c =
    let n = c.in_ok-made.made in
    row-gives _ _ (peopled c.args.self.now c.args.e.now) c.in_ok-made.ensures
    ∙ ap Some (sym
    (remade-placed {c = the_view c.self.inside}
    (places c ∙ ap (λ (d : Config). map.insert d.places n.comes.agent (place.At c.args.e.now.site)) c.self.view_is)
    (atoms c ∙ ap (λ (d : Config). both c d.atoms) c.self.view_is)
    (members c ∙ ap (λ (d : Config). set.insert (set.insert d.born n.comes.agent) n.mark) c.self.view_is)
    c.self.view_is))
