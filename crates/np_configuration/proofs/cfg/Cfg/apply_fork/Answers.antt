use Rattle.std.proofs.Common.{◌≡◌, Some, sym, ap, ◌∙◌}
use Rattle.std.specs.FinMap as map
use Rattle.std.specs.FinSet as set
use Rattle.np_configuration.proofs.Common.{NameMap, NameSet, the_view, Atom, Config}
use Rattle.np_eval.specs.FormParts.{as_par}
use Rattle.np_configuration.specs.Rows.{fork_more, forked}
use Rattle.np_configuration.proofs.Finds.{fork-new, row-gives, steps-of}
use Rattle.np_configuration.proofs.Keeping.{kept-absent, kept-more}
use Rattle.np_configuration.proofs.Moved.{kept-equal, remade}
use Rattle.np_configuration.proofs.cfg.Cfg.apply_fork.Goals as goal

pub file_two-requires : goal.file_two-requires
file_two-requires c =
    kept-absent c.self.invariant c.in_ok-fork.fork.mark
    (ap (λ (d : Config). set.contains d.born c.in_ok-fork.fork.mark) c.self.view_is ∙ fork-new c.args.self.now c.args.e.now _ c.in_ok-fork.ensures)

abbrev both : goal.After-put-3 → NameMap Atom → NameMap Atom
both c x = map.insert (map.insert x c.in_ok-fork.fork.mark c.in_ok-fork.fork.comes) c.args.e.now.actor c.in_ok-fork.fork.stays

atoms : (c : goal.After-put-3) → c.put-2.new.self.items ≡ both c c.self.inside.atoms.items
atoms c =
    let f = c.in_ok-fork.fork in
    c.put-2.ensures.items
    ∙ ap (λ (x : NameMap Atom). map.insert x c.args.e.now.actor f.stays)
    (c.put.ensures.items ∙ ap (λ (x : NameMap Atom). map.insert x f.mark f.comes) c.in_ok-file_two.ensures.atoms)

members : (c : goal.After-put-3) → c.put-3.new.self.members ≡ set.insert c.self.inside.born.members c.in_ok-fork.fork.mark
members c = c.put-3.ensures.members ∙ ap (λ (x : NameSet). set.insert x c.in_ok-fork.fork.mark) c.in_ok-file_two.ensures.born

pub invariant_of-self-2 : goal.invariant_of-self-2
invariant_of-self-2 c =
    let s = steps-of as_par fork_more c.args.self.now c.args.e.now _ c.in_ok-fork.ensures in
    let f = c.in_ok-fork.fork in
    let there : map.get c.self.inside.atoms.items c.args.e.now.actor ≡ Some s.atom = ap (λ (d : Config). map.get d.atoms c.args.e.now.actor) c.self.view_is ∙ s.there in
    kept-equal (kept-more c.self.invariant c.args.e.now.actor f.mark s.atom f.stays f.comes there) c.in_ok-file_two.ensures.ok (atoms c) (members c)

pub returns : goal.returns
returns c =
    row-gives _ _ (forked c.args.self.now c.args.e.now) c.in_ok-fork.ensures
    ∙ ap Some (sym
    (remade {c = the_view c.self.inside} (atoms c ∙ ap (λ (d : Config). both c d.atoms) c.self.view_is)
    (members c ∙ ap (λ (d : Config). set.insert d.born c.in_ok-fork.fork.mark) c.self.view_is)
    c.self.view_is))
