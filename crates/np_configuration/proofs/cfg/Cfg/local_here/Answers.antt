use Rattle.std.proofs.Common.{◌≡◌, Some, rules, sym, ap, ◌∙◌}
use Rattle.std.specs.FinMap as map
use Rattle.std.specs.FinSet as set
use Rattle.np_configuration.proofs.Common.{NameMap, NameSet, the_view, Atom, Config, output_in}
use Rattle.np_configuration.proofs.Keeping.{kept-absent, kept-more}
use Rattle.np_configuration.proofs.Moved.{kept-equal, remade}
use Rattle.np_calculus.specs.Reductions.{one_made}
use Rattle.np_calculus.specs.Seen.{fresh}
use Rattle.np_configuration.proofs.cfg.Cfg.local_here.Goals as goal

pub file_two-requires : goal.file_two-requires
file_two-requires c = kept-absent c.self.invariant c.in_ok-mark.mark (search rules)

abbrev both : goal.After-put-3 → Atom → NameMap Atom → NameMap Atom
both c made x = map.insert (map.insert x c.in_ok-mark.mark made) c.args.e.now.actor c.args.asked.next

atoms : (c : goal.After-put-3) → c.put-2.new.self.items ≡ both c c.in_ok-made.made c.self.inside.atoms.items
atoms c =
    c.put-2.ensures.items
    ∙ ap (λ (x : NameMap Atom). map.insert x c.args.e.now.actor c.args.asked.next)
    (c.put.ensures.items ∙ ap (λ (x : NameMap Atom). map.insert x c.in_ok-mark.mark c.in_ok-made.made) c.in_ok-file_two.ensures.atoms)

members : (c : goal.After-put-3) → c.put-3.new.self.members ≡ set.insert c.self.inside.born.members c.in_ok-mark.mark
members c = c.put-3.ensures.members ∙ ap (λ (s : NameSet). set.insert s c.in_ok-mark.mark) c.in_ok-file_two.ensures.born

pub invariant_of-self-2 : goal.invariant_of-self-2
invariant_of-self-2 c =
    let there : map.get c.self.inside.atoms.items c.args.e.now.actor ≡ Some c.requires.atom =
    ap (λ (d : Config). map.get d.atoms c.args.e.now.actor) c.self.view_is ∙ c.requires.there in
    kept-equal (kept-more c.self.invariant c.args.e.now.actor c.in_ok-mark.mark c.requires.atom c.args.asked.next c.in_ok-made.made there)
    c.in_ok-file_two.ensures.ok (atoms c) (members c)

pub returns : goal.returns
returns c =
    let made : one_made c.args.e.now.made ≡ Some c.in_ok-mark.mark = search rules in
    let new : fresh c.args.self.now c.in_ok-mark.mark ≡ Some tt = search rules in
    let output : Atom = output_in c.args.asked.agent c.args.asked.chan c.args.asked.value c.args.e.now.tag in
    rw (c.requires.gives, made, new)
    (ap Some (sym
    (remade {c = the_view c.self.inside}
    (atoms c ∙ ap (λ (x : Atom). both c x c.self.inside.atoms.items) c.in_ok-made.ensures ∙ ap (λ (d : Config). both c output d.atoms) c.self.view_is)
    (members c ∙ ap (λ (d : Config). set.insert d.born c.in_ok-mark.mark) c.self.view_is)
    c.self.view_is)))
