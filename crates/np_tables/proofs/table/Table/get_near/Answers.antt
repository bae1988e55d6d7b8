use Rattle.std.proofs.Common.{◌≡◌, Some, sym, subst, ◌∙◌}
use Rattle.np_syntax.specs.declared.value.Name.{Name}
use Rattle.np_tables.proofs.Tables.{same_name-is}
use Rattle.np_tables.proofs.Keyed.{get-found, found, alike-same}
use Rattle.np_tables.proofs.table.Table.get_near.Goals as goal

pub returns-in-Some : goal.returns-in-Some
returns-in-Some g c =
    let es = c.self.inside.entries.entries in
    let is : c.in-Some.near.now ≡ c.args.key = same_name-is c.in-Some.near.now c.args.key (sym (alike-same c.in-Some.near.now c.args.key) ∙ sym c.if-eq.ensures) in
    rw (← c.self.view_is) (subst (λ (k : Name). Some c.in-Some.value.now ≡ found es k) is (sym c.in-Some.ensures.value) ∙ sym (get-found es c.args.key))
