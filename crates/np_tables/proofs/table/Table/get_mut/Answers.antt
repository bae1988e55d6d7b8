use Rattle.std.proofs.Common.{sym, ap, ◌∙◌}
use Rattle.std.specs.Option.{option_copied_mut}
use Rattle.indexmap.specs.IndexMap as indexed
use Rattle.np_tables.specs.Stored.{map_of}
use Rattle.np_tables.proofs.Keyed.{get-found, write_found}
use Rattle.np_tables.proofs.Lendings.{same_lent, stored, same_stored}
use Rattle.np_tables.proofs.table.Table.get_mut.Goals as goal

pub returns : goal.returns
returns g c =
    let es = c.self.inside.entries.entries in
    rw (← c.self.view_is) (
      same_lent c.get_mut.result _ _ _ _
          (λ x e w.
          let h = c.get_mut.follows.holds w in
          same_stored _ _ _ _ _ _ (write_found es _ c.args.key w x.now (ap option_copied_mut (sym e) ∙ c.get_mut.ensures.value) (λ there. (h.3 there).0)) h.6 h.1)
          (λ i. let m = c.get_mut.follows.holds-at-none i in stored (map_of m.entries) (indexed.spare m) (indexed.keys m)),
      record { writes_back = tt; value = c.get_mut.ensures.value ∙ sym (get-found es c.args.key) },
    )
