use Rattle.std.proofs.Common.{refl, sym, subst}
use Rattle.indexmap.proofs.CallerLemmas.{keys-with_value_at}
use Rattle.np_tables.specs.Stored.{Stored}
use Rattle.np_tables.specs.Lent.{IsPlace}
use Rattle.np_tables.proofs.Lendings.{place_within, set_at, value_at, same_stored}
use Rattle.np_tables.proofs.table.Table.value_at.Goals as goal

pub index_mut-requires : goal.index_mut-requires
index_mut-requires g c =
    place_within c.self.inside.entries.entries c.args.key c.args.index (subst (λ (s : Stored g.row.V.Denot). IsPlace s.keys c.args.key c.args.index) (sym c.self.view_is) c.requires)

pub returns : goal.returns
returns g c =
    let es = c.self.inside.entries.entries in
    let place = subst (λ (s : Stored g.row.V.Denot). IsPlace s.keys c.args.key c.args.index) (sym c.self.view_is) c.requires in
    rw (← c.self.view_is) (
      (refl, λ w. same_stored _ _ _ _ _ _ (set_at es c.args.key c.args.index place w) refl (keys-with_value_at c.self.inside.entries c.args.index w)),
      record { writes_back = tt; value = value_at es c.args.key c.args.index place c.index_mut.result.now c.index_mut.ensures.value },
    )
