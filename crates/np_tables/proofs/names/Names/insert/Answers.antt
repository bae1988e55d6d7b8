use Rattle.std.proofs.Common.{is_some, ap, ◌∙◌}
use Rattle.std.specs.Map.{keys_of}
use Rattle.np_tables.proofs.Members.{put_keys, contains-listed, listed-found}
use Rattle.np_tables.proofs.names.Names.insert.Goals as goal
use Rattle.np_tables.proofs.names.Names.insert.Goals.{in-Ok, in-Err}

pub returns-clause-ok : goal.returns-clause-ok
returns-clause-ok c = elim c.match-insert.branch [
  | in-Ok w ↦ rw (w.result-is, ← c.self.view_is) (put_keys c.self.inside.names.entries _ c.args.name tt w.in-Ok.ensures.updates.0)
  | in-Err w ↦ rw w.result-is tt
]

pub returns-clause-absent : goal.returns-clause-absent
returns-clause-absent c = elim c.match-insert.branch [
  | in-Ok w ↦ rw w.result-is tt
  | in-Err w ↦
      let es = c.self.inside.names.entries in
      rw (w.result-is, ← c.self.view_is) (contains-listed (keys_of es) c.args.name ∙ listed-found es c.args.name ∙ ap is_some w.in-Err.ensures.absent)
]
