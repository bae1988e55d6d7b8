use Rattle.np_io.proofs.Places.{replaces, appends}
use Rattle.np_io.proofs.mem_texts.MemTexts.add.Goals as goal
use Rattle.np_io.proofs.mem_texts.MemTexts.add.Goals.{in-Some, in-None+in_ok-push_both-in-None}

pub returns-clause-added : goal.returns-clause-added
returns-clause-added c = elim c.match-place.branch [
  | in-Some w ↦ rw (w.self-inside-is, w.set.ensures, ← c.self.view_is) (replaces _ _ _ _ w.in-Some.ensures)
  | in-None+in_ok-push_both-in-None w ↦
      let pushed = w.in_ok-push_both-in-None.ensures in
      rw (w.self-inside-is, pushed.texts, pushed.counts, ← c.self.view_is) (appends _ _ _ w.in-None.ensures c.self.invariant.counts)
]
