use Rattle.std.proofs.Common.{◌≡◌, ◌++◌, false, map, drop}
use Rattle.history_text.specs.Spelling.{event_line, text_of}
use Rattle.history_text.proofs.write.put_lines.Given as goal

abbrev pub invariant-loop-event : goal.invariant-loop-event
invariant-loop-event l = l.text.failed ≡ false → (l.initial.text.failed ≡ false)
    × (l.text.text ++ text_of (map (event_line l.fn.format) (drop l.event-index l.events)) ≡ l.initial.text.text ++ text_of (map (event_line l.fn.format) l.events))
