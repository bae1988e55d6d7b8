-- What is left on the links of a run that is ours, and what stands first there (docs/SCHEDULES.md, "What is drawn").
use Rattle.std.specs.Prelude.{ℕ, List, length, drop, Option, slice_get}
use Rattle.indexmap.specs.IndexMap as index_map
use Rattle.np_syntax.specs.Options.{◌>>=◌}
use Rattle.np_syntax.specs.declared.event.Event.{Event}
use Rattle.run_save.specs.declared.trips.Item.{Item}
use Rattle.run_save.specs.declared.trips.Link.{Link}
use Rattle.run_save.specs.declared.notes.Links.{Links}
use Rattle.run_save.specs.declared.notes.Notes.{Notes}
use Rattle.run_save.specs.Notes.{count_of, waiting}
use Rattle.run_save.specs.Ours.{names_by}
use Rattle.run_save.specs.Travels.{Travels, on_link, same_item, sender}

-- what was put on a link and not taken, where what is first in is first out
abbrev pub left_on : Travels → Link → List Item
left_on t l = drop (length (on_link l t.taken)) (on_link l t.put)

abbrev pub link : ℕ → ℕ → Link
link from to = record { from = from; to = to }

-- what is first on the link on which the item was put last, to this site
abbrev pub first_beside : Travels → Item → ℕ → Option Item
first_beside t x to = sender t.put x >>= λ from. slice_get (left_on t (link from to)) 0

-- how many names a site has made
abbrev pub names_made : List Event → ℕ → ℕ
names_made events s = length (names_by s events)

-- ---- the same, as it is noted

abbrev pub link_first : Links → Item → ℕ → Option Item
link_first links x to = index_map.get same_item links.senders x >>= λ from. slice_get (waiting links.queues (link from to)) 0

abbrev pub noted_first : Notes → Item → ℕ → Option Item
noted_first notes x to = link_first notes.links x to

abbrev pub noted_count : Notes → ℕ → ℕ
noted_count notes s = count_of notes.made s
