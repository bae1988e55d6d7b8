-- The format in which the histories of an infrastructure are written (docs/HISTORIES.md, "History text").
use Rattle.history_text.specs.declared.format.Format.{Format}
use Rattle.history_text.specs.declared.format.Format.TheVariants.{First, Second}
use Rattle.np_words.specs.declared.modes.Infrastructure.{Infrastructure}
use Rattle.np_words.specs.declared.modes.Infrastructure.TheVariants.{Cache, Central}

-- Histories are written in the second format, but those of an infrastructure with caches: what the ninth field tells of an event of the
-- high level is so without caches alone.
abbrev pub format_for : Infrastructure → Format
format_for Central = Second
format_for Cache = First
