-- The log of a run, as ShiViz reads it (docs/PICTURES.md, "Logs").
use Rattle.std.specs.Prelude.{ℕ, ◌+◌, nat_eq, if◌then◌else◌, List, [], ◌∷◌, ◌++◌, codes, decimal, length, Option, None, Some, slice_get}
use Rattle.np_syntax.specs.declared.event.Event.{Event}
use Rattle.history_text.specs.Spelling.{kind_word, role_word}
use Rattle.run_pictures.specs.declared.step.Step.{Step}
use Rattle.shiviz_log.specs.Clocks.{Known, after, at_first, clock_of}

abbrev pub found : Option (List ℕ) → List ℕ
found None = codes "?"
found (Some name) = name

-- the name of a site
abbrev pub site_name : List (List ℕ) → ℕ → List ℕ
site_name sites site = found (slice_get sites site)

-- the expression by which ShiViz finds site, clock and event; the empty line behind it says that the log has one run
abbrev pub first_lines : List ℕ
first_lines = codes "(?<host>\\S*) (?<clock>{.*})\\n(?<event>.*)\n\n"

abbrev pub comma_behind : List ℕ → List ℕ
comma_behind text = if nat_eq (length text) 0 then [] else codes ","

-- the count of a site, if it is not 0, behind those of others
abbrev pub with_count : List ℕ → List ℕ → ℕ → List ℕ
with_count text name n =
    if nat_eq n 0 then text else text ++ comma_behind text ++ codes "\"" ++ name ++ codes "\":" ++ decimal n

-- the counts of the sites from this one on, behind those of others
abbrev pub counts_from : List (List ℕ) → List ℕ → ℕ → List ℕ → List ℕ
counts_from sites text site [] = text
counts_from sites text site (n ∷ ns) = counts_from sites (with_count text (site_name sites site) n) (site + 1) ns

abbrev pub clock_text : List (List ℕ) → List ℕ → List ℕ
clock_text sites clock = counts_from sites [] 0 clock

abbrev pub event_words : Event → List ℕ
event_words e = kind_word e.kind ++ codes ", node " ++ decimal e.tag.node ++ codes ", " ++ role_word e.tag.role

-- an event of the log: its site with a clock, and what it is
abbrev pub entry : List (List ℕ) → Step → List ℕ → List ℕ
entry sites step clock =
    site_name sites step.event.site ++ codes " {" ++ clock_text sites clock ++ codes "}\n" ++ event_words step.event ++ codes "\n"

-- the entries of steps, each with its clock, in their order
abbrev pub entries : List (List ℕ) → Known → List Step → List ℕ
entries sites k [] = []
entries sites k (step ∷ steps) = entry sites step (clock_of k step) ++ entries sites (after k step) steps

abbrev pub log : List (List ℕ) → List Step → List ℕ
log sites steps = first_lines ++ entries sites (at_first (length sites)) steps
