-- The table of the modes that are built, and the words of the options (docs/COMMANDS.md, "Reports and refusals").
use Rattle.std.specs.Prelude.{ℕ, Bool, true, false, ◌&&◌, nat_le, nat_lt, if◌then◌else◌, List, [], ◌∷◌, length, codes, find, Option, Some}
use Rattle.std.specs.Prelude.{None}
use Rattle.std.specs.Char.{is_ascii_digit}
use Rattle.std.specs.List.{list_all}
use Rattle.std.specs.Str.{bytes_eq}
use Rattle.std.specs.Str.Parse.{digits_value}
use Rattle.np_words.specs.declared.modes.Mode.{Mode}
use Rattle.np_words.specs.declared.modes.Mode.TheVariants as mode
use Rattle.np_words.specs.declared.modes.Options.{Options}
use Rattle.np_words.specs.declared.modes.Entry.{Entry}
use Rattle.np_words.specs.declared.modes.Links.{Links}
use Rattle.np_words.specs.declared.modes.Links.TheVariants as links
use Rattle.np_words.specs.declared.modes.Infrastructure.{Infrastructure}
use Rattle.np_words.specs.declared.modes.Infrastructure.TheVariants as infrastructures

-- ---- modes

abbrev pub mode_word : Mode → List ℕ
mode_word mode.Run = codes "run"
mode_word mode.High = codes "high"
mode_word mode.Show = codes "show"
mode_word mode.Check = codes "check"
mode_word mode.Low = codes "low"
mode_word mode.Replay = codes "replay"
mode_word mode.Past = codes "past"
mode_word mode.Resume = codes "resume"
mode_word mode.Upgrade = codes "upgrade"
mode_word mode.Gen = codes "gen"
mode_word mode.Load = codes "load"

abbrev pub no_options : Options
no_options =
    record {
      budget = false;
      history = false;
      high = false;
      serial = false;
      links = false;
      infrastructure = false;
      line = false;
      one = false;
    }

abbrev pub run_options : Options
run_options =
    record no_options { budget = true; history = true; high = true; serial = true; links = true; infrastructure = true; one = true }

abbrev pub high_options : Options
high_options = record no_options { budget = true; history = true; one = true }

-- of the modes that make or follow the low program alone
abbrev pub low_options : Options
low_options = record no_options { infrastructure = true }

abbrev pub past_options : Options
past_options = record no_options { infrastructure = true; line = true }

abbrev pub resume_options : Options
resume_options = record no_options { budget = true; history = true; high = true; serial = true; links = true; infrastructure = true }

abbrev pub load_options : Options
load_options = record no_options { serial = true; links = true; infrastructure = true }

-- a mode that has no SECOND
abbrev pub alone : Mode → Options → Entry
alone m options = record { mode = m; second = false; options = options }

-- each mode that is built, whether it has a SECOND, and the options that may stand behind FILE
abbrev pub modes : List Entry
modes =
    alone mode.Run run_options ∷ alone mode.High high_options
    ∷ alone mode.Show no_options ∷ alone mode.Check no_options ∷ alone mode.Low low_options
    ∷ record { mode = mode.Replay; second = true; options = low_options }
    ∷ record { mode = mode.Past; second = true; options = past_options }
    ∷ record { mode = mode.Resume; second = true; options = resume_options }
    ∷ alone mode.Upgrade no_options ∷ alone mode.Gen no_options ∷ alone mode.Load load_options ∷ []

abbrev pub entry_of : List ℕ → Option Entry
entry_of word = find (λ (entry : Entry). bytes_eq (mode_word entry.mode) word) modes

-- ---- numbers

-- one to so many digits
abbrev pub is_numeral : ℕ → List ℕ → Bool
is_numeral digits word = nat_lt 0 (length word) && nat_le (length word) digits && list_all is_ascii_digit word

abbrev pub within : ℕ → ℕ → Option ℕ
within most n = if nat_le 1 n && nat_le n most then Some n else None

-- the number of a numeral of at most so many digits, from 1 to this
abbrev pub number_of : ℕ → ℕ → List ℕ → Option ℕ
number_of digits most word = if is_numeral digits word then within most (digits_value 10 word) else None

-- ---- links

abbrev pub links_word : Links → List ℕ
links_word links.Tray = codes "tray"
links_word links.Rings = codes "rings"
links_word links.Inbox = codes "inbox"

-- the kinds that are built
abbrev pub kinds : List Links
kinds = links.Tray ∷ links.Rings ∷ links.Inbox ∷ []

abbrev pub links_of : List ℕ → Option Links
links_of word = find (λ kind. bytes_eq (links_word kind) word) kinds

-- ---- infrastructures

abbrev pub infrastructure_word : Infrastructure → List ℕ
infrastructure_word infrastructures.Central = codes "central"
infrastructure_word infrastructures.Cache = codes "cache"

-- those that are built
abbrev pub all_infrastructures : List Infrastructure
all_infrastructures = infrastructures.Central ∷ infrastructures.Cache ∷ []

abbrev pub infrastructure_of : List ℕ → Option Infrastructure
infrastructure_of word = find (λ infrastructure. bytes_eq (infrastructure_word infrastructure) word) all_infrastructures
