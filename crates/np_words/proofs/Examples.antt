-- What some words ask for.
use Rattle.std.proofs.Common.{◌≡◌, ℕ, false, true, List, [], ◌∷◌, Option, None, Some, codes, refl}
use Rattle.clap.proofs.OnLiterals.{clap_on_literals}
use Rattle.np_words.specs.Arguments.{command, taken}
use Rattle.np_words.specs.Plans.{plan}
use Rattle.np_words.specs.declared.modes.HighText.{HighText}
use Rattle.np_words.specs.declared.modes.HighText.TheVariants.{Absent, TwoSteps, OneStep}
use Rattle.np_words.specs.declared.modes.Infrastructure.TheVariants.{Cache, Central}
use Rattle.np_words.specs.declared.modes.Links.TheVariants.{Tray, Rings, Inbox}
use Rattle.np_words.specs.declared.planning.Plan.{Plan}
use Rattle.np_words.specs.declared.planning.Plan.TheVariants.{Source, Replay, Resume, Upgrade, Generate, Load}
use Rattle.np_words.specs.declared.planning.View.TheVariants.{Said, Past}
use Rattle.np_words.specs.declared.planning.Task.TheVariants.{Run, High, Low, Show}

abbrev runs : List ℕ → ℕ → Option Plan
runs file budget = Some (Source file (Run budget false Absent false Rings Central))

abbrev runs_high : List ℕ → ℕ → HighText → Option Plan
runs_high file budget history = Some (Source file (High budget history))

abbrev a : List ℕ
a = codes "a"

abbrev budget : List ℕ
budget = codes "--budget"

-- ---- words with a plan

run_file : plan (codes "run" ∷ a ∷ []) ≡ runs a 10000
unfolding plan taken command clap_on_literals
run_file = refl

show_file : plan (codes "show" ∷ a ∷ []) ≡ Some (Source a Show)
unfolding plan taken command clap_on_literals
show_file = refl

with_budget : plan (codes "high" ∷ a ∷ budget ∷ codes "007" ∷ []) ≡ runs_high a 7 Absent
unfolding plan taken command clap_on_literals
with_budget = refl

largest : plan (codes "run" ∷ a ∷ budget ∷ codes "200000" ∷ []) ≡ runs a 200000
unfolding plan taken command clap_on_literals
largest = refl

option_first : plan (codes "--budget=5" ∷ codes "run" ∷ codes "--" ∷ codes "--history" ∷ []) ≡ runs (codes "--history") 5
unfolding plan taken command clap_on_literals
option_first = refl

option_between : plan (codes "run" ∷ budget ∷ codes "5" ∷ a ∷ []) ≡ runs a 5
unfolding plan taken command clap_on_literals
option_between = refl

history_of_high : plan (codes "high" ∷ a ∷ codes "--history" ∷ []) ≡ runs_high a 10000 TwoSteps
unfolding plan taken command clap_on_literals
history_of_high = refl

replay_two : plan (codes "replay" ∷ a ∷ codes "b" ∷ []) ≡ Some (Replay a (codes "b") Central Said)
unfolding plan taken command clap_on_literals
replay_two = refl

one_step_of_high : plan (codes "high" ∷ a ∷ codes "--history" ∷ codes "--one" ∷ []) ≡ runs_high a 10000 OneStep
unfolding plan taken command clap_on_literals
one_step_of_high = refl

one_step_of_run : plan (codes "run" ∷ a ∷ codes "--one" ∷ codes "--high" ∷ []) ≡ Some (Source a (Run 10000 false OneStep false Rings Central))
unfolding plan taken command clap_on_literals
one_step_of_run = refl

past_first : plan (codes "past" ∷ a ∷ codes "b" ∷ []) ≡ Some (Replay a (codes "b") Central (Past 1))
unfolding plan taken command clap_on_literals
past_first = refl

last_line : plan (codes "past" ∷ a ∷ codes "b" ∷ codes "--line" ∷ codes "6400000" ∷ []) ≡ Some (Replay a (codes "b") Central (Past 6400000))
unfolding plan taken command clap_on_literals
last_line = refl

low_central : plan (codes "low" ∷ a ∷ []) ≡ Some (Source a (Low Central))
unfolding plan taken command clap_on_literals
low_central = refl

low_of_caches : plan (codes "low" ∷ a ∷ codes "--infra" ∷ codes "cache" ∷ []) ≡ Some (Source a (Low Cache))
unfolding plan taken command clap_on_literals
low_of_caches = refl

replay_of_caches : plan (codes "replay" ∷ a ∷ codes "b" ∷ codes "--infra=cache" ∷ []) ≡ Some (Replay a (codes "b") Cache Said)
unfolding plan taken command clap_on_literals
replay_of_caches = refl

past_of_caches : plan (codes "past" ∷ a ∷ codes "b" ∷ codes "--line=2" ∷ codes "--infra=cache" ∷ []) ≡ Some (Replay a (codes "b") Cache (Past 2))
unfolding plan taken command clap_on_literals
past_of_caches = refl

resume_two : plan (codes "resume" ∷ a ∷ codes "b" ∷ []) ≡ Some (Resume a (codes "b") 10000 false false false Rings Central)
unfolding plan taken command clap_on_literals
resume_two = refl

resume_all : plan (codes "resume" ∷ a ∷ codes "b" ∷ budget ∷ codes "5" ∷ codes "--history" ∷ codes "--high" ∷ codes "--serial" ∷ codes "--links=inbox" ∷ [])
    ≡ Some (Resume a (codes "b") 5 true true true Inbox Central)
unfolding plan taken command clap_on_literals
resume_all = refl

run_of_caches : plan (codes "run" ∷ a ∷ codes "--infra=cache" ∷ []) ≡ Some (Source a (Run 10000 false Absent false Rings Cache))
unfolding plan taken command clap_on_literals
run_of_caches = refl

resume_of_caches : plan (codes "resume" ∷ a ∷ codes "b" ∷ codes "--infra" ∷ codes "cache" ∷ []) ≡ Some (Resume a (codes "b") 10000 false false false Rings Cache)
unfolding plan taken command clap_on_literals
resume_of_caches = refl

load_of_caches : plan (codes "load" ∷ codes "1" ∷ codes "--infra=cache" ∷ []) ≡ Some (Load 1 false Rings Cache)
unfolding plan taken command clap_on_literals
load_of_caches = refl

upgrade_one : plan (codes "upgrade" ∷ a ∷ []) ≡ Some (Upgrade a)
unfolding plan taken command clap_on_literals
upgrade_one = refl

history_of_run : plan (codes "run" ∷ a ∷ codes "--history" ∷ codes "--high" ∷ []) ≡ Some (Source a (Run 10000 true TwoSteps false Rings Central))
unfolding plan taken command clap_on_literals
history_of_run = refl

links_of_run : plan (codes "run" ∷ a ∷ codes "--links" ∷ codes "tray" ∷ codes "--serial" ∷ []) ≡ Some (Source a (Run 10000 false Absent true Tray Central))
unfolding plan taken command clap_on_literals
links_of_run = refl

inbox_of_run : plan (codes "run" ∷ a ∷ codes "--links" ∷ codes "inbox" ∷ []) ≡ Some (Source a (Run 10000 false Absent false Inbox Central))
unfolding plan taken command clap_on_literals
inbox_of_run = refl

load_one : plan (codes "load" ∷ codes "1" ∷ []) ≡ Some (Load 1 false Rings Central)
unfolding plan taken command clap_on_literals
load_one = refl

load_serial : plan (codes "load" ∷ codes "100" ∷ codes "--serial" ∷ codes "--links=tray" ∷ []) ≡ Some (Load 100 true Tray Central)
unfolding plan taken command clap_on_literals
load_serial = refl

most_agents : plan (codes "gen" ∷ codes "100" ∷ []) ≡ Some (Generate 100)
unfolding plan taken command clap_on_literals
most_agents = refl

-- ---- words without one

nothing : plan [] ≡ None
unfolding plan taken command clap_on_literals
nothing = refl

no_file : plan (codes "run" ∷ []) ≡ None
unfolding plan taken command clap_on_literals
no_file = refl

further_word : plan (codes "run" ∷ a ∷ a ∷ []) ≡ None
unfolding plan taken command clap_on_literals
further_word = refl

fourth_word : plan (codes "run" ∷ a ∷ a ∷ a ∷ []) ≡ None
unfolding plan taken command clap_on_literals
fourth_word = refl

other_mode : plan (codes "prove" ∷ a ∷ codes "b" ∷ []) ≡ None
unfolding plan taken command clap_on_literals
other_mode = refl

no_second : plan (codes "replay" ∷ a ∷ []) ≡ None
unfolding plan taken command clap_on_literals
no_second = refl

no_saved : plan (codes "resume" ∷ a ∷ []) ≡ None
unfolding plan taken command clap_on_literals
no_saved = refl

second_of_upgrade : plan (codes "upgrade" ∷ a ∷ a ∷ []) ≡ None
unfolding plan taken command clap_on_literals
second_of_upgrade = refl

many_agents : plan (codes "gen" ∷ codes "101" ∷ []) ≡ None
unfolding plan taken command clap_on_literals
many_agents = refl

no_number : plan (codes "gen" ∷ a ∷ []) ≡ None
unfolding plan taken command clap_on_literals
no_number = refl

zero_budget : plan (codes "run" ∷ a ∷ budget ∷ codes "0" ∷ []) ≡ None
unfolding plan taken command clap_on_literals
zero_budget = refl

large_budget : plan (codes "run" ∷ a ∷ budget ∷ codes "200001" ∷ []) ≡ None
unfolding plan taken command clap_on_literals
large_budget = refl

long_budget : plan (codes "run" ∷ a ∷ budget ∷ codes "0000001" ∷ []) ≡ None
unfolding plan taken command clap_on_literals
long_budget = refl

signed_budget : plan (codes "run" ∷ a ∷ codes "--budget=+5" ∷ []) ≡ None
unfolding plan taken command clap_on_literals
signed_budget = refl

no_value : plan (codes "run" ∷ a ∷ budget ∷ []) ≡ None
unfolding plan taken command clap_on_literals
no_value = refl

option_twice : plan (codes "run" ∷ a ∷ budget ∷ codes "5" ∷ budget ∷ codes "5" ∷ []) ≡ None
unfolding plan taken command clap_on_literals
option_twice = refl

budget_of_show : plan (codes "show" ∷ a ∷ budget ∷ codes "5" ∷ []) ≡ None
unfolding plan taken command clap_on_literals
budget_of_show = refl

-- options that the mode does not have
serial_check : plan (codes "check" ∷ a ∷ codes "--serial" ∷ []) ≡ None
unfolding plan taken command clap_on_literals
serial_check = refl

budget_of_load : plan (codes "load" ∷ codes "1" ∷ budget ∷ codes "5" ∷ []) ≡ None
unfolding plan taken command clap_on_literals
budget_of_load = refl

many_loaded : plan (codes "load" ∷ codes "101" ∷ []) ≡ None
unfolding plan taken command clap_on_literals
many_loaded = refl

-- `--one` where the events of the high level are not asked for
one_alone : plan (codes "run" ∷ a ∷ codes "--one" ∷ []) ≡ None
unfolding plan taken command clap_on_literals
one_alone = refl

one_of_history : plan (codes "run" ∷ a ∷ codes "--history" ∷ codes "--one" ∷ []) ≡ None
unfolding plan taken command clap_on_literals
one_of_history = refl

one_of_resume : plan (codes "resume" ∷ a ∷ codes "b" ∷ codes "--high" ∷ codes "--one" ∷ []) ≡ None
unfolding plan taken command clap_on_literals
one_of_resume = refl

line_of_replay : plan (codes "replay" ∷ a ∷ codes "b" ∷ codes "--line" ∷ codes "1" ∷ []) ≡ None
unfolding plan taken command clap_on_literals
line_of_replay = refl

zero_line : plan (codes "past" ∷ a ∷ codes "b" ∷ codes "--line=0" ∷ []) ≡ None
unfolding plan taken command clap_on_literals
zero_line = refl

large_line : plan (codes "past" ∷ a ∷ codes "b" ∷ codes "--line=6400001" ∷ []) ≡ None
unfolding plan taken command clap_on_literals
large_line = refl

long_line : plan (codes "past" ∷ a ∷ codes "b" ∷ codes "--line=00000001" ∷ []) ≡ None
unfolding plan taken command clap_on_literals
long_line = refl

-- no kind of links
other_links : plan (codes "run" ∷ a ∷ codes "--links" ∷ codes "ring" ∷ []) ≡ None
unfolding plan taken command clap_on_literals
other_links = refl

-- no infrastructure, and a mode that has no choice of it
other_infrastructure : plan (codes "low" ∷ a ∷ codes "--infra" ∷ codes "caches" ∷ []) ≡ None
unfolding plan taken command clap_on_literals
other_infrastructure = refl

other_infrastructure_of_run : plan (codes "run" ∷ a ∷ codes "--infra" ∷ codes "caches" ∷ []) ≡ None
unfolding plan taken command clap_on_literals
other_infrastructure_of_run = refl

infrastructure_of_high : plan (codes "high" ∷ a ∷ codes "--infra" ∷ codes "central" ∷ []) ≡ None
unfolding plan taken command clap_on_literals
infrastructure_of_high = refl

unknown_option : plan (codes "run" ∷ a ∷ codes "--fast" ∷ []) ≡ None
unfolding plan taken command clap_on_literals
unknown_option = refl

help_option : plan (codes "run" ∷ a ∷ codes "--help" ∷ []) ≡ None
unfolding plan taken command clap_on_literals
help_option = refl

short_help : plan (codes "run" ∷ a ∷ codes "-h" ∷ []) ≡ None
unfolding plan taken command clap_on_literals
short_help = refl

help_word : plan (codes "help" ∷ a ∷ []) ≡ None
unfolding plan taken command clap_on_literals
help_word = refl
