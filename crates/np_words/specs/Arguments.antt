-- The words of the command line as one simple command (docs/COMMANDS.md, "Reports and refusals"): its arguments, and what the words
-- give for each. The definitions of clap say which words are taken.
use Rattle.std.specs.Prelude.{Bool, true, false, List, [], ◌∷◌, ◌++◌, codes, Option, Some, None, option_map, if◌then◌else◌}
use Rattle.std.specs.Str.{bytes_eq}
use Rattle.clap.specs.Words.{App, Kinds, Row, Rule, Text, fault_of, first_of, matches_of, new_app, new_rule, with_rule}
use Rattle.clap.specs.declared.builder.ArgAction.TheVariants.{SetTrue}
use Rattle.np_words.specs.declared.arguments.Given.{Given as Held}

-- ---- the command

-- a word that has to stand there, in its place
abbrev pub operand : Text → Rule
operand id = record (new_rule id) { required = true }

-- a word that may stand there, in its place
abbrev pub further : Text → Rule
further id = new_rule id

-- `--id VALUE`
abbrev pub valued : Text → Rule
valued id = record (new_rule id) { long = Some id }

-- `--id`
abbrev pub flag : Text → Rule
flag id = record (new_rule id) { long = Some id; action = Some SetTrue }

-- the mode and the files
abbrev pub operands : List Rule
operands = operand (codes "mode") ∷ operand (codes "file") ∷ further (codes "second") ∷ []

-- how a run is made, and what is written of it
abbrev pub run_options : List Rule
run_options =
    valued (codes "budget") ∷ flag (codes "history") ∷ flag (codes "high") ∷ flag (codes "serial") ∷ valued (codes "links")
    ∷ valued (codes "infra") ∷ []

-- how a run is looked at
abbrev pub view_options : List Rule
view_options = valued (codes "line") ∷ flag (codes "one") ∷ []

-- these rules, each behind those before
abbrev pub with_rules : App → List Rule → App
with_rules app [] = app
with_rules app (rule ∷ rules) = with_rules (with_rule app rule) rules

-- the words leave out the program's name
abbrev pub start : App
start = record { top = record (new_app (codes "np")).top { no_binary_name = true }; subs = [] }

unfoldable pub command : App
command = record { top = record start.top { rules = operands ++ run_options ++ view_options }; subs = [] }

-- ---- what the words give

-- what stands for each argument
pub record Given : Type 0 where
  pub mode : Option Text
  pub file : Option Text
  pub second : Option Text
  pub budget : Option Text
  pub history : Bool
  pub high : Bool
  pub serial : Bool
  pub links : Option Text
  pub infrastructure : Option Text
  pub line : Option Text
  pub one : Bool

-- whether a flag was given
abbrev pub is_set : Option Text → Bool
is_set None = false
is_set (Some text) = bytes_eq text (codes "true")

-- the words that the code holds
abbrev pub seen : Held → Given
seen held = record {
  mode = option_map (λ text. text.now) held.mode;
  file = option_map (λ text. text.now) held.file;
  second = option_map (λ text. text.now) held.second;
  budget = option_map (λ text. text.now) held.budget;
  history = held.history;
  high = held.high;
  serial = held.serial;
  links = option_map (λ text. text.now) held.links;
  infrastructure = option_map (λ text. text.now) held.infrastructure;
  line = option_map (λ text. text.now) held.line;
  one = held.one;
}

abbrev pub given : List Row → Given
given rows = record {
  mode = first_of (codes "mode") rows;
  file = first_of (codes "file") rows;
  second = first_of (codes "second") rows;
  budget = first_of (codes "budget") rows;
  history = is_set (first_of (codes "history") rows);
  high = is_set (first_of (codes "high") rows);
  serial = is_set (first_of (codes "serial") rows);
  links = first_of (codes "links") rows;
  infrastructure = first_of (codes "infra") rows;
  line = first_of (codes "line") rows;
  one = is_set (first_of (codes "one") rows);
}

abbrev pub has_fault : Kinds → Bool
has_fault [] = false
has_fault (kind ∷ kinds) = true

-- what the words give, where they are taken
unfoldable pub taken : List Text → Option Given
taken words = if has_fault (fault_of command words) then None else Some (given (matches_of command words))
