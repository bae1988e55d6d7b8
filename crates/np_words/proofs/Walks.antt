-- How clap walks over words that begin with no hyphen.
use Rattle.std.proofs.Common.{◌≡◌, ◌==◌, ◌∙◌, ap, ap₂, ℕ, false, List, [], ◌∷◌, None, Some, codes, refl}
use Rattle.std.specs.Prelude.{is_some, if◌then◌else◌}
use Rattle.std.specs.Str.{bytes_eq}
use Rattle.clap.specs.Walk.{Held, Rule, Text, Walk, idle, option, option_word, arg_by_id, walk, walked, walk_from, nothing_held, to_positional, arg_by_index, finished, settled}
use Rattle.clap.proofs.SimpleLemmas.{is_false}
use Rattle.clap.specs.Lexer.{long_of, short_of}
use Rattle.clap.specs.Simple.{Shape, built, entered}
use Rattle.clap.specs.Faults.{turn_fault, walk_fault, defaults_fault, step_fault, settle_fault, check_fault, entered_fault}
use Rattle.clap.specs.Walk as step
use Rattle.clap.specs.Kinds.{Kinds, or_else}
use Rattle.np_words.specs.Arguments.{command, given, has_fault, taken}
use Rattle.np_words.specs.Laws.{IsBare, two_words, TakesWords}

-- ---- a word

record IsNoOption (word : Text) : Type 0 where
  dashes : bytes_eq word (45 ∷ 45 ∷ []) ≡ false
  long : long_of word ≡ None
  short : short_of word ≡ None

no_option : (word : Text) → IsBare word → IsNoOption word
no_option [] e = record { dashes = refl; long = refl; short = refl }
no_option (byte ∷ bytes) e =
    let other : (byte == 45) ≡ false = is_false (byte == 45) e in
    record { dashes = rw other refl; long = rw other refl; short = rw other refl }

-- where the walk stands at a word that no option waits for
abbrev at : Held → ℕ → Walk
at held position = record { held = held; waiting = idle; position = position; is_trailing = false; stopped = None }

walked_to : (rules : List Rule) (held : Held) (position : ℕ) (word : Text) → IsNoOption word
    → walked rules [] (at held position) word ≡ to_positional rules (arg_by_index rules position) word (at held position) held
unfolding walked
walked_to rules held position word h = rw (h.dashes, h.long, h.short) refl

faults_at : (s : Shape) (held : Held) (position : ℕ) (word : Text) → IsNoOption word → turn_fault s [] (at held position) word ≡ step_fault s position held step.value
faults_at s held position word h = rw (h.dashes, h.long, h.short) refl

-- ---- the command

top : Shape
unfolding command
top = (built command).top

-- a walk that no word makes at fault gives its rows, where its end is not at fault
abbrev end_fault : Walk → Kinds
end_fault end =
    or_else (entered_fault (built command) end.stopped) (or_else (settle_fault top.rules top.args_override_self end.held)
    (or_else (defaults_fault (settled top.rules end.held).rows top.rules)
    (check_fault top (finished top.rules end.held) (is_some (entered (built command) end.stopped)))))

by_walk : (words : List Text) (end : Walk) → walk_fault top [] (walk_from nothing_held) words ≡ [] → walk top.rules [] nothing_held words ≡ end
    → taken words ≡ (if has_fault (end_fault end) then None else Some (given (finished top.rules end.held)))
unfolding taken top command
by_walk words end f e = rw (f, e) refl

-- ---- MODE, FILE and SECOND

abbrev past : Held → ℕ → Text → Walk
past held position word = to_positional top.rules (arg_by_index top.rules position) word (at held position) held

abbrev behind_mode : Text → Walk
behind_mode mode = past nothing_held 1 mode

abbrev behind_file : Text → Text → Walk
behind_file mode file = past (behind_mode mode).held 2 file

abbrev behind_second : Text → Text → Text → Walk
behind_second mode file second = past (behind_file mode file).held 3 second

two_walked : (mode file : Text) → IsNoOption mode → IsNoOption file → walk top.rules [] nothing_held (mode ∷ file ∷ []) ≡ behind_file mode file
unfolding top command
two_walked mode file m f =
    ap (λ before. walked top.rules [] before file) (walked_to top.rules nothing_held 1 mode m) ∙ walked_to top.rules (behind_mode mode).held 2 file f

two_faults : (mode file : Text) → IsNoOption mode → IsNoOption file → walk_fault top [] (walk_from nothing_held) (mode ∷ file ∷ []) ≡ []
unfolding top command walk_fault
two_faults mode file m f =
    ap₂ or_else (faults_at top nothing_held 1 mode m)
    (ap (λ before. or_else (turn_fault top [] before file) []) (walked_to top.rules nothing_held 1 mode m)
    ∙ ap (λ kinds. or_else kinds []) (faults_at top (behind_mode mode).held 2 file f))

file_end : (mode file : Text) → (if has_fault (end_fault (behind_file mode file)) then None else Some (given (finished top.rules (behind_file mode file).held))) ≡ Some (two_words mode file)
unfolding top command defaults_fault
file_end mode file = refl

pub file_taken : (mode file : Text) → IsBare mode → IsBare file → taken (mode ∷ file ∷ []) ≡ Some (two_words mode file)
file_taken mode file m f =
    by_walk (mode ∷ file ∷ []) (behind_file mode file) (two_faults mode file (no_option mode m) (no_option file f))
    (two_walked mode file (no_option mode m) (no_option file f)) ∙ file_end mode file

three_walked : (mode file second : Text) → IsNoOption mode → IsNoOption file → IsNoOption second
    → walk top.rules [] nothing_held (mode ∷ file ∷ second ∷ []) ≡ behind_second mode file second
unfolding top command
three_walked mode file second m f s =
    ap (λ before. walked top.rules [] before second) (two_walked mode file m f) ∙ walked_to top.rules (behind_file mode file).held 3 second s

three_faults : (mode file second : Text) → IsNoOption mode → IsNoOption file → IsNoOption second
    → walk_fault top [] (walk_from nothing_held) (mode ∷ file ∷ second ∷ []) ≡ []
unfolding top command walk_fault
three_faults mode file second m f s =
    ap₂ or_else (faults_at top nothing_held 1 mode m)
    (ap (λ before. or_else (turn_fault top [] before file) (or_else (turn_fault top [] (walked top.rules [] before file) second) []))
    (walked_to top.rules nothing_held 1 mode m)
    ∙ ap₂ or_else (faults_at top (behind_mode mode).held 2 file f)
    (ap (λ before. or_else (turn_fault top [] before second) []) (walked_to top.rules (behind_mode mode).held 2 file f)
    ∙ ap (λ kinds. or_else kinds []) (faults_at top (behind_file mode file).held 3 second s)))

second_end : (mode file second : Text) → (if has_fault (end_fault (behind_second mode file second)) then None else Some (given (finished top.rules (behind_second mode file second).held)))
    ≡ Some (record (two_words mode file) { second = Some second })
unfolding top command defaults_fault
second_end mode file second = refl

pub second_taken : (mode file second : Text) → IsBare mode → IsBare file → IsBare second
    → taken (mode ∷ file ∷ second ∷ []) ≡ Some (record (two_words mode file) { second = Some second })
second_taken mode file second m f s =
    by_walk (mode ∷ file ∷ second ∷ []) (behind_second mode file second) (three_faults mode file second (no_option mode m) (no_option file f) (no_option second s))
    (three_walked mode file second (no_option mode m) (no_option file f) (no_option second s)) ∙ second_end mode file second

-- ---- `--budget` with a number

-- where the walk stands at a word for which this option waits
abbrev waits : Held → ℕ → Text → Walk
waits held position id = record { held = held; waiting = option id; position = position; is_trailing = false; stopped = None }

abbrev past_value : Held → ℕ → Text → Text → Walk
past_value held position id word =
    let met = option_word (arg_by_id top.rules id) id word held in
    record { held = met.0; waiting = met.1; position = position; is_trailing = false; stopped = None }

value_to : (held : Held) (position : ℕ) (id word : Text) → IsNoOption word → walked top.rules [] (waits held position id) word ≡ past_value held position id word
unfolding walked
value_to held position id word h = rw (h.dashes, h.long, h.short) refl

value_faults : (s : Shape) (held : Held) (position : ℕ) (id word : Text) → IsNoOption word → turn_fault s [] (waits held position id) word ≡ []
value_faults s held position id word h = rw (h.dashes, h.long, h.short) refl

abbrev behind_option : Text → Text → Walk
behind_option mode file = waits (record { rows = (settled top.rules (behind_file mode file).held).rows; pending = Some (codes "budget", []); skip = 0 }) 3 (codes "budget")

option_walked : (mode file : Text) → walked top.rules [] (behind_file mode file) (codes "--budget") ≡ behind_option mode file
unfolding top command walked
option_walked mode file = refl

option_faults : (mode file : Text) → turn_fault top [] (behind_file mode file) (codes "--budget") ≡ []
unfolding top command
option_faults mode file = refl

abbrev behind_budget : Text → Text → Text → Walk
behind_budget mode file number = past_value (behind_option mode file).held 3 (codes "budget") number

four_walked : (mode file number : Text) → IsNoOption mode → IsNoOption file → IsNoOption number
    → walk top.rules [] nothing_held (mode ∷ file ∷ codes "--budget" ∷ number ∷ []) ≡ behind_budget mode file number
four_walked mode file number m f n =
    ap (λ before. walked top.rules [] (walked top.rules [] before (codes "--budget")) number) (two_walked mode file m f)
    ∙ ap (λ before. walked top.rules [] before number) (option_walked mode file)
    ∙ value_to (behind_option mode file).held 3 (codes "budget") number n

four_faults : (mode file number : Text) → IsNoOption mode → IsNoOption file → IsNoOption number
    → walk_fault top [] (walk_from nothing_held) (mode ∷ file ∷ codes "--budget" ∷ number ∷ []) ≡ []
unfolding top command walk_fault
four_faults mode file number m f n =
    ap₂ or_else (faults_at top nothing_held 1 mode m)
    (ap (λ before. or_else (turn_fault top [] before file) (or_else (turn_fault top [] (walked top.rules [] before file) (codes "--budget"))
    (or_else (turn_fault top [] (walked top.rules [] (walked top.rules [] before file) (codes "--budget")) number) [])))
    (walked_to top.rules nothing_held 1 mode m)
    ∙ ap₂ or_else (faults_at top (behind_mode mode).held 2 file f)
    (ap (λ before. or_else (turn_fault top [] before (codes "--budget")) (or_else (turn_fault top [] (walked top.rules [] before (codes "--budget")) number) []))
    (walked_to top.rules (behind_mode mode).held 2 file f)
    ∙ ap₂ or_else (option_faults mode file)
    (ap (λ before. or_else (turn_fault top [] before number) []) (option_walked mode file)
    ∙ ap (λ kinds. or_else kinds []) (value_faults top (behind_option mode file).held 3 (codes "budget") number n))))

budget_end : (mode file number : Text) → (if has_fault (end_fault (behind_budget mode file number)) then None else Some (given (finished top.rules (behind_budget mode file number).held)))
    ≡ Some (record (two_words mode file) { budget = Some number })
unfolding top command defaults_fault
budget_end mode file number = refl

pub budget_taken : (mode file number : Text) → IsBare mode → IsBare file → IsBare number
    → taken (mode ∷ file ∷ codes "--budget" ∷ number ∷ []) ≡ Some (record (two_words mode file) { budget = Some number })
budget_taken mode file number m f n =
    by_walk (mode ∷ file ∷ codes "--budget" ∷ number ∷ []) (behind_budget mode file number)
    (four_faults mode file number (no_option mode m) (no_option file f) (no_option number n))
    (four_walked mode file number (no_option mode m) (no_option file f) (no_option number n)) ∙ budget_end mode file number

pub words_taken : TakesWords
words_taken = record { file = file_taken; second = second_taken; budget = budget_taken }
