-- What an example says, and what it says after one more line (crates/np_examples/data/README.md, "The format").
use Rattle.std.specs.Prelude.{◌≡◌, ℕ, Bool, true, false, List, [], ◌∷◌, ◌++◌, map, find, codes, string_bytes, if◌then◌else◌, Option, Some}
use Rattle.std.specs.Prelude.{None}
use Rattle.std.specs.Option.{option_map}
use Rattle.std.specs.Str.{bytes_eq}
use Rattle.np_syntax.specs.Options.{◌>>=◌}
use Rattle.np_example_files.specs.declared.change.Change.{Change}
use Rattle.np_example_files.specs.declared.change.Change.TheVariants as change
use Rattle.np_example_files.specs.declared.fail.ExampleFail.{ExampleFail}
use Rattle.np_example_files.specs.declared.fail.ExampleFail.TheVariants as fail
use Rattle.np_example_files.specs.declared.key.Key.{Key}
use Rattle.np_example_files.specs.declared.key.Key.TheVariants as key
use Rattle.np_example_files.specs.declared.example.NamedText.{NamedText}
use Rattle.np_example_files.specs.declared.example.Outcome.{Outcome}
use Rattle.np_example_files.specs.declared.example.Example.{Example}
use Rattle.np_example_files.specs.declared.example.TheConstants.{WHOLE}
use Rattle.np_example_files.specs.Pieces.{count_of, byte_of, parted}

-- ---- what an example says

-- its lines, put together
pub record Said : Type 0 where
  pub title : List ℕ
  pub line : ℕ
  pub calls : List (List ℕ)
  pub with_caches : Bool
  pub runs_low : Bool
  pub as_high : Bool
  pub replays : List Change
  pub replays_itself : Bool
  pub sources : List (List ℕ)
  pub texts : List (List ℕ × List ℕ)
  pub fail_texts : List ℕ
  pub fail_out : List ℕ
  pub fail_err : List ℕ
  pub piece : ℕ
  pub status : ℕ
  pub events : Option ℕ
  pub opens : Option ℕ
  pub first : Option ℕ
  pub moves : Option ℕ
  pub lines : Option ℕ
  pub outcome : List ℕ × List ℕ
  pub others : List (List ℕ × List ℕ)
  pub err : List ℕ

-- the lines that may come in any order, and those that come then
abbrev pub outcome_said : Outcome → List ℕ × List ℕ
outcome_said outcome = (string_bytes outcome.unordered, string_bytes outcome.ordered)

-- the name of a text, and its bytes
abbrev pub text_said : NamedText → List ℕ × List ℕ
text_said text = (string_bytes text.name, text.bytes.items)

-- what an example of the code says
abbrev pub said : Example → Said
said example = record {
  title = string_bytes example.title;
  line = example.line;
  calls = map (λ call. string_bytes call) example.calls.items;
  with_caches = example.with_caches;
  runs_low = example.runs_low;
  as_high = example.as_high;
  replays = example.replays.items;
  replays_itself = example.replays_itself;
  sources = map (λ source. string_bytes source) example.sources.items;
  texts = map text_said example.texts.items;
  fail_texts = example.devices.texts.items;
  fail_out = example.devices.out.items;
  fail_err = example.devices.err.items;
  piece = example.devices.piece;
  status = example.status;
  events = example.events;
  opens = example.opens;
  first = example.first;
  moves = example.moves;
  lines = example.lines;
  outcome = outcome_said example.outcome;
  others = map outcome_said example.others.items;
  err = string_bytes example.err;
}

-- an example of that title and line, of which nothing else is said yet
abbrev pub begun : List ℕ → ℕ → Said
begun title line = record {
  title = title;
  line = line;
  calls = [];
  with_caches = false;
  runs_low = false;
  as_high = false;
  replays = [];
  replays_itself = false;
  sources = [];
  texts = [];
  fail_texts = [];
  fail_out = [];
  fail_err = [];
  piece = WHOLE;
  status = 0;
  events = None;
  opens = None;
  first = None;
  moves = None;
  lines = None;
  outcome = ([], []);
  others = [];
  err = [];
}

-- the bytes of the first text of that name
abbrev pub text_of : List NamedText → List ℕ → Option (List ℕ)
text_of texts name = option_map (λ (text : NamedText). text.bytes.items)
    (find (λ (text : NamedText). bytes_eq (string_bytes text.name) name) texts)

-- ---- words

-- the word that a key is
abbrev pub key_word : Key → List ℕ
key_word key.Words = codes "words"
key_word key.Main = codes "main"
key_word key.Source = codes "source"
key_word key.Text = codes "text"
key_word key.Low = codes "low"
key_word key.Replays = codes "replays"
key_word key.Resumes = codes "resumes"
key_word key.Fail = codes "fail"
key_word key.Piece = codes "piece"
key_word key.Status = codes "status"
key_word key.Events = codes "events"
key_word key.Opens = codes "opens"
key_word key.First = codes "first"
key_word key.Moves = codes "moves"
key_word key.Lines = codes "lines"
key_word key.Out = codes "out"
key_word key.Unordered = codes "unordered"
key_word key.Err = codes "err"
key_word key.Or = codes "or"

-- all of them
abbrev pub keys : List Key
keys = key.Words ∷ key.Main ∷ key.Source ∷ key.Text ∷ key.Low ∷ key.Replays ∷ key.Resumes ∷ key.Fail ∷ key.Piece
    ∷ key.Status ∷ key.Events ∷ key.Opens ∷ key.First ∷ key.Moves ∷ key.Lines ∷ key.Out ∷ key.Unordered ∷ key.Err ∷ key.Or ∷ []

-- the key that a word is
abbrev pub keyed : List ℕ → Option Key
keyed word = find (λ key. bytes_eq (key_word key) word) keys

-- the word for a change of a history; the line `resumes` has a key of its own
abbrev pub change_word : Change → List ℕ
change_word change.Whole = codes "whole"
change_word change.Cut = codes "cut"
change_word change.Without = codes "without one"
change_word change.Swapped = codes "swapped"
change_word change.Early = codes "early"
change_word change.Landed = codes "landed early"
change_word change.Past = codes "pasts"
change_word change.Resumed = []

-- those that a line `replays` names
abbrev pub changes : List Change
changes = change.Whole ∷ change.Cut ∷ change.Without ∷ change.Swapped ∷ change.Early ∷ change.Landed ∷ change.Past ∷ []

-- the change that a word is
abbrev pub change_of : List ℕ → Option Change
change_of word = find (λ change. bytes_eq (change_word change) word) changes

-- ---- one more line

-- after a line `low`
abbrev pub low_said : List ℕ → Said → Option Said
low_said rest s =
    if bytes_eq rest (codes "with caches") then Some (record s { with_caches = true })
    else if bytes_eq rest (codes "run") then Some (record s { runs_low = true })
    else if bytes_eq rest (codes "run as high") then Some (record s { runs_low = true; as_high = true }) else None

-- after a line `replays`
abbrev pub replay_said : List ℕ → Said → Option Said
replay_said rest s =
    if bytes_eq rest (codes "itself") then Some (record s { replays_itself = true })
    else (change_of rest >>= (λ change. Some (record s { replays = s.replays ++ change ∷ [] })))

-- after a line `resumes`
abbrev pub resumed_said : List ℕ → Said → Option Said
resumed_said rest s = if bytes_eq rest [] then Some (record s { replays = s.replays ++ change.Resumed ∷ [] }) else None

-- after a line `fail` of that device and call
abbrev pub failing_said : List ℕ → ℕ → Said → Option Said
failing_said device call s =
    if bytes_eq device (codes "texts") then Some (record s { fail_texts = s.fail_texts ++ call ∷ [] })
    else if bytes_eq device (codes "out") then Some (record s { fail_out = s.fail_out ++ call ∷ [] })
    else if bytes_eq device (codes "err") then Some (record s { fail_err = s.fail_err ++ call ∷ [] }) else None

-- after a line `fail`
abbrev pub fail_said : List ℕ → Said → Option Said
fail_said rest s = do
  parts ← parted rest
  call ← count_of parts.1
  failing_said parts.0 call s

-- what an example says after a line of that key with that rest, if it is one that an example has
abbrev pub followed : Key → List ℕ → Said → Option Said
followed key.Words rest s = Some (record s { calls = s.calls ++ rest ∷ [] })
followed key.Main rest s = Some (record s { sources = s.sources ++ (codes "sites home ; main at home = " ++ rest) ∷ [] })
followed key.Source rest s = Some (record s { sources = s.sources ++ rest ∷ [] })
followed key.Text rest s = Some (record s { texts = s.texts ++ (rest, []) ∷ [] })
followed key.Low rest s = low_said rest s
followed key.Replays rest s = replay_said rest s
followed key.Resumes rest s = resumed_said rest s
followed key.Fail rest s = fail_said rest s
followed key.Piece rest s = count_of rest >>= (λ count. Some (record s { piece = count }))
followed key.Status rest s = byte_of rest >>= (λ status. Some (record s { status = status }))
followed key.Events rest s = count_of rest >>= (λ count. Some (record s { events = Some count }))
followed key.Opens rest s = count_of rest >>= (λ count. Some (record s { opens = Some count }))
followed key.First rest s = count_of rest >>= (λ count. Some (record s { first = Some count }))
followed key.Moves rest s = count_of rest >>= (λ count. Some (record s { moves = Some count }))
followed key.Lines rest s = count_of rest >>= (λ count. Some (record s { lines = Some count }))
followed key.Out rest s = Some (record s { outcome = (s.outcome.0, s.outcome.1 ++ (rest ++ 10 ∷ [])) })
followed key.Unordered rest s = Some (record s { outcome = (s.outcome.0 ++ (rest ++ 10 ∷ []), s.outcome.1) })
followed key.Err rest s = Some (record s { err = s.err ++ (rest ++ 10 ∷ []) })
followed key.Or rest s = Some (record s { outcome = ([], []); others = s.others ++ s.outcome ∷ [] })

-- a line of a key is refused by its number and where no example says it
abbrev pub IsKeyFault : Option Said → ℕ → ExampleFail → Type 0
IsKeyFault after number fail.Memory = Unit {0}
IsKeyFault after number fail.Device = ⊥
IsKeyFault after number (fail.Line line) = (line ≡ number) × (after ≡ None)
