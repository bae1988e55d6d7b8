-- What the words give that are taken in their order (docs/COMMANDS.md, "Reports and refusals").
use Rattle.std.specs.Prelude.{◌≡◌, ◌==◌, Bool, true, false, not, [], ◌∷◌, codes, Some, None}
use Rattle.clap.specs.Words.{Text}
use Rattle.np_words.specs.Arguments.{Given, taken}

-- a word that does not begin with a hyphen
abbrev pub is_bare : Text → Bool
is_bare [] = true
is_bare (byte ∷ bytes) = not (byte == 45)

abbrev pub IsBare : Text → Type 0
IsBare word = is_bare word ≡ true

-- MODE and FILE alone
abbrev pub two_words : Text → Text → Given
two_words mode file = record {
  mode = Some mode;
  file = Some file;
  second = None;
  budget = None;
  history = false;
  high = false;
  serial = false;
  links = None;
  infrastructure = None;
  line = None;
  one = false;
}

-- MODE and FILE are taken; so is SECOND behind them, and `--budget` with a number
pub record TakesWords : Type 0 where
  pub file : (mode file : Text) → IsBare mode → IsBare file → taken (mode ∷ file ∷ []) ≡ Some (two_words mode file)
  pub second : (mode file second : Text) → IsBare mode → IsBare file → IsBare second
      → taken (mode ∷ file ∷ second ∷ []) ≡ Some (record (two_words mode file) { second = Some second })
  pub budget : (mode file number : Text) → IsBare mode → IsBare file → IsBare number
      → taken (mode ∷ file ∷ codes "--budget" ∷ number ∷ []) ≡ Some (record (two_words mode file) { budget = Some number })
