-- What a call saw of its texts, and what was read of them (docs/COMMANDS.md, "Reports and refusals").
use Rattle.std.specs.Prelude.{◌≡◌, ℕ, ◌<◌, ◌≤◌, ◌⊎◌, List, length, IfSome}
use Rattle.np_io.specs.Causes.{Counts, Rose}
use Rattle.np_io.specs.Bytes.{Held}
use Rattle.np_verdict.specs.declared.refusal.Refusal.{Refusal}
use Rattle.np_verdict.specs.declared.refusal.Refusal.TheVariants.{ReadFault}

-- what a call saw of its texts
pub record Reading : Type 0 where
  -- the bytes told under each name, before the call
  pub held : Held
  -- the faults of each name, before the call and after it
  pub before : Counts
  pub now : Counts
  -- how many bytes were read of the text that was begun last
  pub taken : ℕ
  -- how often a text was to begin, before the call and after it
  pub begun : ℕ
  pub begins : ℕ

abbrev pub seen : Held → Counts → Counts → ℕ → ℕ → ℕ → Reading
seen held before now taken begun begins = record { held = held; before = before; now = now; taken = taken; begun = begun; begins = begins }

-- ---- one text

-- these are the bytes of the text: they are within the limit, and what is held where it is told
pub record IsText (texts : Reading) (name : List ℕ) (limit : ℕ) (bytes : List ℕ) : Type 0 where
  pub short : length bytes ≤ limit
  pub whole : IfSome (texts.held name) (λ told. bytes ≡ told)

-- the text was begun last, and these are its bytes: all that was read of it
pub record IsRead (texts : Reading) (name : List ℕ) (limit : ℕ) (bytes : List ℕ) : Type 0 where
  pub text : IsText texts name limit bytes
  pub taken : texts.taken ≡ length bytes

-- a read of the text failed, and no more was read than it may have
pub record Fails (texts : Reading) (name : List ℕ) (limit : ℕ) : Type 0 where
  pub rose : Rose (texts.before name) (texts.now name)
  pub few : texts.taken ≤ limit

-- more was read than the text may have, and it has more where it is told
pub record IsLong (texts : Reading) (name : List ℕ) (limit : ℕ) : Type 0 where
  pub taken : limit < texts.taken
  pub more : IfSome (texts.held name) (λ bytes. limit < length bytes)

-- the text was not read: `long` is the refusal of one with too many bytes
abbrev pub IsUnread : Reading → List ℕ → ℕ → Refusal → Refusal → Type 0
IsUnread texts name limit long refusal = ((refusal ≡ ReadFault) × Fails texts name limit) ⊎ ((refusal ≡ long) × IsLong texts name limit)
