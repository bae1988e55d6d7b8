-- How bytes from outside stand in markup (docs/PICTURES.md, "Pictures").
use Rattle.std.specs.Prelude.{◌≡◌, ℕ, ◌+◌, ◌-◌, ◌/◌, ◌%◌, ◌<◌, Bool, true, not, List, [], ◌∷◌, ◌++◌, codes, nat_eq, nat_lt}
use Rattle.std.specs.Prelude.{nat_le, ◌&&◌, if◌then◌else◌}
use Rattle.std.specs.List.{flat_map, list_all, AllByRecursion}

-- the digit of a number below 16
abbrev pub hex_digit : ℕ → ℕ
hex_digit n = if nat_lt n 10 then 48 + n else 97 + (n - 10)

-- a byte by its number
abbrev pub numbered : ℕ → List ℕ
numbered b = codes "\\x" ++ hex_digit (b / 16) ∷ hex_digit (b % 16) ∷ []

-- a byte that is no markup: itself where it can be printed, and else its number
abbrev pub plain_byte : ℕ → List ℕ
plain_byte b = if nat_le 32 b && nat_le b 126 then b ∷ [] else numbered b

-- a byte as it stands in markup
abbrev pub escaped_byte : ℕ → List ℕ
escaped_byte b =
    if nat_eq b 38 then codes "&amp;" else
    (if nat_eq b 60 then codes "&lt;" else
    (if nat_eq b 62 then codes "&gt;" else
    (if nat_eq b 34 then codes "&quot;" else
    (if nat_eq b 39 then codes "&#39;" else
    plain_byte b))))

abbrev pub escaped : List ℕ → List ℕ
escaped = flat_map escaped_byte

-- a byte that can be printed, and that neither begins nor ends a tag or a value
abbrev pub is_tame : ℕ → Bool
is_tame b = nat_le 32 b && (nat_le b 126 && (not (nat_eq b 60) && (not (nat_eq b 62) && (not (nat_eq b 34) && not (nat_eq b 39)))))

-- all that is written of any bytes is tame
abbrev pub StaysTame : Type 0
StaysTame = (bytes : List ℕ) → AllByRecursion (λ b. b < 256) bytes → list_all is_tame (escaped bytes) ≡ true
