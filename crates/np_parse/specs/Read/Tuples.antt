-- The parts of a tuple, of a tuple pattern and of a tuple type (docs/LANGUAGE.md, "Grammar").
use Rattle.std.specs.Prelude.{ℕ, zero, suc, ◌+◌, max, Bool, true, false, List, [], ◌∷◌, ◌++◌, Result, Ok, Err}
use Rattle.np_syntax.specs.declared.limits.TheConstants.{MOST_PARTS}
use Rattle.np_lex.specs.declared.token.Sign.TheVariants as sign
use Rattle.np_lex.specs.declared.token.What.{What}
use Rattle.np_lex.specs.declared.token.What.TheVariants as what
use Rattle.np_parse.specs.declared.fail.ParseFail.{ParseFail}
use Rattle.np_parse.specs.Input.{Parser, ◌>>=◌, ◌>>◌, pure, refuse, peek, take}

-- what is read, with its depth
abbrev pub Sized : Type 0 → Type 0
Sized A = A × ℕ

-- these parts with the depth of the deepest, where it is given
abbrev pub sized : {A : Type 0} → List A → Result ℕ ParseFail → Result (Sized (List A)) ParseFail
sized items (Ok depth) = Ok (items, depth)
sized items (Err e) = Err e

abbrev pub closes : What → Bool
closes (what.Sign sign.SquareClose) = true
closes _ = false

abbrev pub last_by : {A : Type 0} → List A → ℕ → What → Parser (Sized (List A))
last_by items depth (what.Sign sign.SquareClose) = take >> pure (items, depth)
last_by items depth _ = refuse

-- where there is room for no further part: the closing bracket
abbrev pub last : {A : Type 0} → List A → ℕ → Parser (Sized (List A))
last items depth = peek >>= last_by items depth

abbrev pub part_by : {A : Type 0} → (List A → ℕ → Parser (Sized (List A))) → Parser (Sized A) → List A → ℕ → What → Parser (Sized (List A))
part_by again inner items depth (what.Sign sign.SquareClose) = take >> pure (items, depth)
part_by again inner items depth _ = inner >>= (λ x. again (items ++ x.0 ∷ []) (max depth x.1))

-- the parts from here on, as many as there is still room for, and the closing bracket; with the depth of the deepest
unfoldable pub parts : {A : Type 0} → Parser (Sized A) → ℕ → List A → ℕ → Parser (Sized (List A))
parts inner zero items depth = last items depth
parts inner (suc room) items depth = peek >>= part_by (parts inner room) inner items depth

-- a tuple from its opening bracket on, of at most 16 parts, made by this of its offset and its parts
unfoldable pub tuple_in : {A : Type 0} → Parser (Sized A) → (ℕ → List A → A) → Parser (Sized A)
tuple_in inner made = take >>= (λ at. parts inner MOST_PARTS [] 0 >>= (λ xs. pure (made at xs.0, xs.1 + 1)))
