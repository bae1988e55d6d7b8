-- The text of a literal is its token's.
use Rattle.std.proofs.Common.{◌≡◌, ℕ, ◌+◌, true, false, List, [], ◌∷◌, ◌++◌, length}
use Rattle.np_syntax.specs.Printed.{value_text}
use Rattle.np_syntax.proofs.Texts.{text-int, text-truth, text-str}
use Rattle.np_syntax.specs.declared.value.Value.{Value}
use Rattle.np_lex.specs.declared.token.Key.TheVariants as key
use Rattle.np_lex.specs.declared.token.What.{What}
use Rattle.np_lex.specs.Tokens.{IsLegal, token}
use Rattle.np_lex.specs.Spelling.{spelling}
use Rattle.np_lex.proofs.Goes.{Goes, Soft, key_goes, number_goes, string_goes}
use Rattle.np_tree.specs.Grammar as g
use Rattle.np_tree.specs.Grammar.{IsLiteral}

pub literal_text : {w : What} {v : Value} → IsLiteral w v → value_text [] v ≡ spelling w
literal_text (g.number {n = n}) = text-int [] n
literal_text (g.string {text = text}) = text-str [] text
literal_text g.truth = text-truth [] true
literal_text g.falsehood = text-truth [] false

pub literal_goes : {w : What} {v : Value} → IsLiteral w v → IsLegal w → (at : ℕ) (rest : List ℕ) → Soft rest
    → Goes at (spelling w ++ rest) (token at (at + length (spelling w)) w ∷ []) (at + length (spelling w)) rest
literal_goes g.number legal at rest soft = number_goes legal at rest soft
literal_goes g.string legal at rest soft = string_goes legal at rest
literal_goes g.truth legal at rest soft = key_goes key.True at rest soft
literal_goes g.falsehood legal at rest soft = key_goes key.False at rest soft
