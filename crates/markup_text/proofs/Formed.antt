-- The text of markup is formed.
use Rattle.markup_text.specs.Formed.{IsFormed}
use Rattle.markup_text.specs.Markup.{Markup, markup_text}

pub markup-formed : (m : Markup) → IsFormed (markup_text m)
markup-formed Markup.nothing = IsFormed.nothing
markup-formed (Markup.words bytes rest) = IsFormed.beside (IsFormed.words bytes) (markup-formed rest)
markup-formed (Markup.element tag attributes inner rest) = IsFormed.beside (IsFormed.element tag attributes (markup-formed inner)) (markup-formed rest)
