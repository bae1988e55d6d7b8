-- Lines and texts as they are written, piece by piece.
use Rattle.std.proofs.Common.{◌≡◌, ℕ, List, [], ◌∷◌, ◌++◌, append_assoc, append-nil, sym, ap, ◌∙◌}
use Rattle.std.specs.Prelude.{codes, decimal}
use Rattle.std.specs.List.{flat_map}
use Rattle.std.proofs.lemmas.List.Concat.{flat_map-append}
use Rattle.text_writer.specs.declared.writer.TextWriter.{TextWriter}
use Rattle.text_writer.specs.Writes.{Writes}
use Rattle.text_writer.proofs.Writing.{then, same}
use Rattle.np_syntax.specs.Printed.{spaced}
use Rattle.np_syntax.specs.declared.event.Event.{Event}
use Rattle.history_text.specs.declared.format.Format.{Format}
use Rattle.history_text.specs.declared.format.Format.TheVariants as formats
use Rattle.history_text.specs.Spelling.{name_text, optional_text, kind_word, role_word, first_made, second_made, high_word, event_line}
use Rattle.history_text.specs.Reading.{ninth}

eight_fields : (a b c d e f g h : List ℕ)
    → ((((((a ++ codes " " ++ b ++ codes " " ++ c) ++ codes " ") ++ d) ++ codes " ") ++ (e ++ codes " " ++ f)) ++ codes " ") ++ (g ++ codes " " ++ h)
    ≡ spaced (a ∷ b ∷ c ∷ d ∷ e ∷ f ∷ g ∷ h ∷ [])
eight_fields a b c d e f g h = simp (append_assoc, append-nil)

-- the first three fields, one, two and two more, with a space between them
pub eight_written : (old a b c d e f new : TextWriter) (event : Event)
    → Writes old a (decimal event.site ++ codes " " ++ kind_word event.kind ++ codes " " ++ name_text event.actor) → Writes a b (codes " ")
    → Writes b c (optional_text event.other) → Writes c d (codes " ") → Writes d e (decimal event.tag.node ++ codes " " ++ role_word event.tag.role)
    → Writes e f (codes " ") → Writes f new (optional_text (first_made event.made) ++ codes " " ++ optional_text (second_made event.made))
    → Writes old new (event_line formats.First event)
eight_written old a b c d e f new event w1 w2 w3 w4 w5 w6 w7 =
    let front = decimal event.site ++ codes " " ++ kind_word event.kind ++ codes " " ++ name_text event.actor in
    let other = optional_text event.other in
    let tag = decimal event.tag.node ++ codes " " ++ role_word event.tag.role in
    let made = optional_text (first_made event.made) ++ codes " " ++ optional_text (second_made event.made) in
    let two = then old a b front (codes " ") w1 w2 in
    let three = then old b c (front ++ codes " ") other two w3 in
    let four = then old c d ((front ++ codes " ") ++ other) (codes " ") three w4 in
    let five = then old d e (((front ++ codes " ") ++ other) ++ codes " ") tag four w5 in
    let six = then old e f ((((front ++ codes " ") ++ other) ++ codes " ") ++ tag) (codes " ") five w6 in
    same old new ((((((front ++ codes " ") ++ other) ++ codes " ") ++ tag) ++ codes " ") ++ made) (event_line formats.First event)
    (then old f new (((((front ++ codes " ") ++ other) ++ codes " ") ++ tag) ++ codes " ") made six w7)
    (eight_fields (decimal event.site) (kind_word event.kind) (name_text event.actor) other (decimal event.tag.node) (role_word event.tag.role) (optional_text (first_made event.made)) (optional_text (second_made event.made)))

spaced_more : (first : List ℕ) (others : List (List ℕ)) (last : List ℕ) → spaced (first ∷ others) ++ 32 ∷ last ≡ spaced (first ∷ (others ++ last ∷ []))
spaced_more first others last =
    append_assoc first _ _
    ∙ sym (ap (λ l. first ++ l) (flat_map-append (λ other. codes " " ++ other) others (last ∷ []) ∙ ap (λ l. flat_map (λ other. codes " " ++ other) others ++ l) (append-nil (32 ∷ last))))

abbrev behind_first : Event → List (List ℕ)
behind_first e = kind_word e.kind ∷ name_text e.actor ∷ optional_text e.other ∷ decimal e.tag.node ∷ role_word e.tag.role ∷ optional_text (first_made e.made) ∷ optional_text (second_made e.made) ∷ []

-- an event's line is the line of eight fields and what stands behind them
pub with_ninth : (format : Format) (e : Event) → event_line formats.First e ++ ninth format e.kind e.tag.role ≡ event_line format e
with_ninth formats.First e = append-nil (event_line formats.First e)
with_ninth formats.Second e = spaced_more (decimal e.site) (behind_first e) (high_word e.kind e.tag.role)

pub line_written : (o : List ℕ) (format : Format) (e : Event)
    → o ++ event_line formats.First e ++ ninth format e.kind e.tag.role ++ codes "\n" ≡ o ++ (event_line format e ++ codes "\n")
line_written o format e = append_assoc (o ++ event_line formats.First e) _ _ ∙ append_assoc o _ _
    ∙ ap (λ l. o ++ l) (sym (append_assoc (event_line formats.First e) _ _) ∙ ap (λ l. l ++ codes "\n") (with_ninth format e))
