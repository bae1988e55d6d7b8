-- No line that is written has a line feed in it, so a text that is written has the lines that were written.
use Rattle.std.proofs.Common.{◌≡◌, ℕ, ◌<◌, ◌^◌, List, [], ◌∷◌, ◌++◌, map, decimal, refl, ap, ◌∙◌, None, Some, Option, arith, append_assoc}
use Rattle.std.specs.Prelude.{Bool, true, false, ◌==◌, codes}
use Rattle.std.specs.List.{onto_first, list_all, flat_map, AllByRecursion}
use Rattle.std.proofs.lemmas.Bool.Decides.{nat_tests}
use Rattle.std.specs.Char.{is_ascii_digit}
use Rattle.np_syntax.proofs.Bools.{and-in, and-out}
use Rattle.np_syntax.specs.Printed.{spaced}
use Rattle.np_syntax.specs.declared.value.Name.{Name}
use Rattle.np_syntax.specs.declared.process.Role.{Role}
use Rattle.np_syntax.specs.declared.process.Role.TheVariants as roles
use Rattle.np_syntax.specs.declared.event.Kind.{Kind}
use Rattle.np_syntax.specs.declared.event.Kind.TheVariants as kinds
use Rattle.np_syntax.specs.declared.event.Event.{Event}
use Rattle.history_text.specs.declared.format.Format.{Format}
use Rattle.history_text.specs.declared.format.Format.TheVariants as formats
use Rattle.history_text.specs.Spelling.{name_text, optional_text, kind_word, role_word, first_made, second_made, high_word, fields, event_line}
use Rattle.history_text.specs.Spelling.{first_line, end_line, text_of, lines_under, history_text}
use Rattle.history_text.specs.Histories.{lines, NameFits, OptionalFits, Fits, IsHistory}
use Rattle.history_text.specs.Reading.{in_line}
use Rattle.history_text.proofs.Numbers.{decimal_digits}

-- no byte is a line feed
abbrev IsPlain : List ℕ → Type 0
IsPlain text = list_all in_line text ≡ true

joined : (a b : List ℕ) → IsPlain a → IsPlain b → IsPlain (a ++ b)
joined [] b first second = second
joined (byte ∷ a) b first second = let both = and-out (in_line byte) (list_all in_line a) first in and-in both.0 (joined a b both.1 second)

-- ---- fields

digits_plain : (digits : List ℕ) → list_all is_ascii_digit digits ≡ true → IsPlain digits
digits_plain [] all = refl
digits_plain (digit ∷ digits) all =
    let both = and-out (is_ascii_digit digit) (list_all is_ascii_digit digits) all in
    let here : in_line digit ≡ true = in_line_digit digit both.0 in
    and-in here (digits_plain digits both.1)
  where
    in_line_digit : (digit : ℕ) → is_ascii_digit digit ≡ true → in_line digit ≡ true
    in_line_digit digit is = let other : (digit == 10) ≡ false = grind (arith, nat_tests) in rw other refl

number_plain : (n : ℕ) → n < 2 ^ 32 → IsPlain (decimal n)
number_plain n small = digits_plain (decimal n) (decimal_digits n small)

name_plain : (name : Name) → NameFits name → IsPlain (name_text name)
name_plain name fits = joined (decimal name.site ++ codes ".") (decimal name.n) (joined (decimal name.site) (codes ".") (number_plain name.site fits.0) refl) (number_plain name.n fits.1)

optional_plain : (name : Option Name) → OptionalFits name → IsPlain (optional_text name)
optional_plain None fits = refl
optional_plain (Some name) fits = name_plain name fits

kind_plain : (kind : Kind) → IsPlain (kind_word kind)
kind_plain kinds.Stop = refl
kind_plain kind = refl

role_plain : (role : Role) → IsPlain (role_word role)
role_plain roles.Plain = refl
role_plain role = refl

high_plain : (kind : Kind) (role : Role) → IsPlain (high_word kind role)
high_plain kinds.Send roles.Post = refl
high_plain kinds.Land roles.Post = refl
high_plain kind roles.Infra = refl
high_plain kind role = refl

-- ---- lines

others_plain : (texts : List (List ℕ)) → AllByRecursion IsPlain texts → IsPlain (flat_map (λ other. codes " " ++ other) texts)
others_plain [] all = refl
others_plain (text ∷ texts) all = joined (codes " " ++ text) (flat_map (λ other. codes " " ++ other) texts) (joined (codes " ") text refl all.0) (others_plain texts all.1)

spaced_plain : (texts : List (List ℕ)) → AllByRecursion IsPlain texts → IsPlain (spaced texts)
spaced_plain [] all = refl
spaced_plain (text ∷ texts) all = joined text (flat_map (λ other. codes " " ++ other) texts) all.0 (others_plain texts all.1)

fields_plain : (format : Format) (e : Event) → Fits e → AllByRecursion IsPlain (fields format e)
fields_plain formats.First e fits = (
  number_plain e.site fits.site,
  (
    kind_plain e.kind,
    (
      name_plain e.actor fits.actor,
      (
        optional_plain e.other fits.other,
        (
          number_plain e.tag.node fits.node,
          (role_plain e.tag.role, (optional_plain (first_made e.made) fits.first, (optional_plain (second_made e.made) fits.second, tt))),
        ),
      ),
    ),
  ),
)
fields_plain formats.Second e fits = (
  number_plain e.site fits.site,
  (
    kind_plain e.kind,
    (
      name_plain e.actor fits.actor,
      (
        optional_plain e.other fits.other,
        (
          number_plain e.tag.node fits.node,
          (role_plain e.tag.role, (optional_plain (first_made e.made) fits.first, (optional_plain (second_made e.made) fits.second, (high_plain e.kind e.tag.role, tt)))),
        ),
      ),
    ),
  ),
)

first_plain : (format : Format) → IsPlain (first_line format)
first_plain formats.First = refl
first_plain formats.Second = refl

event_plain : (format : Format) (e : Event) → Fits e → IsPlain (event_line format e)
event_plain format e fits = spaced_plain (fields format e) (fields_plain format e fits)

-- ---- texts

front_line : (line rest : List ℕ) → IsPlain line → lines (line ++ 10 ∷ rest) ≡ line ∷ lines rest
front_line [] rest plain = refl
front_line (byte ∷ line) rest plain = go (byte == 10) refl (and-out (in_line byte) (list_all in_line line) plain).0 (front_line line rest (and-out (in_line byte) (list_all in_line line) plain).1)
  where
    go : (b : Bool) → (byte == 10) ≡ b → in_line byte ≡ true → lines (line ++ 10 ∷ rest) ≡ line ∷ lines rest
        → lines (byte ∷ (line ++ 10 ∷ rest)) ≡ (byte ∷ line) ∷ lines rest
    go true is plain later = let never : in_line byte ≡ false = rw is refl in cc
    go false is plain later = rw is (ap (onto_first byte) later)

text_lines : (ls : List (List ℕ)) → AllByRecursion IsPlain ls → lines (text_of ls) ≡ ls
text_lines [] all = refl
text_lines (line ∷ ls) all = ap lines (append_assoc line (codes "\n") (text_of ls)) ∙ front_line line (text_of ls) all.0
    ∙ ap (λ l. line ∷ l) (text_lines ls all.1)

events_plain : (format : Format) (events : List Event) → AllByRecursion Fits events
    → AllByRecursion IsPlain (map (event_line format) events ++ end_line ∷ [])
events_plain format [] fits = (refl, tt)
events_plain format (e ∷ events) fits = (event_plain format e fits.0, events_plain format events fits.1)

pub written : (format : Format) (events : List Event) → AllByRecursion Fits events → IsHistory (history_text format events) format events
written format events fits = record {
  skipped = [];
  behind = [];
  is = text_lines (lines_under (first_line format) format events) (first_plain format, events_plain format events fits);
  skips = tt;
  fits = fits;
}
