-- The text of each form of value.
use Rattle.std.proofs.Common.{◌≡◌, ℕ, ℤ, Bool, List, [], ◌∷◌, ◌++◌, map, refl, sym, ap, ◌∙◌, append_assoc}
use Rattle.std.proofs.lemmas.List.{append-nil}
use Rattle.std.specs.Prelude.{slice_index_or, codes}
use Rattle.std.specs.List.{flat_map}
use Rattle.std.specs.Fmt.{signed_decimal}
use Rattle.np_syntax.specs.declared.value.Value.{Value, Value-F, out-Value, map-Value, fold_out-Value}
use Rattle.np_syntax.specs.declared.value.Value as value
use Rattle.np_syntax.specs.declared.value.Value.TheVariants.{outs-Int, outs-Truth, outs-Str, outs-Site, outs-Agent, outs-Chan, outs-Tuple, outs-Letter, outs-Places}
use Rattle.np_syntax.specs.declared.value.Name.{Name}
use Rattle.np_syntax.specs.Printed.{quoted, spaced, truth_text, text_step, value_text, tuple_text}

text-out : (sites : List (List ℕ)) (v : Value) → value_text sites v ≡ text_step sites (map-Value Value (List ℕ) (value_text sites) (out-Value v))
unfolding value_text
text-out sites v = fold_out-Value (List ℕ) (text_step sites) v

abbrev texted : List (List ℕ) → Value-F Value → List ℕ
texted sites layer = text_step sites (map-Value Value (List ℕ) (value_text sites) layer)

pub text-int : (sites : List (List ℕ)) (n : ℤ) → value_text sites (value.Int n) ≡ signed_decimal n
text-int sites n = text-out sites (value.Int n) ∙ ap (texted sites) (outs-Int n)

pub text-truth : (sites : List (List ℕ)) (b : Bool) → value_text sites (value.Truth b) ≡ truth_text b
text-truth sites b = text-out sites (value.Truth b) ∙ ap (texted sites) (outs-Truth b)

pub text-str : (sites : List (List ℕ)) (t : List ℕ) → value_text sites (value.Str t) ≡ quoted t
text-str sites t = text-out sites (value.Str t) ∙ ap (texted sites) (outs-Str t)

pub text-site : (sites : List (List ℕ)) (s : ℕ) → value_text sites (value.Site s) ≡ slice_index_or sites s []
text-site sites s = text-out sites (value.Site s) ∙ ap (texted sites) (outs-Site s)

pub text-tuple : (sites : List (List ℕ)) (parts : List Value) → value_text sites (value.Tuple parts) ≡ tuple_text sites parts
text-tuple sites parts = text-out sites (value.Tuple parts) ∙ ap (texted sites) (outs-Tuple parts)

pub text-agent : (sites : List (List ℕ)) (a : Name) → value_text sites (value.Agent a) ≡ []
text-agent sites a = text-out sites (value.Agent a) ∙ ap (texted sites) (outs-Agent a)

pub text-chan : (sites : List (List ℕ)) (c : Name) → value_text sites (value.Chan c) ≡ []
text-chan sites c = text-out sites (value.Chan c) ∙ ap (texted sites) (outs-Chan c)

pub text-letter : (sites : List (List ℕ)) (c : Name) (v : Value) → value_text sites (value.Letter c v) ≡ []
text-letter sites c v = text-out sites (value.Letter c v) ∙ ap (texted sites) (outs-Letter c v)

pub text-places : (sites : List (List ℕ)) (places : List (Name × Name)) → value_text sites (value.Places places) ≡ []
text-places sites places = text-out sites (value.Places places) ∙ ap (texted sites) (outs-Places places)

pub ruleset texts = (text-int, text-truth, text-str, text-site, text-tuple, text-agent, text-chan, text-letter, text-places)

-- what has no text adds none
pub nothing-added : (text added : List ℕ) → added ≡ [] → text ≡ text ++ added
nothing-added text added none = rw none (sym (append-nil text))

fused : (sites : List (List ℕ)) (others : List Value) → flat_map (λ other. codes " " ++ other) (map (value_text sites) others) ≡ flat_map (λ part. codes " " ++ value_text sites part) others
fused sites [] = refl
fused sites (part ∷ others) = ap (λ rest. (codes " " ++ value_text sites part) ++ rest) (fused sites others)

-- the first part, and then each other behind a space
pub spaced-parts : (sites : List (List ℕ)) (text : List ℕ) (first : Value) (others : List Value)
    → (text ++ value_text sites first) ++ flat_map (λ part. codes " " ++ value_text sites part) others ≡ text ++ spaced (map (value_text sites) (first ∷ others))
spaced-parts sites text first others = append_assoc text (value_text sites first) _ ∙ ap (λ rest. text ++ (value_text sites first ++ rest)) (sym (fused sites others))
