-- Where names stand among texts.
use Rattle.std.proofs.Common.{◌≡◌, ◌≢◌, ◌∙◌, ℕ, zero, suc, ◌+◌, ◌<◌, ◌≤◌, true, List, [], ◌∷◌, length, ◌++◌, Some, None, is_some, position, slice_get, slice_set, refl, ap, inl, inr, arith, get_or, sym, drop, take, min}
use Rattle.std.specs.Io.KnownBytes.{Consumes, IsAtEnd}
use Rattle.std.specs.Str.{bytes_eq}
use Rattle.std.proofs.lemmas.Bool.{cases_lt}
use Rattle.std.proofs.lemmas.List.{take-append-drop, drop-drop}
use Rattle.std.proofs.lemmas.List.Folds.{position_or_len-set, position_or_len_push}
use Rattle.std.proofs.lemmas.List.Sums.{passes_at_first, prefix_len-le-length}
use Rattle.std.proofs.lemmas.Option.{slice_get-get_or, slice_get_past, gets}
use Rattle.std.proofs.lemmas.Grind.{common_steps}
use Rattle.std.proofs.lemmas.Slice.Eq.{bytes_eq-Decides}
use Rattle.np_io.specs.declared.named_text.NamedText.{NamedText}
use Rattle.np_io.specs.MemTexts.{TextsState, place_in, is_named, held_by, left_in, Stands, Adds}

-- the place that a search answers is that of the name, and within the texts
at_place : (texts : List NamedText) (name : List ℕ) (place : ℕ) → Some place ≡ position (is_named name) texts
    → (place ≡ place_in texts name) × (place < length texts)
at_place texts name place is = grind (arith, common_steps, is)

-- where a search answers none, the name is not held
no_place : (texts : List NamedText) (name : List ℕ) → None ≡ position (is_named name) texts → length texts ≤ place_in texts name
no_place texts name is = grind (arith, common_steps, is)

-- the text at a name's place is that of the name
named : (texts : List NamedText) (name : List ℕ) (none : NamedText) → place_in texts name < length texts
    → (get_or texts (place_in texts name) none).name ≡ name
named texts name none here = (bytes_eq-Decides _ _).0 (passes_at_first (is_named name) texts none here)

-- so the text there stands where its own name is found
pub stands : (texts : List NamedText) (name : List ℕ) (place : ℕ) → Some place ≡ position (is_named name) texts
    → (text : NamedText) × Stands texts place 0 text × (text.name ≡ name)
stands texts name place is =
    let none : NamedText = record { name = []; bytes = [] } in
    let text = get_or texts (place_in texts name) none in
    let here = at_place texts name place is in
    let held : place_in texts name < length texts = rw here.0 at here.1 in
    let its_name : text.name ≡ name = named texts name none held in (
      text,
      record {
        here = rw here.0 (slice_get-get_or texts (place_in texts name) none held);
        first = rw (its_name, here.0) refl;
        fits = omega arith;
      },
      its_name,
    )

pub is_held : (state : TextsState) (name : List ℕ) (place : ℕ) → Some place ≡ position (is_named name) state.texts
    → is_some (held_by state name) ≡ true
is_held state name place is =
    let it = stands state.texts name place is in rw (← (at_place state.texts name place is).0, it.1.here) refl

-- what a read of so many bytes does to those that are left
pub read_part : (texts : List NamedText) (place at count : ℕ) (text : NamedText) (buf : List ℕ) → Stands texts place at text
    → count ≡ min (length (drop at text.bytes)) (length buf) → take count buf ≡ take count (drop at text.bytes)
    → Consumes (left_in texts place at) (left_in texts place (at + count)) (take count buf)
    × (count ≡ 0 → 0 < length buf → IsAtEnd (left_in texts place (at + count)))
read_part texts place at count text buf it n front =
    let more : drop at text.bytes ≡ take count buf ++ drop (at + count) text.bytes =
    rw (front, ← drop-drop count at text.bytes) (sym (take-append-drop count (drop at text.bytes))) in
    let end : count ≡ 0 → 0 < length buf → drop (at + count) text.bytes ≡ [] = λ z b. grind (arith, common_steps, n, z, b) in
    rw it.here (more, end)

-- a text that replaces the one of its name moves no name
place_in-set : (texts : List NamedText) (text : NamedText) (other : List ℕ) → place_in texts text.name < length texts
    → place_in (slice_set texts (place_in texts text.name) text) other ≡ place_in texts other
place_in-set texts text other here =
    position_or_len-set (is_named other) texts (place_in texts text.name) text text
    (ap (λ name. bytes_eq name other) (sym (named texts text.name text here)))

-- two names stand apart
apart : (texts : List NamedText) (name other : List ℕ) → place_in texts name < length texts → other ≢ name
    → place_in texts other ≢ place_in texts name
apart texts name other here ne same =
    let none : NamedText = record { name = []; bytes = [] } in
    ne (sym (named texts other none (rw same here)) ∙ ap (λ i. (get_or texts i none).name) same ∙ named texts name none here)

slice_get-set_same : (texts : List NamedText) (i : ℕ) (text : NamedText) → i < length texts
    → slice_get (slice_set texts i text) i ≡ Some text
slice_get-set_same texts i text here = grind (arith, common_steps, gets)

slice_get-set_other : (texts : List NamedText) (i j : ℕ) (text : NamedText) → j ≢ i
    → slice_get (slice_set texts i text) j ≡ slice_get texts j
slice_get-set_other texts i j text ne = grind (arith, common_steps, gets)

-- putting a text in the place of its name adds it
pub replaces : (state : TextsState) (name bytes : List ℕ) (place : ℕ) → Some place ≡ position (is_named name) state.texts
    → Adds state (record state {
      texts = slice_set state.texts place (record { name = name; bytes = bytes });
      place = None;
    }) name bytes
replaces state name bytes place is =
    let text : NamedText = record { name = name; bytes = bytes } in
    let first = (at_place state.texts name place is).0 in
    let here : place_in state.texts name < length state.texts = rw first at (at_place state.texts name place is).1 in
    rw first (record {
      held = rw (place_in-set state.texts text name here, slice_get-set_same state.texts (place_in state.texts name) text here) refl;
      others = λ other ne.
          rw (
            place_in-set state.texts text other here,
            slice_get-set_other state.texts (place_in state.texts name) (place_in state.texts other) text
                (apart state.texts name other here ne),
          ) refl;
      counts = λ other. rw (place_in-set state.texts text other here) refl;
      begun = refl;
      rest = refl;
    })

-- a text put behind the others leaves their names where they stand
stays : (texts : List NamedText) (text : NamedText) (other : List ℕ) → place_in texts other < length texts
    → place_in (texts ++ text ∷ []) other ≡ place_in texts other
stays texts text other here = grind (arith, common_steps, position_or_len_push)

slice_get-push_before : (texts : List NamedText) (text : NamedText) (i : ℕ) → i < length texts
    → slice_get (texts ++ text ∷ []) i ≡ slice_get texts i
slice_get-push_before texts text i here = grind (arith, common_steps, gets)

-- a new name stands behind the others
last : (texts : List NamedText) (text : NamedText) → length texts ≤ place_in texts text.name
    → place_in (texts ++ text ∷ []) text.name ≡ length texts
last texts text new =
    grind (arith, common_steps, position_or_len_push, (bytes_eq-Decides text.name text.name).1 refl, prefix_len-le-length)

slice_get-push_last : (texts : List NamedText) (text : NamedText) → slice_get (texts ++ text ∷ []) (length texts) ≡ Some text
slice_get-push_last texts text = grind (arith, common_steps, gets)

-- a name that was not held is not found among the others
past : (texts : List NamedText) (text : NamedText) (other : List ℕ) → length texts ≤ place_in texts other
    → length texts ≤ place_in (texts ++ text ∷ []) other
past texts text other new = grind (arith, common_steps, position_or_len_push)

-- and is not held, if it is not that of the text
not_held : (texts : List NamedText) (text : NamedText) (other : List ℕ) → length texts ≤ place_in texts other → other ≢ text.name
    → slice_get (texts ++ text ∷ []) (place_in (texts ++ text ∷ []) other) ≡ None
not_held texts text other new ne =
    let decides = bytes_eq-Decides text.name other in
    let behind : length (texts ++ text ∷ []) ≤ place_in (texts ++ text ∷ []) other =
    grind (arith, common_steps, position_or_len_push, decides, ne, new) in
    slice_get_past (texts ++ text ∷ []) (place_in (texts ++ text ∷ []) other) behind

-- a default at the end of a list is read there as past the end
get_or-push_default : (xs : List ℕ) (d i : ℕ) → get_or (xs ++ d ∷ []) i d ≡ get_or xs i d
get_or-push_default [] d zero = refl
get_or-push_default [] d (suc i) = refl
get_or-push_default (x ∷ xs) d zero = refl
get_or-push_default (x ∷ xs) d (suc i) = get_or-push_default xs d i

-- putting a text behind the others, and the count of its name behind theirs, adds it
pub appends : (state : TextsState) (name bytes : List ℕ) → None ≡ position (is_named name) state.texts
    → length state.counts ≡ length state.texts
    → Adds state (record state {
      texts = state.texts ++ record { name = name; bytes = bytes } ∷ [];
      counts = state.counts ++ state.unknown ∷ [];
      place = None;
    }) name bytes
appends state name bytes is same =
    let text : NamedText = record { name = name; bytes = bytes } in record {
      held = rw (last state.texts text (no_place state.texts name is), slice_get-push_last state.texts text) refl;
      others = λ other ne. elim (cases_lt (place_in state.texts other) (length state.texts)) [
        | inl old ↦
            rw (
              stays state.texts text other old,
              slice_get-push_before state.texts text (place_in state.texts other) old,
            ) refl
        | inr none ↦
            rw (
              not_held state.texts text other none ne,
              slice_get_past state.texts (place_in state.texts other) none,
            ) refl
      ];
      counts = λ other. elim (cases_lt (place_in state.texts other) (length state.texts)) [
        | inl old ↦ rw (get_or-push_default, stays state.texts text other old) refl
        | inr none ↦
            let then = past state.texts text other none in
            rw get_or-push_default (grind (arith, common_steps, then, none, same))
      ];
      begun = refl;
      rest = refl;
    }
