-- Lines and words, piece by piece.
use Rattle.std.proofs.Common.{◌≡◌, ℕ, ◌+◌, ◌≤◌, ◌<◌, List, [], ◌∷◌, ◌++◌, append_assoc, append-nil, refl, take, drop, length, get_or, arith, ap, sym, ◌∙◌}
use Rattle.std.specs.List.{flat_map}
use Rattle.std.proofs.lemmas.List.{take-append-drop, take-take, take_more, take_all}
use Rattle.std.proofs.lemmas.List.Concat.{flat_map-append}
use Rattle.source_words.specs.declared.word.Line.{Line}
use Rattle.source_words.specs.declared.word.Word.{Word}
use Rattle.source_words.specs.Words.{ended, line_text, source_of}

-- from a place on to an end
pub onward : (xs : List ℕ) (at end : ℕ) → at ≤ end → take at xs ++ drop at (take end xs) ≡ take end xs
onward xs at end h = ap (λ l. l ++ drop at (take end xs)) (sym (take-take at end xs h)) ∙ take-append-drop at (take end xs)

-- one word more
pub word-more : (xs front : List ℕ) (words : List Word) (word : Word) (at end : ℕ) → at ≤ end → front ++ flat_map (λ (w : Word). w.text) words ≡ take at xs
    → word.text ≡ drop at (take end xs) → front ++ flat_map (λ (w : Word). w.text) (words ++ word ∷ []) ≡ take end xs
word-more xs front words word at end h here is =
    let texts : List Word → List ℕ = flat_map (λ (w : Word). w.text) in
    ap (λ l. front ++ l) (flat_map-append (λ (w : Word). w.text) words (word ∷ []))
    ∙ sym (append_assoc front (texts words) (word.text ++ []))
    ∙ ap (λ l. l ++ (word.text ++ [])) here
    ∙ ap (λ l. take at xs ++ l) (append-nil word.text ∙ is)
    ∙ onward xs at end h

-- one line more
pub line-more : (xs : List ℕ) (lines : List Line) (line : Line) (start at : ℕ) → at < length xs → get_or xs at 0 ≡ 10 → ended lines ≡ take start xs
    → take start xs ++ line_text line ≡ take at xs → ended (lines ++ line ∷ []) ≡ take (at + 1) xs
line-more xs lines line start at h feed here is =
    flat_map-append (λ (l : Line). line_text l ++ 10 ∷ []) lines (line ∷ [])
    ∙ ap (λ l. ended lines ++ l) (append-nil (line_text line ++ 10 ∷ []))
    ∙ sym (append_assoc (ended lines) (line_text line) (10 ∷ []))
    ∙ ap (λ l. (l ++ line_text line) ++ 10 ∷ []) here
    ∙ ap (λ l. l ++ 10 ∷ []) is
    ∙ ap (λ b. take at xs ++ b ∷ []) (sym feed)
    ∙ sym (take_more xs at 0 h)

regroup : (line ended last : List ℕ) → line ++ 10 ∷ (ended ++ last) ≡ ((line ++ 10 ∷ []) ++ ended) ++ last
regroup line ended last = sym (append_assoc (line ++ 10 ∷ []) ended last ∙ append_assoc line (10 ∷ []) (ended ++ last))

joined : (lines : List Line) (last : Line) → source_of (lines ++ last ∷ []) ≡ ended lines ++ line_text last
joined [] last = refl
joined (line ∷ []) last = regroup (line_text line) [] (line_text last)
joined (line ∷ next ∷ lines) last =
    ap (λ l. line_text line ++ 10 ∷ l) (joined (next ∷ lines) last) ∙ regroup (line_text line) (ended (next ∷ lines)) (line_text last)

-- the last line
pub lines-end : (xs : List ℕ) (lines : List Line) (last : Line) (start end : ℕ) → length xs ≤ end → ended lines ≡ take start xs
    → take start xs ++ line_text last ≡ take end xs → source_of (lines ++ last ∷ []) ≡ xs
lines-end xs lines last start end all here is = joined lines last ∙ ap (λ l. l ++ line_text last) here ∙ is ∙ take_all end xs all
