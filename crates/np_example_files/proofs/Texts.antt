-- Texts to which a loop adds, turn by turn.
use Rattle.std.proofs.Common.{◌≡◌, ℕ, ◌+◌, List, [], ◌∷◌, ◌++◌, map, Option, Some, None, Bor, refl, sym, ap, subst, ◌∙◌, append_assoc, add-one}
use Rattle.std.specs.Prelude.{IfErr, OnOk, Result, Ok, Err}
use Rattle.std.specs.Option.{ok_or}
use Rattle.np_example_files.specs.declared.fail.ExampleFail.{ExampleFail}
use Rattle.np_example_files.specs.declared.fail.ExampleFail.TheVariants as fail
use Rattle.np_example_files.specs.Numbers.{number_below, number_or_refusal}
use Rattle.std.specs.declared.str.SplitWhitespace.{SplitWhitespace}
use Rattle.std.specs.Iterator.{Yields}
use Rattle.std.specs.Str.Iter.{split_whitespace_steps, split_whitespace_rest}
use Rattle.np_example_files.specs.Pieces.{Adds, IsFault, lines_between, Numbered, part_of, part_or_refused, HasOtherWord, HaveWords, IsFirstWord, IsLonger, byte_of, tree}

-- ---- longer texts

pub longer : (old mid new more : List ℕ) → mid ≡ old ++ more → IsLonger mid new → IsLonger old new
longer old mid new more e l = record { bytes = more ++ l.bytes; is = l.is ∙ ap (λ (xs : List ℕ). xs ++ l.bytes) e ∙ append_assoc old more l.bytes }

-- ---- a text so many times, and trees

pub tree-more : (leaf : List ℕ) (n : ℕ) → tree leaf (n + 1) ≡ 40 ∷ (tree leaf n ++ (124 ∷ (tree leaf n ++ (41 ∷ []))))
tree-more leaf n = rw (add-one n) (simp append_assoc)

-- ---- bytes by their numbers

-- the words so far are the numbers of what was added
pub record NumberedSoFar (old new : List ℕ) (words : List (List ℕ)) : Type 0 where
  pub bytes : List ℕ
  pub is : new ≡ old ++ bytes
  pub numbers : map byte_of words ≡ map Some bytes

first_word : (s t : SplitWhitespace) (x : Bor (List ℕ)) → split_whitespace_steps s (Some x) t → IsFirstWord (split_whitespace_rest s) x.now (split_whitespace_rest t)
first_word s t x h = record { gap = h.0; is = h.1; some = h.2; blank = h.3; whole = h.4; more = h.5.0; ends = h.5.1 }

have_words : (s t : SplitWhitespace) (xs : List (Bor (List ℕ))) → Yields split_whitespace_steps s xs t
    → HaveWords (split_whitespace_rest s) (map (λ (x : Bor (List ℕ)). x.now) xs) (split_whitespace_rest t)
have_words s t [] e = ap split_whitespace_rest e
have_words s t (x ∷ xs) y = (split_whitespace_rest y.0, first_word s y.0 x y.1, have_words y.0 t xs y.2)

one_more : (text word rest more : List ℕ) (words : List (List ℕ)) → HaveWords text words rest → IsFirstWord rest word more → HaveWords text (words ++ word ∷ []) more
one_more text word rest more [] e first = (more, subst (λ (t : List ℕ). IsFirstWord t word more) (sym e) first, refl)
one_more text word rest more (w ∷ words) h first = (h.0, h.1, one_more h.0 word rest more words h.2 first)

pub numbered : (text old new : List ℕ) (s t u : SplitWhitespace) (xs : List (Bor (List ℕ))) → split_whitespace_rest s ≡ text → Yields split_whitespace_steps s xs t
    → NumberedSoFar old new (map (λ (x : Bor (List ℕ)). x.now) xs) → split_whitespace_steps t None u → Adds (Numbered text) old new
numbered text old new s t u xs e y far last = record {
  bytes = far.bytes;
  is = far.is;
  said = record {
    words = map (λ (x : Bor (List ℕ)). x.now) xs;
    rest = split_whitespace_rest t;
    begins = subst (λ (bs : List ℕ). HaveWords bs (map (λ (x : Bor (List ℕ)). x.now) xs) (split_whitespace_rest t)) e (have_words s t xs y);
    ends = last.1;
    numbers = far.numbers;
  };
}

pub other_word : (text : List ℕ) (s t u : SplitWhitespace) (xs : List (Bor (List ℕ))) (x : Bor (List ℕ)) → split_whitespace_rest s ≡ text → Yields split_whitespace_steps s xs t
    → split_whitespace_steps t (Some x) u → byte_of x.now ≡ None → HasOtherWord text
other_word text s t u xs x e y step none = record {
  words = map (λ (z : Bor (List ℕ)). z.now) xs;
  word = x.now;
  rest = split_whitespace_rest u;
  begins = one_more text x.now (split_whitespace_rest t) (split_whitespace_rest u) (map (λ (z : Bor (List ℕ)). z.now) xs)
      (subst (λ (bs : List ℕ). HaveWords bs (map (λ (z : Bor (List ℕ)). z.now) xs) (split_whitespace_rest t)) e (have_words s t xs y)) (first_word t u x step);
  other = none;
}

refused : (o : Option ℕ) (line : ℕ) (e : ExampleFail) → ok_or o (fail.Line line) ≡ Err e → (o ≡ None) × (e ≡ fail.Line line)
refused None line e same = (refl, cc)
refused (Some n) line e same = absurd cc

-- a number that was refused
pub no_number : (bound line : ℕ) (text : List ℕ) (e : ExampleFail) (r : Result ℕ ExampleFail) → r ≡ number_or_refusal bound text line → r ≡ Err e
    → (number_below bound text ≡ None) × (e ≡ fail.Line line)
no_number bound line text e r is was = refused (number_below bound text) line e (sym is ∙ was)

pub faulty_number : (text : List ℕ) (number : ℕ) (e : ExampleFail) (r : Result (Unit {0}) ExampleFail) → HasOtherWord text → e ≡ fail.Line number → r ≡ Err e
    → IfErr r (IsFault (Numbered text) number)
faulty_number text number e r other same is = rw (is, same) (refl, other)

-- ---- parts of files

pub part_added : (r : Result (Unit {0}) ExampleFail) (rest name old new held : List ℕ) (first last : ℕ) → part_of rest ≡ Some (first, last, name)
    → OnOk r (new ≡ old ++ lines_between first last held) → OnOk r (Adds (part_or_refused (part_of rest)) old new)
part_added (Ok u) rest name old new held first last e h = rw e (record { bytes = lines_between first last held; is = h; said = (held, refl) })
part_added (Err f) rest name old new held first last e h = tt
