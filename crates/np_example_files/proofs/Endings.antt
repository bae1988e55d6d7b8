-- The last item of a list is another one then, and what a file of examples says is followed line by line.
use Rattle.std.proofs.Common.{◌≡◌, ℕ, ◌+◌, ◌-◌, ◌^◌, ◌<◌, suc, List, [], ◌∷◌, ◌++◌, length, take, drop, get_or, set, map, min, false, Some, None, Bor, refl, sym, ap, subst, ◌∙◌, arith, length-append}
use Rattle.std.specs.Prelude.{OnOk, IfErr, Result, Ok, Err, string_bytes}
use Rattle.std.specs.Str.Lines.{lines}
use Rattle.std.proofs.lemmas.Result.{on_ok_weaker}
use Rattle.std.proofs.lemmas.List.{length-map, map-append}
use Rattle.std.proofs.Math.Seq.{take-suc, take-length, split_at}
use Rattle.np_syntax.specs.declared.limits.TheConstants.{LARGEST_NUMBER}
use Rattle.np_example_files.specs.declared.fail.ExampleFail.{ExampleFail}
use Rattle.np_example_files.specs.declared.fail.ExampleFail.TheVariants as fail
use Rattle.np_example_files.specs.declared.example.NamedText.{NamedText}
use Rattle.np_example_files.specs.declared.example.Example.{Example}
use Rattle.np_example_files.specs.Examples.{Said, begun, said, text_said}
use Rattle.np_example_files.specs.Pieces.{Adds, Piece}
use Rattle.np_example_files.specs.Reading.{AddsToLast, AreRead, begins, more, says, before, within, FailsAtLine, IsFaultAt, IsFaultOf, IsNoLine, Reads, Says, is_silent, number_behind, title_of}

-- ---- the last of a list

pub last_split : {X : Type 0} (xs : List X) (d : X) → 0 < length xs → take (length xs - 1) xs ++ get_or xs (length xs - 1) d ∷ [] ≡ xs
last_split xs d some =
    let less : length xs - 1 < length xs = omega arith in
    let at : suc (length xs - 1) ≡ length xs = omega arith in
    sym (take-suc xs (length xs - 1) d less) ∙ ap (λ n. take n xs) at ∙ take-length xs

set_last : {X : Type 0} (front : List X) (x y : X) → set (front ++ x ∷ []) (length front) y ≡ front ++ y ∷ []
set_last [] x y = refl
set_last (a ∷ front) x y = ap (λ xs. a ∷ xs) (set_last front x y)

-- what is seen of a list and of the list with another last item
pub record LastSeen {X Y : Type 0} (f : X → Y) (xs : List X) (n : ℕ) (x y : X) : Type 0 where
  pub front : List Y
  pub was : map f xs ≡ front ++ f x ∷ []
  pub is : map f (set xs (n - 1) y) ≡ front ++ f y ∷ []

pub last_seen : {X Y : Type 0} (f : X → Y) (xs : List X) (n : ℕ) (x y : X) → n ≡ length xs → 0 < length xs → x ≡ get_or xs (n - 1) x → LastSeen f xs n x y
last_seen {X} f xs n x y long some item =
    let front : List X = take (n - 1) xs in
    let split : xs ≡ front ++ x ∷ [] = sym (last_split xs x some) ∙ ap (λ m. take (m - 1) xs ++ get_or xs (m - 1) x ∷ []) (sym long) ∙ ap (λ z. front ++ z ∷ []) (sym item) in
    let counted : n ≡ length front + 1 = long ∙ ap length split ∙ length-append front (x ∷ []) in
    let at : n - 1 ≡ length front = omega (arith, counted) in
    record {
      front = map f front;
      was = ap (map f) split ∙ map-append f front (x ∷ []);
      is = ap (map f) (ap (λ zs. set zs (n - 1) y) split ∙ ap (λ k. set (front ++ x ∷ []) k y) at ∙ set_last front x y) ∙ map-append f front (y ∷ []);
    }

-- ---- a piece that is added to the last text

pub added_last : (r : Result (Unit {0}) ExampleFail) (piece : Piece) (texts : List NamedText) (n : ℕ) (old new : NamedText) → LastSeen text_said texts n old new
    → string_bytes new.name ≡ string_bytes old.name → OnOk r (Adds piece old.bytes.items new.bytes.items) → OnOk r (AddsToLast piece (map text_said texts) (map text_said (set texts (n - 1) new)))
added_last r piece texts n old new seen name adds = on_ok_weaker r (λ added. record {
  front = seen.front;
  name = string_bytes old.name;
  before = old.bytes.items;
  after = new.bytes.items;
  was = seen.was;
  is = seen.is ∙ ap (λ z. seen.front ++ (z, new.bytes.items) ∷ []) name;
  adds = added;
}) adds

-- ---- a line of a file

pub title_read : (number : ℕ) (line title : List ℕ) (xs ys : List Example) (example : Example) → title_of line ≡ Some title → ys ≡ xs ++ example ∷ [] → said example ≡ begun title number
    → Reads number line (map said xs) (map said ys)
title_read number line title xs ys example t e new =
    let seen : map said xs ++ begun title number ∷ [] ≡ map said ys = ap (λ z. map said xs ++ z ∷ []) (sym new) ∙ sym (map-append said xs (example ∷ [])) ∙ ap (map said) (sym e) in
    subst (Reads number line (map said xs)) seen (begins (map said xs) title t)

pub line_said : (r : Result (Unit {0}) ExampleFail) (number : ℕ) (line : List ℕ) (xs : List Example) (n : ℕ) (old new : Example) → LastSeen said xs n old new
    → title_of line ≡ None → is_silent line ≡ false → OnOk r (Says line (said old) (said new)) → OnOk r (Reads number line (map said xs) (map said (set xs (n - 1) new)))
line_said r number line xs n old new seen t s h = on_ok_weaker r (λ told. rw (seen.was, seen.is) (says seen.front (said old) (said new) t s told)) h

fault_at : (number : ℕ) (line : List ℕ) (xs front : List Said) (last : Said) (e : ExampleFail) → xs ≡ front ++ last ∷ [] → title_of line ≡ None → is_silent line ≡ false
    → IsFaultOf number line last e → IsFaultAt number line xs e
fault_at number line xs front last fail.Memory is t s h = tt
fault_at number line xs front last fail.Device is t s h = h
fault_at number line xs front last (fail.Line n) is t s h = (h.0, subst (IsNoLine line) (sym is) (within front last t s h.1))

pub line_refused : (r : Result (Unit {0}) ExampleFail) (number : ℕ) (line : List ℕ) (xs : List Said) (front : List Said) (last : Said) → xs ≡ front ++ last ∷ []
    → title_of line ≡ None → is_silent line ≡ false → IfErr r (IsFaultOf number line last) → IfErr r (IsFaultAt number line xs)
line_refused (Ok u) number line xs front last is t s h = tt
line_refused (Err e) number line xs front last is t s h = fault_at number line xs front last e is t s h

pub none_before : (line : List ℕ) (xs : List Example) → length xs ≡ 0 → title_of line ≡ None → is_silent line ≡ false → IsNoLine line (map said xs)
none_before line [] e t s = before t s
none_before line (x ∷ xs) e t s = absurd (omega (arith, e))

-- ---- a file

pub one_read : (seen : List (Bor (List ℕ))) (x : Bor (List ℕ)) (number : ℕ) (old new : List Said) → AreRead (map (λ (line : Bor (List ℕ)). line.now) seen) old
    → number ≡ number_behind (map (λ (line : Bor (List ℕ)). line.now) seen) → Reads number x.now old new → AreRead (map (λ (line : Bor (List ℕ)). line.now) (seen ++ x ∷ [])) new
one_read seen x number old new far e reads =
    subst (λ ls. AreRead ls new) (sym (map-append (λ (line : Bor (List ℕ)). line.now) seen (x ∷ [])))
    (more (map (λ (line : Bor (List ℕ)). line.now) seen) x.now old new far (subst (λ k. Reads k x.now old new) e reads))

pub fails_at : (text : List ℕ) (seen : List (Bor (List ℕ))) (x : Bor (List ℕ)) (number : ℕ) (old : List Said) (e : ExampleFail)
    → map (λ (line : Bor (List ℕ)). line.now) seen ≡ take (length seen) (lines text) → (length seen < length (lines text)) × (x.now ≡ get_or (lines text) (length seen) x.now)
    → AreRead (map (λ (line : Bor (List ℕ)). line.now) seen) old → number ≡ number_behind (map (λ (line : Bor (List ℕ)). line.now) seen) → IsFaultAt number x.now old e → FailsAtLine text e
fails_at text seen x number old e so_far turn far at fault = record {
  front = map (λ (line : Bor (List ℕ)). line.now) seen;
  line = x.now;
  behind = drop (suc (length seen)) (lines text);
  is = split_at (lines text) (length seen) x.now turn.0 ∙ ap (λ ls. ls ++ get_or (lines text) (length seen) x.now ∷ drop (suc (length seen)) (lines text)) (sym so_far)
      ∙ ap (λ l. map (λ (line : Bor (List ℕ)). line.now) seen ++ l ∷ drop (suc (length seen)) (lines text)) (sym turn.1);
  examples = old;
  read = far;
  fault = subst (λ k. IsFaultAt k x.now old e) at fault;
}

pub failing : {T : Type 0} (text : List ℕ) (r : Result T ExampleFail) (e : ExampleFail) → FailsAtLine text e → r ≡ Err e → IfErr r (FailsAtLine text)
failing text r e fails is = rw is fails

pub number_next : (seen : List (Bor (List ℕ))) (number next : ℕ) → number ≡ min (length seen) LARGEST_NUMBER → next ≡ min (number + 1) (2 ^ 32 - 1)
    → next ≡ number_behind (map (λ (line : Bor (List ℕ)). line.now) seen)
number_next seen number next e f =
    let same : length (map (λ (line : Bor (List ℕ)). line.now) seen) ≡ length seen = length-map seen (λ (line : Bor (List ℕ)). line.now) in
    omega arith

pub number_more : (seen : List (Bor (List ℕ))) (x : Bor (List ℕ)) (number next : ℕ) → number ≡ min (length seen) LARGEST_NUMBER → next ≡ min (number + 1) (2 ^ 32 - 1)
    → next ≡ min (length (seen ++ x ∷ [])) LARGEST_NUMBER
number_more seen x number next e f =
    let same : length (seen ++ x ∷ []) ≡ length seen + 1 = length-append seen (x ∷ []) in
    omega arith
