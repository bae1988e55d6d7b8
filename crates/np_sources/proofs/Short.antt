-- A generated source is no longer than a source may be.
use Rattle.std.proofs.Common.{ℕ, zero, suc, ◌+◌, ◌*◌, ◌-◌, ◌%◌, ◌<◌, ◌≤◌, Bool, true, false, nat_eq, List, [], ◌∷◌, ◌++◌, length, map, codes, decimal, arith, length-append, if◌then◌else◌}
use Rattle.std.specs.List.{range_with_len}
use Rattle.std.proofs.lemmas.Fmt.{length-decimal-le}
use Rattle.std.proofs.lemmas.Grind.{flat_map-append}
use Rattle.np_syntax.specs.declared.limits.TheConstants.{LONGEST_SOURCE}
use Rattle.np_generate.specs.Generated.{agent_line, generated, head, last_line, name, next, text_of}
use Rattle.np_generate.specs.declared.source.TheConstants.{MOST_AGENTS}

abbrev with_feed : List ℕ → List ℕ
with_feed line = line ++ codes "\n"

append_le : (a b : List ℕ) (m n : ℕ) → length a ≤ m → length b ≤ n → length (a ++ b) ≤ m + n
append_le a b m n h k = omega (arith, length-append a b, h, k)

more_le : (a b m : ℕ) → a ≤ b → b ≤ m → a ≤ m
more_le a b m h k = omega (arith, h, k)

digits : (n : ℕ) → n < 10000 → length (decimal n) ≤ 4
digits n small = length-decimal-le 4 n (omega arith) (omega (arith, small)) (omega (arith, small))

name_short : (k : ℕ) → k < 10000 → length (name k) ≤ 5
name_short k small = append_le (codes "a") (decimal k) 1 4 (omega arith) (digits k small)

either_short : (b : Bool) (x y : List ℕ) → length x ≤ 5 → length y ≤ 5 → length (if b then x else y) ≤ 5
either_short true x y h k = h
either_short false x y h k = k

next_short : (k : ℕ) → k < 10000 → length (next k) ≤ 5
next_short k small = either_short (nat_eq k 1) (codes "main") (name (k - 1)) (omega arith) (name_short (k - 1) (omega (arith, small)))

line_short : (k : ℕ) → k < 10000 → length (agent_line k) ≤ 200
unfolding agent_line
line_short k small =
    let p : List ℕ = codes "agent " ++ name k in
    let q : List ℕ = p ++ codes " = *go?k -> migrate to s" in
    let r : List ℕ = q ++ decimal (k % 4) in
    let s : List ℕ = r ++ codes " -> (<" in
    let t : List ℕ = s ++ next k in
    let hp : length p ≤ 15 = append_le (codes "agent ") (name k) 10 5 (omega arith) (name_short k small) in
    let hq : length q ≤ 55 = append_le p (codes " = *go?k -> migrate to s") 15 40 hp (omega arith) in
    let hr : length r ≤ 59 = append_le q (decimal (k % 4)) 55 4 hq (digits (k % 4) (omega arith)) in
    let hs : length s ≤ 69 = append_le r (codes " -> (<") 59 10 hr (omega arith) in
    let ht : length t ≤ 74 = append_le s (next k) 69 5 hs (next_short k small) in
    more_le _ 114 200 (append_le t (codes "@?>go!k + 1 | <main@?>tick!k) in") 74 40 ht (omega arith)) (omega arith)

last_short : (agents : ℕ) → agents ≤ MOST_AGENTS → length (last_line agents) ≤ 200
unfolding last_line
last_short agents few =
    let p : List ℕ = codes "(*tick?k -> print k | *go?k -> if k < " ++ decimal (10 * agents) in
    let q : List ℕ = p ++ codes " then <" in
    let r : List ℕ = q ++ name agents in
    let few_digits : length (decimal (10 * agents)) ≤ 4 = digits (10 * agents) (omega (arith, few)) in
    let hp : length p ≤ 54 = append_le (codes "(*tick?k -> print k | *go?k -> if k < ") (decimal (10 * agents)) 50 4 (omega arith) few_digits in
    let hq : length q ≤ 64 = append_le p (codes " then <") 54 10 hp (omega arith) in
    let hr : length r ≤ 69 = append_le q (name agents) 64 5 hq (name_short agents (omega (arith, few))) in
    more_le _ 109 200 (append_le r (codes "@?>go!k else 0 | go!0)") 69 40 hr (omega arith)) (omega arith)

head_short : length (text_of head) ≤ 200
unfolding head
head_short = omega arith

-- so many lines from one on
lines_short : (n a : ℕ) → a + n ≤ 1000 → length (text_of (map agent_line (range_with_len a n))) ≤ 201 * n
lines_short zero a small = omega arith
lines_short (suc n) a small =
    let here : length (with_feed (agent_line a)) ≤ 201 = append_le (agent_line a) (codes "\n") 200 1 (line_short a (omega (arith, small))) (omega arith) in
    let rest : length (text_of (map agent_line (range_with_len (a + 1) n))) ≤ 201 * n = lines_short n (a + 1) (omega (arith, small)) in
    more_le _ _ (201 * suc n) (append_le (with_feed (agent_line a)) (text_of (map agent_line (range_with_len (a + 1) n))) 201 (201 * n) here rest) (omega arith)

pub short : (agents : ℕ) → agents ≤ MOST_AGENTS → length (generated agents) ≤ LONGEST_SOURCE
short agents few =
    let between = map agent_line (range_with_len 1 agents) in
    let last : length (text_of (last_line agents ∷ [])) ≤ 201 =
    append_le (with_feed (last_line agents)) [] 201 0 (append_le (last_line agents) (codes "\n") 200 1 (last_short agents few) (omega arith)) (omega arith) in
    let lines = lines_short agents 1 (omega (arith, few)) in
    let before = append_le (text_of head) (text_of between) 200 (201 * agents) head_short lines in
    let whole = append_le (text_of head ++ text_of between) (text_of (last_line agents ∷ [])) (200 + 201 * agents) 201 before last in
    rw (flat_map-append with_feed (head ++ between) (last_line agents ∷ []), flat_map-append with_feed head between)
    (more_le _ (200 + 201 * agents + 201) LONGEST_SOURCE whole (omega (arith, few)))
