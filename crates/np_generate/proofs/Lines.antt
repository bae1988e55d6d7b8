-- The lines of the generated source, piece by piece.
use Rattle.std.proofs.Common.{◌≡◌, ℕ, ◌+◌, ◌-◌, ◌*◌, ◌%◌, ◌≤◌, decimal, List, [], ◌∷◌, ◌++◌, map, codes, ap, sym, ◌∙◌, append_assoc, append-nil, arith}
use Rattle.std.specs.List.{range_with_len}
use Rattle.std.proofs.lemmas.List.{flat_map_more}
use Rattle.std.proofs.lemmas.List.Concat.{flat_map-append}
use Rattle.std.proofs.lemmas.List.FromFn.{map-range_with_len_more}
use Rattle.np_syntax.proofs.Joining.{five, seven}
use Rattle.np_generate.specs.Generated.{head, name, next, agent_line, last_line, text_of, generated}

-- the lines up to this agent, and one more
pub one_more : (text : List ℕ) (agent : ℕ) → 1 ≤ agent
    → text ++ text_of (map agent_line (range_with_len 1 (agent - 1))) ++ agent_line agent ++ codes "\n" ≡ text ++ text_of (map agent_line (range_with_len 1 ((agent + 1) - 1)))
one_more text agent some =
    let before = range_with_len 1 (agent - 1) in
    let longer : (agent + 1) - 1 ≡ (agent - 1) + 1 = omega (arith, some) in
    append_assoc (text ++ text_of (map agent_line before)) (agent_line agent) (codes "\n")
    ∙ flat_map_more (λ line. line ++ codes "\n") text (map agent_line before) (agent_line agent)
    ∙ ap (λ lines. text ++ text_of lines) (sym (map-range_with_len_more agent_line 1 (agent - 1) agent (omega (arith, some))))
    ∙ ap (λ n. text ++ text_of (map agent_line (range_with_len 1 n))) (sym longer)

pub agent_steps : (text : List ℕ) (agent : ℕ) {a b c d e f : List ℕ} → a ≡ text ++ codes "agent " → b ≡ a ++ name agent → c ≡ b ++ codes " = *go?k -> migrate to s"
    → d ≡ c ++ decimal (agent % 4) → e ≡ d ++ codes " -> (<" → f ≡ e ++ next agent
    → f ++ codes "@?>go!k + 1 | <main@?>tick!k) in" ≡ text ++ agent_line agent
unfolding agent_line
agent_steps text agent a b c d e f = rw (f, e, d, c, b, a) (seven text _ (name agent) _ (decimal (agent % 4)) _ (next agent) _)

pub last_steps : (text : List ℕ) (agents : ℕ) {a b c d : List ℕ} → a ≡ text ++ codes "(*tick?k -> print k | *go?k -> if k < " → b ≡ a ++ decimal (10 * agents)
    → c ≡ b ++ codes " then <" → d ≡ c ++ name agents → d ++ codes "@?>go!k else 0 | go!0)" ≡ text ++ last_line agents
unfolding last_line
last_steps text agents a b c d = rw (d, c, b, a) (five text _ (decimal (10 * agents)) _ (name agents) _)

pub whole : (agents : ℕ) → text_of head ++ text_of (map agent_line (range_with_len 1 agents)) ++ last_line agents ++ codes "\n" ≡ generated agents
whole agents =
    let middle = map agent_line (range_with_len 1 agents) in
    let end = last_line agents ∷ [] in
    append_assoc (text_of head ++ text_of middle) (last_line agents) (codes "\n")
    ∙ ap (λ l. text_of head ++ text_of middle ++ l) (sym (append-nil (last_line agents ++ codes "\n")))
    ∙ ap (λ l. l ++ text_of end) (sym (flat_map-append (λ line. line ++ codes "\n") head middle))
    ∙ sym (flat_map-append (λ line. line ++ codes "\n") (head ++ middle) end)
