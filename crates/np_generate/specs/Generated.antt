-- The generated source, line by line (docs/COMMANDS.md, "The generated source").
use Rattle.std.specs.Prelude.{ℕ, ◌-◌, ◌*◌, ◌%◌, nat_eq, List, [], ◌∷◌, ◌++◌, map, codes, decimal, if◌then◌else◌}
use Rattle.std.specs.List.{flat_map, range_with_len}

unfoldable pub head : List (List ℕ)
head = codes "sites s0 s1 s2 s3 ;" ∷ codes "main at s0 = new go : ^Int in new tick : ^Int in" ∷ []

abbrev pub name : ℕ → List ℕ
name agent = codes "a" ++ decimal agent

-- the agent to which this one hands the token: main for the first, and for any other the one with the number before
abbrev pub next : ℕ → List ℕ
next agent = if nat_eq agent 1 then codes "main" else name (agent - 1)

unfoldable pub agent_line : ℕ → List ℕ
agent_line agent = codes "agent " ++ name agent ++ codes " = *go?k -> migrate to s" ++ decimal (agent % 4)
    ++ codes " -> (<" ++ next agent ++ codes "@?>go!k + 1 | <main@?>tick!k) in"

unfoldable pub last_line : ℕ → List ℕ
last_line agents = codes "(*tick?k -> print k | *go?k -> if k < " ++ decimal (10 * agents) ++ codes " then <" ++ name agents
    ++ codes "@?>go!k else 0 | go!0)"

-- the first two lines, a line for each agent, and the last line
abbrev pub lines : ℕ → List (List ℕ)
lines agents = head ++ map agent_line (range_with_len 1 agents) ++ last_line agents ∷ []

-- lines, each with a line feed
abbrev pub text_of : List (List ℕ) → List ℕ
text_of = flat_map (λ line. line ++ codes "\n")

abbrev pub generated : ℕ → List ℕ
generated agents = text_of (lines agents)
