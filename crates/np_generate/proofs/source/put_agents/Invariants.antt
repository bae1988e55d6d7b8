use Rattle.std.proofs.Common.{◌≡◌, ◌++◌, ◌-◌, map}
use Rattle.std.specs.List.{range_with_len}
use Rattle.np_generate.specs.Generated.{agent_line, text_of}
use Rattle.np_generate.proofs.source.put_agents.Given as goal

abbrev pub invariant-loop-agent : goal.invariant-loop-agent
invariant-loop-agent l = l.text ≡ l.initial.text ++ text_of (map agent_line (range_with_len 1 (l.agent - 1)))
