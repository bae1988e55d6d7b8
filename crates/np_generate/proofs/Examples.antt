-- The sources for one agent and for two, as they are written out.
use Rattle.std.proofs.Common.{◌≡◌, ◌++◌, codes, refl}
use Rattle.std.specs.Fmt.{digits}
use Rattle.np_generate.specs.Generated.{head, agent_line, last_line, generated}

one : generated 1 ≡ codes "sites s0 s1 s2 s3 ;\n"
    ++ codes "main at s0 = new go : ^Int in new tick : ^Int in\n"
    ++ codes "agent a1 = *go?k -> migrate to s1 -> (<main@?>go!k + 1 | <main@?>tick!k) in\n"
    ++ codes "(*tick?k -> print k | *go?k -> if k < 10 then <a1@?>go!k else 0 | go!0)\n"
unfolding head agent_line last_line digits
one = refl

two : generated 2 ≡ codes "sites s0 s1 s2 s3 ;\n"
    ++ codes "main at s0 = new go : ^Int in new tick : ^Int in\n"
    ++ codes "agent a1 = *go?k -> migrate to s1 -> (<main@?>go!k + 1 | <main@?>tick!k) in\n"
    ++ codes "agent a2 = *go?k -> migrate to s2 -> (<a1@?>go!k + 1 | <main@?>tick!k) in\n"
    ++ codes "(*tick?k -> print k | *go?k -> if k < 20 then <a2@?>go!k else 0 | go!0)\n"
unfolding head agent_line last_line digits
two = refl
