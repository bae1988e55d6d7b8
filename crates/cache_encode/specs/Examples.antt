-- Worked rows: the low text of a program with caches, and the texts of a post and of a creation, letter by letter (docs/TRANSLATION.md,
-- "Low text").
use Rattle.std.specs.Prelude.{◌≡◌, pos, true, List, ℕ, [], ◌∷◌, ◌++◌, codes}
use Rattle.np_syntax.specs.declared.value.Value as value
use Rattle.np_syntax.specs.declared.expression.ExprForm as expr
use Rattle.np_syntax.specs.declared.process.Proc.{Proc}
use Rattle.np_low_text.specs.LowText.{low_text, proc_text}
use Rattle.daemon_encode.specs.Examples.{prints_seven}
use Rattle.infrastructure_texts.specs.Pieces.{expression, variable, main, stop}
use Rattle.cache_encode.specs.Encoded.{encoded_cached}
use Rattle.infrastructure_texts.specs.CacheTexts.{post_text, agent_text}

abbrev pub main_line : List ℕ
main_line =
    codes "main at home = (print 7 | currentloc!home | *deliver?[x0 x1] -> (open x0 | <daemon@home>dack![main x1]) | cache!{}"
    ++ codes " | *found?[x2 x3] -> cache?x4 -> lookup x2 in x4 then x5 -> (x5?_ -> x5!x3 | cache!x4)"
    ++ codes " else new x6 : ^Site in (cache!(x4 with x2 -> x6) | x6!x3))\n"

abbrev pub daemon_line : List ℕ
daemon_line =
    codes "daemon at home = (lock!{main here} | here!home | *register?[x7 x8] -> lock?x9 -> new x10 : ^Site in (lock!(x9 with x7 -> x10) | x10!x8"
    ++ codes " | <x7@x8>ack![]) | *migrating?x11 -> lock?x12 -> lookup x11 in x12 then x13 -> (x13?x14 -> <x11@x14>ack![] | lock!x12) else 0"
    ++ codes " | *migrated?[x15 x16] -> lock?x17 -> lookup x15 in x17 then x18 -> (x18!x16 | <x15@x16>ack![] | lock!x17) else 0"
    ++ codes " | *message?[x19 x20] -> lock?x21 -> lookup x19 in x21 then x22 -> (x22?x23 -> <x19@x23>deliver![x20 x23] | lock!x21) else 0"
    ++ codes " | *dack?[x24 x25] -> lock?x26 -> lookup x24 in x26 then x27 -> (x27!x25 | lock!x26) else 0"
    ++ codes " | *where?[x28 x29] -> lock?x30 -> lookup x29 in x30 then x31 -> lookup x28 in x30 then x32"
    ++ codes " -> (x31?x33 -> (x31!x33 | x32?x34 -> (x32!x34 | <x28@x34>found![x29 x33])) | lock!x30) else 0 else 0)\n"

-- the low program of `print 7`
abbrev pub LowTextOfSeven : Type 0
LowTextOfSeven = low_text (encoded_cached prints_seven) ≡ main_line ++ daemon_line

-- `<x1@?>x0!7` in main, at node 5, whose binders are numbered from 2
abbrev pub posts_seven : Proc
posts_seven = post_text 1 5 (main 1) (variable 1) (variable 0) (expression (expr.Val (value.Int (pos 7)))) 2

abbrev pub TextOfPost : Type 0
TextOfPost =
    proc_text (codes "home" ∷ []) true posts_seven
    ≡ codes "cache?x2 -> lookup x1 in x2 then x3 -> (x3?x4 -> (agent x5 = migrate to x4 -> iflocal <x1>x0!7 then 0"
    ++ codes " else (<daemon@home>message![x1 pack(x0, 7)] | <daemon@home>where![main x1]) in 0 | x3!x4) | cache!x2)"
    ++ codes " else (<daemon@home>message![x1 pack(x0, 7)] | <daemon@home>where![main x1] | cache!x2)"

-- `agent x0 = 0 in 0` in main, at node 5, whose binders are numbered from 1
abbrev pub makes_idle : Proc
makes_idle = agent_text 1 5 (main 1) 0 1 2 3 4 (stop 5) (stop 5)

abbrev pub TextOfCreation : Type 0
TextOfCreation =
    proc_text (codes "home" ∷ []) true makes_idle
    ≡ codes "currentloc?x1 -> agent x0 = (ack?_ -> (0 | <main@x1>ack![] | currentloc!x1) | *deliver?[x2 x3] -> (open x2 | <daemon@home>dack![x0 x3])"
    ++ codes " | cache!{} | *found?[x4 x5] -> cache?x6 -> lookup x4 in x6 then x7 -> (x7?_ -> x7!x5 | cache!x6)"
    ++ codes " else new x8 : ^Site in (cache!(x6 with x4 -> x8) | x8!x5) | <daemon@home>register![x0 x1]) in ack?_ -> (0 | currentloc!x1)"
