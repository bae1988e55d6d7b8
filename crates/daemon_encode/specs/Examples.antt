-- A worked row: the low text of a program, letter by letter (docs/TRANSLATION.md, "Low text").
use Rattle.std.specs.Prelude.{◌≡◌, pos, List, ℕ, [], ◌∷◌, ◌++◌, codes}
use Rattle.np_syntax.specs.declared.value.Value as value
use Rattle.np_syntax.specs.declared.expression.ExprForm as expr
use Rattle.np_syntax.specs.declared.process.Role.TheVariants as role
use Rattle.np_syntax.specs.declared.process.ProcForm as form
use Rattle.np_syntax.specs.declared.program.Program.{Program}
use Rattle.np_low_text.specs.LowText.{low_text}
use Rattle.daemon_encode.specs.Encoded.{encoded}

-- sites home ; main at home = print 7
abbrev pub prints_seven : Program
prints_seven = record {
  sites = codes "home" ∷ [];
  at = 0;
  main = record {
    tag = record { node = 1; role = role.Plain };
    at = 28;
    form = form.Print (record { at = 34; form = expr.Val (value.Int (pos 7)) });
  };
  binders = 0;
}

abbrev pub main_line : List ℕ
main_line = codes "main at home = (print 7 | currentloc!home | *deliver?[x0 x1] -> (open x0 | <daemon@home>dack![main x1]))\n"

abbrev pub daemon_line : List ℕ
daemon_line =
    codes "daemon at home = (lock!{main here} | here!home | *register?[x2 x3] -> lock?x4 -> new x5 : ^Site in (lock!(x4 with x2 -> x5) | x5!x3"
    ++ codes " | <x2@x3>ack![]) | *migrating?x6 -> lock?x7 -> lookup x6 in x7 then x8 -> (x8?x9 -> <x6@x9>ack![] | lock!x7) else 0"
    ++ codes " | *migrated?[x10 x11] -> lock?x12 -> lookup x10 in x12 then x13 -> (x13!x11 | <x10@x11>ack![] | lock!x12) else 0"
    ++ codes " | *message?[x14 x15] -> lock?x16 -> lookup x14 in x16 then x17 -> (x17?x18 -> <x14@x18>deliver![x15 x18] | lock!x16) else 0"
    ++ codes " | *dack?[x19 x20] -> lock?x21 -> lookup x19 in x21 then x22 -> (x22!x20 | lock!x21) else 0)\n"

-- the low program of `print 7`
abbrev pub LowTextOfSeven : Type 0
LowTextOfSeven = low_text (encoded prints_seven) ≡ main_line ++ daemon_line
