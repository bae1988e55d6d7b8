-- The worked row of the low text: server by server, since the whole takes too many steps to compute at once.
use Rattle.std.proofs.Common.{◌≡◌, ℕ, ◌+◌, true, List, [], ◌∷◌, ◌++◌, refl, ap, ◌∙◌}
use Rattle.std.specs.Prelude.{codes, pos}
use Rattle.std.specs.Fmt.{digits}
use Rattle.np_syntax.specs.Printed.{value_text}
use Rattle.np_syntax.specs.declared.value.Value as value
use Rattle.np_syntax.specs.declared.types.Ty.TheBlock as ty_block
use Rattle.np_syntax.specs.declared.expression.ExprForm as expr
use Rattle.np_syntax.specs.declared.expression.ExprForm.TheBlock as expr_block
use Rattle.np_syntax.specs.declared.pattern.PatForm.TheBlock as pat_block
use Rattle.np_syntax.specs.declared.process.Role.TheVariants as role
use Rattle.np_syntax.specs.declared.process.Proc.{Proc}
use Rattle.np_syntax.specs.declared.process.ProcForm as form
use Rattle.np_syntax.specs.declared.process.ProcForm.TheBlock as block
use Rattle.np_low_text.specs.LowText.{line_text, proc_text}
use Rattle.infrastructure_texts.specs.Pieces.{gives, here, main, site}
use Rattle.infrastructure_texts.specs.Daemon.{first_places, register_server, migrating_server, migrated_server, message_server, dack_server, daemon_text}
use Rattle.daemon_encode.specs.declared.translated.Translated.{Translated}
use Rattle.daemon_encode.specs.Encoded.{kept, translated, encoded}
use Rattle.infrastructure_texts.specs.Texts.{main_text}
use Rattle.daemon_encode.specs.Examples.{prints_seven, main_line, daemon_line, LowTextOfSeven}
use Rattle.daemon_encode.proofs.Forms.{translated-form, form-print}
use Rattle.np_syntax.proofs.Texts.{text-int, text-site}
use denote.Hole.Carrier as carrier

abbrev home : List (List ℕ)
home = codes "home" ∷ []

abbrev text : Proc → List ℕ
text p = proc_text home true p

-- print 7, and what it becomes
abbrev seven : Translated
seven = kept (record { node = 1; role = role.Plain }) 28 (form.Print (record { at = 34; form = expr.Val (value.Int (pos 7)) })) 0

seven_is : translated 1 prints_seven.main (main 1) 0 ≡ seven
seven_is = translated-form 1 prints_seven.main (main 1) 0 ∙ form-print 1 (record { node = 1; role = role.Plain }) 28 (main 1) 0 (record { at = 34; form = expr.Val (value.Int (pos 7)) })

main_written : line_text home (codes "main") 0 (main_text 1 0 0 1 seven.proc) ≡ main_line
unfolding digits block.hidden-the_row-ProcForm-0 expr_block.hidden-the_row-Expr-1 expr_block.hidden-the_row-ExprForm-0 pat_block.hidden-the_row-Pat-0 carrier.hidden
main_written = rw (text-int home (pos 7), text-site home 0) refl

main_is : line_text home (codes "main") 0 (encoded prints_seven).main ≡ main_line
main_is = ap (λ (t : Translated). line_text home (codes "main") 0 (main_text 1 0 t.next (t.next + 1) t.proc)) seven_is ∙ main_written

first_is : text (first_places 1) ≡ codes "lock!{main here}"
unfolding value_text digits block.hidden-the_row-ProcForm-0 expr_block.hidden-the_row-Expr-1 expr_block.hidden-the_row-ExprForm-0 pat_block.hidden-the_row-Pat-0 carrier.hidden
first_is = refl

here_is : text (gives 0 (here 1) (site 0)) ≡ codes "here!home"
unfolding block.hidden-the_row-ProcForm-0 expr_block.hidden-the_row-ExprForm-0 carrier.hidden
here_is = rw (text-site home 0) refl

register_is : text (register_server 1 2 3 4 5) ≡ codes "*register?[x2 x3] -> lock?x4 -> new x5 : ^Site in (lock!(x4 with x2 -> x5) | x5!x3 | <x2@x3>ack![])"
unfolding value_text digits block.hidden-the_row-ProcForm-0 expr_block.hidden-the_row-Expr-1 expr_block.hidden-the_row-ExprForm-0 pat_block.hidden-the_row-Pat-0 ty_block.hidden-the_row-Ty-0 carrier.hidden
register_is = refl

migrating_is : text (migrating_server 1 6 7 8 9) ≡ codes "*migrating?x6 -> lock?x7 -> lookup x6 in x7 then x8 -> (x8?x9 -> <x6@x9>ack![] | lock!x7) else 0"
unfolding value_text digits block.hidden-the_row-ProcForm-0 expr_block.hidden-the_row-Expr-1 expr_block.hidden-the_row-ExprForm-0 pat_block.hidden-the_row-Pat-0 carrier.hidden
migrating_is = refl

migrated_is : text (migrated_server 1 10 11 12 13) ≡ codes "*migrated?[x10 x11] -> lock?x12 -> lookup x10 in x12 then x13 -> (x13!x11 | <x10@x11>ack![] | lock!x12) else 0"
unfolding value_text digits block.hidden-the_row-ProcForm-0 expr_block.hidden-the_row-Expr-1 expr_block.hidden-the_row-ExprForm-0 pat_block.hidden-the_row-Pat-0 carrier.hidden
migrated_is = refl

message_is : text (message_server 1 14 15 16 17 18) ≡ codes "*message?[x14 x15] -> lock?x16 -> lookup x14 in x16 then x17 -> (x17?x18 -> <x14@x18>deliver![x15 x18] | lock!x16) else 0"
unfolding value_text digits block.hidden-the_row-ProcForm-0 expr_block.hidden-the_row-Expr-1 expr_block.hidden-the_row-ExprForm-0 pat_block.hidden-the_row-Pat-0 carrier.hidden
message_is = refl

dack_is : text (dack_server 1 19 20 21 22) ≡ codes "*dack?[x19 x20] -> lock?x21 -> lookup x19 in x21 then x22 -> (x22!x20 | lock!x21) else 0"
unfolding value_text digits block.hidden-the_row-ProcForm-0 expr_block.hidden-the_row-Expr-1 expr_block.hidden-the_row-ExprForm-0 pat_block.hidden-the_row-Pat-0 carrier.hidden
dack_is = refl

-- the daemon's line, of the texts of its parts
abbrev joined : List ℕ → List ℕ → List ℕ → List ℕ → List ℕ → List ℕ → List ℕ → List ℕ
joined a b c d e f g =
    codes "daemon at home = " ++ (codes "(" ++ (a ++ codes " | " ++ b ++ codes " | " ++ c ++ codes " | " ++ d ++ codes " | " ++ e ++ codes " | " ++ f ++ codes " | " ++ g) ++ codes ")") ++ codes "\n"

line_is : line_text home (codes "daemon") 0 (daemon_text 1 0 2)
    ≡ joined (text (first_places 1)) (text (gives 0 (here 1) (site 0))) (text (register_server 1 2 3 4 5)) (text (migrating_server 1 6 7 8 9)) (text (migrated_server 1 10 11 12 13))
    (text (message_server 1 14 15 16 17 18)) (text (dack_server 1 19 20 21 22))
unfolding block.hidden-the_row-ProcForm-0 carrier.hidden
line_is = refl

daemon_is : line_text home (codes "daemon") 0 (daemon_text 1 0 2) ≡ daemon_line
daemon_is = line_is ∙ (λ i. joined (first_is i) (here_is i) (register_is i) (migrating_is i) (migrated_is i) (message_is i) (dack_is i))

behind_is : line_text home (codes "daemon") 0 (encoded prints_seven).daemon ≡ daemon_line
behind_is = ap (λ (t : Translated). line_text home (codes "daemon") 0 (daemon_text 1 0 (t.next + 2))) seven_is ∙ daemon_is

pub low_text-of-seven : LowTextOfSeven
low_text-of-seven = λ i. main_is i ++ behind_is i
