-- The worked rows of the low text: part by part, since the whole takes too many steps to compute at once.
use Rattle.std.proofs.Common.{◌≡◌, ℕ, ◌+◌, true, List, [], ◌∷◌, ◌++◌, refl, ap, ◌∙◌}
use Rattle.std.specs.Prelude.{codes, pos}
use Rattle.std.specs.Fmt.{digits}
use Rattle.np_syntax.specs.Printed.{value_text}
use Rattle.np_syntax.specs.declared.value.Value as value
use Rattle.np_syntax.specs.declared.types.Ty.TheBlock as ty_block
use Rattle.np_syntax.specs.declared.expression.ExprForm as expr
use Rattle.np_syntax.specs.declared.expression.ExprForm.TheBlock as expr_block
use Rattle.np_syntax.specs.declared.pattern.PatForm.TheBlock as pat_block
use Rattle.np_syntax.specs.declared.process.Role.TheVariants as role
use Rattle.np_syntax.specs.declared.process.Proc.{Proc}
use Rattle.np_syntax.specs.declared.process.ProcForm as form
use Rattle.np_syntax.specs.declared.process.ProcForm.TheBlock as block
use Rattle.np_low_text.specs.LowText.{line_text, proc_text}
use Rattle.infrastructure_texts.specs.Pieces.{gives, here, main, site}
use Rattle.infrastructure_texts.specs.Daemon.{first_places, register_server, migrating_server, migrated_server, message_server, dack_server}
use Rattle.daemon_encode.specs.declared.translated.Translated.{Translated}
use Rattle.daemon_encode.specs.Encoded.{kept}
use Rattle.daemon_encode.specs.Examples.{prints_seven}
use Rattle.infrastructure_texts.specs.CacheDaemon.{where_server, cached_daemon}
use Rattle.cache_encode.specs.Encoded.{cached, encoded_cached}
use Rattle.infrastructure_texts.specs.CacheTexts.{main_text}
use Rattle.cache_encode.specs.Examples.{main_line, daemon_line, LowTextOfSeven, TextOfPost, TextOfCreation}
use Rattle.cache_encode.proofs.Forms.{cached-form, form-print}
use Rattle.np_syntax.proofs.Texts.{text-int, text-site}
use denote.Hole.Carrier as carrier

abbrev home : List (List ℕ)
home = codes "home" ∷ []

abbrev text : Proc → List ℕ
text p = proc_text home true p

-- print 7, and what it becomes
abbrev seven : Translated
seven = kept (record { node = 1; role = role.Plain }) 28 (form.Print (record { at = 34; form = expr.Val (value.Int (pos 7)) })) 0

seven_is : cached 1 prints_seven.main (main 1) 0 ≡ seven
seven_is = cached-form 1 prints_seven.main (main 1) 0 ∙ form-print 1 (record { node = 1; role = role.Plain }) 28 (main 1) 0 (record { at = 34; form = expr.Val (value.Int (pos 7)) })

main_written : line_text home (codes "main") 0 (main_text 1 0 0 1 2 seven.proc) ≡ main_line
unfolding value_text digits block.hidden-the_row-ProcForm-0 expr_block.hidden-the_row-Expr-1 expr_block.hidden-the_row-ExprForm-0 pat_block.hidden-the_row-Pat-0 ty_block.hidden-the_row-Ty-0 carrier.hidden
main_written = rw (text-int home (pos 7), text-site home 0) refl

main_is : line_text home (codes "main") 0 (encoded_cached prints_seven).main ≡ main_line
main_is = ap (λ (t : Translated). line_text home (codes "main") 0 (main_text 1 0 t.next (t.next + 1) (t.next + 2) t.proc)) seven_is ∙ main_written

first_is : text (first_places 1) ≡ codes "lock!{main here}"
unfolding value_text digits block.hidden-the_row-ProcForm-0 expr_block.hidden-the_row-Expr-1 expr_block.hidden-the_row-ExprForm-0 pat_block.hidden-the_row-Pat-0 carrier.hidden
first_is = refl

here_is : text (gives 0 (here 1) (site 0)) ≡ codes "here!home"
unfolding block.hidden-the_row-ProcForm-0 expr_block.hidden-the_row-ExprForm-0 carrier.hidden
here_is = rw (text-site home 0) refl

register_is : text (register_server 1 7 8 9 10) ≡ codes "*register?[x7 x8] -> lock?x9 -> new x10 : ^Site in (lock!(x9 with x7 -> x10) | x10!x8 | <x7@x8>ack![])"
unfolding value_text digits block.hidden-the_row-ProcForm-0 expr_block.hidden-the_row-Expr-1 expr_block.hidden-the_row-ExprForm-0 pat_block.hidden-the_row-Pat-0 ty_block.hidden-the_row-Ty-0 carrier.hidden
register_is = refl

migrating_is : text (migrating_server 1 11 12 13 14) ≡ codes "*migrating?x11 -> lock?x12 -> lookup x11 in x12 then x13 -> (x13?x14 -> <x11@x14>ack![] | lock!x12) else 0"
unfolding value_text digits block.hidden-the_row-ProcForm-0 expr_block.hidden-the_row-Expr-1 expr_block.hidden-the_row-ExprForm-0 pat_block.hidden-the_row-Pat-0 carrier.hidden
migrating_is = refl

migrated_is : text (migrated_server 1 15 16 17 18) ≡ codes "*migrated?[x15 x16] -> lock?x17 -> lookup x15 in x17 then x18 -> (x18!x16 | <x15@x16>ack![] | lock!x17) else 0"
unfolding value_text digits block.hidden-the_row-ProcForm-0 expr_block.hidden-the_row-Expr-1 expr_block.hidden-the_row-ExprForm-0 pat_block.hidden-the_row-Pat-0 carrier.hidden
migrated_is = refl

message_is : text (message_server 1 19 20 21 22 23) ≡ codes "*message?[x19 x20] -> lock?x21 -> lookup x19 in x21 then x22 -> (x22?x23 -> <x19@x23>deliver![x20 x23] | lock!x21) else 0"
unfolding value_text digits block.hidden-the_row-ProcForm-0 expr_block.hidden-the_row-Expr-1 expr_block.hidden-the_row-ExprForm-0 pat_block.hidden-the_row-Pat-0 carrier.hidden
message_is = refl

dack_is : text (dack_server 1 24 25 26 27) ≡ codes "*dack?[x24 x25] -> lock?x26 -> lookup x24 in x26 then x27 -> (x27!x25 | lock!x26) else 0"
unfolding value_text digits block.hidden-the_row-ProcForm-0 expr_block.hidden-the_row-Expr-1 expr_block.hidden-the_row-ExprForm-0 pat_block.hidden-the_row-Pat-0 carrier.hidden
dack_is = refl

where_is : text (where_server 1 28 29 30 31 32 33 34)
    ≡ codes "*where?[x28 x29] -> lock?x30 -> lookup x29 in x30 then x31 -> lookup x28 in x30 then x32"
    ++ codes " -> (x31?x33 -> (x31!x33 | x32?x34 -> (x32!x34 | <x28@x34>found![x29 x33])) | lock!x30) else 0 else 0"
unfolding value_text digits block.hidden-the_row-ProcForm-0 expr_block.hidden-the_row-Expr-1 expr_block.hidden-the_row-ExprForm-0 pat_block.hidden-the_row-Pat-0 carrier.hidden
where_is = refl

-- the daemon's line, of the texts of its parts
abbrev bar : List ℕ
bar = codes " | "

abbrev joined : List ℕ → List ℕ → List ℕ → List ℕ → List ℕ → List ℕ → List ℕ → List ℕ → List ℕ
joined a b c d e f g h =
    codes "daemon at home = " ++ (codes "(" ++ (a ++ bar ++ b ++ bar ++ c ++ bar ++ d ++ bar ++ e ++ bar ++ f ++ bar ++ g ++ bar ++ h) ++ codes ")") ++ codes "\n"

line_is : line_text home (codes "daemon") 0 (cached_daemon 1 0 7)
    ≡ joined (text (first_places 1)) (text (gives 0 (here 1) (site 0))) (text (register_server 1 7 8 9 10)) (text (migrating_server 1 11 12 13 14))
    (text (migrated_server 1 15 16 17 18)) (text (message_server 1 19 20 21 22 23)) (text (dack_server 1 24 25 26 27)) (text (where_server 1 28 29 30 31 32 33 34))
unfolding block.hidden-the_row-ProcForm-0 carrier.hidden
line_is = refl

daemon_is : line_text home (codes "daemon") 0 (cached_daemon 1 0 7) ≡ daemon_line
daemon_is = line_is ∙ (λ i. joined (first_is i) (here_is i) (register_is i) (migrating_is i) (migrated_is i) (message_is i) (dack_is i) (where_is i))

behind_is : line_text home (codes "daemon") 0 (encoded_cached prints_seven).daemon ≡ daemon_line
behind_is = ap (λ (t : Translated). line_text home (codes "daemon") 0 (cached_daemon 1 0 (t.next + 7))) seven_is ∙ daemon_is

pub low_text-of-seven : LowTextOfSeven
low_text-of-seven = λ i. main_is i ++ behind_is i

pub text-of-post : TextOfPost
unfolding digits block.hidden-the_row-ProcForm-0 expr_block.hidden-the_row-Expr-1 expr_block.hidden-the_row-ExprForm-0 pat_block.hidden-the_row-Pat-0 carrier.hidden
text-of-post = rw (text-int home (pos 7), text-site home 0) refl

pub text-of-creation : TextOfCreation
unfolding value_text digits block.hidden-the_row-ProcForm-0 expr_block.hidden-the_row-Expr-1 expr_block.hidden-the_row-ExprForm-0 pat_block.hidden-the_row-Pat-0 ty_block.hidden-the_row-Ty-0 carrier.hidden
text-of-creation = rw (text-site home 0) refl
