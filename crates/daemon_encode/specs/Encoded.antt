-- The low program of a program (docs/TRANSLATION.md, "Translation and daemon"): each form is kept, with its tag and offset, but for
-- three. Binders that are made are numbered on from those of the program, in reading order of the low program, main first.
use Rattle.std.specs.Prelude.{ℕ, ◌+◌, length}
use Rattle.np_syntax.specs.declared.expression.Expr.{Expr}
use Rattle.np_syntax.specs.declared.process.Tag.{Tag}
use Rattle.np_syntax.specs.declared.process.Proc.{Proc, fold-Proc}
use Rattle.np_syntax.specs.declared.process.ProcForm.{ProcForm, ProcForm-F, fold-ProcForm}
use Rattle.np_syntax.specs.declared.process.ProcForm as form
use Rattle.np_syntax.specs.declared.program.Program.{Program}
use Rattle.np_syntax.specs.declared.program.LowProgram.{LowProgram}
use Rattle.daemon_encode.specs.declared.translated.Translated.{Translated}
use Rattle.infrastructure_texts.specs.Pieces.{variable, main}
use Rattle.infrastructure_texts.specs.Texts.{post_text, migrate_text, agent_text, main_text}
use Rattle.infrastructure_texts.specs.Daemon.{daemon_text}

-- the agent that a process stands in and the next binder give its low process and the binder that is next behind it
abbrev pub Translation : Type 0
Translation = Expr → ℕ → Translated

abbrev pub kept : Tag → ℕ → ProcForm → ℕ → Translated
kept tag at f next = record { proc = record { tag = tag; at = at; form = f }; next = next }

abbrev pub becomes : Proc → ℕ → Translated
becomes p next = record { proc = p; next = next }

-- a form that is kept around one process
abbrev pub around : (Proc → ProcForm) → Tag → ℕ → Translation → Translation
around f tag at p a next =
    let body = p a next in
    kept tag at (f body.proc) body.next

-- a form that is kept around two processes
abbrev pub around_both : (Proc → Proc → ProcForm) → Tag → ℕ → Translation → Translation → Translation
around_both f tag at p q a next =
    let left = p a next in
    let right = q a left.next in
    kept tag at (f left.proc right.proc) right.next

abbrev pub migration : ℕ → ℕ → Expr → Translation → Translation
migration n k e p a next =
    let body = p a next in
    becomes (migrate_text n k a e body.proc) body.next

-- S comes first, then what P makes, then l and t, then what Q makes
abbrev pub creation : ℕ → ℕ → ℕ → Translation → Translation → Translation
creation n k b p q a next =
    let body = p (variable b) (next + 1) in
    let rest = q a (body.next + 2) in
    becomes (agent_text n k a b next body.next (body.next + 1) body.proc rest.proc) rest.next

-- by the tag and the offset of the process
abbrev pub translate_step : ℕ → ProcForm-F (Tag → ℕ → Translation) Translation → Tag → ℕ → Translation
translate_step n ProcForm-F.Stop tag at a next = kept tag at form.Stop next
translate_step n (ProcForm-F.Par p q) tag at a next = around_both form.Par tag at p q a next
translate_step n (ProcForm-F.New c t p) tag at a next = around (form.New c t) tag at p a next
translate_step n (ProcForm-F.Out c e) tag at a next = kept tag at (form.Out c e) next
translate_step n (ProcForm-F.Inp c x p) tag at a next = around (form.Inp c x) tag at p a next
translate_step n (ProcForm-F.Rep c x p) tag at a next = around (form.Rep c x) tag at p a next
translate_step n (ProcForm-F.Agent b p q) tag at a next = creation n tag.node b p q a next
translate_step n (ProcForm-F.Migrate e p) tag at a next = migration n tag.node e p a next
translate_step n (ProcForm-F.IfLocal b c e p q) tag at a next = around_both (form.IfLocal b c e) tag at p q a next
translate_step n (ProcForm-F.Send b s c e) tag at a next = kept tag at (form.Send b s c e) next
translate_step n (ProcForm-F.Post b c v) tag at a next = becomes (post_text n tag.node b c v) next
translate_step n (ProcForm-F.If e p q) tag at a next = around_both (form.If e) tag at p q a next
translate_step n (ProcForm-F.Let x e p) tag at a next = around (form.Let x e) tag at p a next
translate_step n (ProcForm-F.Print e) tag at a next = kept tag at (form.Print e) next
translate_step n (ProcForm-F.Open e) tag at a next = kept tag at (form.Open e) next
translate_step n (ProcForm-F.Lookup b m x p q) tag at a next = around_both (form.Lookup b m x) tag at p q a next

-- the translation of a process of a program of n sites
unfoldable pub translated : ℕ → Proc → Translation
translated n = fold-Proc (Tag → ℕ → Translation) Translation (translate_step n) (λ p. p.form p.tag p.at)

unfoldable pub translated_form : ℕ → ProcForm → Tag → ℕ → Translation
translated_form n = fold-ProcForm (Tag → ℕ → Translation) Translation (translate_step n) (λ p. p.form p.tag p.at)

-- main's process in the low program of a program of n sites, and the binder that is next behind it
abbrev pub main_of : ℕ → Program → Proc × ℕ
main_of n p =
    let body = translated n p.main (main n) p.binders in
    (main_text n p.at body.next (body.next + 1) body.proc, body.next + 2)

-- the low program of a program
abbrev pub encoded : Program → LowProgram
encoded p =
    let n = length p.sites in
    let low = main_of n p in
    record { sites = p.sites; at = p.at; main = low.0; daemon = daemon_text n p.at low.1 }
