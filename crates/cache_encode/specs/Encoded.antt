-- The low program of a program, where agents have caches (docs/TRANSLATION.md, "Translation and daemon"): each form becomes what it does
-- without caches, but a post and a creation. Binders that are made are numbered on from those of the program, in reading order of the
-- low program, main first.
use Rattle.std.specs.Prelude.{ℕ, ◌+◌, length}
use Rattle.np_syntax.specs.declared.expression.Expr.{Expr}
use Rattle.np_syntax.specs.declared.process.Tag.{Tag}
use Rattle.np_syntax.specs.declared.process.Proc.{Proc, fold-Proc}
use Rattle.np_syntax.specs.declared.process.ProcForm.{ProcForm, ProcForm-F, fold-ProcForm}
use Rattle.np_syntax.specs.declared.program.Program.{Program}
use Rattle.np_syntax.specs.declared.program.LowProgram.{LowProgram}
use Rattle.infrastructure_texts.specs.Pieces.{variable, main}
use Rattle.daemon_encode.specs.Encoded.{Translation, becomes, translate_step}
use Rattle.infrastructure_texts.specs.CacheTexts.{post_text, agent_text, main_text}
use Rattle.infrastructure_texts.specs.CacheDaemon.{cached_daemon}

-- m, l, s and t
abbrev pub posting : ℕ → ℕ → Expr → Expr → Expr → Translation
posting n k b c v a next = becomes (post_text n k a b c v next) (next + 4)

-- S comes first, then what P makes, then l, t and the five of the cache, then what Q makes
abbrev pub creation : ℕ → ℕ → ℕ → Translation → Translation → Translation
creation n k b p q a next =
    let body = p (variable b) (next + 1) in
    let rest = q a (body.next + 7) in
    becomes (agent_text n k a b next body.next (body.next + 1) (body.next + 2) body.proc rest.proc) rest.next

-- by the tag and the offset of the process
abbrev pub cached_step : ℕ → ProcForm-F (Tag → ℕ → Translation) Translation → Tag → ℕ → Translation
cached_step n (ProcForm-F.Agent b p q) tag at a next = creation n tag.node b p q a next
cached_step n (ProcForm-F.Post b c v) tag at a next = posting n tag.node b c v a next
cached_step n f tag at a next = translate_step n f tag at a next

-- the translation of a process of a program of n sites
unfoldable pub cached : ℕ → Proc → Translation
cached n = fold-Proc (Tag → ℕ → Translation) Translation (cached_step n) (λ p. p.form p.tag p.at)

unfoldable pub cached_form : ℕ → ProcForm → Tag → ℕ → Translation
cached_form n = fold-ProcForm (Tag → ℕ → Translation) Translation (cached_step n) (λ p. p.form p.tag p.at)

-- main's process in the low program of a program of n sites, and the binder that is next behind it
abbrev pub main_of : ℕ → Program → Proc × ℕ
main_of n p =
    let body = cached n p.main (main n) p.binders in
    (main_text n p.at body.next (body.next + 1) (body.next + 2) body.proc, body.next + 7)

-- the low program of a program
abbrev pub encoded_cached : Program → LowProgram
encoded_cached p =
    let n = length p.sites in
    let low = main_of n p in
    record { sites = p.sites; at = p.at; main = low.0; daemon = cached_daemon n p.at low.1 }
