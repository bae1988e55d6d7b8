-- What the parts of a translation give: each lemma speaks of any parts, so that no text is unfolded where they are put together.
use Rattle.std.proofs.Common.{◌≡◌, ℕ, ◌+◌, List, length, Result, IfOk, subst, sym, ap, ◌∙◌}
use Rattle.np_syntax.specs.declared.expression.Expr.{Expr}
use Rattle.np_syntax.specs.declared.memory.Memory.{Memory}
use Rattle.np_syntax.specs.declared.process.Tag.{Tag}
use Rattle.np_syntax.specs.declared.process.Proc.{Proc}
use Rattle.np_syntax.specs.declared.process.ProcForm.{ProcForm}
use Rattle.np_syntax.specs.declared.process.ProcForm as form
use Rattle.np_syntax.specs.declared.program.Program.{Program}
use Rattle.np_syntax.specs.declared.program.LowProgram.{LowProgram}
use Rattle.infrastructure_texts.specs.Pieces.{variable}
use Rattle.infrastructure_texts.specs.CacheTexts.{post_text, agent_text}
use Rattle.infrastructure_texts.specs.CacheDaemon.{cached_daemon}
use Rattle.daemon_encode.specs.declared.translated.Translated.{Translated}
use Rattle.daemon_encode.specs.Encoded.{becomes}
use Rattle.cache_encode.specs.Encoded.{posting, cached, cached_form, main_of, encoded_cached}
use Rattle.cache_encode.proofs.Forms.{form-post, form-agent}

along : {x y : Translated} (r : Result Translated Memory) → x ≡ y → IfOk r (λ t. t ≡ y) → IfOk r (λ t. t ≡ x)
along r e h = subst (λ z. IfOk r (λ t. t ≡ z)) (sym e) h

-- ---- posts

pub posted : (n k : ℕ) (to chan value from : Expr) (next : ℕ) (sites node : ℕ) (proc : Proc) (after : ℕ) → sites ≡ n → node ≡ k
    → proc ≡ post_text sites node from to chan value next → after ≡ next + 4
    → ◌≡◌ {A = Translated} (record { proc = proc; next = after }) (posting n k to chan value from next)
posted n k to chan value from next sites node proc after s m made e =
    ap (λ q. becomes q after) (made ∙ ap (λ i. post_text i node from to chan value next) s ∙ ap (λ j. post_text n j from to chan value next) m)
    ∙ ap (becomes (post_text n k from to chan value next)) e

pub post_form : (n : ℕ) (f : ProcForm) (tag : Tag) (at : ℕ) (from : Expr) (next : ℕ) (to chan value : Expr) (r : Result Translated Memory) → f ≡ form.Post to chan value
    → IfOk r (λ t. t ≡ posting n tag.node to chan value from next) → IfOk r (λ t. t ≡ cached_form n f tag at from next)
post_form n f tag at from next to chan value r is h = along r (ap (λ g. cached_form n g tag at from next) is ∙ form-post n tag at from next to chan value) h

-- ---- creations

pub created : (n k : ℕ) (agent : Expr) (child at : ℕ) (body rest : Translated) (sites node : ℕ) (proc : Proc) → sites ≡ n → node ≡ k
    → proc ≡ agent_text sites node agent child at body.next (body.next + 1) (body.next + 2) body.proc rest.proc
    → ◌≡◌ {A = Translated} (record { proc = proc; next = rest.next }) (becomes (agent_text n k agent child at body.next (body.next + 1) (body.next + 2) body.proc rest.proc) rest.next)
created n k agent child at body rest sites node proc s m made =
    let text : ℕ → ℕ → Proc = λ i j. agent_text i j agent child at body.next (body.next + 1) (body.next + 2) body.proc rest.proc in
    ap (λ q. becomes q rest.next) (made ∙ ap (λ i. text i node) s ∙ ap (λ j. text n j) m)

-- what is made of what the new agent does and of what its maker does then
made : ℕ → ℕ → Expr → ℕ → ℕ → Translated → Translated → Translated
made n k agent child at body rest = becomes (agent_text n k agent child at body.next (body.next + 1) (body.next + 2) body.proc rest.proc) rest.next

pub agent_form : (n : ℕ) (f : ProcForm) (tag : Tag) (at : ℕ) (agent : Expr) (next child : ℕ) (p q : Proc) (body rest : Translated) (r : Result Translated Memory) → f ≡ form.Agent child p q
    → body ≡ cached n p (variable child) (next + 1) → rest ≡ cached n q agent (body.next + 7)
    → IfOk r (λ t. t ≡ becomes (agent_text n tag.node agent child next body.next (body.next + 1) (body.next + 2) body.proc rest.proc) rest.next)
    → IfOk r (λ t. t ≡ cached_form n f tag at agent next)
unfolding made
agent_form n f tag at agent next child p q body rest r is first second h =
    let join : Translated → Translated → Translated = made n tag.node agent child next in
    let parts = ap (join body) second ∙ ap (λ x. join x (cached n q agent (x.next + 7))) first in
    along r (ap (λ g. cached_form n g tag at agent next) is ∙ form-agent n tag at agent next child p q ∙ sym parts) h

-- ---- programs

low_of : (p : Program) (n : ℕ) (main : Proc × ℕ) → LowProgram
low_of p n main = record { sites = p.sites; at = p.at; main = main.0; daemon = cached_daemon n p.at main.1 }

pub made_of : (p : Program) (n : ℕ) (main daemon : Proc) (next : ℕ) (sites : List (List ℕ)) → n ≡ length p.sites
    → main_of n p ≡ (main, next) → daemon ≡ cached_daemon n p.at next → sites ≡ p.sites
    → ◌≡◌ {A = LowProgram} (record { sites = sites; at = p.at; main = main; daemon = daemon }) (encoded_cached p)
unfolding low_of
made_of p n main daemon next sites count mains daemons names =
    let parts : ◌≡◌ {A = LowProgram} (record { sites = sites; at = p.at; main = main; daemon = daemon }) (low_of p n (main, next)) =
    ap (λ s. record { sites = s; at = p.at; main = main; daemon = daemon }) names ∙ ap (λ d. record { sites = p.sites; at = p.at; main = main; daemon = d }) daemons in
    parts ∙ ap (low_of p n) (sym mains) ∙ ap (λ k. low_of p k (main_of k p)) count
