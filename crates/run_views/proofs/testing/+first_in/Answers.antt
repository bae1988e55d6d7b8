use Rattle.std.proofs.Common.{◌≡◌, ◌++◌, ◌⊎◌, ⊎_elim, ℕ, slice_get, sym, ap, ◌∙◌}
use Rattle.np_syntax.specs.declared.expression.Expr.{Expr}
use Rattle.np_syntax.specs.declared.process.Proc.{Proc}
use Rattle.np_syntax.specs.declared.process.ProcForm as form
use Rattle.run_views.specs.Tests.{tests}
use Rattle.run_views.proofs.TestParts.{par-tests, agent-tests, if-tests, lookup-tests, local-tests, send-tests}
use Rattle.run_views.proofs.FirstTests.{first-back, first-front}
use Rattle.run_views.proofs.testing.+first_in.Goals as goal

-- a form of two processes
abbrev IsTwo : Proc → Proc → Proc → Type 0
IsTwo p l r = (p.form ≡ form.Par l r) ⊎ (((x : ℕ) × (p.form ≡ form.Agent x l r)) ⊎ (((e : Expr) × (p.form ≡ form.If e l r)) ⊎ ((a : Expr) × (m : Expr) × (x : ℕ) × (p.form ≡ form.Lookup a m x l r))))

two-tests : (p l r : Proc) → IsTwo p l r → tests p ≡ tests l ++ tests r
two-tests p l r h = ⊎_elim (λ h. par-tests p l r h)
    (λ h. ⊎_elim (λ h. agent-tests p l r h.0 h.1) (λ h. ⊎_elim (λ h. if-tests p l r h.0 h.1) (λ h. lookup-tests p l r h.0 h.1 h.2 h.3) h) h) h

pub returns-in-IfLocal : goal.returns-in-IfLocal
returns-in-IfLocal t c = ⊎_elim
    (λ h. sym (ap (λ l. slice_get l 0) (local-tests c.args.p.now h.3 h.4 h.0 h.1 h.2 h.5)))
    (λ h. sym (ap (λ l. slice_get l 0) (send-tests c.args.p.now h.0 h.1 h.2 h.3 h.4)))
    (rw c.get.ensures at c.in-IfLocal.is)

pub returns-in-Some : goal.returns-in-Some
returns-in-Some t c =
    let both = two-tests c.args.p.now c.in-Par.first c.in-Par.second (rw c.get.ensures at c.in-Par.is) in
    sym (ap (λ l. slice_get l 0) both ∙ first-front (tests c.in-Par.first) (tests c.in-Par.second) c.in-Some.at c.in-Some.ensures)

pub returns-in-None : goal.returns-in-None
returns-in-None t c =
    let both = two-tests c.args.p.now c.in-Par.first c.in-Par.second (rw c.get.ensures at c.in-Par.is) in
    c.first_in-in-None.ensures ∙ sym (ap (λ l. slice_get l 0) both ∙ first-back (tests c.in-Par.first) (tests c.in-Par.second) c.in-None.ensures)
