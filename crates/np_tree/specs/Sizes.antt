-- How many process nodes and how many binders a process has (docs/LANGUAGE.md, "Scope"). Each composition is a node; the
-- binders are the names after `new` and after `agent`, and the names of patterns.
use Rattle.std.specs.Prelude.{ℕ, ◌+◌, List, [], ◌∷◌}
use Rattle.np_tree.specs.declared.tree.RawPat.{RawPat, fold-RawPat}
use Rattle.np_tree.specs.declared.tree.RawPatForm.{RawPatForm, RawPatForm-F, fold-RawPatForm}
use Rattle.np_tree.specs.declared.tree.RawProc.{RawProc, fold-RawProc}
use Rattle.np_tree.specs.declared.tree.RawProcForm.{RawProcForm, RawProcForm-F, fold-RawProcForm}

abbrev pub total : List ℕ → ℕ
total [] = 0
total (n ∷ ns) = n + total ns

abbrev pub names_step : RawPatForm-F ℕ ℕ → ℕ
names_step RawPatForm-F.Any = 0
names_step (RawPatForm-F.Bind name) = 1
names_step (RawPatForm-F.Tuple parts) = total parts

-- the names of a pattern
unfoldable pub names : RawPat → ℕ
names = fold-RawPat ℕ ℕ names_step (λ p. p.form)

unfoldable pub form_names : RawPatForm → ℕ
form_names = fold-RawPatForm ℕ ℕ names_step (λ p. p.form)

abbrev pub names_all : List RawPat → ℕ
names_all [] = 0
names_all (p ∷ ps) = names p + names_all ps

abbrev pub nodes_step : RawProcForm-F ℕ ℕ → ℕ
nodes_step RawProcForm-F.Stop = 1
nodes_step (RawProcForm-F.Par left right) = 1 + (left + right)
nodes_step (RawProcForm-F.New c ty body) = 1 + body
nodes_step (RawProcForm-F.Out c e) = 1
nodes_step (RawProcForm-F.Inp c x body) = 1 + body
nodes_step (RawProcForm-F.Rep c x body) = 1 + body
nodes_step (RawProcForm-F.Agent b body rest) = 1 + (body + rest)
nodes_step (RawProcForm-F.Migrate s body) = 1 + body
nodes_step (RawProcForm-F.IfLocal b c e met unmet) = 1 + (met + unmet)
nodes_step (RawProcForm-F.Send b s c e) = 1
nodes_step (RawProcForm-F.Post b c e) = 1
nodes_step (RawProcForm-F.If e met unmet) = 1 + (met + unmet)
nodes_step (RawProcForm-F.Let x e body) = 1 + body
nodes_step (RawProcForm-F.Print e) = 1

-- the process nodes of a process
unfoldable pub nodes : RawProc → ℕ
nodes = fold-RawProc ℕ ℕ nodes_step (λ p. p.form)

unfoldable pub form_nodes : RawProcForm → ℕ
form_nodes = fold-RawProcForm ℕ ℕ nodes_step (λ p. p.form)

abbrev pub binders_step : RawProcForm-F ℕ ℕ → ℕ
binders_step RawProcForm-F.Stop = 0
binders_step (RawProcForm-F.Par left right) = left + right
binders_step (RawProcForm-F.New c ty body) = 1 + body
binders_step (RawProcForm-F.Out c e) = 0
binders_step (RawProcForm-F.Inp c x body) = names x + body
binders_step (RawProcForm-F.Rep c x body) = names x + body
binders_step (RawProcForm-F.Agent b body rest) = 1 + (body + rest)
binders_step (RawProcForm-F.Migrate s body) = body
binders_step (RawProcForm-F.IfLocal b c e met unmet) = met + unmet
binders_step (RawProcForm-F.Send b s c e) = 0
binders_step (RawProcForm-F.Post b c e) = 0
binders_step (RawProcForm-F.If e met unmet) = met + unmet
binders_step (RawProcForm-F.Let x e body) = names x + body
binders_step (RawProcForm-F.Print e) = 0

-- the binders of a process
unfoldable pub binders : RawProc → ℕ
binders = fold-RawProc ℕ ℕ binders_step (λ p. p.form)

unfoldable pub form_binders : RawProcForm → ℕ
form_binders = fold-RawProcForm ℕ ℕ binders_step (λ p. p.form)
