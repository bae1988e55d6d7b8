-- The sizes of each form of pattern and process.
use Rattle.std.proofs.Common.{◌≡◌, ℕ, ◌+◌, List, [], ◌∷◌, map, refl, ap, ◌∙◌}
use Rattle.np_syntax.specs.declared.types.Ty.{Ty}
use Rattle.np_tree.specs.declared.tree.Ident.{Ident}
use Rattle.np_tree.specs.declared.tree.RawExpr.{RawExpr}
use Rattle.np_tree.specs.declared.tree.RawPat.{RawPat, fold_out-RawPat}
use Rattle.np_tree.specs.declared.tree.RawPatForm.{RawPatForm, RawPatForm-F, out-RawPatForm, map-RawPatForm, fold_out-RawPatForm}
use Rattle.np_tree.specs.declared.tree.RawPatForm as pat
use Rattle.np_tree.specs.declared.tree.RawPatForm.TheVariants as patv
use Rattle.np_tree.specs.declared.tree.RawProc.{RawProc, fold_out-RawProc}
use Rattle.np_tree.specs.declared.tree.RawProcForm.{RawProcForm, RawProcForm-F, out-RawProcForm, map-RawProcForm, fold_out-RawProcForm}
use Rattle.np_tree.specs.declared.tree.RawProcForm as form
use Rattle.np_tree.specs.declared.tree.RawProcForm.TheVariants as formv
use Rattle.np_tree.specs.Sizes.{total, names, form_names, names_all, names_step, nodes, form_nodes, nodes_step, binders, form_binders, binders_step}

-- ---- patterns

pub names-form : (p : RawPat) → names p ≡ form_names p.form
unfolding names form_names
names-form p = fold_out-RawPat ℕ ℕ names_step (λ p. p.form) p

abbrev names_stepped : RawPatForm-F RawPatForm RawPat → ℕ
names_stepped l = names_step (map-RawPatForm RawPatForm RawPat ℕ ℕ form_names names l)

names-layer : (f : RawPatForm) → form_names f ≡ names_stepped (out-RawPatForm f)
unfolding names form_names
names-layer f = fold_out-RawPatForm ℕ ℕ names_step (λ p. p.form) f

pub names-any : form_names pat.Any ≡ 0
names-any = names-layer pat.Any ∙ ap names_stepped patv.outs-Any

pub names-bind : (n : Ident) → form_names (pat.Bind n) ≡ 1
names-bind n = names-layer (pat.Bind n) ∙ ap names_stepped (patv.outs-Bind n)

total-all : (ps : List RawPat) → total (map names ps) ≡ names_all ps
total-all [] = refl
total-all (p ∷ ps) = ap (λ n. names p + n) (total-all ps)

pub names-tuple : (ps : List RawPat) → form_names (pat.Tuple ps) ≡ names_all ps
names-tuple ps = names-layer (pat.Tuple ps) ∙ ap names_stepped (patv.outs-Tuple ps) ∙ total-all ps

-- ---- processes

pub nodes-form : (p : RawProc) → nodes p ≡ form_nodes p.form
unfolding nodes form_nodes
nodes-form p = fold_out-RawProc ℕ ℕ nodes_step (λ p. p.form) p

abbrev nodes_stepped : RawProcForm-F RawProcForm RawProc → ℕ
nodes_stepped l = nodes_step (map-RawProcForm RawProcForm RawProc ℕ ℕ form_nodes nodes l)

nodes-layer : (f : RawProcForm) → form_nodes f ≡ nodes_stepped (out-RawProcForm f)
unfolding nodes form_nodes
nodes-layer f = fold_out-RawProcForm ℕ ℕ nodes_step (λ p. p.form) f

pub nodes-stop : form_nodes form.Stop ≡ 1
nodes-stop = nodes-layer form.Stop ∙ ap nodes_stepped formv.outs-Stop

pub nodes-par : (p q : RawProc) → form_nodes (form.Par p q) ≡ 1 + (nodes p + nodes q)
nodes-par p q = nodes-layer (form.Par p q) ∙ ap nodes_stepped (formv.outs-Par p q)

pub nodes-new : (c : Ident) (t : Ty) (p : RawProc) → form_nodes (form.New c t p) ≡ 1 + nodes p
nodes-new c t p = nodes-layer (form.New c t p) ∙ ap nodes_stepped (formv.outs-New c t p)

pub nodes-out : (c : Ident) (e : RawExpr) → form_nodes (form.Out c e) ≡ 1
nodes-out c e = nodes-layer (form.Out c e) ∙ ap nodes_stepped (formv.outs-Out c e)

pub nodes-inp : (c : Ident) (x : RawPat) (p : RawProc) → form_nodes (form.Inp c x p) ≡ 1 + nodes p
nodes-inp c x p = nodes-layer (form.Inp c x p) ∙ ap nodes_stepped (formv.outs-Inp c x p)

pub nodes-rep : (c : Ident) (x : RawPat) (p : RawProc) → form_nodes (form.Rep c x p) ≡ 1 + nodes p
nodes-rep c x p = nodes-layer (form.Rep c x p) ∙ ap nodes_stepped (formv.outs-Rep c x p)

pub nodes-agent : (b : Ident) (p q : RawProc) → form_nodes (form.Agent b p q) ≡ 1 + (nodes p + nodes q)
nodes-agent b p q = nodes-layer (form.Agent b p q) ∙ ap nodes_stepped (formv.outs-Agent b p q)

pub nodes-migrate : (s : RawExpr) (p : RawProc) → form_nodes (form.Migrate s p) ≡ 1 + nodes p
nodes-migrate s p = nodes-layer (form.Migrate s p) ∙ ap nodes_stepped (formv.outs-Migrate s p)

pub nodes-iflocal : (b : RawExpr) (c : Ident) (e : RawExpr) (p q : RawProc) → form_nodes (form.IfLocal b c e p q) ≡ 1 + (nodes p + nodes q)
nodes-iflocal b c e p q = nodes-layer (form.IfLocal b c e p q) ∙ ap nodes_stepped (formv.outs-IfLocal b c e p q)

pub nodes-send : (b s : RawExpr) (c : Ident) (e : RawExpr) → form_nodes (form.Send b s c e) ≡ 1
nodes-send b s c e = nodes-layer (form.Send b s c e) ∙ ap nodes_stepped (formv.outs-Send b s c e)

pub nodes-post : (b : RawExpr) (c : Ident) (e : RawExpr) → form_nodes (form.Post b c e) ≡ 1
nodes-post b c e = nodes-layer (form.Post b c e) ∙ ap nodes_stepped (formv.outs-Post b c e)

pub nodes-if : (e : RawExpr) (p q : RawProc) → form_nodes (form.If e p q) ≡ 1 + (nodes p + nodes q)
nodes-if e p q = nodes-layer (form.If e p q) ∙ ap nodes_stepped (formv.outs-If e p q)

pub nodes-let : (x : RawPat) (e : RawExpr) (p : RawProc) → form_nodes (form.Let x e p) ≡ 1 + nodes p
nodes-let x e p = nodes-layer (form.Let x e p) ∙ ap nodes_stepped (formv.outs-Let x e p)

pub nodes-print : (e : RawExpr) → form_nodes (form.Print e) ≡ 1
nodes-print e = nodes-layer (form.Print e) ∙ ap nodes_stepped (formv.outs-Print e)

pub binders-form : (p : RawProc) → binders p ≡ form_binders p.form
unfolding binders form_binders
binders-form p = fold_out-RawProc ℕ ℕ binders_step (λ p. p.form) p

abbrev binders_stepped : RawProcForm-F RawProcForm RawProc → ℕ
binders_stepped l = binders_step (map-RawProcForm RawProcForm RawProc ℕ ℕ form_binders binders l)

binders-layer : (f : RawProcForm) → form_binders f ≡ binders_stepped (out-RawProcForm f)
unfolding binders form_binders
binders-layer f = fold_out-RawProcForm ℕ ℕ binders_step (λ p. p.form) f

pub binders-stop : form_binders form.Stop ≡ 0
binders-stop = binders-layer form.Stop ∙ ap binders_stepped formv.outs-Stop

pub binders-par : (p q : RawProc) → form_binders (form.Par p q) ≡ binders p + binders q
binders-par p q = binders-layer (form.Par p q) ∙ ap binders_stepped (formv.outs-Par p q)

pub binders-new : (c : Ident) (t : Ty) (p : RawProc) → form_binders (form.New c t p) ≡ 1 + binders p
binders-new c t p = binders-layer (form.New c t p) ∙ ap binders_stepped (formv.outs-New c t p)

pub binders-out : (c : Ident) (e : RawExpr) → form_binders (form.Out c e) ≡ 0
binders-out c e = binders-layer (form.Out c e) ∙ ap binders_stepped (formv.outs-Out c e)

pub binders-inp : (c : Ident) (x : RawPat) (p : RawProc) → form_binders (form.Inp c x p) ≡ names x + binders p
binders-inp c x p = binders-layer (form.Inp c x p) ∙ ap binders_stepped (formv.outs-Inp c x p)

pub binders-rep : (c : Ident) (x : RawPat) (p : RawProc) → form_binders (form.Rep c x p) ≡ names x + binders p
binders-rep c x p = binders-layer (form.Rep c x p) ∙ ap binders_stepped (formv.outs-Rep c x p)

pub binders-agent : (b : Ident) (p q : RawProc) → form_binders (form.Agent b p q) ≡ 1 + (binders p + binders q)
binders-agent b p q = binders-layer (form.Agent b p q) ∙ ap binders_stepped (formv.outs-Agent b p q)

pub binders-migrate : (s : RawExpr) (p : RawProc) → form_binders (form.Migrate s p) ≡ binders p
binders-migrate s p = binders-layer (form.Migrate s p) ∙ ap binders_stepped (formv.outs-Migrate s p)

pub binders-iflocal : (b : RawExpr) (c : Ident) (e : RawExpr) (p q : RawProc) → form_binders (form.IfLocal b c e p q) ≡ binders p + binders q
binders-iflocal b c e p q = binders-layer (form.IfLocal b c e p q) ∙ ap binders_stepped (formv.outs-IfLocal b c e p q)

pub binders-send : (b s : RawExpr) (c : Ident) (e : RawExpr) → form_binders (form.Send b s c e) ≡ 0
binders-send b s c e = binders-layer (form.Send b s c e) ∙ ap binders_stepped (formv.outs-Send b s c e)

pub binders-post : (b : RawExpr) (c : Ident) (e : RawExpr) → form_binders (form.Post b c e) ≡ 0
binders-post b c e = binders-layer (form.Post b c e) ∙ ap binders_stepped (formv.outs-Post b c e)

pub binders-if : (e : RawExpr) (p q : RawProc) → form_binders (form.If e p q) ≡ binders p + binders q
binders-if e p q = binders-layer (form.If e p q) ∙ ap binders_stepped (formv.outs-If e p q)

pub binders-let : (x : RawPat) (e : RawExpr) (p : RawProc) → form_binders (form.Let x e p) ≡ names x + binders p
binders-let x e p = binders-layer (form.Let x e p) ∙ ap binders_stepped (formv.outs-Let x e p)

pub binders-print : (e : RawExpr) → form_binders (form.Print e) ≡ 0
binders-print e = binders-layer (form.Print e) ∙ ap binders_stepped (formv.outs-Print e)
