-- How far the numbers of process nodes and binders go (docs/LANGUAGE.md, "Scope"): nodes are numbered from 1, and binders
-- from 0.
use Rattle.std.specs.Prelude.{◌≡◌, ◌≤◌, ℕ, ◌+◌}
use Rattle.np_syntax.specs.declared.limits.TheConstants.{MOST_NODES, MOST_BINDERS}
use Rattle.np_tree.specs.declared.tree.RawPat.{RawPat}
use Rattle.np_tree.specs.declared.tree.RawProc.{RawProc}
use Rattle.np_tree.specs.declared.tree.RawProcForm.{RawProcForm}
use Rattle.np_tree.specs.Sizes.{names, nodes, form_nodes, binders, form_binders}
use Rattle.np_scope.specs.declared.numbers.Numbers.{Numbers}

-- so many nodes and binders have numbers from these on
pub record Fits (next : Numbers) (many bound : ℕ) : Type 0 where
  pub nodes : next.node + many ≤ MOST_NODES + 1
  pub binders : next.binder + bound ≤ MOST_BINDERS

-- the numbers behind so many nodes and binders
pub record IsBehind (next : Numbers) (many bound : ℕ) (after : Numbers) : Type 0 where
  pub nodes : after.node ≡ next.node + many
  pub binders : after.binder ≡ next.binder + bound

-- ---- those of a process, of a form, of two processes, and of a body with its pattern

abbrev pub ProcFits : Numbers → RawProc → Type 0
ProcFits next p = Fits next (nodes p) (binders p)

abbrev pub IsBehindProc : Numbers → RawProc → Numbers → Type 0
IsBehindProc next p = IsBehind next (nodes p) (binders p)

abbrev pub FormFits : Numbers → RawProcForm → Type 0
FormFits next f = Fits next (form_nodes f) (form_binders f)

abbrev pub IsBehindForm : Numbers → RawProcForm → Numbers → Type 0
IsBehindForm next f = IsBehind next (form_nodes f) (form_binders f)

abbrev pub TwoFit : Numbers → RawProc → RawProc → Type 0
TwoFit next p q = Fits next (nodes p + nodes q) (binders p + binders q)

abbrev pub IsBehindTwo : Numbers → RawProc → RawProc → Numbers → Type 0
IsBehindTwo next p q = IsBehind next (nodes p + nodes q) (binders p + binders q)

abbrev pub BodyFits : Numbers → RawPat → RawProc → Type 0
BodyFits next x p = Fits next (nodes p) (names x + binders p)

abbrev pub IsBehindBody : Numbers → RawPat → RawProc → Numbers → Type 0
IsBehindBody next x p = IsBehind next (nodes p) (names x + binders p)
