-- The node of a process, and the process of a node.
use Rattle.std.proofs.Common.{◌≡◌, ℕ, List, length, refl, ap, sym, ◌∙◌}
use Rattle.np_syntax.specs.declared.process.Proc.{Proc}
use Rattle.np_syntax.specs.declared.process.ProcForm.{ProcForm, ProcForm-F, out-ProcForm, roll-ProcForm, roll-out-ProcForm, out-roll-ProcForm}
use Rattle.np_syntax.specs.declared.process.ProcForm as form
use Rattle.np_syntax.specs.declared.process.ProcForm.TheVariants as layer
use Rattle.np_code.specs.declared.node.Node.{Node}
use Rattle.np_code.specs.declared.node.NodeForm.TheVariants as node
use Rattle.np_code.specs.Parts.{Layer, first_of, second_of}
use Rattle.np_code.specs.Trees.{nil, nth, plant, layer_of, numbered, BelowForm, Stands}

-- one level of the process under a number, by its node
pub layer-node : (ts : List Proc) (n : Node) (i : ℕ) → plant ts n ≡ nth ts i → out-ProcForm (nth ts i).form ≡ layer_of ts n.form
layer-node ts n i h = ap (λ (p : Proc). out-ProcForm p.form) (sym h) ∙ out-roll-ProcForm (layer_of ts n.form)

layer-numbered : (ts : List Proc) (l : Layer) (i j : ℕ) → Stands ts (first_of l) i → Stands ts (second_of l) j → layer_of ts (numbered l i j) ≡ l
layer-numbered ts ProcForm-F.Stop i j h k = refl
layer-numbered ts (ProcForm-F.Par left right) i j h k = rw (h.0, k.0) refl
layer-numbered ts (ProcForm-F.New x ty body) i j h k = rw h.0 refl
layer-numbered ts (ProcForm-F.Out c e) i j h k = refl
layer-numbered ts (ProcForm-F.Inp c x body) i j h k = rw h.0 refl
layer-numbered ts (ProcForm-F.Rep c x body) i j h k = rw h.0 refl
layer-numbered ts (ProcForm-F.Agent b body rest) i j h k = rw (h.0, k.0) refl
layer-numbered ts (ProcForm-F.Migrate s body) i j h k = rw h.0 refl
layer-numbered ts (ProcForm-F.IfLocal b c e met unmet) i j h k = rw (h.0, k.0) refl
layer-numbered ts (ProcForm-F.Send b s c e) i j h k = refl
layer-numbered ts (ProcForm-F.Post b c e) i j h k = refl
layer-numbered ts (ProcForm-F.If e met unmet) i j h k = rw (h.0, k.0) refl
layer-numbered ts (ProcForm-F.Let x e body) i j h k = rw h.0 refl
layer-numbered ts (ProcForm-F.Print e) i j h k = refl
layer-numbered ts (ProcForm-F.Open e) i j h k = refl
layer-numbered ts (ProcForm-F.Lookup a m x met unmet) i j h k = rw (h.0, k.0) refl

-- the node of a process whose parts stand in the list stands for that process
pub plant-numbered : (ts : List Proc) (p : Proc) (i j : ℕ) → Stands ts (first_of (out-ProcForm p.form)) i → Stands ts (second_of (out-ProcForm p.form)) j
    → plant ts (record { tag = p.tag; at = p.at; form = numbered (out-ProcForm p.form) i j }) ≡ p
plant-numbered ts p i j h k =
    ap (λ (f : ProcForm). record { tag = p.tag; at = p.at; form = f }) (ap roll-ProcForm (layer-numbered ts (out-ProcForm p.form) i j h k) ∙ roll-out-ProcForm p.form)

-- and its parts have smaller numbers
pub below-numbered : (ts : List Proc) (l : Layer) (i j : ℕ) → Stands ts (first_of l) i → Stands ts (second_of l) j → BelowForm (length ts) (numbered l i j)
below-numbered ts ProcForm-F.Stop i j h k = tt
below-numbered ts (ProcForm-F.Par left right) i j h k = (h.1, k.1)
below-numbered ts (ProcForm-F.New x ty body) i j h k = h.1
below-numbered ts (ProcForm-F.Out c e) i j h k = tt
below-numbered ts (ProcForm-F.Inp c x body) i j h k = h.1
below-numbered ts (ProcForm-F.Rep c x body) i j h k = h.1
below-numbered ts (ProcForm-F.Agent b body rest) i j h k = (h.1, k.1)
below-numbered ts (ProcForm-F.Migrate s body) i j h k = h.1
below-numbered ts (ProcForm-F.IfLocal b c e met unmet) i j h k = (h.1, k.1)
below-numbered ts (ProcForm-F.Send b s c e) i j h k = tt
below-numbered ts (ProcForm-F.Post b c e) i j h k = tt
below-numbered ts (ProcForm-F.If e met unmet) i j h k = (h.1, k.1)
below-numbered ts (ProcForm-F.Let x e body) i j h k = h.1
below-numbered ts (ProcForm-F.Print e) i j h k = tt
below-numbered ts (ProcForm-F.Open e) i j h k = tt
below-numbered ts (ProcForm-F.Lookup a m x met unmet) i j h k = (h.1, k.1)

-- a process of the node's form, tag and offset is the one under the number
pub process-node : (ts : List Proc) (n : Node) (i : ℕ) (f : ProcForm) → plant ts n ≡ nth ts i → out-ProcForm f ≡ layer_of ts n.form
    → record { tag = n.tag; at = n.at; form = f } ≡ nth ts i
process-node ts n i f h is = ap (λ (f : ProcForm). record { tag = n.tag; at = n.at; form = f }) (sym (roll-out-ProcForm f) ∙ ap roll-ProcForm is) ∙ h

-- the spare node is that of `0`
pub plant-spare : (ts : List Proc) → plant ts (record { tag = nil.tag; at = 0; form = node.Stop }) ≡ nil
plant-spare ts = ap (λ (f : ProcForm). record { tag = nil.tag; at = 0; form = f }) (ap roll-ProcForm (sym layer.outs-Stop) ∙ roll-out-ProcForm form.Stop)

pub ruleset layers = (layer-node, process-node)
