-- The processes that nodes stand for, where those of their parts stand in a list, each under its number. A number that has
-- no node stands for `0`.
use Rattle.std.specs.Prelude.{◌≡◌, ℕ, ◌<◌, ◌+◌, Option, None, Some, List, [], ◌∷◌, ◌++◌, length, slice_index_or}
use Rattle.np_syntax.specs.declared.process.Role.TheVariants as role
use Rattle.np_syntax.specs.declared.process.Proc.{Proc}
use Rattle.np_syntax.specs.declared.process.ProcForm.{ProcForm, ProcForm-F, roll-ProcForm}
use Rattle.np_syntax.specs.declared.process.ProcForm as form
use Rattle.np_code.specs.declared.node.Node.{Node}
use Rattle.np_code.specs.declared.node.NodeForm.{NodeForm}
use Rattle.np_code.specs.declared.node.NodeForm.TheVariants as node
use Rattle.np_code.specs.Parts.{Layer}

-- `0`
abbrev pub nil : Proc
nil = record { tag = record { node = 0; role = role.Plain }; at = 0; form = form.Stop }

-- the process under a number
unfoldable pub nth : List Proc → ℕ → Proc
nth ts i = slice_index_or ts i nil

-- one level of the process of a node
abbrev pub layer_of : List Proc → NodeForm → Layer
layer_of ts node.Stop = ProcForm-F.Stop
layer_of ts (node.Par left right) = ProcForm-F.Par (nth ts left) (nth ts right)
layer_of ts (node.New x ty body) = ProcForm-F.New x ty (nth ts body)
layer_of ts (node.Out c e) = ProcForm-F.Out c e
layer_of ts (node.Inp c x body) = ProcForm-F.Inp c x (nth ts body)
layer_of ts (node.Rep c x body) = ProcForm-F.Rep c x (nth ts body)
layer_of ts (node.Agent b body rest) = ProcForm-F.Agent b (nth ts body) (nth ts rest)
layer_of ts (node.Migrate s body) = ProcForm-F.Migrate s (nth ts body)
layer_of ts (node.IfLocal b c e met unmet) = ProcForm-F.IfLocal b c e (nth ts met) (nth ts unmet)
layer_of ts (node.Send b s c e) = ProcForm-F.Send b s c e
layer_of ts (node.Post b c e) = ProcForm-F.Post b c e
layer_of ts (node.If e met unmet) = ProcForm-F.If e (nth ts met) (nth ts unmet)
layer_of ts (node.Let x e body) = ProcForm-F.Let x e (nth ts body)
layer_of ts (node.Print e) = ProcForm-F.Print e
layer_of ts (node.Open e) = ProcForm-F.Open e
layer_of ts (node.Lookup a m x met unmet) = ProcForm-F.Lookup a m x (nth ts met) (nth ts unmet)

-- the process of a node
abbrev pub plant : List Proc → Node → Proc
plant ts n = record { tag = n.tag; at = n.at; form = roll-ProcForm (layer_of ts n.form) }

-- the form of the node of a process, whose parts have these numbers
abbrev pub numbered : Layer → ℕ → ℕ → NodeForm
numbered ProcForm-F.Stop i j = node.Stop
numbered (ProcForm-F.Par left right) i j = node.Par i j
numbered (ProcForm-F.New x ty body) i j = node.New x ty i
numbered (ProcForm-F.Out c e) i j = node.Out c e
numbered (ProcForm-F.Inp c x body) i j = node.Inp c x i
numbered (ProcForm-F.Rep c x body) i j = node.Rep c x i
numbered (ProcForm-F.Agent b body rest) i j = node.Agent b i j
numbered (ProcForm-F.Migrate s body) i j = node.Migrate s i
numbered (ProcForm-F.IfLocal b c e met unmet) i j = node.IfLocal b c e i j
numbered (ProcForm-F.Send b s c e) i j = node.Send b s c e
numbered (ProcForm-F.Post b c e) i j = node.Post b c e
numbered (ProcForm-F.If e met unmet) i j = node.If e i j
numbered (ProcForm-F.Let x e body) i j = node.Let x e i
numbered (ProcForm-F.Print e) i j = node.Print e
numbered (ProcForm-F.Open e) i j = node.Open e
numbered (ProcForm-F.Lookup a m x met unmet) i j = node.Lookup a m x i j

-- the parts have numbers below this one
abbrev pub BelowForm : ℕ → NodeForm → Type 0
BelowForm k node.Stop = Unit {0}
BelowForm k (node.Par left right) = (left < k) × (right < k)
BelowForm k (node.New x ty body) = body < k
BelowForm k (node.Out c e) = Unit {0}
BelowForm k (node.Inp c x body) = body < k
BelowForm k (node.Rep c x body) = body < k
BelowForm k (node.Agent b body rest) = (body < k) × (rest < k)
BelowForm k (node.Migrate s body) = body < k
BelowForm k (node.IfLocal b c e met unmet) = (met < k) × (unmet < k)
BelowForm k (node.Send b s c e) = Unit {0}
BelowForm k (node.Post b c e) = Unit {0}
BelowForm k (node.If e met unmet) = (met < k) × (unmet < k)
BelowForm k (node.Let x e body) = body < k
BelowForm k (node.Print e) = Unit {0}
BelowForm k (node.Open e) = Unit {0}
BelowForm k (node.Lookup a m x met unmet) = (met < k) × (unmet < k)

abbrev pub Below : ℕ → Node → Type 0
Below k n = BelowForm k n.form

-- the list, and behind it the processes of nodes, each of which may name what stands before it
abbrev pub with_nodes : List Proc → List Node → List Proc
with_nodes ts [] = ts
with_nodes ts (n ∷ ns) = with_nodes (ts ++ plant ts n ∷ []) ns

-- each node's parts have smaller numbers, where the first node has this number
abbrev pub AllBelow : ℕ → List Node → Type 0
AllBelow k [] = Unit {0}
AllBelow k (n ∷ ns) = Below k n × AllBelow (k + 1) ns

-- more processes stand behind the others
pub record Grows (old new : List Proc) : Type 0 where
  pub behind : List Proc
  pub is : new ≡ old ++ behind

-- a part stands under a number, where there is one
abbrev pub Stands : List Proc → Option Proc → ℕ → Type 0
Stands ts None i = Unit {0}
Stands ts (Some p) i = (nth ts i ≡ p) × (i < length ts)
