-- The canonical text of a tree (docs/LANGUAGE.md, "Canonical text").
use Rattle.std.specs.Prelude.{ℕ, Bool, true, false, nat_lt, List, [], ◌∷◌, ◌++◌, map, codes}
use Rattle.np_syntax.specs.Printed.{spaced, value_text}
use Rattle.np_syntax.specs.declared.expression.Op.{Op}
use Rattle.np_syntax.specs.declared.expression.Op.TheVariants as op
use Rattle.np_syntax.specs.declared.types.Ty.{Ty, Row_of-Ty, end_of-Ty, more_of-Ty}
use Rattle.np_syntax.specs.declared.types.Ty as ty
use Rattle.np_lex.specs.declared.token.Sign.{Sign}
use Rattle.np_lex.specs.declared.token.Sign.TheVariants as sign
use Rattle.np_lex.specs.Tokens.{sign_text}
use Rattle.np_tree.specs.declared.tree.Ident.{Ident}
use Rattle.np_tree.specs.declared.tree.Tree.{Tree}
use Rattle.np_tree.specs.declared.tree.RawExpr.{RawExpr}
use Rattle.np_tree.specs.declared.tree.RawExprForm.{RawExprForm, Row_of-RawExpr, end_of-RawExpr, more_of-RawExpr, Row_of-RawExprForm}
use Rattle.np_tree.specs.declared.tree.RawExprForm.{end_of-RawExprForm, more_of-RawExprForm}
use Rattle.np_tree.specs.declared.tree.RawExprForm as expr
use Rattle.np_tree.specs.declared.tree.RawPat.{RawPat}
use Rattle.np_tree.specs.declared.tree.RawPatForm.{RawPatForm, Row_of-RawPat, end_of-RawPat, more_of-RawPat}
use Rattle.np_tree.specs.declared.tree.RawPatForm as pat
use Rattle.np_tree.specs.declared.tree.RawProc.{RawProc}
use Rattle.np_tree.specs.declared.tree.RawProcForm.{RawProcForm, Row_of-RawProcForm, end_of-RawProcForm, more_of-RawProcForm}
use Rattle.np_tree.specs.declared.tree.RawProcForm as form
use Rattle.np_tree.specs.Grammar.{cap_sign}

-- texts in square brackets, with single spaces between them
abbrev pub squared : List (List ℕ) → List ℕ
squared texts = codes "[" ++ spaced texts ++ codes "]"

-- the text in round brackets, where the test says so
abbrev pub bracketed : Bool → List ℕ → List ℕ
bracketed true text = codes "(" ++ text ++ codes ")"
bracketed false text = text

-- ---- types. A row is the parts of a form: one, or those of a tuple. A row of one is never empty. The types of the low level's
-- own values have no text.

abbrev mutual
  pub type_text : Ty → List ℕ
  type_text ty.Int = codes "Int"
  type_text ty.Bool = codes "Bool"
  type_text ty.Str = codes "String"
  type_text ty.Site = codes "Site"
  type_text ty.Agent = codes "Agent"
  type_text (ty.Chan' cap a t) = sign_text (cap_sign cap) ++ carried_text t
  type_text (ty.Tuple' shape ts) = squared (type_texts ts)
  type_text ty.Letter = []
  type_text ty.Places = []

  pub carried_text : {m : _} → Row_of-Ty m → List ℕ
  carried_text end_of-Ty = []
  carried_text (more_of-Ty t ts) = type_text t

  pub type_texts : {m : _} → Row_of-Ty m → List (List ℕ)
  type_texts end_of-Ty = []
  type_texts (more_of-Ty t ts) = type_text t ∷ type_texts ts

-- ---- patterns

abbrev mutual
  pub pat_form_text : RawPatForm → List ℕ
  pat_form_text pat.Any = codes "_"
  pat_form_text (pat.Bind name) = name.text
  pat_form_text (pat.Tuple' shape ps) = squared (pat_texts ps)

  pub pat_texts : {m : _} → Row_of-RawPat m → List (List ℕ)
  pat_texts end_of-RawPat = []
  pat_texts (more_of-RawPat at p ps) = pat_form_text p ∷ pat_texts ps

abbrev pub pat_text : RawPat → List ℕ
pat_text p = pat_form_text p.form

-- ---- expressions

abbrev pub op_sign : Op → Sign
op_sign op.Add = sign.Plus
op_sign op.Sub = sign.Minus
op_sign op.Mul = sign.Star
op_sign op.Less = sign.Less
op_sign op.Equal = sign.Same

-- how tightly an operation binds: a comparison 0, a sum 1, a product 2. An atom has 3.
abbrev pub strength : Op → ℕ
strength op.Add = 1
strength op.Sub = 1
strength op.Mul = 2
strength op.Less = 0
strength op.Equal = 0

-- what its left operand needs at least
abbrev pub left : Op → ℕ
left op.Add = 1
left op.Sub = 1
left op.Mul = 2
left op.Less = 1
left op.Equal = 1

-- and its right operand
abbrev pub right : Op → ℕ
right op.Add = 2
right op.Sub = 2
right op.Mul = 3
right op.Less = 1
right op.Equal = 1

abbrev pub joined : Op → List ℕ → List ℕ → List ℕ
joined o x y = x ++ codes " " ++ sign_text (op_sign o) ++ codes " " ++ y

abbrev mutual
  -- The text of an expression where this strength is needed. A value has its printed text, in a program without sites: a
  -- number, a truth value and a string, which alone stand in a source, are written as there; a tuple of values in square
  -- brackets; any other value has no text.
  pub expr_form_text : ℕ → RawExprForm → List ℕ
  expr_form_text level (expr.Val v) = value_text [] v
  expr_form_text level expr.Main = codes "main"
  expr_form_text level (expr.Var name) = name.text
  expr_form_text level (expr.Tuple' shape xs) = squared (expr_texts xs)
  expr_form_text level (expr.Bin' o _ a x _ b y) = bracketed (nat_lt (strength o) level)
      (joined o (operand_text (left o) x) (operand_text (right o) y))

  pub operand_text : ℕ → {m : _} → Row_of-RawExprForm m → List ℕ
  operand_text level end_of-RawExprForm = []
  operand_text level (more_of-RawExprForm x xs) = expr_form_text level x

  pub expr_texts : {m : _} → Row_of-RawExpr m → List (List ℕ)
  expr_texts end_of-RawExpr = []
  expr_texts (more_of-RawExpr at a x xs) = operand_text 0 x ∷ expr_texts xs

abbrev pub expr_text : ℕ → RawExpr → List ℕ
expr_text level x = expr_form_text level x.form

-- ---- processes

-- `c!e`
abbrev pub message_text : Ident → RawExpr → List ℕ
message_text c x = c.text ++ codes "!" ++ expr_text 0 x

abbrev mutual
  -- the text of a process. A composition has its bracket, but not where it is the left part of another.
  pub proc_form_text : Bool → RawProcForm → List ℕ
  proc_form_text bracket form.Stop = codes "0"
  proc_form_text bracket (form.Par' _ a p _ b q) = bracketed bracket (part_text false p ++ codes " | " ++ part_text true q)
  proc_form_text bracket (form.New' c t _ a p) = codes "new " ++ c.text ++ codes " : " ++ type_text t ++ codes " in " ++ part_text true p
  proc_form_text bracket (form.Out c x) = message_text c x
  proc_form_text bracket (form.Inp' c q _ a p) = c.text ++ codes "?" ++ pat_text q ++ codes " -> " ++ part_text true p
  proc_form_text bracket (form.Rep' c q _ a p) = codes "*" ++ c.text ++ codes "?" ++ pat_text q ++ codes " -> " ++ part_text true p
  proc_form_text bracket (form.Agent' c _ a p _ b q) = codes "agent " ++ c.text ++ codes " = " ++ part_text true p ++ codes " in "
      ++ part_text true q
  proc_form_text bracket (form.Migrate' x _ a p) = codes "migrate to " ++ expr_text 0 x ++ codes " -> " ++ part_text true p
  proc_form_text bracket (form.IfLocal' x c z _ a p _ b q) =
      codes "iflocal <" ++ expr_text 3 x ++ codes ">" ++ message_text c z ++ codes " then " ++ part_text true p ++ codes " else "
      ++ part_text true q
  proc_form_text bracket (form.Send x y c z) = codes "<" ++ expr_text 3 x ++ codes "@" ++ expr_text 3 y ++ codes ">" ++ message_text c z
  proc_form_text bracket (form.Post x c z) = codes "<" ++ expr_text 3 x ++ codes "@?>" ++ message_text c z
  proc_form_text bracket (form.If' x _ a p _ b q) = codes "if " ++ expr_text 0 x ++ codes " then " ++ part_text true p ++ codes " else "
      ++ part_text true q
  proc_form_text bracket (form.Let' q x _ a p) = codes "let " ++ pat_text q ++ codes " = " ++ expr_text 0 x ++ codes " in "
      ++ part_text true p
  proc_form_text bracket (form.Print x) = codes "print " ++ expr_text 0 x

  pub part_text : Bool → {m : _} → Row_of-RawProcForm m → List ℕ
  part_text bracket end_of-RawProcForm = []
  part_text bracket (more_of-RawProcForm p ps) = proc_form_text bracket p

abbrev pub proc_text : Bool → RawProc → List ℕ
proc_text bracket p = proc_form_text bracket p.form

-- ---- trees

abbrev pub name_text : Ident → List ℕ
name_text name = name.text

-- the canonical text
abbrev pub shown : Tree → List ℕ
shown tree = codes "sites " ++ spaced (map name_text tree.sites) ++ codes " ; main at " ++ tree.at.text ++ codes " = "
    ++ proc_text true tree.main ++ codes "\n"
