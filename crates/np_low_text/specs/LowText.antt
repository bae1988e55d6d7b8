-- The low text: how a low program is written (docs/TRANSLATION.md, "Low text"). It is the canonical text with binders, own names,
-- maps of places and the further forms of the low level.
use Rattle.std.specs.Prelude.{ℕ, Bool, true, false, nat_eq, nat_lt, List, [], ◌∷◌, ◌++◌, length, map, codes, slice_index_or, if◌then◌else◌}
use Rattle.std.specs.Fmt.{decimal}
use Rattle.np_syntax.specs.Printed.{spaced, value_text}
use Rattle.np_syntax.specs.declared.value.Name.{Name}
use Rattle.np_syntax.specs.declared.value.Value.{Value}
use Rattle.np_syntax.specs.declared.value.Value as value
use Rattle.np_syntax.specs.declared.expression.Expr.{Expr}
use Rattle.np_syntax.specs.declared.expression.ExprForm.{ExprForm, Row_of-Expr, end_of-Expr, more_of-Expr, Row_of-ExprForm, end_of-ExprForm}
use Rattle.np_syntax.specs.declared.expression.ExprForm.{more_of-ExprForm}
use Rattle.np_syntax.specs.declared.expression.ExprForm as expr
use Rattle.np_syntax.specs.declared.pattern.Pat.{Pat}
use Rattle.np_syntax.specs.declared.pattern.PatForm.{PatForm, Row_of-Pat, end_of-Pat, more_of-Pat}
use Rattle.np_syntax.specs.declared.pattern.PatForm as pat
use Rattle.np_syntax.specs.declared.process.Proc.{Proc}
use Rattle.np_syntax.specs.declared.process.ProcForm.{ProcForm, Row_of-ProcForm, end_of-ProcForm, more_of-ProcForm}
use Rattle.np_syntax.specs.declared.process.ProcForm as form
use Rattle.np_syntax.specs.declared.program.LowProgram.{LowProgram}
use Rattle.np_show.specs.Shown.{squared, bracketed, type_text, strength, left, right, joined}

-- the names of the sites
abbrev pub Sites : Type 0
Sites = List (List ℕ)

abbrev pub site_text : Sites → ℕ → List ℕ
site_text sites s = slice_index_or sites s []

abbrev pub binder_text : ℕ → List ℕ
binder_text x = codes "x" ++ decimal x

-- ---- names and values

-- the words of the program's own names, by their numbers: the first marks of main and of the daemon have none
abbrev pub own_words : List (List ℕ)
own_words =
    codes "main" ∷ codes "daemon" ∷ codes "register" ∷ codes "migrating" ∷ codes "migrated" ∷ codes "message" ∷ codes "deliver"
    ∷ codes "ack" ∷ codes "dack"
    ∷ codes "currentloc" ∷ codes "lock" ∷ [] ∷ [] ∷ codes "here" ∷ codes "cache" ∷ codes "where" ∷ codes "found" ∷ []

abbrev pub word : ℕ → List ℕ
word i = slice_index_or own_words i []

-- a name that is no own name of a program of n sites has no text
abbrev pub own_word : ℕ → Name → List ℕ
own_word n name = if nat_eq name.site n then word name.n else []

abbrev pub place_text : ℕ → Name × Name → List ℕ
place_text n place = own_word n place.0 ++ codes " " ++ own_word n place.1

abbrev pub places_text : ℕ → List (Name × Name) → List ℕ
places_text n places = codes "{" ++ spaced (map (place_text n) places) ++ codes "}"

-- what is not a name or a map of places has its printed text
abbrev pub constant_text : Sites → Value → List ℕ
constant_text sites (value.Agent a) = own_word (length sites) a
constant_text sites (value.Chan c) = own_word (length sites) c
constant_text sites (value.Places places) = places_text (length sites) places
constant_text sites v = value_text sites v

-- ---- patterns

abbrev mutual
  pub pat_form_text : PatForm → List ℕ
  pat_form_text pat.Any = codes "_"
  pat_form_text (pat.Bind x) = binder_text x
  pat_form_text (pat.Tuple' shape ps) = squared (pat_texts ps)

  pub pat_texts : {m : _} → Row_of-Pat m → List (List ℕ)
  pat_texts end_of-Pat = []
  pat_texts (more_of-Pat at p ps) = pat_form_text p ∷ pat_texts ps

abbrev pub pat_text : Pat → List ℕ
pat_text p = pat_form_text p.form

-- ---- expressions

abbrev mutual
  -- the text of an expression where this strength is needed
  pub expr_form_text : Sites → ℕ → ExprForm → List ℕ
  expr_form_text sites level (expr.Val v) = constant_text sites v
  expr_form_text sites level (expr.Var x) = binder_text x
  expr_form_text sites level (expr.Tuple' shape xs) = squared (expr_texts sites xs)
  expr_form_text sites level (expr.Bin' o _ a x _ b y) = bracketed (nat_lt (strength o) level)
      (joined o (part_text sites (left o) x) (part_text sites (right o) y))
  expr_form_text sites level (expr.Pack' _ a c _ b v) = codes "pack(" ++ part_text sites 0 c ++ codes ", " ++ part_text sites 0 v
      ++ codes ")"
  expr_form_text sites level (expr.With' _ a m _ b x _ c l) =
      codes "(" ++ part_text sites 0 m ++ codes " with " ++ part_text sites 0 x ++ codes " -> " ++ part_text sites 0 l ++ codes ")"

  pub part_text : Sites → ℕ → {m : _} → Row_of-ExprForm m → List ℕ
  part_text sites level end_of-ExprForm = []
  part_text sites level (more_of-ExprForm x xs) = expr_form_text sites level x

  pub expr_texts : Sites → {m : _} → Row_of-Expr m → List (List ℕ)
  expr_texts sites end_of-Expr = []
  expr_texts sites (more_of-Expr at a x xs) = part_text sites 0 x ∷ expr_texts sites xs

abbrev pub expr_text : Sites → ℕ → Expr → List ℕ
expr_text sites level x = expr_form_text sites level x.form

-- ---- processes

-- `c!e`
abbrev pub message_text : Sites → Expr → Expr → List ℕ
message_text sites c x = expr_text sites 3 c ++ codes "!" ++ expr_text sites 0 x

abbrev mutual
  -- the text of a process. A composition has its bracket, but not where it is the left part of another.
  pub proc_form_text : Sites → Bool → ProcForm → List ℕ
  proc_form_text sites bracket form.Stop = codes "0"
  proc_form_text sites bracket (form.Par' _ _ a p _ _ b q) = bracketed bracket
      (inner_text sites false p ++ codes " | " ++ inner_text sites true q)
  proc_form_text sites bracket (form.New' c t _ _ a p) = codes "new " ++ binder_text c ++ codes " : " ++ type_text t ++ codes " in "
      ++ inner_text sites true p
  proc_form_text sites bracket (form.Out c x) = message_text sites c x
  proc_form_text sites bracket (form.Inp' c q _ _ a p) = expr_text sites 3 c ++ codes "?" ++ pat_text q ++ codes " -> "
      ++ inner_text sites true p
  proc_form_text sites bracket (form.Rep' c q _ _ a p) = codes "*" ++ expr_text sites 3 c ++ codes "?" ++ pat_text q ++ codes " -> "
      ++ inner_text sites true p
  proc_form_text sites bracket (form.Agent' c _ _ a p _ _ b q) =
      codes "agent " ++ binder_text c ++ codes " = " ++ inner_text sites true p ++ codes " in " ++ inner_text sites true q
  proc_form_text sites bracket (form.Migrate' x _ _ a p) = codes "migrate to " ++ expr_text sites 0 x ++ codes " -> "
      ++ inner_text sites true p
  proc_form_text sites bracket (form.IfLocal' x c z _ _ a p _ _ b q) =
      codes "iflocal <" ++ expr_text sites 3 x ++ codes ">" ++ message_text sites c z ++ codes " then " ++ inner_text sites true p
      ++ codes " else " ++ inner_text sites true q
  proc_form_text sites bracket (form.Send x y c z) = codes "<" ++ expr_text sites 3 x ++ codes "@" ++ expr_text sites 3 y ++ codes ">"
      ++ message_text sites c z
  proc_form_text sites bracket (form.Post x c z) = codes "<" ++ expr_text sites 3 x ++ codes "@?>" ++ message_text sites c z
  proc_form_text sites bracket (form.If' x _ _ a p _ _ b q) =
      codes "if " ++ expr_text sites 0 x ++ codes " then " ++ inner_text sites true p ++ codes " else " ++ inner_text sites true q
  proc_form_text sites bracket (form.Let' q x _ _ a p) = codes "let " ++ pat_text q ++ codes " = " ++ expr_text sites 0 x ++ codes " in "
      ++ inner_text sites true p
  proc_form_text sites bracket (form.Print x) = codes "print " ++ expr_text sites 0 x
  proc_form_text sites bracket (form.Open x) = codes "open " ++ expr_text sites 0 x
  proc_form_text sites bracket (form.Lookup' x m c _ _ a p _ _ b q) =
      codes "lookup " ++ expr_text sites 0 x ++ codes " in " ++ expr_text sites 0 m ++ codes " then " ++ binder_text c ++ codes " -> "
      ++ inner_text sites true p ++ codes " else " ++ inner_text sites true q

  pub inner_text : Sites → Bool → {m : _} → Row_of-ProcForm m → List ℕ
  inner_text sites bracket end_of-ProcForm = []
  inner_text sites bracket (more_of-ProcForm p ps) = proc_form_text sites bracket p

abbrev pub proc_text : Sites → Bool → Proc → List ℕ
proc_text sites bracket p = proc_form_text sites bracket p.form

-- ---- programs

-- `main at S = P`, with its line feed
abbrev pub line_text : Sites → List ℕ → ℕ → Proc → List ℕ
line_text sites agent s p = agent ++ codes " at " ++ site_text sites s ++ codes " = " ++ proc_text sites true p ++ codes "\n"

abbrev pub low_text : LowProgram → List ℕ
low_text q = line_text q.sites (codes "main") q.at q.main ++ line_text q.sites (codes "daemon") 0 q.daemon
