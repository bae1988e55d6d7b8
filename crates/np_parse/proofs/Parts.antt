-- The parts of a tuple, of whatever they are.
use Rattle.std.proofs.Common.{ℕ, zero, suc, ◌≤◌, List, [], ◌∷◌, ◌++◌, arith}
use Rattle.np_syntax.specs.declared.types.Ty.{Ty}
use Rattle.np_lex.specs.declared.token.Token.{Token}
use Rattle.np_tree.specs.declared.tree.RawExpr.{RawExpr}
use Rattle.np_tree.specs.declared.tree.RawPat.{RawPat}
use Rattle.np_tree.specs.Grammar as g
use Rattle.np_tree.specs.Grammar.{IsType, AreTypes, IsPat, ArePats, IsExpr, AreExprs}
use Rattle.np_parse.proofs.Fine.{Raises}

-- no more than the first number
pub data Are {A : Type 0} (Is : ℕ → List Token → A → Type 0) : ℕ → ℕ → List Token → List A → Type 0 where
  none : {room d : ℕ} → Are Is room d [] []
  part : {room d : ℕ} {ts us : List Token} {x : A} {xs : List A} → Are Is room d us xs → Is d ts x → Are Is (suc room) d (us ++ ts) (xs ++ x ∷ [])

pub raise_are : {A : Type 0} {Is : ℕ → List Token → A → Type 0} {room d : ℕ} {ts : List Token} {xs : List A} → Raises Is → Are Is room d ts xs → (b : ℕ) → d ≤ b → Are Is room b ts xs
raise_are r Are.none b h = Are.none
raise_are r (Are.part xs x) b h = Are.part (raise_are r xs b h) (r.raise x b h)

pub raise_room : {A : Type 0} {Is : ℕ → List Token → A → Type 0} {n d : ℕ} {ts : List Token} {xs : List A} → Are Is n d ts xs → (room : ℕ) → n ≤ room → Are Is room d ts xs
raise_room Are.none room h = Are.none
raise_room (Are.part xs x) zero h = absurd (omega arith)
raise_room (Are.part xs x) (suc room) h = Are.part (raise_room xs room (omega arith)) x

-- ---- the three that the grammar has

pub types_are : {room d : ℕ} {ts : List Token} {xs : List Ty} → AreTypes room d ts xs → Are IsType room d ts xs
types_are g.AreTypes.none = Are.none
types_are (g.AreTypes.part xs x) = Are.part (types_are xs) x

pub are_types : {room d : ℕ} {ts : List Token} {xs : List Ty} → Are IsType room d ts xs → AreTypes room d ts xs
are_types Are.none = g.AreTypes.none
are_types (Are.part xs x) = g.AreTypes.part (are_types xs) x

pub pats_are : {room d : ℕ} {ts : List Token} {xs : List RawPat} → ArePats room d ts xs → Are IsPat room d ts xs
pats_are g.ArePats.none = Are.none
pats_are (g.ArePats.part xs x) = Are.part (pats_are xs) x

pub are_pats : {room d : ℕ} {ts : List Token} {xs : List RawPat} → Are IsPat room d ts xs → ArePats room d ts xs
are_pats Are.none = g.ArePats.none
are_pats (Are.part xs x) = g.ArePats.part (are_pats xs) x

pub exprs_are : {room d : ℕ} {ts : List Token} {xs : List RawExpr} → AreExprs room d ts xs → Are IsExpr room d ts xs
exprs_are g.AreExprs.none = Are.none
exprs_are (g.AreExprs.part xs x) = Are.part (exprs_are xs) x

pub are_exprs : {room d : ℕ} {ts : List Token} {xs : List RawExpr} → Are IsExpr room d ts xs → AreExprs room d ts xs
are_exprs Are.none = g.AreExprs.none
are_exprs (Are.part xs x) = g.AreExprs.part (are_exprs xs) x
