-- What a table of pieces is once it is filled in (docs/TRANSLATION.md, "Translation and daemon"): it is read from its end, and each piece takes
-- the processes behind it.
use Rattle.std.specs.Prelude.{ℕ, zero, suc, ◌+◌, List, [], ◌∷◌}
use Rattle.np_syntax.specs.declared.value.Value as value
use Rattle.np_syntax.specs.declared.expression.Expr.{Expr}
use Rattle.np_syntax.specs.declared.expression.ExprForm as expr
use Rattle.np_syntax.specs.declared.pattern.Pat.{Pat}
use Rattle.np_syntax.specs.declared.process.Proc.{Proc}
use Rattle.np_syntax.specs.declared.process.ProcForm as form
use Rattle.np_calculus.specs.Starts.{own}
use Rattle.np_check.specs.Faults.{lock_type}
use Rattle.infrastructure_texts.specs.declared.notation.Word.{Word}
use Rattle.infrastructure_texts.specs.declared.notation.Word.TheVariants as word
use Rattle.infrastructure_texts.specs.declared.notation.Content.{Content}
use Rattle.infrastructure_texts.specs.declared.notation.Content.TheVariants as content
use Rattle.infrastructure_texts.specs.declared.notation.Names.{Names}
use Rattle.infrastructure_texts.specs.declared.notation.Names.TheVariants as names
use Rattle.infrastructure_texts.specs.declared.notation.Piece.{Piece}
use Rattle.infrastructure_texts.specs.declared.notation.Piece.TheVariants as piece
use Rattle.infrastructure_texts.specs.Pieces.{agent, beside, channel, daemon, expression, gives, infra, name, nothing, pair, process}
use Rattle.infrastructure_texts.specs.Pieces.{sends, serves, site, stop, takes, two_names, unit, variable}
use Rattle.infrastructure_texts.specs.Texts.{letter}

-- what a table is filled in with
pub record Hand : Type 0 where
  -- the number of sites, and that of the source node
  pub sites : ℕ
  pub node : ℕ
  -- the numbers of the first binders, and that from which the others are numbered on
  pub binders : List ℕ
  pub next : ℕ
  -- the expressions that are given
  pub given : List Expr

abbrev pub hand : ℕ → ℕ → List ℕ → ℕ → List Expr → Hand
hand n k bs x es = record { sites = n; node = k; binders = bs; next = x; given = es }

-- the number of the binder at this place
abbrev pub nth_binder : List ℕ → ℕ → ℕ → ℕ
nth_binder [] next zero = next
nth_binder [] next (suc i) = next + suc i
nth_binder (b ∷ bs) next zero = b
nth_binder (b ∷ bs) next (suc i) = nth_binder bs next i

abbrev pub number : Hand → ℕ → ℕ
number h i = nth_binder h.binders h.next i

-- the expression at this place
abbrev pub nth_given : List Expr → ℕ → Expr
nth_given [] i = unit
nth_given (e ∷ es) zero = e
nth_given (e ∷ es) (suc i) = nth_given es i

abbrev pub as_word : Hand → Word → Expr
as_word h (word.Bound i) = variable (number h i)
as_word h (word.Given i) = nth_given h.given i
as_word h (word.Channel i) = channel h.sites i
as_word h (word.Agent i) = agent h.sites i

abbrev pub as_content : Hand → Content → Expr
as_content h (content.Just w) = as_word h w
as_content h content.Unit = unit
as_content h (content.Pair a b) = pair (as_word h a) (as_word h b)
as_content h (content.Letter b c v) = pair (as_word h b) (letter (as_word h c) (as_word h v))
as_content h (content.With m a l) = expression (expr.With (variable (number h m)) (variable (number h a)) (variable (number h l)))
as_content h content.FirstPlaces = expression (expr.Val (value.Places ((own h.sites 0, own h.sites 13) ∷ [])))
as_content h content.NoPlaces = expression (expr.Val (value.Places []))

abbrev pub as_names : Hand → Names → Pat
as_names h names.Any = nothing
as_names h (names.One x) = name (number h x)
as_names h (names.Two x y) = two_names (number h x) (number h y)

-- the processes behind a piece, and those that are still to be put in, of each the nearest first
pub record Behind : Type 0 where
  pub made : List Proc
  pub parts : List Proc

abbrev pub first : List Proc → Proc
first [] = stop 0
first (p ∷ ps) = p

abbrev pub others : List Proc → List Proc
others [] = []
others (p ∷ ps) = ps

-- the process that a piece makes
abbrev pub made : Hand → Piece → Behind → Proc
made h piece.Stop s = stop h.node
made h piece.Both s = beside h.node (first s.made) (first (others s.made))
made h (piece.NewLock l) s = infra h.node (form.New (number h l) lock_type (first s.made))
made h (piece.Gives c e) s = gives h.node (as_word h c) (as_content h e)
made h (piece.Takes c p) s = takes h.node (as_word h c) (as_names h p) (first s.made)
made h (piece.Serves c p) s = serves h.node (as_word h c) (as_names h p) (first s.made)
made h (piece.Creates r b) s = process h.node r (form.Agent (number h b) (first s.made) (first (others s.made)))
made h (piece.Goes r e) s = process h.node r (form.Migrate (as_word h e) (first s.made))
made h (piece.Meets b c v) s =
    infra h.node (form.IfLocal (as_word h b) (as_word h c) (as_word h v) (first s.made) (first (others s.made)))
made h (piece.Sends b t c e) s = sends h.node (as_word h b) (as_word h t) (as_word h c) (as_content h e)
made h (piece.Tells r c e) s = process h.node r (form.Send (daemon h.sites) (site 0) (as_word h c) (as_content h e))
made h (piece.Opens e) s = infra h.node (form.Open (as_word h e))
made h (piece.Looks a m l) s =
    infra h.node (form.Lookup (as_word h a) (variable (number h m)) (number h l) (first s.made) (first (others s.made)))
made h piece.Part s = first s.parts

-- the processes that it leaves
abbrev pub left : Piece → List Proc → List Proc
left piece.Both ps = others (others ps)
left (piece.NewLock l) ps = others ps
left (piece.Takes c p) ps = others ps
left (piece.Serves c p) ps = others ps
left (piece.Creates r b) ps = others (others ps)
left (piece.Goes r e) ps = others ps
left (piece.Meets b c v) ps = others (others ps)
left (piece.Looks a m l) ps = others (others ps)
left _ ps = ps

abbrev pub parts_left : Piece → List Proc → List Proc
parts_left piece.Part ps = others ps
parts_left _ ps = ps

abbrev pub step : Hand → Piece → Behind → Behind
step h x s = record { made = made h x s ∷ left x s.made; parts = parts_left x s.parts }

abbrev pub build : Hand → List Piece → List Proc → Behind
build h [] parts = record { made = []; parts = parts }
build h (x ∷ xs) parts = step h x (build h xs parts)

-- the process that a table is, with these processes put in, the last of them first
abbrev pub filled : Hand → List Piece → List Proc → Proc
filled h table parts = first (build h table parts).made
