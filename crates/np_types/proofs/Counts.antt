-- The nodes of each form of type, and which are printable.
use Rattle.std.proofs.Common.{◌≡◌, ◌⊎◌, inl, inr, ℕ, ◌+◌, ◌<◌, Bool, true, false, ◌&&◌, List, [], ◌∷◌, map, refl, sym, ap, ◌∙◌, subst, arith}
use Rattle.np_syntax.specs.declared.types.Cap.{Cap}
use Rattle.np_syntax.specs.declared.types.Ty.{Ty, Ty-F, out-Ty, map-Ty}
use Rattle.np_syntax.specs.declared.types.Ty as ty
use Rattle.np_syntax.specs.declared.types.Ty.TheVariants.{outs-Int, outs-Bool, outs-Str, outs-Site, outs-Agent, outs-Letter, outs-Places, outs-Chan, outs-Tuple}
use Rattle.np_subtyping.specs.Sub.{TyLayer}
use Rattle.np_types.specs.Widths.{nodes, nodes_all, nodes_step, sum_all, printable, printable_all, printable_step, every}
use Rattle.np_types.proofs.Below.{nodes-out, printable-out}

abbrev count : TyLayer → ℕ
count y = nodes_step (map-Ty Ty ℕ nodes y)

counted : (t : Ty) (y : TyLayer) → out-Ty t ≡ y → nodes t ≡ count y
counted t y is = nodes-out t ∙ ap count is

pub nodes-int : nodes ty.Int ≡ 1
nodes-int = counted ty.Int Ty-F.Int outs-Int

pub nodes-bool : nodes ty.Bool ≡ 1
nodes-bool = counted ty.Bool Ty-F.Bool outs-Bool

pub nodes-str : nodes ty.Str ≡ 1
nodes-str = counted ty.Str Ty-F.Str outs-Str

pub nodes-site : nodes ty.Site ≡ 1
nodes-site = counted ty.Site Ty-F.Site outs-Site

pub nodes-agent : nodes ty.Agent ≡ 1
nodes-agent = counted ty.Agent Ty-F.Agent outs-Agent

pub nodes-letter : nodes ty.Letter ≡ 1
nodes-letter = counted ty.Letter Ty-F.Letter outs-Letter

pub nodes-places : nodes ty.Places ≡ 1
nodes-places = counted ty.Places Ty-F.Places outs-Places

pub nodes-chan : (c : Cap) (t : Ty) → nodes (ty.Chan c t) ≡ 1 + nodes t
nodes-chan c t = counted (ty.Chan c t) (Ty-F.Chan c t) (outs-Chan c t)

sum_all-map : (ts : List Ty) → sum_all (map nodes ts) ≡ nodes_all ts
sum_all-map [] = refl
sum_all-map (t ∷ ts) = ap (λ n. nodes t + n) (sum_all-map ts)

pub nodes-tuple : (ts : List Ty) → nodes (ty.Tuple ts) ≡ 1 + nodes_all ts
nodes-tuple ts = counted (ty.Tuple ts) (Ty-F.Tuple ts) (outs-Tuple ts) ∙ ap (λ n. 1 + n) (sum_all-map ts)

some_at : (y : TyLayer) → 0 < count y
some_at (Ty-F.Chan c t) = omega arith
some_at (Ty-F.Tuple ts) = omega arith
some_at _ = omega arith

-- each type has a node
pub nodes_some : (t : Ty) → 0 < nodes t
nodes_some t = subst (λ n. 0 < n) (sym (nodes-out t)) (some_at (out-Ty t))

pub ruleset counts = (nodes-int, nodes-bool, nodes-str, nodes-site, nodes-agent, nodes-letter, nodes-places, nodes-chan, nodes-tuple, nodes_some)

abbrev shown : TyLayer → Bool
shown y = printable_step (map-Ty Ty Bool printable y)

showing : (t : Ty) (y : TyLayer) → out-Ty t ≡ y → printable t ≡ shown y
showing t y is = printable-out t ∙ ap shown is

pub printable-int : printable ty.Int ≡ true
printable-int = showing ty.Int Ty-F.Int outs-Int

pub printable-bool : printable ty.Bool ≡ true
printable-bool = showing ty.Bool Ty-F.Bool outs-Bool

pub printable-str : printable ty.Str ≡ true
printable-str = showing ty.Str Ty-F.Str outs-Str

pub printable-site : printable ty.Site ≡ true
printable-site = showing ty.Site Ty-F.Site outs-Site

pub printable-agent : printable ty.Agent ≡ false
printable-agent = showing ty.Agent Ty-F.Agent outs-Agent

pub printable-letter : printable ty.Letter ≡ false
printable-letter = showing ty.Letter Ty-F.Letter outs-Letter

pub printable-places : printable ty.Places ≡ false
printable-places = showing ty.Places Ty-F.Places outs-Places

pub printable-chan : (c : Cap) (t : Ty) → printable (ty.Chan c t) ≡ false
printable-chan c t = showing (ty.Chan c t) (Ty-F.Chan c t) (outs-Chan c t)

every-map : (ts : List Ty) → every (map printable ts) ≡ printable_all ts
every-map [] = refl
every-map (t ∷ ts) = ap (λ b. printable t && b) (every-map ts)

pub printable-tuple : (ts : List Ty) → printable (ty.Tuple ts) ≡ printable_all ts
printable-tuple ts = showing (ty.Tuple ts) (Ty-F.Tuple ts) (outs-Tuple ts) ∙ every-map ts

pub printed : (t : Ty) → (t ≡ ty.Int) ⊎ ((t ≡ ty.Bool) ⊎ ((t ≡ ty.Str) ⊎ (t ≡ ty.Site))) → true ≡ printable t
printed t (inl is) = rw (is, printable-int) refl
printed t (inr (inl is)) = rw (is, printable-bool) refl
printed t (inr (inr (inl is))) = rw (is, printable-str) refl
printed t (inr (inr (inr is))) = rw (is, printable-site) refl

pub hidden : (t : Ty) → (t ≡ ty.Agent) ⊎ (((c : Cap) × (s : Ty) × (t ≡ ty.Chan c s)) ⊎ ((t ≡ ty.Letter) ⊎ (t ≡ ty.Places))) → false ≡ printable t
hidden t (inl is) = rw (is, printable-agent) refl
hidden t (inr (inl is)) = rw (is.2, printable-chan) refl
hidden t (inr (inr (inl is))) = rw (is, printable-letter) refl
hidden t (inr (inr (inr is))) = rw (is, printable-places) refl

pub ruleset prints = (printable-tuple)
