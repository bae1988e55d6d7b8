-- The least type of each form of value.
use Rattle.std.proofs.Common.{◌≡◌, ℕ, ℤ, Bool, List, [], ◌∷◌, ◌++◌, length, map, Option, None, Some, refl, sym, ap, ◌∙◌, arith}
use Rattle.np_syntax.specs.declared.value.Name.{Name}
use Rattle.np_syntax.specs.declared.value.Value.{Value, Value-F, out-Value, map-Value, fold_out-Value}
use Rattle.np_syntax.specs.declared.value.Value as value
use Rattle.np_syntax.specs.declared.value.Value.TheVariants.{outs-Int, outs-Truth, outs-Str, outs-Site, outs-Agent, outs-Chan, outs-Tuple, outs-Letter, outs-Places}
use Rattle.np_syntax.specs.declared.types.Ty.{Ty}
use Rattle.np_syntax.specs.declared.types.Ty as ty
use Rattle.np_syntax.specs.Options.{◌>>=◌, all_some}
use Rattle.np_types.specs.Worlds.{World, bare, kind, kinds, kind_step}

abbrev pub kind_layer : World → Value-F Value → Option Ty
kind_layer w y = kind_step w (map-Value Value (Option Ty) (kind w) y)

pub kind-out : (w : World) (v : Value) → kind w v ≡ kind_step w (map-Value Value (Option Ty) (kind w) (out-Value v))
unfolding kind
kind-out w v = fold_out-Value (Option Ty) (kind_step w) v

pub kind_of : (w : World) (v : Value) (y : Value-F Value) → out-Value v ≡ y → kind w v ≡ kind_layer w y
kind_of w v y is = kind-out w v ∙ ap (kind_layer w) is

-- what is told of a value by its form
pub told : {v u : Value} {o : Option Ty} → v ≡ u → kind bare u ≡ o → o ≡ kind bare v
told is tells = sym tells ∙ ap (kind bare) (sym is)

pub kind-int : (i : ℤ) → kind bare (value.Int i) ≡ Some ty.Int
kind-int i = kind_of bare (value.Int i) (Value-F.Int i) (outs-Int i)

pub kind-truth : (b : Bool) → kind bare (value.Truth b) ≡ Some ty.Bool
kind-truth b = kind_of bare (value.Truth b) (Value-F.Truth b) (outs-Truth b)

pub kind-str : (s : List ℕ) → kind bare (value.Str s) ≡ Some ty.Str
kind-str s = kind_of bare (value.Str s) (Value-F.Str s) (outs-Str s)

pub kind-site : (s : ℕ) → kind bare (value.Site s) ≡ Some ty.Site
kind-site s = kind_of bare (value.Site s) (Value-F.Site s) (outs-Site s)

pub kind-agent : (a : Name) → kind bare (value.Agent a) ≡ Some ty.Agent
kind-agent a = kind_of bare (value.Agent a) (Value-F.Agent a) (outs-Agent a)

pub kind-chan : (c : Name) → kind bare (value.Chan c) ≡ None
kind-chan c = kind_of bare (value.Chan c) (Value-F.Chan c) (outs-Chan c)

pub kind-letter : (c : Name) (v : Value) → kind bare (value.Letter c v) ≡ None
kind-letter c v = kind_of bare (value.Letter c v) (Value-F.Letter c v) (outs-Letter c v)

pub kinds-map : (w : World) (vs : List Value) → all_some (map (kind w) vs) ≡ kinds w vs
kinds-map w [] = refl
kinds-map w (v ∷ vs) = ap (λ o. kind w v >>= λ t. o >>= λ ts. Some (t ∷ ts)) (kinds-map w vs)

pub kind-tuple : (vs : List Value) → kind bare (value.Tuple vs) ≡ (kinds bare vs >>= λ ts. Some (ty.Tuple ts))
kind-tuple vs = kind_of bare (value.Tuple vs) (Value-F.Tuple vs) (outs-Tuple vs) ∙ ap (λ o. o >>= λ ts. Some (ty.Tuple ts)) (kinds-map bare vs)

kind-places : (ps : List (Name × Name)) → kind bare (value.Places ps) ≡ kind_layer bare (Value-F.Places ps)
kind-places ps = kind_of bare (value.Places ps) (Value-F.Places ps) (outs-Places ps)

pub places_none : (ps : List (Name × Name)) → length ps ≡ 0 → kind bare (value.Places ps) ≡ Some ty.Places
places_none [] e = kind-places []
places_none (p ∷ ps) e = absurd (omega arith)

pub places_some : (ps : List (Name × Name)) → ¬ (length ps ≡ 0) → kind bare (value.Places ps) ≡ None
places_some [] e = absurd (e refl)
places_some (p ∷ ps) e = kind-places (p ∷ ps)

-- the types so far, and then those of the rest
abbrev pub after_types : List Ty → Option (List Ty) → Option (List Ty)
after_types ts None = None
after_types ts (Some rest) = Some (ts ++ rest)

pub ruleset value_types = (kind-tuple)
