-- Subtyping (docs/LANGUAGE.md, "Types").
use Rattle.std.specs.Prelude.{Bool, true, false, ◌&&◌, Option, None, Some, List, [], ◌∷◌}
use Rattle.np_syntax.specs.declared.types.Cap.{Cap}
use Rattle.np_syntax.specs.declared.types.Cap.TheVariants as cap
use Rattle.np_syntax.specs.declared.types.Ty.{Ty, Ty-F, out-Ty, fold-Ty}

-- what a capability allows
abbrev pub reads : Cap → Bool
reads cap.Both = true
reads cap.Input = true
reads cap.Output = false

abbrev pub writes : Cap → Bool
writes cap.Both = true
writes cap.Input = false
writes cap.Output = true

infixr 5 ◌⇒◌
abbrev pub ◌⇒◌ : Bool → Bool → Bool
true ⇒ b = b
false ⇒ b = true

-- a type by its form
abbrev pub TyLayer : Type 0
TyLayer = Ty-F Ty

abbrev pub is_int : TyLayer → Bool
is_int Ty-F.Int = true
is_int _ = false

abbrev pub is_bool : TyLayer → Bool
is_bool Ty-F.Bool = true
is_bool _ = false

abbrev pub is_str : TyLayer → Bool
is_str Ty-F.Str = true
is_str _ = false

abbrev pub is_site : TyLayer → Bool
is_site Ty-F.Site = true
is_site _ = false

abbrev pub is_agent : TyLayer → Bool
is_agent Ty-F.Agent = true
is_agent _ = false

abbrev pub is_letter : TyLayer → Bool
is_letter Ty-F.Letter = true
is_letter _ = false

abbrev pub is_places : TyLayer → Bool
is_places Ty-F.Places = true
is_places _ = false

-- the types in a tuple
abbrev pub as_tuple : TyLayer → Option (List Ty)
as_tuple (Ty-F.Tuple ts) = Some ts
as_tuple _ = None

-- the types that a type is below, and those that are below it: an output turns one into the other
abbrev pub Order : Type 0
Order = (Ty → Bool) × (Ty → Bool)

abbrev pub chan_below : Cap → Order → TyLayer → Bool
chan_below c s (Ty-F.Chan d t) = (reads d ⇒ (reads c && s.0 t)) && (writes d ⇒ (writes c && s.1 t))
chan_below c s _ = false

abbrev pub chan_above : Cap → Order → TyLayer → Bool
chan_above d t (Ty-F.Chan c s) = (reads d ⇒ (reads c && t.1 s)) && (writes d ⇒ (writes c && t.0 s))
chan_above d t _ = false

abbrev pub all_below : List Order → List Ty → Bool
all_below [] [] = true
all_below [] (t ∷ ts) = false
all_below (s ∷ ss) [] = false
all_below (s ∷ ss) (t ∷ ts) = s.0 t && all_below ss ts

abbrev pub all_above : List Order → List Ty → Bool
all_above [] [] = true
all_above [] (t ∷ ts) = false
all_above (s ∷ ss) [] = false
all_above (s ∷ ss) (t ∷ ts) = s.1 t && all_above ss ts

abbrev pub tuple_below : List Order → TyLayer → Bool
tuple_below ss (Ty-F.Tuple ts) = all_below ss ts
tuple_below ss _ = false

abbrev pub tuple_above : List Order → TyLayer → Bool
tuple_above ss (Ty-F.Tuple ts) = all_above ss ts
tuple_above ss _ = false

abbrev pub below : Ty-F Order → TyLayer → Bool
below Ty-F.Int t = is_int t
below Ty-F.Bool t = is_bool t
below Ty-F.Str t = is_str t
below Ty-F.Site t = is_site t
below Ty-F.Agent t = is_agent t
below (Ty-F.Chan c s) t = chan_below c s t
below (Ty-F.Tuple ss) t = tuple_below ss t
below Ty-F.Letter t = is_letter t
below Ty-F.Places t = is_places t

abbrev pub above : Ty-F Order → TyLayer → Bool
above Ty-F.Int t = is_int t
above Ty-F.Bool t = is_bool t
above Ty-F.Str t = is_str t
above Ty-F.Site t = is_site t
above Ty-F.Agent t = is_agent t
above (Ty-F.Chan c s) t = chan_above c s t
above (Ty-F.Tuple ss) t = tuple_above ss t
above Ty-F.Letter t = is_letter t
above Ty-F.Places t = is_places t

abbrev pub order_step : Ty-F Order → Order
order_step o = (λ t. below o (out-Ty t), λ t. above o (out-Ty t))

unfoldable pub order : Ty → Order
order = fold-Ty Order order_step

-- S <= T
abbrev pub sub : Ty → Ty → Bool
sub s t = (order s).0 t

-- T <= S
abbrev pub sup : Ty → Ty → Bool
sup s t = (order s).1 t

abbrev pub sub_all : List Ty → List Ty → Bool
sub_all [] [] = true
sub_all [] (t ∷ ts) = false
sub_all (s ∷ ss) [] = false
sub_all (s ∷ ss) (t ∷ ts) = sub s t && sub_all ss ts

-- the table of subtyping: a lemma has that `sub s t` is this of the forms of `s` and `t`
abbrev pub sub_at : TyLayer → TyLayer → Bool
sub_at Ty-F.Int t = is_int t
sub_at Ty-F.Bool t = is_bool t
sub_at Ty-F.Str t = is_str t
sub_at Ty-F.Site t = is_site t
sub_at Ty-F.Agent t = is_agent t
sub_at (Ty-F.Chan c s) (Ty-F.Chan d t) = (reads d ⇒ (reads c && sub s t)) && (writes d ⇒ (writes c && sub t s))
sub_at (Ty-F.Chan c s) _ = false
sub_at (Ty-F.Tuple ss) (Ty-F.Tuple ts) = sub_all ss ts
sub_at (Ty-F.Tuple ss) _ = false
sub_at Ty-F.Letter t = is_letter t
sub_at Ty-F.Places t = is_places t

-- the lines of the table on channel types
abbrev pub chans_at : Cap → Ty → Cap → Ty → Bool
chans_at cap.Both s cap.Both t = sub s t && sub t s
chans_at cap.Both s cap.Input t = sub s t
chans_at cap.Input s cap.Input t = sub s t
chans_at cap.Both s cap.Output t = sub t s
chans_at cap.Output s cap.Output t = sub t s
chans_at _ s _ t = false
