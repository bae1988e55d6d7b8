-- Subtyping at each form of the first type, in both directions.
use Rattle.std.proofs.Common.{◌≡◌, Bool, true, false, not, cond, ◌&&◌, List, [], ◌∷◌, length, suc, refl, sym, ap, ◌∙◌}
use Rattle.np_syntax.specs.declared.types.Cap.{Cap}
use Rattle.np_syntax.specs.declared.types.Cap.TheVariants as cap
use Rattle.np_syntax.specs.declared.types.Ty.{Ty, Ty-F, out-Ty, roll-Ty, roll-out-Ty}
use Rattle.np_syntax.specs.declared.types.Ty as ty
use Rattle.np_syntax.specs.declared.types.Ty.TheVariants.{outs-Chan, outs-Tuple, rolls-Chan, rolls-Tuple}
use Rattle.np_syntax.proofs.Bools.{and-in, and-false}
use Rattle.np_subtyping.specs.Ordered.{Ordered, OrderedAll}
use Rattle.np_subtyping.specs.Sub.{◌⇒◌, reads, writes, TyLayer, sub, sub_at, sub_all, chans_at}
use Rattle.np_subtyping.proofs.Subs.{sub-out, sub-chans, sub-exact, sub-itself}

-- the forms that have no type in them
abbrev pub plain : TyLayer → Bool
plain (Ty-F.Chan c t) = false
plain (Ty-F.Tuple ts) = false
plain _ = true

-- what is below such a form is of this form
pub plain_turned : (b y : TyLayer) → plain b ≡ true → sub_at y b ≡ sub_at b y
plain_turned (Ty-F.Chan c t) y h = absurd cc
plain_turned (Ty-F.Tuple ts) y h = absurd cc
plain_turned _ (Ty-F.Chan c t) h = refl
plain_turned _ (Ty-F.Tuple ts) h = refl
plain_turned _ _ h = refl

sub-chan : (c : Cap) (s t : Ty) → sub (ty.Chan c s) t ≡ sub_at (Ty-F.Chan c s) (out-Ty t)
sub-chan c s t = rw (sub-out (ty.Chan c s) t, outs-Chan c s) refl

sub-tuple : (ss : List Ty) (t : Ty) → sub (ty.Tuple ss) t ≡ sub_at (Ty-F.Tuple ss) (out-Ty t)
sub-tuple ss t = rw (sub-out (ty.Tuple ss) t, outs-Tuple ss) refl

-- a type that has no type in it, and any other
pub ordered_plain : (b : TyLayer) → plain b ≡ true → (s : Ty) → out-Ty s ≡ b → (up : Bool) (t : Ty) → Ordered up s t ≡ sub_at b (out-Ty t)
ordered_plain b plainly s is true t = sub-out s t ∙ ap (λ y. sub_at y (out-Ty t)) is
ordered_plain b plainly s is false t = sub-out t s ∙ ap (sub_at (out-Ty t)) is ∙ plain_turned b (out-Ty t) plainly

abbrev pub ordered_chan : Bool → Cap → Ty → TyLayer → Bool
ordered_chan true c s (Ty-F.Chan d t) = (reads d ⇒ (reads c && sub s t)) && (writes d ⇒ (writes c && sub t s))
ordered_chan false c s (Ty-F.Chan d t) = (reads c ⇒ (reads d && sub t s)) && (writes c ⇒ (writes d && sub s t))
ordered_chan up c s _ = false

ordered_chan_at : (up : Bool) (c : Cap) (s : Ty) (y : TyLayer) → cond up (sub_at (Ty-F.Chan c s) y) (sub_at y (Ty-F.Chan c s)) ≡ ordered_chan up c s y
ordered_chan_at true c s (Ty-F.Chan d t) = refl
ordered_chan_at false c s (Ty-F.Chan d t) = refl
ordered_chan_at true c s (Ty-F.Tuple ts) = refl
ordered_chan_at false c s (Ty-F.Tuple ts) = refl
ordered_chan_at true c s _ = refl
ordered_chan_at false c s _ = refl

pub ordered-chan : (up : Bool) (c : Cap) (s t : Ty) → Ordered up (ty.Chan c s) t ≡ ordered_chan up c s (out-Ty t)
ordered-chan true c s t = sub-chan c s t ∙ ordered_chan_at true c s (out-Ty t)
ordered-chan false c s t = sub-out t (ty.Chan c s) ∙ ap (sub_at (out-Ty t)) (outs-Chan c s) ∙ ordered_chan_at false c s (out-Ty t)

abbrev pub ordered_tuple : Bool → List Ty → TyLayer → Bool
ordered_tuple up ss (Ty-F.Tuple ts) = OrderedAll up ss ts
ordered_tuple up ss _ = false

ordered_tuple_at : (up : Bool) (ss : List Ty) (y : TyLayer) → cond up (sub_at (Ty-F.Tuple ss) y) (sub_at y (Ty-F.Tuple ss)) ≡ ordered_tuple up ss y
ordered_tuple_at true ss (Ty-F.Chan d t) = refl
ordered_tuple_at false ss (Ty-F.Chan d t) = refl
ordered_tuple_at true ss (Ty-F.Tuple ts) = refl
ordered_tuple_at false ss (Ty-F.Tuple ts) = refl
ordered_tuple_at true ss _ = refl
ordered_tuple_at false ss _ = refl

pub ordered-tuple : (up : Bool) (ss : List Ty) (t : Ty) → Ordered up (ty.Tuple ss) t ≡ ordered_tuple up ss (out-Ty t)
ordered-tuple true ss t = sub-tuple ss t ∙ ordered_tuple_at true ss (out-Ty t)
ordered-tuple false ss t = sub-out t (ty.Tuple ss) ∙ ap (sub_at (out-Ty t)) (outs-Tuple ss) ∙ ordered_tuple_at false ss (out-Ty t)

pub sub_all-lengths : (ss ts : List Ty) → ¬ (length ss ≡ length ts) → sub_all ss ts ≡ false
sub_all-lengths [] [] h = absurd (h refl)
sub_all-lengths [] (t ∷ ts) h = refl
sub_all-lengths (s ∷ ss) [] h = refl
sub_all-lengths (s ∷ ss) (t ∷ ts) h = ap (λ b. sub s t && b) (sub_all-lengths ss ts (λ e. h (ap suc e))) ∙ and-false (sub s t)

both : (r : Bool) (s t : Ty) (b c : Bool) → sub s t ≡ b → sub t s ≡ c → (r ≡ true → s ≡ t) → (s ≡ t → r ≡ true) → r ≡ (b && c)
both true s t b c h k f g = let e = f refl in sym (and-in (sym h ∙ ap (λ x. sub s x) (sym e) ∙ sub-itself s) (sym k ∙ ap (λ x. sub t x) e ∙ sub-itself t))
both false s t true true h k f g = g (sub-exact s t h k)
both false s t true false h k f g = refl
both false s t false c h k f g = refl

-- where both are of both capabilities, the types that they carry are one
pub sub-both : (r : Bool) (s t : Ty) → (r ≡ true → s ≡ t) → (s ≡ t → r ≡ true) → r ≡ sub (ty.Chan cap.Both s) (ty.Chan cap.Both t)
sub-both r s t f g = both r s t (sub s t) (sub t s) refl refl f g ∙ sym (sub-chan cap.Both s (ty.Chan cap.Both t) ∙ ap (sub_at (Ty-F.Chan cap.Both s)) (outs-Chan cap.Both t))

pub ordered_lengths : (up : Bool) (ss ts : List Ty) → ¬ (length ss ≡ length ts) → OrderedAll up ss ts ≡ false
ordered_lengths true ss ts h = sub_all-lengths ss ts h
ordered_lengths false ss ts h = sub_all-lengths ts ss (λ e. h (sym e))

pub ordered-both : (up : Bool) (r : Bool) (s t : Ty) → (r ≡ true → s ≡ t) → (s ≡ t → r ≡ true) → r ≡ Ordered up (ty.Chan cap.Both s) (ty.Chan cap.Both t)
ordered-both true r s t f g = sub-both r s t f g
ordered-both false r s t f g = sub-both r t s (λ e. sym (f e)) (λ e. g (sym e))

-- ---- what a comparison answers, form by form

-- a form that has no type in it
pub plainly : (b : TyLayer) → plain b ≡ true → (up : Bool) (s u t : Ty) {r : Bool} → s ≡ u → out-Ty u ≡ b → r ≡ sub_at b (out-Ty t) → r ≡ Ordered up s t
plainly b h up s u t is form told = told ∙ sym (ordered_plain b h s (ap out-Ty is ∙ form) up t)

-- channels on both sides: the table's lines, read either way
abbrev pub chans_told : Bool → Cap → Ty → Cap → Ty → Bool
chans_told true c s d t = chans_at c s d t
chans_told false c s d t = chans_at d t c s

ordered_chans : (up : Bool) (c d : Cap) (s t : Ty) → Ordered up (ty.Chan c s) (ty.Chan d t) ≡ chans_told up c s d t
ordered_chans true c d s t = sub-chans c d s t
ordered_chans false c d s t = sub-chans d c t s

pub channels : (up : Bool) {a b : Ty} {c d e f : Cap} (s t : Ty) {r : Bool} → a ≡ ty.Chan c s → b ≡ ty.Chan d t → c ≡ e → d ≡ f → r ≡ chans_told up e s f t → r ≡ Ordered up a b
channels up {c = c} {d = d} s t left right first second told =
    told ∙ (λ i. chans_told up (sym first i) s (sym second i) t) ∙ sym (ordered_chans up c d s t) ∙ (λ i. Ordered up (sym left i) (sym right i))

-- a comparison of what they carry
pub carried : (up : Bool) {r : Bool} {s t u v : Ty} → r ≡ Ordered up s t → s ≡ u → t ≡ v → r ≡ Ordered up u v
carried up told left right = told ∙ (λ i. Ordered up (left i) (right i))

pub inputs : (up : Bool) (s t : Ty) → Ordered up s t ≡ chans_told up cap.Input s cap.Input t
inputs true s t = refl
inputs false s t = refl

pub outputs : (up : Bool) (s t : Ty) → Ordered (not up) s t ≡ chans_told up cap.Output s cap.Output t
outputs true s t = refl
outputs false s t = refl

pub input_output : (up : Bool) (s t : Ty) → false ≡ chans_told up cap.Input s cap.Output t
input_output true s t = refl
input_output false s t = refl

pub output_input : (up : Bool) (s t : Ty) → false ≡ chans_told up cap.Output s cap.Input t
output_input true s t = refl
output_input false s t = refl

-- a channel beside what is none
pub no_channel : (up : Bool) {a : Ty} {c : Cap} (s b : Ty) → a ≡ ty.Chan c s → ((d : Cap) (t : Ty) → b ≡ ty.Chan d t → ⊥) → false ≡ Ordered up a b
no_channel up {c = c} s b is other = go (out-Ty b) refl ∙ sym (ordered-chan up c s b) ∙ ap (λ a. Ordered up a b) (sym is)
  where
    go : (y : TyLayer) → out-Ty b ≡ y → false ≡ ordered_chan up c s y
    go (Ty-F.Chan d t) form = absurd (other d t (sym (roll-out-Ty b) ∙ ap roll-Ty form ∙ rolls-Chan d t))
    go (Ty-F.Tuple ts) form = neither up
      where
        neither : (up : Bool) → false ≡ ordered_chan up c s (Ty-F.Tuple ts)
        neither true = refl
        neither false = refl
    go y form = neither up
      where
        neither : (up : Bool) → false ≡ ordered_chan up c s y
        neither true = refl
        neither false = refl

-- tuples on both sides, and a tuple beside what is none
pub tuples : (up : Bool) {a b : Ty} (ss ts : List Ty) {r : Bool} → a ≡ ty.Tuple ss → b ≡ ty.Tuple ts → r ≡ OrderedAll up ss ts → r ≡ Ordered up a b
tuples up ss ts left right told =
    told ∙ ap (ordered_tuple up ss) (sym (outs-Tuple ts)) ∙ sym (ordered-tuple up ss (ty.Tuple ts)) ∙ (λ i. Ordered up (sym left i) (sym right i))

pub no_tuple : (up : Bool) {a : Ty} (ss : List Ty) (b : Ty) → a ≡ ty.Tuple ss → ((ts : List Ty) → b ≡ ty.Tuple ts → ⊥) → false ≡ Ordered up a b
no_tuple up ss b is other = go (out-Ty b) refl ∙ sym (ordered-tuple up ss b) ∙ ap (λ a. Ordered up a b) (sym is)
  where
    go : (y : TyLayer) → out-Ty b ≡ y → false ≡ ordered_tuple up ss y
    go (Ty-F.Tuple ts) form = absurd (other ts (sym (roll-out-Ty b) ∙ ap roll-Ty form ∙ rolls-Tuple ts))
    go _ form = refl
