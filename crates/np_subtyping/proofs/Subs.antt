-- Subtyping is an order.
use Rattle.std.proofs.Common.{◌≡◌, Bool, true, false, ◌&&◌, refl, map, List, [], ◌∷◌, sym, ap, ◌∙◌}
use Rattle.np_syntax.specs.declared.types.Cap.{Cap}
use Rattle.np_syntax.specs.declared.types.Ty.{Ty, Ty-F, out-Ty, roll-Ty, roll-out-Ty, map-Ty, fold_out-Ty}
use Rattle.np_syntax.specs.declared.types.Cap.TheVariants as cap
use Rattle.np_subtyping.specs.Sub.{chans_at, ◌⇒◌, reads, writes, TyLayer, Order, order, order_step, sub, sup, sub_at, sub_all, all_below, all_above, below, above}
use Rattle.np_syntax.specs.declared.types.Ty as ty
use Rattle.np_syntax.specs.declared.types.Ty.TheVariants.{outs-Chan}
use Rattle.std.proofs.Common.{Some}
use Rattle.np_syntax.specs.Parts.{as_channel}
use Rattle.np_syntax.proofs.Bools.{and-in, and-out, and-true, and-false}
use Rattle.np_subtyping.proofs.Implies.{imp-in, imp-out}
use Rattle.np_syntax.proofs.Trees.{With, TyHyps, ty_of, ty_ind}

pub order-out : (t : Ty) → order t ≡ order_step (map-Ty Ty Order order (out-Ty t))
unfolding order
order-out t = fold_out-Ty Order order_step t

-- the two orders are one, turned round
abbrev Flips : Ty → Type 0
Flips s = (t : Ty) → (sup s t ≡ sub t s) × (sub s t ≡ sup t s)

abbrev orders : TyLayer → Ty-F Order
orders y = map-Ty Ty Order order y

sub-below : (s t : Ty) → sub s t ≡ below (orders (out-Ty s)) (out-Ty t)
sub-below s t = ap (λ (o : Order). o.0 t) (order-out s)

sup-above : (s t : Ty) → sup s t ≡ above (orders (out-Ty s)) (out-Ty t)
sup-above s t = ap (λ (o : Order). o.1 t) (order-out s)

flip_all : (ss : List (With Ty Flips)) (ts : List Ty) → (all_above (map order (map (λ e. e.0) ss)) ts ≡ all_below (map order ts) (map (λ e. e.0) ss))
    × (all_below (map order (map (λ e. e.0) ss)) ts ≡ all_above (map order ts) (map (λ e. e.0) ss))
flip_all [] [] = (refl, refl)
flip_all [] (t ∷ ts) = (refl, refl)
flip_all (s ∷ ss) [] = (refl, refl)
flip_all (s ∷ ss) (t ∷ ts) = let rest = flip_all ss ts in (ap2 (s.1 t).0 rest.0, ap2 (s.1 t).1 rest.1)
  where
    ap2 : {a b c d : Bool} → a ≡ b → c ≡ d → (a && c) ≡ (b && d)
    ap2 h k i = h i && k i

same_chan : (c d : Cap) {a b x y : Bool} → a ≡ b → x ≡ y → ((reads d ⇒ (reads c && a)) && (writes d ⇒ (writes c && x))) ≡ ((reads d ⇒ (reads c && b)) && (writes d ⇒ (writes c && y)))
same_chan c d h k i = (reads d ⇒ (reads c && h i)) && (writes d ⇒ (writes c && k i))

flip_layer : (y : TyHyps Flips) (z : TyLayer) → (above (orders (ty_of Flips y)) z ≡ below (orders z) (ty_of Flips y)) × (below (orders (ty_of Flips y)) z ≡ above (orders z) (ty_of Flips y))
flip_layer (Ty-F.Chan c e) (Ty-F.Chan d u) = (same_chan d c (e.1 u).0 (e.1 u).1, same_chan c d (e.1 u).1 (e.1 u).0)
flip_layer (Ty-F.Tuple es) (Ty-F.Tuple us) = flip_all es us
flip_layer Ty-F.Int Ty-F.Int = (refl, refl)
flip_layer Ty-F.Bool Ty-F.Bool = (refl, refl)
flip_layer Ty-F.Str Ty-F.Str = (refl, refl)
flip_layer Ty-F.Site Ty-F.Site = (refl, refl)
flip_layer Ty-F.Agent Ty-F.Agent = (refl, refl)
flip_layer Ty-F.Letter Ty-F.Letter = (refl, refl)
flip_layer Ty-F.Places Ty-F.Places = (refl, refl)
flip_layer _ _ = (refl, refl)

pub flips : (s : Ty) → Flips s
flips = ty_ind Flips (λ s y is t. let both = flip_layer y (out-Ty t) in (
  sup-above s t ∙ ap (λ x. above (orders x) (out-Ty t)) is ∙ both.0 ∙ ap (λ x. below (orders (out-Ty t)) x) (sym is) ∙ sym (sub-below t s),
  sub-below s t ∙ ap (λ x. below (orders x) (out-Ty t)) is ∙ both.1 ∙ ap (λ x. above (orders (out-Ty t)) x) (sym is) ∙ sym (sup-above t s),
))

all_sub : (ss ts : List Ty) → all_below (map order ss) ts ≡ sub_all ss ts
all_sub [] [] = refl
all_sub [] (t ∷ ts) = refl
all_sub (s ∷ ss) [] = refl
all_sub (s ∷ ss) (t ∷ ts) = ap (λ b. sub s t && b) (all_sub ss ts)

layer_sub : (y z : TyLayer) → below (orders y) z ≡ sub_at y z
layer_sub (Ty-F.Chan c s) (Ty-F.Chan d t) = same_chan c d refl (flips s t).0
layer_sub (Ty-F.Tuple ss) (Ty-F.Tuple ts) = all_sub ss ts
layer_sub _ _ = refl

-- the rules of subtyping, one layer at a time
pub sub-out : (s t : Ty) → sub s t ≡ sub_at (out-Ty s) (out-Ty t)
sub-out s t = sub-below s t ∙ layer_sub (out-Ty s) (out-Ty t)

abbrev Itself : Ty → Type 0
Itself t = sub t t ≡ true

itself_all : (ts : List (With Ty Itself)) → sub_all (map (λ e. e.0) ts) (map (λ e. e.0) ts) ≡ true
itself_all [] = refl
itself_all (t ∷ ts) = and-in t.1 (itself_all ts)

itself_layer : (y : TyHyps Itself) → sub_at (ty_of Itself y) (ty_of Itself y) ≡ true
itself_layer (Ty-F.Chan c t) = and-in (imp-in (reads c) _ (λ r. and-in r t.1)) (imp-in (writes c) _ (λ r. and-in r t.1))
itself_layer (Ty-F.Tuple ts) = itself_all ts
itself_layer _ = refl

pub sub-itself : (t : Ty) → sub t t ≡ true
sub-itself = ty_ind Itself (λ t y is. sub-out t t ∙ ap (λ x. sub_at x x) is ∙ itself_layer y)

abbrev Between : Ty → Type 0
Between t = (s u : Ty) → (sub s t ≡ true → sub t u ≡ true → sub s u ≡ true) × (sub u t ≡ true → sub t s ≡ true → sub u s ≡ true)

between_all : (ss : List Ty) (ts : List (With Ty Between)) (us : List Ty) → sub_all ss (map (λ e. e.0) ts) ≡ true → sub_all (map (λ e. e.0) ts) us ≡ true → sub_all ss us ≡ true
between_all [] [] [] h k = refl
between_all (s ∷ ss) (t ∷ ts) (u ∷ us) h k = let a = and-out _ _ h in let b = and-out _ _ k in and-in ((t.1 s u).0 a.0 b.0) (between_all ss ts us a.1 b.1)
between_all [] [] (u ∷ us) h k = absurd cc
between_all [] (t ∷ ts) us h k = absurd cc
between_all (s ∷ ss) [] us h k = absurd cc
between_all (s ∷ ss) (t ∷ ts) [] h k = absurd cc

between_layer : (x : TyLayer) (y : TyHyps Between) (z : TyLayer) → sub_at x (ty_of Between y) ≡ true → sub_at (ty_of Between y) z ≡ true → sub_at x z ≡ true
between_layer (Ty-F.Chan c s) (Ty-F.Chan d t) (Ty-F.Chan e u) h k =
    let a = and-out _ _ h in let b = and-out _ _ k in
    and-in
    (imp-in (reads e) _ (λ r. let q = and-out _ _ (imp-out (reads e) _ b.0 r) in let p = and-out _ _ (imp-out (reads d) _ a.0 q.0) in and-in p.0 ((t.1 s u).0 p.1 q.1)))
    (imp-in (writes e) _ (λ r. let q = and-out _ _ (imp-out (writes e) _ b.1 r) in let p = and-out _ _ (imp-out (writes d) _ a.1 q.0) in and-in p.0 ((t.1 s u).1 q.1 p.1)))
between_layer (Ty-F.Tuple ss) (Ty-F.Tuple ts) (Ty-F.Tuple us) h k = between_all ss ts us h k
between_layer Ty-F.Int Ty-F.Int z h k = k
between_layer Ty-F.Bool Ty-F.Bool z h k = k
between_layer Ty-F.Str Ty-F.Str z h k = k
between_layer Ty-F.Site Ty-F.Site z h k = k
between_layer Ty-F.Agent Ty-F.Agent z h k = k
between_layer Ty-F.Letter Ty-F.Letter z h k = k
between_layer Ty-F.Places Ty-F.Places z h k = k
between_layer _ _ _ h k = absurd cc

pub sub-trans : (s t u : Ty) → sub s t ≡ true → sub t u ≡ true → sub s u ≡ true
sub-trans s t u = (ty_ind Between (λ t y is s u. (step t y is s u, step t y is u s)) t s u).0
  where
    step : (t : Ty) (y : TyHyps Between) → out-Ty t ≡ ty_of Between y → (s u : Ty) → sub s t ≡ true → sub t u ≡ true → sub s u ≡ true
    step t y is s u h k = sub-out s u ∙ between_layer (out-Ty s) y (out-Ty u)
        (ap (sub_at (out-Ty s)) (sym is) ∙ sym (sub-out s t) ∙ h) (ap (λ x. sub_at x (out-Ty u)) (sym is) ∙ sym (sub-out t u) ∙ k)

chan_is : (l : TyLayer) (k : Cap × Ty) → as_channel l ≡ Some k → l ≡ Ty-F.Chan k.0 k.1
chan_is (Ty-F.Chan c t) k h = let same : (c, t) ≡ k = cc in ap (λ (k : Cap × Ty). Ty-F.Chan k.0 k.1) same
chan_is _ k h = absurd cc

pub chan-again : (t : Ty) (k : Cap × Ty) → as_channel (out-Ty t) ≡ Some k → sub (ty.Chan k.0 k.1) t ≡ true
chan-again t k h =
    let own : Ty = ty.Chan k.0 k.1 in
    let eq : out-Ty own ≡ out-Ty t = outs-Chan k.0 k.1 ∙ sym (chan_is (out-Ty t) k h) in
    sub-out own t ∙ ap (sub_at (out-Ty own)) (sym eq) ∙ sym (sub-out own own) ∙ sub-itself own

-- types that are below one another are one
abbrev Exact : Ty → Type 0
Exact s = (t : Ty) → sub s t ≡ true → sub t s ≡ true → s ≡ t

exact_all : (ss : List (With Ty Exact)) (ts : List Ty) → sub_all (map (λ e. e.0) ss) ts ≡ true → sub_all ts (map (λ e. e.0) ss) ≡ true → map (λ (e : With Ty Exact). e.0) ss ≡ ts
exact_all [] [] h k = refl
exact_all (s ∷ ss) (t ∷ ts) h k = let a = and-out _ _ h in let b = and-out _ _ k in let x = s.1 t a.0 b.0 in let r = exact_all ss ts a.1 b.1 in λ i. x i ∷ r i
exact_all [] (t ∷ ts) h k = absurd cc
exact_all (s ∷ ss) [] h k = absurd cc

exact_chan : (c d : Cap) (s : With Ty Exact) (t : Ty) → sub_at (Ty-F.Chan c s.0) (Ty-F.Chan d t) ≡ true → sub_at (Ty-F.Chan d t) (Ty-F.Chan c s.0) ≡ true → Ty-F.Chan c s.0 ≡ Ty-F.Chan d t
exact_chan cap.Both cap.Both s t h k = let a = and-out _ _ h in let x = s.1 t a.0 a.1 in λ i. Ty-F.Chan cap.Both (x i)
exact_chan cap.Input cap.Input s t h k = let x = s.1 t (and-out (sub s.0 t) true h).0 (and-out (sub t s.0) true k).0 in λ i. Ty-F.Chan cap.Input (x i)
exact_chan cap.Output cap.Output s t h k = let x = s.1 t k h in λ i. Ty-F.Chan cap.Output (x i)
exact_chan cap.Both cap.Input s t h k = absurd (let x : false ≡ true = (and-out (sub t s.0) false k).1 in cc)
exact_chan cap.Both cap.Output s t h k = absurd cc
exact_chan cap.Input cap.Both s t h k = absurd (let x : false ≡ true = (and-out (sub s.0 t) false h).1 in cc)
exact_chan cap.Input cap.Output s t h k = absurd cc
exact_chan cap.Output cap.Both s t h k = absurd cc
exact_chan cap.Output cap.Input s t h k = absurd cc

exact_layer : (y : TyHyps Exact) (z : TyLayer) → sub_at (ty_of Exact y) z ≡ true → sub_at z (ty_of Exact y) ≡ true → ty_of Exact y ≡ z
exact_layer (Ty-F.Chan c s) (Ty-F.Chan d t) h k = exact_chan c d s t h k
exact_layer (Ty-F.Tuple ss) (Ty-F.Tuple ts) h k = let x = exact_all ss ts h k in λ i. Ty-F.Tuple (x i)
exact_layer Ty-F.Int Ty-F.Int h k = refl
exact_layer Ty-F.Bool Ty-F.Bool h k = refl
exact_layer Ty-F.Str Ty-F.Str h k = refl
exact_layer Ty-F.Site Ty-F.Site h k = refl
exact_layer Ty-F.Agent Ty-F.Agent h k = refl
exact_layer Ty-F.Letter Ty-F.Letter h k = refl
exact_layer Ty-F.Places Ty-F.Places h k = refl
exact_layer _ _ h k = absurd cc

pub sub-exact : (s : Ty) → Exact s
sub-exact = ty_ind Exact (λ s y is t h k. sym (roll-out-Ty s) ∙ ap roll-Ty (is ∙ exact_layer y (out-Ty t)
    (ap (λ x. sub_at x (out-Ty t)) (sym is) ∙ sym (sub-out s t) ∙ h) (ap (sub_at (out-Ty t)) (sym is) ∙ sym (sub-out t s) ∙ k)) ∙ roll-out-Ty t)

chans_table : (c d : Cap) (s t : Ty) → sub_at (Ty-F.Chan c s) (Ty-F.Chan d t) ≡ chans_at c s d t
chans_table cap.Both cap.Both s t = refl
chans_table cap.Both cap.Input s t = and-true (sub s t)
chans_table cap.Both cap.Output s t = refl
chans_table cap.Input cap.Both s t = and-false (sub s t)
chans_table cap.Input cap.Input s t = and-true (sub s t)
chans_table cap.Input cap.Output s t = refl
chans_table cap.Output cap.Both s t = refl
chans_table cap.Output cap.Input s t = refl
chans_table cap.Output cap.Output s t = refl

-- the lines of the table on channel types
pub sub-chans : (c d : Cap) (s t : Ty) → sub (ty.Chan c s) (ty.Chan d t) ≡ chans_at c s d t
sub-chans c d s t = sub-out _ _ ∙ (λ i. sub_at (outs-Chan c s i) (outs-Chan d t i)) ∙ chans_table c d s t
