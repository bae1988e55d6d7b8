-- What is below a type of each form.
use Rattle.std.proofs.Common.{◌≡◌, ℕ, ◌+◌, Bool, true, false, Some, refl, subst, map, List, [], ◌∷◌, sym, ap, ◌∙◌}
use Rattle.np_syntax.specs.declared.types.Cap.{Cap}
use Rattle.np_syntax.specs.declared.types.Cap.TheVariants as cap
use Rattle.np_syntax.specs.declared.types.Ty.{Ty, Ty-F, out-Ty, roll-Ty, out-roll-Ty, map-Ty, fold_out-Ty}
use Rattle.np_subtyping.specs.Sub.{reads, writes, TyLayer, sub, sub_at, sub_all, is_int, is_bool, is_str, is_site, is_agent, is_letter, is_places, as_tuple}
use Rattle.np_syntax.specs.Parts.{as_channel}
use Rattle.np_types.specs.Widths.{nodes, nodes_step, sum_all, printable, printable_step, every}
use Rattle.np_syntax.proofs.Bools.{and-in, and-out}
use Rattle.np_subtyping.proofs.Comparisons.{plain, plain_turned}
use Rattle.np_subtyping.proofs.Implies.{imp-out}
use Rattle.np_syntax.proofs.Trees.{With, TyHyps, ty_of, ty_ind}
use Rattle.np_subtyping.proofs.Subs.{sub-out, sub-trans}

-- a form that holds of each type below one that has it
abbrev pub Down : (TyLayer → Bool) → Type 0
Down test = (s t : Ty) → test (out-Ty t) ≡ true → sub s t ≡ true → test (out-Ty s) ≡ true

plain_below : (b : TyLayer) → plain b ≡ true → Down (sub_at b)
plain_below b plainly s t of_form below =
    let to_b : (u : Ty) → sub u (roll-Ty b) ≡ sub_at b (out-Ty u) = λ u. sub-out u (roll-Ty b) ∙ ap (sub_at (out-Ty u)) (out-roll-Ty b) ∙ plain_turned b (out-Ty u) plainly in
    sym (to_b s) ∙ sub-trans s t (roll-Ty b) below (to_b t ∙ of_form)

pub int_below : Down is_int
int_below = plain_below Ty-F.Int refl

pub bool_below : Down is_bool
bool_below = plain_below Ty-F.Bool refl

pub str_below : Down is_str
str_below = plain_below Ty-F.Str refl

pub site_below : Down is_site
site_below = plain_below Ty-F.Site refl

pub agent_below : Down is_agent
agent_below = plain_below Ty-F.Agent refl

pub letter_below : Down is_letter
letter_below = plain_below Ty-F.Letter refl

pub places_below : Down is_places
places_below = plain_below Ty-F.Places refl

-- a channel type that is below another
pub record Narrower (s : Ty) (k : Cap × Ty) : Type 0 where
  pub chan : Cap × Ty
  pub is : as_channel (out-Ty s) ≡ Some chan
  pub reading : reads k.0 ≡ true → (reads chan.0 ≡ true) × (sub chan.1 k.1 ≡ true)
  pub writing : writes k.0 ≡ true → (writes chan.0 ≡ true) × (sub k.1 chan.1 ≡ true)

pub record ChanAt (y : TyLayer) (k : Cap × Ty) : Type 0 where
  pub chan : Cap × Ty
  pub is : as_channel y ≡ Some chan
  pub reading : reads k.0 ≡ true → (reads chan.0 ≡ true) × (sub chan.1 k.1 ≡ true)
  pub writing : writes k.0 ≡ true → (writes chan.0 ≡ true) × (sub k.1 chan.1 ≡ true)

chan_at : (z y : TyLayer) (k : Cap × Ty) → as_channel z ≡ Some k → sub_at y z ≡ true → ChanAt y k
chan_at (Ty-F.Chan d t) (Ty-F.Chan c s) k h b =
    let same : k ≡ (d, t) = cc in
    let a = and-out _ _ b in
    rw same (record {
      chan = (c, s);
      is = refl;
      reading = λ r. and-out _ _ (imp-out (reads d) _ a.0 r);
      writing = λ r. and-out _ _ (imp-out (writes d) _ a.1 r);
    })
chan_at (Ty-F.Chan d t) _ k h b = absurd cc
chan_at _ y k h b = absurd cc

pub chan_below : (s t : Ty) (k : Cap × Ty) → as_channel (out-Ty t) ≡ Some k → sub s t ≡ true → Narrower s k
chan_below s t k h b = let r = chan_at (out-Ty t) (out-Ty s) k h (sym (sub-out s t) ∙ b) in record { chan = r.chan; is = r.is; reading = r.reading; writing = r.writing }

tuple_at : (z y : TyLayer) (ts : List Ty) → as_tuple z ≡ Some ts → sub_at y z ≡ true → (ss : List Ty) × (as_tuple y ≡ Some ss) × (sub_all ss ts ≡ true)
tuple_at (Ty-F.Tuple us) (Ty-F.Tuple ss) ts h b = let e : us ≡ ts = cc in (ss, refl, subst (λ x. sub_all ss x ≡ true) e b)
tuple_at (Ty-F.Tuple us) _ ts h b = absurd cc
tuple_at _ y ts h b = absurd cc

pub tuple_below : (s t : Ty) (ts : List Ty) → as_tuple (out-Ty t) ≡ Some ts → sub s t ≡ true → (ss : List Ty) × (as_tuple (out-Ty s) ≡ Some ss) × (sub_all ss ts ≡ true)
tuple_below s t ts h b = tuple_at (out-Ty t) (out-Ty s) ts h (sym (sub-out s t) ∙ b)

pub nodes-out : (t : Ty) → nodes t ≡ nodes_step (map-Ty Ty ℕ nodes (out-Ty t))
unfolding nodes
nodes-out t = fold_out-Ty ℕ nodes_step t

-- types of which one is below the other have as many nodes
abbrev AsMany : Ty → Type 0
AsMany t = (s : Ty) → (sub s t ≡ true → nodes s ≡ nodes t) × (sub t s ≡ true → nodes s ≡ nodes t)

many_all : (ss : List Ty) (ts : List (With Ty AsMany)) → sub_all ss (map (λ e. e.0) ts) ≡ true → sum_all (map nodes ss) ≡ sum_all (map nodes (map (λ e. e.0) ts))
many_all [] [] h = refl
many_all (s ∷ ss) (t ∷ ts) h = let a = and-out _ _ h in let x = (t.1 s).0 a.0 in let r = many_all ss ts a.1 in λ i. x i + r i
many_all [] (t ∷ ts) h = absurd cc
many_all (s ∷ ss) [] h = absurd cc

many_over : (ss : List Ty) (ts : List (With Ty AsMany)) → sub_all (map (λ e. e.0) ts) ss ≡ true → sum_all (map nodes ss) ≡ sum_all (map nodes (map (λ e. e.0) ts))
many_over [] [] h = refl
many_over (s ∷ ss) (t ∷ ts) h = let a = and-out _ _ h in let x = (t.1 s).1 a.0 in let r = many_over ss ts a.1 in λ i. x i + r i
many_over [] (t ∷ ts) h = absurd cc
many_over (s ∷ ss) [] h = absurd cc

abbrev count : TyLayer → ℕ
count y = nodes_step (map-Ty Ty ℕ nodes y)

chans_many : (c d : Cap) (s : Ty) (t : With Ty AsMany) → sub_at (Ty-F.Chan c s) (Ty-F.Chan d t.0) ≡ true → nodes s ≡ nodes t.0
chans_many c cap.Both s t h = (t.1 s).0 (and-out (reads c) _ (and-out _ _ h).0).1
chans_many c cap.Input s t h = (t.1 s).0 (and-out (reads c) _ (and-out _ _ h).0).1
chans_many c cap.Output s t h = (t.1 s).1 (and-out (writes c) _ (and-out true _ h).1).1

chans_over : (c d : Cap) (s : Ty) (t : With Ty AsMany) → sub_at (Ty-F.Chan d t.0) (Ty-F.Chan c s) ≡ true → nodes s ≡ nodes t.0
chans_over cap.Both d s t h = (t.1 s).1 (and-out (reads d) _ (and-out _ _ h).0).1
chans_over cap.Input d s t h = (t.1 s).1 (and-out (reads d) _ (and-out _ _ h).0).1
chans_over cap.Output d s t h = (t.1 s).0 (and-out (writes d) _ (and-out true _ h).1).1

many_layer : (x : TyLayer) (y : TyHyps AsMany) → (sub_at x (ty_of AsMany y) ≡ true → count x ≡ count (ty_of AsMany y)) × (sub_at (ty_of AsMany y) x ≡ true → count x ≡ count (ty_of AsMany y))
many_layer (Ty-F.Chan c s) (Ty-F.Chan d t) = (λ h i. 1 + chans_many c d s t h i, λ h i. 1 + chans_over c d s t h i)
many_layer (Ty-F.Tuple ss) (Ty-F.Tuple ts) = (λ h i. 1 + many_all ss ts h i, λ h i. 1 + many_over ss ts h i)
many_layer (Ty-F.Chan c s) _ = (λ h. absurd cc, λ h. absurd cc)
many_layer (Ty-F.Tuple ss) _ = (λ h. absurd cc, λ h. absurd cc)
many_layer _ (Ty-F.Chan c s) = (λ h. absurd cc, λ h. absurd cc)
many_layer _ (Ty-F.Tuple ss) = (λ h. absurd cc, λ h. absurd cc)
many_layer _ _ = (λ h. refl, λ h. refl)

pub as_many : (t : Ty) → AsMany t
as_many = ty_ind AsMany (λ t y is s. let both = many_layer (out-Ty s) y in (
  λ h. nodes-out s ∙ both.0 (ap (sub_at (out-Ty s)) (sym is) ∙ sym (sub-out s t) ∙ h) ∙ ap count (sym is) ∙ sym (nodes-out t),
  λ h. nodes-out s ∙ both.1 (ap (λ x. sub_at x (out-Ty s)) (sym is) ∙ sym (sub-out t s) ∙ h) ∙ ap count (sym is) ∙ sym (nodes-out t),
))

pub printable-out : (t : Ty) → printable t ≡ printable_step (map-Ty Ty Bool printable (out-Ty t))
unfolding printable
printable-out t = fold_out-Ty Bool printable_step t

abbrev Printed : Ty → Type 0
Printed t = (s : Ty) → sub s t ≡ true → printable t ≡ true → printable s ≡ true

printed_all : (ss : List Ty) (ts : List (With Ty Printed)) → sub_all ss (map (λ e. e.0) ts) ≡ true → every (map printable (map (λ e. e.0) ts)) ≡ true → every (map printable ss) ≡ true
printed_all [] [] h k = refl
printed_all (s ∷ ss) (t ∷ ts) h k = let a = and-out _ _ h in let b = and-out _ _ k in and-in (t.1 s a.0 b.0) (printed_all ss ts a.1 b.1)
printed_all [] (t ∷ ts) h k = absurd cc
printed_all (s ∷ ss) [] h k = absurd cc

abbrev prints : TyLayer → Bool
prints y = printable_step (map-Ty Ty Bool printable y)

printed_layer : (y : TyHyps Printed) (x : TyLayer) → sub_at x (ty_of Printed y) ≡ true → prints (ty_of Printed y) ≡ true → prints x ≡ true
printed_layer (Ty-F.Tuple ts) (Ty-F.Tuple ss) h k = printed_all ss ts h k
printed_layer (Ty-F.Tuple ts) _ h k = absurd cc
printed_layer Ty-F.Int Ty-F.Int h k = refl
printed_layer Ty-F.Int _ h k = absurd cc
printed_layer Ty-F.Bool Ty-F.Bool h k = refl
printed_layer Ty-F.Bool _ h k = absurd cc
printed_layer Ty-F.Str Ty-F.Str h k = refl
printed_layer Ty-F.Str _ h k = absurd cc
printed_layer Ty-F.Site Ty-F.Site h k = refl
printed_layer Ty-F.Site _ h k = absurd cc
printed_layer _ x h k = absurd cc

pub printable_below : (t : Ty) → Printed t
printable_below = ty_ind Printed (λ t y is s h k. printable-out s
    ∙ printed_layer y (out-Ty s) (ap (sub_at (out-Ty s)) (sym is) ∙ sym (sub-out s t) ∙ h) (ap prints (sym is) ∙ sym (printable-out t) ∙ k))
