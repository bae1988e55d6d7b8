-- The form that a value of each type has.
use Rattle.std.proofs.Common.{◌≡◌, ℕ, ℤ, Bool, true, false, Some, refl, subst, List, [], ◌∷◌, sym, ap, ◌∙◌}
use Rattle.np_safety.proofs.Common.{Name, Value, Value-F, out-Value, Cap, Ty, Ty-F, out-Ty, outs-Tuple, and-out, TyLayer, reads, writes, sub_all, is_int}
use Rattle.np_safety.proofs.Common.{is_bool, is_site, is_agent, is_letter, is_places, World, kinds, all_locks, kind, sub-itself, sub-trans, site_below}
use Rattle.np_safety.proofs.Common.{kind-out, Fits}
use Rattle.np_syntax.specs.declared.types.Ty.TheVariants.{outs-Int, outs-Bool, outs-Str, outs-Site, outs-Agent, outs-Letter, outs-Places, outs-Chan}
use Rattle.np_syntax.specs.Options.{◌>>=◌}
use Rattle.np_syntax.proofs.Options.{then, when, done}
use Rattle.np_types.specs.Sub as sub
use Rattle.np_syntax.specs.Parts.{as_channel}
use Rattle.np_types.specs.Sub.{is_str}
use Rattle.np_types.proofs.Below.{Down, int_below, bool_below, str_below, agent_below, letter_below, places_below, chan_below, tuple_below}
use Rattle.np_types.proofs.ValueTypes.{kind_layer, kinds-map}
use Rattle.np_eval.specs.Eval.{ValueLayer}
use Rattle.np_safety.proofs.Fitting.{FitAll}

-- how a value and its least type agree
abbrev pub Shaped : World → ValueLayer → TyLayer → Type 0
Shaped w (Value-F.Int i) z = z ≡ Ty-F.Int
Shaped w (Value-F.Truth b) z = z ≡ Ty-F.Bool
Shaped w (Value-F.Str s) z = z ≡ Ty-F.Str
Shaped w (Value-F.Site s) z = (z ≡ Ty-F.Site) × (w.site s ≡ true)
Shaped w (Value-F.Agent a) z = z ≡ Ty-F.Agent
Shaped w (Value-F.Chan c) z = (k : Cap × Ty) × (w.chan c ≡ Some k) × (z ≡ Ty-F.Chan k.0 k.1)
Shaped w (Value-F.Tuple vs) z = (ts : List Ty) × (kinds w vs ≡ Some ts) × (z ≡ Ty-F.Tuple ts)
Shaped w (Value-F.Letter c v) z = (k : Cap × Ty) × (w.chan c ≡ Some k) × (writes k.0 ≡ true) × Fits w v k.1 × (z ≡ Ty-F.Letter)
Shaped w (Value-F.Places ps) z = (z ≡ Ty-F.Places) × (all_locks w ps ≡ true)

shaped_at : (w : World) (y : ValueLayer) (s : Ty) → kind_layer w y ≡ Some s → Shaped w y (out-Ty s)
shaped_at w (Value-F.Int i) s h = ap out-Ty (done h) ∙ outs-Int
shaped_at w (Value-F.Truth b) s h = ap out-Ty (done h) ∙ outs-Bool
shaped_at w (Value-F.Str x) s h = ap out-Ty (done h) ∙ outs-Str
shaped_at w (Value-F.Site n) s h = when _ _ h λ ok h. (ap out-Ty (done h) ∙ outs-Site, ok)
shaped_at w (Value-F.Agent a) s h = ap out-Ty (done h) ∙ outs-Agent
shaped_at w (Value-F.Chan c) s h = then _ _ h λ k is h. (k, is, ap out-Ty (done h) ∙ outs-Chan k.0 k.1)
shaped_at w (Value-F.Tuple vs) s h = then _ _ h λ ts is h. (ts, sym (kinds-map w vs) ∙ is, ap out-Ty (done h) ∙ outs-Tuple ts)
shaped_at w (Value-F.Letter c v) s h =
    then _ _ h λ k on h. then _ _ h λ t is h. when _ _ h λ both h.
    let b = and-out _ _ both in
    (k, on, b.0, record { type = t; is = is; below = b.1 }, ap out-Ty (done h) ∙ outs-Letter)
shaped_at w (Value-F.Places ps) s h = when _ _ h λ ok h. (ap out-Ty (done h) ∙ outs-Places, ok)

pub shaped : (w : World) (v : Value) (s : Ty) → kind w v ≡ Some s → Shaped w (out-Value v) (out-Ty s)
shaped w v s h = shaped_at w (out-Value v) s (sym (kind-out w v) ∙ h)

pub fits-below : (w : World) (v : Value) (s t : Ty) → Fits w v s → sub.sub s t ≡ true → Fits w v t
fits-below w v s t f b = record { type = f.type; is = f.is; below = sub-trans f.type s t f.below b }

pub fits-itself : (w : World) (v : Value) (t : Ty) → kind w v ≡ Some t → Fits w v t
fits-itself w v t h = record { type = t; is = h; below = sub-itself t }

-- what a value is, by the form of its least type
abbrev Held : World → ValueLayer → TyLayer → Type 0
Held w y Ty-F.Int = (x : ℤ) × (y ≡ Value-F.Int x)
Held w y Ty-F.Bool = (x : Bool) × (y ≡ Value-F.Truth x)
Held w y Ty-F.Str = (x : List ℕ) × (y ≡ Value-F.Str x)
Held w y Ty-F.Site = (x : ℕ) × (y ≡ Value-F.Site x) × (w.site x ≡ true)
Held w y Ty-F.Agent = (x : Name) × (y ≡ Value-F.Agent x)
Held w y (Ty-F.Chan c t) = (n : Name) × (y ≡ Value-F.Chan n) × (w.chan n ≡ Some (c, t))
Held w y (Ty-F.Tuple ts) = (vs : List Value) × (y ≡ Value-F.Tuple vs) × (kinds w vs ≡ Some ts)
Held w y Ty-F.Letter = (l : Name × Value) × (y ≡ Value-F.Letter l.0 l.1) × (k : Cap × Ty) × (w.chan l.0 ≡ Some k) × (writes k.0 ≡ true) × Fits w l.1 k.1
Held w y Ty-F.Places = (x : List (Name × Name)) × (y ≡ Value-F.Places x) × (all_locks w x ≡ true)

held_at : (w : World) (y : ValueLayer) (z : TyLayer) → Shaped w y z → Held w y z
held_at w (Value-F.Int x) z h = rw h (x, refl)
held_at w (Value-F.Truth x) z h = rw h (x, refl)
held_at w (Value-F.Str x) z h = rw h (x, refl)
held_at w (Value-F.Site x) z h = rw h.0 (x, refl, h.1)
held_at w (Value-F.Agent x) z h = rw h (x, refl)
held_at w (Value-F.Chan n) z h = rw h.2 (n, refl, h.1)
held_at w (Value-F.Tuple vs) z h = rw h.2 (vs, refl, h.1)
held_at w (Value-F.Letter c v) z h = rw h.4 ((c, v), refl, h.0, h.1, h.2, h.3)
held_at w (Value-F.Places x) z h = rw h.0 (x, refl, h.1)

held : (w : World) (v : Value) (t : Ty) (f : Fits w v t) → Held w (out-Value v) (out-Ty f.type)
held w v t f = held_at w (out-Value v) (out-Ty f.type) (shaped w v f.type f.is)

-- the test of each form that has no parts
abbrev tests : TyLayer → TyLayer → Bool
tests Ty-F.Int = is_int
tests Ty-F.Bool = is_bool
tests Ty-F.Str = is_str
tests Ty-F.Site = is_site
tests Ty-F.Agent = is_agent
tests Ty-F.Letter = is_letter
tests Ty-F.Places = is_places
tests _ = λ y. false

pub passes-is : (z y : TyLayer) → tests z y ≡ true → y ≡ z
passes-is Ty-F.Int Ty-F.Int h = refl
passes-is Ty-F.Bool Ty-F.Bool h = refl
passes-is Ty-F.Str Ty-F.Str h = refl
passes-is Ty-F.Site Ty-F.Site h = refl
passes-is Ty-F.Agent Ty-F.Agent h = refl
passes-is Ty-F.Letter Ty-F.Letter h = refl
passes-is Ty-F.Places Ty-F.Places h = refl
passes-is _ _ h = absurd cc

tests-below : (z : TyLayer) → Down (tests z)
tests-below Ty-F.Int = int_below
tests-below Ty-F.Bool = bool_below
tests-below Ty-F.Str = str_below
tests-below Ty-F.Site = site_below
tests-below Ty-F.Agent = agent_below
tests-below Ty-F.Letter = letter_below
tests-below Ty-F.Places = places_below
tests-below _ = λ s t h k. absurd cc

pub value_as : (w : World) (v : Value) (z : TyLayer) (t : Ty) → Fits w v t → tests z (out-Ty t) ≡ true → Held w (out-Value v) z
value_as w v z t f k = subst (Held w (out-Value v)) (passes-is z (out-Ty f.type) (tests-below z f.type t k f.below)) (held w v t f)

module _ (w : World) (y : ValueLayer) where
  chan_at : (z : TyLayer) (j : Cap × Ty) → as_channel z ≡ Some j → Held w y z → Held w y (Ty-F.Chan j.0 j.1)
  chan_at (Ty-F.Chan c t) j k h = (h.0, h.1, h.2 ∙ k)
  chan_at _ j k h = absurd cc

  tuple_at : (z : TyLayer) (j : List Ty) → sub.as_tuple z ≡ Some j → Held w y z → Held w y (Ty-F.Tuple j)
  tuple_at (Ty-F.Tuple ts) j k h = (h.0, h.1, h.2 ∙ k)
  tuple_at _ j k h = absurd cc

-- a channel that a type of channels fits
pub record ChanOf (w : World) (v : Value) (k : Cap × Ty) : Type 0 where
  pub name : Name
  pub is : out-Value v ≡ Value-F.Chan name
  pub own : Cap × Ty
  pub carries : w.chan name ≡ Some own
  pub reading : reads k.0 ≡ true → (reads own.0 ≡ true) × (sub.sub own.1 k.1 ≡ true)
  pub writing : writes k.0 ≡ true → (writes own.0 ≡ true) × (sub.sub k.1 own.1 ≡ true)

pub chan_value : (w : World) (v : Value) (t : Ty) (k : Cap × Ty) → Fits w v t → as_channel (out-Ty t) ≡ Some k → ChanOf w v k
chan_value w v t k f h =
    let n = chan_below f.type t k h f.below in
    let c = chan_at w (out-Value v) (out-Ty f.type) n.chan n.is (held w v t f) in
    record { name = c.0; is = c.1; own = n.chan; carries = c.2; reading = n.reading; writing = n.writing }

pub kinds_more : (w : World) (v : Value) (vs : List Value) (ss : List Ty) → kinds w (v ∷ vs) ≡ Some ss
    → (s : Ty) × (rest : List Ty) × (kind w v ≡ Some s) × (kinds w vs ≡ Some rest) × (ss ≡ s ∷ rest)
kinds_more w v vs ss h =
    then (kind w v) (λ s. kinds w vs >>= λ rest. Some (s ∷ rest)) h λ s is h.
    then (kinds w vs) (λ rest. Some (s ∷ rest)) h λ rest are h. (s, rest, is, are, done h)

none_below : (s : Ty) (ss : List Ty) → sub_all (s ∷ ss) [] ≡ true → ⊥
none_below s ss h = cc

fit_all : (w : World) (vs : List Value) (ss ts : List Ty) → kinds w vs ≡ Some ss → sub_all ss ts ≡ true → FitAll w vs ts
fit_all w [] ss [] h b = tt
fit_all w [] ss (t ∷ ts) h b = absurd (let e = done h in let x = subst (λ y. sub_all y (t ∷ ts) ≡ true) e b in cc)
fit_all w (v ∷ vs) ss [] h b = let m = kinds_more w v vs ss h in absurd (none_below m.0 m.1 (subst (λ y. sub_all y [] ≡ true) m.4 b))
fit_all w (v ∷ vs) ss (t ∷ ts) h b =
    let m = kinds_more w v vs ss h in
    let a = and-out _ _ (subst (λ y. sub_all y (t ∷ ts) ≡ true) m.4 b) in
    (record { type = m.0; is = m.2; below = a.0 }, fit_all w vs m.1 ts m.3 a.1)

pub tuple_value : (w : World) (v : Value) (t : Ty) (ts : List Ty) → Fits w v t → sub.as_tuple (out-Ty t) ≡ Some ts → (vs : List Value) × (out-Value v ≡ Value-F.Tuple vs) × FitAll w vs ts
tuple_value w v t ts f h =
    let n = tuple_below f.type t ts h f.below in
    let c = tuple_at w (out-Value v) (out-Ty f.type) n.0 n.1 (held w v t f) in
    (c.0, c.1, fit_all w c.0 n.0 ts c.2 n.2)
