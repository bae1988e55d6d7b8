-- A configuration whose values fit is well.
use Rattle.std.proofs.Common.{◌≡◌, ℕ, Bool, true, Some, Ok, List, [], ◌∷◌, map, refl, subst, sym, ap, ◌∙◌}
use Rattle.std.specs.List.{list_all}
use Rattle.np_safety.proofs.Common.{Value, Value-F, out-Value, Cap, Ty, Ty-F, out-Ty, Expr, Pat, Proc, ProcForm-F, and-in, and-out, With, TyLayer, is_bool, is_site}
use Rattle.np_safety.proofs.Common.{is_agent, World, kinds, kind, Types, least, Env, eval, Layer, layer, Config, Channels, world}
use Rattle.np_syntax.specs.declared.value.Value.{map-Value, fold_out-Value}
use Rattle.np_syntax.specs.declared.types.Ty.{map-Ty}
use Rattle.np_types.specs.Widths.{printable, every}
use Rattle.np_types.specs.Widths as widths
use Rattle.np_syntax.proofs.Trees.{ValueHyps, value_of, value_ind}
use Rattle.np_types.proofs.Below.{printable-out, printable_below}
use Rattle.np_eval.specs.Eval.{chan_of, agent_of, truth_of}
use Rattle.np_eval.specs.Forms.{taken_on}
use Rattle.np_calculus.specs.Seen.{site_of}
use Rattle.np_calculus.specs.Well.{Has, Ready, Well, is_printable, printable_step}
use Rattle.np_safety.proofs.Fitting.{Agrees, Fitting}
use Rattle.np_safety.proofs.Shapes.{Shaped, shaped, kinds_more, value_as}
use Rattle.np_safety.proofs.Evaluates.{evaluates}
use Rattle.np_safety.proofs.Matches.{matches}
use Rattle.np_safety.proofs.Forms.{GoodForm, Tested, Taking, OnChannel, good-form}
use Rattle.np_safety.proofs.Atoms.{find, takes, sends-typed}

printable-value : (v : Value) → is_printable v ≡ printable_step (map-Value Value Bool is_printable (out-Value v))
unfolding is_printable
printable-value v = fold_out-Value Bool printable_step v

-- a value of a printable type has a printable form
module _ (w : World) where
  abbrev Shows : Value → Type 0
  Shows v = (t : Ty) → kind w v ≡ Some t → printable t ≡ true → is_printable v ≡ true

  shows_all : (vs : List (With Value Shows)) (ts : List Ty) → kinds w (map (λ e. e.0) vs) ≡ Some ts → every (map printable ts) ≡ true
      → list_all (λ part. part) (map is_printable (map (λ e. e.0) vs)) ≡ true
  shows_all [] ts h k = refl
  shows_all (v ∷ vs) ts h k =
      let m = kinds_more w v.0 (map (λ e. e.0) vs) ts h in
      let b = and-out _ _ (subst (λ ts. every (map printable ts) ≡ true) m.4 k) in
      and-in (v.1 m.0 m.2 b.0) (shows_all vs m.1 m.3 b.1)

  abbrev prints : TyLayer → Bool
  prints y = widths.printable_step (map-Ty Ty Bool printable y)

  shows_layer : (y : ValueHyps Shows) (z : TyLayer) → Shaped w (value_of Shows y) z → prints z ≡ true → printable_step (map-Value Value Bool is_printable (value_of Shows y)) ≡ true
  shows_layer (Value-F.Int i) z s h = refl
  shows_layer (Value-F.Truth i) z s h = refl
  shows_layer (Value-F.Str i) z s h = refl
  shows_layer (Value-F.Site i) z s h = refl
  shows_layer (Value-F.Tuple vs) z s h = shows_all vs s.0 s.1 (subst (λ z. prints z ≡ true) s.2 h)
  shows_layer (Value-F.Agent i) z s h = absurd (let x = subst (λ z. prints z ≡ true) s h in cc)
  shows_layer (Value-F.Chan i) z s h = absurd (let x = subst (λ z. prints z ≡ true) s.2 h in cc)
  shows_layer (Value-F.Letter c i) z s h = absurd (let x = subst (λ z. prints z ≡ true) s.4 h in cc)
  shows_layer (Value-F.Places i) z s h = absurd (let x = subst (λ z. prints z ≡ true) s.0 h in cc)

  shows : (v : Value) → Shows v
  shows = value_ind Shows (λ v y is t h k.
      printable-value v
      ∙ ap (λ y. printable_step (map-Value Value Bool is_printable y)) is
      ∙ shows_layer y (out-Ty t) (subst (λ y. Shaped w y (out-Ty t)) is (shaped w v t h)) (sym (printable-out t) ∙ k))

module _ (n : ℕ) (g : Channels) (c : Config) (sites : c.sites ≡ n) where
  abbrev w : World
  w = world n g

  module _ (env : Env) (types : Types) (agrees : Agrees w env types) where
    has_channel : (e : Expr) (k : Cap × Ty) → OnChannel w types e k → Has (chan_of e env)
    has_channel e k on = let f = find w env types agrees e k on in (f.name, f.is)

    has_value : (e : Expr) (t : Ty) → least w types e ≡ Ok t → Has (eval e env)
    has_value e t is = let v = evaluates w env types agrees e t is in (v.value, v.is)

    has_agent : (e : Expr) → Tested w types is_agent e → Has (agent_of e env)
    has_agent e t =
        let v = evaluates w env types agrees e t.type t.is in
        let a = value_as w v.value Ty-F.Agent t.type v.fits t.passes in
        (a.0, rw (v.is, a.1) refl)

    has_truth : (e : Expr) → Tested w types is_bool e → Has (truth_of e env)
    has_truth e t =
        let v = evaluates w env types agrees e t.type t.is in
        let a = value_as w v.value Ty-F.Bool t.type v.fits t.passes in
        (a.0, rw (v.is, a.1) refl)

    has_site : (e : Expr) → Tested w types is_site e → Has (site_of c e env)
    has_site e t =
        let v = evaluates w env types agrees e t.type t.is in
        let a = value_as w v.value Ty-F.Site t.type v.fits t.passes in
        (a.0, rw (v.is, a.1, sites, a.2) refl)

    ready : (l : Layer) → GoodForm w types l → Ready c env l
    ready ProcForm-F.Stop h = tt
    ready (ProcForm-F.Par p q) h = tt
    ready (ProcForm-F.New x t p) h = tt
    ready (ProcForm-F.Out x e) h = (has_channel x h.carries h.on, has_value e h.type h.is)
    ready (ProcForm-F.Inp x q p) h = has_channel x h.carries h.on
    ready (ProcForm-F.Rep x q p) h = has_channel x h.carries h.on
    ready (ProcForm-F.Agent b p q) h = tt
    ready (ProcForm-F.Migrate e p) h = has_site e h.0
    ready (ProcForm-F.IfLocal b x e p q) h = (has_agent b h.0, has_channel x h.1.carries h.1.on, has_value e h.1.type h.1.is)
    ready (ProcForm-F.Send b s x e) h = (has_agent b h.0, has_site s h.1, has_channel x h.2.carries h.2.on, has_value e h.2.type h.2.is)
    ready (ProcForm-F.Post b x e) h = (has_agent b h.0, has_channel x h.1.carries h.1.on, has_value e h.1.type h.1.is)
    ready (ProcForm-F.If e p q) h = has_truth e h.0
    ready (ProcForm-F.Let x e p) h =
        let v = evaluates w env types agrees e h.type h.is in
        let b = matches w x v.value h.type env types h.inner v.fits agrees h.covers in
        (v.value, v.is, (b.env, b.is))
    ready (ProcForm-F.Print e) h =
        let v = evaluates w env types agrees e h.type h.is in
        (v.value, v.is, shows w v.value v.fits.type v.fits.is (printable_below h.type v.fits.type v.fits.below h.shows))
    ready (ProcForm-F.Open e) h =
        let v = evaluates w env types agrees e h.type h.is in
        let l = value_as w v.value Ty-F.Letter h.type v.fits h.passes in
        (l.0, rw (v.is, l.1) refl)
    ready (ProcForm-F.Lookup a m x p q) h =
        let v = evaluates w env types agrees m h.1.type h.1.is in
        let l = value_as w v.value Ty-F.Places h.1.type v.fits h.1.passes in
        (has_agent a h.0, (l.0, rw (v.is, l.1) refl))

    -- an input, plain or replicated
    taking_form : (l : Layer) (t : Expr × Pat) → taken_on l ≡ Some t → GoodForm w types l → (p : Proc) × Taking w types t.0 t.1 p
    taking_form (ProcForm-F.Inp x q p) t e h = let same : (x, q) ≡ t = cc in subst (λ (t : Expr × Pat). (p : Proc) × Taking w types t.0 t.1 p) same (p, h)
    taking_form (ProcForm-F.Rep x q p) t e h = let same : (x, q) ≡ t = cc in subst (λ (t : Expr × Pat). (p : Proc) × Taking w types t.0 t.1 p) same (p, h)
    taking_form _ t e h = absurd cc

  pub fitting-well : Fitting w c → Well c
  fitting-well i = record {
    ready = λ m a is. let t = i.atoms m a is in ready a.env t.types t.agrees (layer a.proc) (good-form w t.types a.proc t.good);
    matches = λ x y a b t n v is at together form on out.
        let r = i.atoms x a is in
        let q = taking_form a.env r.types r.agrees (layer a.proc) t form (good-form w r.types a.proc r.good) in
        let k = takes w a.env r.types r.agrees t.0 t.1 q.0 n v q.1 on (sends-typed w b (n, v) (i.atoms y b at) out) in
        (k.env, k.is);
  }
