-- The inversion of the rows of acting atoms: one record a row says what form it asks for, and `parts` what a row that is met tells.
use Rattle.std.proofs.Common.{◌≡◌, Option, None, Some, refl, ap, sym, subst, ◌∙◌}
use Rattle.np_calculus.proofs.Common.{Name, Value, Expr, Pat, ProcForm-F, Event, Kind, ◌>>=◌, ◌>>◌, then, done, Env, chan_of, bind, Layer, layer, Atom, Sight}
use Rattle.np_calculus.proofs.Common.{Change, none_made, no_other, offered_in, act}
use Rattle.np_syntax.specs.declared.event.Kind.TheVariants as kind
use Rattle.np_eval.specs.FormParts.{as_stop, as_par, as_new, as_inp, as_rep, as_agent_form, as_migrate, as_iflocal, as_send, as_post, as_if, as_let, as_print, as_open, as_lookup}
use Rattle.np_eval.proofs.FormsByParts as form

-- two chains with the same first step
pub step : {A B : Type 0} (o p : Option A) (f g : A → Option B) → o ≡ p → ((a : A) → o ≡ Some a → f a ≡ g a) → (o >>= f) ≡ (p >>= g)
step None p f g e h = ap (λ o. o >>= g) e
step (Some a) p f g e h = h a refl ∙ ap (λ o. o >>= g) e

-- a form of processes: its parts, how they are found, and the form that they make
pub record Asked : Type 1 where
  pub Parts : Type 0
  pub parts : Layer → Option Parts
  pub form : Parts → Layer

-- the record of each row: the form that it asks of the acting atom; an arrival and a landing have none
abbrev pub asked : Kind → Asked
asked kind.Stop = record { Parts = _; parts = as_stop; form = λ u. ProcForm-F.Stop }
asked kind.Fork = record { Parts = _; parts = as_par; form = λ (p, q). ProcForm-F.Par p q }
asked kind.New = record { Parts = _; parts = as_new; form = λ (x, t, p). ProcForm-F.New x t p }
asked kind.Let = record { Parts = _; parts = as_let; form = λ (x, v, p). ProcForm-F.Let x v p }
asked kind.If = record { Parts = _; parts = as_if; form = λ (v, p, q). ProcForm-F.If v p q }
asked kind.Comm = record { Parts = _; parts = as_inp; form = λ (c, x, p). ProcForm-F.Inp c x p }
asked kind.Rep = record { Parts = _; parts = as_rep; form = λ (c, x, p). ProcForm-F.Rep c x p }
asked kind.Agent = record { Parts = _; parts = as_agent_form; form = λ (b, p, q). ProcForm-F.Agent b p q }
asked kind.Depart = record { Parts = _; parts = as_migrate; form = λ (s, p). ProcForm-F.Migrate s p }
asked kind.Local = record { Parts = _; parts = as_iflocal; form = λ (b, c, v, p, q). ProcForm-F.IfLocal b c v p q }
asked kind.Send = record { Parts = _; parts = as_send; form = λ (b, t, c, v). ProcForm-F.Send b t c v }
asked kind.Print = record { Parts = _; parts = as_print; form = ProcForm-F.Print }
asked kind.Open = record { Parts = _; parts = as_open; form = ProcForm-F.Open }
asked kind.Lookup = record { Parts = _; parts = as_lookup; form = λ (b, m, x, p, q). ProcForm-F.Lookup b m x p q }
asked kind.Post = record { Parts = _; parts = as_post; form = λ (b, c, v). ProcForm-F.Post b c v }
asked _ = record { Parts = ⊥; parts = λ l. None; form = λ none. absurd none }

-- a process of these parts has this form
is-form : (k : Kind) (l : Layer) (p : (asked k).Parts) → (asked k).parts l ≡ Some p → l ≡ (asked k).form p
is-form kind.Stop l p h = form.stop-form l p h
is-form kind.Fork l p h = form.par-form l p h
is-form kind.New l p h = form.new-form l p h
is-form kind.Let l p h = form.let-form l p h
is-form kind.If l p h = form.if-form l p h
is-form kind.Comm l p h = form.inp-form l p h
is-form kind.Rep l p h = form.rep-form l p h
is-form kind.Agent l p h = form.agent-form l p h
is-form kind.Depart l p h = form.migrate-form l p h
is-form kind.Local l p h = form.iflocal-form l p h
is-form kind.Send l p h = form.send-form l p h
is-form kind.Print l p h = form.print-form l p h
is-form kind.Open l p h = form.open-form l p h
is-form kind.Lookup l p h = form.lookup-form l p h
is-form kind.Post l p h = form.post-form l p h
is-form _ l p h = absurd p

-- a row is that of the form that its kind asks for
pub by : (k : Kind) (l : Layer) (w : Sight) (e : Event) (a : Atom) → act k l w e a ≡ ((asked k).parts l >>= λ p. act k ((asked k).form p) w e a)
unfolding act
by kind.Stop ProcForm-F.Stop w e a = refl
by kind.Fork (ProcForm-F.Par p q) w e a = refl
by kind.New (ProcForm-F.New x t p) w e a = refl
by kind.Let (ProcForm-F.Let x v p) w e a = refl
by kind.If (ProcForm-F.If v p q) w e a = refl
by kind.Comm (ProcForm-F.Inp c x p) w e a = refl
by kind.Rep (ProcForm-F.Rep c x p) w e a = refl
by kind.Agent (ProcForm-F.Agent b p q) w e a = refl
by kind.Depart (ProcForm-F.Migrate s p) w e a = refl
by kind.Local (ProcForm-F.IfLocal b c v p q) w e a = refl
by kind.Send (ProcForm-F.Send b t c v) w e a = refl
by kind.Print (ProcForm-F.Print x) w e a = refl
by kind.Open (ProcForm-F.Open x) w e a = refl
by kind.Lookup (ProcForm-F.Lookup b m x p q) w e a = refl
by kind.Post (ProcForm-F.Post b c v) w e a = refl
by _ _ w e a = refl

-- the parts of the acting atom's form, and the rest of a row that is met
pub parts : {R : Type 0} (k : Kind) (w : Sight) (e : Event) (a : Atom) {x : Change} → act k (layer a.proc) w e a ≡ Some x
    → ((p : (asked k).Parts) → layer a.proc ≡ (asked k).form p → act k ((asked k).form p) w e a ≡ Some x → R) → R
parts k w e a h f = then ((asked k).parts (layer a.proc)) _ (sym (by k (layer a.proc) w e a) ∙ h) λ p is h. f p (is-form k (layer a.proc) p is) h

-- the last step of a row, and the last steps of one that makes no name and takes no output
module _ (F : Change → Type 0) (e : Event) {x y : Change} where
  pub so : Some y ≡ Some x → F y → F x
  so h f = subst F (sym (done h)) f

  pub lone : (none_made e.made >> (no_other e.other >> Some y)) ≡ Some x → F y → F x
  lone h f = then (none_made e.made) _ h λ u made h. then (no_other e.other) _ h λ v other h. so h f

-- the steps of an input, which takes the output of a mark off its channel
pub taking : {R : Type 0} (w : Sight) (e : Event) (a : Atom) (c : Expr) (p : Pat) (f : Name → Env → Change) {x : Change}
    → (chan_of c a.env >>= λ n. e.other >>= λ o. offered_in w.atom o a.agent n >>= λ v. bind p v a.env >>= λ env. none_made e.made >> Some (f o env)) ≡ Some x
    → ((n o : Name) (v : Value) (env : Env) → chan_of c a.env ≡ Some n → offered_in w.atom o a.agent n ≡ Some v → bind p v a.env ≡ Some env → Some (f o env) ≡ Some x → R)
    → R
taking w e a c p f h r =
    then (chan_of c a.env) _ h λ n on h. then e.other _ h λ o other h. then (offered_in w.atom o a.agent n) _ h λ v offer h.
    then (bind p v a.env) _ h λ env binds h. then (none_made e.made) _ h λ u made h. r n o v env on offer binds h
