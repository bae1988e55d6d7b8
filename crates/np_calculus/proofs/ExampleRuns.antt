-- What the definitions say of small runs, and of events that are not enabled.
use Rattle.std.proofs.Common.{◌≡◌, ℕ, true, false, Option, None, Some, List, [], ◌∷◌, ◌++◌, nat_lt, refl, sym, ◌∙◌}
use Rattle.std.specs.FinMap as map
use Rattle.np_calculus.proofs.Common.{Name, Value, Kind, NameMap, same_name, same_name-itself, Env, chan_of, eval, bind, Atom, Place, sends, apply}
use Rattle.np_calculus.proofs.Common.{act, arrive_row, acting, offered, found_on, find_place}
use Rattle.np_syntax.specs.declared.value.Value as value
use Rattle.np_syntax.specs.declared.value.Value.TheVariants.{outs-Agent, outs-Chan, outs-Letter, outs-Places, outs-Site}
use Rattle.np_syntax.specs.declared.process.ProcForm.{ProcForm}
use Rattle.np_syntax.specs.declared.process.ProcForm.TheVariants.{outs-Out, outs-Inp, outs-Rep, outs-Migrate, outs-Print, outs-Open, outs-Lookup}
use Rattle.np_syntax.specs.declared.event.Kind.TheVariants as kind
use Rattle.np_tables.proofs.Tables.{get-put, get-none, put_here, same_name-swap, cut-put_absent, cut-put_swap, put-put, put-swap}
use Rattle.np_calculus.specs.declared.config.Place.TheVariants as place
use Rattle.np_calculus.specs.Examples.{constant, number, prints, process, gives_five, prints_it, it, takes_it, keeps_taking, leaves, opens_five, looks_up, atom, agent_with, one, two, event}
use Rattle.np_calculus.specs.Examples.{TwoPrints, Communication, Replication, Migration, Opening, LookingUp}
use Rattle.np_eval.proofs.Evals.{eval-form, eval-val}
use Rattle.np_eval.proofs.Binds.{bind-form, bind-bind}
use Rattle.np_calculus.proofs.Steps.{same_site, same-offer, step-offered}

constant-is : (v : Value) (env : Env) → eval (constant v) env ≡ Some v
constant-is v env = rw (eval-form (constant v) env, eval-val v env) refl

-- the atom under a mark acts where its agent is
acts_here : (n s : ℕ) (row : Kind) (a j : Name) (f : ProcForm) (env : Env) (atoms : NameMap Atom) (other : Option Name) → map.get atoms j ≡ Some (atom a f env)
    → acting (agent_with n (place.At s) a atoms) (event s row j other) ≡ Some (atom a f env)
acts_here n s row a j f env atoms other there = rw (there, put_here {X = Place} map.empty a (place.At s), same_site s) refl

first_there : (j k : Name) (x y : Atom) → same_name j k ≡ false → map.get (two j k x y) j ≡ Some x
first_there j k x y apart = rw (get-put (one j x) k y j, apart, put_here {X = Atom} map.empty j x) refl

second_there : (j k : Name) (x y : Atom) → map.get (two j k x y) k ≡ Some y
second_there j k x y = put_here (one j x) k y

-- an atom that prints a number says it at its site, and is gone
printed : (n s i : ℕ) (a j : Name) (atoms : NameMap Atom) (said : List (ℕ × Value)) → map.get atoms j ≡ Some (atom a (prints i) map.empty)
    → apply (record (agent_with n (place.At s) a atoms) { said = said }) (event s kind.Print j None) ≡ Some (record (agent_with n (place.At s) a (map.remove atoms j)) { said = said ++ (s, number i) ∷ [] })
unfolding act
printed n s i a j atoms said there =
    rw (acts_here n s kind.Print a j (prints i) map.empty atoms None there, outs-Print (constant (number i)), constant-is (number i) map.empty) refl

without_only : (j : Name) (x : Atom) → map.remove (one j x) j ≡ map.empty
without_only j x = cut-put_absent map.empty j x (get-none {X = Atom} j)

without_first : (j k : Name) (x y : Atom) → same_name j k ≡ false → map.remove (two j k x y) j ≡ one k y
without_first j k x y apart = rw (cut-put_swap (one j x) k j y (same_name-swap k j ∙ apart), without_only j x) refl

pub two_prints : TwoPrints
two_prints n s a j k apart =
    let x = atom a (prints 1) map.empty in let y = atom a (prints 2) map.empty in
    rw (printed n s 1 a j (two j k x y) [] (first_there j k x y apart), without_first j k x y apart, printed n s 2 a k (one k y) ((s, number 1) ∷ []) (put_here {X = Atom} map.empty k y), without_only k y) refl

-- the output of five, under the mark j
offered_five : (n s : ℕ) (a c j k : Name) (y : Atom) → same_name j k ≡ false
    → offered (agent_with n (place.At s) a (two j k (atom a (gives_five c) map.empty) y)) j a c ≡ Some (number 5)
offered_five n s a c j k y apart = step-offered (agent_with n (place.At s) a (two j k (atom a (gives_five c) map.empty) y)) j a c (number 5) (record {
  mate = atom a (gives_five c) map.empty;
  waits = first_there j k _ y apart;
  together = same_name-itself a;
  sent = (c, number 5);
  sends_it = sends_five a c;
  agree = same_name-itself c;
  is = refl;
})
  where
    sends_five : (a c : Name) → sends (atom a (gives_five c) map.empty) ≡ Some (c, number 5)
    sends_five a c = rw (outs-Out (constant (value.Chan c)) (constant (number 5)), constant-is (value.Chan c) map.empty, outs-Chan c, constant-is (number 5) map.empty) refl

on_chan : (c : Name) (env : Env) → chan_of (constant (value.Chan c)) env ≡ Some c
on_chan c env = rw (constant-is (value.Chan c) env, outs-Chan c) refl

binds_it : (x : ℕ) (v : Value) (env : Env) → bind (it x) v env ≡ Some (map.insert env x v)
binds_it x v env = rw (bind-form (it x) v env, bind-bind x v env) refl

pub communication : Communication
unfolding act
communication n s x a c j k apart =
    let from = constant (value.Chan c) in
    let y = atom a (takes_it c x) map.empty in
    rw (
      acts_here n s kind.Comm a k (takes_it c x) map.empty _ (Some j) (second_there j k (atom a (gives_five c) map.empty) y),
      outs-Inp from (it x) (process (prints_it x)),
      on_chan c map.empty,
      same-offer (agent_with n (place.At s) a (two j k (atom a (gives_five c) map.empty) y)) (event s kind.Comm k (Some j)) y j c
          (acts_here n s kind.Comm a k (takes_it c x) map.empty _ (Some j) (second_there j k (atom a (gives_five c) map.empty) y))
          ∙ offered_five n s a c j k y apart,
      binds_it x (number 5) map.empty,
      put-put (one j (atom a (gives_five c) map.empty)) k y (atom a (prints_it x) (map.insert map.empty x (number 5))),
      without_first j k (atom a (gives_five c) map.empty) (atom a (prints_it x) (map.insert map.empty x (number 5))) apart,
    )
    refl

-- a write under the first of two names
first_changed : (j k : Name) (x y z : Atom) → same_name j k ≡ false → map.insert (two j k x y) j z ≡ two j k z y
first_changed j k x y z apart = rw (put-swap {X = Atom} map.empty j k x y apart, put-put (one k y) j x z) (sym (put-swap {X = Atom} map.empty j k z y apart))

pub replication : Replication
unfolding act
replication n s x a c j k apart =
    let from = constant (value.Chan c) in
    let y = atom a (keeps_taking c x) map.empty in
    rw (
      acts_here n s kind.Rep a k (keeps_taking c x) map.empty _ (Some j) (second_there j k (atom a (gives_five c) map.empty) y),
      outs-Rep from (it x) (process (prints_it x)),
      on_chan c map.empty,
      same-offer (agent_with n (place.At s) a (two j k (atom a (gives_five c) map.empty) y)) (event s kind.Rep k (Some j)) y j c
          (acts_here n s kind.Rep a k (keeps_taking c x) map.empty _ (Some j) (second_there j k (atom a (gives_five c) map.empty) y))
          ∙ offered_five n s a c j k y apart,
      binds_it x (number 5) map.empty,
      first_changed j k (atom a (gives_five c) map.empty) y (atom a (prints_it x) (map.insert map.empty x (number 5))) apart,
    )
    refl

departed : (n s t : ℕ) (a j : Name) (f : ProcForm) → nat_lt t n ≡ true
    → apply (agent_with n (place.At s) a (one j (atom a (leaves t f) map.empty))) (event s kind.Depart j None) ≡ Some (agent_with n (place.Way t) a (one j (atom a f map.empty)))
unfolding act
departed n s t a j f h =
    rw (
      acts_here n s kind.Depart a j (leaves t f) map.empty _ None (put_here {X = Atom} map.empty j (atom a (leaves t f) map.empty)),
      outs-Migrate (constant (value.Site t)) (process f),
      constant-is (value.Site t) map.empty,
      outs-Site t,
      h,
      put-put {X = Atom} map.empty j (atom a (leaves t f) map.empty) (atom a f map.empty),
      put-put {X = Place} map.empty a (place.At s) (place.Way t),
    )
    refl

arrived : (n t : ℕ) (a : Name) (atoms : NameMap Atom) → apply (agent_with n (place.Way t) a atoms) (event t kind.Arrive a None) ≡ Some (agent_with n (place.At t) a atoms)
unfolding arrive_row
arrived n t a atoms = rw (put_here {X = Place} map.empty a (place.Way t), same_site t, put-put {X = Place} map.empty a (place.Way t) (place.At t)) refl

pub migration : Migration
migration n s t a j f h = (departed n s t a j f h, arrived n t a _)

pub opening : Opening
unfolding act
opening n s a c j =
    let x = atom a (opens_five c) map.empty in
    rw (
      acts_here n s kind.Open a j (opens_five c) map.empty _ None (put_here {X = Atom} map.empty j x),
      outs-Open (constant (value.Letter c (number 5))),
      constant-is (value.Letter c (number 5)) map.empty,
      outs-Letter c (number 5),
      put-put {X = Atom} map.empty j x (atom a (gives_five c) map.empty),
    )
    refl

-- the operands of a lookup have their values, and the atom goes on as this one
looked_up : (n s x : ℕ) (a b j : Name) (places : List (Name × Name)) (f g : ProcForm) (y : Atom)
    → found_on (atom a (looks_up b places x f g) map.empty) x (process f) (process g) (find_place places b) ≡ y
    → apply (agent_with n (place.At s) a (one j (atom a (looks_up b places x f g) map.empty))) (event s kind.Lookup j None) ≡ Some (agent_with n (place.At s) a (one j y))
unfolding act
looked_up n s x a b j places f g y goes =
    let z = atom a (looks_up b places x f g) map.empty in
    rw (
      acts_here n s kind.Lookup a j (looks_up b places x f g) map.empty _ None (put_here {X = Atom} map.empty j z),
      outs-Lookup (constant (value.Agent b)) (constant (value.Places places)) x (process f) (process g),
      constant-is (value.Agent b) map.empty,
      outs-Agent b,
      constant-is (value.Places places) map.empty,
      outs-Places places,
      goes,
      put-put {X = Atom} map.empty j z y,
    )
    refl

pub looking_up : LookingUp
looking_up n s x a b l j f g = (
  looked_up n s x a b j ((b, l) ∷ []) f g _ (rw (same_name-itself b) refl),
  looked_up n s x a b j [] f g _ refl,
)
