-- What conditions that hold tell.
use Rattle.std.proofs.Common.{◌≡◌, ℕ, Bool, true, false, cond, not, Option, None, Some, is_some, List, [], ◌∷◌, nat_eq, nat_lt, refl, sym, ap, ◌∙◌}
use Rattle.std.specs.List.{AllByRecursion}
use Rattle.np_calculus.proofs.Common.{Name, Value, Event, Kind, Made, NameSet, same_name, Config, Contents, inside, none_made, one_made, two_made, no_other, are_new, sends}
use Rattle.np_calculus.proofs.Common.{◌>>=◌, then, done, Env, chan_of, eval, Layer, layer}
use Rattle.np_calculus.specs.declared.config.Atom.{Atom}
use Rattle.np_calculus.specs.declared.config.Place.{Place}
use Rattle.np_syntax.specs.declared.process.ProcForm.{ProcForm-F}
use Rattle.np_syntax.specs.declared.event.Made.TheVariants as made
use Rattle.np_calculus.specs.declared.config.Place.TheVariants as place
use Rattle.np_eval.specs.Forms.{as_out, given_on}
use Rattle.history_conditions.specs.declared.condition.Condition.{Condition}
use Rattle.history_conditions.specs.Conditions.{actor_stands, first_failing, first_of, goes_to, has_node, has_role, input_channel, is_as_wanted, is_at_its_site, is_in_agent, is_new, is_of_kind, is_on_channel}
use Rattle.history_conditions.specs.Conditions.{is_output, names_differ, names_output, names_wanted, of_both, operands_fit, output_channel, output_stands, second_of, some_and}

module _ {A : Type 0} where
  -- one that passes a test
  pub record Passes (o : Option A) (test : A → Bool) : Type 0 where
    pub one : A
    pub is : o ≡ Some one
    pub passes : test one ≡ true

  pub passes : (o : Option A) (test : A → Bool) → some_and o test ≡ true → Passes o test
  passes None test h = absurd cc
  passes (Some a) test h = record { one = a; is = refl; passes = h }

  pub there : (o : Option A) → is_some o ≡ true → (a : A) × (o ≡ Some a)
  there None h = absurd cc
  there (Some a) h = (a, refl)

-- where no condition of a list fails, each of them holds
first-none : (t : Bool) (o : Option Condition) (x : Condition) → cond t o (Some x) ≡ None → (t ≡ true) × (o ≡ None)
first-none true o x h = (refl, h)
first-none false o x h = absurd cc

pub none-fails : (test : Condition → Bool) (xs : List Condition) → first_failing test xs ≡ None → AllByRecursion (λ x. test x ≡ true) xs
none-fails test [] h = tt
none-fails test (x ∷ xs) h = let k = first-none (test x) (first_failing test xs) x h in (k.0, none-fails test xs k.1)

next-none : (t : Bool) (o : Option Condition) (x : Condition) → t ≡ true → o ≡ None → cond t o (Some x) ≡ None
next-none true o x h none = none
next-none false o x h none = absurd cc

pub all-hold : (test : Condition → Bool) (xs : List Condition) → AllByRecursion (λ x. test x ≡ true) xs → first_failing test xs ≡ None
all-hold test [] h = refl
all-hold test (x ∷ xs) h = next-none (test x) (first_failing test xs) x h.0 (all-hold test xs h.1)

-- ---- the names that are made

-- names are there as they are wanted
pub record AreMade (wanted : ℕ) (x : Made) : Type 0 where
  pub first : is_as_wanted (nat_lt 0 wanted) (first_of x) ≡ true
  pub second : is_as_wanted (nat_lt 1 wanted) (second_of x) ≡ true

pub no-name : (x : Made) → AreMade 0 x → none_made x ≡ Some tt
no-name made.Nothing m = refl
no-name (made.One p) m = let h = m.first in absurd cc
no-name (made.Two p q) m = let h = m.first in absurd cc

pub one-name : (x : Made) → AreMade 1 x → (p : Name) × (one_made x ≡ Some p)
one-name made.Nothing m = let h = m.first in absurd cc
one-name (made.One p) m = (p, refl)
one-name (made.Two p q) m = let h = m.second in absurd cc

pub two-names : (x : Made) → AreMade 2 x → (p : Name × Name) × (two_made x ≡ Some p)
two-names made.Nothing m = let h = m.first in absurd cc
two-names (made.One p) m = let h = m.second in absurd cc
two-names (made.Two p q) m = ((p, q), refl)

pub they-are-new : (born : NameSet) (x : Made) → is_new born (first_of x) ≡ true → is_new born (second_of x) ≡ true → names_differ x ≡ true → are_new born x ≡ true
they-are-new born made.Nothing f s d = refl
they-are-new born (made.One p) f s d = f
they-are-new born (made.Two p q) f s d = rw (d, f, s) refl

pub no-output : (o : Option Name) → is_some o ≡ false → no_other o ≡ Some tt
no-output None h = refl
no-output (Some q) h = absurd cc

-- ---- places

pub record Goes (p : Place) (site : ℕ) : Type 0 where
  pub to : ℕ
  pub is : p ≡ place.Way to
  pub same : nat_eq to site ≡ true

pub goes : (p : Place) (site : ℕ) → goes_to p site ≡ true → Goes p site
goes (place.At s) site h = absurd cc
goes (place.Way s) site h = record { to = s; is = refl; same = h }

-- ---- of two atoms

pub both : (x : Contents) (e : Event) (test : Atom → Atom → Bool) (o : Name) (a b : Atom) → e.other ≡ Some o → x.atom e.actor ≡ Some a → x.atom o ≡ Some b
    → of_both x e test ≡ true → test a b ≡ true
both x e test o a b names acts stands h = rw (names, acts, stands) at h

pub on-channel : (a b : Atom) (m n : Name) → input_channel a ≡ Some m → output_channel b ≡ Some n → is_on_channel a b ≡ true → same_name m n ≡ true
on-channel a b m n i o h = rw (i, o) at h

given : (l : Layer) (env : Env) (s : Name × Value) → (as_out l >>= λ (chan, sent). chan_of chan env >>= λ n. eval sent env >>= λ v. Some (n, v)) ≡ Some s
    → (given_on l >>= λ chan. chan_of chan env) ≡ Some s.0
given (ProcForm-F.Out chan sent) env s h =
    then (chan_of chan env) _ h λ n on h. then (eval sent env) _ h λ v says h. on ∙ ap (λ (s : Name × Value). Some s.0) (sym (done h))
given _ env s h = absurd cc

-- what sends a value is on a channel
pub sends-on : (b : Atom) (s : Name × Value) → sends b ≡ Some s → output_channel b ≡ Some s.0
sends-on b s h = given (layer b.proc) b.env s h

pub not-there : (b : Bool) → not b ≡ true → b ≡ false
not-there false t = refl
not-there true t = absurd cc

-- ---- the conditions by a kind

pub record AllHold (c : Config) (e : Event) (k : Kind) : Type 0 where
  pub actor : actor_stands k (inside c) e.actor ≡ true
  pub site : is_at_its_site k (inside c) e ≡ true
  pub of_kind : is_of_kind k (inside c) e.actor ≡ true
  pub node : has_node k (inside c) e ≡ true
  pub role : has_role k (inside c) e ≡ true
  pub other : names_output k e.other ≡ true
  pub first : is_as_wanted (nat_lt 0 (names_wanted k c e)) (first_of e.made) ≡ true
  pub second : is_as_wanted (nat_lt 1 (names_wanted k c e)) (second_of e.made) ≡ true
  pub first_new : is_new c.born (first_of e.made) ≡ true
  pub second_new : is_new c.born (second_of e.made) ≡ true
  pub differ : names_differ e.made ≡ true
  pub stands : output_stands (inside c) e ≡ true
  pub output : is_output (inside c) e ≡ true
  pub agent : of_both (inside c) e is_in_agent ≡ true
  pub channel : of_both (inside c) e is_on_channel ≡ true
  pub operands : operands_fit k c.sites (inside c) e ≡ true
