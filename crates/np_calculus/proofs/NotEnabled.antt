-- Events that are not enabled, one for each reason that a row has.
use Rattle.std.proofs.Common.{◌≡◌, true, false, Option, None, Some, is_some, refl, ◌∙◌}
use Rattle.np_syntax.specs.declared.value.Value as value
use Rattle.np_syntax.specs.declared.value.Value.TheVariants.{outs-Int}
use Rattle.np_syntax.specs.declared.expression.ExprForm as expr
use Rattle.np_syntax.specs.declared.pattern.PatForm as pat
use Rattle.np_syntax.specs.declared.process.ProcForm.TheVariants.{outs-Print}
use Rattle.np_calculus.proofs.Common.{Event, Kind, ◌>>=◌, chan_of, agent_of, letter_of, places_of, Layer, layer, Atom, Config, Sight, inside, sight, none_made, are_new, after_change, change}
use Rattle.np_calculus.proofs.Common.{row, act, arrive_row, land_row, acting, offered}
use Rattle.np_syntax.specs.declared.event.Kind.TheVariants as kind
use Rattle.np_calculus.specs.NotEnabled.{by_atom, asks, NotEnabled, LowNotEnabled, NoValue}
use Rattle.np_eval.proofs.Binds.{bind-form, bind-tuple}
use Rattle.np_eval.proofs.Evals.{eval-form, eval-var}
use Rattle.np_eval.proofs.FormsByParts.{inp-form, let-form, if-form, print-form, migrate-form, open-form, lookup-form}
use Rattle.np_calculus.proofs.Rows.{asked, by}
use Rattle.np_calculus.proofs.Steps.{same-offer}

none_after : {A B : Type 0} (o : Option A) (f : A → Option B) → ((a : A) → f a ≡ None) → (o >>= f) ≡ None
none_after None f h = refl
none_after (Some a) f h = h a

none_there : {A : Type 0} (o : Option A) → is_some o ≡ false → o ≡ None
none_there None h = refl
none_there (Some a) h = absurd cc

-- without an acting atom no row of one is met
no_actor : (k : Kind) (c : Config) (e : Event) → by_atom k ≡ true → acting c e ≡ None → row k c e ≡ None
no_actor kind.Arrive c e b h = absurd cc
no_actor kind.Land c e b h = absurd cc
no_actor k c e b h = rw h refl

-- the process has another form than the kind asks
other_at : (k : Kind) (l : Layer) (w : Sight) (e : Event) (a : Atom) → asks k l ≡ false → act k l w e a ≡ None
unfolding act
other_at kind.Arrive l w e a h = refl
other_at kind.Land l w e a h = refl
other_at k l w e a h = by k l w e a ∙ rw (none_there ((asked k).parts l) h) refl

other_form : (k : Kind) (c : Config) (e : Event) (a : Atom) → by_atom k ≡ true → acting c e ≡ Some a → asks k (layer a.proc) ≡ false → row k c e ≡ None
other_form kind.Arrive c e a b acts h = absurd cc
other_form kind.Land c e a b acts h = absurd cc
other_form k c e a b acts h = rw (acts, other_at k (layer a.proc) (sight c.sites (inside c) e.site) e a h) refl

-- a name that is made is not new
not_new : (k : Kind) (c : Config) (e : Event) → are_new c.born e.made ≡ false → row k c e ≡ None
not_new k c e h = none_after (change k c.sites (inside c) e) _ λ d. rw h refl

-- no atom of the form that the kind asks for meets the row
unmet : (k : Kind) (c : Config) (e : Event) → ((a : Atom) (p : (asked k).Parts) → act k ((asked k).form p) (sight c.sites (inside c) e.site) e a ≡ None)
    → ((acting c e >>= λ a. act k (layer a.proc) (sight c.sites (inside c) e.site) e a) >>= after_change c e) ≡ None
unmet k c e h =
    let none = none_after (acting c e) _ λ a. by k (layer a.proc) (sight c.sites (inside c) e.site) e a ∙ none_after ((asked k).parts (layer a.proc)) _ λ p. h a p in
    rw none refl

pub not_enabled : NotEnabled
unfolding act arrive_row land_row
not_enabled = record {
  no_actor = record {
    absent = λ k c e b h. no_actor k c e b (rw h refl);
    elsewhere = λ k c e a s b there lies apart. no_actor k c e b (rw (there, lies, apart) refl);
    travelling = λ k c e a s b there lies. no_actor k c e b (rw (there, lies) refl);
    other_tag = λ k c e a s b there lies here apart. no_actor k c e b (rw (there, lies, here, apart) refl);
    other_form = other_form;
  };
  print_to_stop = λ c e a x acts is. rw (acts, is, outs-Print x) refl;
  no_packet = λ c e h. rw h refl;
  not_travelling = λ c e s h. rw h refl;
  packet_elsewhere = λ c e p there apart. rw (there, apart) refl;
  bound_elsewhere = λ c e s lies apart. rw (lies, apart) refl;
  name_made = λ c e m h. unmet kind.Stop c e λ a p. rw h refl;
  none_made_there = λ c e h. unmet kind.Fork c e λ a p. rw h refl;
  born_already = λ k c e m h born. not_new k c e (rw (h, born) refl);
  one_name_twice = λ k c e m n h same. not_new k c e (rw (h, same) refl);
  output_taken = λ c e o h. unmet kind.Stop c e λ a p. none_after (none_made e.made) _ λ m. rw h refl;
  no_output = λ c e h. unmet kind.Comm c e λ a p. none_after (chan_of p.0 a.env) _ λ n. rw h refl;
  other_channel = λ c e a b parts n o sent acts is on other waits together gives apart.
      let none : offered c o a.agent n ≡ None = rw (waits, together, gives, apart) refl in
      rw (acts, inp-form (layer a.proc) parts is, on, other, same-offer c e a o n acts ∙ none) refl;
  other_agent = λ c e a b parts n o acts is on other waits apart.
      let none : offered c o a.agent n ≡ None = rw (waits, apart) refl in
      rw (acts, inp-form (layer a.proc) parts is, on, other, same-offer c e a o n acts ∙ none) refl;
  no_match = λ c e a parts v acts is says apart. rw (acts, let-form (layer a.proc) parts is, says, apart) refl;
  no_truth = λ c e a parts acts is says. rw (acts, if-form (layer a.proc) parts is, says) refl;
  no_value = λ c e a x acts is says. rw (acts, print-form (layer a.proc) x is, says) refl;
  no_site = λ c e a parts v t acts is says site far. rw (acts, migrate-form (layer a.proc) parts is, says, site, far) refl;
}

pub low_not_enabled : LowNotEnabled
unfolding act
low_not_enabled = record {
  no_letter = λ c e a x acts is says. rw (acts, open-form (layer a.proc) x is, says) refl;
  no_agent = λ c e a parts acts is says. rw (acts, lookup-form (layer a.proc) parts is, says) refl;
  no_places = λ c e a parts b acts is looked says. rw (acts, lookup-form (layer a.proc) parts is, looked, says) refl;
  open_makes = λ c e m h. unmet kind.Open c e λ a p. none_after (letter_of p a.env) _ λ l. rw h refl;
  open_takes = λ c e o h. unmet kind.Open c e λ a p. none_after (letter_of p a.env) _ λ l. none_after (none_made e.made) _ λ m. rw h refl;
  lookup_makes = λ c e m h. unmet kind.Lookup c e λ a p. none_after (agent_of p.0 a.env) _ λ b. none_after (places_of p.1 a.env) _ λ q. rw h refl;
  lookup_takes = λ c e o h. unmet kind.Lookup c e λ a p.
      none_after (agent_of p.0 a.env) _ λ b. none_after (places_of p.1 a.env) _ λ q. none_after (none_made e.made) _ λ m. rw h refl;
}

pub no_value : NoValue
no_value = record {
  unbound = λ x at env h. rw (eval-form (record { at = at; form = expr.Var x }) env, eval-var x env, h) refl;
  tuple_to_number = λ ps at i env.
      rw (bind-form (record { at = at; form = pat.Tuple ps }) (value.Int i) env, bind-tuple ps (value.Int i) env, outs-Int i) refl;
}
