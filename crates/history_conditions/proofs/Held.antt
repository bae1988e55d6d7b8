-- Each condition holds of an event that the table of reductions makes.
use Rattle.std.proofs.Common.{◌≡◌, ℕ, Bool, true, false, cond, ◌&&◌, Option, None, Some, is_some, nat_eq, refl, sym, ap, subst, ◌∙◌}
use Rattle.std.specs.FinMap as map
use Rattle.np_syntax.proofs.Bools.{and-out}
use Rattle.np_syntax.proofs.Numbers.{nat_eq-turned}
use Rattle.np_calculus.proofs.Common.{Name, Value, Event, Kind, Made, Proc, ◌>>=◌, then, when, done, NameSet, chan_of, agent_of, truth_of, letter_of, places_of, eval, bind, Layer, layer, Config, inside, sight}
use Rattle.np_calculus.proofs.Common.{Change, Env, none_made, one_made, two_made, no_other, offered_in, are_new, row, here_row, away_row, act, arrive_row, land_row, acting, is_at, way}
use Rattle.np_syntax.specs.declared.expression.Expr.{Expr}
use Rattle.np_syntax.specs.declared.pattern.Pat.{Pat}
use Rattle.np_calculus.specs.declared.config.Atom.{Atom}
use Rattle.np_calculus.specs.declared.config.Place.{Place}
use Rattle.np_calculus.specs.declared.config.Place.TheVariants as place
use Rattle.np_syntax.specs.declared.process.ProcForm.{ProcForm-F}
use Rattle.np_syntax.specs.declared.event.Kind.TheVariants as kind
use Rattle.np_syntax.specs.declared.event.Made.TheVariants as made
use Rattle.np_calculus.specs.NotEnabled.{asks, by_atom}
use Rattle.np_calculus.specs.Reductions.{alone, site_in}
use Rattle.np_calculus.proofs.Rows.{asked, parts}
use Rattle.np_calculus.proofs.Steps.{Acts, acting-step, offered-step, row-step, same_site, same-offer, step-acting}
use Rattle.np_eval.specs.Forms.{as_out}
use Rattle.history_conditions.specs.Conditions.{asked_agent, finds_agent, form_fits, goes_to, input_channel, is_in_agent, is_new, is_on_channel, is_on_way, is_output}
use Rattle.history_conditions.specs.Conditions.{first_of, names_differ, names_output, names_wanted, of_both, output_stands, second_of, taken_fits}
use Rattle.history_conditions.proofs.Common.{AllHold, AreMade, sends-on}

-- ---- names

record AreFresh (born : NameSet) (x : Made) : Type 0 where
  pub first : is_new born (first_of x) ≡ true
  pub second : is_new born (second_of x) ≡ true
  pub differ : names_differ x ≡ true

fresh : (born : NameSet) (x : Made) → are_new born x ≡ true → AreFresh born x
fresh born made.Nothing h = record { first = refl; second = refl; differ = refl }
fresh born (made.One m) h = record { first = h; second = refl; differ = refl }
fresh born (made.Two m n) h = let k = and-out _ _ h in let l = and-out _ _ k.1 in record { first = l.0; second = l.1; differ = k.0 }

none-are : (x : Made) (u : Unit {0}) → none_made x ≡ Some u → AreMade 0 x
none-are made.Nothing u h = record { first = refl; second = refl }
none-are _ u h = absurd cc

one-is : (x : Made) (m : Name) → one_made x ≡ Some m → AreMade 1 x
one-is (made.One n) m h = record { first = refl; second = refl }
one-is _ m h = absurd cc

two-are : (x : Made) (m : Name × Name) → two_made x ≡ Some m → AreMade 2 x
two-are (made.Two n o) m h = record { first = refl; second = refl }
two-are _ m h = absurd cc

none-other : (o : Option Name) (u : Unit {0}) → no_other o ≡ Some u → o ≡ None
none-other None u h = refl
none-other (Some m) u h = absurd cc

-- ---- places

on-way : (p : Place) (s : ℕ) → way p ≡ Some s → is_on_way p ≡ true
on-way (place.Way t) s h = refl
on-way (place.At t) s h = absurd cc

on-its-way : (p : Place) (s site : ℕ) → way p ≡ Some s → nat_eq s site ≡ true → goes_to p site ≡ true
on-its-way (place.Way t) s site h same = ap (λ n. nat_eq n site) (sym (done h)) ∙ same
on-its-way (place.At t) s site h same = absurd cc

-- what sends a value is an output
sends-out : (l : Layer) (f : Expr × Expr → Option (Name × Value)) (s : Name × Value) → (as_out l >>= f) ≡ Some s → is_some (as_out l) ≡ true
sends-out (ProcForm-F.Out chan sent) f s h = refl
sends-out _ f s h = absurd cc

module _ (c : Config) (e : Event) where
  -- of an event that takes no output
  record IsAlone : Type 0 where
    pub other : e.other ≡ None
    pub stands : output_stands (inside c) e ≡ true
    pub output : is_output (inside c) e ≡ true
    pub agent : of_both (inside c) e is_in_agent ≡ true
    pub channel : of_both (inside c) e is_on_channel ≡ true

  is-alone : (u : Unit {0}) → no_other e.other ≡ Some u → IsAlone
  is-alone u h =
      let none = none-other e.other u h in
      record { other = none; stands = rw none refl; output = rw none refl; agent = rw none refl; channel = rw none refl }

  arrived : (d : Change) → arrive_row (map.get c.places e.actor) e ≡ Some d → are_new c.born e.made ≡ true → AllHold c e kind.Arrive
  unfolding arrive_row
  arrived d h new =
      then (map.get c.places e.actor) _ h λ p is h. then (way p) _ h λ s goes h. when (nat_eq s e.site) _ h λ same h. when _ _ h λ tag h.
      then (none_made e.made) _ h λ u none h. then (no_other e.other) _ h λ v other h.
      let t = and-out _ _ tag in
      let m = none-are e.made u none in
      let n = fresh c.born e.made new in
      let a = is-alone v other in
      record {
        actor = rw is (on-way p s goes);
        site = rw is (on-its-way p s e.site goes same);
        of_kind = refl;
        node = nat_eq-turned 0 e.tag.node ∙ t.0;
        role = nat_eq-turned 0 _ ∙ t.1;
        other = rw a.other refl;
        first = m.first;
        second = m.second;
        first_new = n.first;
        second_new = n.second;
        differ = n.differ;
        stands = a.stands;
        output = a.output;
        agent = a.agent;
        channel = a.channel;
        operands = refl;
      }

  landed : (d : Change) → land_row (map.get c.packets e.actor) (sight c.sites (inside c) e.site) e ≡ Some d → are_new c.born e.made ≡ true → AllHold c e kind.Land
  unfolding land_row
  landed d h new =
      then (map.get c.packets e.actor) _ h λ p is h. when (nat_eq p.to e.site) _ h λ same h. when _ _ h λ tag h.
      then (none_made e.made) _ h λ u none h. then (no_other e.other) _ h λ v other h.
      let t = and-out _ _ tag in
      let m = none-are e.made u none in
      let n = fresh c.born e.made new in
      let a = is-alone v other in
      record {
        actor = rw is refl;
        site = rw is same;
        of_kind = refl;
        node = rw is t.0;
        role = rw is t.1;
        other = rw a.other refl;
        first = m.first;
        second = m.second;
        first_new = n.first;
        second_new = n.second;
        differ = n.differ;
        stands = a.stands;
        output = a.output;
        agent = a.agent;
        channel = a.channel;
        operands = refl;
      }

  -- what the row of an atom tells of its names, its output and its operands
  record Row (k : Kind) (a : Atom) (l : Layer) : Type 0 where
    pub form : asks k l ≡ true
    pub made : AreMade (names_wanted k c e) e.made
    pub other : names_output k e.other ≡ true
    pub stands : output_stands (inside c) e ≡ true
    pub output : is_output (inside c) e ≡ true
    pub agent : of_both (inside c) e is_in_agent ≡ true
    pub channel : of_both (inside c) e is_on_channel ≡ true
    pub operands : form_fits c.sites (inside c) e a.env l ≡ true

  acted : (k : Kind) (a : Atom) → by_atom k ≡ true → Acts c e a → Row k a (layer a.proc) → are_new c.born e.made ≡ true → AllHold c e k
  acted kind.Arrive a b acts r new = absurd cc
  acted kind.Land a b acts r new = absurd cc
  acted k a b acts r new =
      let t = and-out _ _ acts.tag in
      let n = fresh c.born e.made new in
      record {
        actor = rw acts.there refl;
        site = rw (acts.there, acts.stands) (same_site e.site);
        of_kind = rw acts.there r.form;
        node = rw acts.there t.0;
        role = rw acts.there t.1;
        other = r.other;
        first = r.made.first;
        second = r.made.second;
        first_new = n.first;
        second_new = n.second;
        differ = n.differ;
        stands = r.stands;
        output = r.output;
        agent = r.agent;
        channel = r.channel;
        operands = rw acts.there r.operands;
      }

  -- a row that makes no name and takes no output, and one that makes one name
  alone-row : (k : Kind) (a : Atom) (l : Layer) (x y : Change) → asks k l ≡ true → (e.other ≡ None → names_output k e.other ≡ true) → (AreMade 0 e.made → AreMade (names_wanted k c e) e.made)
      → form_fits c.sites (inside c) e a.env l ≡ true → alone e y ≡ Some x → Row k a l
  alone-row k a l x y form quiet wanted fit h =
      then (none_made e.made) _ h λ u none h. then (no_other e.other) _ h λ v other h.
      let i = is-alone v other in
      record { form = form; made = wanted (none-are e.made u none); other = quiet i.other; stands = i.stands; output = i.output; agent = i.agent; channel = i.channel; operands = fit }

  lone-row : (k : Kind) (a : Atom) (l : Layer) (v : Unit {0}) → asks k l ≡ true → (e.other ≡ None → names_output k e.other ≡ true) → AreMade (names_wanted k c e) e.made
      → form_fits c.sites (inside c) e a.env l ≡ true → no_other e.other ≡ Some v → Row k a l
  lone-row k a l v form quiet m fit other =
      let i = is-alone v other in
      record { form = form; made = m; other = quiet i.other; stands = i.stands; output = i.output; agent = i.agent; channel = i.channel; operands = fit }

  -- a row that takes an output
  taking-row : (k : Kind) (a : Atom) (l : Layer) (chan : Expr) (pat : Pat) (n o : Name) (v : Value) (env : Env) → Acts c e a → asks k l ≡ true
      → (is_some e.other ≡ true → names_output k e.other ≡ true) → AreMade (names_wanted k c e) e.made → input_channel a ≡ chan_of chan a.env
      → ((is_some (chan_of chan a.env) && taken_fits (inside c) e pat a.env) ≡ true → form_fits c.sites (inside c) e a.env l ≡ true)
      → chan_of chan a.env ≡ Some n → e.other ≡ Some o → offered_in (sight c.sites (inside c) e.site).atom o a.agent n ≡ Some v → bind pat v a.env ≡ Some env → Row k a l
  taking-row k a l chan pat n o v env acts form takes m same fit on names offer binds =
      let s = offered-step c o a.agent n v (sym (same-offer c e a o n (step-acting c e a acts)) ∙ offer) in
      let bound : bind pat s.sent.1 a.env ≡ Some env = ap (λ v. bind pat v a.env) (sym s.is) ∙ binds in
      let agree : is_on_channel a s.mate ≡ true = rw (same, on, sends-on s.mate s.sent s.sends_it) s.agree in
      record {
        form = form;
        made = m;
        other = takes (rw names refl);
        stands = rw (names, s.waits) refl;
        output = rw (names, s.waits) (sends-out (layer s.mate.proc) _ s.sent s.sends_it);
        agent = rw (names, acts.there, s.waits) s.together;
        channel = rw (names, acts.there, s.waits) agree;
        operands = fit (rw (on, names, s.waits, s.sends_it, bound) refl);
      }

  -- a location test
  located : (t : Bool) (a : Atom) (met unmet : Proc) (b n : Name) (v : Value) (x : Change) → cond t (here_row e a met b n v) (away_row e a unmet) ≡ Some x → AreMade (cond t 1 0) e.made
  unfolding here_row away_row
  located true a met unmet b n v x h = then (one_made e.made) _ h λ m one h. one-is e.made m one
  located false a met unmet b n v x h = then (none_made e.made) _ h λ u none h. none-are e.made u none

  held : (k : Kind) (a : Atom) (p : (asked k).Parts) (x : Change) → Acts c e a → layer a.proc ≡ (asked k).form p
      → act k ((asked k).form p) (sight c.sites (inside c) e.site) e a ≡ Some x → Row k a ((asked k).form p)
  unfolding act
  held kind.Arrive a p x acts is h = absurd p
  held kind.Land a p x acts is h = absurd p
  held kind.Stop a p x acts is h = alone-row kind.Stop a ProcForm-F.Stop x _ refl (λ q. rw q refl) (λ m. m) refl h
  held kind.Fork a p x acts is h =
      then (one_made e.made) _ h λ m one h. then (no_other e.other) _ h λ v other h.
      lone-row kind.Fork a (ProcForm-F.Par p.0 p.1) v refl (λ q. rw q refl) (one-is e.made m one) refl other
  held kind.New a p x acts is h =
      then (one_made e.made) _ h λ m one h. then (no_other e.other) _ h λ v other h.
      lone-row kind.New a (ProcForm-F.New p.0 p.1 p.2) v refl (λ q. rw q refl) (one-is e.made m one) refl other
  held kind.Let a p x acts is h =
      then (eval p.1 a.env) _ h λ v says h. then (bind p.0 v a.env) _ h λ env binds h.
      alone-row kind.Let a (ProcForm-F.Let p.0 p.1 p.2) x _ refl (λ q. rw q refl) (λ m. m) (rw (says, binds) refl) h
  held kind.If a p x acts is h =
      then (truth_of p.0 a.env) _ h λ t says h.
      alone-row kind.If a (ProcForm-F.If p.0 p.1 p.2) x _ refl (λ q. rw q refl) (λ m. m) (rw says refl) h
  held kind.Comm a p x acts is h =
      then (chan_of p.0 a.env) _ h λ n on h. then e.other _ h λ o names h. then _ _ h λ v offer h. then (bind p.1 v a.env) _ h λ env binds h. then (none_made e.made) _ h λ u none h.
      taking-row kind.Comm a (ProcForm-F.Inp p.0 p.1 p.2) p.0 p.1 n o v env acts refl (λ t. t) (none-are e.made u none) (rw is refl) (λ f. f) on names offer binds
  held kind.Rep a p x acts is h =
      then (chan_of p.0 a.env) _ h λ n on h. then e.other _ h λ o names h. then _ _ h λ v offer h. then (bind p.1 v a.env) _ h λ env binds h. then (none_made e.made) _ h λ u none h.
      taking-row kind.Rep a (ProcForm-F.Rep p.0 p.1 p.2) p.0 p.1 n o v env acts refl (λ t. t) (none-are e.made u none) (rw is refl) (λ f. f) on names offer binds
  held kind.Agent a p x acts is h =
      then (two_made e.made) _ h λ m two h. then (no_other e.other) _ h λ v other h.
      lone-row kind.Agent a (ProcForm-F.Agent p.0 p.1 p.2) v refl (λ q. rw q refl) (two-are e.made m two) refl other
  held kind.Depart a p x acts is h =
      then (site_in c.sites p.0 a.env) _ h λ t goes h.
      alone-row kind.Depart a (ProcForm-F.Migrate p.0 p.1) x _ refl (λ q. rw q refl) (λ m. m) (rw goes refl) h
  held kind.Local a p x acts is h =
      then (agent_of p.0 a.env) _ h λ b names h. then (chan_of p.1 a.env) _ h λ n on h. then (eval p.2 a.env) _ h λ v says h. then (no_other e.other) _ h λ u other h.
      let asks-for : asked_agent c e ≡ Some b = rw (acts.there, is, names) refl in
      let finds : finds_agent c e ≡ is_at c b e.site = rw asks-for refl in
      let m : AreMade (cond (finds_agent c e) 1 0) e.made = subst (λ t. AreMade (cond t 1 0) e.made) (sym finds) (located (is_at c b e.site) a p.3 p.4 b n v x h) in
      lone-row kind.Local a (ProcForm-F.IfLocal p.0 p.1 p.2 p.3 p.4) u refl (λ q. rw q refl) m (rw (names, on, says) refl) other
  held kind.Send a p x acts is h =
      then (agent_of p.0 a.env) _ h λ b names h. then (site_in c.sites p.1 a.env) _ h λ t goes h. then (chan_of p.2 a.env) _ h λ n on h. then (eval p.3 a.env) _ h λ v says h.
      alone-row kind.Send a (ProcForm-F.Send p.0 p.1 p.2 p.3) x _ refl (λ q. rw q refl) (λ m. m) (rw (goes, names, on, says) refl) h
  held kind.Print a p x acts is h =
      then (eval p a.env) _ h λ v says h.
      alone-row kind.Print a (ProcForm-F.Print p) x _ refl (λ q. rw q refl) (λ m. m) (rw says refl) h
  held kind.Open a p x acts is h =
      then (letter_of p a.env) _ h λ v says h.
      alone-row kind.Open a (ProcForm-F.Open p) x _ refl (λ q. rw q refl) (λ m. m) (rw says refl) h
  held kind.Lookup a p x acts is h =
      then (agent_of p.0 a.env) _ h λ b names h. then (places_of p.1 a.env) _ h λ v says h.
      alone-row kind.Lookup a (ProcForm-F.Lookup p.0 p.1 p.2 p.3 p.4) x _ refl (λ q. rw q refl) (λ m. m) (rw (names, says) refl) h
  held kind.Post a p x acts is h =
      then (agent_of p.0 a.env) _ h λ b names h. then (chan_of p.1 a.env) _ h λ n on h. then (eval p.2 a.env) _ h λ v says h.
      alone-row kind.Post a (ProcForm-F.Post p.0 p.1 p.2) x _ refl (λ q. rw q refl) (λ m. m) (rw (names, on, says) refl) h

  pub all : (k : Kind) (d : Config) → row k c e ≡ Some d → AllHold c e k
  all kind.Arrive d h = let s = row-step c e d kind.Arrive h in arrived s.made s.gives s.new
  all kind.Land d h = let s = row-step c e d kind.Land h in landed s.made s.gives s.new
  all k d h =
      let s = row-step c e d k h in
      then (acting c e) _ s.gives λ a found h.
      parts k (sight c.sites (inside c) e.site) e a h λ p is h.
      let acts = acting-step c e a found in
      acted k a refl acts (subst (Row k a) (sym is) (held k a p s.made acts is h)) s.new
