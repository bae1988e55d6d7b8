-- The rows in the steps in which the code takes them are those of the table.
use Rattle.std.proofs.Common.{◌≡◌, ℕ, Bool, true, false, not, ◌&&◌, cond, Option, None, Some, [], ◌∷◌, is_some, refl, ap, ◌∙◌}
use Rattle.std.specs.FinMap as map
use Rattle.std.specs.FinSet as set
use Rattle.np_configuration.proofs.Common.{Name, Value, Expr, Proc, Event, ◌>>=◌, same_name, Atom, Packet, Config, Env, chan_of, layer, inside, acting, goes, goes_under, output_in, row}
use Rattle.np_syntax.specs.Options.{◌>>◌, need}
use Rattle.np_syntax.specs.declared.event.Kind.{Kind}
use Rattle.np_syntax.specs.declared.event.Kind.TheVariants as kind
use Rattle.np_syntax.specs.declared.event.Made.{Made}
use Rattle.np_syntax.specs.declared.event.Made.TheVariants as made
use Rattle.np_syntax.specs.declared.pattern.Pat.{Pat}
use Rattle.np_syntax.specs.declared.value.Value as value
use Rattle.np_calculus.specs.declared.config.Place.TheVariants as place
use Rattle.np_calculus.specs.Changes.{Change, cut, effect, put, still, with_made}
use Rattle.np_calculus.specs.Reductions.{act, after_change, alone, are_new, away_row, becomes, found_on, here_row, no_other, none_made, offered_in, one_made, two_made}
use Rattle.np_calculus.specs.Seen.{fresh, is_at, offered, site_of}
use Rattle.np_calculus.specs.Sight.{Sight, sight}
use Rattle.np_calculus.proofs.Rows as by
use Rattle.np_calculus.proofs.Steps.{same-offer}
use Rattle.np_eval.specs.Eval.{agent_of, bind, eval, find_place, letter_of, places_of, truth_of}
use Rattle.np_configuration.specs.declared.messages.Local.{Local}
use Rattle.np_configuration.specs.Found.{ended, flown, found_env, spoken, stood}
use Rattle.np_configuration.specs.Rows as to
use Rattle.np_configuration.specs.Views.{bound_to, is_alone, taken_by, two_new}

-- two steps as one, and a step that can come before another
joined : {A B C : Type 0} (o : Option A) (f : A → Option B) (g : B → Option C) → (o >>= λ a. f a >>= g) ≡ ((o >>= f) >>= g)
joined None f g = refl
joined (Some a) f g = refl

swapped : {A B : Type 0} (o : Option A) (f : A → B) (t : Bool) → (o >>= λ a. need t >> Some (f a)) ≡ (need t >> (o >>= λ a. Some (f a)))
swapped None f true = refl
swapped None f false = refl
swapped (Some a) f t = refl

whole : {A : Type 0} (o : Option A) → (o >>= λ a. Some a) ≡ o
whole None = refl
whole (Some a) = refl

-- what was found or not gives the process and its environment
found-goes : (a : Atom) (x : ℕ) (met unmet : Proc) (o : Option Name) → found_on a x met unmet o ≡ goes_under a (cond (is_some o) met unmet) (found_env a.env x o)
found-goes a x met unmet (Some lock) = refl
found-goes a x met unmet None = refl

packed : {A B C : Type 0} (o : Option A) (f : A → B) (g : B → Option C) → (o >>= λ a. g (f a)) ≡ ((o >>= λ a. Some (f a)) >>= g)
packed None f g = refl
packed (Some a) f g = refl

module _ (c : Config) (e : Event) where
  abbrev w : Sight
  w = sight c.sites (inside c) e.site

  -- a change that makes these names
  abbrev makes : Made → Change → Config
  makes m d = record (effect c e d) { born = with_made c.born m }

  -- the table and the code go on alike after the same step
  deeper : {A X : Type 0} (o : Option A) (f : A → Option Change) (g : A → Option X) (k : X → Option Config)
      → ((a : A) → o ≡ Some a → (f a >>= after_change c e) ≡ (g a >>= k)) → ((o >>= f) >>= after_change c e) ≡ ((o >>= g) >>= k)
  deeper None f g k h = refl
  deeper (Some a) f g k h = h a refl

  -- a row by the parts of the form that its kind asks for
  row-is : {X : Type 0} (k : Kind) (more : Config → Event → Atom → (by.asked k).Parts → Option X) (rest : Atom × (by.asked k).Parts × X → Option Config)
      → row k c e ≡ ((acting c e >>= λ a. act k (layer a.proc) w e a) >>= after_change c e)
      → ((a : Atom) (p : (by.asked k).Parts) → acting c e ≡ Some a → (act k ((by.asked k).form p) w e a >>= after_change c e) ≡ (more c e a p >>= λ x. rest (a, p, x)))
      → row k c e ≡ (to.found_by (by.asked k).parts more c e >>= rest)
  row-is k more rest is h =
      is ∙ ap (λ o. o >>= after_change c e) (by.step (acting c e) (acting c e) _ _ refl λ a acts. by.by k (layer a.proc) w e a)
      ∙ deeper (acting c e) _ _ _ λ a acts. deeper ((by.asked k).parts (layer a.proc)) _ _ _ λ p has. h a p acts ∙ packed (more c e a p) (λ x. (a, p, x)) rest

  -- ---- the last step of a row

  module _ {S : Type 0} (after : S → Config) where
    -- no name is made
    unmade : (m : Made) (d : Change) (s : S) → makes made.Nothing d ≡ after s
        → ((none_made m >> Some d) >>= λ d. need (are_new c.born m) >> Some (makes m d)) ≡ ((none_made m >> Some s) >>= λ s. Some (after s))
    unmade made.Nothing d s h = ap Some h
    unmade (made.One n) d s h = refl
    unmade (made.Two m n) d s h = refl

    -- and no output is taken
    lone : (m : Made) (o : Option Name) (d : Change) (s : S) → makes made.Nothing d ≡ after s
        → ((none_made m >> (no_other o >> Some d)) >>= λ d. need (are_new c.born m) >> Some (makes m d))
        ≡ ((need (is_some (none_made m >> no_other o)) >> Some s) >>= λ s. Some (after s))
    lone made.Nothing None d s h = ap Some h
    lone made.Nothing (Some n) d s h = refl
    lone (made.One n) o d s h = refl
    lone (made.Two m n) o d s h = refl

    module _ {X : Type 0} (o : Option X) (D : X → Change) (F : X → S) (h : (x : X) → makes made.Nothing (D x) ≡ after (F x)) where
      alone-after : ((o >>= λ x. alone e (D x)) >>= after_change c e) ≡ ((o >>= λ x. need (is_alone e) >> Some (F x)) >>= λ s. Some (after s))
      alone-after = deeper o _ _ _ λ x is. lone e.made e.other (D x) (F x) (h x)

      alone-before : ((o >>= λ x. alone e (D x)) >>= after_change c e) ≡ ((need (is_alone e) >> (o >>= λ x. Some (F x))) >>= λ s. Some (after s))
      alone-before = alone-after ∙ ap (λ q. q >>= λ s. Some (after s)) (swapped o F (is_alone e))

    -- an input takes an output
    taking : (a : Atom) → acting c e ≡ Some a → (chan : Expr) (pat : Pat) (D : Name → Env → Change) (F : Name → Env → S) → ((o : Name) (env : Env) → makes made.Nothing (D o env) ≡ after (F o env))
        → ((chan_of chan a.env >>= λ n. e.other >>= λ o. offered_in w.atom o a.agent n >>= λ v. bind pat v a.env >>= λ env. none_made e.made >> Some (D o env)) >>= after_change c e)
        ≡ ((chan_of chan a.env >>= λ n. e.other >>= λ o. taken_by c o a n pat >>= λ env. none_made e.made >> Some (F o env)) >>= λ s. Some (after s))
    taking a acts chan pat D F h = deeper (chan_of chan a.env) _ _ _ λ n on. deeper e.other _ _ _ λ o other.
        ap (λ q. (q >>= λ v. bind pat v a.env >>= λ env. none_made e.made >> Some (D o env)) >>= after_change c e) (same-offer c e a o n acts)
        ∙ ap (λ q. q >>= after_change c e) (joined (offered c o a.agent n) (λ v. bind pat v a.env) (λ env. none_made e.made >> Some (D o env)))
        ∙ deeper (taken_by c o a n pat) _ _ _ λ env some. unmade e.made (D o env) (F o env) (h o env)

    -- one name is made, or two are
    one-made : (o : Option Name) (D : Name → Change) (F : Name → S) → ((n : Name) → e.made ≡ made.One n → makes (made.One n) (D n) ≡ after (F n))
        → ((one_made e.made >>= λ n. no_other o >> Some (D n)) >>= after_change c e)
        ≡ (((one_made e.made >>= λ n. no_other o >> (fresh c n >> Some n)) >>= λ n. Some (F n)) >>= λ s. Some (after s))
    one-made o D F h = by_made e.made o refl
      where
        chosen : (t : Bool) (n : Name) → makes (made.One n) (D n) ≡ after (F n) → (need t >> Some (makes (made.One n) (D n))) ≡ (((need t >> Some n) >>= λ n. Some (F n)) >>= λ s. Some (after s))
        chosen true n h = ap Some h
        chosen false n h = refl

        by_made : (m : Made) (o : Option Name) → e.made ≡ m → ((one_made m >>= λ n. no_other o >> Some (D n)) >>= λ d. need (are_new c.born m) >> Some (makes m d))
            ≡ (((one_made m >>= λ n. no_other o >> (need (not (set.contains c.born n)) >> Some n)) >>= λ n. Some (F n)) >>= λ s. Some (after s))
        by_made made.Nothing o is = refl
        by_made (made.One n) None is = chosen (not (set.contains c.born n)) n (h n is)
        by_made (made.One n) (Some q) is = refl
        by_made (made.Two m n) o is = refl

    two-made : (D : Name → Name → Change) (F : Name → Name → S) → ((m n : Name) → makes (made.Two m n) (D m n) ≡ after (F m n))
        → ((two_made e.made >>= λ (m, n). no_other e.other >> Some (D m n)) >>= after_change c e) ≡ ((two_new c e >>= λ (m, n). Some (F m n)) >>= λ s. Some (after s))
    two-made D F h = by_made e.made e.other
      where
        chosen : (r s t : Bool) (m n : Name) → (need (r && (s && t)) >> Some (makes (made.Two m n) (D m n)))
            ≡ (((need r >> (need s >> (need t >> Some (m, n)))) >>= λ (m, n). Some (F m n)) >>= λ s. Some (after s))
        chosen true true true m n = ap Some (h m n)
        chosen true true false m n = refl
        chosen true false t m n = refl
        chosen false s t m n = refl

        by_made : (x : Made) (o : Option Name) → ((two_made x >>= λ (m, n). no_other o >> Some (D m n)) >>= λ d. need (are_new c.born x) >> Some (makes x d))
            ≡ (((two_made x >>= λ (m, n). no_other o >> (need (not (same_name m n)) >> (need (not (set.contains c.born m)) >> (need (not (set.contains c.born n)) >> Some (m, n))))) >>= λ (m, n). Some (F m n)) >>= λ s. Some (after s))
        by_made made.Nothing o = refl
        by_made (made.One n) o = refl
        by_made (made.Two m n) None = chosen (not (same_name m n)) (not (set.contains c.born m)) (not (set.contains c.born n)) m n
        by_made (made.Two m n) (Some q) = refl

  abbrev ends : Change
  ends = record still { atoms = cut e.actor ∷ [] }

  -- the two ways of a location test
  abbrev asked : Atom → Proc → Proc → Name → Name → Value → Bool → Bool → Local
  asked a met unmet b n v here t = record { agent = b; chan = n; value = v; here = here; next = goes a (cond t met unmet) }

  ways : (a : Atom) (met unmet : Proc) (b n : Name) (v : Value) (here t : Bool) → (cond t (here_row e a met b n v) (away_row e a unmet) >>= after_change c e)
      ≡ cond t (to.here_way c e (asked a met unmet b n v here t)) (to.away_way c e (asked a met unmet b n v here t))
  unfolding here_row away_row
  ways a met unmet b n v here true =
      one-made (λ d. d) None (λ m. record still { atoms = put m (output_in b n v e.tag) ∷ put e.actor (goes a met) ∷ [] })
      (λ m. to.forked c e (record { mark = m; comes = output_in b n v e.tag; stays = goes a met })) (λ m is. refl) ∙ whole _
  ways a met unmet b n v here false = unmade (λ d. d) e.made (becomes e (goes a unmet)) (stood c e.actor (goes a unmet)) refl ∙ whole _

  -- each row is that of the table
  pub rows-are : (k : Kind) → row k c e ≡ to.row_of k c e
  unfolding act
  rows-are kind.Stop = row-is kind.Stop to.stop_more _ refl λ a p acts. alone-before (λ u. ended c e.actor) (Some (tt {0})) (λ u. ends) (λ u. tt) (λ u. refl)
  rows-are kind.Print = row-is kind.Print to.print_more _ refl λ a x acts. alone-before (spoken c e.actor e.site) (eval x a.env) (λ v. record ends { said = Some v }) (λ v. v) (λ v. refl)
  rows-are kind.Send = row-is kind.Send to.send_more _ refl λ a p acts.
      deeper (agent_of p.0 a.env) _ _ _ λ b names. deeper (site_of c p.1 a.env) _ _ _ λ t at. deeper (chan_of p.2 a.env) _ _ _ λ n on.
      let packet : Value → Packet = λ v. record { to = t; agent = b; chan = n; value = v; tag = e.tag } in
      alone-before (flown c e.actor) (eval p.3 a.env) (λ v. record ends { packets = put e.actor (packet v) ∷ [] }) packet (λ v. refl)
  rows-are kind.Let = row-is kind.Let to.let_more _ refl λ a p acts.
      ap (λ q. q >>= after_change c e) (joined (eval p.1 a.env) (λ v. bind p.0 v a.env) (λ env. alone e (becomes e (goes_under a p.2 env))))
      ∙ alone-after (stood c e.actor) (bound_to p.0 p.1 a.env) (λ env. becomes e (goes_under a p.2 env)) (λ env. goes_under a p.2 env) (λ env. refl)
  rows-are kind.If = row-is kind.If to.if_more _ refl λ a p acts.
      alone-after (stood c e.actor) (truth_of p.0 a.env) (λ t. becomes e (goes a (cond t p.1 p.2))) (λ t. goes a (cond t p.1 p.2)) (λ t. refl)
  rows-are kind.Depart = row-is kind.Depart to.depart_more _ refl λ a p acts.
      alone-after (to.departed c e) (site_of c p.0 a.env) (λ t. record (becomes e (goes a p.1)) { places = put a.agent (place.Way t) ∷ [] })
      (λ t. record { to = t; atom = goes a p.1 }) (λ t. refl)
  rows-are kind.Lookup = row-is kind.Lookup to.lookup_more _ refl λ a p acts. deeper (agent_of p.0 a.env) _ _ _ λ b names.
      alone-after (stood c e.actor) (places_of p.1 a.env) (λ places. becomes e (found_on a p.2 p.3 p.4 (find_place places b))) (λ places. to.lookup_by a p.2 p.3 p.4 (find_place places b))
      (λ places. ap (λ (y : Atom). record c { atoms = map.insert c.atoms e.actor y }) (found-goes a p.2 p.3 p.4 (find_place places b)))
  rows-are kind.Open = row-is kind.Open to.open_more _ refl λ a x acts.
      alone-before (stood c e.actor) (letter_of x a.env) (λ l. becomes e (output_in a.agent l.0 l.1 e.tag)) (λ l. output_in a.agent l.0 l.1 e.tag) (λ l. refl)
  rows-are kind.Post = row-is kind.Post to.post_more _ refl λ a p acts. deeper (agent_of p.0 a.env) _ _ _ λ b names. deeper (chan_of p.1 a.env) _ _ _ λ n on.
      alone-before (stood c e.actor) (eval p.2 a.env) (λ v. becomes e (output_in b n v e.tag)) (λ v. output_in b n v e.tag) (λ v. refl)
  rows-are kind.Comm = row-is kind.Comm to.comm_more _ refl λ a p acts.
      taking _ a acts p.0 p.1 (λ o env. record still { atoms = put e.actor (goes_under a p.2 env) ∷ cut o ∷ [] }) (λ o env. (o, goes_under a p.2 env)) (λ o env. refl)
  rows-are kind.Rep = row-is kind.Rep to.rep_more _ refl λ a p acts.
      taking _ a acts p.0 p.1 (λ o env. record still { atoms = put o (goes_under a p.2 env) ∷ [] }) (λ o env. (o, goes_under a p.2 env)) (λ o env. refl)
  rows-are kind.New = row-is kind.New to.new_more _ refl λ a p acts.
      let env : Name → Env = λ n. map.insert a.env p.0 (value.Chan n) in
      one-made _ e.other (λ n. becomes e (goes_under a p.2 (env n))) (λ n. goes_under a p.2 (env n)) (λ n is. rw is refl)
  rows-are kind.Fork = row-is kind.Fork to.fork_more _ refl λ a p acts.
      one-made _ e.other (λ m. record still { atoms = put m (goes a p.1) ∷ put e.actor (goes a p.0) ∷ [] })
      (λ m. record { mark = m; comes = goes a p.1; stays = goes a p.0 }) (λ m is. refl)
  rows-are kind.Agent = row-is kind.Agent to.agent_more _ refl λ a p acts.
      let env : Name → Env = λ b. map.insert a.env p.0 (value.Agent b) in
      two-made _ (λ b m. record still {
        places = put b (place.At e.site) ∷ [];
        atoms = put m (record { agent = b; proc = p.1; env = env b }) ∷ put e.actor (goes_under a p.2 (env b)) ∷ [];
      }) (λ b m. to.agent_by a p.1 p.2 b m (env b)) (λ b m. refl)
  rows-are kind.Local = row-is kind.Local to.local_more _ refl λ a p acts.
      deeper (agent_of p.0 a.env) _ _ _ λ b names. deeper (chan_of p.1 a.env) _ _ _ λ n on. deeper (eval p.2 a.env) _ _ _ λ v gives. deeper (no_other e.other) _ _ _ λ u lone.
      ways a p.3 p.4 b n v (is_at c b e.site) (is_at c b e.site)
  rows-are kind.Arrive = refl
  rows-are kind.Land = refl
