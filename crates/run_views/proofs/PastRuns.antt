-- The past of a Print is a run that says just its value.
use Rattle.std.proofs.Common.{◌≡◌, ◌<◌, ◌≤◌, ◌+◌, ⊎_elim, ℕ, zero, suc, Bool, true, false, not, cond, ◌&&◌, nat_eq, nat_le, List, [], ◌∷◌, ◌++◌, take, is_some, Option, None, Some, refl, ap, ap₂, sym, subst, ◌-◌, ◌∙◌, arith}
use Rattle.std.proofs.lemmas.Bool.{eqb-true, eq-eqb, leb-true, le-leb}
use Rattle.np_calculus.proofs.Common.{Value, Event, Kind, ◌>>=◌, then, done, Config, Contents, inside, effect, change, apply}
use Rattle.np_syntax.specs.declared.event.Kind.TheVariants as kind
use Rattle.np_calculus.specs.Changes.{with_said}
use Rattle.np_calculus.specs.Footprints.{listed}
use Rattle.np_calculus.specs.Parts.{AreBorn}
use Rattle.np_calculus.specs.Reductions.{run}
use Rattle.np_calculus.specs.Starts.{start_low}
use Rattle.np_calculus.proofs.OwnNames.{not_true}
use Rattle.np_calculus.proofs.Steps.{RowStep, row-step}
use Rattle.run_views.specs.Laws.{HasSingleMarks, LowPastIsRun, PastIsRun, PrintSays, Says, SaysJust}
use Rattle.run_views.specs.Past.{HasCauses, IsCause, IsPast, Thing, Trace, each_of, is_among, is_in, is_print, is_touched, made_names}
use Rattle.run_views.specs.Past.{picked, trace, trace_at, traces, writes}
use Rattle.run_views.proofs.Among.{Same, among-cases}
use Rattle.np_syntax.proofs.Bools.{and-out}
use Rattle.run_views.proofs.Following.{Agreed, and-in, false-true, follows, goes_on, passes}
use Rattle.run_views.proofs.Gone.{gone-along, printed-gone, single-kept}
use Rattle.run_views.proofs.StartBorn.{low-born, low-silent, low-single}
use Rattle.run_views.proofs.Traced.{PrintCuts, print-cuts, traced}

-- ---- lists

no-longer : {X : Type 0} (xs : List X) (x : X) → xs ≡ xs ++ x ∷ [] → ⊥
no-longer [] x h = cc
no-longer (y ∷ ys) x h = no-longer ys x cc

last-same : {X : Type 0} (xs : List X) (x y : X) → xs ++ x ∷ [] ≡ xs ++ y ∷ [] → x ≡ y
last-same [] x y h = cc
last-same (z ∷ zs) x y h = last-same zs x y cc

-- what an event says is the same, whatever was said before
same-saying : (xs ys : List (ℕ × Value)) (site : ℕ) (o : Option Value) (item : ℕ × Value) → with_said xs site o ≡ xs ++ item ∷ []
    → with_said ys site o ≡ ys ++ item ∷ []
same-saying xs ys site None item h = absurd (no-longer xs item h)
same-saying xs ys site (Some v) item h = ap (λ i. ys ++ i ∷ []) (last-same xs (site, v) item h)

silent : (ys : List (ℕ × Value)) (site : ℕ) (o : Option Value) → is_some o ≡ false → with_said ys site o ≡ ys
silent ys site None h = refl
silent ys site (Some v) h = absurd cc

-- no place from j on is in the set: nothing is picked
none-picked : {X : Type 0} (places : ℕ → Bool) (j : ℕ) (xs : List X) → ((k : ℕ) → j ≤ k → places k ≡ false) → picked places j xs ≡ []
none-picked places j [] far = refl
none-picked places j (x ∷ xs) far = rw (far j (omega arith)) (none-picked places (suc j) xs (λ k less. far k (omega arith)))

-- ---- the places of a past

module _ (ts : List Trace) (i : ℕ) (places : ℕ → Bool) (past : IsPast ts i places) where
  -- a past has no place behind its own
  not-behind : (k : ℕ) → i < k → places k ≡ false
  not-behind k less = at (places k) refl
    where
      others : ℕ → Bool
      others k = places k && nat_le k i

      closed : HasCauses ts i others
      closed = record {
        has = and-in (places i) (nat_le i i) past.closed.has (le-leb i i (omega arith));
        causes = λ j k has cause.
            let h = and-out (places j) (nat_le j i) has in
            let low : k < j = cause.last.before in
            let high : j ≤ i = leb-true j i h.1 in
            and-in (places k) (nat_le k i) (past.closed.causes j k h.0 cause) (le-leb k i (omega arith));
      }

      at : (b : Bool) → places k ≡ b → places k ≡ false
      at false is = is
      at true is =
          let h = and-out (places k) (nat_le k i) (past.least others closed k is) in
          let low : k ≤ i = leb-true k i h.1 in
          absurd (omega arith)

  -- a place of a past is its own, or a cause of another
  not-useless : (j : ℕ) → places j ≡ true → (j ≡ i → ⊥) → ((m : ℕ) → places m ≡ true → IsCause ts j m → ⊥) → ⊥
  not-useless j has apart none =
      let others : ℕ → Bool = λ k. places k && not (nat_eq k j) in
      let h = and-out (places j) (not (nat_eq j j)) (past.least others (record {
        has = and-in (places i) (not (nat_eq i j)) past.closed.has (differs i j (λ is. apart (sym is)));
        causes = λ m k in_others cause.
            let h = and-out (places m) (not (nat_eq m j)) in_others in
            and-in (places k) (not (nat_eq k j)) (past.closed.causes m k h.0 cause) (differs k j (λ is. none m h.0 (subst (λ k. IsCause ts k m) is cause)));
      }) j has) in
      same-not j h.1
    where
      differs : (a b : ℕ) → (a ≡ b → ⊥) → not (nat_eq a b) ≡ true
      differs a b h = ap not (not_true (nat_eq a b) (λ t. h (eqb-true a b t)))

      same-not : (j : ℕ) → not (nat_eq j j) ≡ true → ⊥
      same-not j h = let t : nat_eq j j ≡ true = eq-eqb j j refl in let k = ap not t in cc

  -- the traces from place j on are those of the run from here on
  abbrev Stands : ℕ → Config → List Event → Type 0
  Stands j c es = (n : ℕ) → trace_at ts (j + n) ≡ trace_at (traces c es) n

  here : (j : ℕ) (c : Config) (e : Event) (es : List Event) → Stands j c (e ∷ es) → trace_at ts j ≡ trace (inside c) e
  here j c e es stands = let same : j ≡ j + 0 = omega arith in ap (trace_at ts) same ∙ stands 0

  later : (j : ℕ) (c next : Config) (e : Event) (es : List Event) → Stands j c (e ∷ es) → apply c e ≡ Some next → Stands (suc j) next es
  later j c next e es stands h n =
      let same : suc j + n ≡ j + suc n = omega arith in
      ap (trace_at ts) same ∙ stands (suc n) ∙ ap (λ o. trace_at (each_of o (λ d. traces d es)) n) h

  -- a Print before the past's own place is not in it
  module _ (j : ℕ) (c next last : Config) (e : Event) (es : List Event) (stands : Stands j c (e ∷ es)) (born : AreBorn c) (single : HasSingleMarks c)
      (h : apply c e ≡ Some next) (rest : run next es ≡ Some last) where
    print-writes : (k : Kind) → k ≡ kind.Print → e.other ≡ None → made_names e.made ≡ [] → (t : Thing) → is_in t (writes k (inside c) e) ≡ true
        → t ≡ Thing.mark e.actor
    print-writes k is none made (Thing.mark q) w =
        let w : is_among q (e.actor ∷ (listed e.other ++ made_names e.made)) ≡ true = subst (λ k. is_in (Thing.mark q) (writes k (inside c) e) ≡ true) is w in
        let w : is_among q (e.actor ∷ []) ≡ true = rw (none, made) at w in
        ⊎_elim (λ same. ap Thing.mark same) (λ (no : false ≡ true). absurd cc) (among-cases q e.actor [] w)
    print-writes k is none made (Thing.place q) w = let w : false ≡ true = subst (λ k. is_in (Thing.place q) (writes k (inside c) e) ≡ true) is w in absurd cc

    untouched : e.kind ≡ kind.Print → (n : ℕ) → is_touched ts (suc j + n) (Thing.mark e.actor) ≡ false
    untouched is n = ap (λ r. is_in (Thing.mark e.actor) r.touched) (later j c next e es stands h n) ∙ gone-along e.actor es next last (printed-gone c next e h born single is) rest n

    no-print : j < i → places j ≡ true → e.kind ≡ kind.Print → ⊥
    no-print less has is = not-useless j has (λ same. absurd (omega arith)) λ m in_past cause.
        let s = row-step c e next e.kind h in
        let p : PrintCuts (inside c) e s.made = print-cuts c.sites (inside c) e s.made (subst (λ k. change k c.sites (inside c) e ≡ Some s.made) is s.gives) in
        let low : j < m = cause.last.before in
        let at : m ≡ suc j + (m - suc j) = omega arith in
        let same : cause.thing ≡ Thing.mark e.actor = print-writes e.kind is p.other p.made cause.thing (sym (ap (λ r. is_in cause.thing r.written) (here j c e es stands)) ∙ cause.last.writes) in
        let t : is_touched ts m (Thing.mark e.actor) ≡ true = subst (λ t. is_touched ts m t ≡ true) same cause.touched in
        false-true _ t (ap (λ m. is_touched ts m (Thing.mark e.actor)) at ∙ untouched is (m - suc j))

  quiet-kind : (k : Kind) → (k ≡ kind.Print → ⊥) → is_print k ≡ false
  quiet-kind kind.Print h = absurd (h refl)
  quiet-kind _ h = refl

  -- what a Print of the later run says, from its first event on
  says-later : (c next : Config) (e : Event) (es : List Event) (n : ℕ) (item : ℕ × Value) → apply c e ≡ Some next → Says c (e ∷ es) (suc n) item
      → Says next es n item
  says-later c next e es n item h s = record {
    before = s.before;
    comes = sym (ap (λ o. o >>= λ d. run d (take n es)) h) ∙ s.comes;
    event = s.event;
    is = s.is;
    prints = s.prints;
    after = s.after;
    applies = s.applies;
    says = s.says;
  }

  -- from place j on, n places before the past's own
  follow : (n j : ℕ) (es : List Event) (x y last : Config) (item : ℕ × Value) → j + n ≡ i → Stands j x es → Agreed ts places j x y → HasSingleMarks x
      → run x es ≡ Some last → Says x es n item → SaysJust y (picked places j es) item
  follow zero j [] x y last item at stands a single h s = absurd (let e : None ≡ Some s.event = s.is in cc)
  follow zero j (e ∷ es) x y last item at stands a single h s =
      then (apply x e) _ h λ next first h.
      let same_event : e ≡ s.event = (let k : Some e ≡ Some s.event = s.is in cc) in
      let same_before : x ≡ s.before = (let k : Some x ≡ Some s.before = s.comes in cc) in
      let has : places j ≡ true = subst (λ k. places k ≡ true) (sym (let k : j ≡ i = omega arith in k)) past.closed.has in
      let r : RowStep x e next e.kind = row-step x e next e.kind first in
      let said : with_said x.said e.site r.made.said ≡ x.said ++ item ∷ [] =
      ap (λ (c : Config). c.said) (sym r.is) ∙ ap (λ (c : Config). c.said) (sym (done (sym (ap₂ apply (sym same_before) (sym same_event) ∙ first) ∙ s.applies))) ∙ s.says ∙ ap (λ (c : Config). c.said ++ item ∷ []) (sym same_before) in
      rw (has, none-picked places (suc j) es (λ k less. not-behind k (omega arith))) (record {
        last = effect y e r.made;
        runs = rw (follows ts places j e x y next (here j x e es stands) a first has past.closed.causes) refl;
        said = same-saying x.said y.said e.site r.made.said item said;
      })
  follow (suc n) j [] x y last item at stands a single h s = absurd (let e : None ≡ Some s.event = s.is in cc)
  follow (suc n) j (e ∷ es) x y last item at stands a single h s =
      then (apply x e) _ h λ next first h.
      let up : suc j + n ≡ i = omega arith in
      let on = later j x next e es stands first in
      let alone = single-kept x next e first a.born_first single in
      let s' = says-later x next e es n item first s in
      let r : RowStep x e next e.kind = row-step x e next e.kind first in
      step (places j) refl
      (λ none. follow n (suc j) es next y last item up on (passes ts places j e x y next (here j x e es stands) a first none) alone h s')
      (λ has.
      let less : j < i = omega arith in
      let quiet : is_some r.made.said ≡ false = (traced x.sites (inside x) e r.made e.kind r.gives).says ∙ quiet-kind e.kind (no-print j x next last e es stands a.born_first single first h less has) in
      let f = follow n (suc j) es next (effect y e r.made) last item up on (goes_on ts places j e x y next (here j x e es stands) a first has past.closed.causes) alone h s' in
      record {
        last = f.last;
        runs = rw (follows ts places j e x y next (here j x e es stands) a first has past.closed.causes) f.runs;
        said = f.said ∙ ap (λ z. z ++ item ∷ []) (silent y.said e.site r.made.said quiet);
      })
    where
      step : (b : Bool) → places j ≡ b → (places j ≡ false → SaysJust y (picked places (suc j) es) item)
          → (places j ≡ true → SaysJust y (e ∷ picked places (suc j) es) item)
          → SaysJust y (cond (places j) (e ∷ picked places (suc j) es) (picked places (suc j) es)) item
      step true is f g = rw is (g is)
      step false is f g = rw is (f is)

past-of : (c last : Config) (events : List Event) (places : ℕ → Bool) (i : ℕ) (item : ℕ × Value) → AreBorn c → HasSingleMarks c → run c events ≡ Some last
    → Says c events i item
    → IsPast (traces c events) i places → SaysJust c (picked places 0 events) item
past-of c last events places i item born single h says past =
    follow (traces c events) i places past i 0 events c c last item (omega arith) (λ n. ap (trace_at (traces c events)) (omega arith)) (record {
      sites = refl;
      born_first = born;
      born_second = born;
      fewer = λ q is. is;
      agree = λ t clean. itself (inside c) t;
    }) single h says
  where
    itself : (x : Contents) (t : Thing) → Same x x t
    itself x (Thing.mark q) = record { atom = refl; packet = refl }
    itself x (Thing.place q) = record { place = refl }

pub past-is-run : PastIsRun
past-is-run c last events past i item born single h says is = subst (λ es. SaysJust c es item) (sym is.answer) (past-of c last events is.places i item born single h says is.is)

pub low-past-is-run : LowPastIsRun
low-past-is-run low last events past i item h says is =
    let s = past-is-run (start_low low) last events past i item (low-born low) (low-single low) h says is in
    (s.last, s.runs, s.said ∙ ap (λ xs. xs ++ item ∷ []) (low-silent low))

some-value : (o : Option Value) → is_some o ≡ true → (v : Value) × (o ≡ Some v)
some-value None h = absurd cc
some-value (Some v) h = (v, refl)

pub print-says : PrintSays
print-says c last [] i e h is prints = absurd (let k : None ≡ Some e = is in cc)
print-says c last (f ∷ es) zero e h is prints = then (apply c f) _ h λ next first h.
    let same : f ≡ e = (let k : Some f ≡ Some e = is in cc) in
    let r : RowStep c f next f.kind = row-step c f next f.kind first in
    let v = some-value r.made.said ((traced c.sites (inside c) f r.made f.kind r.gives).says ∙ ap is_print (ap (λ (e : Event). e.kind) same ∙ prints)) in (
      (f.site, v.0),
      record {
        before = c;
        comes = refl;
        event = e;
        is = is;
        prints = prints;
        after = next;
        applies = subst (λ e. apply c e ≡ Some next) same first;
        says = ap (λ (d : Config). d.said) r.is ∙ ap (with_said c.said f.site) v.1;
      },
    )
print-says c last (f ∷ es) (suc i) e h is prints = then (apply c f) _ h λ next first h.
    let s = print-says next last es i e h is prints in (
      s.0,
      record {
        before = s.1.before;
        comes = ap (λ o. o >>= λ d. run d (take i es)) first ∙ s.1.comes;
        event = s.1.event;
        is = s.1.is;
        prints = s.1.prints;
        after = s.1.after;
        applies = s.1.applies;
        says = s.1.says;
      },
    )
