-- A configuration that agrees with one of a run on all that a set of places has, and goes on by the events of these places.
use Rattle.std.proofs.Common.{◌≡◌, ◌<◌, ◌⊎◌, inl, inr, ⊎_elim, ℕ, suc, Bool, true, false, not, ◌&&◌, ◌||◌, nat_lt, List, [], ◌∷◌, Option, None, Some, refl, ap, sym, subst, ◌∙◌, arith}
use Rattle.std.proofs.lemmas.Bool.{ltb-true, ltb-false, or_right}
use Rattle.std.specs.FinSet as set
use Rattle.np_calculus.proofs.Common.{Name, Event, Kind, Made, NameSet, same_name, Config, Contents, inside, Change, Write, effect}
use Rattle.np_calculus.proofs.Common.{are_new, change, row, apply}
use Rattle.np_syntax.specs.declared.event.Kind.TheVariants as kind
use Rattle.np_syntax.specs.declared.event.Made.TheVariants as made
use Rattle.np_calculus.specs.declared.config.Atom.{Atom}
use Rattle.np_tables.proofs.Tables.{born_insert}
use Rattle.np_calculus.specs.Changes.{with_made}
use Rattle.np_calculus.specs.Footprints.{asked_by, listed, touches}
use Rattle.np_calculus.specs.FrameRule.{Every, IsMade, changed, left_by}
use Rattle.np_calculus.specs.Parts.{AreBorn, LacksMark}
use Rattle.np_calculus.proofs.FrameRule.{lacks, made-unborn, not-false, still-born}
use Rattle.np_calculus.proofs.OwnNames.{not_true}
use Rattle.np_calculus.proofs.Steps.{RowStep, row-step}
use Rattle.np_calculus.proofs.Touches.{depends_on_touched}
use Rattle.np_calculus.proofs.Writes.{every-map, inside-effect, left-by}
use Rattle.run_views.specs.Past.{IsCause, IsLast, Thing, Trace, agent_of_atom, is_among, is_in, is_written}
use Rattle.run_views.specs.Past.{later_names, made_agent, made_names, names_of, trace, trace_at, writes}
use Rattle.run_views.proofs.Among.{Same, agrees-on, among-cases, among-either, among-first}
use Rattle.np_calculus.proofs.BornKept.{born-kept}
use Rattle.np_syntax.proofs.Bools.{and-out}
use Rattle.np_syntax.proofs.Options.{none_of}
use Rattle.run_views.proofs.Traced.{Traced, land-alone, traced}

pub false-true : {R : Type 0} (b : Bool) → b ≡ true → b ≡ false → R
false-true true h k = absurd cc
false-true false h k = absurd cc

-- ---- what a change leaves

insert-below : (a b : NameSet) (m : Name) → ((q : Name) → set.contains a q ≡ true → set.contains b q ≡ true) → (q : Name)
    → set.contains (set.insert a m) q ≡ true → set.contains (set.insert b m) q ≡ true
insert-below a b m sub q h = pick (same_name q m) (set.contains a q) (set.contains b q) (sym (born_insert a m q) ∙ h) (sub q) (born_insert b m q)
  where
    pick : (s p r : Bool) → (s || p) ≡ true → (p ≡ true → r ≡ true) → {o : Bool} → o ≡ (s || r) → o ≡ true
    pick true p r h f is = is
    pick false p r h f is = is ∙ f h

pub below-suc : (m j : ℕ) → m < suc j → (m < j) ⊎ (m ≡ j)
below-suc m j h = pick (nat_lt m j) refl
  where
    pick : (b : Bool) → nat_lt m j ≡ b → (m < j) ⊎ (m ≡ j)
    pick true is = inl (ltb-true m j is)
    pick false is = inr (let k = ltb-false m j is in omega arith)

-- what is not written stays
unwritten : {X : Type 0} (ws : List (Write X)) (ks : List Name) (q : Name) (o : Option X) → Every (λ w. is_among w.0 ks ≡ true) ws → is_among q ks ≡ false
    → left_by ws q o ≡ o
unwritten {X} ws ks q o h far = left-by (λ v. v ≡ o) ws q o refl (every-map (λ (w : Write X). is_among w.0 ks ≡ true) (λ w. q ≡ w.0 → w.1 ≡ o) (λ w is same. false-true (is_among q ks) (ap (λ n. is_among n ks) same ∙ is) far) ws h)

thing-stays : (k : Kind) (x : Contents) (e : Event) (d : Change) → Traced k x e d → (t : Thing) → is_in t (writes k x e) ≡ false → Same x (changed x d) t
thing-stays k x e d tr (Thing.mark q) far = record {
  atom = sym (unwritten d.atoms (writes k x e).marks q (x.atom q) tr.own.atoms far);
  packet = sym (unwritten d.packets (writes k x e).marks q (x.packet q) tr.own.packets far);
}
thing-stays k x e d tr (Thing.place q) far = record { place = sym (unwritten d.places (writes k x e).places q (x.place q) tr.own.places far) }

-- two configurations in which the same stands are changed to two in which the same stands
thing-changed : (x y : Contents) (d : Change) (t : Thing) → Same x y t → Same (changed x d) (changed y d) t
thing-changed x y d (Thing.mark q) s = record { atom = ap (left_by d.atoms q) s.atom; packet = ap (left_by d.packets q) s.packet }
thing-changed x y d (Thing.place q) s = record { place = ap (left_by d.places q) s.place }

same-over : (x y z : Contents) (t : Thing) → Same x y t → Same y z t → Same x z t
same-over x y z (Thing.mark q) s r = record { atom = s.atom ∙ r.atom; packet = s.packet ∙ r.packet }
same-over x y z (Thing.place q) s r = record { place = s.place ∙ r.place }

same-back : (x y : Contents) (t : Thing) → Same x y t → Same y x t
same-back x y (Thing.mark q) s = record { atom = sym s.atom; packet = sym s.packet }
same-back x y (Thing.place q) s = record { place = sym s.place }

-- ---- what an event writes is what it touches or what it makes

makes : (x : Made) (q : Name) → is_among q (made_names x) ≡ true → IsMade x q
makes made.Nothing q h = absurd cc
makes (made.One m) q h = ⊎_elim (λ is. is) (λ (no : false ≡ true). absurd cc) (among-cases q m [] h)
makes (made.Two m n) q h = ⊎_elim (λ is. inl is) (λ h. ⊎_elim (λ is. inr is) (λ (no : false ≡ true). absurd cc) (among-cases q n [] h)) (among-cases q m (n ∷ []) h)

makes-agent : (x : Made) (q : Name) → is_among q (made_agent x) ≡ true → IsMade x q
makes-agent made.Nothing q h = absurd cc
makes-agent (made.One m) q h = absurd cc
makes-agent (made.Two m n) q h = ⊎_elim (λ is. inl is) (λ (no : false ≡ true). absurd cc) (among-cases q m [] h)

-- the thing is a name that the event makes
abbrev MadeThing : Event → Thing → Type 0
MadeThing e (Thing.mark q) = IsMade e.made q
MadeThing e (Thing.place q) = IsMade e.made q

module _ (sites : ℕ) (x : Contents) (e : Event) (d : Change) where
  abbrev Known : Kind → Thing → Type 0
  Known k t = (is_in t (touches k x e) ≡ true) ⊎ MadeThing e t

  abbrev KnownMark : List Name → Name → Type 0
  KnownMark ks q = (is_among q ks ≡ true) ⊎ IsMade e.made q

  later-known : (q : Name) → is_among q (later_names e) ≡ true → KnownMark (listed e.other) q
  later-known q h = ⊎_elim (λ o. inl o) (λ m. inr (makes e.made q m)) (among-either q (listed e.other) _ h)

  mark-known : (q : Name) → is_among q (names_of e) ≡ true → KnownMark (e.actor ∷ listed e.other) q
  mark-known q h = ⊎_elim
      (λ is. inl (subst (λ n. is_among n (e.actor ∷ listed e.other) ≡ true) (sym is) (among-first e.actor _)))
      (λ l. ⊎_elim (λ o. inl (or_right (same_name q e.actor) _ o)) (λ m. inr m) (later-known q l))
      (among-cases q e.actor _ h)

  -- the agent of the acting atom is touched
  home-known : (q : Name) (o : Option Atom) → is_among q (agent_of_atom o) ≡ true → is_among q (asked_by o) ≡ true
  home-known q None h = absurd cc
  home-known q (Some a) h = ⊎_elim (λ is. subst (λ n. is_among n (asked_by (Some a)) ≡ true) (sym is) (among-first a.agent _)) (λ (no : false ≡ true). absurd cc) (among-cases q a.agent [] h)

  land-known : (q : Name) → e.other ≡ None → is_among q (names_of e) ≡ true → KnownMark (e.actor ∷ []) q
  land-known q none h = subst (λ o. KnownMark (e.actor ∷ listed o) q) none (mark-known q h)

  known : (k : Kind) (t : Thing) → change k sites x e ≡ Some d → is_in t (writes k x e) ≡ true → Known k t
  known kind.Arrive (Thing.mark q) row h = absurd cc
  known kind.Arrive (Thing.place q) row h = inl h
  known kind.Rep (Thing.mark q) row h = mark-known q (or_right (same_name q e.actor) _ h)
  known kind.Rep (Thing.place q) row h = absurd cc
  known kind.Agent (Thing.mark q) row h = mark-known q h
  known kind.Agent (Thing.place q) row h = inr (makes-agent e.made q h)
  known kind.Depart (Thing.mark q) row h = mark-known q h
  known kind.Depart (Thing.place q) row h = inl (home-known q (x.atom e.actor) h)
  known kind.Land (Thing.mark q) row h = land-known q (land-alone sites x e d row) h
  known kind.Land (Thing.place q) row h = absurd cc
  known k (Thing.mark q) row h = mark-known q h
  known k (Thing.place q) row h = absurd cc

-- ---- two configurations that agree on what the past has

-- none of the two has a name that is made now
made-same : (x y : Config) (e : Event) → AreBorn x → AreBorn y → are_new x.born e.made ≡ true → are_new y.born e.made ≡ true → (t : Thing) → MadeThing e t
    → Same (inside x) (inside y) t
made-same x y e bx by nx ny (Thing.mark q) is = record { atom = p.atom ∙ sym r.atom; packet = p.packet ∙ sym r.packet }
  where
    p : LacksMark (inside x) q
    p = lacks (inside x) q (λ h. false-true _ (bx.marks q h) (made-unborn x.born e.made q nx is))

    r : LacksMark (inside y) q
    r = lacks (inside y) q (λ h. false-true _ (by.marks q h) (made-unborn y.born e.made q ny is))
made-same x y e bx by nx ny (Thing.place q) is = record { place = p ∙ sym r }
  where
    p : (inside x).place q ≡ None
    p = none_of ((inside x).place q) (λ h. false-true _ (bx.agents q h) (made-unborn x.born e.made q nx is))

    r : (inside y).place q ≡ None
    r = none_of ((inside y).place q) (λ h. false-true _ (by.agents q h) (made-unborn y.born e.made q ny is))

-- what is born in the one is born in the other
abbrev pub Sub : NameSet → NameSet → Type 0
Sub a b = (q : Name) → set.contains a q ≡ true → set.contains b q ≡ true

not-born : (a b : NameSet) (q : Name) → Sub a b → not (set.contains b q) ≡ true → not (set.contains a q) ≡ true
not-born a b q sub h = ap not (not_true (set.contains a q) (λ t. false-true _ (sub q t) (not-false (set.contains b q) h)))

pub and-in : (a b : Bool) → a ≡ true → b ≡ true → (a && b) ≡ true
and-in true b h k = k
and-in false b h k = absurd cc

new-below : (a b : NameSet) (m : Made) → Sub a b → are_new b m ≡ true → are_new a m ≡ true
new-below a b made.Nothing sub h = refl
new-below a b (made.One m) sub h = not-born a b m sub h
new-below a b (made.Two m n) sub h =
    let p = and-out (not (same_name m n)) _ h in
    let r = and-out (not (set.contains b m)) _ p.1 in
    and-in _ _ p.0 (and-in _ _ (not-born a b m sub r.0) (not-born a b n sub r.1))

born-below : (a b : NameSet) (m : Made) → Sub a b → Sub (with_made a m) (with_made b m)
born-below a b made.Nothing sub q h = sub q h
born-below a b (made.One m) sub q h = insert-below a b m sub q h
born-below a b (made.Two m n) sub q h = insert-below (set.insert a m) (set.insert b m) n (insert-below a b m sub) q h

module _ (ts : List Trace) (places : ℕ → Bool) where
  -- the last place before j that writes the thing, if any does, is in the set
  abbrev pub Clean : ℕ → Thing → Type 0
  Clean j t = (k : ℕ) → IsLast ts t k j → places k ≡ true

  -- the second configuration, at place j, has what the first has of all that is clean
  pub record Agreed (j : ℕ) (x y : Config) : Type 0 where
    pub sites : x.sites ≡ y.sites
    pub born_first : AreBorn x
    pub born_second : AreBorn y
    pub fewer : Sub y.born x.born
    pub agree : (t : Thing) → Clean j t → Same (inside x) (inside y) t

  -- a place that does not write the thing leaves it clean
  clean-before : (j : ℕ) (t : Thing) → is_written ts j t ≡ false → Clean (suc j) t → Clean j t
  clean-before j t far clean k is = clean k (record {
    before = let low : k < j = is.before in omega arith;
    writes = is.writes;
    none = λ m low high. ⊎_elim (λ less. is.none m low less) (λ same. subst (λ m. is_written ts m t ≡ false) (sym same) far) (below-suc m j high);
  })

  last-now : (j : ℕ) (t : Thing) → is_written ts j t ≡ true → IsLast ts t j (suc j)
  last-now j t is = record { before = omega arith; writes = is; none = λ m low high. absurd (omega arith) }

  module _ (j : ℕ) (e : Event) (x y next : Config) (here : trace_at ts j ≡ trace (inside x) e) (a : Agreed j x y) (h : apply x e ≡ Some next) where
    abbrev s : RowStep x e next e.kind
    s = row-step x e next e.kind h

    tr : Traced e.kind (inside x) e s.made
    tr = traced x.sites (inside x) e s.made e.kind s.gives

    inside-next : inside next ≡ changed (inside x) s.made
    inside-next = ap inside s.is ∙ inside-effect x e s.made

    written-here : (t : Thing) → is_written ts j t ≡ is_in t (writes e.kind (inside x) e)
    written-here t = ap (λ (r : Trace). is_in t r.written) here

    -- where the place is not in the set, all that stays clean stays
    pub passes : places j ≡ false → Agreed (suc j) next y
    passes none = record {
      sites = ap (λ (c : Config). c.sites) s.is ∙ a.sites;
      born_first = born-kept x next e a.born_first h;
      born_second = a.born_second;
      fewer = λ q is. subst (λ (c : Config). set.contains c.born q ≡ true) (sym s.is) (still-born x.born e.made q (a.fewer q is));
      agree = λ t clean.
          let far : is_in t (writes e.kind (inside x) e) ≡ false = not_true _ (λ w. false-true (places j) (clean j (last-now j t (written-here t ∙ w))) none) in
          subst (λ z. Same z (inside y) t) (sym inside-next) (same-over _ (inside x) _ t (same-back _ _ t (thing-stays e.kind (inside x) e s.made tr t far)) (a.agree t (clean-before j t (written-here t ∙ far) clean)));
    }

    module _ (has : places j ≡ true) (causes : (j k : ℕ) → places j ≡ true → IsCause ts k j → places k ≡ true) where
      touched-same : (t : Thing) → is_in t (touches e.kind (inside x) e) ≡ true → Same (inside x) (inside y) t
      touched-same t is = a.agree t (λ k last. causes j k has (record { thing = t; touched = ap (λ (r : Trace). is_in t r.touched) here ∙ is; last = last }))

      same-change : change e.kind y.sites (inside y) e ≡ Some s.made
      same-change = sym (depends_on_touched x y e a.sites (agrees-on (inside x) (inside y) _ touched-same)) ∙ s.gives

      new : are_new y.born e.made ≡ true
      new = new-below y.born x.born e.made a.fewer s.new

      pub follows : apply y e ≡ Some (effect y e s.made)
      follows = rw (same-change, new) refl

      kept-same : (b : Bool) (t : Thing) → is_written ts j t ≡ b → Clean (suc j) t → Same (inside x) (inside y) t
      kept-same true t is clean = ⊎_elim (touched-same t) (made-same x y e a.born_first a.born_second s.new new t) (known x.sites (inside x) e s.made e.kind t s.gives (sym (written-here t) ∙ is))
      kept-same false t is clean = a.agree t (clean-before j t is clean)

      -- where it is, the second configuration goes on by the same event
      pub goes_on : Agreed (suc j) next (effect y e s.made)
      goes_on = record {
        sites = ap (λ (c : Config). c.sites) s.is ∙ a.sites;
        born_first = born-kept x next e a.born_first h;
        born_second = born-kept y (effect y e s.made) e a.born_second follows;
        fewer = λ q is. subst (λ (c : Config). set.contains c.born q ≡ true) (sym s.is) (born-below y.born x.born e.made a.fewer q is);
        agree = λ t clean. subst (λ z. Same z (inside (effect y e s.made)) t) (sym inside-next)
            (subst (λ z. Same (changed (inside x) s.made) z t) (sym (inside-effect y e s.made)) (thing-changed (inside x) (inside y) s.made t (kept-same (is_written ts j t) t refl clean)));
      }
