-- The lists follow the events of a run.
use Rattle.std.proofs.Common.{◌≡◌, ℕ, Bool, true, false, cond, ⊎_elim, is_some, List, [], ◌∷◌, ◌++◌, Option, None, Some, refl, sym, ap, subst, ◌∙◌}
use Rattle.std.specs.Option.{option_map}
use Rattle.std.specs.FinMap as map
use Rattle.np_syntax.specs.Events.{made_names}
use Rattle.np_syntax.specs.declared.event.Event.{Event}
use Rattle.np_syntax.specs.declared.event.Kind.{Kind}
use Rattle.np_syntax.specs.declared.event.Kind.TheVariants as kind
use Rattle.np_syntax.specs.declared.event.Made.{Made}
use Rattle.np_syntax.specs.declared.event.Made.TheVariants as made
use Rattle.np_syntax.specs.declared.program.LowProgram.{LowProgram}
use Rattle.np_syntax.specs.declared.program.Program.{Program}
use Rattle.np_syntax.specs.declared.value.Name.{Name}
use Rattle.np_tables.specs.Names.{NameMap, same_name}
use Rattle.np_tables.proofs.Tables.{get-none, get-put, same_name-is}
use Rattle.np_configuration.specs.Placed.{travels}
use Rattle.np_calculus.specs.declared.config.Atom.{Atom}
use Rattle.np_calculus.specs.declared.config.Place.{Place}
use Rattle.np_calculus.specs.declared.config.Place.TheVariants as place
use Rattle.np_calculus.specs.Changes.{Write}
use Rattle.np_calculus.specs.Config.{Config}
use Rattle.np_calculus.specs.Footprints.{listed}
use Rattle.np_calculus.specs.FrameRule.{Every, changed, left_by}
use Rattle.np_calculus.specs.Reductions.{apply}
use Rattle.np_calculus.specs.Sight.{Contents, inside}
use Rattle.np_calculus.specs.Starts.{daemon_mark, main_mark, start_high, start_low}
use Rattle.np_calculus.proofs.Steps.{row-step}
use Rattle.np_calculus.proofs.Writes.{every-map, inside-effect, left-by}
use Rattle.np_configuration.specs.Errands.{errand_of}
use Rattle.run_views.specs.Past.{agent_of_atom, is_among, later_names, made_agent, names_of, writes}
use Rattle.run_views.proofs.Among.{among-cases, among-every, among-first, among-later, among-left, among-right}
use Rattle.run_views.proofs.Traced.{traced}
use Rattle.choice_entries.specs.declared.entry.Entry.{Entry}
use Rattle.choice_entries.specs.declared.entry.Entry.TheVariants as entry
use Rattle.run_choices.specs.Held.{Agrees, Held, InStep, Lists, touched}
use Rattle.run_choices.specs.Lines.{stands}
use Rattle.run_choices.specs.Runs.{agent_in}
use Rattle.run_choices.specs.Seeded.{FirstMarks}

true-false : {b : Bool} → b ≡ true → b ≡ false → ⊥
true-false t f = cc

-- ---- what an event does not touch stays

unwritten : {X : Type 0} (P : Name → Type 0) (ws : List (Write X)) (q : Name) (o : Option X) → Every (λ w. P w.0) ws → (P q → ⊥) → left_by ws q o ≡ o
unwritten P ws q o h never = left-by (λ v. v ≡ o) ws q o refl (every-map (λ w. P w.0) (λ w. q ≡ w.0 → w.1 ≡ o) (λ w p same. absurd (never (subst P (sym same) p))) ws h)

marks-in : (k : Kind) (x : Contents) (e : Event) (q : Name) → is_among q (writes k x e).marks ≡ true → is_among q (names_of e) ≡ true
marks-in kind.Arrive x e q h = absurd cc
marks-in kind.Rep x e q h = among-later q e.actor (later_names e) h
marks-in _ x e q h = h

only-one : (q k : Name) → is_among q (k ∷ []) ≡ true → q ≡ k
only-one q k h = ⊎_elim (λ same. same) (λ t. absurd (let e : false ≡ true = t in cc)) (among-cases q k [] h)

made-in : (m : Made) (q : Name) → is_among q (made_agent m) ≡ true → is_among q (made_names m) ≡ true
made-in made.Nothing q h = absurd cc
made-in (made.One n) q h = absurd cc
made-in (made.Two a n) q h = subst (λ (k : Name). is_among k (a ∷ n ∷ []) ≡ true) (sym (only-one q a h)) (among-first a (n ∷ []))

agent-listed : (o : Option Atom) → agent_of_atom o ≡ listed (option_map (λ a. a.agent) o)
agent-listed None = refl
agent-listed (Some a) = refl

places-in : (k : Kind) (c : Config) (e : Event) (q : Name) → is_among q (writes k (inside c) e).places ≡ true → is_among q (touched e (agent_in c e.actor)) ≡ true
places-in kind.Arrive c e q h =
    among-left q (names_of e) (listed (agent_in c e.actor)) (subst (λ (k : Name). is_among k (names_of e) ≡ true) (sym (only-one q e.actor h)) (among-first e.actor (later_names e)))
places-in kind.Agent c e q h =
    among-left q (names_of e) (listed (agent_in c e.actor))
    (among-later q e.actor (later_names e) (among-right q (listed e.other) (made_names e.made) (made-in e.made q h)))
places-in kind.Depart c e q h =
    among-right q (names_of e) (listed (agent_in c e.actor)) (subst (λ ks. is_among q ks ≡ true) (agent-listed (map.get c.atoms e.actor)) h)
places-in _ c e q h = absurd cc

-- the same stands under a name in both
record Same (c d : Config) (q : Name) : Type 0 where
  atoms : map.get d.atoms q ≡ map.get c.atoms q
  packets : map.get d.packets q ≡ map.get c.packets q
  places : map.get d.places q ≡ map.get c.places q

module _ (c d : Config) (e : Event) (applies : apply c e ≡ Some d) where
  untouched : (q : Name) → is_among q (touched e (agent_in c e.actor)) ≡ false → Same c d q
  untouched q away =
      let s = row-step c e d e.kind applies in
      let t = (traced c.sites (inside c) e s.made e.kind s.gives).own in
      let none : is_among q (names_of e) ≡ true → ⊥ = (λ m. true-false (among-left q (names_of e) (listed (agent_in c e.actor)) m) away) in
      let is : inside d ≡ changed (inside c) s.made = ap inside s.is ∙ inside-effect c e s.made in
      record {
        atoms =
            ap (λ (x : Contents). x.atom q) is
            ∙ unwritten (λ k. is_among k (writes e.kind (inside c) e).marks ≡ true) s.made.atoms q (map.get c.atoms q) t.atoms (λ m. none (marks-in e.kind (inside c) e q m));
        packets =
            ap (λ (x : Contents). x.packet q) is
            ∙ unwritten (λ k. is_among k (writes e.kind (inside c) e).marks ≡ true) s.made.packets q (map.get c.packets q) t.packets (λ m. none (marks-in e.kind (inside c) e q m));
        places =
            ap (λ (x : Contents). x.place q) is
            ∙ unwritten (λ k. is_among k (writes e.kind (inside c) e).places ≡ true) s.made.places q (map.get c.places q) t.places (λ m. true-false (places-in e.kind c e q m) away);
      }

  agrees-still : (h : Held) (q : Name) → Same c d q → Agrees c h q → Agrees d h q
  agrees-still h q s a = record {
    filed = a.filed ∙ ap (option_map errand_of) (sym s.atoms);
    lands = a.lands ∙ ap is_some (sym s.packets);
    arrives = a.arrives ∙ ap travels (sym s.places);
  }

  -- the lists have what the event leads to, where all that it touched is listed anew
  pub followed : (h j : Held) → Lists c h → InStep j → Every (Agrees d j) (touched e (agent_in c e.actor)) → ((q : Name) → Agrees d h q → Agrees d j q) → Lists d j
  followed h j l step here kept = record { step = step; at = λ q. by_case q (is_among q (touched e (agent_in c e.actor))) refl }
    where
      by_case : (q : Name) (t : Bool) → is_among q (touched e (agent_in c e.actor)) ≡ t → Agrees d j q
      by_case q true is = among-every (Agrees d j) q (touched e (agent_in c e.actor)) here is
      by_case q false is = kept q (agrees-still h q (untouched q is) (l.at q))

-- ---- one name after another

pub every-both : {A : Type 0} (P : A → Type 0) (xs ys : List A) → Every P xs → Every P ys → Every P (xs ++ ys)
every-both P [] ys h k = k
every-both P (x ∷ xs) ys h k = (h.0, every-both P xs ys h.1 k)

module _ (c : Config) (e : Event) (agent : Option Name) (h1 h2 h3 h4 : Held) (two : (q : Name) → Agrees c h1 q → Agrees c h2 q) (three : (q : Name) → Agrees c h2 q → Agrees c h3 q)
    (four : (q : Name) → Agrees c h3 q → Agrees c h4 q) where
  pub all-touched : Agrees c h1 e.actor → Every (Agrees c h2) (listed e.other) → Every (Agrees c h3) (made_names e.made) → Every (Agrees c h4) (listed agent) → Every (Agrees c h4) (touched e agent)
  all-touched actor other made last =
      every-both (Agrees c h4) (names_of e) (listed agent) (
        four e.actor (three e.actor (two e.actor actor)),
        every-both (Agrees c h4) (listed e.other) (made_names e.made)
            (every-map (Agrees c h2) (Agrees c h4) (λ q a. four q (three q a)) (listed e.other) other)
            (every-map (Agrees c h3) (Agrees c h4) four (made_names e.made) made),
      )
      last

-- ---- starts

no-entry : (list : List Entry) (s : Entry) → list ≡ [] → stands list s ≡ false
no-entry list s empty = ap (λ xs. stands xs s) empty

pub first-lists : (c : Config) → FirstMarks c → (h j k : Held) → h.work ≡ map.empty → h.list ≡ [] → Agrees c j (main_mark c.sites) → ((q : Name) → Agrees c h q → Agrees c j q)
    → InStep k → Agrees c k (daemon_mark c.sites) → ((q : Name) → Agrees c j q → Agrees c k q) → Lists c k
first-lists c first h j k none empty main keeps step daemon kept = record { step = step; at = λ q. by_main q (same_name q (main_mark c.sites)) refl }
  where
    by_daemon : (q : Name) → same_name q (main_mark c.sites) ≡ false → (t : Bool) → same_name q (daemon_mark c.sites) ≡ t → Agrees c k q
    by_daemon q other true is = subst (Agrees c k) (sym (same_name-is q (daemon_mark c.sites) is)) daemon
    by_daemon q other false is = kept q (keeps q (record {
      filed = ap (λ w. map.get w q) none ∙ get-none q ∙ ap (option_map errand_of) (sym (first.atoms q other is));
      lands = no-entry h.list (entry.Lands q) empty ∙ ap is_some (sym (first.packets q));
      arrives = no-entry h.list (entry.Arrives q) empty ∙ sym (first.places q);
    }))

    by_main : (q : Name) (t : Bool) → same_name q (main_mark c.sites) ≡ t → Agrees c k q
    by_main q true is = kept q (subst (Agrees c j) (sym (same_name-is q (main_mark c.sites) is)) main)
    by_main q false is = by_daemon q is (same_name q (daemon_mark c.sites)) refl

-- one atom more, under another name, and one agent more, at a site
one-atom : (m : NameMap Atom) (k : Name) (a : Atom) (q : Name) → same_name q k ≡ false → map.get (map.insert m k a) q ≡ map.get m q
one-atom m k a q away = get-put m k a q ∙ ap (λ t. cond t (Some a) (map.get m q)) away

stands-there : (t : Bool) (s : ℕ) (o : Option Place) → travels o ≡ false → travels (cond t (Some (place.At s)) o) ≡ false
stands-there true s o h = refl
stands-there false s o h = h

one-place : (m : NameMap Place) (k : Name) (s : ℕ) (q : Name) → travels (map.get m q) ≡ false → travels (map.get (map.insert m k (place.At s)) q) ≡ false
one-place m k s q h = ap travels (get-put m k (place.At s) q) ∙ stands-there (same_name q k) s (map.get m q) h

pub high-first : (p : Program) → FirstMarks (start_high p)
unfolding start_high
high-first p = record {
  atoms = λ q main daemon. one-atom _ _ _ q main ∙ get-none q;
  packets = λ q. get-none q;
  places = λ q. one-place _ _ _ q (ap travels (get-none {X = Place} q));
}

pub low-first : (p : LowProgram) → FirstMarks (start_low p)
unfolding start_low
low-first p = record {
  atoms = λ q main daemon. one-atom _ _ _ q daemon ∙ one-atom _ _ _ q main ∙ get-none q;
  packets = λ q. get-none q;
  places = λ q. one-place _ _ _ q (one-place _ _ _ q (ap travels (get-none {X = Place} q)));
}
