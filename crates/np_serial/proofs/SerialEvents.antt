-- Along a run what can go on has an event, and what its event leaves.
use Rattle.std.proofs.Common.{◌≡◌, ℕ, ◌+◌, ◌≤◌, Bool, true, false, cond, List, [], ◌∷◌, ◌++◌, length, Option, None, Some, IsSome, refl, sym, ap, subst, ◌∙◌, arith}
use Rattle.std.proofs.lemmas.List.{append-nil}
use Rattle.std.specs.Prelude.{◌↔◌}
use Rattle.std.specs.FinMap as map
use Rattle.std.specs.FinSet as set
use Rattle.np_calculus.proofs.Common.{Name, Expr, Pat, ProcForm-F, Event, Kind, Made, ◌>>=◌, NameSet, same_name, then, done, same_name-is, same_name-itself, Config, Env, agent_of, chan_of, Layer, layer, apply, is_at, offered}
use Rattle.np_configuration.proofs.Common.{Errand, mapped, errand_of, Idle, NoneTravels}
use Rattle.np_syntax.specs.declared.program.Program.{Program}
use Rattle.np_syntax.specs.declared.program.LowProgram.{LowProgram}
use Rattle.np_syntax.specs.declared.event.End.{End}
use Rattle.np_syntax.specs.declared.event.End.TheVariants.{Rest, Spent}
use Rattle.np_syntax.specs.declared.event.Made.TheVariants as made
use Rattle.np_tables.specs.declared.errand.Errand.TheVariants as errand
use Rattle.np_tables.specs.declared.errand.Ready.{Ready as Going}
use Rattle.np_tables.specs.declared.errand.Ready.TheVariants as ready
use Rattle.np_tables.specs.Errands.{IsReady, Meet}
use Rattle.np_tables.proofs.Mapped.{mapped_there}
use Rattle.np_tables.proofs.Tables.{born_insert}
use Rattle.np_calculus.specs.declared.config.Atom.{Atom}
use Rattle.np_calculus.specs.declared.config.Place.{Place}
use Rattle.np_calculus.specs.declared.config.Place.TheVariants as place
use Rattle.np_calculus.specs.Reductions.{run}
use Rattle.np_serial.specs.Serial.{AreFresh, IsEnabled, IsReached, IsSerialRun, Stands, actor_of, taken_by}
use Rattle.np_calculus.specs.Begins.{AreNew, MakesAtMost, begun_by, event_at, made_by, made_there}
use Rattle.np_calculus.specs.Runs.{RunsWell}
use Rattle.np_calculus.specs.Starts.{start_high, start_low}
use Rattle.np_calculus.specs.Well.{Has, Well}
use Rattle.np_calculus.proofs.Acting.{given-sends}
use Rattle.np_calculus.proofs.Enabled.{alone-begins, meeting-begins}
use Rattle.np_configuration.proofs.ErrandForms.{acts-free, gives-form, takes-form, mapped_from}
use Rattle.np_calculus.proofs.OwnNames.{not_true, own_names-lacks}
use Rattle.np_configuration.proofs.RestTests.{no_way}
use Rattle.np_calculus.proofs.Steps.{row-step, step-offered}
use Rattle.np_calculus.specs.Changes.{with_made}

-- ---- what holds along a run

pub well-run : (start : Config) (at : ℕ) → RunsWell start at → (events : List Event) (d : Config) → run start events ≡ Some d → Well d
well-run start at runs events d reaches =
    let w = (runs.well events d reaches).each events [] (sym (append-nil events)) in
    let same : w.0 ≡ d = sym (done (sym w.1 ∙ reaches)) in
    subst Well same w.2

pub run-push : (c : Config) (es : List Event) (e : Event) (d f : Config) → run c es ≡ Some d → apply d e ≡ Some f → run c (es ++ e ∷ []) ≡ Some f
run-push c [] e d f h k = let same : c ≡ d = cc in subst (λ (x : Config). (apply x e >>= λ y. Some y) ≡ Some f) (sym same) (ap (λ o. o >>= λ y. Some y) k)
run-push c (x ∷ es) e d f h k = then (apply c x) (λ y. run y es) h λ y first rest. ap (λ o. o >>= λ z. run z (es ++ e ∷ [])) first ∙ run-push y es e d f rest k

-- an agent that has a place stands at a site where none travels
stands_at : (c : Config) (agent : Name) (o : Option Place) → map.get c.places agent ≡ o → IsSome o → NoneTravels c.places → Stands c agent
stands_at c agent None is h still = absurd cc
stands_at c agent (Some (place.At s)) is h still = (s, is)
stands_at c agent (Some (place.Way s)) is h still = absurd (no_way c.places agent s is still)

-- ---- what goes on has an event

-- an atom has the errand that it is filed under
errand-there : (c : Config) (m : Name) (a : Atom) (e : Errand) → map.get c.atoms m ≡ Some a → map.get (mapped errand_of c.atoms) m ≡ Some e → errand_of a ≡ e
errand-there c m a e there filed = let x = sym (mapped_there errand_of c.atoms m a there) ∙ filed in cc

-- what goes on has an atom that acts
pub actor-there : (c : Config) (r : Going) → IsReady (mapped errand_of c.atoms) r → (a : Atom) × (map.get c.atoms (actor_of r) ≡ Some a)
actor-there c (ready.Acts mark) h = let f = mapped_from errand_of c.atoms mark errand.Acts h in (f.0, f.1)
actor-there c (ready.Meets input output) h = let f = mapped_from errand_of c.atoms input (errand.Takes h.meeting) h.takes in (f.0, f.1)

few_if : (t : Bool) (first second : Name) → MakesAtMost (cond t (made.One first) made.Nothing) first second
few_if true first second = refl
few_if false first second = tt

few_there : (c : Config) (s : ℕ) (o : Option Name) (first second : Name) → MakesAtMost (made_there c s o first) first second
few_there c s None first second = tt
few_there c s (Some agent) first second = few_if (is_at c agent s) first second

-- no atom makes more than two names
few : (c : Config) (s : ℕ) (env : Env) (l : Layer) (first second : Name) → MakesAtMost (made_by c s env l first second) first second
few c s env (ProcForm-F.Par left right) first second = refl
few c s env (ProcForm-F.New x ty body) first second = refl
few c s env (ProcForm-F.Agent b body rest) first second = (refl, refl)
few c s env (ProcForm-F.IfLocal b x e met unmet) first second = few_there c s (agent_of b env) first second
few c s env _ first second = tt

module _ (c : Config) (w : Well c) (s : ℕ) (first second : Name) (new : AreNew c first second) where
  -- the atom has a kind of event, which is enabled
  abbrev Begins : Name → Option Name → Atom → Type 0
  Begins m o a = (k : Kind) × (begun_by (layer a.proc) ≡ Some k) × Has (apply c (event_at k s m o a (made_by c s a.env (layer a.proc) first second)))

  meets : (i o : Name) (a : Atom) → Meet (mapped errand_of c.atoms) i o → map.get c.atoms i ≡ Some a → map.get c.places a.agent ≡ Some (place.At s) → Begins i (Some o) a
  meets i o a meet there stands =
      let n : Name = meet.meeting.chan in
      let giver = mapped_from errand_of c.atoms o (errand.Gives meet.meeting) meet.gives in
      let b : Atom = giver.0 in
      let given = gives-form b.agent b.env (layer b.proc) meet.meeting giver.2 in
      let sent = given-sends c b n (layer b.proc) given.0 refl given.1 given.2.0 (w.ready o b giver.1) in
      let taken = takes-form a.agent a.env (layer a.proc) meet.meeting (errand-there c i a (errand.Takes meet.meeting) there meet.takes) in
      let together : a.agent ≡ b.agent = sym taken.2.1 ∙ given.2.1 in
      let same : same_name a.agent b.agent ≡ true = ap (same_name a.agent) (sym together) ∙ same_name-itself a.agent in
      let offer : offered c o a.agent n ≡ Some sent.0 = step-offered c o a.agent n sent.0 (record { mate = b; waits = giver.1; together = same; sent = (n, sent.0); sends_it = sent.1; agree = same_name-itself n; is = refl }) in
      meeting-begins c i a s there stands first second new (layer a.proc) refl taken.0 taken.1 o n sent.0
      (λ t h.
      let is : taken.0 ≡ t = done (sym h ∙ taken.1) in
      let on : chan_of t.0 a.env ≡ Some n = subst (λ (t : Expr × Pat). chan_of t.0 a.env ≡ Some n) is taken.2.0 in
      (on, w.matches i o a b t n sent.0 there giver.1 together h on sent.1))
      offer

  begins : (r : Going) (a : Atom) → IsReady (mapped errand_of c.atoms) r → map.get c.atoms (actor_of r) ≡ Some a → map.get c.places a.agent ≡ Some (place.At s) → Begins (actor_of r) (taken_by r) a
  begins (ready.Acts mark) a h there stands =
      alone-begins c mark a s there stands first second new (layer a.proc) refl (w.ready mark a there) (acts-free a.agent a.env (layer a.proc) (errand-there c mark a errand.Acts there h))
  begins (ready.Meets input output) a h there stands = meets input output a h there stands

module _ (c : Config) (r : IsReached c) where
  -- the agent of each atom stands at a site where no agent travels
  pub standing : NoneTravels c.places → (m : Name) (a : Atom) → map.get c.atoms m ≡ Some a → Stands c a.agent
  standing still m a there = stands_at c a.agent _ refl ((r.runs.lodged r.events c r.reaches).each m a there) still

  module _ (g : Going) (h : IsReady (mapped errand_of c.atoms) g) (a : Atom) (there : map.get c.atoms (actor_of g) ≡ Some a) (s : ℕ) (stands : map.get c.places a.agent ≡ Some (place.At s))
      (first second : Name) (new : AreNew c first second) where
    begins_here : Begins c (well-run r.start r.at r.runs r.events c r.reaches) s first second new (actor_of g) (taken_by g) a
    begins_here = begins c (well-run r.start r.at r.runs r.events c r.reaches) s first second new g a h there stands

    -- what goes on has a kind of event
    pub begun-some : begun_by (layer a.proc) ≡ None → ⊥
    begun-some none = let x = sym none ∙ begins_here.1 in cc

    -- and the event of that kind is enabled
    pub begun-enabled : (k : Kind) → begun_by (layer a.proc) ≡ Some k → IsEnabled c (event_at k s (actor_of g) (taken_by g) a (made_by c s a.env (layer a.proc) first second)) first second
    begun-enabled k is =
        let made : Made = made_by c s a.env (layer a.proc) first second in
        let same : begins_here.0 ≡ k = done (sym is ∙ begins_here.1) in
        record { enabled = subst (λ k. Has (apply c (event_at k s (actor_of g) (taken_by g) a made))) same begins_here.2; made = few c s a.env (layer a.proc) first second }

-- ---- the names that an event makes

-- an event puts the names that it makes to those that are born
births : (c : Config) (e : Event) (d : Config) → apply c e ≡ Some d → d.born ≡ with_made c.born e.made
births c e d h = ap (λ (x : Config). x.born) (row-step c e d e.kind h).is

other_number : (q m : Name) → (q.n ≡ m.n → ⊥) → same_name q m ≡ false
other_number q m apart = not_true _ (λ same. apart (ap (λ (x : Name). x.n) (same_name-is q m same)))

lacks_one : (born : NameSet) (m q : Name) → (q.n ≡ m.n → ⊥) → set.contains born q ≡ false → set.contains (set.insert born m) q ≡ false
lacks_one born m q apart h = rw (born_insert born m q, other_number q m apart) h

-- a name of another number than those that are made is not born by them
lacks : (born : NameSet) (x : Made) (first second q : Name) → MakesAtMost x first second → (q.n ≡ first.n → ⊥) → (q.n ≡ second.n → ⊥) → set.contains born q ≡ false → set.contains (with_made born x) q ≡ false
lacks born made.Nothing first second q few a b h = h
lacks born (made.One m) first second q few a b h = lacks_one born m q (λ e. a (e ∙ ap (λ (x : Name). x.n) few)) h
lacks born (made.Two m n) first second q few a b h =
    lacks_one (set.insert born m) n q (λ e. b (e ∙ ap (λ (x : Name). x.n) few.1)) (lacks_one born m q (λ e. a (e ∙ ap (λ (x : Name). x.n) few.0)) h)

pub high-fresh : (p : Program) → AreFresh (start_high p).born (start_high p).sites 0
unfolding start_high
high-fresh p = record { each = λ q apart from. own_names-lacks (length p.sites) q apart }

pub low-fresh : (q : LowProgram) → AreFresh (start_low q).born (start_low q).sites 0
unfolding start_low
low-fresh q = record { each = λ r apart from. own_names-lacks (length q.sites) r apart }

-- a start has as many sites as its program
pub high-sites : (p : Program) → (start_high p).sites ≡ length p.sites
unfolding start_high
high-sites p = refl

pub low-sites : (q : LowProgram) → (start_low q).sites ≡ length q.sites
unfolding start_low
low-sites q = refl

pub fresh-after : (c : Config) (e : Event) (d : Config) (first second : Name) (sites n : ℕ) → IsEnabled c e first second → apply c e ≡ Some d → first.n ≡ n → second.n ≡ n
    → AreFresh c.born sites n → AreFresh d.born sites (n + 1)
fresh-after c e d first second sites n en h is also fresh = record {
  each = λ q apart from.
      rw (births c e d h)
      (lacks c.born e.made first second q en.made (λ (x : q.n ≡ first.n). omega arith) (λ (x : q.n ≡ second.n). omega arith) (fresh.each q apart (omega arith)));
}

-- the names of a number that is not used yet are new
pub names-new : (c : Config) (first second : Name) (sites n : ℕ) → AreFresh c.born sites n → first.n ≡ n → second.n ≡ n → (first.site ≡ sites → ⊥) → (second.site ≡ sites → ⊥)
    → (first.site ≡ second.site → ⊥) → AreNew c first second
names-new c first second sites n fresh is also one two apart = record {
  first_new = fresh.each first one (omega arith);
  second_new = fresh.each second two (omega arith);
  apart = λ same. apart (ap (λ (x : Name). x.site) same);
}

-- ---- how a run ends

module _ (start : Config) (at : ℕ) (runs : RunsWell start at) (budget : ℕ) (events : List Event) (last : Config) (reaches : run start events ≡ Some last) (within : length events ≤ budget) where
  -- nothing can go on
  pub rest-run : Idle last → IsSerialRun start budget events last Rest
  rest-run idle = record {
    reaches = reaches;
    well = runs.well events last reaches;
    within = within;
    rest = (λ e. idle, λ i. refl);
    spent = (λ e. absurd cc, λ h. absurd (h.1 idle));
  }

  -- the budget is used
  pub ended-run : (end : End) → length events ≡ budget → ((end ≡ Rest) ↔ Idle last) → ((end ≡ Spent) ↔ (Idle last → ⊥)) → IsSerialRun start budget events last end
  ended-run end used rest spent = record {
    reaches = reaches;
    well = runs.well events last reaches;
    within = within;
    rest = rest;
    spent = (λ e. (used, spent.0 e), λ h. spent.1 h.1);
  }
