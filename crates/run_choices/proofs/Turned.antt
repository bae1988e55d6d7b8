-- The sites can make each choice: what comes stands for what is first on its link, and an atom makes the next names of its site.
use Rattle.std.proofs.Common.{◌≡◌, ℕ, ◌+◌, ◌<◌, Bool, true, false, cond, is_some, List, [], ◌∷◌, ◌++◌, Option, None, Some, refl, sym, ap, subst, ◌∙◌, arith}
use Rattle.std.specs.Option.{option_map, option_map_or}
use Rattle.std.specs.FinMap as map
use Rattle.np_syntax.specs.Options.{◌>>=◌}
use Rattle.np_syntax.specs.declared.event.Event.{Event}
use Rattle.np_syntax.specs.declared.event.Kind.{Kind}
use Rattle.np_syntax.specs.declared.event.Kind.TheVariants as kind
use Rattle.np_syntax.specs.declared.event.Made.TheVariants as made
use Rattle.np_syntax.specs.declared.process.ProcForm.{ProcForm-F}
use Rattle.np_syntax.specs.declared.value.Name.{Name}
use Rattle.np_syntax.proofs.Options.{done, then, there-is}
use Rattle.np_tables.specs.declared.errand.Errand.{Errand}
use Rattle.np_configuration.specs.Placed.{travels as under_way}
use Rattle.np_eval.specs.Eval.{Env, agent_of}
use Rattle.np_eval.specs.Forms.{Layer, layer}
use Rattle.np_calculus.specs.declared.config.Atom.{Atom}
use Rattle.np_calculus.specs.declared.config.Packet.{Packet}
use Rattle.np_calculus.specs.declared.config.Place.{Place}
use Rattle.np_calculus.specs.declared.config.Place.TheVariants as place
use Rattle.np_calculus.specs.Begins.{AreNew, begun_by, made_by, made_there}
use Rattle.np_calculus.specs.Config.{Config}
use Rattle.np_calculus.specs.NotEnabled.{by_atom}
use Rattle.np_calculus.specs.Reductions.{apply, run, way}
use Rattle.np_calculus.specs.Seen.{is_at}
use Rattle.np_calculus.specs.Well.{Has}
use Rattle.np_configuration.specs.Errands.{errand_of}
use Rattle.np_serial.specs.Serial.{IsReached}
use Rattle.run_save.specs.declared.notes.Notes.{Notes}
use Rattle.run_save.specs.declared.trips.Item.{Item}
use Rattle.run_save.specs.declared.trips.Item.TheVariants as item
use Rattle.run_save.specs.Left.{first_beside, names_made, noted_count, noted_first}
use Rattle.run_save.specs.Notes.{IsNoted}
use Rattle.run_save.specs.Ours.{AreNext, GoesOn, IsOursFrom, IsPutFirst, TakesPutFirst, names_of}
use Rattle.run_save.specs.Travels.{Travels, travels}
use Rattle.run_save.proofs.GoingOn.{ours-goes-on}
use Rattle.run_save.proofs.LeftLaws.{count-noted, first-noted}
use Rattle.run_save.proofs.RunLaws.{order-whole}
use Rattle.run_choices.specs.declared.choice.Choice.{Choice}
use Rattle.run_choices.specs.declared.choice.Choice.TheVariants as choice
use Rattle.run_choices.specs.Choices.{IsChoice, begun, begun_at}
use Rattle.run_choices.specs.InTurn.{EachIsServed, IsCourse, IsOwnRun, IsServed, coming, event_behind, event_in_turn, in_turn, in_turn_at, in_turn_of, later_name, next_name, own_event, seat, seat_of, site_of}
use Rattle.run_choices.proofs.Carried.{bound, first-left, heading, target}
use Rattle.run_choices.proofs.Chosen.{travels-way}
use Rattle.run_choices.proofs.Named.{each-can-go}
use Rattle.run_choices.proofs.Orderly.{Orderly, orderly}

-- an atom's agent is at a site
record StandsAt (c : Config) (mark : Name) : Type 0 where
  atom : Atom
  there : map.get c.atoms mark ≡ Some atom
  site : ℕ
  at : map.get c.places atom.agent ≡ Some (place.At site)

-- what comes is first on its link; the agent of an atom is at a site
abbrev IsTurn : Config → Travels → Choice → Type 0
IsTurn c t (choice.Arrives agent) = (to : ℕ) × (bound c (item.Agent agent) ≡ Some to) × IsPutFirst t (item.Agent agent) to
IsTurn c t (choice.Lands mark) = (to : ℕ) × (bound c (item.Packet mark) ≡ Some to) × IsPutFirst t (item.Packet mark) to
IsTurn c t (choice.Acts mark) = StandsAt c mark
IsTurn c t (choice.Meets input output) = StandsAt c input

way-some : (o : Option Place) (to : ℕ) → heading o ≡ Some to → under_way o ≡ true
way-some None to h = absurd cc
way-some (Some (place.At s)) to h = absurd (let e = h in cc)
way-some (Some (place.Way s)) to h = refl

target-some : (o : Option Packet) (to : ℕ) → target o ≡ Some to → is_some o ≡ true
target-some None to h = absurd cc
target-some (Some p) to h = refl

packet-some : (o : Option Packet) → is_some o ≡ true → (p : Packet) × (o ≡ Some p)
packet-some None h = absurd cc
packet-some (Some p) h = (p, refl)

-- the atom of an errand
errand-atom : (o : Option Atom) → {e : Errand} → option_map errand_of o ≡ Some e → (a : Atom) × (o ≡ Some a)
errand-atom None h = absurd cc
errand-atom (Some a) h = (a, refl)

module _ (start c : Config) (events : List Event) (r : IsOwnRun start c events) where
  o : Orderly start c events
  o = orderly start c events r.own r.reaches r.ours

  reached : IsReached c
  reached = record { start = start; at = r.runs.0; runs = r.runs.1; events = events; reaches = r.reaches }

  -- a choice that is made in place of another
  abbrev Turned : Choice → Type 0
  Turned s = (u : Choice) × (in_turn c (first_beside (travels start events)) s ≡ Some u) × IsChoice c u × IsTurn c (travels start events) u

  comes : (y : Item) (to : ℕ) → bound c y ≡ Some to → IsPutFirst (travels start events) y to → IsChoice c (coming y) × IsTurn c (travels start events) (coming y)
  comes (item.Agent a) to b put = (way-some (map.get c.places a) to b, (to, b, put))
  comes (item.Packet m) to b put = (target-some (map.get c.packets m) to b, (to, b, put))

  first-comes : (x : Item) (to : ℕ) → bound c x ≡ Some to
      → (u : Choice) × (option_map coming (first_beside (travels start events) x to) ≡ Some u) × IsChoice c u × IsTurn c (travels start events) u
  first-comes x to b =
      let f = first-left c (travels start events) x to (order-whole start events r.ours.order) o.carries b in
      let w = comes f.0 to f.2 f.3 in
      (coming f.0, ap (option_map coming) f.1, w.0, w.1)

  module _ (mark : Name) (s : Choice) (is : IsChoice c s) (stays : StandsAt c mark → IsTurn c (travels start events) s) (a : Atom) (there : map.get c.atoms mark ≡ Some a) where
    turned-at : (p : Place) → map.get c.places a.agent ≡ Some p
        → (u : Choice) × (in_turn_of c (first_beside (travels start events)) mark s ≡ Some u) × IsChoice c u × IsTurn c (travels start events) u
    turned-at p at = by_place p at
      where
        led : (p : Place) → map.get c.places a.agent ≡ Some p → in_turn_of c (first_beside (travels start events)) mark s ≡ in_turn_at (first_beside (travels start events)) a.agent s p
        led p at =
            ap (λ (x : Option Atom). x >>= λ a. map.get c.places a.agent >>= λ p. in_turn_at (first_beside (travels start events)) a.agent s p) there
            ∙ ap (λ (x : Option Place). x >>= λ p. in_turn_at (first_beside (travels start events)) a.agent s p) at

        by_place : (p : Place) → map.get c.places a.agent ≡ Some p
            → (u : Choice) × (in_turn_of c (first_beside (travels start events)) mark s ≡ Some u) × IsChoice c u × IsTurn c (travels start events) u
        by_place (place.At site) at = (s, led (place.At site) at, is, stays (record { atom = a; there = there; site = site; at = at }))
        by_place (place.Way site) at =
            let f = first-comes (item.Agent a.agent) site (ap heading at) in
            (f.0, led (place.Way site) at ∙ f.1, f.2, f.3)

    turned-of : (u : Choice) × (in_turn_of c (first_beside (travels start events)) mark s ≡ Some u) × IsChoice c u × IsTurn c (travels start events) u
    turned-of =
        let p = there-is (map.get c.places a.agent) ((r.runs.1.lodged events c r.reaches).each mark a there) in
        turned-at p.0 p.1

  turned : (s : Choice) → IsChoice c s → Turned s
  turned (choice.Arrives a) is =
      let w = travels-way (map.get c.places a) is in
      let f = first-comes (item.Agent a) w.0 (ap heading w.1) in
      (f.0, ap (λ (x : Option Place). x >>= λ p. way p >>= λ to. option_map coming (first_beside (travels start events) (item.Agent a) to)) w.1 ∙ f.1, f.2, f.3)
  turned (choice.Lands m) is =
      let p = packet-some (map.get c.packets m) is in
      let f = first-comes (item.Packet m) p.0.to (ap target p.1) in
      (f.0, ap (λ (x : Option Packet). x >>= λ p. option_map coming (first_beside (travels start events) (item.Packet m) p.to)) p.1 ∙ f.1, f.2, f.3)
  turned (choice.Acts m) is = let a = errand-atom (map.get c.atoms m) is in turned-of m (choice.Acts m) is (λ s. s) a.0 a.1
  turned (choice.Meets i j) is = let a = errand-atom (map.get c.atoms i) is.takes in turned-of i (choice.Meets i j) is (λ s. s) a.0 a.1

  -- ---- the next names are new

  seated : (m : Name) (s : StandsAt c m) → seat_of c m ≡ s.site
  seated m s =
      ap (λ (x : Option Atom). option_map_or seat (x >>= λ a. map.get c.places a.agent) 0) s.there
      ∙ ap (λ (x : Option Place). option_map_or seat x 0) s.at

  seat-below : (m : Name) → StandsAt c m → seat_of c m < c.sites
  seat-below m s = subst (λ n. n < c.sites) (sym (seated m s)) (o.housed s.atom.agent (place.At s.site) s.at)

  site-below : (u : Choice) → IsTurn c (travels start events) u → site_of c u < c.sites
  site-below (choice.Arrives a) turn = let b = r.runs.1.site in let e = o.sites in omega (arith, b, e)
  site-below (choice.Lands m) turn = let b = r.runs.1.site in let e = o.sites in omega (arith, b, e)
  site-below (choice.Acts m) turn = seat-below m turn
  site-below (choice.Meets i j) turn = seat-below i turn

  names-new : (u : Choice) → IsTurn c (travels start events) u → AreNew c (next_name (names_made events) (site_of c u)) (later_name (names_made events) (site_of c u))
  names-new u turn =
      let below = site-below u turn in record {
        first_new = o.fresh (next_name (names_made events) (site_of c u)) (λ is. omega (arith, below, is)) (omega arith);
        second_new = o.fresh (later_name (names_made events) (site_of c u)) (λ is. omega (arith, below, is)) (omega arith);
        apart = λ same. let n = ap (λ (q : Name). q.n) same in omega (arith, n);
      }

  -- ---- the event goes on

  next-found : (site : ℕ) (q : Option Name) (s n : ℕ) → AreNext s n (names_of (made_there c site q (record { site = s; n = n })))
  next-found site None s n = tt
  next-found site (Some agent) s n = at (is_at c agent site)
    where
      at : (b : Bool) → AreNext s n (names_of (cond b (made.One (record { site = s; n = n })) made.Nothing))
      at true = (refl, tt)
      at false = tt

  next-made : (site : ℕ) (env : Env) (l : Layer) (s n : ℕ) → AreNext s n (names_of (made_by c site env l (record { site = s; n = n }) (record { site = s; n = n + 1 })))
  next-made site env (ProcForm-F.Par left right) s n = (refl, tt)
  next-made site env (ProcForm-F.New x ty body) s n = (refl, tt)
  next-made site env (ProcForm-F.Agent b body rest) s n = (refl, (refl, tt))
  next-made site env (ProcForm-F.IfLocal b x e met unmet) s n = next-found site (agent_of b env) s n
  next-made site env _ s n = tt

  own-kind : (l : Layer) (k : Kind) → begun_by l ≡ Some k → by_atom k ≡ true
  own-kind ProcForm-F.Stop k h = ap by_atom (done h)
  own-kind (ProcForm-F.Par left right) k h = ap by_atom (done h)
  own-kind (ProcForm-F.New x ty body) k h = ap by_atom (done h)
  own-kind (ProcForm-F.Out x e) k h = absurd (let e = h in cc)
  own-kind (ProcForm-F.Inp x pat body) k h = ap by_atom (done h)
  own-kind (ProcForm-F.Rep x pat body) k h = ap by_atom (done h)
  own-kind (ProcForm-F.Agent b body rest) k h = ap by_atom (done h)
  own-kind (ProcForm-F.Migrate s body) k h = ap by_atom (done h)
  own-kind (ProcForm-F.IfLocal b x e met unmet) k h = ap by_atom (done h)
  own-kind (ProcForm-F.Send b s x e) k h = ap by_atom (done h)
  own-kind (ProcForm-F.Post b x e) k h = ap by_atom (done h)
  own-kind (ProcForm-F.If e met unmet) k h = ap by_atom (done h)
  own-kind (ProcForm-F.Let pat e body) k h = ap by_atom (done h)
  own-kind (ProcForm-F.Print e) k h = ap by_atom (done h)
  own-kind (ProcForm-F.Open e) k h = ap by_atom (done h)
  own-kind (ProcForm-F.Lookup a m x met unmet) k h = ap by_atom (done h)

  takes-none : (k : Kind) (e : Event) → by_atom k ≡ true → TakesPutFirst k (travels start events) e
  takes-none kind.Arrive e h = absurd (let e = h in cc)
  takes-none kind.Land e h = absurd (let e = h in cc)
  takes-none k e h = tt

  begun-goes : (m : Name) (q : Option Name) (s : StandsAt c m) (e : Event) → begun c m q (next_name (names_made events) (seat_of c m)) (later_name (names_made events) (seat_of c m)) ≡ Some e
      → GoesOn start events e
  begun-goes m q s e is =
      let at : ℕ = s.site in
      let led : begun_at c m q (next_name (names_made events) at) (later_name (names_made events) at) s.atom (place.At at) ≡ Some e =
      sym (ap (λ n. begun_at c m q (next_name (names_made events) n) (later_name (names_made events) n) s.atom (place.At at)) (seated m s))
      ∙ sym (ap (λ (x : Option Place). x >>= λ p. begun_at c m q (next_name (names_made events) (seat_of c m)) (later_name (names_made events) (seat_of c m)) s.atom p) s.at)
      ∙ sym (ap (λ (x : Option Atom). x >>= λ a. map.get c.places a.agent >>= λ p. begun_at c m q (next_name (names_made events) (seat_of c m)) (later_name (names_made events) (seat_of c m)) a p) s.there)
      ∙ is in
      then (begun_by (layer s.atom.proc)) _ led λ k begins led.
      subst (GoesOn start events) (sym (done led)) (record {
        names = next-made at s.atom.env (layer s.atom.proc) at (names_made events at);
        takes = takes-none k _ (own-kind (layer s.atom.proc) k begins);
      })

  goes-on : (u : Choice) (e : Event) → IsTurn c (travels start events) u → own_event c (names_made events) u ≡ Some e → GoesOn start events e
  goes-on (choice.Arrives a) e turn is = then (map.get c.places a) _ is λ p there is. then (way p) _ is λ s comes is.
      let to : Some turn.0 ≡ Some s = sym turn.1 ∙ ap heading there ∙ comes in
      let same : turn.0 ≡ s = cc in
      subst (GoesOn start events) (sym (done is)) (record { names = tt; takes = subst (IsPutFirst (travels start events) (item.Agent a)) same turn.2 })
  goes-on (choice.Lands m) e turn is = then (map.get c.packets m) _ is λ p there is.
      let to : Some turn.0 ≡ Some p.to = sym turn.1 ∙ ap target there in
      let same : turn.0 ≡ p.to = cc in
      subst (GoesOn start events) (sym (done is)) (record { names = tt; takes = subst (IsPutFirst (travels start events) (item.Packet m)) same turn.2 })
  goes-on (choice.Acts m) e turn is = begun-goes m None turn e is
  goes-on (choice.Meets i j) e turn is = begun-goes i (Some j) turn e is

  -- the event of a choice that is in turn
  served-turn : (s u : Choice) → in_turn c (first_beside (travels start events)) s ≡ Some u → IsChoice c u → IsTurn c (travels start events) u → IsServed start events c s
  served-turn s u led is turn =
      let g = each-can-go c u (next_name (names_made events) (site_of c u)) (later_name (names_made events) (site_of c u)) reached is (names-new u turn) in
      let enabled = g.2.enabled in record {
        event = g.0;
        is = ap (λ x. x >>= own_event c (names_made events)) led ∙ g.1;
        enabled = enabled;
        ours = (ours-goes-on start c enabled.0 events g.0 r.reaches enabled.1 r.ours).1 (goes-on u g.0 turn g.1);
      }

  pub served : (s : Choice) → IsChoice c s → IsServed start events c s
  served s is = let u = turned s is in served-turn s u.0 u.1 u.2 u.3

pub each-is-served : EachIsServed
each-is-served start c events s r is = served start c events r s is

-- ---- what is noted

module _ (start c : Config) (notes : Notes) (events : List Event) (course : IsCourse start c notes events) where
  -- what is noted tells the same event as the run itself
  pub noted-event : (s : Choice) → event_in_turn c (noted_first notes) (noted_count notes) s ≡ event_behind start events c s
  noted-event s =
      ap (λ f. event_in_turn c f (noted_count notes) s) (first-noted notes start events course.noted)
      ∙ ap (λ n. event_in_turn c (first_beside (travels start events)) n s) (count-noted notes start events course.noted)

  pub noted-served : (s : Choice) → IsChoice c s → (e : Event) × (event_in_turn c (noted_first notes) (noted_count notes) s ≡ Some e) × Has (apply c e) × IsOursFrom start (events ++ e ∷ [])
  noted-served s is = let v = served start c events course.run s is in (v.event, noted-event s ∙ v.is, v.enabled, v.ours)

  -- and goes on to do so
  pub course-goes-on : (s : Choice) (e : Event) (d : Config) (new : Notes) (met : Bool) → IsChoice c s → event_in_turn c (noted_first notes) (noted_count notes) s ≡ Some e → apply c e ≡ Some d
      → (IsNoted met new start (events ++ e ∷ [])) → run start (events ++ e ∷ []) ≡ Some d → IsCourse start d new (events ++ e ∷ [])
  course-goes-on s e d new met is made applies noted reaches =
      let v = noted-served s is in
      let same : v.0 ≡ e = (let x : Some v.0 ≡ Some e = sym v.1 ∙ made in cc) in
      let ours : IsOursFrom start (events ++ e ∷ []) = subst (λ (x : Event). IsOursFrom start (events ++ x ∷ [])) same v.3 in
      by_met met noted ours
    where
      by_met : (met : Bool) → IsNoted met new start (events ++ e ∷ []) → IsOursFrom start (events ++ e ∷ []) → IsCourse start d new (events ++ e ∷ [])
      by_met true n ours = record { run = record { own = course.run.own; runs = course.run.runs; reaches = reaches; ours = ours }; noted = n.0 }
      by_met false n ours = absurd (n ours)
