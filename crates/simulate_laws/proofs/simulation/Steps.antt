-- One event of the low level is one of the high level, or none.
use Rattle.std.proofs.Common.{◌≡◌, inl, inr, ℕ, Bool, true, false, ◌||◌, Some, List, ◌∷◌, refl, sym, ap, subst, ◌∙◌}
use Rattle.std.specs.FinSet as set
use Rattle.np_syntax.specs.declared.process.Role.{Role}
use Rattle.np_syntax.specs.declared.process.Role.TheVariants as role
use Rattle.np_syntax.specs.declared.event.Event.{Event}
use Rattle.np_syntax.specs.declared.event.Kind.{Kind}
use Rattle.np_syntax.specs.declared.event.Kind.TheVariants as kind
use Rattle.np_syntax.specs.declared.event.Made.{Made}
use Rattle.np_syntax.specs.declared.event.Made.TheVariants as made
use Rattle.np_syntax.specs.Options.{◌>>=◌}
use Rattle.np_calculus.specs.Config.{Config}
use Rattle.np_calculus.specs.Reductions.{apply, run}
use Rattle.np_calculus.specs.Well.{Well}
use Rattle.np_calculus.specs.Parts.{IsLodged}
use Rattle.np_calculus.specs.Sight.{inside}
use Rattle.np_lift.specs.Posts.{prepended}
use Rattle.np_lift.specs.CachedLift.{Standing, lifted}
use Rattle.np_lift.specs.CachedLaws.{adds_mark, becomes, nothing}
use Rattle.np_lift.proofs.Table.{lifted-by-table}
use Rattle.infrastructure_texts.specs.Infrastructures.{Infrastructure}
use Rattle.simulate_laws.specs.levels.Coupled.{Coupled, View}
use Rattle.simulate_laws.specs.levels.Laws.{IsEvent, event_of, post_of}
use Rattle.simulate_laws.specs.levels.Roles.{may_occur, occurs, occurs_of_messengers}
use Rattle.simulate_laws.proofs.levels.Arrivals.{arrivals-are-events}
use Rattle.simulate_laws.proofs.levels.Creations.{creations-are-events}
use Rattle.simulate_laws.proofs.levels.Departures.{departures-are-events}
use Rattle.simulate_laws.proofs.levels.Hirings.{messengers-are-hired}
use Rattle.simulate_laws.proofs.levels.Ifs.{ifs-are-events}
use Rattle.simulate_laws.proofs.levels.Infrastructure.{others}
use Rattle.simulate_laws.proofs.levels.Lands.{lands}
use Rattle.simulate_laws.proofs.levels.Lets.{lets-are-events}
use Rattle.simulate_laws.proofs.levels.Locals.{locals-are-events}
use Rattle.simulate_laws.proofs.levels.Messengers.{messengers-arrive}
use Rattle.simulate_laws.proofs.levels.News.{news-are-events}
use Rattle.simulate_laws.proofs.levels.Packets.{lands-are-events, sends-are-events}
use Rattle.simulate_laws.proofs.levels.Posts.{posts-are-events}
use Rattle.simulate_laws.proofs.levels.Prints.{prints-are-events}
use Rattle.simulate_laws.proofs.levels.Roles.{roles-of-events}
use Rattle.simulate_laws.proofs.levels.Splits.{forks-are-events}
use Rattle.simulate_laws.proofs.levels.Stops.{stops-are-events}
use Rattle.simulate_laws.proofs.levels.Takes.{communications-are-events, copies-are-events}
use Rattle.simulate_laws.proofs.levels.Tries.{messengers-try}
use Rattle.simulate_laws.specs.simulation.Letters.{LettersLeft}
use Rattle.simulate_laws.proofs.simulation.Agents.{AgentsStand, agents-found, agents-hired, agents-stay, arrival-itself}

pub runs-on : (c d : Config) (e : Event) (es : List Event) → apply c e ≡ Some d → run c (e ∷ es) ≡ run d es
runs-on c d e es h = ap (λ o. o >>= λ m. run m es) h

-- Where the events of the high level lead that an event of the low level is, and what marks stand for then, as the list says that is read off; and the
-- letters that are under way then.
pub record Step (i : Infrastructure) (n from first : ℕ) (low : Config) (v : View) (next high : Config) (e : Event) : Type 0 where
  pub then : Config
  pub runs : (es : List Event) → run high (prepended (lifted v.standing e).event es) ≡ run then es
  pub view : View
  pub coupled : Coupled i n from first next then view
  pub stand : view.standing ≡ (lifted v.standing e).standing
  pub agents : AgentsStand next view.standing
  pub letters : LettersLeft e.kind e.tag.role low next then e v view

-- the source's own events, but for arrivals
by-kind : {i : Infrastructure} → (k : Kind) → occurs role.Plain k ≡ true → (k ≡ kind.Arrive → ⊥) → IsEvent i k
by-kind kind.Stop h other = stops-are-events
by-kind kind.Fork h other = forks-are-events
by-kind kind.New h other = news-are-events
by-kind kind.Let h other = lets-are-events
by-kind kind.If h other = ifs-are-events
by-kind kind.Comm h other = communications-are-events
by-kind kind.Rep h other = copies-are-events
by-kind kind.Agent h other = creations-are-events
by-kind kind.Depart h other = departures-are-events
by-kind kind.Arrive h other = absurd (other refl)
by-kind kind.Local h other = locals-are-events
by-kind kind.Send h other = sends-are-events
by-kind kind.Land h other = lands-are-events
by-kind kind.Print h other = prints-are-events
by-kind _ h other = absurd cc

-- the central infrastructure has no events that the other has not
with-caches : (i : Infrastructure) (r : Role) (k : Kind) → may_occur i r k ≡ true → may_occur Infrastructure.cached r k ≡ true
with-caches Infrastructure.central r k h = ap (λ b. b || occurs_of_messengers r k) h
with-caches Infrastructure.cached r k h = h

-- the infrastructure adds marks in tests alone, and where a name is made
nameless : (r : Role) (k : Kind) → adds_mark r k made.Nothing ≡ false
nameless role.Post kind.Agent = refl
nameless role.Infra kind.Local = refl
nameless _ _ = refl

not-local : (k : Kind) (names : Made) → (k ≡ kind.Local → ⊥) → adds_mark role.Infra k names ≡ false
not-local kind.Local names other = absurd (other refl)
not-local _ names other = refl

module _ {i : Infrastructure} {n from first : ℕ} {low high : Config} {v : View} (c : Coupled i n from first low high v) (agents : AgentsStand low v.standing) (well : Well high)
    (lodged : IsLodged (inside high)) (e : Event) (next : Config) (h : apply low e ≡ Some next) where
  abbrev Steps : Type 0
  Steps = Step i n from first low v next high e

  -- what an event of its kind and role makes of the letters it makes of them
  at-event : (k : Kind) (r : Role) → e.kind ≡ k → e.tag.role ≡ r → (then : Config) (w : View) → LettersLeft k r low next then e v w
      → LettersLeft e.kind e.tag.role low next then e v w
  at-event k r its-kind its-role then w l =
      subst (λ s. LettersLeft e.kind s low next then e v w) (sym its-role) (subst (λ j. LettersLeft j r low next then e v w) (sym its-kind) l)

  -- nothing at the high level
  quiet : (s : Standing) → lifted v.standing e ≡ nothing s → (w : View) → w.standing ≡ s → AgentsStand next w.standing → Coupled i n from first next high w
      → LettersLeft e.kind e.tag.role low next high e v w → Steps
  quiet s is w stand stay coupled letters = record {
    then = high;
    runs = λ es. ap (λ l. run high (prepended l.event es)) is;
    view = w;
    coupled = coupled;
    stand = stand ∙ sym (ap (λ l. l.standing) is);
    agents = stay;
    letters = letters;
  }

  -- one event
  one : (s : Standing) (d : Event) → lifted v.standing e ≡ record { event = Some d; standing = s } → (then : Config) → apply high d ≡ Some then → (w : View) → w.standing ≡ s
      → AgentsStand next w.standing → Coupled i n from first next then w → LettersLeft e.kind e.tag.role low next then e v w → Steps
  one s d is then applies w stand stay coupled letters = record {
    then = then;
    runs = λ es. ap (λ l. run high (prepended l.event es)) is ∙ runs-on high then d es applies;
    view = w;
    coupled = coupled;
    stand = stand ∙ sym (ap (λ l. l.standing) is);
    agents = stay;
    letters = letters;
  }

  -- where what marks stand for stays
  abbrev Quiet : Kind → Role → Type 0
  Quiet k r = (w : View) × (w.standing ≡ v.standing) × Coupled i n from first next high w × LettersLeft k r low next high e v w

  same-quiet : (k : Kind) (r : Role) → e.kind ≡ k → e.tag.role ≡ r → lifted v.standing e ≡ nothing v.standing → Quiet k r → Steps
  same-quiet k r its-kind its-role is w =
      quiet v.standing is w.0 w.1 (agents-stay c agents e next h w.0.standing w.1) w.2 (at-event k r its-kind its-role high w.0 w.3)

  abbrev OneOf : Kind → Role → Event → Type 0
  OneOf k r d = (then : Config) × (apply high d ≡ Some then) × (w : View) × (w.standing ≡ v.standing) × Coupled i n from first next then w
      × LettersLeft k r low next then e v w

  same-one : (k : Kind) (r : Role) → e.kind ≡ k → e.tag.role ≡ r → (d : Event) → lifted v.standing e ≡ becomes v.standing d → OneOf k r d → Steps
  same-one k r its-kind its-role d is w =
      one v.standing d is w.0 w.1 w.2 w.3 (agents-stay c agents e next h w.2.standing w.3) w.4 (at-event k r its-kind its-role w.0 w.2 w.5)

  may-have : (r : Role) → e.tag.role ≡ r → may_occur Infrastructure.cached r e.kind ≡ true
  may-have r is = with-caches i r e.kind (ap (λ s. may_occur i s e.kind) (sym is) ∙ roles-of-events n from first low high v c e next h)

  -- ---- the infrastructure's own

  of-test : e.tag.role ≡ role.Infra → e.kind ≡ kind.Local → Steps
  of-test infra is = let t = messengers-try n from first low high v c e next is infra h in elim t.2 [
    | inl f ↦ quiet _ (lifted-by-table.found v.standing e f.mark infra is f.made_one) t.0 f.standing (agents-found c agents e next h is f.mark f.made_one t.0.standing f.standing) t.1
        (at-event kind.Local role.Infra is infra high t.0 (inl f))
    | inr m ↦ same-quiet kind.Local role.Infra is infra (lifted-by-table.infra v.standing e infra (ap (adds_mark e.tag.role e.kind) m.made_none ∙ nameless e.tag.role e.kind)) (t.0, m.standing, t.1, inr m)
  ]

  of-infra : e.tag.role ≡ role.Infra → (k : Kind) → e.kind ≡ k → Steps
  of-infra infra kind.Local is = of-test infra is
  of-infra infra k is =
      let w = others i k (λ t. cc) n from first low high v c e next is infra h in
      same-quiet k role.Infra is infra (lifted-by-table.infra v.standing e infra (ap (λ r. adds_mark r e.kind e.made) infra ∙ not-local e.kind e.made (λ t. let bad = sym is ∙ t in cc))) w

  -- ---- posts

  of-hiring : e.tag.role ≡ role.Post → e.kind ≡ kind.Agent → Steps
  of-hiring post is =
      let w = messengers-are-hired n from first low high v c well lodged e next is post h in
      let l = w.4 in
      one _ (post_of v e) (lifted-by-table.messenger v.standing e l.messenger l.mark post is l.made_two) w.0 w.1 w.2 l.standing
      (agents-hired c agents e next h is l.messenger l.mark l.made_two w.2.standing l.standing) w.3 (at-event kind.Agent role.Post is post w.0 w.2 l)

  of-post : e.tag.role ≡ role.Post → (k : Kind) → e.kind ≡ k → may_occur Infrastructure.cached role.Post k ≡ true → Steps
  of-post post kind.Agent is may = of-hiring post is
  of-post post kind.Send is may = same-one kind.Send role.Post is post (post_of v e) (lifted-by-table.sent v.standing e post is)
      (posts-are-events n from first low high v c well lodged e next is post h)
  of-post post kind.Land is may = same-quiet kind.Land role.Post is post (lifted-by-table.landing v.standing e post is)
      (lands c e next is (λ plain. let bad : role.Plain ≡ role.Post = sym plain ∙ post in cc) h)
  of-post post _ is may = absurd cc

  -- ---- the source's own, and the arrivals of messengers

  of-arrival : e.tag.role ≡ role.Plain → e.kind ≡ kind.Arrive → (b : Bool) → set.contains v.standing.messengers e.actor ≡ b → Steps
  of-arrival plain is true among = same-quiet kind.Arrive role.Plain is plain (lifted-by-table.arrival v.standing e is among)
      (messengers-arrive n from first low high v c e next is among h)
  of-arrival plain is false among = same-one kind.Arrive role.Plain is plain e
      (lifted-by-table.plain v.standing e plain (λ a. among) ∙ ap (becomes v.standing) (arrival-itself c agents e next h is))
      (arrivals-are-events n from first low high v c well e next is plain among h)

  of-source : e.tag.role ≡ role.Plain → (k : Kind) → e.kind ≡ k → occurs role.Plain k ≡ true → Steps
  of-source plain kind.Arrive is may = of-arrival plain is (set.contains v.standing.messengers e.actor) refl
  of-source plain k is may = same-one k role.Plain is plain (event_of v e) (lifted-by-table.plain v.standing e plain (λ a. let bad = sym is ∙ a in cc))
      (by-kind k may (λ a. absurd cc) n from first low high v c well lodged e next is plain h)

  plain-may : (k : Kind) → may_occur Infrastructure.cached role.Plain k ≡ true → occurs role.Plain k ≡ true
  plain-may k may = left (occurs role.Plain k) may
    where
      left : (b : Bool) → (b || false) ≡ true → b ≡ true
      left true h = refl
      left false h = h

  by-role : (r : Role) → e.tag.role ≡ r → Steps
  by-role role.Infra is = of-infra is e.kind refl
  by-role role.Post is = of-post is e.kind refl (may-have role.Post is)
  by-role role.Plain is = of-source is e.kind refl (plain-may e.kind (may-have role.Plain is))

  pub step : Steps
  step = by-role e.tag.role refl
