-- Each event of the infrastructure is nothing at the high level.
use Rattle.std.proofs.Common.{◌≡◌, ℕ, true, nat_eq, Some, sym, ap, ◌∙◌}
use Rattle.std.specs.FinMap as map
use Rattle.np_syntax.specs.declared.process.Role.TheVariants as role
use Rattle.np_syntax.specs.declared.event.Event.{Event}
use Rattle.np_syntax.specs.declared.event.Kind.{Kind}
use Rattle.np_syntax.specs.declared.event.Kind.TheVariants as kind
use Rattle.np_syntax.proofs.Options.{then, when}
use Rattle.np_calculus.specs.declared.config.Atom.{Atom}
use Rattle.np_calculus.specs.Begins.{begun_by}
use Rattle.np_calculus.specs.Config.{Config}
use Rattle.np_calculus.specs.Reductions.{row, same_tag, way}
use Rattle.np_calculus.specs.Seen.{acting}
use Rattle.np_calculus.specs.Sight.{inside, sight}
unfoldable use Rattle.np_calculus.proofs.Common.{act, arrive_row}
use Rattle.np_calculus.proofs.Rows.{parts}
use Rattle.np_calculus.proofs.Steps.{acting-step, row-step}
use Rattle.np_eval.specs.Forms.{layer}
use Rattle.infrastructure_texts.specs.Infrastructures.{Infrastructure}
use Rattle.simulate_laws.specs.things.Acting.{begins}
use Rattle.simulate_laws.specs.things.Things.{Stage, Thing}
use Rattle.simulate_laws.specs.things.Shapes.{Is}
use Rattle.simulate_laws.specs.levels.Coupled.{Coupled, View}
use Rattle.simulate_laws.specs.levels.Laws.{IsQuiet}
use Rattle.simulate_laws.proofs.levels.Becomes.{opens}
use Rattle.simulate_laws.proofs.levels.Comms.{communicates}
use Rattle.simulate_laws.proofs.levels.Forks.{forks}
use Rattle.simulate_laws.proofs.levels.Lands.{lands}
use Rattle.simulate_laws.proofs.levels.Messengers.{ended, leaves}
use Rattle.simulate_laws.proofs.levels.CacheLookups.{looks_up}
use Rattle.simulate_laws.proofs.levels.Registers.{registers}
use Rattle.simulate_laws.proofs.levels.Sends.{sends}
use Rattle.simulate_laws.proofs.levels.Serves.{serves}
use Rattle.simulate_laws.proofs.levels.Shapes.{of_actor, same_role}
use Rattle.simulate_laws.specs.levels.Letters.{LettersAfter}

-- the kinds of event that the infrastructure never has, but for arrivals
data IsOthers : Kind → Type 0 where
  bind : IsOthers kind.Let
  test : IsOthers kind.If
  agent : IsOthers kind.Agent
  print : IsOthers kind.Print
  post : IsOthers kind.Post

none_begins : (k : Kind) → IsOthers k → (t : Thing) → begins t role.Infra k ≡ true → ⊥
none_begins k IsOthers.bind (Thing.mail m (Stage.in_agent x)) h = cc
none_begins k IsOthers.bind _ h = cc
none_begins k IsOthers.test (Thing.mail m (Stage.in_agent x)) h = cc
none_begins k IsOthers.test _ h = cc
none_begins k IsOthers.agent (Thing.mail m (Stage.in_agent x)) h = cc
none_begins k IsOthers.agent _ h = cc
none_begins k IsOthers.print (Thing.mail m (Stage.in_agent x)) h = cc
none_begins k IsOthers.print _ h = cc
none_begins k IsOthers.post (Thing.mail m (Stage.in_agent x)) h = cc
none_begins k IsOthers.post _ h = cc

no_fork : (k : Kind) → IsOthers k → k ≡ kind.Fork → ⊥
no_fork k IsOthers.bind e = cc
no_fork k IsOthers.test e = cc
no_fork k IsOthers.agent e = cc
no_fork k IsOthers.print e = cc
no_fork k IsOthers.post e = cc

-- without caches it tests for no agent: there is no messenger
no_test : (n from first : ℕ) (t : Thing) (a : Atom) → Is Infrastructure.central n from first t a → begins t role.Infra kind.Local ≡ true → ⊥
no_test n from first (Thing.trying p t a) x i b = absurd (let bad = i.0 in cc)
no_test n from first (Thing.mail m (Stage.in_agent y)) x i b = cc
no_test n from first _ x i b = cc

module _ {i : Infrastructure} {n from first : ℕ} {low high : Config} {v : View} (c : Coupled i n from first low high v) (e : Event) (next : Config) (infra : e.tag.role ≡ role.Infra) where
  no_actor : {A : Type 0} (k : Kind) → IsOthers k → (a : Atom) → acting low e ≡ Some a → begun_by (layer a.proc) ≡ Some k → A
  no_actor k o a acts begun =
      let s = acting-step low e a acts in
      let actor = of_actor c e.actor a k role.Infra s.there begun (same_role a.proc.tag e.tag s.tag ∙ infra) (λ f r. no_fork k o f) in
      absurd (none_begins k o actor.thing actor.its_kind)

  abbrev Done : Kind → Type 0
  Done k = (w : View) × (w.standing ≡ v.standing) × Coupled i n from first next high w × LettersAfter k role.Infra low next e v w

  -- where it is told what a test for an agent is
  by_kind : (e.kind ≡ kind.Local → Done kind.Local) → (k : Kind) → e.kind ≡ k → row k low e ≡ Some next → Done k
  unfolding act arrive_row
  by_kind located kind.Send is h = sends c e next is infra (ap (λ j. row j low e) is ∙ h)
  by_kind located kind.Land is h = lands c e next is (λ plain. let bad : role.Plain ≡ role.Infra = sym plain ∙ infra in cc) (ap (λ j. row j low e) is ∙ h)
  by_kind located kind.Open is h = opens c e next is infra (ap (λ j. row j low e) is ∙ h)
  by_kind located kind.Fork is h = forks c e next is infra (ap (λ j. row j low e) is ∙ h)
  by_kind located kind.Rep is h = serves c e next is infra (ap (λ j. row j low e) is ∙ h)
  by_kind located kind.Lookup is h = looks_up c e next is infra (ap (λ j. row j low e) is ∙ h)
  by_kind located kind.Comm is h = communicates c e next is infra (ap (λ j. row j low e) is ∙ h)
  by_kind located kind.New is h = registers c e next is infra (ap (λ j. row j low e) is ∙ h)
  by_kind located kind.Stop is h = ended c e next is infra (ap (λ j. row j low e) is ∙ h)
  by_kind located kind.Depart is h = leaves c e next is infra (ap (λ j. row j low e) is ∙ h)
  by_kind located kind.Local is h = located is
  by_kind located kind.Arrive is h =
      then (map.get low.places e.actor) _ (row-step low e next kind.Arrive h).gives λ p there g. then (way p) _ g λ s comes g. when (nat_eq s e.site) _ g λ here g.
      when (same_tag e.tag (record { node = 0; role = role.Plain })) _ g λ tag g. absurd (let bad : role.Infra ≡ role.Plain = sym infra ∙ same_role e.tag (record { node = 0; role = role.Plain }) tag in cc)
  by_kind located kind.Let is h = then (acting low e) _ (row-step low e next kind.Let h).gives λ a acts g. parts kind.Let (sight low.sites (inside low) e.site) e a g λ p form g. no_actor kind.Let IsOthers.bind a acts (ap begun_by form)
  by_kind located kind.If is h = then (acting low e) _ (row-step low e next kind.If h).gives λ a acts g. parts kind.If (sight low.sites (inside low) e.site) e a g λ p form g. no_actor kind.If IsOthers.test a acts (ap begun_by form)
  by_kind located kind.Agent is h = then (acting low e) _ (row-step low e next kind.Agent h).gives λ a acts g. parts kind.Agent
      (sight low.sites (inside low) e.site) e a g λ p form g. no_actor kind.Agent IsOthers.agent a acts (ap begun_by form)
  by_kind located kind.Print is h = then (acting low e) _ (row-step low e next kind.Print h).gives λ a acts g. parts kind.Print
      (sight low.sites (inside low) e.site) e a g λ p form g. no_actor kind.Print IsOthers.print a acts (ap begun_by form)
  by_kind located kind.Post is h = then (acting low e) _ (row-step low e next kind.Post h).gives λ a acts g. parts kind.Post (sight low.sites (inside low) e.site) e a g λ p form g. no_actor kind.Post IsOthers.post a acts (ap begun_by form)

-- but for tests for agents, of each infrastructure
pub others : (i : Infrastructure) (k : Kind) → (k ≡ kind.Local → ⊥) → IsQuiet i k role.Infra
others i k other n from first low high v c e next is infra h = by_kind c e next infra (λ test. absurd (other (sym is ∙ test))) k is (ap (λ j. row j low e) (sym is) ∙ h)

pub infrastructure : (k : Kind) → IsQuiet Infrastructure.central k role.Infra
unfolding act
infrastructure k n from first low high v c e next is infra h = by_kind c e next infra none k is (ap (λ j. row j low e) (sym is) ∙ h)
  where
    none : e.kind ≡ kind.Local → (w : View) × (w.standing ≡ v.standing) × Coupled Infrastructure.central n from first next high w × LettersAfter kind.Local role.Infra low next e v w
    none local_test =
        then (acting low e) _ (row-step low e next kind.Local (ap (λ j. row j low e) (sym local_test) ∙ h)).gives λ a acts g.
        parts kind.Local (sight low.sites (inside low) e.site) e a g λ p form g.
        let s = acting-step low e a acts in
        let o = of_actor c e.actor a kind.Local role.Infra s.there (ap begun_by form) (same_role a.proc.tag e.tag s.tag ∙ infra) (λ k r. cc) in
        absurd (no_test n from first o.thing a o.is o.its_kind)
