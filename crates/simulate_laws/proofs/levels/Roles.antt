-- Which kinds of events there are of each role.
use Rattle.std.proofs.Common.{◌≡◌, ℕ, true, nat_eq, None, Some, List, refl, sym, ap, subst, ◌∙◌, ◌||◌}
use Rattle.std.specs.FinMap as map
use Rattle.np_syntax.specs.declared.value.Name.{Name}
use Rattle.np_syntax.specs.declared.value.Value.{Value}
use Rattle.np_syntax.specs.declared.expression.Expr.{Expr}
use Rattle.np_syntax.specs.declared.process.Role.{Role}
use Rattle.np_syntax.specs.declared.process.Role.TheVariants as role
use Rattle.np_syntax.specs.declared.process.Proc.{Proc}
use Rattle.np_syntax.specs.declared.process.ProcForm.TheVariants as forms
use Rattle.np_syntax.specs.declared.event.Event.{Event}
use Rattle.np_syntax.specs.declared.event.Kind.{Kind}
use Rattle.np_syntax.specs.declared.event.Kind.TheVariants as kind
use Rattle.np_syntax.proofs.Options.{then, when, done}
use Rattle.np_calculus.specs.declared.config.Atom.{Atom}
use Rattle.np_calculus.specs.Begins.{begun_by}
use Rattle.np_calculus.specs.Config.{Config}
use Rattle.np_calculus.specs.Reductions.{row, same_tag, way}
use Rattle.np_calculus.specs.Seen.{acting}
use Rattle.np_calculus.specs.Sight.{inside, sight}
unfoldable use Rattle.np_calculus.proofs.Common.{act, arrive_row}
use Rattle.np_calculus.proofs.Rows.{parts}
use Rattle.np_calculus.proofs.Steps.{acting-step, row-step}
use Rattle.np_eval.specs.Forms.{Layer, layer}
use Rattle.simulate_laws.specs.protocol.Chips.{Service}
use Rattle.np_scope.specs.Sound.{IsSoundProc}
use Rattle.np_scope.proofs.SoundParts.{ProcParts, proc-parts}
use Rattle.infrastructure_texts.specs.Infrastructures.{Infrastructure}
use Rattle.daemon_encode.specs.Translates.{Translates}
use Rattle.simulate_laws.specs.things.Desks.{desk}
use Rattle.simulate_laws.specs.things.Mail.{Mail}
use Rattle.simulate_laws.specs.things.Shapes.{Are, Gives, Is, IsMail, WaitsFor}
use Rattle.simulate_laws.specs.things.Things.{Stage, Thing}
use Rattle.simulate_laws.proofs.things.Acting.{PostBegins, output-begins, post-begins, source-plain}
use Rattle.simulate_laws.specs.levels.Coupled.{Coupled, View}
use Rattle.simulate_laws.specs.levels.Laws.{RolesOfEvents}
use Rattle.simulate_laws.specs.levels.Roles.{may_occur, occurs, occurs_of_messengers}
use Rattle.simulate_laws.proofs.levels.Quiet.{or_second}
use Rattle.simulate_laws.proofs.levels.Shapes.{of_atom, same_role}

-- what occurs by each infrastructure, and what occurs with caches alone
always : (i : Infrastructure) (r : Role) (k : Kind) → occurs r k ≡ true → may_occur i r k ≡ true
always Infrastructure.central r k h = h
always Infrastructure.cached r k h = ap (λ t. t || occurs_of_messengers r k) h

with_caches : (i : Infrastructure) (r : Role) (k : Kind) → i ≡ Infrastructure.cached → occurs_of_messengers r k ≡ true → may_occur i r k ≡ true
with_caches i r k is h = ap (λ j. may_occur j r k) is ∙ or_second (occurs r k) (occurs_of_messengers r k) h

-- the kind that a form begins
same-kind : (i : Infrastructure) (l : Layer) (j k : Kind) (r : Role) → begun_by l ≡ Some j → begun_by l ≡ Some k → may_occur i r j ≡ true → may_occur i r k ≡ true
same-kind i l j k r is begun may = ap (may_occur i r) (done (sym is ∙ begun)) ∙ may

no-kind : {A : Type 0} (k : Kind) → None ≡ Some k → A
no-kind k e = absurd cc

-- ---- processes of the source

module _ (i : Infrastructure) (n from : ℕ) (k : Kind) where
  plainly : (r : Role) (l : Layer) (j : Kind) → r ≡ role.Plain → begun_by l ≡ Some j → begun_by l ≡ Some k → occurs role.Plain j ≡ true → may_occur i r k ≡ true
  plainly r l j plain is begun may = ap (λ r. may_occur i r k) plain ∙ same-kind i l j k role.Plain is begun (always i role.Plain j may)

  of-post : (q : Proc) → PostBegins q → begun_by (layer q) ≡ Some k → may_occur i q.tag.role k ≡ true
  of-post q (PostBegins.is_sent r is) b = ap (λ r. may_occur i r k) r ∙ same-kind i (layer q) kind.Send k role.Post is b (always i role.Post kind.Send refl)
  of-post q (PostBegins.takes_cache r is) b = ap (λ r. may_occur i r k) r ∙ same-kind i (layer q) kind.Comm k role.Infra is b (always i role.Infra kind.Comm refl)

  of-source : {scope bound : List ℕ} {node after : ℕ} (a : Expr) (p q : Proc) → Translates i n from a p q → IsSoundProc n scope node p after bound → begun_by (layer q) ≡ Some k
      → may_occur i q.tag.role k ≡ true
  of-source a p q Translates.stop s b = plainly q.tag.role (layer q) kind.Stop (source-plain s) (ap begun_by forms.outs-Stop) b refl
  of-source a p q (Translates.parallel x y) s b = plainly q.tag.role (layer q) kind.Fork (source-plain s) (ap begun_by (forms.outs-Par _ _)) b refl
  of-source a p q (Translates.channel x) s b = plainly q.tag.role (layer q) kind.New (source-plain s) (ap begun_by (forms.outs-New _ _ _)) b refl
  of-source a p q Translates.output s b = no-kind k (sym (ap begun_by (forms.outs-Out _ _)) ∙ b)
  of-source a p q (Translates.input x) s b = plainly q.tag.role (layer q) kind.Comm (source-plain s) (ap begun_by (forms.outs-Inp _ _ _)) b refl
  of-source a p q (Translates.replicated x) s b = plainly q.tag.role (layer q) kind.Rep (source-plain s) (ap begun_by (forms.outs-Rep _ _ _)) b refl
  of-source a p q (Translates.agent c d f g z x y) s b = same-kind i (layer q) kind.Comm k role.Infra (ap begun_by (forms.outs-Inp _ _ _)) b (always i role.Infra kind.Comm refl)
  of-source a p q (Translates.migrate x) s b = same-kind i (layer q) kind.Comm k role.Infra (ap begun_by (forms.outs-Inp _ _ _)) b (always i role.Infra kind.Comm refl)
  of-source a p q (Translates.iflocal x y) s b = plainly q.tag.role (layer q) kind.Local (source-plain s) (ap begun_by (forms.outs-IfLocal _ _ _ _ _)) b refl
  of-source a p q Translates.send s b = plainly q.tag.role (layer q) kind.Send (source-plain s) (ap begun_by (forms.outs-Send _ _ _ _)) b refl
  of-source a p q (Translates.post {k = tag} {m = m} {b = to} {c = c} {v = v} above) s b = of-post q (post-begins i n tag.node a to c v m) b
  of-source a p q (Translates.test x y) s b = plainly q.tag.role (layer q) kind.If (source-plain s) (ap begun_by (forms.outs-If _ _ _)) b refl
  of-source a p q (Translates.bind x) s b = plainly q.tag.role (layer q) kind.Let (source-plain s) (ap begun_by (forms.outs-Let _ _ _)) b refl
  of-source a p q Translates.print s b = plainly q.tag.role (layer q) kind.Print (source-plain s) (ap begun_by (forms.outs-Print _)) b refl
  of-source {scope = scope} {bound = bound} {node = node} {after = after} a p q Translates.open_letter s b = absurd (subst (ProcParts n scope node after bound) (forms.outs-Open _) (proc-parts n s))
  of-source {scope = scope} {bound = bound} {node = node} {after = after} a p q (Translates.lookup x y) s b = absurd (subst (ProcParts n scope node after bound) (forms.outs-Lookup _ _ _ _ _) (proc-parts n s))

-- ---- things

module _ (i : Infrastructure) (n from first : ℕ) (low : Atom) (k : Kind) (begun : begun_by (layer low.proc) ≡ Some k) where
  gives-none : {A : Type 0} {a chan : Name} {v : Value} → Gives a chan v low → A
  gives-none g = absurd (output-begins low _ k g.gives begun)

  -- by the text of the process
  by-text : (p : Proc) (j : Kind) → low.proc ≡ p → begun_by (layer p) ≡ Some j → may_occur i p.tag.role j ≡ true → may_occur i low.proc.tag.role k ≡ true
  by-text p j is its may = ap (λ (q : Proc). may_occur i q.tag.role k) is ∙ same-kind i (layer p) j k p.tag.role its (ap (λ (q : Proc). begun_by (layer q)) (sym is) ∙ begun) may

  by-layer : (l : Layer) (j : Kind) → layer low.proc ≡ l → begun_by l ≡ Some j → low.proc.tag.role ≡ role.Infra → may_occur i role.Infra j ≡ true → may_occur i low.proc.tag.role k ≡ true
  by-layer l j is its infra may = ap (λ r. may_occur i r k) infra ∙ same-kind i l j k role.Infra its (ap begun_by (sym is) ∙ begun) may

  looks : (s : Service) → low.proc ≡ (desk n first s).body → may_occur i low.proc.tag.role k ≡ true
  looks Service.registers is = by-text _ kind.New is (ap begun_by (forms.outs-New _ _ _)) (always i role.Infra kind.New refl)
  looks Service.grants is = by-text _ kind.Lookup is (ap begun_by (forms.outs-Lookup _ _ _ _ _)) (always i role.Infra kind.Lookup refl)
  looks Service.notes_moves is = by-text _ kind.Lookup is (ap begun_by (forms.outs-Lookup _ _ _ _ _)) (always i role.Infra kind.Lookup refl)
  looks Service.passes_on is = by-text _ kind.Lookup is (ap begun_by (forms.outs-Lookup _ _ _ _ _)) (always i role.Infra kind.Lookup refl)
  looks Service.tells is = by-text _ kind.Lookup is (ap begun_by (forms.outs-Lookup _ _ _ _ _)) (always i role.Infra kind.Lookup refl)
  looks Service.ends_deliveries is = by-text _ kind.Lookup is (ap begun_by (forms.outs-Lookup _ _ _ _ _)) (always i role.Infra kind.Lookup refl)

  wants : (m : Mail) (l : Name) → WaitsFor n first m l low → may_occur i low.proc.tag.role k ≡ true
  wants (Mail.migrating a) l w = by-text _ kind.Comm w.0 (ap begun_by (forms.outs-Inp _ _ _)) (always i role.Infra kind.Comm refl)
  wants (Mail.message p) l w = by-text _ kind.Comm w.0 (ap begun_by (forms.outs-Inp _ _ _)) (always i role.Infra kind.Comm refl)
  wants _ l w = absurd w

  mails : (m : Mail) (stage : Stage) → IsMail n m stage low → may_occur i low.proc.tag.role k ≡ true
  mails m (Stage.in_agent x) j = by-layer _ kind.Send j.0.is refl j.0.role (always i role.Infra kind.Send refl)
  mails m Stage.on_the_way i = absurd i
  mails m Stage.there i = gives-none i

  of-thing : (t : Thing) → Is i n from first t low → may_occur i low.proc.tag.role k ≡ true
  of-thing (Thing.source a h) j = of-source i n from k a h.proc low.proc j.translates j.stands.source.sound begun
  of-thing (Thing.asking a h) j = by-text _ kind.Comm j.is (ap begun_by (forms.outs-Inp _ _ _)) (always i role.Infra kind.Comm refl)
  of-thing (Thing.leaving a h) j = by-text _ kind.Depart j.is (ap begun_by (forms.outs-Migrate _ _)) (always i role.Plain kind.Depart refl)
  of-thing (Thing.settling a h s) j = by-text _ kind.Comm j.is (ap begun_by (forms.outs-Inp _ _ _)) (always i role.Infra kind.Comm refl)
  of-thing (Thing.making a h s) j = by-text _ kind.Agent j.is (ap begun_by (forms.outs-Agent _ _ _)) (always i role.Plain kind.Agent refl)
  of-thing (Thing.beginning a h p s) j = by-text _ kind.Comm j.is (ap begun_by (forms.outs-Inp _ _ _)) (always i role.Infra kind.Comm refl)
  of-thing (Thing.calling a h ps) j = by-text _ kind.Lookup j.2.is (ap begun_by (forms.outs-Lookup _ _ _ _ _)) (always i role.Infra kind.Lookup refl)
  of-thing (Thing.hoping a h l) j = by-text _ kind.Comm j.2.is (ap begun_by (forms.outs-Inp _ _ _)) (always i role.Infra kind.Comm refl)
  of-thing (Thing.hiring a h) j = by-text _ kind.Agent j.2.is (ap begun_by (forms.outs-Agent _ _ _)) (with_caches i role.Post kind.Agent j.0 refl)
  of-thing (Thing.passing a h) j = by-text _ kind.Send j.2.is (ap begun_by (forms.outs-Send _ _ _ _)) (always i role.Post kind.Send refl)
  of-thing (Thing.cache a ps) j = gives-none j.1
  of-thing (Thing.hint a l) j = gives-none j.1.1
  of-thing (Thing.keeping a) j = by-text _ kind.Rep j.1.is (ap begun_by (forms.outs-Rep _ _ _)) (always i role.Infra kind.Rep refl)
  of-thing (Thing.told a) j = by-text _ kind.Comm j.1.is (ap begun_by (forms.outs-Inp _ _ _)) (always i role.Infra kind.Comm refl)
  of-thing (Thing.telling a ps) j = by-text _ kind.Lookup j.1.is (ap begun_by (forms.outs-Lookup _ _ _ _ _)) (always i role.Infra kind.Lookup refl)
  of-thing (Thing.replacing a l) j = by-text _ kind.Comm j.1.is (ap begun_by (forms.outs-Inp _ _ _)) (always i role.Infra kind.Comm refl)
  of-thing (Thing.adding a ps b) j = by-text _ kind.New j.1.is (ap begun_by (forms.outs-New _ _ _)) (always i role.Infra kind.New refl)
  of-thing (Thing.carrying p t a) j = by-text _ kind.Depart j.1.is (ap begun_by (forms.outs-Migrate _ _)) (with_caches i role.Infra kind.Depart j.0 refl)
  of-thing (Thing.trying p t a) j = by-text _ kind.Local j.1.is (ap begun_by (forms.outs-IfLocal _ _ _ _ _)) (with_caches i role.Infra kind.Local j.0 refl)
  of-thing Thing.ended j = by-text _ kind.Stop j.1.is (ap begun_by forms.outs-Stop) (with_caches i role.Infra kind.Stop j.0 refl)
  of-thing (Thing.looking_back a b l ps) j = by-text _ kind.Lookup j.is (ap begun_by (forms.outs-Lookup _ _ _ _ _)) (always i role.Infra kind.Lookup refl)
  of-thing (Thing.reading a b l m) j = by-text _ kind.Comm j.is (ap begun_by (forms.outs-Inp _ _ _)) (always i role.Infra kind.Comm refl)
  of-thing (Thing.reading_back a l) j = by-text _ kind.Comm j.is (ap begun_by (forms.outs-Inp _ _ _)) (always i role.Infra kind.Comm refl)
  of-thing (Thing.opened p) j = no-kind k (sym (ap (λ (a : Atom). begun_by (layer a.proc)) j.is ∙ ap begun_by (forms.outs-Out _ _)) ∙ begun)
  of-thing (Thing.token a s) j = gives-none j.0
  of-thing (Thing.letters a) j = by-text _ kind.Rep j.is (ap begun_by (forms.outs-Rep _ _ _)) (always i role.Infra kind.Rep refl)
  of-thing (Thing.opening p) j = by-layer _ kind.Open j.0.is refl j.0.role (always i role.Infra kind.Open refl)
  of-thing (Thing.mail m stage) j = mails m stage j
  of-thing (Thing.taken m) j = by-text _ kind.Comm j.is (ap begun_by (forms.outs-Inp _ _ _)) (always i role.Infra kind.Comm refl)
  of-thing (Thing.looking m ps) j = looks j.service j.is
  of-thing (Thing.wanting m l) j = wants m l j.waits
  of-thing (Thing.serving s) j = by-text _ kind.Rep j.is (ap begun_by (forms.outs-Rep _ _ _)) (always i role.Infra kind.Rep refl)
  of-thing (Thing.places ps) j = gives-none j
  of-thing (Thing.free l s) j = gives-none j
  of-thing (Thing.packet p) j = absurd j

  -- a bracket splits
  of-things : (ts : List Thing) → Are i n from first low ts → may_occur i low.proc.tag.role k ≡ true
  of-things ts (Are.one {t = t} j) = of-thing t j
  of-things ts (Are.both is a b) = by-text _ kind.Fork is (ap begun_by (forms.outs-Par _ _)) (always i role.Infra kind.Fork refl)

-- ---- events

landing : (i : Infrastructure) (r : Role) → may_occur i r kind.Land ≡ true
landing i role.Plain = always i role.Plain kind.Land refl
landing i role.Post = always i role.Post kind.Land refl
landing i role.Infra = always i role.Infra kind.Land refl

module _ {i : Infrastructure} {n from first : ℕ} {low high : Config} {v : View} (c : Coupled i n from first low high v) (e : Event) (next : Config) where
  by_actor : (k : Kind) (a : Atom) → acting low e ≡ Some a → begun_by (layer a.proc) ≡ Some k → may_occur i e.tag.role k ≡ true
  by_actor k a acts begun =
      let s = acting-step low e a acts in
      let o = of_atom c e.actor a s.there in
      ap (λ r. may_occur i r k) (sym (same_role a.proc.tag e.tag s.tag)) ∙ of-things i n from first a k begun o.things o.are

  by_kind : (k : Kind) → row k low e ≡ Some next → may_occur i e.tag.role k ≡ true
  unfolding act arrive_row
  by_kind kind.Land h = landing i e.tag.role
  by_kind kind.Arrive h =
      then (map.get low.places e.actor) _ (row-step low e next kind.Arrive h).gives λ p there g. then (way p) _ g λ s comes g. when (nat_eq s e.site) _ g λ here g.
      when (same_tag e.tag (record { node = 0; role = role.Plain })) _ g λ tag g. ap (λ r. may_occur i r kind.Arrive) (same_role e.tag (record { node = 0; role = role.Plain }) tag) ∙ always i role.Plain kind.Arrive refl
  by_kind kind.Stop h = then (acting low e) _ (row-step low e next kind.Stop h).gives λ a acts g. parts kind.Stop (sight low.sites (inside low) e.site) e a g λ p form g. by_actor kind.Stop a acts (ap begun_by form)
  by_kind kind.Fork h = then (acting low e) _ (row-step low e next kind.Fork h).gives λ a acts g. parts kind.Fork (sight low.sites (inside low) e.site) e a g λ p form g. by_actor kind.Fork a acts (ap begun_by form)
  by_kind kind.New h = then (acting low e) _ (row-step low e next kind.New h).gives λ a acts g. parts kind.New (sight low.sites (inside low) e.site) e a g λ p form g. by_actor kind.New a acts (ap begun_by form)
  by_kind kind.Let h = then (acting low e) _ (row-step low e next kind.Let h).gives λ a acts g. parts kind.Let (sight low.sites (inside low) e.site) e a g λ p form g. by_actor kind.Let a acts (ap begun_by form)
  by_kind kind.If h = then (acting low e) _ (row-step low e next kind.If h).gives λ a acts g. parts kind.If (sight low.sites (inside low) e.site) e a g λ p form g. by_actor kind.If a acts (ap begun_by form)
  by_kind kind.Comm h = then (acting low e) _ (row-step low e next kind.Comm h).gives λ a acts g. parts kind.Comm (sight low.sites (inside low) e.site) e a g λ p form g. by_actor kind.Comm a acts (ap begun_by form)
  by_kind kind.Rep h = then (acting low e) _ (row-step low e next kind.Rep h).gives λ a acts g. parts kind.Rep (sight low.sites (inside low) e.site) e a g λ p form g. by_actor kind.Rep a acts (ap begun_by form)
  by_kind kind.Agent h = then (acting low e) _ (row-step low e next kind.Agent h).gives λ a acts g. parts kind.Agent (sight low.sites (inside low) e.site) e a g λ p form g. by_actor kind.Agent a acts (ap begun_by form)
  by_kind kind.Depart h = then (acting low e) _ (row-step low e next kind.Depart h).gives λ a acts g. parts kind.Depart (sight low.sites (inside low) e.site) e a g λ p form g. by_actor kind.Depart a acts (ap begun_by form)
  by_kind kind.Local h = then (acting low e) _ (row-step low e next kind.Local h).gives λ a acts g. parts kind.Local (sight low.sites (inside low) e.site) e a g λ p form g. by_actor kind.Local a acts (ap begun_by form)
  by_kind kind.Send h = then (acting low e) _ (row-step low e next kind.Send h).gives λ a acts g. parts kind.Send (sight low.sites (inside low) e.site) e a g λ p form g. by_actor kind.Send a acts (ap begun_by form)
  by_kind kind.Print h = then (acting low e) _ (row-step low e next kind.Print h).gives λ a acts g. parts kind.Print (sight low.sites (inside low) e.site) e a g λ p form g. by_actor kind.Print a acts (ap begun_by form)
  by_kind kind.Open h = then (acting low e) _ (row-step low e next kind.Open h).gives λ a acts g. parts kind.Open (sight low.sites (inside low) e.site) e a g λ p form g. by_actor kind.Open a acts (ap begun_by form)
  by_kind kind.Lookup h = then (acting low e) _ (row-step low e next kind.Lookup h).gives λ a acts g. parts kind.Lookup (sight low.sites (inside low) e.site) e a g λ p form g. by_actor kind.Lookup a acts (ap begun_by form)
  by_kind kind.Post h = then (acting low e) _ (row-step low e next kind.Post h).gives λ a acts g. parts kind.Post (sight low.sites (inside low) e.site) e a g λ p form g. by_actor kind.Post a acts (ap begun_by form)

pub roles-of-events : {i : Infrastructure} → RolesOfEvents i
roles-of-events n from first low high v c e next h = by_kind c e next e.kind h
