-- An atom that begins an event is there for one thing, which begins such events.
use Rattle.std.proofs.Common.{◌≡◌, inl, inr, ℕ, true, None, Some, List, refl, sym, ap, ◌∙◌}
use Rattle.np_syntax.specs.declared.value.Name.{Name}
use Rattle.np_syntax.specs.declared.value.Value.{Value}
use Rattle.np_syntax.specs.declared.expression.Expr.{Expr}
use Rattle.np_syntax.specs.declared.process.Role.TheVariants as role
use Rattle.np_syntax.specs.declared.process.Proc.{Proc}
use Rattle.np_syntax.specs.declared.process.ProcForm.{ProcForm-F}
use Rattle.np_syntax.specs.declared.process.ProcForm.TheVariants as forms
use Rattle.np_syntax.specs.declared.event.Kind.{Kind}
use Rattle.np_syntax.specs.declared.event.Kind.TheVariants as kind
use Rattle.np_syntax.specs.Options.{◌>>=◌}
use Rattle.np_syntax.proofs.Options.{then, done}
use Rattle.np_calculus.specs.declared.config.Atom.{Atom}
use Rattle.np_calculus.specs.Begins.{begun_by}
use Rattle.np_calculus.specs.Reductions.{sends}
use Rattle.np_eval.specs.Eval.{chan_of, eval}
use Rattle.np_eval.specs.Forms.{Layer, as_out, layer}
use Rattle.simulate_laws.specs.protocol.Chips.{Service}
use Rattle.np_scope.specs.Sound.{IsSoundProc}
use Rattle.infrastructure_texts.specs.Infrastructures.{Infrastructure}
use Rattle.infrastructure_texts.specs.InfrastructureTexts.{post_of}
use Rattle.daemon_encode.specs.Translates.{Translates}
use Rattle.simulate_laws.specs.things.Acting.{BeginsByThing, begins}
use Rattle.simulate_laws.specs.things.Desks.{desk}
use Rattle.simulate_laws.specs.things.Mail.{Mail}
use Rattle.simulate_laws.specs.things.Shapes.{Are, Gives, Is, IsMail, WaitsFor}
use Rattle.simulate_laws.specs.things.Things.{Stage, Thing}

-- a process of a source has the role Plain
pub source-plain : {n : ℕ} {scope bound : List ℕ} {node after : ℕ} {p : Proc} → IsSoundProc n scope node p after bound → p.tag.role ≡ role.Plain
source-plain IsSoundProc.stop = refl
source-plain _ = refl

out-begins : (l : Layer) (t : Expr × Expr) → as_out l ≡ Some t → begun_by l ≡ None
out-begins (ProcForm-F.Out c e) t h = refl
out-begins _ t h = absurd cc

-- an output begins nothing
pub output-begins : (low : Atom) (s : Name × Value) (k : Kind) → sends low ≡ Some s → begun_by (layer low.proc) ≡ Some k → ⊥
output-begins low s k h b =
    then (as_out (layer low.proc)) (λ (chan, sent). chan_of chan low.env >>= λ n. eval sent low.env >>= λ v. Some (n, v)) h λ t is rest.
    let none : begun_by (layer low.proc) ≡ None = out-begins (layer low.proc) t is in
    let bad : None ≡ Some k = sym none ∙ b in cc

-- by the text of the process
by-text : (t : Thing) (low : Atom) (p : Proc) (j k : Kind) → low.proc ≡ p → begun_by (layer p) ≡ Some j → begins t p.tag.role j ≡ true → begun_by (layer low.proc) ≡ Some k
    → begins t low.proc.tag.role k ≡ true
by-text t low p j k is its may h =
    let same : j ≡ k = done (sym h ∙ ap (λ (q : Proc). begun_by (layer q)) is ∙ its) in
    ap (λ (q : Proc). begins t q.tag.role k) is ∙ ap (begins t p.tag.role) (sym same) ∙ may

by-layer : (t : Thing) (low : Atom) (l : Layer) (j k : Kind) → layer low.proc ≡ l → begun_by l ≡ Some j → low.proc.tag.role ≡ role.Infra → begins t role.Infra j ≡ true → begun_by (layer low.proc) ≡ Some k
    → begins t low.proc.tag.role k ≡ true
by-layer t low l j k is its infra may h =
    let same : j ≡ k = done (sym h ∙ ap begun_by is ∙ its) in
    ap (λ r. begins t r k) infra ∙ ap (begins t role.Infra) (sym same) ∙ may

-- how a post begins: it is sent, or it takes its agent's cache
pub data PostBegins (p : Proc) : Type 0 where
  is_sent : p.tag.role ≡ role.Post → begun_by (layer p) ≡ Some kind.Send → PostBegins p
  takes_cache : p.tag.role ≡ role.Infra → begun_by (layer p) ≡ Some kind.Comm → PostBegins p

pub post-begins : (i : Infrastructure) (n k : ℕ) (a b c v : Expr) (m : ℕ) → PostBegins (post_of i n k a b c v m)
post-begins Infrastructure.central n k a b c v m = PostBegins.is_sent refl (ap begun_by (forms.outs-Send _ _ _ _))
post-begins Infrastructure.cached n k a b c v m = PostBegins.takes_cache refl (ap begun_by (forms.outs-Inp _ _ _))

by-post : (a : Expr) (h : Atom) (q : Proc) (k : Kind) → PostBegins q → begun_by (layer q) ≡ Some k → begins (Thing.source a h) q.tag.role k ≡ true
by-post a h q k (PostBegins.is_sent r is) begun = ap (λ x. begins (Thing.source a h) x k) r ∙ ap (begins (Thing.source a h) role.Post) (sym (done (sym begun ∙ is)))
by-post a h q k (PostBegins.takes_cache r is) begun = ap (λ x. begins (Thing.source a h) x k) r ∙ ap (begins (Thing.source a h) role.Infra) (sym (done (sym begun ∙ is)))

of-source : {i : Infrastructure} (n from : ℕ) (a : Expr) (h : Atom) (p q : Proc) (k : Kind) → Translates i n from a p q → p.tag.role ≡ role.Plain → begun_by (layer q) ≡ Some k → begins (Thing.source a h) q.tag.role k ≡ true
of-source n from a h p q k (Translates.agent above b c d u e f) plain i = ap (begins (Thing.source a h) role.Infra) (sym (done (sym i ∙ ap begun_by (forms.outs-Inp _ _ _))))
of-source n from a h p q k (Translates.migrate t) plain i = ap (begins (Thing.source a h) role.Infra) (sym (done (sym i ∙ ap begun_by (forms.outs-Inp _ _ _))))
of-source {i = i} n from a h p q k (Translates.post {k = tag} {m = m} {b = b} {c = c} {v = v} above) plain begun = by-post a h q k (post-begins i n tag.node a b c v m) begun
of-source n from a h p q k _ plain i = ap (λ r. begins (Thing.source a h) r k) plain

module _ (n from first : ℕ) (low : Atom) (k : Kind) (begun : begun_by (layer low.proc) ≡ Some k) where
  gives-none : {A : Type 0} {a chan : Name} {v : Value} → Gives a chan v low → A
  gives-none g = absurd (output-begins low _ k g.gives begun)

  looks : (m : Mail) (ps : List (Name × Name)) (s : Service) → low.proc ≡ (desk n first s).body → begins (Thing.looking m ps) low.proc.tag.role k ≡ true
  looks m ps Service.registers is = by-text (Thing.looking m ps) low _ kind.New k is (ap begun_by (forms.outs-New _ _ _)) refl begun
  looks m ps Service.grants is = by-text (Thing.looking m ps) low _ kind.Lookup k is (ap begun_by (forms.outs-Lookup _ _ _ _ _)) refl begun
  looks m ps Service.notes_moves is = by-text (Thing.looking m ps) low _ kind.Lookup k is (ap begun_by (forms.outs-Lookup _ _ _ _ _)) refl begun
  looks m ps Service.passes_on is = by-text (Thing.looking m ps) low _ kind.Lookup k is (ap begun_by (forms.outs-Lookup _ _ _ _ _)) refl begun
  looks m ps Service.ends_deliveries is = by-text (Thing.looking m ps) low _ kind.Lookup k is (ap begun_by (forms.outs-Lookup _ _ _ _ _)) refl begun
  looks m ps Service.tells is = by-text (Thing.looking m ps) low _ kind.Lookup k is (ap begun_by (forms.outs-Lookup _ _ _ _ _)) refl begun

  wants : (m : Mail) (l : Name) → WaitsFor n first m l low → begins (Thing.wanting m l) low.proc.tag.role k ≡ true
  wants (Mail.migrating a) l w = by-text (Thing.wanting (Mail.migrating a) l) low _ kind.Comm k w.0 (ap begun_by (forms.outs-Inp _ _ _)) refl begun
  wants (Mail.message p) l w = by-text (Thing.wanting (Mail.message p) l) low _ kind.Comm k w.0 (ap begun_by (forms.outs-Inp _ _ _)) refl begun
  wants _ l w = absurd w

  mails : (m : Mail) (stage : Stage) → IsMail n m stage low → begins (Thing.mail m stage) low.proc.tag.role k ≡ true
  mails m (Stage.in_agent x) i = by-layer (Thing.mail m (Stage.in_agent x)) low _ kind.Send k i.0.is refl i.0.role refl begun
  mails m Stage.on_the_way i = absurd i
  mails m Stage.there i = gives-none i

  pub thing-begins : (i : Infrastructure) (t : Thing) → Is i n from first t low → begins t low.proc.tag.role k ≡ true
  thing-begins _ (Thing.source a h) i = of-source n from a h h.proc low.proc k i.translates (source-plain i.stands.source.sound) begun
  thing-begins _ (Thing.asking a h) i = by-text (Thing.asking a h) low _ kind.Comm k i.is (ap begun_by (forms.outs-Inp _ _ _)) refl begun
  thing-begins _ (Thing.leaving a h) i = by-text (Thing.leaving a h) low _ kind.Depart k i.is (ap begun_by (forms.outs-Migrate _ _)) refl begun
  thing-begins _ (Thing.settling a h s) i = by-text (Thing.settling a h s) low _ kind.Comm k i.is (ap begun_by (forms.outs-Inp _ _ _)) refl begun
  thing-begins _ (Thing.making a h s) i = by-text (Thing.making a h s) low _ kind.Agent k i.is (ap begun_by (forms.outs-Agent _ _ _)) refl begun
  thing-begins _ (Thing.beginning a h p s) i = by-text (Thing.beginning a h p s) low _ kind.Comm k i.is (ap begun_by (forms.outs-Inp _ _ _)) refl begun
  thing-begins _ (Thing.calling a h ps) i = by-text (Thing.calling a h ps) low _ kind.Lookup k i.2.is (ap begun_by (forms.outs-Lookup _ _ _ _ _)) refl begun
  thing-begins _ (Thing.hoping a h l) i = by-text (Thing.hoping a h l) low _ kind.Comm k i.2.is (ap begun_by (forms.outs-Inp _ _ _)) refl begun
  thing-begins _ (Thing.hiring a h) i = by-text (Thing.hiring a h) low _ kind.Agent k i.2.is (ap begun_by (forms.outs-Agent _ _ _)) refl begun
  thing-begins _ (Thing.passing a h) i = by-text (Thing.passing a h) low _ kind.Send k i.2.is (ap begun_by (forms.outs-Send _ _ _ _)) refl begun
  thing-begins _ (Thing.cache a ps) i = gives-none i.1
  thing-begins _ (Thing.hint a l) i = gives-none i.1.1
  thing-begins _ (Thing.keeping a) i = by-text (Thing.keeping a) low _ kind.Rep k i.1.is (ap begun_by (forms.outs-Rep _ _ _)) refl begun
  thing-begins _ (Thing.told a) i = by-text (Thing.told a) low _ kind.Comm k i.1.is (ap begun_by (forms.outs-Inp _ _ _)) refl begun
  thing-begins _ (Thing.telling a ps) i = by-text (Thing.telling a ps) low _ kind.Lookup k i.1.is (ap begun_by (forms.outs-Lookup _ _ _ _ _)) refl begun
  thing-begins _ (Thing.replacing a l) i = by-text (Thing.replacing a l) low _ kind.Comm k i.1.is (ap begun_by (forms.outs-Inp _ _ _)) refl begun
  thing-begins _ (Thing.adding a ps b) i = by-text (Thing.adding a ps b) low _ kind.New k i.1.is (ap begun_by (forms.outs-New _ _ _)) refl begun
  thing-begins _ (Thing.carrying p t a) i = by-text (Thing.carrying p t a) low _ kind.Depart k i.1.is (ap begun_by (forms.outs-Migrate _ _)) refl begun
  thing-begins _ (Thing.trying p t a) i = by-text (Thing.trying p t a) low _ kind.Local k i.1.is (ap begun_by (forms.outs-IfLocal _ _ _ _ _)) refl begun
  thing-begins _ Thing.ended i = by-text Thing.ended low _ kind.Stop k i.1.is (ap begun_by forms.outs-Stop) refl begun
  thing-begins _ (Thing.looking_back a b l ps) i = by-text (Thing.looking_back a b l ps) low _ kind.Lookup k i.is (ap begun_by (forms.outs-Lookup _ _ _ _ _)) refl begun
  thing-begins _ (Thing.reading a b l ll) i = by-text (Thing.reading a b l ll) low _ kind.Comm k i.is (ap begun_by (forms.outs-Inp _ _ _)) refl begun
  thing-begins _ (Thing.reading_back a l) i = by-text (Thing.reading_back a l) low _ kind.Comm k i.is (ap begun_by (forms.outs-Inp _ _ _)) refl begun
  thing-begins _ (Thing.opened p) i = absurd (let none : None ≡ Some k = sym (ap (λ (a : Atom). begun_by (layer a.proc)) i.is ∙ ap begun_by (forms.outs-Out _ _)) ∙ begun in cc)
  thing-begins _ (Thing.token a s) i = gives-none i.0
  thing-begins _ (Thing.letters a) i = by-text (Thing.letters a) low _ kind.Rep k i.is (ap begun_by (forms.outs-Rep _ _ _)) refl begun
  thing-begins _ (Thing.opening p) i = by-layer (Thing.opening p) low _ kind.Open k i.0.is refl i.0.role refl begun
  thing-begins _ (Thing.mail m stage) i = mails m stage i
  thing-begins _ (Thing.taken m) i = by-text (Thing.taken m) low _ kind.Comm k i.is (ap begun_by (forms.outs-Inp _ _ _)) refl begun
  thing-begins _ (Thing.looking m ps) i = looks m ps i.service i.is
  thing-begins _ (Thing.wanting m l) i = wants m l i.waits
  thing-begins _ (Thing.serving s) i = by-text (Thing.serving s) low _ kind.Rep k i.is (ap begun_by (forms.outs-Rep _ _ _)) refl begun
  thing-begins _ (Thing.places ps) i = gives-none i
  thing-begins _ (Thing.free l s) i = gives-none i
  thing-begins _ (Thing.packet p) i = absurd i

pub begins-by-thing : {i : Infrastructure} → BeginsByThing i
begins-by-thing n from first low ts k (Are.one {t = t} i) begun = inl (record { thing = t; alone = refl; is = i; its_kind = thing-begins n from first low k begun _ t i })
begins-by-thing n from first low ts k (Are.both is a b) begun =
    inr (done (sym (ap (λ (q : Proc). begun_by (layer q)) is ∙ ap begun_by (forms.outs-Par _ _)) ∙ begun), ap (λ (q : Proc). q.tag.role) is)
