-- What an output is there for, by its channel.
use Rattle.std.proofs.Common.{◌≡◌, ◌≤◌, arith, inl, inr, ℕ, Bool, true, false, not, ◌&&◌, ◌||◌, None, Some, List, [], ◌∷◌, nat_eq, map as each, refl, sym, ap, subst, ◌∙◌, ◌++◌}
use Rattle.std.specs.List.{list_any, Contains, flat_map}
use Rattle.std.proofs.lemmas.List.Elements.{All-head, All-contains, All-contains_itself}
use Rattle.std.specs.FinMap as map
use Rattle.std.specs.FinSet as set
use Rattle.np_syntax.specs.declared.value.Name.{Name}
use Rattle.np_syntax.specs.declared.value.Value.{Value, out-Value}
use Rattle.np_syntax.specs.declared.value.Value as value
use Rattle.np_syntax.specs.declared.value.Value.TheVariants as outs
use Rattle.np_syntax.specs.declared.expression.Expr.{Expr}
use Rattle.np_syntax.specs.declared.process.Proc.{Proc}
use Rattle.np_syntax.specs.declared.process.ProcForm.{ProcForm-F}
use Rattle.np_syntax.specs.declared.process.ProcForm.TheVariants as forms
use Rattle.np_syntax.proofs.Options.{then, done}
use Rattle.np_syntax.proofs.Bools.{and-out}
use Rattle.np_tables.specs.Names.{NameSet, NameMap}
use Rattle.np_calculus.specs.declared.config.Atom.{Atom}
use Rattle.np_calculus.specs.Reductions.{sends}
use Rattle.np_calculus.specs.Starts.{daemon_agent, main_agent, own, own_names, own_numbers, with_all}
use Rattle.np_calculus.proofs.OwnNames.{with_all-keeps, not_true}
use Rattle.np_tables.proofs.Tables.{born_here, same_name-itself}
use Rattle.std.proofs.lemmas.Bool.{eqb-true}
use Rattle.simulate_laws.proofs.levels.Quiet.{or_cases}
use Rattle.np_eval.specs.Eval.{as_chan, chan_of, eval}
use Rattle.np_eval.specs.Forms.{Layer, as_out, layer}
use Rattle.infrastructure_texts.specs.Infrastructures.{Infrastructure}
use Rattle.daemon_encode.specs.Translates.{Translates}
use Rattle.simulate_laws.specs.things.Known.{IsKnown, Knows}
use Rattle.simulate_laws.proofs.things.Known.{value-is-known}
use Rattle.simulate_laws.proofs.things.Values.{same-value}
use Rattle.simulate_laws.proofs.things.Acting.{PostBegins, post-begins}
use Rattle.simulate_laws.specs.things.Mail.{Mail, content, on_channel, receiver}
use Rattle.simulate_laws.specs.things.Desks.{desk}
use Rattle.simulate_laws.specs.things.Shapes.{Are, Is, IsAgents, IsMail, IsOfSource, WaitsFor}
use Rattle.simulate_laws.specs.protocol.Chips.{Service}
use Rattle.simulate_laws.proofs.protocol.Steps.{all_taken}
use Rattle.np_tables.specs.Names.{same_name}
use Rattle.simulate_laws.specs.things.Things.{Stage, Thing, shows_caches}
use Rattle.np_scope.specs.Written.{IsLiteral}
use Rattle.np_scope.proofs.SoundParts.{ProcParts, proc-parts}
use Rattle.np_syntax.specs.declared.event.Kind.{Kind}
use Rattle.np_syntax.specs.declared.event.Kind.TheVariants as kind
use Rattle.np_calculus.specs.Begins.{begun_by}
use Rattle.np_calculus.specs.Config.{Config}
use Rattle.simulate_laws.specs.levels.Coupled.{Coupled, KnowsOnly, View, chips, is_channel, is_child_of, may_know, levels, cache_chips, shown}
use Rattle.simulate_laws.proofs.levels.Lands.{output-gives}
use Rattle.simulate_laws.proofs.levels.Marks.{step_at}
use Rattle.simulate_laws.specs.protocol.CacheChips.{CacheChip}
use Rattle.simulate_laws.specs.protocol.CacheLevels.{IsHidden}
use Rattle.simulate_laws.proofs.protocol.CacheGives.{gives-hints}
use Rattle.np_eval.proofs.FormsByParts.{out-form}

-- the parts of an output
pub record IsOutput (low : Atom) (chan : Name) (v : Value) : Type 0 where
  pub on : Expr
  pub sent : Expr
  pub form : layer low.proc ≡ ProcForm-F.Out on sent
  pub its_chan : chan_of on low.env ≡ Some chan
  pub its_value : eval sent low.env ≡ Some v

pub is_output : (low : Atom) (s : Name × Value) → sends low ≡ Some s → IsOutput low s.0 s.1
is_output low s h =
    then (as_out (layer low.proc)) _ h λ t is rest. then (chan_of t.0 low.env) _ rest λ n on rest. then (eval t.1 low.env) _ rest λ v at last.
    let same : s ≡ (n, v) = done last in
    record { on = t.0; sent = t.1; form = out-form (layer low.proc) t is; its_chan = on ∙ ap (λ (x : Name × Value). Some x.0) (sym same); its_value = at ∙ ap (λ (x : Name × Value). Some x.1) (sym same) }

-- the channel that a source names is known
pub chan-known : (agents chans : Name → Bool) (v : Value) → IsKnown agents chans v → (c : Name) → as_chan (out-Value v) ≡ Some c → chans c ≡ true
chan-known agents chans v (IsKnown.channel {c = d} k) c h = subst (λ x. chans x ≡ true) (sym (done (sym (ap as_chan (outs.outs-Chan d)) ∙ h))) k
chan-known agents chans v (IsKnown.literal (IsLiteral.number {n = i})) c h = absurd (let e = ap as_chan (outs.outs-Int i) in cc)
chan-known agents chans v (IsKnown.literal (IsLiteral.truth {b = b})) c h = absurd (let e = ap as_chan (outs.outs-Truth b) in cc)
chan-known agents chans v (IsKnown.literal (IsLiteral.string {text = t})) c h = absurd (let e = ap as_chan (outs.outs-Str t) in cc)
chan-known agents chans v (IsKnown.site {s = s}) c h = absurd (let e = ap as_chan (outs.outs-Site s) in cc)
chan-known agents chans v (IsKnown.agent {a = a} k) c h = absurd (let e = ap as_chan (outs.outs-Agent a) in cc)
chan-known agents chans v (IsKnown.tuple {vs = vs} k) c h = absurd (let e = ap as_chan (outs.outs-Tuple vs) in cc)

-- a process that begins an event is no output
not_out : {A : Type 0} (l : Layer) (k : Kind) (c e : Expr) → begun_by l ≡ Some k → l ≡ ProcForm-F.Out c e → A
not_out l k c e b h = absurd (let bad : None ≡ Some k = sym (ap begun_by h) ∙ b in cc)

post-out : {A : Type 0} (q : Proc) (c e : Expr) → PostBegins q → layer q ≡ ProcForm-F.Out c e → A
post-out q c e (PostBegins.is_sent r is) h = not_out _ kind.Send c e is h
post-out q c e (PostBegins.takes_cache r is) h = not_out _ kind.Comm c e is h

-- what is translated to an output is this output
pub translated-out : {i : Infrastructure} {n from : ℕ} {a : Expr} {p q : Proc} (c e : Expr) → Translates i n from a p q → layer q ≡ ProcForm-F.Out c e → layer p ≡ ProcForm-F.Out c e
translated-out c e Translates.output h = h
translated-out c e Translates.stop h = not_out _ kind.Stop c e (ap begun_by forms.outs-Stop) h
translated-out c e (Translates.parallel t u) h = not_out _ kind.Fork c e (ap begun_by (forms.outs-Par _ _)) h
translated-out c e (Translates.channel t) h = not_out _ kind.New c e (ap begun_by (forms.outs-New _ _ _)) h
translated-out c e (Translates.input t) h = not_out _ kind.Comm c e (ap begun_by (forms.outs-Inp _ _ _)) h
translated-out c e (Translates.replicated t) h = not_out _ kind.Rep c e (ap begun_by (forms.outs-Rep _ _ _)) h
translated-out c e (Translates.agent s l t d x u w) h = not_out _ kind.Comm c e (ap begun_by (forms.outs-Inp _ _ _)) h
translated-out c e (Translates.migrate t) h = not_out _ kind.Comm c e (ap begun_by (forms.outs-Inp _ _ _)) h
translated-out c e (Translates.iflocal t u) h = not_out _ kind.Local c e (ap begun_by (forms.outs-IfLocal _ _ _ _ _)) h
translated-out c e Translates.send h = not_out _ kind.Send c e (ap begun_by (forms.outs-Send _ _ _ _)) h
translated-out {i = i} {n = n} {a = a} {q = q} c e (Translates.post {k = tag} {m = m} {b = b} {c = d} {v = v} above) h = post-out q c e (post-begins i n tag.node a b d v m) h
translated-out c e (Translates.test t u) h = not_out _ kind.If c e (ap begun_by (forms.outs-If _ _ _)) h
translated-out c e (Translates.bind t) h = not_out _ kind.Let c e (ap begun_by (forms.outs-Let _ _ _)) h
translated-out c e Translates.print h = not_out _ kind.Print c e (ap begun_by (forms.outs-Print _)) h
translated-out c e Translates.open_letter h = not_out _ kind.Open c e (ap begun_by (forms.outs-Open _)) h
translated-out c e (Translates.lookup t u) h = not_out _ kind.Lookup c e (ap begun_by (forms.outs-Lookup _ _ _ _ _)) h

-- an atom of the source, or an output that a letter opened to
abbrev pub is_of_source : Thing → Bool
is_of_source (Thing.source a h) = true
is_of_source (Thing.opened p) = true
is_of_source _ = false

-- the lock of a hint is no name of the source, and no own name
abbrev pub IsHintsLock : ℕ → NameSet → Name → Type 0
IsHintsLock n born l = (set.contains born l ≡ false) × (set.contains (own_names n) l ≡ false)

-- what an output on a channel is there for
pub data Gift (n : ℕ) (born : NameSet) (low : Atom) (chan : Name) (v : Value) : Thing → Type 0 where
  of_source : {t : Thing} → is_channel n born chan ≡ true → IsAgents n low.agent → is_of_source t ≡ true → Gift n born low chan v t
  of_token : {a : Name} {s : ℕ} → low.agent ≡ a → IsAgents n a → chan ≡ own n 9 → v ≡ value.Site s → Gift n born low chan v (Thing.token a s)
  of_mail : {m : Mail} → low.agent ≡ receiver n m → chan ≡ own n (on_channel m) → v ≡ content m → Gift n born low chan v (Thing.mail m Stage.there)
  of_map : {ps : List (Name × Name)} → low.agent ≡ daemon_agent n → chan ≡ own n 10 → v ≡ value.Places ps → Gift n born low chan v (Thing.places ps)
  of_lock : {l : Name} {s : ℕ} → low.agent ≡ daemon_agent n → chan ≡ l → v ≡ value.Site s → Gift n born low chan v (Thing.free l s)
  of_cache : {a : Name} {ps : List (Name × Name)} → low.agent ≡ a → IsAgents n a → chan ≡ own n 14 → v ≡ value.Places ps → Gift n born low chan v (Thing.cache a ps)
  of_hint : {a l : Name} → low.agent ≡ a → IsAgents n a → chan ≡ l → IsHintsLock n born l → Gift n born low chan v (Thing.hint a l)

pub not_own : (t u : Bool) → (t && not u) ≡ true → u ≡ false
not_own true false h = refl
not_own _ _ h = absurd cc

module _ (n from first : ℕ) (agents : Name → Bool) (born : NameSet) (main : agents (main_agent n) ≡ true) (low : Atom) (chan : Name) (v : Value) (gives : sends low ≡ Some (chan, v)) where
  o : IsOutput low chan v
  o = is_output low (chan, v) gives

  given : (c : Name) (w : Value) → sends low ≡ Some (c, w) → (chan ≡ c) × (v ≡ w)
  given c w h = let same : (chan, v) ≡ (c, w) = done (sym h ∙ gives) in (ap (λ (x : Name × Value). x.0) same, ap (λ (x : Name × Value). x.1) same)

  by_text : {A : Type 0} (p : Proc) (k : Kind) → low.proc ≡ p → begun_by (layer p) ≡ Some k → A
  by_text p k is b = not_out (layer p) k o.on o.sent b (sym (ap layer is) ∙ o.form)

  source_channel : {i : Infrastructure} (a : Expr) (h : Atom) → IsOfSource i n from a h low → Knows agents (is_channel n born) from h.env → is_channel n born chan ≡ true
  source_channel a h i k =
      let form : layer h.proc ≡ ProcForm-F.Out o.on o.sent = translated-out o.on o.sent i.translates o.form in
      let s = i.stands.source in
      let parts = subst (ProcParts n s.scope s.node s.after s.bound) form (proc-parts n s.sound) in
      let same : eval o.on low.env ≡ eval o.on h.env = same-value n from s.scope o.on low.env h.env parts.1 s.in_scope i.stands.agrees in
      then (eval o.on low.env) _ o.its_chan λ w is names.
      let good : IsKnown agents (is_channel n born) w = value-is-known agents (is_channel n born) n from s.scope o.on h.env w main parts.1 s.in_scope k (sym same ∙ is) in
      chan-known agents (is_channel n born) w good chan names

  -- a thing is given by an output, or what it is is no output
  mail_given : (m : Mail) (stage : Stage) → IsMail n m stage low → Gift n born low chan v (Thing.mail m stage)
  mail_given m (Stage.in_agent x) i = not_out (layer low.proc) kind.Send o.on o.sent (ap begun_by i.0.is) o.form
  mail_given m Stage.on_the_way i = absurd i
  mail_given m Stage.there i = let g = given (own n (on_channel m)) (content m) i.gives in Gift.of_mail i.agent g.0 g.1

  looks_given : (m : Mail) (ps : List (Name × Name)) (s : Service) → low.proc ≡ (desk n first s).body → Gift n born low chan v (Thing.looking m ps)
  looks_given m ps Service.registers is = by_text _ kind.New is (ap begun_by (forms.outs-New _ _ _))
  looks_given m ps Service.grants is = by_text _ kind.Lookup is (ap begun_by (forms.outs-Lookup _ _ _ _ _))
  looks_given m ps Service.notes_moves is = by_text _ kind.Lookup is (ap begun_by (forms.outs-Lookup _ _ _ _ _))
  looks_given m ps Service.passes_on is = by_text _ kind.Lookup is (ap begun_by (forms.outs-Lookup _ _ _ _ _))
  looks_given m ps Service.ends_deliveries is = by_text _ kind.Lookup is (ap begun_by (forms.outs-Lookup _ _ _ _ _))
  looks_given m ps Service.tells is = by_text _ kind.Lookup is (ap begun_by (forms.outs-Lookup _ _ _ _ _))

  wants_given : (m : Mail) (l : Name) → WaitsFor n first m l low → Gift n born low chan v (Thing.wanting m l)
  wants_given (Mail.migrating a) l w = by_text _ kind.Comm w.0 (ap begun_by (forms.outs-Inp _ _ _))
  wants_given (Mail.message p) l w = by_text _ kind.Comm w.0 (ap begun_by (forms.outs-Inp _ _ _))
  wants_given _ l w = absurd w

  gift_of : (i : Infrastructure) (t : Thing) → Is i n from first t low → KnowsOnly agents (is_channel n born) from t
      → ((a l : Name) → t ≡ Thing.hint a l → IsHintsLock n born l) → Gift n born low chan v t
  gift_of _ (Thing.source a h) i k hidden = Gift.of_source (source_channel a h i k) (ap (λ x. same_name x (daemon_agent n)) i.stands.agent ∙ i.stands.apart) refl
  gift_of _ (Thing.asking a h) i k hidden = by_text _ kind.Comm i.is (ap begun_by (forms.outs-Inp _ _ _))
  gift_of _ (Thing.leaving a h) i k hidden = by_text _ kind.Depart i.is (ap begun_by (forms.outs-Migrate _ _))
  gift_of _ (Thing.settling a h s) i k hidden = by_text _ kind.Comm i.is (ap begun_by (forms.outs-Inp _ _ _))
  gift_of _ (Thing.making a h s) i k hidden = by_text _ kind.Agent i.is (ap begun_by (forms.outs-Agent _ _ _))
  gift_of _ (Thing.beginning a h p s) i k hidden = by_text _ kind.Comm i.is (ap begun_by (forms.outs-Inp _ _ _))
  gift_of _ (Thing.calling a h ps) i k hidden = by_text _ kind.Lookup i.2.is (ap begun_by (forms.outs-Lookup _ _ _ _ _))
  gift_of _ (Thing.hoping a h l) i k hidden = by_text _ kind.Comm i.2.is (ap begun_by (forms.outs-Inp _ _ _))
  gift_of _ (Thing.hiring a h) i k hidden = by_text _ kind.Agent i.2.is (ap begun_by (forms.outs-Agent _ _ _))
  gift_of _ (Thing.passing a h) i k hidden = by_text _ kind.Send i.2.is (ap begun_by (forms.outs-Send _ _ _ _))
  gift_of _ (Thing.cache a ps) i k hidden = let g = given (own n 14) (value.Places ps) i.1.gives in Gift.of_cache i.1.agent i.2 g.0 g.1
  gift_of _ (Thing.hint a l) i k hidden = let g = given l i.1.0 i.1.1.gives in Gift.of_hint i.1.1.agent i.2 g.0 (hidden a l refl)
  gift_of _ (Thing.keeping a) i k hidden = by_text _ kind.Rep i.1.is (ap begun_by (forms.outs-Rep _ _ _))
  gift_of _ (Thing.told a) i k hidden = by_text _ kind.Comm i.1.is (ap begun_by (forms.outs-Inp _ _ _))
  gift_of _ (Thing.telling a ps) i k hidden = by_text _ kind.Lookup i.1.is (ap begun_by (forms.outs-Lookup _ _ _ _ _))
  gift_of _ (Thing.replacing a l) i k hidden = by_text _ kind.Comm i.1.is (ap begun_by (forms.outs-Inp _ _ _))
  gift_of _ (Thing.adding a ps b) i k hidden = by_text _ kind.New i.1.is (ap begun_by (forms.outs-New _ _ _))
  gift_of _ (Thing.carrying p t a) i k hidden = by_text _ kind.Depart i.1.is (ap begun_by (forms.outs-Migrate _ _))
  gift_of _ (Thing.trying p t a) i k hidden = by_text _ kind.Local i.1.is (ap begun_by (forms.outs-IfLocal _ _ _ _ _))
  gift_of _ Thing.ended i k hidden = by_text _ kind.Stop i.1.is (ap begun_by forms.outs-Stop)
  gift_of _ (Thing.looking_back a b l ps) i k hidden = by_text _ kind.Lookup i.is (ap begun_by (forms.outs-Lookup _ _ _ _ _))
  gift_of _ (Thing.reading a b l m) i k hidden = by_text _ kind.Comm i.is (ap begun_by (forms.outs-Inp _ _ _))
  gift_of _ (Thing.reading_back a l) i k hidden = by_text _ kind.Comm i.is (ap begun_by (forms.outs-Inp _ _ _))
  gift_of _ (Thing.opened p) i k hidden =
      let g = given p.chan p.value (ap sends i.is ∙ output-gives p.agent p.chan p.value i.tag) in
      Gift.of_source (ap (is_channel n born) g.0 ∙ k.0)
      (ap (λ (a : Atom). same_name a.agent (daemon_agent n)) i.is ∙ i.apart) refl
  gift_of _ (Thing.token a s) i k hidden = let g = given (own n 9) (value.Site s) i.0.gives in Gift.of_token i.0.agent i.1 g.0 g.1
  gift_of _ (Thing.letters a) i k hidden = by_text _ kind.Rep i.is (ap begun_by (forms.outs-Rep _ _ _))
  gift_of _ (Thing.opening p) i k hidden = not_out (layer low.proc) kind.Open o.on o.sent (ap begun_by i.0.is) o.form
  gift_of _ (Thing.mail m stage) i k hidden = mail_given m stage i
  gift_of _ (Thing.taken m) i k hidden = by_text _ kind.Comm i.is (ap begun_by (forms.outs-Inp _ _ _))
  gift_of _ (Thing.looking m ps) i k hidden = looks_given m ps i.service i.is
  gift_of _ (Thing.wanting m l) i k hidden = wants_given m l i.waits
  gift_of _ (Thing.serving s) i k hidden = by_text _ kind.Rep i.is (ap begun_by (forms.outs-Rep _ _ _))
  gift_of _ (Thing.places ps) i k hidden = let g = given (own n 10) (value.Places ps) i.gives in Gift.of_map i.agent g.0 g.1
  gift_of _ (Thing.free l s) i k hidden = let g = given l (value.Site s) i.gives in Gift.of_lock i.agent g.0 g.1
  gift_of _ (Thing.packet p) i k hidden = absurd i

-- what a thing shows is among what all show
shown_there : {X : Type 0} (show : Thing → List X) (things : NameMap (List Thing)) (m : Name) (ts : List Thing) → map.get things m ≡ Some ts
    → (x : X) → Contains (flat_map show ts) x → Contains (shown show things) x
shown_there show things m ts there x i = All-contains (Contains (shown show things)) (flat_map show ts) x
    (all_taken (step_at show things m ts [] there) (Contains (shown show things)) (All-contains_itself (shown show things))) i

-- the one thing of an output
pub record IsGiven (i : Infrastructure) (n from first : ℕ) (born : NameSet) (low : Atom) (chan : Name) (v : Value) (ts : List Thing) : Type 0 where
  pub thing : Thing
  pub alone : ts ≡ thing ∷ []
  pub is : Is i n from first thing low
  pub gift : Gift n born low chan v thing

module _ {i : Infrastructure} {n from first : ℕ} {low high : Config} {v : View} (c : Coupled i n from first low high v) where
  may-main : (t : Thing) → may_know v.lock (chips v.things) t (main_agent n) ≡ true
  may-main (Thing.settling a h s) = ap (λ t. t || list_any (is_child_of h.agent (main_agent n)) (chips v.things)) c.main
  may-main (Thing.beginning a h p s) = ap (λ t. t || same_name (main_agent n) h.agent) c.main
  may-main _ = c.main

  -- the caches' rule hides the lock of a hint, and of one that is waited for
  its_lock : (l : Name) → IsHidden (levels low high) l → IsHintsLock n high.born l
  its_lock l hidden = (hidden.1, not_true (set.contains (own_names n) l) (λ own. let bad : false ≡ true = sym hidden.1 ∙ c.own_born l own in cc))

  hidden_lock : (m a l : Name) → i ≡ Infrastructure.cached → map.get v.things m ≡ Some (Thing.hint a l ∷ []) → IsHintsLock n high.born l
  hidden_lock m a l is there = its_lock l ((gives-hints (levels low high) (cache_chips v.things) (c.hints is)).hidden a l
      (shown_there shows_caches v.things m (Thing.hint a l ∷ []) there (CacheChip.hint a l) (0, omega arith, refl)))

  pub awaited_lock : (m a l : Name) (t : Thing) → i ≡ Infrastructure.cached → map.get v.things m ≡ Some (t ∷ []) → shows_caches t ≡ CacheChip.needs a l ∷ []
      → IsHintsLock n high.born l
  awaited_lock m a l t is there shown =
      let g = gives-hints (levels low high) (cache_chips v.things) (c.hints is) in
      let needs : Contains (flat_map shows_caches (t ∷ [])) (CacheChip.needs a l) =
      subst (λ cs. Contains (cs ++ []) (CacheChip.needs a l)) (sym shown) (0, omega arith, refl) in
      its_lock l (g.hidden a l (g.met a l (shown_there shows_caches v.things m (t ∷ []) there (CacheChip.needs a l) needs)))

  is_cached : (a l : Name) (t : Thing) (low : Atom) → t ≡ Thing.hint a l → Is i n from first t low → i ≡ Infrastructure.cached
  is_cached a l t low e is = (subst (λ (t : Thing). Is i n from first t low) e is).0

  pub given_by : (m : Name) (a : Atom) (s : Name × Value) → map.get low.atoms m ≡ Some a → sends a ≡ Some s → (ts : List Thing) → map.get v.things m ≡ Some ts → Are i n from first a ts → IsGiven i n from first high.born a s.0 s.1 ts
  given_by m a s there gives ts has (Are.one {t = t} i) = record {
    thing = t;
    alone = refl;
    is = i;
    gift = gift_of n from first (may_know v.lock (chips v.things) t) high.born (may-main t) a s.0 s.1 gives _ t i
        (All-head (λ t. KnowsOnly (may_know v.lock (chips v.things) t) (is_channel n high.born) from t) t [] (c.known m (t ∷ []) has))
        (λ b l e. hidden_lock m b l (is_cached b l t a e i) (has ∙ ap (λ t. Some (t ∷ [])) e));
  }
  given_by m a s there gives ts has (Are.both is left right) =
      let o = is_output a s gives in
      not_out _ kind.Fork o.on o.sent (ap begun_by (forms.outs-Par _ _)) (sym (ap layer is) ∙ o.form)

-- ---- the channels of the infrastructure

in_all : (names : NameSet) (n : ℕ) (numbers : List ℕ) (i : ℕ) → list_any (nat_eq i) numbers ≡ true → set.contains (with_all names (each (own n) numbers)) (own n i) ≡ true
in_all names n [] i h = absurd cc
in_all names n (k ∷ ks) i h = elim (or_cases (nat_eq i k) (list_any (nat_eq i) ks) h) [
  | inl e ↦ with_all-keeps (set.insert names (own n k)) (each (own n) ks) (own n i) (ap (λ j. set.contains (set.insert names (own n k)) (own n j)) (eqb-true i k e) ∙ born_here names (own n k))
  | inr l ↦ in_all (set.insert names (own n k)) n ks i l
]

pub is-own : (n i : ℕ) → list_any (nat_eq i) own_numbers ≡ true → set.contains (own_names n) (own n i) ≡ true
is-own n i h = in_all set.empty n own_numbers i h

pub number-of : (n i j : ℕ) → own n i ≡ own n j → i ≡ j
number-of n i j e = ap (λ (x : Name). x.n) e

-- an own name is no channel of the source
no_channel : {R : Type 0} (n i : ℕ) (born : NameSet) (chan : Name) → list_any (nat_eq i) own_numbers ≡ true → is_channel n born chan ≡ true → chan ≡ own n i → R
no_channel n i born chan listed channel on = absurd (let bad : false ≡ true =
    sym (not_own (set.contains born chan) (set.contains (own_names n) chan) channel) ∙ ap (set.contains (own_names n)) on ∙ is-own n i listed in cc)

-- and no lock of a hint
no_hint : {R : Type 0} (n i : ℕ) (born : NameSet) (l : Name) → list_any (nat_eq i) own_numbers ≡ true → IsHintsLock n born l → l ≡ own n i → R
no_hint n i born l listed hidden on = absurd (let bad : false ≡ true = sym hidden.1 ∙ ap (set.contains (own_names n)) on ∙ is-own n i listed in cc)

two_numbers : {R : Type 0} (n i j : ℕ) (chan : Name) → chan ≡ own n i → chan ≡ own n j → (i ≡ j → ⊥) → R
two_numbers n i j chan on other apart = absurd (apart (number-of n i j (sym on ∙ other)))

not_in_daemon : {R : Type 0} (n : ℕ) (a : Name) → IsAgents n a → a ≡ daemon_agent n → R
not_in_daemon n a apart here =
    absurd (let bad : false ≡ true = sym apart ∙ ap (λ x. same_name x (daemon_agent n)) here ∙ same_name-itself (daemon_agent n) in cc)

-- an output on a channel of the infrastructure that is neither `currentloc` nor a lock nor a cache is mail
pub by_number : {R : Type 0} (n i : ℕ) (born : NameSet) (low : Atom) (chan : Name) (v : Value) (t : Thing) → list_any (nat_eq i) own_numbers ≡ true
    → (i ≡ 9 → ⊥) → (i ≡ 10 → ⊥) → (i ≡ 14 → ⊥) → ((l : Name) (s : ℕ) → t ≡ Thing.free l s → l ≡ own n i → ⊥)
    → chan ≡ own n i → Gift n born low chan v t → ((m : Mail) → t ≡ Thing.mail m Stage.there → on_channel m ≡ i → v ≡ content m → low.agent ≡ receiver n m → R) → R
by_number n i born low chan v t listed no_token no_map no_cache no_lock on (Gift.of_source f a s) r = no_channel n i born chan listed f on
by_number n i born low chan v t listed no_token no_map no_cache no_lock on (Gift.of_token a b g h) r = two_numbers n i 9 chan on g no_token
by_number n i born low chan v t listed no_token no_map no_cache no_lock on (Gift.of_mail {m = m} a g h) r = r m refl (number-of n (on_channel m) i (sym g ∙ on)) h a
by_number n i born low chan v t listed no_token no_map no_cache no_lock on (Gift.of_map a g h) r = two_numbers n i 10 chan on g no_map
by_number n i born low chan v t listed no_token no_map no_cache no_lock on (Gift.of_lock {l = l} {s = s} a g h) r = absurd (no_lock l s refl (sym g ∙ on))
by_number n i born low chan v t listed no_token no_map no_cache no_lock on (Gift.of_cache a b g h) r = two_numbers n i 14 chan on g no_cache
by_number n i born low chan v t listed no_token no_map no_cache no_lock on (Gift.of_hint {l = l} a b g h) r = no_hint n i born l listed h (sym g ∙ on)

mail_number : (m : Mail) (i : ℕ) → 9 ≤ i → i ≤ 14 → on_channel m ≡ i → ⊥
mail_number (Mail.register b s) i h g e = omega arith
mail_number (Mail.migrating a) i h g e = omega arith
mail_number (Mail.migrated a t) i h g e = omega arith
mail_number (Mail.message p) i h g e = omega arith
mail_number (Mail.dack b s) i h g e = omega arith
mail_number (Mail.ack a s) i h g e = omega arith
mail_number (Mail.deliver p s) i h g e = omega arith
mail_number (Mail.asks a b) i h g e = omega arith
mail_number (Mail.found a u b s) i h g e = omega arith

no_mail : {R : Type 0} (n i : ℕ) (m : Mail) (chan : Name) → 9 ≤ i → i ≤ 14 → chan ≡ own n (on_channel m) → chan ≡ own n i → R
no_mail n i m chan h g on other = absurd (mail_number m i h g (number-of n (on_channel m) i (sym on ∙ other)))

-- an output on the daemon's lock is its map, one on `currentloc` is an agent's, and so is one on `cache`
pub by_map : {R : Type 0} (n : ℕ) (born : NameSet) (low : Atom) (chan : Name) (v : Value) (t : Thing)
    → ((l : Name) (s : ℕ) → t ≡ Thing.free l s → l ≡ own n 10 → ⊥) → chan ≡ own n 10 → Gift n born low chan v t
    → ((ps : List (Name × Name)) → t ≡ Thing.places ps → v ≡ value.Places ps → R) → R
by_map n born low chan v t no_lock on (Gift.of_source f a s) r = no_channel n 10 born chan refl f on
by_map n born low chan v t no_lock on (Gift.of_token a b g h) r = two_numbers n 10 9 chan on g (λ e. omega arith)
by_map n born low chan v t no_lock on (Gift.of_mail {m = m} a g h) r = no_mail n 10 m chan (omega arith) (omega arith) g on
by_map n born low chan v t no_lock on (Gift.of_map {ps = ps} a g h) r = r ps refl h
by_map n born low chan v t no_lock on (Gift.of_lock {l = l} {s = s} a g h) r = absurd (no_lock l s refl (sym g ∙ on))
by_map n born low chan v t no_lock on (Gift.of_cache a b g h) r = two_numbers n 10 14 chan on g (λ e. omega arith)
by_map n born low chan v t no_lock on (Gift.of_hint {l = l} a b g h) r = no_hint n 10 born l refl h (sym g ∙ on)

pub by_token : {R : Type 0} (n : ℕ) (born : NameSet) (low : Atom) (chan : Name) (v : Value) (t : Thing)
    → ((l : Name) (s : ℕ) → t ≡ Thing.free l s → l ≡ own n 9 → ⊥) → chan ≡ own n 9 → Gift n born low chan v t
    → ((a : Name) (s : ℕ) → t ≡ Thing.token a s → v ≡ value.Site s → low.agent ≡ a → R) → R
by_token n born low chan v t no_lock on (Gift.of_source f a s) r = no_channel n 9 born chan refl f on
by_token n born low chan v t no_lock on (Gift.of_token {a = a} {s = s} x b g h) r = r a s refl h x
by_token n born low chan v t no_lock on (Gift.of_mail {m = m} a g h) r = no_mail n 9 m chan (omega arith) (omega arith) g on
by_token n born low chan v t no_lock on (Gift.of_map a g h) r = two_numbers n 9 10 chan on g (λ e. omega arith)
by_token n born low chan v t no_lock on (Gift.of_lock {l = l} {s = s} a g h) r = absurd (no_lock l s refl (sym g ∙ on))
by_token n born low chan v t no_lock on (Gift.of_cache a b g h) r = two_numbers n 9 14 chan on g (λ e. omega arith)
by_token n born low chan v t no_lock on (Gift.of_hint {l = l} a b g h) r = no_hint n 9 born l refl h (sym g ∙ on)

pub by_cache : {R : Type 0} (n : ℕ) (born : NameSet) (low : Atom) (chan : Name) (v : Value) (t : Thing)
    → ((l : Name) (s : ℕ) → t ≡ Thing.free l s → l ≡ own n 14 → ⊥) → chan ≡ own n 14 → Gift n born low chan v t
    → ((a : Name) (ps : List (Name × Name)) → t ≡ Thing.cache a ps → v ≡ value.Places ps → low.agent ≡ a → R) → R
by_cache n born low chan v t no_lock on (Gift.of_source f a s) r = no_channel n 14 born chan refl f on
by_cache n born low chan v t no_lock on (Gift.of_token a b g h) r = two_numbers n 14 9 chan on g (λ e. omega arith)
by_cache n born low chan v t no_lock on (Gift.of_mail {m = m} a g h) r = no_mail n 14 m chan (omega arith) (omega arith) g on
by_cache n born low chan v t no_lock on (Gift.of_map a g h) r = two_numbers n 14 10 chan on g (λ e. omega arith)
by_cache n born low chan v t no_lock on (Gift.of_lock {l = l} {s = s} a g h) r = absurd (no_lock l s refl (sym g ∙ on))
by_cache n born low chan v t no_lock on (Gift.of_cache {a = a} {ps = ps} x b g h) r = r a ps refl h x
by_cache n born low chan v t no_lock on (Gift.of_hint {l = l} a b g h) r = no_hint n 14 born l refl h (sym g ∙ on)

mail_listed : (m : Mail) → list_any (nat_eq (on_channel m)) own_numbers ≡ true
mail_listed (Mail.register b s) = refl
mail_listed (Mail.migrating a) = refl
mail_listed (Mail.migrated a t) = refl
mail_listed (Mail.message p) = refl
mail_listed (Mail.dack b s) = refl
mail_listed (Mail.ack a s) = refl
mail_listed (Mail.deliver p s) = refl
mail_listed (Mail.asks a b) = refl
mail_listed (Mail.found a u b s) = refl

-- an output in the daemon on a lock of an agent is that lock
pub by_lock : {R : Type 0} (n : ℕ) (born : NameSet) (low : Atom) (chan : Name) (v : Value) (t : Thing)
    → ((i : ℕ) → list_any (nat_eq i) own_numbers ≡ true → chan ≡ own n i → i ≡ 13) → low.agent ≡ daemon_agent n → Gift n born low chan v t
    → ((s : ℕ) → t ≡ Thing.free chan s → v ≡ value.Site s → R) → R
by_lock n born low chan v t apart here (Gift.of_source f a s) r = not_in_daemon n low.agent a here
by_lock n born low chan v t apart here (Gift.of_token a b g h) r = absurd (let bad = apart 9 refl g in let no : ⊥ = omega arith in no)
by_lock n born low chan v t apart here (Gift.of_mail {m = m} a g h) r =
    absurd (let bad = apart (on_channel m) (mail_listed m) g in mail_number m 13 (omega arith) (omega arith) bad)
by_lock n born low chan v t apart here (Gift.of_map a g h) r = absurd (let bad = apart 10 refl g in let no : ⊥ = omega arith in no)
by_lock n born low chan v t apart here (Gift.of_lock {l = l} {s = s} a g h) r = r s (ap (λ x. Thing.free x s) (sym g)) h
by_lock n born low chan v t apart here (Gift.of_cache {a = x} a b g h) r = not_in_daemon n x b (sym a ∙ here)
by_lock n born low chan v t apart here (Gift.of_hint {a = x} a b g h) r = not_in_daemon n x b (sym a ∙ here)

-- an output in an agent on a channel of the source is of the source
pub by_source : {R : Type 0} (n : ℕ) (born : NameSet) (low : Atom) (chan : Name) (v : Value) (t : Thing) → is_channel n born chan ≡ true → IsAgents n low.agent
    → Gift n born low chan v t → (is_of_source t ≡ true → R) → R
by_source n born low chan v t channel apart (Gift.of_source f a s) r = r s
by_source n born low chan v t channel apart (Gift.of_token a b g h) r = no_channel n 9 born chan refl channel g
by_source n born low chan v t channel apart (Gift.of_mail {m = m} a g h) r = no_channel n (on_channel m) born chan (mail_listed m) channel g
by_source n born low chan v t channel apart (Gift.of_map a g h) r = no_channel n 10 born chan refl channel g
by_source n born low chan v t channel apart (Gift.of_lock a g h) r = not_in_daemon n low.agent apart a
by_source n born low chan v t channel apart (Gift.of_cache a b g h) r = no_channel n 14 born chan refl channel g
by_source n born low chan v t channel apart (Gift.of_hint a b g h) r =
    absurd (let bad : false ≡ true = sym (ap (set.contains born) g ∙ h.0) ∙ (and-out (set.contains born chan) _ channel).0 in cc)

-- an output in an agent on the lock of a hint is that hint
pub by_hint : {R : Type 0} (n : ℕ) (born : NameSet) (low : Atom) (chan : Name) (v : Value) (t : Thing) → IsHintsLock n born chan → IsAgents n low.agent
    → Gift n born low chan v t → ((a : Name) → t ≡ Thing.hint a chan → low.agent ≡ a → R) → R
by_hint n born low chan v t hidden apart (Gift.of_source f a s) r =
    absurd (let bad : false ≡ true = sym hidden.0 ∙ (and-out (set.contains born chan) _ f).0 in cc)
by_hint n born low chan v t hidden apart (Gift.of_token a b g h) r = no_hint n 9 born chan refl hidden g
by_hint n born low chan v t hidden apart (Gift.of_mail {m = m} a g h) r = no_hint n (on_channel m) born chan (mail_listed m) hidden g
by_hint n born low chan v t hidden apart (Gift.of_map a g h) r = no_hint n 10 born chan refl hidden g
by_hint n born low chan v t hidden apart (Gift.of_lock a g h) r = not_in_daemon n low.agent apart a
by_hint n born low chan v t hidden apart (Gift.of_cache a b g h) r = no_hint n 14 born chan refl hidden g
by_hint n born low chan v t hidden apart (Gift.of_hint {a = a} x b g h) r = r a (ap (Thing.hint a) (sym g)) x
