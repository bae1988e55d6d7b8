-- What stands in the low program of a resolved program. The walk over processes, the pieces and the daemon's servers also serve
-- translations that write out a creation and a post in ways of their own.
use Rattle.std.proofs.Common.{◌≡◌, ◌<◌, ℕ, ◌+◌, true, inl, inr, List, [], ◌∷◌, length, refl, subst, sym, ◌∙◌, arith}
use Rattle.np_syntax.specs.declared.expression.Expr.{Expr}
use Rattle.np_syntax.specs.declared.pattern.Pat.{Pat}
use Rattle.np_syntax.specs.declared.process.Tag.{Tag}
use Rattle.np_syntax.specs.declared.process.Role.{Role}
use Rattle.np_syntax.specs.declared.process.Role.TheVariants as role
use Rattle.np_syntax.specs.declared.process.Proc.{Proc}
use Rattle.np_syntax.specs.declared.process.ProcForm as form
use Rattle.np_syntax.specs.declared.process.ProcForm.TheVariants as layers
use Rattle.np_syntax.specs.declared.program.Program.{Program}
use Rattle.np_eval.specs.Forms.{Layer, layer}
use Rattle.np_scope.specs.Sound.{Among, IsSound, IsSoundExpr, AreSoundExprs, Binds, BindAll, IsSoundProc}
use Rattle.np_scope.specs.Written.{IsSourceType, IsChannelType}
use Rattle.np_safety.specs.Low.{carried}
use Rattle.daemon_encode.specs.declared.translated.Translated.{Translated}
use Rattle.infrastructure_texts.specs.Pieces.{variable, name, pair, two_names, site, channel, main, daemon, register, message, currentloc, process, gives, takes, tells, finds}
use Rattle.infrastructure_texts.specs.Texts.{letter, settles, migrate_text, server_text, begins, agent_text, main_text}
use Rattle.infrastructure_texts.specs.Daemon.{acks, frees, notes, looks_up, daemon_text}
use Rattle.daemon_encode.specs.Encoded.{Translation, translate_step, translated, encoded}
use Rattle.daemon_encode.specs.LowSound.{is_listed, IsLowValue, IsLowExpr, AreLowExprs, Enters, EnterAll, IsLowProc, IsLowSound}
use Rattle.daemon_encode.specs.Translates.{source}
use Rattle.daemon_encode.proofs.Forms.{translated-form, form-agent, form-post}
use Rattle.daemon_encode.proofs.KeptForms.{IsShared, steps, KeepsForms, translated-keeps}

-- ---- more binders in scope

abbrev pub Within : List ℕ → List ℕ → Type 0
Within scope wider = (x : ℕ) → Among x scope → Among x wider

under : (x : ℕ) (scope wider : List ℕ) → Within scope wider → Within (x ∷ scope) (x ∷ wider)
under x scope wider h y (inl e) = inl e
under x scope wider h y (inr m) = inr (h y m)

behind : (x : ℕ) (scope : List ℕ) → Within scope (x ∷ scope)
behind x scope y m = inr m

module _ (n : ℕ) where
  mutual
    pub wider-expr : {scope wider : List ℕ} {e : Expr} → Within scope wider → IsLowExpr n scope e → IsLowExpr n wider e
    wider-expr h (IsLowExpr.constant v) = IsLowExpr.constant v
    wider-expr h (IsLowExpr.variable m) = IsLowExpr.variable (h _ m)
    wider-expr h (IsLowExpr.tuple es) = IsLowExpr.tuple (wider-exprs h es)
    wider-expr h (IsLowExpr.operation a b) = IsLowExpr.operation (wider-expr h a) (wider-expr h b)
    wider-expr h (IsLowExpr.letter a b) = IsLowExpr.letter (wider-expr h a) (wider-expr h b)
    wider-expr h (IsLowExpr.with_lock a b c) = IsLowExpr.with_lock (wider-expr h a) (wider-expr h b) (wider-expr h c)

    wider-exprs : {scope wider : List ℕ} {es : List Expr} → Within scope wider → AreLowExprs n scope es → AreLowExprs n wider es
    wider-exprs h AreLowExprs.none = AreLowExprs.none
    wider-exprs h (AreLowExprs.more e es) = AreLowExprs.more (wider-expr h e) (wider-exprs h es)

  mutual
    low-expr : {scope wider : List ℕ} {e : Expr} → Within scope wider → IsSoundExpr n scope e → IsLowExpr n wider e
    low-expr h (IsSoundExpr.literal l) = IsLowExpr.constant (IsLowValue.literal l)
    low-expr h (IsSoundExpr.site s) = IsLowExpr.constant (IsLowValue.site s)
    low-expr h IsSoundExpr.main = IsLowExpr.constant IsLowValue.main
    low-expr h (IsSoundExpr.variable m) = IsLowExpr.variable (h _ m)
    low-expr h (IsSoundExpr.tuple es) = IsLowExpr.tuple (low-exprs h es)
    low-expr h (IsSoundExpr.operation a b) = IsLowExpr.operation (low-expr h a) (low-expr h b)

    low-exprs : {scope wider : List ℕ} {es : List Expr} → Within scope wider → AreSoundExprs n scope es → AreLowExprs n wider es
    low-exprs h AreSoundExprs.none = AreLowExprs.none
    low-exprs h (AreSoundExprs.more e es) = AreLowExprs.more (low-expr h e) (low-exprs h es)

-- the binders of a pattern come into the wider scope too
record Entered (wider : List ℕ) (p : Pat) (inner : List ℕ) : Type 0 where
  scope : List ℕ
  is : Enters wider p scope
  within : Within inner scope

record AllEntered (wider : List ℕ) (ps : List Pat) (inner : List ℕ) : Type 0 where
  scope : List ℕ
  is : EnterAll wider ps scope
  within : Within inner scope

mutual
  entered : {scope inner wider bound : List ℕ} {p : Pat} → Within scope wider → Binds scope p inner bound → Entered wider p inner
  entered {wider = wider} h Binds.any = record { scope = wider; is = Enters.any; within = h }
  entered {scope = scope} {wider = wider} h (Binds.name {x = x}) = record { scope = x ∷ wider; is = Enters.name; within = under x scope wider h }
  entered h (Binds.tuple bs) = let r = all-entered h bs in record { scope = r.scope; is = Enters.tuple r.is; within = r.within }

  all-entered : {scope inner wider bound : List ℕ} {ps : List Pat} → Within scope wider → BindAll scope ps inner bound → AllEntered wider ps inner
  all-entered {wider = wider} h BindAll.none = record { scope = wider; is = EnterAll.none; within = h }
  all-entered h (BindAll.more b bs) =
      let r = entered h b in
      let s = all-entered r.within bs in
      record { scope = s.scope; is = EnterAll.more r.is s.is; within = s.within }

mutual
  -- what was in scope before stays in scope
  into : {scope inner : List ℕ} {p : Pat} → Enters scope p inner → Within scope inner
  into Enters.any x m = m
  into Enters.name x m = inr m
  into (Enters.tuple es) x m = into-all es x m

  into-all : {scope inner : List ℕ} {ps : List Pat} → EnterAll scope ps inner → Within scope inner
  into-all EnterAll.none x m = m
  into-all (EnterAll.more e es) x m = into-all es x (into e x m)

-- ---- what is written out

module _ (n : ℕ) (some : 0 < n) where
  pub its : {scope : List ℕ} (i : ℕ) → is_listed i carried ≡ true → IsLowExpr n scope (channel n i)
  its i h = IsLowExpr.constant (IsLowValue.channel h)

  pub two : {scope : List ℕ} {x y : Expr} → IsLowExpr n scope x → IsLowExpr n scope y → IsLowExpr n scope (pair x y)
  two x y = IsLowExpr.tuple (AreLowExprs.more x (AreLowExprs.more y AreLowExprs.none))

  pub one-name : {scope : List ℕ} (x : ℕ) → Enters scope (name x) (x ∷ scope)
  one-name x = Enters.name

  pub both-names : {scope : List ℕ} (x y : ℕ) → Enters scope (two_names x y) (y ∷ x ∷ scope)
  both-names x y = Enters.tuple (EnterAll.more Enters.name (EnterAll.more Enters.name EnterAll.none))

  -- to the daemon
  pub told : {scope : List ℕ} (k : ℕ) (r : Role) (i : ℕ) (e : Expr) → is_listed i carried ≡ true → IsLowExpr n scope e
      → IsLowProc n scope (process k r (form.Send (daemon n) (site 0) (channel n i) e))
  told k r i e h x = IsLowProc.send (IsLowExpr.constant IsLowValue.daemon) (IsLowExpr.constant (IsLowValue.site some)) (its i h) x

  -- a letter for an agent, by the daemon
  pub mailed : {scope : List ℕ} (k : ℕ) (r : Role) (b c v : Expr) → IsLowExpr n scope b → IsLowExpr n scope c → IsLowExpr n scope v
      → IsLowProc n scope (process k r (form.Send (daemon n) (site 0) (message n) (pair b (letter c v))))
  mailed k r b c v xb xc xv = told k r 5 (pair b (letter c v)) refl (two xb (IsLowExpr.letter xc xv))

  pub settled : {scope : List ℕ} (k : ℕ) (e : Expr) (p : Proc) → IsLowExpr n scope e → IsLowProc n scope p → IsLowProc n scope (settles n k e p)
  settled k e p x g = IsLowProc.input (its 7 refl) Enters.any (IsLowProc.parallel g (IsLowProc.output (its 9 refl) x))

  low-migrate : {scope : List ℕ} (k : ℕ) (a e : Expr) (p : Proc) → IsLowExpr n scope a → IsLowExpr n scope e → IsLowProc n scope p → IsLowProc n scope (migrate_text n k a e p)
  low-migrate k a e p xa xe g =
      IsLowProc.input (its 9 refl) Enters.any (IsLowProc.parallel
      (IsLowProc.input (its 7 refl) Enters.any (IsLowProc.migrate xe (IsLowProc.parallel (settled k e p xe g) (told k role.Infra 4 (pair a e) refl (two xa xe)))))
      (told k role.Infra 3 a refl xa))

  pub low-server : {scope : List ℕ} (k : ℕ) (b : Expr) (l t : ℕ) → IsLowExpr n scope b → IsLowProc n scope (server_text n k b l t)
  low-server {scope = scope} k b l t xb =
      IsLowProc.replicated (its 6 refl) (both-names l t) (IsLowProc.parallel
      (IsLowProc.open_letter (IsLowExpr.variable (inr (inl refl))))
      (told k role.Infra 8 (pair b (variable t)) refl (two (wider-expr n (λ x m. inr (inr m)) xb) (IsLowExpr.variable (inl refl)))))

  -- the parts of a creation
  pub begun : {scope : List ℕ} (k : ℕ) (a : Expr) (s : ℕ) (p : Proc) → IsLowExpr n scope a → Among s scope → IsLowProc n scope p → IsLowProc n scope (begins n k a s p)
  begun k a s p xa hs g =
      settled k (variable s) _ (IsLowExpr.variable hs) (IsLowProc.parallel g (IsLowProc.send xa (IsLowExpr.variable hs) (its 7 refl) (IsLowExpr.tuple AreLowExprs.none)))

  pub registered : {scope : List ℕ} (k b s : ℕ) → Among b scope → Among s scope → IsLowProc n scope (tells n k (register n) (pair (variable b) (variable s)))
  registered k b s hb hs = told k role.Infra 2 (pair (variable b) (variable s)) refl (two (IsLowExpr.variable hb) (IsLowExpr.variable hs))

  -- whatever the new agent's process is
  pub low-creation : {scope : List ℕ} (k b s : ℕ) (p q : Proc) → IsLowProc n (b ∷ s ∷ scope) p → IsLowProc n (b ∷ s ∷ scope) q
      → IsLowProc n scope (takes k (currentloc n) (name s) (process k role.Plain (form.Agent b p (settles n k (variable s) q))))
  low-creation k b s p q gp gq =
      IsLowProc.input (its 9 refl) (one-name s) (IsLowProc.agent gp (settled k (variable s) q (IsLowExpr.variable (inr (inl refl))) gq))

  low-agent : {scope : List ℕ} (k : ℕ) (a : Expr) (b s l t : ℕ) (p q : Proc) → IsLowExpr n (b ∷ s ∷ scope) a → IsLowProc n (b ∷ s ∷ scope) p → IsLowProc n (b ∷ s ∷ scope) q
      → IsLowProc n scope (agent_text n k a b s l t p q)
  low-agent k a b s l t p q xa gp gq =
      low-creation k b s _ q (IsLowProc.parallel (IsLowProc.parallel
      (begun k a s p xa (inr (inl refl)) gp)
      (low-server k (variable b) l t (IsLowExpr.variable (inl refl))))
      (registered k b s (inl refl) (inr (inl refl)))) gq

  pub low-main : (s l t : ℕ) (p : Proc) → s < n → IsLowProc n [] p → IsLowProc n [] (main_text n s l t p)
  low-main s l t p within g =
      IsLowProc.parallel (IsLowProc.parallel g (IsLowProc.output (its 9 refl) (IsLowExpr.constant (IsLowValue.site within)))) (low-server 0 (main n) l t (IsLowExpr.constant IsLowValue.main))

  -- ---- the daemon

  acked : {scope : List ℕ} (a s : ℕ) → Among a scope → Among s scope → IsLowProc n scope (acks n a s)
  acked a s ha hs = IsLowProc.send (IsLowExpr.variable ha) (IsLowExpr.variable hs) (its 7 refl) (IsLowExpr.tuple AreLowExprs.none)

  pub held : {scope : List ℕ} (k l s : ℕ) → Among l scope → Among s scope → IsLowProc n scope (gives k (variable l) (variable s))
  held k l s hl hs = IsLowProc.output (IsLowExpr.variable hl) (IsLowExpr.variable hs)

  pub freed : {scope : List ℕ} (m : ℕ) → Among m scope → IsLowProc n scope (frees n m)
  freed m h = IsLowProc.output (its 10 refl) (IsLowExpr.variable h)

  pub noted : {scope inner : List ℕ} (i : ℕ) (x : Pat) (m : ℕ) (p : Proc) → is_listed i carried ≡ true → Enters scope x inner → IsLowProc n (m ∷ inner) p
      → IsLowProc n scope (notes n (channel n i) x m p)
  noted i x m p h e g = IsLowProc.replicated (its i h) e (IsLowProc.input (its 10 refl) (one-name m) g)

  pub found_in : {scope : List ℕ} (a m l : ℕ) (p : Proc) → Among a scope → Among m scope → IsLowProc n (l ∷ scope) p → IsLowProc n scope (finds 0 a m l p)
  found_in a m l p ha hm g = IsLowProc.lookup (IsLowExpr.variable ha) (IsLowExpr.variable hm) g IsLowProc.stop

  looked_up : {scope inner : List ℕ} (i : ℕ) (x : Pat) (a m l : ℕ) (p : Proc) → is_listed i carried ≡ true → Enters scope x inner → Among a inner → IsLowProc n (l ∷ m ∷ inner) p
      → IsLowProc n scope (looks_up n (channel n i) x a m l p)
  looked_up i x a m l p h e ha g = noted i x m _ h e (found_in a m l _ (inr ha) (inl refl) (IsLowProc.parallel g (freed m (inr (inl refl)))))

  pub low-daemon : {scope : List ℕ} (s x : ℕ) → s < n → IsLowProc n scope (daemon_text n s x)
  low-daemon s x within =
      IsLowProc.parallel (IsLowProc.parallel (IsLowProc.parallel (IsLowProc.parallel (IsLowProc.parallel (IsLowProc.parallel
      (IsLowProc.output (its 10 refl) (IsLowExpr.constant IsLowValue.places))
      (IsLowProc.output (its 13 refl) (IsLowExpr.constant (IsLowValue.site within))))
      (noted 2 (two_names x (x + 1)) (x + 2) _ refl (both-names x (x + 1)) (IsLowProc.channel (IsChannelType.carries IsSourceType.site)
      (IsLowProc.parallel (IsLowProc.parallel
      (IsLowProc.output (its 10 refl) (IsLowExpr.with_lock (IsLowExpr.variable (inr (inl refl))) (IsLowExpr.variable (inr (inr (inr (inl refl))))) (IsLowExpr.variable (inl refl))))
      (held 0 (x + 3) (x + 1) (inl refl) (inr (inr (inl refl)))))
      (acked x (x + 1) (inr (inr (inr (inl refl)))) (inr (inr (inl refl))))))))
      (looked_up 3 (name (x + 4)) (x + 4) (x + 5) (x + 6) _ refl (one-name (x + 4)) (inl refl)
      (IsLowProc.input (IsLowExpr.variable (inl refl)) (one-name (x + 7)) (acked (x + 4) (x + 7) (inr (inr (inr (inl refl)))) (inl refl)))))
      (looked_up 4 (two_names (x + 8) (x + 9)) (x + 8) (x + 10) (x + 11) _ refl (both-names (x + 8) (x + 9)) (inr (inl refl))
      (IsLowProc.parallel (held 0 (x + 11) (x + 9) (inl refl) (inr (inr (inl refl)))) (acked (x + 8) (x + 9) (inr (inr (inr (inl refl)))) (inr (inr (inl refl)))))))
      (looked_up 5 (two_names (x + 12) (x + 13)) (x + 12) (x + 14) (x + 15) _ refl (both-names (x + 12) (x + 13)) (inr (inl refl))
      (IsLowProc.input (IsLowExpr.variable (inl refl)) (one-name (x + 16)) (IsLowProc.send (IsLowExpr.variable (inr (inr (inr (inr (inl refl)))))) (IsLowExpr.variable (inl refl)) (its 6 refl)
      (two (IsLowExpr.variable (inr (inr (inr (inl refl))))) (IsLowExpr.variable (inl refl)))))))
      (looked_up 8 (two_names (x + 17) (x + 18)) (x + 17) (x + 19) (x + 20) _ refl (both-names (x + 17) (x + 18)) (inr (inl refl))
      (held 0 (x + 20) (x + 18) (inl refl) (inr (inr (inl refl)))))

-- ---- processes

-- by an equation of a translation
pub written : {n : ℕ} {scope : List ℕ} (t u : Translated) → t ≡ u → IsLowProc n scope u.proc → IsLowProc n scope t.proc
written {n = n} {scope = scope} t u e g = subst (λ (r : Translated). IsLowProc n scope r.proc) (sym e) g

module _ (n : ℕ) (some : 0 < n) where
  -- a translation whose creations and posts stand in a low program too
  pub record IsTranslation (f : Proc → Translation) : Type 0 where
    pub keeps : KeepsForms n f
    -- wherever the numbers of the binders begin in the two parts
    pub creation : (scope : List ℕ) (tag : Tag) (at : ℕ) (a : Expr) (k b : ℕ) (p q : Proc) → IsLowExpr n (b ∷ k ∷ scope) a
        → ((j : ℕ) → IsLowProc n (b ∷ k ∷ scope) (f p (variable b) j).proc) → ((j : ℕ) → IsLowProc n (b ∷ k ∷ scope) (f q a j).proc)
        → IsLowProc n scope (f (source tag at (form.Agent b p q)) a k).proc
    pub post : (scope : List ℕ) (tag : Tag) (at : ℕ) (a : Expr) (k : ℕ) (b c e : Expr) → IsLowExpr n scope a → IsLowExpr n scope b → IsLowExpr n scope c → IsLowExpr n scope e
        → IsLowProc n scope (f (source tag at (form.Post b c e)) a k).proc

  module _ (f : Proc → Translation) (t : IsTranslation f) where
    becomes : {scope : List ℕ} (p : Proc) (y : Layer) (a : Expr) (k : ℕ) → layer p ≡ y → IsShared y → IsLowProc n scope (translate_step n (steps t.keeps.forms f y) p.tag p.at a k).proc
        → IsLowProc n scope (f p a k).proc
    becomes p y a k is same g = written _ _ (t.keeps.shared p y is same a k) g

    pub low-proc : {scope wider bound : List ℕ} {node after : ℕ} {p : Proc} → Within scope wider → IsSoundProc n scope node p after bound → (a : Expr) → IsLowExpr n wider a → (k : ℕ)
        → IsLowProc n wider (f p a k).proc
    low-proc h IsSoundProc.stop a xa k = becomes _ _ a k layers.outs-Stop tt IsLowProc.stop
    low-proc h (IsSoundProc.parallel {p = p} {q = q} g d) a xa k =
        let gp = low-proc h g a xa k in
        let gq = low-proc h d a xa (f p a k).next in
        becomes _ _ a k (layers.outs-Par p q) tt (IsLowProc.parallel gp gq)
    low-proc {scope = scope} {wider = wider} h (IsSoundProc.channel {c = b} {t = ty} {p = p} c g) a xa k =
        let gp = low-proc (under b scope wider h) g a (wider-expr n (behind b wider) xa) k in
        becomes _ _ a k (layers.outs-New b ty p) tt (IsLowProc.channel c gp)
    low-proc h (IsSoundProc.output {c = c} {e = e} xc xe) a xa k = becomes _ _ a k (layers.outs-Out c e) tt (IsLowProc.output (low-expr n h xc) (low-expr n h xe))
    low-proc h (IsSoundProc.input {c = c} {x = x} {p = p} xc b g) a xa k =
        let r = entered h b in
        let gp = low-proc r.within g a (wider-expr n (into r.is) xa) k in
        becomes _ _ a k (layers.outs-Inp c x p) tt (IsLowProc.input (low-expr n h xc) r.is gp)
    low-proc h (IsSoundProc.replicated {c = c} {x = x} {p = p} xc b g) a xa k =
        let r = entered h b in
        let gp = low-proc r.within g a (wider-expr n (into r.is) xa) k in
        becomes _ _ a k (layers.outs-Rep c x p) tt (IsLowProc.replicated (low-expr n h xc) r.is gp)
    low-proc {scope = scope} {wider = wider} h (IsSoundProc.agent {b = b} {p = p} {q = q} g d) a xa k =
        let inner : Within (b ∷ scope) (b ∷ k ∷ wider) = under b scope (k ∷ wider) (λ x m. inr (h x m)) in
        let theirs : IsLowExpr n (b ∷ k ∷ wider) a = wider-expr n (λ x m. inr (inr m)) xa in
        t.creation wider _ _ a k b p q theirs (low-proc inner g (variable b) (IsLowExpr.variable (inl refl))) (low-proc inner d a theirs)
    low-proc h (IsSoundProc.migrate {s = s} {p = p} xs g) a xa k =
        let gp = low-proc h g a xa k in
        becomes _ _ a k (layers.outs-Migrate s p) tt (low-migrate n some _ a s _ xa (low-expr n h xs) gp)
    low-proc h (IsSoundProc.iflocal {b = b} {c = c} {e = e} {p = p} {q = q} xb xc xe g d) a xa k =
        let gp = low-proc h g a xa k in
        let gq = low-proc h d a xa (f p a k).next in
        becomes _ _ a k (layers.outs-IfLocal b c e p q) tt (IsLowProc.iflocal (low-expr n h xb) (low-expr n h xc) (low-expr n h xe) gp gq)
    low-proc h (IsSoundProc.send {b = b} {s = s} {c = c} {e = e} xb xs xc xe) a xa k =
        becomes _ _ a k (layers.outs-Send b s c e) tt (IsLowProc.send (low-expr n h xb) (low-expr n h xs) (low-expr n h xc) (low-expr n h xe))
    low-proc {wider = wider} h (IsSoundProc.post {b = b} {c = c} {e = e} xb xc xe) a xa k = t.post wider _ _ a k b c e xa (low-expr n h xb) (low-expr n h xc) (low-expr n h xe)
    low-proc h (IsSoundProc.test {e = e} {p = p} {q = q} xe g d) a xa k =
        let gp = low-proc h g a xa k in
        let gq = low-proc h d a xa (f p a k).next in
        becomes _ _ a k (layers.outs-If e p q) tt (IsLowProc.test (low-expr n h xe) gp gq)
    low-proc h (IsSoundProc.bind {x = x} {e = e} {p = p} b xe g) a xa k =
        let r = entered h b in
        let gp = low-proc r.within g a (wider-expr n (into r.is) xa) k in
        becomes _ _ a k (layers.outs-Let x e p) tt (IsLowProc.bind (low-expr n h xe) r.is gp)
    low-proc h (IsSoundProc.print {e = e} xe) a xa k = becomes _ _ a k (layers.outs-Print e) tt (IsLowProc.print (low-expr n h xe))

  is-translated : IsTranslation (translated n)
  is-translated = record {
    keeps = translated-keeps n;
    creation = λ scope tag at a k b p q xa gp gq.
        let l = (translated n p (variable b) (k + 1)).next in
        written _ _ (translated-form n (source tag at (form.Agent b p q)) a k ∙ form-agent n tag at a k b p q)
        (low-agent n some tag.node a b k l (l + 1) _ _ xa (gp (k + 1)) (gq (l + 2)));
    post = λ scope tag at a k b c e xa xb xc xe.
        written _ _ (translated-form n (source tag at (form.Post b c e)) a k ∙ form-post n tag at a k b c e)
        (mailed n some tag.node role.Post b c e xb xc xe);
  }

pub encodes-sound : (p : Program) → IsSound p → IsLowSound (encoded p)
encodes-sound p s =
    let n : ℕ = length p.sites in
    let at : p.at < n = s.at in
    let some : 0 < n = omega (arith, at) in
    let body = low-proc n some (translated n) (is-translated n some) (λ x m. m) s.main (main n) (IsLowExpr.constant IsLowValue.main) p.binders in
    record { at = s.at; main = low-main n some p.at _ _ _ s.at body; daemon = low-daemon n some p.at _ s.at }
