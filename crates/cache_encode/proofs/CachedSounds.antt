-- What stands in the low program of a resolved program where agents have caches.
use Rattle.std.proofs.Common.{◌<◌, ℕ, ◌+◌, inl, inr, List, [], ◌∷◌, length, refl, ◌∙◌, arith}
use Rattle.np_syntax.specs.declared.expression.Expr.{Expr}
use Rattle.np_syntax.specs.declared.process.Role.TheVariants as role
use Rattle.np_syntax.specs.declared.process.Proc.{Proc}
use Rattle.np_syntax.specs.declared.process.ProcForm as form
use Rattle.np_syntax.specs.declared.program.Program.{Program}
use Rattle.np_scope.specs.Sound.{Among, IsSound}
use Rattle.np_scope.specs.Written.{IsSourceType, IsChannelType}
use Rattle.infrastructure_texts.specs.Pieces.{variable, pair, two_names, main}
use Rattle.daemon_encode.specs.LowSound.{IsLowValue, IsLowExpr, Enters, IsLowProc, IsLowSound}
use Rattle.daemon_encode.specs.Translates.{source}
use Rattle.daemon_encode.proofs.LowSounds.{Within, wider-expr, its, two, one-name, both-names, told, mailed, low-server, begun, registered, low-creation, low-main}
use Rattle.daemon_encode.proofs.LowSounds.{held, freed, noted, found_in, low-daemon, written, IsTranslation, low-proc}
use Rattle.infrastructure_texts.specs.CacheTexts.{keeps, empty_cache, found_server, with_cache, asks, hands_back, goes_by_hint, goes_by_daemon, post_text, agent_text, main_text}
use Rattle.infrastructure_texts.specs.CacheDaemon.{where_server, cached_daemon}
use Rattle.cache_encode.specs.Encoded.{cached, encoded_cached}
use Rattle.cache_encode.proofs.Forms.{cached-form, form-agent, form-post}
use Rattle.cache_encode.proofs.KeptForms.{cached-keeps}

module _ (n : ℕ) (some : 0 < n) where
  -- ---- the cache

  kept : {scope : List ℕ} (k m : ℕ) → Among m scope → IsLowProc n scope (keeps n k m)
  kept k m h = IsLowProc.output (its n some 14 refl) (IsLowExpr.variable h)

  low-empty : {scope : List ℕ} (k : ℕ) → IsLowProc n scope (empty_cache n k)
  low-empty k = IsLowProc.output (its n some 14 refl) (IsLowExpr.constant IsLowValue.no_places)

  low-found : {scope : List ℕ} (k x : ℕ) → IsLowProc n scope (found_server n k x)
  low-found k x =
      IsLowProc.replicated (its n some 16 refl) (both-names n some x (x + 1)) (IsLowProc.input (its n some 14 refl) (one-name n some (x + 2))
      (IsLowProc.lookup (IsLowExpr.variable (inr (inr (inl refl)))) (IsLowExpr.variable (inl refl))
      (IsLowProc.parallel
      (IsLowProc.input (IsLowExpr.variable (inl refl)) Enters.any (held n some k (x + 3) (x + 1) (inl refl) (inr (inr (inl refl)))))
      (kept k (x + 2) (inr (inl refl))))
      (IsLowProc.channel (IsChannelType.carries IsSourceType.site) (IsLowProc.parallel
      (IsLowProc.output (its n some 14 refl) (IsLowExpr.with_lock (IsLowExpr.variable (inr (inl refl))) (IsLowExpr.variable (inr (inr (inr (inl refl))))) (IsLowExpr.variable (inl refl))))
      (held n some k (x + 4) (x + 1) (inl refl) (inr (inr (inl refl))))))))

  low-cache : {scope : List ℕ} (k x : ℕ) (p : Proc) → IsLowProc n scope p → IsLowProc n scope (with_cache n k x p)
  low-cache k x p g = IsLowProc.parallel (IsLowProc.parallel g (low-empty k)) (low-found k x)

  -- ---- a post

  -- its parts, with these binders in scope
  record Posted (scope : List ℕ) (a b c v : Expr) : Type 0 where
    from : IsLowExpr n scope a
    to : IsLowExpr n scope b
    on : IsLowExpr n scope c
    value : IsLowExpr n scope v

  wider-post : (scope wider : List ℕ) (a b c v : Expr) → Within scope wider → Posted scope a b c v → Posted wider a b c v
  wider-post scope wider a b c v h s = record { from = wider-expr n h s.from; to = wider-expr n h s.to; on = wider-expr n h s.on; value = wider-expr n h s.value }

  module _ (scope : List ℕ) (k : ℕ) (a b c v : Expr) (s : Posted scope a b c v) where
    asked : IsLowProc n scope (asks n k a b)
    asked = told n some k role.Infra 15 (pair a b) refl (two n some s.from s.to)

    handed_back : IsLowProc n scope (hands_back n k a b c v)
    handed_back = IsLowProc.parallel (mailed n some k role.Infra b c v s.to s.on s.value) asked

    low-by_daemon : (m : ℕ) → Among m scope → IsLowProc n scope (goes_by_daemon n k a b c v m)
    low-by_daemon m h = IsLowProc.parallel (IsLowProc.parallel (mailed n some k role.Post b c v s.to s.on s.value) asked) (kept k m h)

  low-by_hint : (scope : List ℕ) (k : ℕ) (a b c v : Expr) (m : ℕ) → Posted scope a b c v → IsLowProc n ((m + 1) ∷ m ∷ scope) (goes_by_hint n k a b c v m)
  low-by_hint scope k a b c v m s =
      let inner : List ℕ = (m + 3) ∷ (m + 2) ∷ (m + 1) ∷ m ∷ scope in
      let all : Posted inner a b c v = wider-post scope inner a b c v (λ x h. inr (inr (inr (inr h)))) s in
      IsLowProc.parallel (IsLowProc.input (IsLowExpr.variable (inl refl)) (one-name n some (m + 2)) (IsLowProc.parallel
      (IsLowProc.agent
      (IsLowProc.migrate (IsLowExpr.variable (inr (inl refl))) (IsLowProc.iflocal all.to all.on all.value IsLowProc.stop (handed_back inner k a b c v all)))
      IsLowProc.stop)
      (held n some k (m + 1) (m + 2) (inr (inl refl)) (inl refl))))
      (kept k m (inr (inl refl)))

  low-post : (scope : List ℕ) (k : ℕ) (a b c v : Expr) (m : ℕ) → Posted scope a b c v → IsLowProc n scope (post_text n k a b c v m)
  low-post scope k a b c v m s =
      let locked : Posted (m ∷ scope) a b c v = wider-post scope (m ∷ scope) a b c v (λ x h. inr h) s in
      IsLowProc.input (its n some 14 refl) (one-name n some m) (IsLowProc.lookup locked.to (IsLowExpr.variable (inl refl))
      (low-by_hint scope k a b c v m s)
      (low-by_daemon (m ∷ scope) k a b c v locked m (inl refl)))

  -- ---- a creation, and main's bracket

  low-agent : (scope : List ℕ) (k : ℕ) (a : Expr) (b s l t c : ℕ) (p q : Proc) → IsLowExpr n (b ∷ s ∷ scope) a → IsLowProc n (b ∷ s ∷ scope) p → IsLowProc n (b ∷ s ∷ scope) q
      → IsLowProc n scope (agent_text n k a b s l t c p q)
  low-agent scope k a b s l t c p q xa gp gq =
      low-creation n some k b s _ q (IsLowProc.parallel (low-cache k c _ (IsLowProc.parallel
      (begun n some k a s p xa (inr (inl refl)) gp)
      (low-server n some k (variable b) l t (IsLowExpr.variable (inl refl)))))
      (registered n some k b s (inl refl) (inr (inl refl)))) gq

  low-cached_main : (s l t c : ℕ) (p : Proc) → s < n → IsLowProc n [] p → IsLowProc n [] (main_text n s l t c p)
  low-cached_main s l t c p within g = low-cache 0 c _ (low-main n some s l t p within g)

  -- ---- the daemon

  low-where : {scope : List ℕ} (a b m l k s u : ℕ) → IsLowProc n scope (where_server n a b m l k s u)
  low-where a b m l k s u =
      noted n some 15 (two_names a b) m _ refl (both-names n some a b) (found_in n some b m l _ (inr (inl refl)) (inl refl)
      (found_in n some a m k _ (inr (inr (inr (inl refl)))) (inr (inl refl)) (IsLowProc.parallel
      (IsLowProc.input (IsLowExpr.variable (inr (inl refl))) (one-name n some s) (IsLowProc.parallel
      (held n some 0 l s (inr (inr (inl refl))) (inl refl))
      (IsLowProc.input (IsLowExpr.variable (inr (inl refl))) (one-name n some u) (IsLowProc.parallel
      (held n some 0 k u (inr (inr (inl refl))) (inl refl))
      (IsLowProc.send (IsLowExpr.variable (inr (inr (inr (inr (inr (inr (inl refl)))))))) (IsLowExpr.variable (inl refl)) (its n some 16 refl)
      (two n some (IsLowExpr.variable (inr (inr (inr (inr (inr (inl refl))))))) (IsLowExpr.variable (inr (inl refl)))))))))
      (freed n some m (inr (inr (inl refl)))))))

  low-cached_daemon : {scope : List ℕ} (s x : ℕ) → s < n → IsLowProc n scope (cached_daemon n s x)
  low-cached_daemon s x within =
      IsLowProc.parallel (low-daemon n some s x within) (low-where (x + 21) (x + 22) (x + 23) (x + 24) (x + 25) (x + 26) (x + 27))

  -- ---- processes

  is-cached : IsTranslation n some (cached n)
  is-cached = record {
    keeps = cached-keeps n;
    creation = λ scope tag at a k b p q xa gp gq.
        let l = (cached n p (variable b) (k + 1)).next in
        written _ _ (cached-form n (source tag at (form.Agent b p q)) a k ∙ form-agent n tag at a k b p q)
        (low-agent scope tag.node a b k l (l + 1) (l + 2) _ _ xa (gp (k + 1)) (gq (l + 7)));
    post = λ scope tag at a k b c e xa xb xc xe.
        written _ _ (cached-form n (source tag at (form.Post b c e)) a k ∙ form-post n tag at a k b c e)
        (low-post scope tag.node a b c e k (record { from = xa; to = xb; on = xc; value = xe }));
  }

pub cached-sound : (p : Program) → IsSound p → IsLowSound (encoded_cached p)
cached-sound p s =
    let n : ℕ = length p.sites in
    let at : p.at < n = s.at in
    let some : 0 < n = omega (arith, at) in
    let body = low-proc n some (cached n) (is-cached n some) (λ x m. m) s.main (main n) (IsLowExpr.constant IsLowValue.main) p.binders in
    record { at = s.at; main = low-cached_main n some p.at _ _ _ _ s.at body; daemon = low-cached_daemon n some p.at _ s.at }
