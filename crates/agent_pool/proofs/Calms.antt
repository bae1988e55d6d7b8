-- Where each atom is calm, nothing is ready.
use Rattle.std.proofs.Common.{◌≡◌, ℕ, Bool, true, false, length, Option, None, Some, refl, sym, ap, subst, ◌∙◌}
use Rattle.std.specs.Prelude.{is_some, option_map}
use Rattle.std.specs.FinMap as map
use Rattle.np_syntax.proofs.Bools.{and-out}
use Rattle.np_calculus.proofs.Common.{Name, Value, Expr, Pat, ProcForm-F, Kind, ◌>>=◌, then, when, done, NameMap, same_name, chan_of, eval, bind, Layer, layer, sends}
use Rattle.np_eval.specs.Eval.{Env}
use Rattle.np_eval.specs.Forms.{as_out}
use Rattle.np_calculus.specs.declared.config.Atom.{Atom}
use Rattle.np_tables.specs.Mapped.{mapped}
use Rattle.np_tables.proofs.Mapped.{get-mapped}
use Rattle.np_tables.proofs.Keyed.{alike-same}
use Rattle.np_tables.proofs.Tables.{same_name-is, same_name-itself, same_name-swap}
use Rattle.np_code.specs.Programs.{ProgramTable}
use Rattle.agent_index.specs.declared.wait.Wait.TheVariants as wait
use Rattle.agent_index.specs.contracts.wait.WaitPartialEq.TheImpl as waits
use Rattle.agent_index.specs.InStep.{is_under}
use Rattle.agent_index.specs.Lines.{same_line}
use Rattle.agent_index.specs.declared.wait.Wait.{Wait}
use Rattle.agent_index.specs.Shelves.{Kept, value_of, wait_of as kept_under}
use Rattle.agent_pool.specs.declared.held.Held.{Held}
use Rattle.agent_pool.specs.declared.ready.Ready.{Ready}
use Rattle.agent_pool.specs.Held.{proc_of, env_of, wait_at, wait_of}
use Rattle.agent_pool.specs.Pools.{seen_as}
use Rattle.agent_pool.specs.Readies.{begins, alone_at, taken_by, offers_in, offers, meets, pair_at, NoneAlone, NoneMeet}
use Rattle.agent_pool.specs.Calm.{NoOutput, IsCalm, CalmAt}

takes-wait : (env : Env) (l : Layer) (t : Kind × Expr × Pat) (n : Name) → taken_by l ≡ Some t → chan_of t.1 env ≡ Some n → wait_at env l ≡ wait.Takes n
takes-wait env (ProcForm-F.Inp c pat body) t n is on = rw (ap (λ (u : Kind × Expr × Pat). chan_of u.1 env) (sym (done is)) ∙ on) refl
takes-wait env (ProcForm-F.Rep c pat body) t n is on = rw (ap (λ (u : Kind × Expr × Pat). chan_of u.1 env) (sym (done is)) ∙ on) refl
takes-wait env _ t n is on = absurd cc

gives-form : (env : Env) (l : Layer) (o : Expr × Expr) (n : Name) → as_out l ≡ Some o → chan_of o.0 env ≡ Some n → wait_at env l ≡ wait.Gives n
gives-form env (ProcForm-F.Out c x) o n is on = rw (ap (λ (u : Expr × Expr). chan_of u.0 env) (sym (done is)) ∙ on) refl
gives-form env _ o n is on = absurd cc

-- an output whose value is known waits on its channel
gives-wait : (b : Atom) (sent : Name × Value) → sends b ≡ Some sent → wait_at b.env (layer b.proc) ≡ wait.Gives sent.0
gives-wait b sent h =
    then (as_out (layer b.proc)) _ h λ o form h. then (chan_of o.0 b.env) _ h λ n on h. then (eval o.1 b.env) _ h λ v gives h.
    gives-form b.env (layer b.proc) o n form on ∙ ap (λ (s : Name × Value). wait.Gives s.0) (sym (done h))

offered-by : (o : Option (Name × Value)) (n : Name) (pat : Pat) (env : Env) → offers_in o n pat env ≡ true → (sent : Name × Value) × (o ≡ Some sent) × (same_name n sent.0 ≡ true)
offered-by None n pat env h = absurd cc
offered-by (Some sent) n pat env h = (sent, refl, (and-out (same_name n sent.0) (is_some (bind pat sent.1 env)) h).0)

module _ (code : ProgramTable) (agent : Name) (atoms : NameMap (Kept Held)) (calm : (q : Name) → CalmAt code atoms q) where
  abbrev f : Kept Held → Atom
  f = seen_as code.processes agent

  pub calm-alone : NoneAlone (length code.sites) (mapped f atoms)
  calm-alone = record { each = λ mark. ap (λ o. o >>= alone_at (length code.sites) mark) (get-mapped f atoms mark) ∙ by mark (map.get atoms mark) refl }
    where
      by : (mark : Name) (o : Option (Kept Held)) → map.get atoms mark ≡ o → (option_map f o >>= alone_at (length code.sites) mark) ≡ None
      by mark None is = refl
      by mark (Some kept) is = ap (λ o. o >>= λ k. Some (record { kind = k; actor = mark; other = None; tag = (f kept).proc.tag })) (calm mark kept is).alone

  different : (w v : Name) (t : Bool) → same_name v w ≡ true → same_name w v ≡ t → t ≡ false → ⊥
  different w v t same is no_more = let x = sym (same_name-swap w v ∙ same) ∙ is ∙ no_more in cc

  apart : (mark other : Name) (x y : Kept Held) → map.get atoms mark ≡ Some x → map.get atoms other ≡ Some y → (k : Kind) → meets (f x) (f y) ≡ Some k → ⊥
  apart mark other x y is got k h =
      then (taken_by (layer (f x).proc)) _ h λ t form h. then (chan_of t.1 (f x).env) _ h λ n on h. when (offers (f y) n t.2 (f x).env) _ h λ fit h.
      let g = offered-by (sends (f y)) n t.2 (f x).env fit in
      let takes : x.0 ≡ wait.Takes n = (calm mark x is).filed ∙ takes-wait (f x).env (layer (f x).proc) t n form on in
      let gives : y.0 ≡ wait.Gives g.0.0 = (calm other y got).filed ∙ gives-wait (f y) g.0 g.1 in
      let none : same_line y.0 (wait.Gives n) ≡ false = sym (ap (λ o. is_under o (wait.Gives n)) got) ∙ ((calm mark x is).takes n takes).each other in
      different g.0.0 n (same_name g.0.0 n) g.2 refl (sym (ap (λ w. same_line w (wait.Gives n)) gives) ∙ none)

  pub calm-meet : NoneMeet (mapped f atoms)
  calm-meet = record {
    each = λ mark other.
        (λ i. get-mapped f atoms mark i >>= λ a. get-mapped f atoms other i >>= λ b. pair_at mark a other b) ∙ by mark other (map.get atoms mark) refl (map.get atoms other) refl;
  }
    where
      none : (mark other : Name) (x y : Kept Held) (o : Option Kind) → meets (f x) (f y) ≡ o → ((k : Kind) → o ≡ Some k → ⊥) → pair_at mark (f x) other (f y) ≡ None
      none mark other x y None is h = ap (λ o. o >>= λ k. Some (record { kind = k; actor = mark; other = Some other; tag = (f x).proc.tag })) is
      none mark other x y (Some k) is h = absurd (h k refl)

      by : (mark other : Name) (o : Option (Kept Held)) → map.get atoms mark ≡ o → (p : Option (Kept Held)) → map.get atoms other ≡ p
          → (option_map f o >>= λ a. option_map f p >>= λ b. pair_at mark a other b) ≡ None
      by mark other None is p got = refl
      by mark other (Some x) is None got = refl
      by mark other (Some x) is (Some y) got = none mark other x y (meets (f x) (f y)) refl λ k h. apart mark other x y is got k h

-- an atom that is filed under what it waits for, and of which nothing else keeps the agent busy
pub calm-of : (code : ProgramTable) (atoms : NameMap (Kept Held)) (mark : Name) (h : Held) (w : Wait) → Some h ≡ value_of (map.get atoms mark) → Some w ≡ kept_under (map.get atoms mark)
    → begins (length code.sites) (env_of h) (layer (proc_of code.processes h)) ≡ None → w ≡ wait_of code.processes h → ((chan : Name) → w ≡ wait.Takes chan → NoOutput atoms chan) → CalmAt code atoms mark
calm-of code atoms mark h w held under alone filed takes kept e =
    let wait_is : kept.0 ≡ w = done (under ∙ ap kept_under e) in
    let held_is : kept.1 ≡ h = done (held ∙ ap value_of e) in
    let same : kept ≡ (w, h) = λ i. (wait_is i, held_is i) in
    subst (IsCalm code atoms) (sym same) (record { alone = alone; filed = filed; takes = takes })

abbrev lone_ready : Name → Atom → Kind → Ready
lone_ready mark a k = record { kind = k; actor = mark; other = None; tag = a.proc.tag }

-- what can do nothing alone begins nothing
pub none-begun : (sites : ℕ) (mark : Name) (a : Atom) (o : Option Ready) → o ≡ alone_at sites mark a → is_some o ≡ false → begins sites a.env (layer a.proc) ≡ None
none-begun sites mark a o is none = by (begins sites a.env (layer a.proc)) (sym (ap is_some is) ∙ none)
  where
    by : (p : Option Kind) → is_some (p >>= λ k. Some (lone_ready mark a k)) ≡ false → p ≡ None
    by None h = refl
    by (Some k) h = absurd cc

-- the comparison that `==` makes
abbrev pub same_wait : Wait → Wait → Bool
same_wait = waits.eq-value.it

pub same_wait-is : (w v : Wait) → same_wait w v ≡ true → w ≡ v
same_wait-is wait.Acts wait.Acts h = refl
same_wait-is wait.Acts (wait.Gives d) h = absurd cc
same_wait-is wait.Acts (wait.Takes d) h = absurd cc
same_wait-is wait.Acts wait.Stuck h = absurd cc
same_wait-is (wait.Gives c) wait.Acts h = absurd cc
same_wait-is (wait.Gives c) (wait.Gives d) h = ap wait.Gives (same_name-is c d (sym (alike-same c d) ∙ h))
same_wait-is (wait.Gives c) (wait.Takes d) h = absurd cc
same_wait-is (wait.Gives c) wait.Stuck h = absurd cc
same_wait-is (wait.Takes c) wait.Acts h = absurd cc
same_wait-is (wait.Takes c) (wait.Gives d) h = absurd cc
same_wait-is (wait.Takes c) (wait.Takes d) h = ap wait.Takes (same_name-is c d (sym (alike-same c d) ∙ h))
same_wait-is (wait.Takes c) wait.Stuck h = absurd cc
same_wait-is wait.Stuck wait.Acts h = absurd cc
same_wait-is wait.Stuck (wait.Gives d) h = absurd cc
same_wait-is wait.Stuck (wait.Takes d) h = absurd cc
same_wait-is wait.Stuck wait.Stuck h = refl

pub same_wait-itself : (w : Wait) → same_wait w w ≡ true
same_wait-itself wait.Acts = refl
same_wait-itself (wait.Gives c) = alike-same c c ∙ same_name-itself c
same_wait-itself (wait.Takes c) = alike-same c c ∙ same_name-itself c
same_wait-itself wait.Stuck = refl
