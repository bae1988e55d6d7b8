-- Where no site can act, no agent has an affair, and nothing waits for an agent's lock.
use Rattle.std.proofs.Common.{◌≡◌, ◌≤◌, ◌+◌, ◌⊎◌, inl, inr, ℕ, Bool, true, false, ◌||◌, is_some, Some, [], ◌∷◌, refl, sym, ap, subst, ◌∙◌, arith}
use Rattle.std.specs.List.{count_by, list_any, sum_by}
use Rattle.std.proofs.lemmas.List.Elements.{recursion_from_All}
use Rattle.std.specs.FinMap as map
use Rattle.np_syntax.specs.declared.value.Name.{Name}
use Rattle.np_syntax.specs.declared.value.Value as value
use Rattle.np_syntax.specs.declared.expression.Expr.{Expr}
use Rattle.np_tables.specs.Names.{same_name}
use Rattle.np_tables.proofs.Tables.{same_name-is, same_name-itself}
use Rattle.np_calculus.specs.declared.config.Atom.{Atom}
use Rattle.np_calculus.specs.Config.{Config}
use Rattle.np_calculus.specs.Idle.{Idle}
use Rattle.np_calculus.specs.Parts.{IsLodged}
use Rattle.np_calculus.specs.Sight.{inside}
use Rattle.np_calculus.specs.Starts.{daemon_agent, own}
use Rattle.simulate_laws.specs.protocol.Chips.{Chip, counted, has_lock}
use Rattle.simulate_laws.specs.protocol.Columns.{Column, times}
use Rattle.simulate_laws.specs.protocol.Phases.{Phase, is_moving, is_registered, line}
use Rattle.simulate_laws.specs.protocol.Protocol.{IsTrueOf, one_if}
use Rattle.simulate_laws.proofs.protocol.Steps.{sum_before}
use Rattle.infrastructure_texts.specs.Infrastructures.{Infrastructure}
use Rattle.simulate_laws.specs.things.Mail.{Mail}
use Rattle.simulate_laws.specs.things.Shapes.{Gives, Is}
use Rattle.simulate_laws.specs.things.Things.{Stage, Thing, show_all, shows}
use Rattle.simulate_laws.specs.levels.Coupled.{Coupled, View, chips, scene}
use Rattle.simulate_laws.proofs.levels.Marks.{step_at}
use Rattle.simulate_laws.proofs.simulation.Anys.{any_counted, any_in_column, in_column, one_truth, sum_in_column}
use Rattle.simulate_laws.proofs.simulation.Resting.{MayRest, Rester, rester}
use Rattle.simulate_laws.proofs.simulation.Standing.{told}
use Rattle.simulate_laws.proofs.simulation.Waiting.{Taking, asking_takes, beginning_takes, gives_there, no_meeting, settling_takes, takes_bound}

two_truths : (b : Bool) → ((b || false) || false) ≡ true → b ≡ true
two_truths true h = refl
two_truths false h = absurd cc

-- ---- who shows a chip in a column

-- these have none that may rest
data Never : Column → Type 0 where
  maker : Never Column.maker
  leaver : Never Column.leaver
  registration : Never Column.registration
  report : Never Column.report

module _ (a : Name) where
  never : (col : Column) → Never col → (t : Thing) → MayRest t → list_any (in_column a col) (shows t) ≡ false
  never col Never.maker t MayRest.source = refl
  never col Never.maker t _ = refl
  never col Never.leaver t MayRest.source = refl
  never col Never.leaver t _ = refl
  never col Never.registration t MayRest.source = refl
  never col Never.registration t _ = refl
  never col Never.report t MayRest.source = refl
  never col Never.report t _ = refl

  token_of : (t : Thing) → MayRest t → list_any (in_column a Column.token) (shows t) ≡ true → (s : ℕ) × (t ≡ Thing.token a s)
  token_of t (MayRest.token {a = b} {s = s}) h = (s, ap (λ x. Thing.token x s) (sym (same_name-is a b (two_truths _ h))))
  token_of t _ h = absurd cc

  mover_of : (t : Thing) → MayRest t → list_any (in_column a Column.mover) (shows t) ≡ true → (x : Expr) × (h : Atom) × (t ≡ Thing.asking x h) × (h.agent ≡ a)
  mover_of t (MayRest.asking {a = x} {h = h}) e = (x, h, refl, sym (same_name-is a h.agent (two_truths _ e)))
  mover_of t _ e = absurd cc

  waiter_of : (t : Thing) → MayRest t → list_any (in_column a Column.waiter) (shows t) ≡ true → (x : Expr) × (h : Atom) × (s : ℕ) × (t ≡ Thing.settling x h s) × (h.agent ≡ a)
  waiter_of t (MayRest.settling {a = x} {h = h} {s = s}) e = (x, h, s, refl, sym (same_name-is a h.agent (two_truths _ e)))
  waiter_of t _ e = absurd cc

  child_of : (t : Thing) → MayRest t → list_any (in_column a Column.child) (shows t) ≡ true → (x : Expr) × (h : Atom) × (p : Name) × (s : ℕ) × (t ≡ Thing.beginning x h p s) × (h.agent ≡ a)
  child_of t (MayRest.beginning {a = x} {h = h} {p = p} {s = s}) e = (x, h, p, s, refl, sym (same_name-is a h.agent (two_truths _ e)))
  child_of t _ e = absurd cc

  owed_of : (t : Thing) → MayRest t → list_any (in_column a Column.owed) (shows t) ≡ true → (x : Expr) × (h : Atom) × (p : Name) × (s : ℕ) × (t ≡ Thing.beginning x h p s)
  owed_of t (MayRest.beginning {a = x} {h = h} {p = p} {s = s}) e = (x, h, p, s, refl)
  owed_of t _ e = absurd cc

  request_of : (t : Thing) → MayRest t → list_any (in_column a Column.request) (shows t) ≡ true → (l : Name) × (t ≡ Thing.wanting (Mail.migrating a) l)
  request_of t (MayRest.grants {a = b} {l = l}) h = (l, ap (λ x. Thing.wanting (Mail.migrating x) l) (sym (same_name-is a b (two_truths _ h))))
  request_of t _ h = absurd cc

  ack_of : (t : Thing) → MayRest t → list_any (in_column a Column.ack) (shows t) ≡ true → (s : ℕ) × (t ≡ Thing.mail (Mail.ack a s) Stage.there)
  ack_of t (MayRest.acks {a = b} {s = s}) h = (s, ap (λ x. Thing.mail (Mail.ack x s) Stage.there) (sym (same_name-is a b (two_truths _ h))))
  ack_of t _ h = absurd cc

  -- the lock of an agent is free
  free_of : (l : Name) (t : Thing) → MayRest t → list_any (has_lock (Some l) a) (shows t) ≡ true → (s : ℕ) × (t ≡ Thing.free l s)
  free_of l t (MayRest.free {l = k} {s = s}) h = (s, ap (λ x. Thing.free x s) (same_name-is k l (swapped (one_truth _ h))))
    where
      swapped : same_name l k ≡ true → same_name k l ≡ true
      swapped e = ap (λ x. same_name x l) (sym (same_name-is l k e)) ∙ same_name-itself l
  free_of l t _ h = absurd cc

-- ---- the phases

module _ {i : Infrastructure} {n from first : ℕ} {low high : Config} {v : View} (c : Coupled i n from first low high v) (lodged : IsLodged (inside low)) (idle : Idle low) where
  -- who is in a column in the phase of an agent is there
  in_phase : (a : Name) (p : Phase) (col : Column) → v.phase a ≡ p → 1 ≤ times col (line p) → Rester c lodged idle shows (in_column a col)
  in_phase a p col is h =
      let its : times col (line (v.phase a)) ≡ times col (line p) = ap (λ q. times col (line q)) is in
      rester c lodged idle shows (in_column a col) (any_in_column a col (chips v.things) (omega (arith, c.protocol.rows a col)))

  none_in_phase : {A : Type 0} (a : Name) (p : Phase) (col : Column) → Never col → v.phase a ≡ p → 1 ≤ times col (line p) → A
  none_in_phase a p col none is h =
      let r = in_phase a p col is h in
      absurd (let bad : false ≡ true = sym (never a col none r.thing r.rests) ∙ r.shown in cc)

  -- no acknowledgement waits for an agent that takes it
  no_ack : {A : Type 0} (a : Name) (p : Phase) → v.phase a ≡ p → 1 ≤ times Column.ack (line p) → (m : Name) (b : Atom) → map.get low.atoms m ≡ Some b → b.agent ≡ a → Taking b (own n 7) → A
  no_ack a p is h m b there of taking =
      let r = in_phase a p Column.ack is h in
      let t = ack_of a r.thing r.rests r.shown in
      let g = subst (λ x. Is i n from first x r.atom) t.1 r.is in
      no_meeting c lodged idle r.mark m r.atom b (own n 7) r.there there (g.agent ∙ sym of) (gives_there g) taking

  not_granting : {A : Type 0} (a : Name) → v.phase a ≡ Phase.granting → A
  not_granting a is =
      let r = in_phase a Phase.granting Column.mover is (omega arith) in
      let t = mover_of a r.thing r.rests r.shown in
      let i = subst (λ x. Is i n from first x r.atom) {y = Thing.asking t.0 t.1} t.2 r.is in
      no_ack a Phase.granting is (omega arith) r.mark r.atom r.there (i.stands.agent ∙ t.3) (asking_takes n from t.0 t.1 r.atom i)

  not_finishing : {A : Type 0} (a : Name) → v.phase a ≡ Phase.finishing → A
  not_finishing a is =
      let r = in_phase a Phase.finishing Column.waiter is (omega arith) in
      let t = waiter_of a r.thing r.rests r.shown in
      let i = subst (λ x. Is i n from first x r.atom) {y = Thing.settling t.0 t.1 t.2} t.3 r.is in
      no_ack a Phase.finishing is (omega arith) r.mark r.atom r.there (i.stands.agent ∙ t.4) (settling_takes n from t.0 t.1 r.atom t.2 i)

  not_starting : {A : Type 0} (a : Name) → v.phase a ≡ Phase.starting → A
  not_starting a is =
      let r = in_phase a Phase.starting Column.child is (omega arith) in
      let t = child_of a r.thing r.rests r.shown in
      let i = subst (λ x. Is i n from first x r.atom) {y = Thing.beginning t.0 t.1 t.2 t.3} t.4 r.is in
      no_ack a Phase.starting is (omega arith) r.mark r.atom r.there (i.stands.agent ∙ t.5) (beginning_takes n from t.0 t.1 r.atom t.2 t.3 i)

  not_registering : {A : Type 0} (a : Name) → v.phase a ≡ Phase.registering → A
  not_registering a is = none_in_phase a Phase.registering Column.registration Never.registration is (omega arith)

  -- ---- locks

  -- no agent's lock is out for its move
  not_moving : (a : Name) (p : Phase) → v.phase a ≡ p → is_moving p ≡ false
  not_moving a Phase.granting is = not_granting a is
  not_moving a Phase.granted is = none_in_phase a Phase.granted Column.leaver Never.leaver is (omega arith)
  not_moving a (Phase.reporting t) is = none_in_phase a (Phase.reporting t) Column.report Never.report is (omega arith)
  not_moving a _ is = refl

  -- the lock of an agent in the map is free
  pub record FreeLock (l : Name) : Type 0 where
    pub mark : Name
    pub site : ℕ
    pub under : map.get v.things mark ≡ Some (Thing.free l site ∷ [])
    pub atom : Atom
    pub there : map.get low.atoms mark ≡ Some atom
    pub gives : Gives (daemon_agent n) l (value.Site site) atom

  pub free_lock : (a l : Name) → v.lock a ≡ Some l → FreeLock l
  free_lock a l has =
      let known : one_if (is_registered (v.phase a)) ≡ 1 = ap one_if (sym (c.protocol.registered a) ∙ ap is_some has) in
      let still : one_if (is_moving (v.phase a)) ≡ 0 = ap one_if (not_moving a (v.phase a) refl) in
      let some : 1 ≤ count_by (has_lock (v.lock a) a) (chips v.things) = omega (arith, c.protocol.one_lock a) in
      let r = rester c lodged idle shows (has_lock (v.lock a) a) (any_counted (has_lock (v.lock a) a) (chips v.things) some) in
      let t = free_of a l r.thing r.rests (subst (λ o. list_any (has_lock o a) (shows r.thing) ≡ true) has r.shown) in
      record {
        mark = r.mark;
        site = t.0;
        under = subst (λ x. map.get v.things r.mark ≡ Some (x ∷ [])) {y = Thing.free l t.0} t.1 r.under;
        atom = r.atom;
        there = r.there;
        gives = subst (λ x. Is i n from first x r.atom) {y = Thing.free l t.0} t.1 r.is;
      }

  -- so nothing in the daemon waits for it
  pub no_wanting : {A : Type 0} (a l : Name) → v.lock a ≡ Some l → (m : Name) (b : Atom) → map.get low.atoms m ≡ Some b → b.agent ≡ daemon_agent n → Taking b l → A
  no_wanting a l has m b there of taking =
      let f = free_lock a l has in
      no_meeting c lodged idle f.mark m f.atom b l f.there there (f.gives.agent ∙ sym of) (gives_there f.gives) taking

  not_asking : {A : Type 0} (a : Name) → v.phase a ≡ Phase.asking → A
  not_asking a is =
      let r = in_phase a Phase.asking Column.request is (omega arith) in
      let t = request_of a r.thing r.rests r.shown in
      let i = subst (λ x. Is i n from first x r.atom) t.1 r.is in
      let under : map.get v.things r.mark ≡ Some (Thing.wanting (Mail.migrating a) t.0 ∷ []) = r.under ∙ ap (λ x. Some (x ∷ [])) t.1 in
      let tells = recursion_from_All (IsTrueOf (scene v high) v.phase) (Chip.request a ∷ Chip.wants a t.0 ∷ []) (told c lodged idle r.mark (Thing.wanting (Mail.migrating a) t.0 ∷ []) under) in
      no_wanting a t.0 tells.1.0 r.mark r.atom r.there i.agent (takes_bound r.atom (first + 6) 0 _ _ t.0 i.waits.0 i.waits.2)

  -- ---- new agents

  -- an agent that waits to begin is in that phase
  begins_in : (b : Name) (p : Phase) → v.phase b ≡ p → 1 ≤ times Column.child (line p) → ⊥
  begins_in b Phase.registering is h = not_registering b is
  begins_in b Phase.starting is h = not_starting b is
  begins_in b Phase.absent is h = omega arith
  begins_in b Phase.resting is h = omega arith
  begins_in b Phase.creating is h = omega arith
  begins_in b Phase.asking is h = omega arith
  begins_in b Phase.granting is h = omega arith
  begins_in b Phase.granted is h = omega arith
  begins_in b (Phase.reporting t) is h = omega arith
  begins_in b Phase.parent is h = omega arith
  begins_in b Phase.finishing is h = omega arith

  -- a thing that shows a chip in a column tells the phase of its agent
  in_line : (m : Name) (t : Thing) (a : Name) (col : Column) → map.get v.things m ≡ Some (t ∷ []) → list_any (in_column a col) (show_all (t ∷ [])) ≡ true → 1 ≤ times col (line (v.phase a))
  in_line m t a col under h =
      let its : 1 ≤ sum_by (counted a col) (show_all (t ∷ [])) = sum_in_column a col (show_all (t ∷ [])) h in
      omega (arith, sum_before (step_at shows v.things m (t ∷ []) [] under) (counted a col), c.protocol.rows a col)

  pub no_beginning : {A : Type 0} (m : Name) (x : Expr) (h : Atom) (p : Name) (s : ℕ) → map.get v.things m ≡ Some (Thing.beginning x h p s ∷ []) → A
  no_beginning m x h p s under =
      absurd (begins_in h.agent (v.phase h.agent) refl (in_line m (Thing.beginning x h p s) h.agent Column.child under (ap (λ t. ((t || false) || false)) (same_name-itself h.agent))))

  not_parent : {A : Type 0} (a : Name) → v.phase a ≡ Phase.parent → A
  not_parent a is =
      let r = in_phase a Phase.parent Column.owed is (omega arith) in
      let t = owed_of a r.thing r.rests r.shown in
      no_beginning r.mark t.0 t.1 t.2 t.3 (r.under ∙ ap (λ x. Some (x ∷ [])) t.4)

  -- ---- all of them

  abbrev pub HasNone : Phase → Type 0
  HasNone p = (p ≡ Phase.resting) ⊎ (p ≡ Phase.absent)

  no_affair : (a : Name) (p : Phase) → v.phase a ≡ p → HasNone p
  no_affair a Phase.absent is = inr refl
  no_affair a Phase.resting is = inl refl
  no_affair a Phase.creating is = none_in_phase a Phase.creating Column.maker Never.maker is (omega arith)
  no_affair a Phase.asking is = not_asking a is
  no_affair a Phase.granting is = not_granting a is
  no_affair a Phase.granted is = none_in_phase a Phase.granted Column.leaver Never.leaver is (omega arith)
  no_affair a (Phase.reporting t) is = none_in_phase a (Phase.reporting t) Column.report Never.report is (omega arith)
  no_affair a Phase.parent is = not_parent a is
  no_affair a Phase.finishing is = not_finishing a is
  no_affair a Phase.registering is = not_registering a is
  no_affair a Phase.starting is = not_starting a is

  pub rests : (a : Name) → HasNone (v.phase a)
  rests a = no_affair a (v.phase a) refl

  -- so nothing asks to move, and nothing waits for the end of an affair
  none_busy : (a : Name) (col : Column) → times col (line Phase.resting) ≡ 0 → times col (line Phase.absent) ≡ 0 → 1 ≤ times col (line (v.phase a)) → ⊥
  none_busy a col r b h = elim (rests a) [
    | inl i ↦ (let its : times col (line (v.phase a)) ≡ times col (line Phase.resting) = ap (λ p. times col (line p)) i in omega arith)
    | inr i ↦ (let its : times col (line (v.phase a)) ≡ times col (line Phase.absent) = ap (λ p. times col (line p)) i in omega arith)
  ]

  pub no_asking : {A : Type 0} (m : Name) (x : Expr) (h : Atom) → map.get v.things m ≡ Some (Thing.asking x h ∷ []) → A
  no_asking m x h under = absurd (none_busy h.agent Column.mover refl refl (in_line m (Thing.asking x h) h.agent Column.mover under (ap (λ t. ((t || false) || false)) (same_name-itself h.agent))))

  pub no_settling : {A : Type 0} (m : Name) (x : Expr) (h : Atom) (s : ℕ) → map.get v.things m ≡ Some (Thing.settling x h s ∷ []) → A
  no_settling m x h s under = absurd (none_busy h.agent Column.waiter refl refl (in_line m (Thing.settling x h s) h.agent Column.waiter under (ap (λ t. ((t || false) || false)) (same_name-itself h.agent))))

  -- the `currentloc` of an agent that rests is free
  pub token : (a : Name) → v.phase a ≡ Phase.resting → (m : Name) × (b : Atom) × (s : ℕ) × (map.get low.atoms m ≡ Some b) × Is i n from first (Thing.token a s) b
  token a is =
      let r = in_phase a Phase.resting Column.token is (omega arith) in
      let t = token_of a r.thing r.rests r.shown in
      (r.mark, r.atom, t.0, r.there, subst (λ x. Is i n from first x r.atom) t.1 r.is)
