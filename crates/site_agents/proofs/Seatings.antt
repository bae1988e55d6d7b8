-- Seats of which one is changed, and what stays of whose turn it is.
use Rattle.std.proofs.Common.{◌≡◌, Bool, true, false, cond, ◌⊎◌, inl, inr, Option, None, Some, refl, sym, ap, subst, ◌∙◌}
use Rattle.std.proofs.lemmas.Option.{none-some}
use Rattle.std.specs.Prelude.{IfSome}
use Rattle.std.specs.FinMap as map
use Rattle.np_syntax.specs.declared.value.Name.{Name}
use Rattle.np_tables.specs.Names.{NameMap, same_name}
use Rattle.np_tables.specs.Stored.{Stored}
use Rattle.np_tables.proofs.Mapped.{mapped_there, mapped-put}
use Rattle.np_tables.proofs.Tables.{same_name-is, get-put, put-same}
use Rattle.np_code.specs.Programs.{ProgramTable}
use Rattle.agent_pool.specs.Pools.{atoms_of}
use Rattle.agent_pool.specs.Readies.{IsReady}
use Rattle.agent_pool.specs.declared.ready.Ready.{Ready}
use Rattle.site_agents.specs.declared.seat.Seat.{Seat}
use Rattle.np_tables.specs.Lent.{with_item}
use Rattle.site_agents.specs.Queues.{Waiting, waits, Keeps, KeepsBut}
use Rattle.site_agents.specs.Rounds.{InTurn, QuietCan, GoesOn, changed_in, changed, with_changed, doubted, called, settled}
use Rattle.site_agents.specs.Standings.{is_quiet, agent_of, agents_of, CanDo, CanNothing}

-- what is told of the agent of a seat is told of the agent of its name
pub can_at : (code : ProgramTable) (seats : NameMap Seat) (q : Name) (s : Seat) (o : Option Ready) → Some s ≡ map.get seats q → IfSome o (IsReady code (atoms_of code.processes s.agent))
    → IfSome o (CanDo code (agents_of seats) q)
can_at code seats q s None e h = tt
can_at code seats q s (Some r) e h = record { agent = s.agent; here = mapped_there agent_of seats q s (sym e); ready = h }

same_some : {A : Type 0} {x y : A} → Some x ≡ Some y → x ≡ y
same_some e = cc

-- an entry of changed seats is that of the name, changed, or one of another name
abbrev pub Entry : NameMap Seat → Name → (Seat → Seat) → Name → Seat → Type 0
Entry seats k f q new = ((q ≡ k) × ((s : Seat) × (map.get seats k ≡ Some s) × (new ≡ f s))) ⊎ ((same_name q k ≡ false) × (map.get seats q ≡ Some new))

module _ (seats : NameMap Seat) (k : Name) (f : Seat → Seat) where
  by_put : (q : Name) (new s : Seat) (t : Bool) → same_name q k ≡ t → map.get seats k ≡ Some s → cond t (Some (f s)) (map.get seats q) ≡ Some new → Entry seats k f q new
  by_put q new s true t e h = inl (same_name-is q k t, (s, e, same_some (sym h)))
  by_put q new s false t e h = inr (t, h)

  by_absent : (q : Name) (new : Seat) (t : Bool) → same_name q k ≡ t → map.get seats k ≡ None → map.get seats q ≡ Some new → Entry seats k f q new
  by_absent q new true t e h = absurd (none-some _ (sym e ∙ sym (ap (map.get seats) (same_name-is q k t)) ∙ h))
  by_absent q new false t e h = inr (t, h)

  entry_in : (q : Name) (new : Seat) (o : Option Seat) → map.get seats k ≡ o → map.get (changed_in seats k f o) q ≡ Some new → Entry seats k f q new
  entry_in q new None e h = by_absent q new (same_name q k) refl e h
  entry_in q new (Some s) e h = by_put q new s (same_name q k) refl e (sym (get-put seats k (f s) q) ∙ h)

  pub entry_of : (q : Name) (new : Seat) → map.get (changed seats k f) q ≡ Some new → Entry seats k f q new
  entry_of q new h = entry_in q new (map.get seats k) refl h

  agents_in : ((s : Seat) → agent_of (f s) ≡ agent_of s) → (o : Option Seat) → map.get seats k ≡ o → agents_of (changed_in seats k f o) ≡ agents_of seats
  agents_in same None e = refl
  agents_in same (Some s) e =
      mapped-put agent_of seats k (f s) ∙ ap (map.insert (agents_of seats) k) (same s) ∙ put-same (agents_of seats) k (agent_of s) (mapped_there agent_of seats k s e)

  pub agents_changed : ((s : Seat) → agent_of (f s) ≡ agent_of s) → agents_of (changed seats k f) ≡ agents_of seats
  agents_changed same = agents_in same (map.get seats k) refl

  module _ (t u d e : Waiting) (turns : KeepsBut k t u) (doubtful : KeepsBut k d e) (was : InTurn seats t d) where
    pub in_turn_changed : ((s : Seat) → map.get seats k ≡ Some s → (f s).queued ≡ true → waits u k ≡ true) → ((s : Seat) → map.get seats k ≡ Some s → (f s).doubted ≡ true → waits e k ≡ true)
        → InTurn (changed seats k f) u e
    in_turn_changed a b = record {
      queued = λ q new h i. elim (entry_of q new h) [
        | inl own ↦ subst (λ n. waits u n ≡ true) (sym own.0) (a own.1.0 own.1.1 (sym (ap (λ s. s.queued) own.1.2) ∙ i))
        | inr other ↦ turns.each q other.0 (was.queued q new other.1 i)
      ];
      doubted = λ q new h i. elim (entry_of q new h) [
        | inl own ↦ subst (λ n. waits e n ≡ true) (sym own.0) (b own.1.0 own.1.1 (sym (ap (λ s. s.doubted) own.1.2) ∙ i))
        | inr other ↦ doubtful.each q other.0 (was.doubted q new other.1 i)
      ];
    }

  pub quiet_changed : (code : ProgramTable) → ((s : Seat) → map.get seats k ≡ Some s → is_quiet (f s) ≡ true → CanNothing code (f s).agent) → QuietCan code seats → QuietCan code (changed seats k f)
  quiet_changed code here was = record {
    each = λ q new h i. elim (entry_of q new h) [
      | inl own ↦ subst (λ (s : Seat). CanNothing code s.agent) (sym own.1.2) (here own.1.0 own.1.1 (ap is_quiet (sym own.1.2) ∙ i))
      | inr other ↦ was.each q new other.1 i
    ];
  }

false_true : {A : Type 0} → false ≡ true → A
false_true e = absurd (let x = e in cc)

pub by_bool : {A : Type 0} (b : Bool) → (b ≡ true → A) → (b ≡ false → A) → A
by_bool true f g = f refl
by_bool false f g = g refl

pub all_but : (k : Name) (old new : Waiting) → Keeps old new → KeepsBut k old new
all_but k old new keeps = record { each = λ q apart h. keeps.each q h }

module _ (code : ProgramTable) (s : Stored Seat) (t d : Waiting) where
  pub goes_nowhere : GoesOn code s t d s t d
  goes_nowhere = record { agents = refl; spare = refl; in_turn = λ h. h; quiet = λ h. h }

  pub goes_then : (s1 s2 : Stored Seat) (t1 t2 d1 d2 : Waiting) → GoesOn code s t d s1 t1 d1 → GoesOn code s1 t1 d1 s2 t2 d2 → GoesOn code s t d s2 t2 d2
  goes_then s1 s2 t1 t2 d1 d2 a b =
      record { agents = b.agents ∙ a.agents; spare = b.spare ∙ a.spare; in_turn = λ h. b.in_turn (a.in_turn h); quiet = λ h. b.quiet (a.quiet h) }

  -- whoever waited for a turn waits for one
  pub goes_again : (t1 : Waiting) → Keeps t t1 → GoesOn code s t d s t1 d
  goes_again t1 keeps =
      record { agents = refl; spare = refl; in_turn = λ h. record { queued = λ q x i j. keeps.each q (h.queued q x i j); doubted = h.doubted }; quiet = λ h. h }

  module _ (k : Name) where
    -- an agent whose turn was taken is doubtful
    pub goes_doubt : (t1 d1 : Waiting) → KeepsBut k t t1 → Keeps d d1 → ((x : Seat) → map.get s.items k ≡ Some x → x.doubted ≡ false → waits d1 k ≡ true)
        → GoesOn code s t d (with_changed s k doubted) t1 d1
    goes_doubt t1 d1 but keeps here = record {
      agents = agents_changed s.items k doubted (λ x. refl);
      spare = refl;
      in_turn = λ h. in_turn_changed s.items k doubted t t1 d d1 but (all_but k d d1 keeps) h (λ x i j. false_true j)
          (λ x i j. by_bool x.doubted (λ was. keeps.each k (h.doubted k x i was)) (λ was. here x i was));
      quiet = λ h. quiet_changed s.items k doubted code (λ x i j. false_true j) h;
    }

    -- an agent that is no more among the doubtful has a turn
    pub goes_call : (t1 d1 : Waiting) → Keeps t t1 → KeepsBut k d d1 → ((x : Seat) → map.get s.items k ≡ Some x → x.queued ≡ false → waits t1 k ≡ true)
        → GoesOn code s t d (with_changed s k called) t1 d1
    goes_call t1 d1 keeps but here = record {
      agents = agents_changed s.items k called (λ x. refl);
      spare = refl;
      in_turn = λ h. in_turn_changed s.items k called t t1 d d1 (all_but k t t1 keeps) but h
          (λ x i j. by_bool x.queued (λ was. keeps.each k (h.queued k x i was)) (λ was. here x i was)) (λ x i j. false_true j);
      quiet = λ h. quiet_changed s.items k called code (λ x i j. false_true j) h;
    }

    -- or it can do nothing
    pub goes_settle : (d1 : Waiting) → KeepsBut k d d1 → ((x : Seat) → map.get s.items k ≡ Some x → CanNothing code x.agent) → GoesOn code s t d (with_changed s k settled) t d1
    goes_settle d1 but none = record {
      agents = agents_changed s.items k settled (λ x. refl);
      spare = refl;
      in_turn = λ h. in_turn_changed s.items k settled t t d d1 (record { each = λ q apart w. w }) but h (λ x i j. h.queued k x i j) (λ x i j. false_true j);
      quiet = λ h. quiet_changed s.items k settled code (λ x i j. none x i) h;
    }

abbrev the_stored : Stored Seat → NameMap Seat → Stored Seat
the_stored s items = record s { items = items }

-- a seat that is there, changed
pub changed_there : (s : Stored Seat) (k : Name) (x : Seat) (f : Seat → Seat) → Some x ≡ map.get s.items k → with_item s k (f x) ≡ with_changed s k f
changed_there s k x f e = ap (λ o. the_stored s (changed_in s.items k f o)) e
