-- Agents that come and go, and what stays of whose turn it is.
use Rattle.std.proofs.Common.{◌≡◌, Bool, true, false, cond, inl, inr, Option, Some, refl, sym, ap, subst, ◌∙◌}
use Rattle.std.proofs.lemmas.Option.{none-some}
use Rattle.std.specs.FinMap as map
use Rattle.np_syntax.specs.declared.value.Name.{Name}
use Rattle.np_tables.specs.Names.{NameMap, same_name}
use Rattle.np_tables.proofs.Tables.{get-none, get-put, put_cases, cut_cases}
use Rattle.np_code.specs.Programs.{ProgramTable}
use Rattle.agent_pool.specs.Pools.{Pool}
use Rattle.site_agents.specs.declared.seat.Seat.{Seat}
use Rattle.site_agents.specs.LentAgents.{with_agent}
use Rattle.site_agents.specs.Queues.{Waiting, waits, Keeps, KeepsBut}
use Rattle.site_agents.specs.Rounds.{InTurn}
use Rattle.site_agents.specs.Standings.{Standing, AreNamed, AreQuiet}

abbrev pub nobody : NameMap Seat
nobody = map.empty

no_seat : (q : Name) (s : Seat) → map.get nobody q ≡ Some s → ⊥
no_seat q s h = none-some _ (sym (get-none q) ∙ h)

pub in_turn_none : (t d : Waiting) → InTurn nobody t d
in_turn_none t d = record { queued = λ q s h i. absurd (no_seat q s h); doubted = λ q s h i. absurd (no_seat q s h) }

false_true : {A : Type 0} (b : Bool) → b ≡ false → b ≡ true → A
false_true b e f = absurd (let x = sym e ∙ f in cc)

module _ (seats : NameMap Seat) (k : Name) (t u d e : Waiting) (was : InTurn seats t d) where
  -- an agent that comes has a turn
  pub in_turn_put : (s : Seat) → Keeps t u → waits u k ≡ true → s.doubted ≡ false → InTurn (map.insert seats k s) u d
  in_turn_put s keeps here none = record {
    queued = λ q x h i. elim (put_cases seats k s q x h) [
      | inl own ↦ subst (λ n. waits u n ≡ true) (sym own.0) here
      | inr other ↦ keeps.each q (was.queued q x other i)
    ];
    doubted = λ q x h i. elim (put_cases seats k s q x h) [
      | inl own ↦ false_true s.doubted none (sym (ap (λ y. y.doubted) own.1) ∙ i)
      | inr other ↦ was.doubted q x other i
    ];
  }

  -- one that goes has none
  pub in_turn_cut : KeepsBut k t u → KeepsBut k d e → InTurn (map.remove seats k) u e
  in_turn_cut turns doubtful = record {
    queued = λ q x h i. let o = cut_cases seats k q x h in turns.each q o.0 (was.queued q x o.1 i);
    doubted = λ q x h i. let o = cut_cases seats k q x h in doubtful.each q o.0 (was.doubted q x o.1 i);
  }

pub keeps_itself : (k : Name) (t : Waiting) → KeepsBut k t t
keeps_itself k t = record { each = λ q apart h. h }

-- agents that come under their own names
pub named_put : (agents : NameMap Pool) (p : Pool) → AreNamed agents → AreNamed (map.insert agents p.name p)
named_put agents p was = record {
  each = λ q x h. elim (put_cases agents p.name p q x h) [
    | inl own ↦ ap (λ y. y.name) own.1 ∙ sym own.0
    | inr other ↦ was.each q x other
  ];
}

pub named_cut : (agents : NameMap Pool) (k : Name) → AreNamed agents → AreNamed (map.remove agents k)
named_cut agents k was = record { each = λ q x h. was.each q x (cut_cases agents k q x h).1 }

cond_other : {X : Type 0} (t : Bool) (v : X) (o : Option X) → t ≡ false → cond t (Some v) o ≡ o
cond_other true v o e = absurd (let x = e in cc)
cond_other false v o e = refl

other_entry : {X : Type 0} (m : NameMap X) (k : Name) (v : X) (q : Name) (x : X) → same_name q k ≡ false → map.get (map.insert m k v) q ≡ Some x → map.get m q ≡ Some x
other_entry m k v q x apart h = sym (cond_other (same_name q k) v (map.get m q) apart) ∙ sym (get-put m k v q) ∙ h

apart_from : (t : Bool) (o : Option Bool) → cond t (Some false) o ≡ Some true → t ≡ false
apart_from true o h = absurd (let x = h in cc)
apart_from false o h = refl

-- an agent that comes was not found to be quiet
pub quiet_put : (code : ProgramTable) (old new : Standing) (k : Name) (p : Pool) → new.agents ≡ map.insert old.agents k p → new.quiet ≡ map.insert old.quiet k false → AreQuiet code old → AreQuiet code new
quiet_put code old new k p e f was = record {
  each = λ q x g h.
      let quiet : map.get (map.insert old.quiet k false) q ≡ Some true = ap (λ (m : NameMap Bool). map.get m q) (sym f) ∙ g in
      let here : map.get (map.insert old.agents k p) q ≡ Some x = ap (λ (m : NameMap Pool). map.get m q) (sym e) ∙ h in
      let apart = apart_from (same_name q k) (map.get old.quiet q) (sym (get-put old.quiet k false q) ∙ quiet) in
      was.each q x (other_entry old.quiet k false q true apart quiet) (other_entry old.agents k p q x apart here);
}

pub quiet_cut : (code : ProgramTable) (old new : Standing) (k : Name) → new.agents ≡ map.remove old.agents k → new.quiet ≡ map.remove old.quiet k → AreQuiet code old → AreQuiet code new
quiet_cut code old new k e f was = record {
  each = λ q x g h. was.each q x (cut_cases old.quiet k q true (ap (λ (m : NameMap Bool). map.get m q) (sym f) ∙ g)).1
      (cut_cases old.agents k q x (ap (λ (m : NameMap Pool). map.get m q) (sym e) ∙ h)).1;
}

pub quiet_with : (code : ProgramTable) (s : Standing) (k : Name) (p : Pool) → AreQuiet code s → AreQuiet code (with_agent s k p)
quiet_with code s k p was = quiet_put code s (with_agent s k p) k p refl refl was
