-- What the calculus sees of a site of which nothing has changed but the room, and histories that have grown.
use Rattle.std.proofs.Common.{◌≡◌, ◌+◌, ◌<◌, ◌≤◌, ℕ, suc, List, [], ◌∷◌, ◌++◌, length, Option, None, Some, option_map, refl, sym, ap, ◌∙◌, append_assoc, append-nil, length-append, arith, subst}
use Rattle.np_syntax.specs.declared.value.Name.{Name}
use Rattle.np_syntax.specs.declared.value.Value.{Value}
use Rattle.np_syntax.specs.declared.process.Proc.{Proc}
use Rattle.np_tables.specs.Names.{NameMap}
use Rattle.np_tables.specs.Mapped.{mapped}
use Rattle.np_tables.proofs.Mapped.{get-mapped}
use Rattle.np_tables.proofs.Tables.{same_tables}
use Rattle.np_calculus.specs.declared.config.Atom.{Atom}
use Rattle.std.specs.FinMap as table
use Rattle.stamp_history.specs.declared.stamped.Stamped.{Stamped}
use Rattle.stamp_history.specs.Histories.{Recorded}
use Rattle.site_links.specs.Words.{Begins}
use Rattle.site_links.proofs.Kept.{Begins-same}
use Rattle.np_code.specs.Programs.{ProgramTable}
use Rattle.agent_index.specs.Shelves.{Kept}
use Rattle.agent_pool.specs.declared.held.Held.{Held}
use Rattle.agent_pool.specs.Pools.{Pool, atoms_of, seen_as, without_room}
use Rattle.site_state.specs.Doing.{recorded}
use Rattle.site_state.specs.Standings.{SameAgents, SameSite, Standing, holding_of}
use Rattle.run_merge.proofs.InOrder.{all_append, all_weaker}
use Rattle.site_turn.specs.Turns.{HistoryGrows, IsLater}

-- ---- lists

pub begins_trans : {T : Type 0} {a b c : List T} → Begins b a → Begins c b → Begins c a
begins_trans {T} {a} h k = record { rest = h.rest ++ k.rest; is = k.is ∙ (ap (λ x. x ++ k.rest) h.is ∙ append_assoc a h.rest k.rest) }

pub history_same : (old new : Recorded) → new ≡ old → HistoryGrows old new
history_same old new e =
    let at : HistoryGrows old old = record { site = refl; budget = refl; events = Begins-same old.events old.events refl; said = Begins-same old.said old.said refl } in
    subst (λ (h : Recorded). HistoryGrows old h) (sym e) at

pub history_trans : {a b c : Recorded} → HistoryGrows a b → HistoryGrows b c → HistoryGrows a c
history_trans h k = record { site = k.site ∙ h.site; budget = k.budget ∙ h.budget; events = begins_trans h.events k.events; said = begins_trans h.said k.said }

-- what is longer is not the same
longer : {T : Type 0} (xs : List T) (x : T) → xs ++ x ∷ [] ≡ xs → ⊥
longer xs x e = let n : length xs + 1 ≡ length xs = sym (length-append xs (x ∷ [])) ∙ ap length e in absurd (omega arith)

none-between : {T : Type 0} (xs ys zs : List T) → xs ≡ (xs ++ ys) ++ zs → ys ≡ []
none-between xs [] zs e = refl
none-between xs (y ∷ ys) zs e =
    let n : length xs ≡ (length xs + suc (length ys)) + length zs = ap length e ∙ length-append (xs ++ y ∷ ys) zs ∙ ap (λ m. m + length zs) (length-append xs (y ∷ ys)) in
    absurd (omega arith)

-- where the end is as the beginning, so is all between them
pub same_between : {T : Type 0} {a b c : List T} → Begins b a → Begins c b → c ≡ a → (b ≡ a) × (c ≡ b)
same_between {T} {a} {b} {c} h k e =
    let none : h.rest ≡ [] = none-between a h.rest k.rest (sym e ∙ k.is ∙ ap (λ l. l ++ k.rest) h.is) in
    let first : b ≡ a = h.is ∙ ap (λ l. a ++ l) none ∙ append-nil a in
    (first, e ∙ sym first)

-- an event more
pub recorded_events : (h : Recorded) (e : Stamped) (v : Option Value) → (recorded h e v).events ≡ h.events ++ e ∷ []
recorded_events h e None = refl
recorded_events h e (Some v) = refl

pub not_recorded : (h : Recorded) (e : Stamped) (v : Option Value) (new : List Stamped) → new ≡ (recorded h e v).events → new ≡ h.events → ⊥
not_recorded h e v new is same = longer h.events e (sym (recorded_events h e v) ∙ sym is ∙ same)

pub recorded_grows : (h : Recorded) (e : Stamped) (v : Option Value) → HistoryGrows h (recorded h e v)
recorded_grows h e None = record { site = refl; budget = refl; events = record { rest = e ∷ []; is = refl }; said = Begins-same h.said h.said refl }
recorded_grows h e (Some v) = record { site = refl; budget = refl; events = record { rest = e ∷ []; is = refl }; said = record { rest = v ∷ []; is = refl } }

-- ---- stamps

pub later_same : (n m : ℕ) (xs ys : List Stamped) → m ≡ n → ys ≡ xs → IsLater n xs m ys
later_same n m xs ys e is =
    let at : IsLater n xs n xs = record { clock = omega arith; begins = record { rest = []; is = sym (append-nil xs) }; above = tt } in
    subst (λ (zs : List Stamped). IsLater n xs m zs) (sym is) (subst (λ (k : ℕ). IsLater n xs k xs) (sym e) at)

pub later_trans : {a b c : ℕ} {xs ys zs : List Stamped} → IsLater a xs b ys → IsLater b ys c zs → IsLater a xs c zs
unfolding begins_trans
later_trans {a} {b} {c} {xs} {ys} {zs} h k =
    let low : a ≤ b = h.clock in let high : b ≤ c = k.clock in record {
      clock = omega arith;
      begins = begins_trans h.begins k.begins;
      above = all_append (λ e. a < e.stamp) h.begins.rest k.begins.rest h.above
          (all_weaker (λ (e : Stamped). b < e.stamp) (λ e. a < e.stamp) (λ e more. omega arith) k.begins.rest k.above);
    }

-- above a later clock
pub later_weaker : {n m k : ℕ} {xs ys : List Stamped} → n ≤ m → IsLater m xs k ys → IsLater n xs k ys
later_weaker {n} {m} {k} {xs} {ys} low h =
    let high : m ≤ k = h.clock in record {
      clock = omega arith;
      begins = h.begins;
      above = all_weaker (λ (e : Stamped). m < e.stamp) (λ e. n < e.stamp) (λ e more. omega arith) h.begins.rest h.above;
    }

-- one event more
pub later_one : (n m : ℕ) (xs ys : List Stamped) (e : Stamped) → n < m → e.stamp ≡ m → ys ≡ xs ++ e ∷ [] → IsLater n xs m ys
later_one n m xs ys e low stamp is = record { clock = omega arith; begins = record { rest = e ∷ []; is = is }; above = (subst (λ (k : ℕ). n < k) (sym stamp) low, tt) }

-- ---- agents

-- the atoms of an agent that is told by its name and what it stores
told-atoms : List Proc → Name × NameMap (Kept Held) → NameMap Atom
told-atoms ts w = mapped (seen_as ts w.0) w.1

told-again : (ts : List Proc) (o : Option Pool) → option_map (atoms_of ts) o ≡ option_map (told-atoms ts) (option_map without_room o)
unfolding told-atoms
told-again ts None = refl
told-again ts (Some p) = refl

pub atoms_same : (ts : List Proc) (old new : NameMap Pool) → SameAgents old new → mapped (atoms_of ts) new ≡ mapped (atoms_of ts) old
atoms_same ts old new same =
    same_tables _ _ λ q. get-mapped (atoms_of ts) new q ∙ told-again ts (table.get new q) ∙ ap (option_map (told-atoms ts)) (same.each q) ∙ sym (told-again ts (table.get old q))
    ∙ sym (get-mapped (atoms_of ts) old q)

pub holding_same : (code : ProgramTable) (old new : Standing) → SameSite old new → holding_of code new ≡ holding_of code old
holding_same code old new s = rw (s.site, atoms_same code.processes old.agents new.agents s.agents, s.next, s.history) refl
