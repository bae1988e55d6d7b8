-- A site that makes one event more goes on by no more than Lamport's rule asks for.
use Rattle.std.proofs.Common.{◌≡◌, ◌<◌, ◌≤◌, ◌+◌, ◌⊎◌, inl, inr, ⊎_elim, ℕ, max, cond, [], ◌∷◌, ◌++◌, length, refl, sym, ap, subst, subst₂, ◌∙◌, arith, eq-eqb}
use Rattle.std.specs.List.{AllByRecursion}
use Rattle.stamp_history.specs.declared.stamped.Stamped.{Stamped}
use Rattle.run_merge.proofs.InOrder.{all_append, all_weaker}
use Rattle.site_links.specs.Words.{only_at}
use Rattle.site_links.specs.declared.port.Port as Port
use Rattle.np_site_runs.specs.merged.Elements.{Occurs}
use Rattle.np_site_runs.proofs.merged.Elements.{occurs-first, occurs-second}
use Rattle.np_code.specs.Programs.{ProgramTable}
use Rattle.agent_move.specs.declared.item.Item.{Item}
use Rattle.site_turn.specs.declared.seat.Seat.{Seat}
use Rattle.site_turn.specs.Steady.{HasCome, IsOneMore, IsStampOf, IsSteady}

pub max_either : (m n : ℕ) → (max m n ≡ m) ⊎ (max m n ≡ n)
max_either m n = grind arith

-- what came stays
abbrev pub GotStays : {P R : Type 0} → Port.Ghosts P R Item → Seat P → Seat P → Type 0
GotStays g a b = (k u : ℕ) → Occurs (λ x. x.stamp ≡ k) (g.got a.port u) → Occurs (λ x. x.stamp ≡ k) (g.got b.port u)

pub got_stays : {P R : Type 0} (g : Port.Ghosts P R Item) (a b : Seat P) (from : ℕ) (item : Item) → ((k : ℕ) → g.got b.port k ≡ g.got a.port k ++ only_at k from item) → GotStays g a b
got_stays g a b from item got k u h =
    subst (Occurs (λ (x : Item). x.stamp ≡ k)) (sym (got u)) (occurs-first (λ (x : Item). x.stamp ≡ k) (g.got a.port u) (only_at u from item) h)

more-still : {P R : Type 0} (g : Port.Ghosts P R Item) (code : ProgramTable) (n : ℕ) (a b : Seat P) → ((k : ℕ) → IsStampOf k a.site.history.events → IsStampOf k b.site.history.events)
    → GotStays g a b → (m : ℕ) → IsOneMore g code n a m → IsOneMore g code n b m
more-still g code n a b events got m (inl low) = inl low
more-still g code n a b events got m (inr (k, is, inl h)) = inr (k, is, inl (events k h))
more-still g code n a b events got m (inr (k, is, inr (u, less, h))) = inr (k, is, inr (u, less, got k u h))

module _ {P R : Type 0} {g : Port.Ghosts P R Item} {code : ProgramTable} where
  -- no event
  pub steady_same : {n : ℕ} {a b : Seat P} → b.site.clock ≡ a.site.clock → b.site.history.events ≡ a.site.history.events → GotStays g a b → IsSteady g code n a → IsSteady g code n b
  steady_same {n} {a} {b} clock events got s = record {
    clock = ⊎_elim (λ low. inl (subst (λ m. m ≤ n) (sym clock) low)) (λ is. inr (subst₂ (λ m es. IsStampOf m es) (sym clock) (sym events) is)) s.clock;
    each = subst (AllByRecursion (λ (e : Stamped). IsOneMore g code n b e.stamp)) (sym events)
        (all_weaker (λ (e : Stamped). IsOneMore g code n a e.stamp) (λ e. IsOneMore g code n b e.stamp)
        (λ e h. more-still g code n a b (λ k is. subst (IsStampOf k) (sym events) is) got e.stamp h) a.site.history.events s.each);
  }

  -- one more
  pub steady_more : {n : ℕ} {a b : Seat P} (e : Stamped) → e.stamp ≡ b.site.clock → b.site.history.events ≡ a.site.history.events ++ e ∷ [] → GotStays g a b
      → (b.site.clock ≡ a.site.clock + 1) ⊎ ((k : ℕ) × (b.site.clock ≡ k + 1) × HasCome g code k b) → IsSteady g code n a → IsSteady g code n b
  steady_more {n} {a} {b} e stamp events got by s =
      let stays : (k : ℕ) → IsStampOf k a.site.history.events → IsStampOf k b.site.history.events =
      λ k h. subst (IsStampOf k) (sym events) (occurs-first (λ (x : Stamped). x.stamp ≡ k) a.site.history.events (e ∷ []) h) in record {
        clock = inr (subst (IsStampOf b.site.clock) (sym events) (occurs-second (λ (x : Stamped). x.stamp ≡ b.site.clock) a.site.history.events (e ∷ []) (inl stamp)));
        each = subst (AllByRecursion (λ (x : Stamped). IsOneMore g code n b x.stamp)) (sym events)
            (all_append (λ (x : Stamped). IsOneMore g code n b x.stamp) a.site.history.events (e ∷ [])
            (all_weaker (λ (x : Stamped). IsOneMore g code n a x.stamp) (λ x. IsOneMore g code n b x.stamp) (λ x h. more-still g code n a b stays got x.stamp h) a.site.history.events s.each) (
              ⊎_elim
                  (λ one. ⊎_elim (λ low. inl (omega arith)) (λ is. inr (a.site.clock, stamp ∙ one, inl (stays a.site.clock is))) s.clock)
                  (λ (k, is, h). inr (k, stamp ∙ is, inr h)) by,
              tt,
            ));
      }

  -- an event that takes an item
  pub steady_taken : {n : ℕ} {a b : Seat P} (e : Stamped) (from : ℕ) (item : Item) → e.stamp ≡ b.site.clock → b.site.history.events ≡ a.site.history.events ++ e ∷ []
      → b.site.clock ≡ max a.site.clock item.stamp + 1 → from < length code.sites → ((k : ℕ) → g.got b.port k ≡ g.got a.port k ++ only_at k from item)
      → IsSteady g code n a → IsSteady g code n b
  steady_taken {n} {a} {b} e from item stamp events clock low got s =
      let here : Occurs (λ (x : Item). x.stamp ≡ item.stamp) (g.got b.port from) =
      subst (Occurs (λ (x : Item). x.stamp ≡ item.stamp)) (sym (got from ∙ ap (λ t. g.got a.port from ++ cond t (item ∷ []) []) (eq-eqb from from refl)))
      (occurs-second (λ (x : Item). x.stamp ≡ item.stamp) (g.got a.port from) (item ∷ []) (inl refl)) in
      steady_more e stamp events (got_stays g a b from item got)
      (⊎_elim (λ is. inl (clock ∙ ap (λ m. m + 1) is)) (λ is. inr (item.stamp, clock ∙ ap (λ m. m + 1) is, (from, low, here))) (max_either a.site.clock item.stamp)) s
