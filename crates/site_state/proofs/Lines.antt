-- Lines that are made one after the other.
use Rattle.std.proofs.Common.{◌≡◌, ◌<◌, ◌≤◌, ◌+◌, ℕ, zero, suc, List, [], ◌∷◌, ◌++◌, length, refl, ap, ◌∙◌, arith}
use Rattle.std.proofs.lemmas.Grind.{common_steps}
use Rattle.agent_move.specs.declared.item.Item.{Item}
use Rattle.site_state.specs.declared.line.TheConstants.{PLACES}
use Rattle.site_state.specs.Lines.{Waiting, queue_at, room_at, AreEmpty, AreGrown, HaveRoom, IsPut, SameLines}

pub queue-more : (lines : List Waiting) (x : Waiting) → x.items ≡ [] → ((to : ℕ) → queue_at lines to ≡ []) → (to : ℕ) → queue_at (lines ++ x ∷ []) to ≡ []
queue-more [] x e h zero = e
queue-more [] x e h (suc to) = refl
queue-more (l ∷ ls) x e h zero = h 0
queue-more (l ∷ ls) x e h (suc to) = queue-more ls x e (λ t. h (suc t)) to

pub room-more : (lines : List Waiting) (x : Waiting) (k : ℕ) → k ≤ x.spare → ((to : ℕ) → to < length lines → k ≤ room_at lines to)
    → (to : ℕ) → to < length (lines ++ x ∷ []) → k ≤ room_at (lines ++ x ∷ []) to
room-more [] x k e h zero p = e
room-more [] x k e h (suc to) p = omega arith
room-more (l ∷ ls) x k e h zero p = h 0 (omega arith)
room-more (l ∷ ls) x k e h (suc to) p = room-more ls x k e (λ t q. h (suc t) (omega arith)) to (omega arith)

pub empty-more : (n : ℕ) (old new : List Waiting) → AreGrown old new → AreEmpty n old → AreEmpty (n + 1) new
empty-more n old new g e = rw g.is record {
  sites = grind (arith, common_steps, e.sites);
  queues = queue-more old g.line g.empty e.queues;
}

pub roomy-more : (old new : List Waiting) → AreGrown old new → HaveRoom PLACES old → HaveRoom PLACES new
roomy-more old new g h = rw g.is record { each = room-more old g.line PLACES g.room h.each }

pub same-lines : (a b c : List Waiting) → SameLines a b → SameLines b c → SameLines a c
same-lines a b c h k = record { sites = k.sites ∙ h.sites; queues = λ t. k.queues t ∙ h.queues t }

pub lines_same : (a : List Waiting) → SameLines a a
lines_same a = record { sites = refl; queues = λ t. refl }

pub lines_are_same : (a b : List Waiting) → b ≡ a → SameLines a b
lines_are_same a b e = record { sites = ap length e; queues = λ t. ap (λ m. queue_at m t) e }

pub put_after : (a b c : List Waiting) (to : ℕ) (x : Item) → SameLines a b → IsPut b to x c → IsPut a to x c
put_after a b c to x l p = record { sites = p.sites ∙ l.sites; there = p.there ∙ ap (λ q. q ++ x ∷ []) (l.queues to); others = λ t n. p.others t n ∙ l.queues t }

pub ruleset lines = (empty-more, roomy-more, same-lines)
