-- The rules of the protocol: what each takes and gives, and what becomes of places and the map (docs/TRANSLATION.md, "Translation and
-- daemon").
use Rattle.std.specs.Prelude.{◌≡◌, ℕ, true, false, Some, is_some, List, [], ◌∷◌}
use Rattle.std.specs.List.{All}
use Rattle.np_syntax.specs.declared.value.Name.{Name}
use Rattle.simulate_laws.specs.protocol.Chips.{Chip}
use Rattle.simulate_laws.specs.protocol.Scenes.{Whereabouts, Scene, Locks, with_place, with_lock}

-- what is only known of an agent that is registered; it comes and goes freely
abbrev pub IsKnowledge : Chip → Type 0
IsKnowledge (Chip.wants b l) = Unit {0}
IsKnowledge (Chip.knows b) = Unit {0}
IsKnowledge _ = ⊥

abbrev pub IsLearnt : Scene → Chip → Type 0
IsLearnt w (Chip.wants b l) = w.lock b ≡ Some l
IsLearnt w (Chip.knows b) = is_some (w.lock b) ≡ true
IsLearnt w _ = ⊥

pub data Rule (w : Scene) : List Chip → List Chip → Scene → Type 0 where
  -- nothing changes but what is known
  knows : {take give : List Chip} → All IsKnowledge take → All (IsLearnt w) give → Rule w take give w
  -- an agent takes its `currentloc`: to move, and to make an agent
  begins_move : {a : Name} {s : ℕ} → Rule w (Chip.token a s ∷ []) (Chip.mover a ∷ Chip.request a ∷ []) w
  begins_creation : {a : Name} {s : ℕ} → Rule w (Chip.token a s ∷ []) (Chip.maker a s ∷ []) w
  -- it makes an agent at its site
  creates : {a b : Name} {s : ℕ} → w.place b ≡ Whereabouts.nowhere
      → Rule w (Chip.maker a s ∷ []) (Chip.registration b s ∷ Chip.child b a s ∷ Chip.waiter a s ∷ Chip.takes_letters b ∷ [])
      (with_place w b (Whereabouts.at s))
  -- the daemon enters the new agent in the map, with a new lock
  registers : {b l : Name} {s : ℕ} {m n : Locks} → ((a : Name) → w.lock a ≡ Some l → ⊥) → ((a : Name) → n a ≡ (with_lock w b l).lock a)
      → Rule w (Chip.registration b s ∷ Chip.locks m ∷ []) (Chip.ack_sent b s ∷ Chip.locks n ∷ Chip.free l s ∷ []) (with_lock w b l)
  -- the new agent starts, and tells its parent
  starts : {b p : Name} {s : ℕ} → Rule w (Chip.ack_here b ∷ Chip.child b p s ∷ []) (Chip.token b s ∷ Chip.ack_sent p s ∷ []) w
  -- an agent ends its affair
  finishes : {a : Name} {s : ℕ} → Rule w (Chip.waiter a s ∷ Chip.ack_here a ∷ []) (Chip.token a s ∷ []) w
  -- an acknowledgement comes to its agent
  comes : {a : Name} {s : ℕ} → Rule w (Chip.ack_sent a s ∷ []) (Chip.ack_here a ∷ []) w
  -- the daemon grants a move: it takes the agent's lock, and acknowledges
  grants : {a l : Name} {s : ℕ} → Rule w (Chip.request a ∷ Chip.wants a l ∷ Chip.free l s ∷ []) (Chip.ack_sent a s ∷ []) w
  -- the agent has its grant
  is_granted : {a : Name} → Rule w (Chip.mover a ∷ Chip.ack_here a ∷ []) (Chip.leaver a ∷ []) w
  -- it leaves for a site, and will report it; it arrives; and it sends its report
  departs : {a : Name} {t : ℕ} → Rule w (Chip.leaver a ∷ []) (Chip.waiter a t ∷ Chip.report a t false ∷ [])
      (with_place w a (Whereabouts.under_way t))
  arrives : {a : Name} {t : ℕ} → w.place a ≡ Whereabouts.under_way t → Rule w [] [] (with_place w a (Whereabouts.at t))
  reports : {a : Name} {s t : ℕ} → w.place a ≡ Whereabouts.at s → Rule w (Chip.report a t false ∷ []) (Chip.report a t true ∷ []) w
  -- the daemon notes the site in the agent's lock, which is free then, and acknowledges
  notes : {a l : Name} {t : ℕ} → w.lock a ≡ Some l → Rule w (Chip.report a t true ∷ []) (Chip.ack_sent a t ∷ Chip.free l t ∷ []) w
  -- the daemon takes an agent's lock, and sends it a letter to the site that the lock says
  delivers : {b l : Name} {s : ℕ} → Rule w (Chip.wants b l ∷ Chip.free l s ∷ []) (Chip.delivery b s ∷ []) w
  -- the letter came, and the lock is free again
  delivered : {b l : Name} {s : ℕ} → w.lock b ≡ Some l → Rule w (Chip.delivery b s ∷ []) (Chip.free l s ∷ []) w
