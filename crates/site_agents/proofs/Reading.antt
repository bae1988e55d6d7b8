-- What is told of seats, told of their agents.
use Rattle.std.proofs.Common.{◌≡◌, Bool, true, false, not, ◌||◌, ◌↔◌, IsTrue, List, [], Option, None, Some, refl, sym, ap, subst, ◌∙◌}
use Rattle.std.proofs.lemmas.Option.{none-some}
use Rattle.std.specs.Prelude.{is_some, option_map}
use Rattle.std.specs.FinMap as map
use Rattle.np_syntax.specs.declared.value.Name.{Name}
use Rattle.np_syntax.specs.declared.process.Proc.{Proc}
use Rattle.np_tables.specs.Mapped.{mapped}
use Rattle.np_tables.specs.Names.{NameMap}
use Rattle.np_tables.specs.Stored.{Stored, Covers}
use Rattle.np_tables.proofs.Mapped.{get-mapped, mapped_there, mapped-put, mapped-cut}
use Rattle.np_code.specs.Programs.{ProgramTable}
use Rattle.agent_pool.specs.Idle.{IsIdle}
use Rattle.agent_pool.specs.Pools.{Pool, atoms_of}
use Rattle.agent_pool.specs.Readies.{IsReady}
use Rattle.agent_pool.specs.declared.ready.Ready.{Ready}
use Rattle.site_agents.specs.declared.seat.Seat.{Seat}
use Rattle.site_agents.specs.Queues.{Waiting, waits, listed}
use Rattle.site_agents.specs.Rounds.{InTurn, QuietCan}
use Rattle.site_agents.specs.Standings.{Standing, is_quiet, agent_of, agents_of, quiet_of, AreQuiet, CanDo, CanNothing, NoneCan, IdleAt}

same_some : {A : Type 0} {x y : A} → Some x ≡ Some y → x ≡ y
same_some e = cc

-- an entry of a map with each value changed is one of the map
pub mapped_back : {X Y : Type 0} (f : X → Y) (m : NameMap X) (q : Name) (y : Y) → map.get (mapped f m) q ≡ Some y → (x : X) × (map.get m q ≡ Some x) × (f x ≡ y)
mapped_back {X} {Y} f m q y h = by (map.get m q) refl (sym (get-mapped f m q) ∙ h)
  where
    by : (o : Option X) → map.get m q ≡ o → option_map f o ≡ Some y → (x : X) × (map.get m q ≡ Some x) × (f x ≡ y)
    by None e g = absurd (none-some _ g)
    by (Some x) e g = (x, e, same_some g)

pub mapped_none : {X Y : Type 0} (f : X → Y) (m : NameMap X) (q : Name) → map.get m q ≡ None → map.get (mapped f m) q ≡ None
mapped_none f m q e = get-mapped f m q ∙ ap (option_map f) e

-- each name that is there has an agent
pub covers_mapped : {X Y : Type 0} (f : X → Y) (m : NameMap X) (ks : List Name) → Covers m ks → Covers (mapped f m) ks
covers_mapped f m ks covers q y h = let b = mapped_back f m q y h in covers q b.0 b.1

pub none_can : (code : ProgramTable) (seats : NameMap Seat) → ((q : Name) (s : Seat) → map.get seats q ≡ Some s → CanNothing code s.agent) → NoneCan code (agents_of seats)
none_can code seats all = record { each = λ q p h. let b = mapped_back agent_of seats q p h in subst (CanNothing code) b.2 (all q b.0 b.1) }

-- what is told of quiet seats
pub quiet_to : (code : ProgramTable) (s : Standing) (seats : NameMap Seat) → s.agents ≡ agents_of seats → s.quiet ≡ quiet_of seats → AreQuiet code s → QuietCan code seats
quiet_to code s seats e f h = record {
  each = λ q x g i. h.each q x.agent (ap (λ (m : NameMap Bool). map.get m q) f ∙ mapped_there is_quiet seats q x g ∙ ap (λ b. Some b) i)
      (ap (λ (m : NameMap Pool). map.get m q) e ∙ mapped_there agent_of seats q x g);
}

pub quiet_from : (code : ProgramTable) (s : Standing) (seats : NameMap Seat) → s.agents ≡ agents_of seats → s.quiet ≡ quiet_of seats → QuietCan code seats → AreQuiet code s
quiet_from code s seats e f h = record {
  each = λ q p g i.
      let b = mapped_back agent_of seats q p (ap (λ (m : NameMap Pool). map.get m q) (sym e) ∙ i) in
      let t = same_some (sym (mapped_there is_quiet seats q b.0 b.1) ∙ ap (λ (m : NameMap Bool). map.get m q) (sym f) ∙ g) in
      subst (CanNothing code) b.2 (h.each q b.0 b.1 t);
}

quiet_if : (a b : Bool) → (a ≡ true → ⊥) → (b ≡ true → ⊥) → not (a || b) ≡ true
quiet_if true b f g = absurd (f refl)
quiet_if false true f g = absurd (g refl)
quiet_if false false f g = refl

-- where no one waits and no turn was lost, each agent was found to be quiet
pub all_quiet : (code : ProgramTable) (seats : NameMap Seat) (turns doubtful : Waiting) → InTurn seats turns doubtful → QuietCan code seats → ((q : Name) → waits turns q ≡ true → ⊥)
    → ((q : Name) → waits doubtful q ≡ true → ⊥) → NoneCan code (agents_of seats)
all_quiet code seats turns doubtful in_turn quiet no_turn no_doubt =
    none_can code seats λ q s h. quiet.each q s h (quiet_if s.queued s.doubted (λ t. no_turn q (in_turn.queued q s h t)) (λ t. no_doubt q (in_turn.doubted q s h t)))

-- whether the agent of a seat is idle
pub idle_at : (ts : List Proc) (seats : NameMap Seat) (q : Name) (s : Seat) (b : Bool) → Some s ≡ map.get seats q → (IsTrue b ↔ IsIdle ts s.agent.atoms) → (IsTrue b ↔ IdleAt ts (agents_of seats) q)
idle_at ts seats q s b e h = (
  (λ t p g. subst (λ (x : Pool). IsIdle ts x.atoms) (same_some (sym (mapped_there agent_of seats q s (sym e)) ∙ g)) (h.0 t)),
  (λ g. h.1 (g s.agent (mapped_there agent_of seats q s (sym e)))),
)

pub idle_absent : (ts : List Proc) (seats : NameMap Seat) (q : Name) → map.get seats q ≡ None → IdleAt ts (agents_of seats) q
idle_absent ts seats q e p g = absurd (none-some _ (sym (mapped_none agent_of seats q e) ∙ g))

-- whether the agent of a seat can do this
pub can_here : (code : ProgramTable) (seats : NameMap Seat) (q : Name) (s : Seat) (r : Ready) (b : Bool) → Some s ≡ map.get seats q → (IsTrue b ↔ IsReady code (atoms_of code.processes s.agent) r)
    → (IsTrue b ↔ CanDo code (agents_of seats) q r)
can_here code seats q s r b e h = (
  (λ t. record { agent = s.agent; here = mapped_there agent_of seats q s (sym e); ready = h.0 t }),
  (λ can. h.1 (subst (λ (p : Pool). IsReady code (atoms_of code.processes p) r) (same_some (sym can.here ∙ mapped_there agent_of seats q s (sym e))) can.ready)),
)

pub can_nowhere : (code : ProgramTable) (seats : NameMap Seat) (q : Name) (r : Ready) → map.get seats q ≡ None → CanDo code (agents_of seats) q r → ⊥
can_nowhere code seats q r e can = none-some _ (sym (mapped_none agent_of seats q e) ∙ can.here)

some_map : {X Y : Type 0} (f : X → Y) (o : Option X) → is_some o ≡ is_some (option_map f o)
some_map f None = refl
some_map f (Some x) = refl

pub is_some-mapped : {X Y : Type 0} (f : X → Y) (m : NameMap X) (q : Name) → is_some (map.get m q) ≡ is_some (map.get (mapped f m) q)
is_some-mapped f m q = some_map f (map.get m q) ∙ ap is_some (sym (get-mapped f m q))

-- what contracts see of seats
abbrev pub seen : Stored Seat → Standing
seen s = record { agents = agents_of s.items; quiet = quiet_of s.items; room = s.spare; keys = s.keys }

pub still_by : (code : ProgramTable) (now : Standing) (old new : Stored Seat) → seen old ≡ now → (QuietCan code old.items → QuietCan code new.items) → AreQuiet code now → AreQuiet code (seen new)
still_by code now old new e f h =
    quiet_from code (seen new) new.items refl refl (f (quiet_to code now old.items (ap (λ (s : Standing). s.agents) (sym e)) (ap (λ (s : Standing). s.quiet) (sym e)) h))

no_one : (w : Waiting) → w.names ≡ [] → w.lost ≡ false → (q : Name) → waits w q ≡ true → ⊥
no_one w e f q h = let x = sym h ∙ ap (λ b. b || listed w.names q) f ∙ ap (λ ns. listed ns q) e in cc

-- where the queues are empty and none of them lost anyone, no agent can do anything
pub none_by : (code : ProgramTable) (now : Standing) (old new : Stored Seat) (turns doubtful : Waiting) → seen old ≡ now → agents_of new.items ≡ agents_of old.items
    → InTurn new.items turns doubtful → (QuietCan code old.items → QuietCan code new.items) → turns.names ≡ [] → turns.lost ≡ false → doubtful.names ≡ [] → doubtful.lost ≡ false
    → AreQuiet code now → NoneCan code now.agents
none_by code now old new turns doubtful e same in_turn quiet a b c d h =
    subst (NoneCan code) (same ∙ ap (λ (s : Standing). s.agents) e)
    (all_quiet code new.items turns doubtful in_turn (quiet (quiet_to code now old.items (ap (λ (s : Standing). s.agents) (sym e)) (ap (λ (s : Standing). s.quiet) (sym e)) h))
    (no_one turns a b) (no_one doubtful c d))

-- what contracts see after an agent came or went
pub put_agents : (now : Standing) (old new : Stored Seat) (k : Name) (s : Seat) → seen old ≡ now → new.items ≡ map.insert old.items k s → agents_of new.items ≡ map.insert now.agents k s.agent
put_agents now old new k s e h = ap agents_of h ∙ mapped-put agent_of old.items k s ∙ ap (λ (n : Standing). map.insert n.agents k s.agent) e

pub put_quiet : (now : Standing) (old new : Stored Seat) (k : Name) (s : Seat) → seen old ≡ now → new.items ≡ map.insert old.items k s → quiet_of new.items ≡ map.insert now.quiet k (is_quiet s)
put_quiet now old new k s e h = ap quiet_of h ∙ mapped-put is_quiet old.items k s ∙ ap (λ (n : Standing). map.insert n.quiet k (is_quiet s)) e

pub cut_agents : (now : Standing) (old new : Stored Seat) (k : Name) → seen old ≡ now → new.items ≡ map.remove old.items k → agents_of new.items ≡ map.remove now.agents k
cut_agents now old new k e h = ap agents_of h ∙ mapped-cut agent_of old.items k ∙ ap (λ (n : Standing). map.remove n.agents k) e

pub cut_quiet : (now : Standing) (old new : Stored Seat) (k : Name) → seen old ≡ now → new.items ≡ map.remove old.items k → quiet_of new.items ≡ map.remove now.quiet k
cut_quiet now old new k e h = ap quiet_of h ∙ mapped-cut is_quiet old.items k ∙ ap (λ (n : Standing). map.remove n.quiet k) e
