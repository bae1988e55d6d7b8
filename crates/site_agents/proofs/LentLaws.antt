-- What the agents at a site end as, where one of them was lent.
use Rattle.std.proofs.Common.{◌≡◌, is_some, ℕ, Bool, true, false, List, Option, None, Some, refl, sym, ap, subst, ◌∙◌}
use Rattle.std.proofs.lemmas.Option.{none-some}
use Rattle.std.specs.FinMap as map
use Rattle.np_syntax.specs.declared.value.Name.{Name}
use Rattle.np_tables.specs.Names.{NameMap}
use Rattle.np_tables.specs.Stored.{Stored}
use Rattle.np_tables.proofs.Tables.{put_here, put-put}
use Rattle.agent_pool.specs.Pools.{Pool}
use Rattle.site_agents.specs.declared.seat.Seat.{Seat}
use Rattle.site_agents.specs.LentAgents.{with_agent}
use Rattle.site_agents.specs.LentSeats.{filled}
use Rattle.site_agents.specs.Queues.{Waiting, waits, Keeps}
use Rattle.site_agents.specs.Rounds.{InTurn, changed_in, changed, with_changed, again}
use Rattle.site_agents.specs.Standings.{Standing, agent_of, agents_of}
use Rattle.site_agents.proofs.Comings.{keeps_itself}
use Rattle.site_agents.proofs.Reading.{seen, mapped_none, put_agents, put_quiet}
use Rattle.site_agents.proofs.Seatings.{by_bool, all_but, in_turn_changed, agents_changed}

-- what is not found is not there
pub absent : {A : Type 0} (o : Option A) → false ≡ is_some o → o ≡ None
absent None e = refl
absent (Some x) e = absurd cc

-- where an agent is lent its seat is there
pub present : (m : NameMap Seat) (k : Name) (f : Seat → Seat) (p : Pool) → Some p ≡ map.get (agents_of (changed m k f)) k → (x : Seat) × (map.get m k ≡ Some x)
present m k f p h = by (map.get m k) refl h
  where
    by : (o : Option Seat) → map.get m k ≡ o → Some p ≡ map.get (agents_of (changed_in m k f o)) k → (x : Seat) × (map.get m k ≡ Some x)
    by None e g = absurd (none-some _ (sym (g ∙ mapped_none agent_of m k e)))
    by (Some x) e g = (x, e)

-- a seat that is changed twice
pub twice : (m : NameMap Seat) (k : Name) (x : Seat) (f g : Seat → Seat) → map.get m k ≡ Some x → changed (changed m k f) k g ≡ map.insert m k (g (f x))
twice m k x f g e =
    ap (λ o. changed (changed_in m k f o) k g) e ∙ ap (changed_in (map.insert m k (f x)) k g) (put_here m k (f x)) ∙ put-put m k (f x) (g (f x))

abbrev standing : NameMap Pool → NameMap Bool → ℕ → List Name → Standing
standing a b r ks = record { agents = a; quiet = b; room = r; keys = ks }

module _ (now : Standing) (old lent : Stored Seat) (k : Name) (view : seen old ≡ now) (called : lent ≡ with_changed old k again) where
  -- the agents with what is left behind
  pub lent_view : (p : Pool) → Some p ≡ map.get (agents_of lent.items) k → (w : Pool) → seen (with_changed lent k (filled w)) ≡ with_agent now k w
  lent_view p there w =
      let x = present old.items k again p (there ∙ ap (λ (s : Stored Seat). map.get (agents_of s.items) k) called) in
      let new = with_changed lent k (filled w) in
      let put : new.items ≡ map.insert old.items k (filled w (again x.0)) = ap (λ (s : Stored Seat). changed s.items k (filled w)) called ∙ twice old.items k x.0 again (filled w) x.1 in
      let agents = put_agents now old new k (filled w (again x.0)) view put in
      let quiet = put_quiet now old new k (filled w (again x.0)) view put in
      let room = ap (λ (s : Stored Seat). s.spare) called ∙ ap (λ (s : Standing). s.room) view in
      let keys = ap (λ (s : Stored Seat). s.keys) called ∙ ap (λ (s : Standing). s.keys) view in
      λ i. standing (agents i) (quiet i) (room i) (keys i)

  -- what is lent is the agent of the name
  pub lent_agent : (p : Pool) → Some p ≡ map.get (agents_of lent.items) k → Some p ≡ map.get now.agents k
  lent_agent p there =
      there ∙ ap (λ (m : NameMap Pool). map.get m k) (ap (λ (s : Stored Seat). agents_of s.items) called ∙ agents_changed old.items k again (λ x. refl) ∙ ap (λ (s : Standing). s.agents) view)

-- whoever has a turn waits for it, whatever is left behind
pub lent_in_turn : (old lent : Stored Seat) (k : Name) (t u d : Waiting) → lent ≡ with_changed old k again → InTurn old.items t d → Keeps t u
    → ((s : Seat) → map.get old.items k ≡ Some s → s.queued ≡ false → waits u k ≡ true) → (w : Pool) → InTurn (changed lent.items k (filled w)) u d
lent_in_turn old lent k t u d called was keeps here w =
    let first : InTurn (changed old.items k again) u d = in_turn_changed old.items k again t u d d (all_but k t u keeps) (keeps_itself k d) was
    (λ x i j. by_bool x.queued (λ q. keeps.each k (was.queued k x i q)) (λ q. here x i q)) (λ x i j. was.doubted k x i j) in
    let now : InTurn lent.items u d = subst (λ (s : Stored Seat). InTurn s.items u d) (sym called) first in
    in_turn_changed lent.items k (filled w) u u d d (keeps_itself k u) (keeps_itself k d) now (λ x i j. now.queued k x i j) (λ x i j. now.doubted k x i j)
