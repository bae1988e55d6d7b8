-- What a site keeps to when it is made and when an agent comes.
use Rattle.std.proofs.Common.{◌≡◌, ◌≤◌, ℕ, Option, None, Some, sym, ap, ◌∙◌, arith}
use Rattle.std.specs.Prelude.{IfNone, MatchOption, OnErr, Result, Ok, Err, option_map}
use Rattle.std.specs.FinMap as map
use Rattle.np_syntax.specs.declared.limits.TheConstants.{LARGEST_BUDGET}
use Rattle.np_tables.specs.Names.{NameMap}
use Rattle.stamp_history.specs.Histories.{Recorded, without_events}
use Rattle.agent_pool.specs.Pools.{Pool, without_room}
use Rattle.site_state.proofs.Seats.{named-none}
use Rattle.site_state.specs.Standings.{IsStanding, SameAgents, Standing}

pub stands_first : (s : Standing) (site budget : ℕ) → s.site ≡ site → budget ≤ LARGEST_BUDGET → s.agents ≡ map.empty → s.next ≡ 0 → s.clock ≡ 0
    → s.history ≡ without_events site budget → IsStanding s
stands_first s site budget number few agents next clock history = record {
  site = ap (λ (h : Recorded). h.site) history ∙ sym number;
  budget = let e = ap (λ (h : Recorded). h.budget) history in omega arith;
  named = named-none s.agents agents;
  names = omega arith;
  clock = omega arith;
  last = rw history tt;
}

pub match_weaker : {A : Type 0} {N M : Type 0} {P Q : A → Type 0} (o : Option A) → (N → M) → ((a : A) → P a → Q a) → MatchOption o N P → MatchOption o M Q
match_weaker None f g h = f h
match_weaker (Some a) f g h = g a h

pub none_given : {X : Type 0} (A B : Type 0) (o : Option X) → (A → IfNone o B) → IfNone o (A → B)
none_given A B None f = f
none_given A B (Some x) f = tt

pub on_any : {P T E : Type 0} (r : Result T E) → P → OnErr r P
on_any (Ok x) p = tt
on_any (Err x) p = p

pub same_agents : (old new : NameMap Pool) → new ≡ old → SameAgents old new
same_agents old new e = record { each = λ q. ap (λ m. option_map without_room (map.get m q)) e }

pub ruleset sites = (stands_first)
