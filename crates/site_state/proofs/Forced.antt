-- Events that are given to a site.
use Rattle.std.proofs.Common.{◌≡◌, ◌<◌, ◌≤◌, ◌+◌, ◌-◌, ℕ, max, length, refl, sym, ap, subst, ◌∙◌, arith}
use Rattle.np_syntax.specs.declared.limits.TheConstants.{STAMPS_END}
use Rattle.np_syntax.specs.declared.value.Name.{Name}
use Rattle.stamp_history.specs.Histories.{IsAboveLast}
use Rattle.np_code.specs.Programs.{ProgramTable}
use Rattle.agent_pool.specs.declared.ready.Ready.{Ready}
use Rattle.site_state.specs.Doing.{HasDoneEvent, event_at}
use Rattle.site_state.specs.Standings.{IsStanding, Standing, Stays, with_clock}
use Rattle.site_state.proofs.Noted.{above_more}

-- a site whose clock is at another stamp
pub stands_at : (s : Standing) (stamp : ℕ) → IsStanding s → stamp ≤ STAMPS_END + length s.history.events → IsAboveLast s.history.events (stamp + 1) → IsStanding (with_clock s stamp)
stands_at s stamp h few last = record { site = h.site; budget = h.budget; named = h.named; names = h.names; clock = few; last = last }

pub stands_later : (s : Standing) (stamp : ℕ) → IsStanding s → s.clock ≤ stamp → stamp ≤ STAMPS_END + length s.history.events → IsStanding (with_clock s stamp)
stands_later s stamp h later few = stands_at s stamp h few (above_more s.history.events (s.clock + 1) (stamp + 1) (omega arith) h.last)

-- a clock that is raised to just below a stamp that is above it
pub raised_to : (old mid : Standing) (stamp : ℕ) → old.clock < stamp → mid ≡ with_clock old (max old.clock (stamp - 1)) → mid ≡ with_clock old (stamp - 1)
raised_to old mid stamp above raised = raised ∙ ap (with_clock old) (omega arith)

module _ (code : ProgramTable) (old mid new : Standing) (stamp : ℕ) (raised : mid ≡ with_clock old stamp) where
  -- an event that was done at a later clock
  pub done_later : (name : Name) (r : Ready) → HasDoneEvent code mid new (event_at code mid name r) → HasDoneEvent code (with_clock old stamp) new (event_at code old name r)
  done_later name r done = subst (λ (s : Standing). HasDoneEvent code s new (event_at code s name r)) raised done

  -- and one that was tried there
  pub stays_raised : Stays code mid new → Stays code (with_clock old stamp) new
  stays_raised h = subst (λ (s : Standing). Stays code s new) raised h

-- nothing has changed where the clock was raised, nothing was done, and the clock was set back
pub stays_back : (code : ProgramTable) (old tried new : Standing) (stamp : ℕ) → Stays code (with_clock old stamp) tried → new ≡ with_clock tried old.clock → Stays code old new
stays_back code old tried new stamp h back = subst (λ (s : Standing). Stays code old s) (sym back) record {
  same = record { site = h.same.site; agents = h.same.agents; next = h.same.next; clock = refl; history = h.same.history; outgoing = h.same.outgoing };
  quiet = h.quiet;
}
