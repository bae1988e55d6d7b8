-- What an event of an agent does to a site is what the calculus says.
use Rattle.std.proofs.Common.{◌≡◌, ◌+◌, ℕ, length, Option, None, Some, refl, sym, ap, subst, ◌∙◌}
use Rattle.std.specs.FinMap as map
use Rattle.np_syntax.specs.declared.event.Event.{Event}
use Rattle.np_syntax.specs.declared.event.Kind.{Kind}
use Rattle.np_syntax.specs.declared.event.Kind.TheVariants as kind
use Rattle.np_syntax.specs.declared.event.Made.{Made}
use Rattle.np_syntax.specs.declared.value.Name.{Name}
use Rattle.np_syntax.specs.declared.value.Value.{Value}
use Rattle.np_tables.specs.Mapped.{mapped}
use Rattle.np_tables.proofs.Mapped.{mapped-put, mapped_there}
use Rattle.np_calculus.specs.Changes.{still}
use Rattle.np_calculus.specs.Rows.{made_of}
use Rattle.stamp_history.specs.declared.stamped.Stamped.{Stamped}
use Rattle.stamp_history.specs.Histories.{Recorded}
use Rattle.np_site_runs.specs.Holdings.{Does, name_of}
use Rattle.np_site_runs.specs.Making.{AreNext, next_after}
use Rattle.np_site_runs.specs.Within.{GoesOn, gone_on, inner, with_value}
use Rattle.np_code.specs.Programs.{ProgramTable}
use Rattle.agent_pool.specs.declared.ready.Ready.{Ready}
use Rattle.agent_pool.specs.Pools.{atoms_of}
use Rattle.agent_pool.specs.Rows.{event_of}
use Rattle.site_state.specs.Doing.{ArePut, HasDone, HasDoneEvent, deed_of, event_at, finds, recorded}
use Rattle.site_state.specs.Lines.{SameLines}
use Rattle.site_state.specs.Parts.{HasReduced, IsLooked, IsNoted}
use Rattle.site_state.specs.Coming.{KeepsSeats}
use Rattle.site_agents.specs.Standings.{AreNamed, AreQuiet, Standing as Seated}
use Rattle.site_state.specs.Standings.{KeepsQuiet, SameRecords, Standing, holding_of}

pub said_of : (h : Recorded) (e : Stamped) (value : Option Value) → (recorded h e value).said ≡ with_value h.said value
said_of h e None = refl
said_of h e (Some v) = refl

-- whether agents are quiet is a fact of them and of what was found
pub same_quiet : (code : ProgramTable) (s t : Seated) → t.agents ≡ s.agents → t.quiet ≡ s.quiet → AreQuiet code s → AreQuiet code t
same_quiet code s t agents quiet h = record { each = λ q p f g. h.each q p (ap (λ m. map.get m q) (sym quiet) ∙ f) (ap (λ m. map.get m q) (sym agents) ∙ g) }

-- agents that were changed after room was made
pub keeps_after : (a b c : Seated) → b.agents ≡ a.agents → b.quiet ≡ a.quiet → (AreNamed b.agents → AreNamed c.agents) → ((code : ProgramTable) → AreQuiet code b → AreQuiet code c)
    → KeepsSeats a c
keeps_after a b c agents quiet named still = record { named = λ h. named (subst AreNamed (sym agents) h); quiet = λ code h. still code (same_quiet code a b agents quiet h) }

pub lines_are : (old mid new : Standing) → new.outgoing ≡ mid.outgoing → SameLines old.outgoing mid.outgoing → SameLines old.outgoing new.outgoing
lines_are old mid new e h = subst (SameLines old.outgoing) (sym e) h

module _ (on : GoesOn) (code : ProgramTable) (old mid new : Standing) (name : Name) (r : Ready) (made : Made) (value : Option Value)
    (reduced : HasReduced code old name r made (record still { said = value }) mid)
    (noted : IsNoted mid (mid.clock + 1) (event_of mid.site r made) value new)
    (local : r.kind ≡ kind.Local → ⊥) (post : r.kind ≡ kind.Post → ⊥) (next : AreNext (holding_of code old) made) where
  abbrev pub stamped : Stamped
  stamped = record { stamp = new.clock; event = event_of mid.site r made }

  ends : gone_on (holding_of code old) name (atoms_of code.processes reduced.after) stamped.event value ≡ holding_of code new
  ends = λ i. record {
    site = (sym (noted.site ∙ reduced.same.site)) i;
    sites = length code.sites;
    agents = (sym (ap (mapped (atoms_of code.processes)) (noted.agents ∙ reduced.agents) ∙ mapped-put (atoms_of code.processes) old.agents name reduced.after)) i;
    next = (sym (noted.next ∙ ap (λ n. next_after n made) reduced.same.next)) i;
    said = (sym (ap (λ (h : Recorded). h.said) noted.history ∙ said_of mid.history _ value ∙ ap (λ (h : Recorded). with_value h.said value) reduced.same.history)) i;
  }

  pub does : Does (holding_of code old) (deed_of code stamped None None) (holding_of code new)
  does = subst (Does (holding_of code old) (inner stamped)) ends
      (on (holding_of code old) stamped name (atoms_of code.processes reduced.before) (atoms_of code.processes reduced.after) r.kind value
      (record { site = reduced.same.site; kind = refl; stands = mapped_there (atoms_of code.processes) old.agents name reduced.before reduced.stood; makes = next })
      local post (reduced.goes mid.site))

  done_there : HasDoneEvent code old new stamped.event
  done_there = record {
    out = None;
    did = record {
      site = noted.site ∙ reduced.same.site;
      at = reduced.same.site;
      clock = noted.clock ∙ ap (λ n. n + 1) reduced.same.clock;
      value = value;
      history = subst (λ h. new.history ≡ recorded h stamped value) reduced.same.history
          (subst (λ n. new.history ≡ recorded mid.history (record { stamp = n; event = stamped.event }) value) (sym noted.clock) noted.history);
      outgoing = lines_are old mid new noted.outgoing reduced.outgoing;
      put = tt;
      quiet = λ q. same_quiet code _ _ noted.agents noted.quiet (reduced.quiet q);
      does = does;
    };
  }

  pub has_done : HasDoneEvent code old new (event_of old.site r made)
  has_done = subst (λ (n : ℕ). HasDoneEvent code old new (event_of n r made)) reduced.same.site done_there

-- the event that an agent does, by what an event of its kind makes
pub done_as : (code : ProgramTable) (old new : Standing) (name : Name) (r : Ready) (k : Kind) (made : Made) → r.kind ≡ k
    → made_of k (finds code old.agents name r) (name_of old.site old.next) (name_of old.site (old.next + 1)) ≡ made
    → HasDoneEvent code old new (event_of old.site r made) → HasDoneEvent code old new (event_at code old name r)
done_as code old new name r k made is makes h =
    subst (λ (m : Made). HasDoneEvent code old new (event_of old.site r m))
    (sym (ap (λ (j : Kind). made_of j (finds code old.agents name r) (name_of old.site old.next) (name_of old.site (old.next + 1))) is ∙ makes)) h

-- an event of a site after it was looked whose turn it is
pub done_from : (code : ProgramTable) (old mid new : Standing) (e : Event) → IsLooked code old mid → HasDoneEvent code mid new e → HasDone code old new
done_from code old mid new e l h =
    let d = h.did in
    let same : holding_of code mid ≡ holding_of code old = λ i. record {
      site = l.same.site i;
      sites = length code.sites;
      agents = mapped (atoms_of code.processes) (l.agents i);
      next = l.same.next i;
      said = (l.same.history i).said;
    } in
    record {
      event = e;
      out = h.out;
      did = record {
        site = d.site ∙ l.same.site;
        at = d.at ∙ l.same.site;
        clock = d.clock ∙ ap (λ n. n + 1) l.same.clock;
        value = d.value;
        history = subst (λ x. new.history ≡ recorded x (record { stamp = new.clock; event = e }) d.value) l.same.history d.history;
        outgoing = subst (λ x. ArePut x h.out new.outgoing) l.outgoing d.outgoing;
        put = d.put;
        quiet = λ q. d.quiet (l.quiet q);
        does = subst (λ x. Does x (deed_of code (record { stamp = new.clock; event = e }) None h.out) (holding_of code new)) same d.does;
      };
    }

-- an event that takes no item and puts none out, from what is recorded of it
pub done_inner : (code : ProgramTable) (old mid new : Standing) (e : Event) (value : Option Value) → SameRecords old mid → SameLines old.outgoing mid.outgoing → KeepsQuiet code old mid
    → IsNoted mid (mid.clock + 1) e value new → e.site ≡ old.site
    → Does (holding_of code old) (deed_of code (record { stamp = new.clock; event = e }) None None) (holding_of code new) → HasDoneEvent code old new e
done_inner code old mid new e value records lines quiet noted at does = record {
  out = None;
  did = record {
    site = noted.site ∙ records.site;
    at = at;
    clock = noted.clock ∙ ap (λ n. n + 1) records.clock;
    value = value;
    history = subst (λ h. new.history ≡ recorded h (record { stamp = new.clock; event = e }) value) records.history
        (subst (λ n. new.history ≡ recorded mid.history (record { stamp = n; event = e }) value) (sym noted.clock) noted.history);
    outgoing = lines_are old mid new noted.outgoing lines;
    put = tt;
    quiet = λ q. same_quiet code _ _ noted.agents noted.quiet (quiet q);
    does = does;
  };
}
