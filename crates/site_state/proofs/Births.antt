-- The making of an agent at a site is what the calculus says.
use Rattle.std.proofs.Common.{◌≡◌, ◌+◌, false, [], ◌∷◌, length, None, sym, ap, subst, ◌∙◌}
use Rattle.std.specs.FinMap as map
use Rattle.np_syntax.specs.declared.event.Kind.TheVariants as kind
use Rattle.np_syntax.specs.declared.event.Made.TheVariants as made
use Rattle.np_syntax.specs.declared.value.Name.{Name}
use Rattle.np_tables.specs.Mapped.{mapped}
use Rattle.np_tables.proofs.Mapped.{mapped-put, mapped-empty, mapped_there}
use Rattle.np_calculus.specs.declared.config.Atom.{Atom}
use Rattle.np_calculus.specs.declared.config.Place.TheVariants as place
use Rattle.np_calculus.specs.Changes.{put, still}
use Rattle.stamp_history.specs.declared.stamped.Stamped.{Stamped}
use Rattle.stamp_history.specs.Histories.{Recorded}
use Rattle.np_site_runs.specs.Going.{GoesPast}
use Rattle.np_site_runs.specs.Holdings.{Does, name_of}
use Rattle.np_site_runs.specs.Making.{next_after}
use Rattle.np_site_runs.specs.Within.{Makes, given, gone_on, inner}
use Rattle.np_code.specs.Programs.{ProgramTable}
use Rattle.agent_pool.specs.declared.ready.Ready.{Ready}
use Rattle.agent_pool.specs.Held.{atom_of, wait_of}
use Rattle.agent_pool.specs.Moves.{Births}
use Rattle.agent_pool.specs.Pools.{Pool, atoms_of, seen_as}
use Rattle.agent_pool.specs.Rows.{event_of}
use Rattle.site_state.specs.Doing.{HasDoneEvent, deed_of}
use Rattle.site_state.specs.Parts.{HasBirth, IsNoted}
use Rattle.site_state.specs.Standings.{KeepsQuiet, SameRecords, Standing, holding_of}
use Rattle.site_state.proofs.Done.{done_inner}
use Rattle.site_state.proofs.Lines.{lines_are_same}

born_seen : (code : ProgramTable) (before after born : Pool) (r : Ready) (child mark : Name) → (b : Births code before after r child mark born)
    → atoms_of code.processes born ≡ map.insert map.empty mark (atom_of code.processes child b.body)
born_seen code before after born r child mark b =
    (λ i. mapped (seen_as code.processes (b.name i)) (b.atoms i)) ∙ mapped-put (seen_as code.processes child) map.empty mark (wait_of code.processes b.body, b.body)
    ∙ ap (λ m. map.insert m mark (atom_of code.processes child b.body)) (mapped-empty (seen_as code.processes child))

module _ (makes : Makes) (code : ProgramTable) (old mid new : Standing) (name : Name) (r : Ready) (child mark : Name) (birth : HasBirth code old.agents name r child mark mid.agents)
    (records : SameRecords old mid) (outgoing : mid.outgoing ≡ old.outgoing) (quiet : KeepsQuiet code old mid) (is : r.kind ≡ kind.Agent)
    (first_is : child ≡ name_of old.site old.next) (second_is : mark ≡ name_of old.site (old.next + 1))
    (noted : IsNoted mid (mid.clock + 1) (event_of mid.site r (made.Two child mark)) None new) where
  abbrev stamped : Stamped
  stamped = record { stamp = new.clock; event = event_of mid.site r (made.Two child mark) }

  abbrev first : Atom
  first = atom_of code.processes child birth.births.body

  ends : given (gone_on (holding_of code old) name (atoms_of code.processes birth.after) stamped.event None) child map.empty mark first ≡ holding_of code new
  ends = λ i. record {
    site = (sym (noted.site ∙ records.site)) i;
    sites = length code.sites;
    agents = (sym (ap (mapped (atoms_of code.processes)) (noted.agents ∙ birth.agents)
        ∙ mapped-put (atoms_of code.processes) (map.insert old.agents name birth.after) child birth.born
        ∙ ap (λ m. map.insert m child (atoms_of code.processes birth.born)) (mapped-put (atoms_of code.processes) old.agents name birth.after)
        ∙ ap (map.insert (map.insert (mapped (atoms_of code.processes) old.agents) name (atoms_of code.processes birth.after)) child)
        (born_seen code birth.before birth.after birth.born r child mark birth.births))) i;
    next = (sym (noted.next ∙ ap (λ n. next_after n (made.Two child mark)) records.next)) i;
    said = (sym (ap (λ (h : Recorded). h.said) noted.history ∙ ap (λ (h : Recorded). h.said) records.history)) i;
  }

  does : Does (holding_of code old) (deed_of code (record { stamp = new.clock; event = event_of mid.site r (made.Two child mark) }) None None) (holding_of code new)
  does = subst (Does (holding_of code old) (inner stamped)) ends
      (makes (holding_of code old) stamped name child mark first (atoms_of code.processes birth.before) (atoms_of code.processes birth.after)
      (record { site = records.site; kind = is; stands = mapped_there (atoms_of code.processes) old.agents name birth.before birth.stood; makes = (first_is, second_is) })
      (subst (λ s. GoesPast kind.Agent (length code.sites) false (atoms_of code.processes birth.before) (atoms_of code.processes birth.after) stamped.event
      (record still { places = put child (place.At s) ∷ []; atoms = put mark first ∷ [] })) records.site (birth.births.row mid.site)))

  pub has_born : HasDoneEvent code old new (event_of mid.site r (made.Two child mark))
  has_born = done_inner code old mid new stamped.event None records (lines_are_same _ _ outgoing) quiet noted records.site does
