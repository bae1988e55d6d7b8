-- What leaves a site does what the calculus says.
use Rattle.std.proofs.Common.{◌≡◌, ◌<◌, ◌+◌, ℕ, [], ◌∷◌, length, None, Some, refl, sym, ap, subst, ◌∙◌}
use Rattle.np_syntax.specs.declared.event.Kind.TheVariants as kind
use Rattle.np_syntax.specs.declared.event.Made.TheVariants as made
use Rattle.np_syntax.specs.declared.value.Name.{Name}
use Rattle.np_tables.specs.Mapped.{mapped}
use Rattle.np_tables.proofs.Mapped.{mapped-put, mapped-cut, mapped_there}
use Rattle.np_calculus.specs.declared.config.Packet.{Packet}
use Rattle.np_calculus.specs.declared.config.Place.TheVariants as place
use Rattle.np_calculus.specs.Changes.{put, still}
use Rattle.stamp_history.specs.declared.stamped.Stamped.{Stamped}
use Rattle.stamp_history.specs.Histories.{Recorded, with_event}
use Rattle.np_site_runs.specs.Holdings.{Does}
use Rattle.np_site_runs.specs.Leaving.{Leaves, Sends, putting, without}
use Rattle.np_site_runs.specs.Loads.{agent_load}
use Rattle.np_site_runs.specs.Within.{gone_on}
use Rattle.np_code.specs.Programs.{ProgramTable}
use Rattle.agent_pool.specs.declared.ready.Ready.{Ready}
use Rattle.agent_pool.specs.Pools.{Pool, atoms_of}
use Rattle.agent_pool.specs.Rows.{Reduces, event_of}
use Rattle.agent_move.specs.declared.item.Item.{Item}
use Rattle.agent_move.specs.declared.load.Load.TheVariants as load
use Rattle.agent_move.specs.Items.{contents_of, item_of}
use Rattle.site_state.specs.Doing.{HasDoneEvent, deed_of}
use Rattle.site_state.specs.Lines.{IsPut}
use Rattle.site_state.specs.Parts.{HasDeparted, HasGone}
use Rattle.site_state.specs.Standings.{KeepsQuiet, Standing, holding_of}

-- what an event that puts something out did to all but the agents
pub record HasPutOut (code : ProgramTable) (old : Standing) (r : Ready) (item : Item) (to : ℕ) (new : Standing) : Type 0 where
  pub site : new.site ≡ old.site
  pub next : new.next ≡ old.next
  pub clock : new.clock ≡ old.clock + 1
  pub history : new.history ≡ with_event old.history (record { stamp = new.clock; event = event_of old.site r made.Nothing })
  pub quiet : KeepsQuiet code old new
  pub outgoing : IsPut old.outgoing to item new.outgoing
  pub stamp : item.stamp ≡ new.clock
  pub from : item.from ≡ old.site
  pub to_is : item.to ≡ to
  pub within : to < length old.outgoing

module _ (code : ProgramTable) (old new : Standing) (r : Ready) (item : Item) (to : ℕ) (out : HasPutOut code old r item to new) where
  abbrev stamped : Stamped
  stamped = record { stamp = new.clock; event = event_of old.site r made.Nothing }

  put_out : Does (holding_of code old) (deed_of code (record { stamp = new.clock; event = event_of old.site r made.Nothing }) None (Some item)) (holding_of code new)
      → HasDoneEvent code old new (event_of old.site r made.Nothing)
  put_out does = record {
    out = Some item;
    did = record {
      site = out.site;
      at = refl;
      clock = out.clock;
      value = None;
      history = out.history;
      outgoing = subst (λ t. IsPut old.outgoing t item new.outgoing) (sym out.to_is) out.outgoing;
      put = record { stamp = out.stamp; from = out.from ∙ sym out.site; to = subst (λ n. item.to < n) (sym out.outgoing.sites) (subst (λ t. t < length old.outgoing) (sym out.to_is) out.within) };
      quiet = out.quiet;
      does = does;
    };
  }

  module _ (sends : Sends) (name : Name) (packet : Packet) (is : r.kind ≡ kind.Send) (load_is : item.load ≡ load.Packet r.actor packet)
      (gone : HasGone code old.agents name kind.Send r made.Nothing (record still { packets = put r.actor packet ∷ [] }) new.agents) where
    sent_ends : gone_on (holding_of code old) name (atoms_of code.processes gone.after) stamped.event None ≡ holding_of code new
    sent_ends = λ i. record {
      site = (sym out.site) i;
      sites = length code.sites;
      agents = (sym (ap (mapped (atoms_of code.processes)) gone.agents ∙ mapped-put (atoms_of code.processes) old.agents name gone.after)) i;
      next = (sym out.next) i;
      said = (sym (ap (λ (h : Recorded). h.said) out.history)) i;
    }

    pub has_sent : HasDoneEvent code old new (event_of old.site r made.Nothing)
    has_sent = put_out (subst (Does (holding_of code old) (putting stamped (item_of code item))) sent_ends
        (sends (holding_of code old) stamped (item_of code item) name packet (atoms_of code.processes gone.before) (atoms_of code.processes gone.after)
        (record { site = refl; kind = is; stands = mapped_there (atoms_of code.processes) old.agents name gone.before gone.stood; makes = tt })
        (gone.goes old.site) (ap (λ l. contents_of code.processes l item.to) load_is)))

  module _ (leaves : Leaves) (name : Name) (after : Pool) (is : r.kind ≡ kind.Depart) (load_is : item.load ≡ load.Agent after)
      (gone : HasDeparted code old.agents name r to after new.agents) where
    left_ends : without (holding_of code old) name ≡ holding_of code new
    left_ends = λ i. record {
      site = (sym out.site) i;
      sites = length code.sites;
      agents = (sym (ap (mapped (atoms_of code.processes)) gone.agents ∙ mapped-cut (atoms_of code.processes) old.agents name)) i;
      next = (sym out.next) i;
      said = (sym (ap (λ (h : Recorded). h.said) out.history)) i;
    }

    pub has_left : HasDoneEvent code old new (event_of old.site r made.Nothing)
    has_left = put_out (subst (Does (holding_of code old) (putting stamped (item_of code item))) left_ends
        (leaves (holding_of code old) stamped (item_of code item) name to (atoms_of code.processes gone.before) (atoms_of code.processes after)
        (record { site = refl; kind = is; stands = mapped_there (atoms_of code.processes) old.agents name gone.before gone.stood; makes = tt })
        (subst (λ n. Reduces kind.Depart code gone.before after r made.Nothing (record still { places = put n (place.Way to) ∷ [] })) gone.named gone.goes old.site)
        (ap (λ l. contents_of code.processes l item.to) load_is ∙ (λ i. agent_load (gone.still_named i) (atoms_of code.processes after) (out.to_is i)))))
