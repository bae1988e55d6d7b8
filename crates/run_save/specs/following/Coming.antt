-- Which item an event takes where sites go on by themselves (docs/HISTORIES.md, "History text").
use Rattle.std.specs.Prelude.{◌≡◌, ◌<◌, ℕ, List, [], ◌∷◌, ◌++◌, length, false, Some}
use Rattle.np_syntax.specs.declared.event.Event.{Event}
use Rattle.np_syntax.specs.declared.program.LowProgram.{LowProgram}
use Rattle.np_calculus.specs.declared.config.Packet.{Packet}
use Rattle.np_calculus.specs.declared.config.Place.TheVariants as place
use Rattle.np_calculus.specs.Begins.{arrival, landing}
use Rattle.np_calculus.specs.Config.{Config}
use Rattle.np_calculus.specs.NotEnabled.{by_atom}
use Rattle.np_calculus.specs.Reductions.{apply}
use Rattle.np_calculus.specs.Sight.{Contents}
use Rattle.np_calculus.specs.Starts.{start_low}
use Rattle.stamp_history.specs.Histories.{Recorded}
use Rattle.run_merge.specs.Merged.{items, merged}
use Rattle.np_site_runs.specs.merged.Deeds.{StampedItem}
use Rattle.np_site_runs.specs.Accounts.{Accounts, AreSettled, AreTheirs, SitesEnd}
use Rattle.np_site_runs.specs.Starting.{start_holding}
use Rattle.run_save.specs.Ours.{IsOurs}
use Rattle.run_save.specs.following.TravelLaws.{PutsLead}

-- the event is just the coming of what is under way: of an agent that arrives, or of a packet that lands
pub data IsComing (e : Event) (x : Contents) : Type 0 where
  agent : x.place e.actor ≡ Some (place.Way e.site) → e ≡ arrival e.actor e.site → IsComing e x
  packet : (p : Packet) → x.packet e.actor ≡ Some p → e ≡ landing e.actor p → IsComing e x

-- of what is left on a link to the event's site, what comes by the event is the first
pub record IsFirstLeft (n : ℕ) (r : Accounts) (e : Event) : Type 0 where
  pub from : ℕ
  pub within : from < n
  pub first : StampedItem
  pub later : List StampedItem
  pub left : r.rest from e.site ≡ first ∷ later
  pub comes : IsComing e first.item.load

-- so it is where the merged history goes on by an event that is no atom's, and is ours with it
abbrev pub ComingIsFirst : Type 0
ComingIsFirst = (q : LowProgram) (r : Accounts) (hs : List Recorded) → q.at < length q.sites
    → AreSettled (length q.sites) (start_holding q) r
    → AreTheirs (length q.sites) r hs → PutsLead (length q.sites) r
    → (end : SitesEnd (length q.sites) r hs (start_low q)) (e : Event) (after : Config)
    → by_atom e.kind ≡ false → apply end.whole e ≡ Some after → IsOurs q (items (merged hs) ++ e ∷ []) → IsFirstLeft (length q.sites) r e
