-- What the infrastructure sends (docs/TRANSLATION.md, "Translation and daemon"): to whom, on which channel, and what. Here n is the number
-- of sites.
use Rattle.std.specs.Prelude.{ℕ, [], ◌∷◌}
use Rattle.np_syntax.specs.declared.value.Name.{Name}
use Rattle.np_syntax.specs.declared.value.Value.{Value}
use Rattle.np_syntax.specs.declared.value.Value as value
use Rattle.np_syntax.specs.declared.process.Tag.{Tag}
use Rattle.np_calculus.specs.declared.config.Atom.{Atom}
use Rattle.np_calculus.specs.declared.config.Packet.{Packet}
use Rattle.np_calculus.specs.Reductions.{output_in}
use Rattle.np_calculus.specs.Starts.{own, daemon_agent}

-- a letter that was posted to an agent: its channel and value, and the tag of the output that it is at the high level
pub record Posted : Type 0 where
  pub agent : Name
  pub chan : Name
  pub value : Value
  pub tag : Tag

-- the output that it is at the high level
abbrev pub as_output : Posted → Atom
as_output p = output_in p.agent p.chan p.value p.tag

pub data Mail : Type 0 where
  -- to the daemon: register![b s], migrating!a, migrated![a t], message![b letter] and dack![b s]
  register : Name → ℕ → Mail
  migrating : Name → Mail
  migrated : Name → ℕ → Mail
  message : Posted → Mail
  dack : Name → ℕ → Mail
  -- with caches also where![a b], of an agent that asks where another is
  asks : Name → Name → Mail
  -- to an agent at a site: ack![] and deliver![letter s]
  ack : Name → ℕ → Mail
  deliver : Posted → ℕ → Mail
  -- and found![b s], for an agent at a site: another is at s
  found : Name → ℕ → Name → ℕ → Mail

abbrev pub agent_and_site : Name → ℕ → Value
agent_and_site a s = value.Tuple (value.Agent a ∷ value.Site s ∷ [])

-- the agent that it is for
abbrev pub receiver : ℕ → Mail → Name
receiver n (Mail.ack a s) = a
receiver n (Mail.deliver p s) = p.agent
receiver n (Mail.found a u b s) = a
receiver n _ = daemon_agent n

-- the site to which it goes: the daemon stands at site 0
abbrev pub to_site : Mail → ℕ
to_site (Mail.ack a s) = s
to_site (Mail.deliver p s) = s
to_site (Mail.found a u b s) = u
to_site _ = 0

-- the number of its channel among the own names
abbrev pub on_channel : Mail → ℕ
on_channel (Mail.register b s) = 2
on_channel (Mail.migrating a) = 3
on_channel (Mail.migrated a t) = 4
on_channel (Mail.message p) = 5
on_channel (Mail.dack b s) = 8
on_channel (Mail.ack a s) = 7
on_channel (Mail.deliver p s) = 6
on_channel (Mail.asks a b) = 15
on_channel (Mail.found a u b s) = 16

abbrev pub content : Mail → Value
content (Mail.register b s) = agent_and_site b s
content (Mail.migrating a) = value.Agent a
content (Mail.migrated a t) = agent_and_site a t
content (Mail.message p) = value.Tuple (value.Agent p.agent ∷ value.Letter p.chan p.value ∷ [])
content (Mail.dack b s) = agent_and_site b s
content (Mail.ack a s) = value.Tuple []
content (Mail.deliver p s) = value.Tuple (value.Letter p.chan p.value ∷ value.Site s ∷ [])
content (Mail.asks a b) = value.Tuple (value.Agent a ∷ value.Agent b ∷ [])
content (Mail.found a u b s) = agent_and_site b s

-- the packet that it is on its way
abbrev pub packet_of : ℕ → Mail → Tag → Packet
packet_of n m tag = record { to = to_site m; agent = receiver n m; chan = own n (on_channel m); value = content m; tag = tag }
