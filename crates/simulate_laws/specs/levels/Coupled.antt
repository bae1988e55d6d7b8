-- The invariant between the two levels: how a configuration of the low program of a source belongs to one of the source itself
-- (docs/TRANSLATION.md, "Translation and daemon"). Here i is the infrastructure, n the number of sites, the source's binders are below
-- `from`, and the daemon's are numbered from `first`.
use Rattle.std.specs.Prelude.{◌≡◌, ℕ, Bool, true, false, not, ◌||◌, ◌&&◌, is_some, Option, None, Some, List, [], ◌∷◌}
use Rattle.std.specs.List.{All, flat_map, list_any}
use Rattle.std.specs.FinMap as map
use Rattle.std.specs.FinSet as set
use Rattle.np_syntax.specs.declared.value.Name.{Name}
use Rattle.np_syntax.specs.Options.{◌>>=◌}
use Rattle.np_tables.specs.Names.{NameMap, NameSet, same_name}
use Rattle.np_calculus.specs.declared.config.Atom.{Atom}
use Rattle.np_calculus.specs.declared.config.Packet.{Packet}
use Rattle.np_calculus.specs.declared.config.Place.{Place}
use Rattle.np_calculus.specs.declared.config.Place.TheVariants as place
use Rattle.np_calculus.specs.Config.{Config}
use Rattle.np_calculus.specs.Parts.{AreBorn}
use Rattle.np_calculus.specs.Starts.{daemon_agent, main_agent, own, own_names}
use Rattle.np_lift.specs.CachedLift.{Standing, stands_for}
use Rattle.simulate_laws.specs.protocol.CacheChips.{CacheChip}
use Rattle.simulate_laws.specs.protocol.CacheLevels.{Levels}
use Rattle.simulate_laws.specs.protocol.CacheRule.{CacheRule}
use Rattle.simulate_laws.specs.protocol.Chips.{Chip}
use Rattle.simulate_laws.specs.protocol.Phases.{Phase}
use Rattle.simulate_laws.specs.protocol.Protocol.{Protocol}
use Rattle.simulate_laws.specs.protocol.Scenes.{Locks, Scene, Whereabouts}
use Rattle.infrastructure_texts.specs.Infrastructures.{Infrastructure}
use Rattle.simulate_laws.specs.things.Known.{IsKnown, Knows}
use Rattle.simulate_laws.specs.things.Mail.{Posted}
use Rattle.simulate_laws.specs.things.Shapes.{Are, IsUnderWay}
use Rattle.simulate_laws.specs.things.Things.{Thing, carried, first_atom_of, first_packet_of, IsHeaded, shows, shows_caches}
use Rattle.simulate_laws.specs.levels.Mirrors.{Mirrors}

-- What is told of the two configurations besides: the things under each mark of the low level, the marks that stand for others of the
-- high level and the messengers (none, as long as no infrastructure passes a mark on), the agents' locks, and the phases of their
-- affairs.
pub record View : Type 0 where
  pub things : NameMap (List Thing)
  pub standing : Standing
  pub lock : Locks
  pub phase : Name → Phase

-- ---- what the protocol sees

abbrev pub whereabouts : Option Place → Whereabouts
whereabouts None = Whereabouts.nowhere
whereabouts (Some (place.At s)) = Whereabouts.at s
whereabouts (Some (place.Way s)) = Whereabouts.under_way s

-- the agents' places are those of the high level: the daemon is no agent of the protocol
abbrev pub scene : View → Config → Scene
scene v high = record { place = λ q. whereabouts (map.get high.places q); lock = v.lock }

-- all that the things show, one way or another
abbrev pub shown : {X : Type 0} → (Thing → List X) → NameMap (List Thing) → List X
shown show things = flat_map (λ e. flat_map show e.1) (map.entries things)

abbrev pub chips : NameMap (List Thing) → List Chip
chips things = shown shows things

-- ---- what the caches' rule sees

abbrev pub cache_chips : NameMap (List Thing) → List CacheChip
cache_chips things = shown shows_caches things

-- the agents are those of the high level, which has no messengers
abbrev pub levels : Config → Config → Levels
levels low high = record {
  is_agent = λ q. is_some (map.get high.places q);
  low = λ q. set.contains low.born q;
  high = λ q. set.contains high.born q;
}

-- ---- messengers

-- who carries a letter to the site of a hint is a messenger
abbrev pub IsCarrier : NameSet → Thing → Type 0
IsCarrier messengers (Thing.carrying p t a) = set.contains messengers t ≡ true
IsCarrier messengers (Thing.trying p t a) = set.contains messengers t ≡ true
IsCarrier messengers t = Unit {0}

-- ---- what is known

-- the channels of the high level: none of the infrastructure's
abbrev pub is_channel : ℕ → NameSet → Name → Bool
is_channel n born c = set.contains born c && not (set.contains (own_names n) c)

abbrev pub is_child_of : Name → Name → Chip → Bool
is_child_of a b (Chip.child c p s) = same_name c b && same_name p a
is_child_of a b _ = false

-- The agents that may be known: those in the daemon's map. A new agent knows itself, and one that waits knows the agents that it made
-- and that have not told it yet: neither goes on before the daemon has them in its map.
abbrev pub may_know : Locks → List Chip → Thing → Name → Bool
may_know lock cs (Thing.settling a h s) b = is_some (lock b) || list_any (is_child_of h.agent b) cs
may_know lock cs (Thing.beginning a h p s) b = is_some (lock b) || same_name b h.agent
may_know lock cs t b = is_some (lock b)

abbrev pub KnowsLetter : (Name → Bool) → (Name → Bool) → Option Posted → Type 0
KnowsLetter agents chans None = Unit {0}
KnowsLetter agents chans (Some p) = (chans p.chan ≡ true) × IsKnown agents chans p.value

-- what a thing has of the high level knows these agents and channels alone
abbrev pub KnowsOnly : (Name → Bool) → (Name → Bool) → ℕ → Thing → Type 0
KnowsOnly agents chans from (Thing.source a h) = Knows agents chans from h.env
KnowsOnly agents chans from (Thing.asking a h) = Knows agents chans from h.env
KnowsOnly agents chans from (Thing.leaving a h) = Knows agents chans from h.env
KnowsOnly agents chans from (Thing.settling a h s) = Knows agents chans from h.env
KnowsOnly agents chans from (Thing.making a h s) = Knows agents chans from h.env
KnowsOnly agents chans from (Thing.beginning a h p s) = Knows agents chans from h.env
KnowsOnly agents chans from (Thing.calling a h ps) = Knows agents chans from h.env
KnowsOnly agents chans from (Thing.hoping a h l) = Knows agents chans from h.env
KnowsOnly agents chans from (Thing.hiring a h) = Knows agents chans from h.env
KnowsOnly agents chans from (Thing.passing a h) = Knows agents chans from h.env
KnowsOnly agents chans from (Thing.opened p) = KnowsLetter agents chans (Some p)
KnowsOnly agents chans from (Thing.packet k) = (agents k.agent ≡ true) × (chans k.chan ≡ true) × IsKnown agents chans k.value
KnowsOnly agents chans from t = KnowsLetter agents chans (carried t)

-- the things of a mark are something of the high level: an atom or a packet
abbrev pub is_high : List Thing → Bool
is_high ts = is_some (first_atom_of ts) || is_some (first_packet_of ts)

-- ---- the invariant

-- A mark is that of nothing, of an atom or of a packet, and its things are what that is there for. Of the things of an atom the first
-- alone may be an atom of the high level: so the atoms of the source keep their marks.
pub data IsShaped (i : Infrastructure) (n from first : ℕ) (low : Config) (things : NameMap (List Thing)) (m : Name) : Type 0 where
  nothing : map.get low.atoms m ≡ None → map.get low.packets m ≡ None → map.get things m ≡ None → IsShaped i n from first low things m
  atom : {a : Atom} {ts : List Thing} → map.get low.atoms m ≡ Some a → map.get low.packets m ≡ None → map.get things m ≡ Some ts
      → IsHeaded ts → Are i n from first a ts
      → IsShaped i n from first low things m
  packet : {k : Packet} {t : Thing} → map.get low.atoms m ≡ None → map.get low.packets m ≡ Some k → map.get things m ≡ Some (t ∷ [])
      → IsUnderWay n t k
      → IsShaped i n from first low things m

pub record Coupled (i : Infrastructure) (n from first : ℕ) (low high : Config) (v : View) : Type 0 where
  -- both are of one program; so the sites that expressions name are the same
  pub low_sites : low.sites ≡ n
  pub high_sites : high.sites ≡ n
  -- agents are at the same places, but for messengers, so what is at a site for the one is so for the other; the daemon stands at site
  -- 0, so what is sent to it lands
  pub daemon : map.get low.places (daemon_agent n) ≡ Some (place.At 0)
  pub no_daemon : map.get high.places (daemon_agent n) ≡ None
  pub places : (q : Name) → same_name q (daemon_agent n) ≡ false → set.contains v.standing.messengers q ≡ false
      → map.get low.places q ≡ map.get high.places q
  -- a messenger is an agent of the low level alone, so no agent of the source is one; and an agent that is made is none yet
  pub messengers : (q : Name) → set.contains v.standing.messengers q ≡ true → map.get high.places q ≡ None
  pub messengers_born : (q : Name) → set.contains v.standing.messengers q ≡ true → set.contains low.born q ≡ true
  -- the same was printed
  pub said : low.said ≡ high.said
  -- a name that is new to the low level is new to the high one, and is no own name
  pub born : (q : Name) → set.contains high.born q ≡ true → set.contains low.born q ≡ true
  pub own_born : (q : Name) → set.contains (own_names n) q ≡ true → set.contains high.born q ≡ true
  -- a name that is made is no mark and no agent yet: what is put under it puts nothing else away
  pub stand_born : AreBorn low
  -- each atom and each packet is there for something, and nothing else is: so the form of what acts tells what it is there for
  pub shaped : (m : Name) → IsShaped i n from first low v.things m
  -- the high level has the atoms and packets that the things are, and no others: so what acts at the low level for the source acts at
  -- the high one
  pub mirrored : Mirrors (stands_for v.standing) (λ m. map.get v.things m >>= first_atom_of) (map.get high.atoms)
  pub mirrored_packets : Mirrors (stands_for v.standing) (λ m. map.get v.things m >>= first_packet_of) (map.get high.packets)
  -- a name that is new stands for itself, and what stands for it is new
  pub new_marks : (m : Name) → set.contains low.born m ≡ false → stands_for v.standing m ≡ m
  pub old_marks : (m : Name) → set.contains low.born m ≡ true → set.contains low.born (stands_for v.standing m) ≡ true
  -- marks that stand for one mark, and have something of the high level, are one: so an event takes from the high level what it takes
  -- from the low one
  pub distinct : (m k : Name) (ts us : List Thing) → map.get v.things m ≡ Some ts → map.get v.things k ≡ Some us → is_high ts ≡ true
      → is_high us ≡ true
      → stands_for v.standing m ≡ stands_for v.standing k → m ≡ k
  -- the chips that the things show keep the protocol: so an agent has one affair at a time, and letters and look-ups find their agents
  -- in the map
  pub protocol : Protocol (scene v high) v.phase (chips v.things)
  -- a lock is no name of the infrastructure but main's: so nothing else is taken for it; and a new name is no lock
  pub locks_born : (a l : Name) → v.lock a ≡ Some l → set.contains low.born l ≡ true
  pub locks_apart : (a l : Name) → v.lock a ≡ Some l → set.contains (own_names n) l ≡ true → l ≡ own n 13
  -- main is in the map: it may be known to all
  pub main : is_some (v.lock (main_agent n)) ≡ true
  -- the source knows no agent that is not in the map, so each post finds its agent; and no channel of the infrastructure, so none meets
  -- the source's
  pub known : (m : Name) (ts : List Thing) → map.get v.things m ≡ Some ts
      → All (λ t. KnowsOnly (may_know v.lock (chips v.things) t) (is_channel n high.born) from t) ts
  -- each agent has a cache, and who needs a hint finds it: so no post waits for ever. The lock of a hint is hidden: so the source takes
  -- none, and nothing of the source is taken for one
  pub hints : i ≡ Infrastructure.cached → CacheRule (levels low high) (cache_chips v.things)
  -- what stands in messengers is no agent's: so where they go is nothing for the high level
  pub carriers : (m : Name) (ts : List Thing) → map.get v.things m ≡ Some ts → All (IsCarrier v.standing.messengers) ts
