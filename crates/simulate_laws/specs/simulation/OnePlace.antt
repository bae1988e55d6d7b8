-- Where the letter of a post that was not handed over yet is, where the infrastructure has caches and messengers (docs/TRANSLATION.md,
-- "Translation and daemon").
use Rattle.std.specs.Prelude.{◌≡◌, ◌⊎◌, ℕ, true, false, None, Some, [], ◌∷◌}
use Rattle.std.specs.FinMap as map
use Rattle.std.specs.FinSet as set
use Rattle.np_syntax.specs.declared.value.Name.{Name}
use Rattle.np_syntax.specs.declared.process.ProcForm.{ProcForm-F}
use Rattle.np_tables.specs.Names.{NameSet, same_name}
use Rattle.np_calculus.specs.declared.config.Atom.{Atom}
use Rattle.np_calculus.specs.declared.config.Packet.{Packet}
use Rattle.np_calculus.specs.Config.{Config}
use Rattle.np_calculus.specs.Starts.{daemon_agent}
use Rattle.np_eval.specs.Forms.{layer}
use Rattle.np_lift.specs.Posts.{Letter}
use Rattle.np_lift.specs.CachedLift.{stands_for}
use Rattle.simulate_laws.specs.levels.Coupled.{View}
use Rattle.simulate_laws.specs.simulation.UnderWay.{letters_of}

-- a mark is spent: nothing is under it, but perhaps `0`
pub record IsSpent (c : Config) (m : Name) : Type 0 where
  pub no_packet : map.get c.packets m ≡ None
  pub ended : (a : Atom) → map.get c.atoms m ≡ Some a → layer a.proc ≡ ProcForm-F.Stop

-- of n sites: the daemon, the agent that the letter is for, or a messenger
abbrev pub IsHolder : ℕ → NameSet → Letter → Name → Type 0
IsHolder n messengers l a = (a ≡ daemon_agent n) ⊎ (a ≡ l.agent) ⊎ (set.contains messengers a ≡ true)

-- a packet is under the mark, for the daemon or for that agent; or an atom of one of these
pub data IsHeld (n : ℕ) (c : Config) (messengers : NameSet) (l : Letter) (m : Name) : Type 0 where
  by_packet : {k : Packet} → map.get c.packets m ≡ Some k → (k.agent ≡ daemon_agent n) ⊎ (k.agent ≡ l.agent) → IsHeld n c messengers l m
  by_atom : {a : Atom} → map.get c.atoms m ≡ Some a → IsHolder n messengers l a.agent → IsHeld n c messengers l m

-- The letter of the post of a mark of the high level stands under one mark that stands for it, whose things carry it, once; what else
-- stands for it is spent.
pub record StandsOnOne (n : ℕ) (c : Config) (v : View) (mark : Name) (l : Letter) : Type 0 where
  pub at : Name
  pub stands : stands_for v.standing at ≡ mark
  pub carries : letters_of (map.get v.things at) ≡ l ∷ []
  pub held : IsHeld n c v.standing.messengers l at
  pub alone : (m : Name) → stands_for v.standing m ≡ mark → same_name m at ≡ false → IsSpent c m
