-- Where the letter of a post is that was not handed over yet, told of the configuration of the low level alone, whichever the
-- infrastructure (docs/TRANSLATION.md, "Translation and daemon").
use Rattle.std.specs.Prelude.{◌≡◌, ◌⊎◌, ℕ, true, false, None, Some, List}
use Rattle.std.specs.List.{Contains}
use Rattle.std.specs.FinMap as map
use Rattle.std.specs.FinSet as set
use Rattle.np_syntax.specs.declared.value.Name.{Name}
use Rattle.np_syntax.specs.declared.value.Value.{Value}
use Rattle.np_syntax.specs.declared.value.Value as value
use Rattle.np_syntax.specs.declared.expression.Expr.{Expr}
use Rattle.np_syntax.specs.declared.process.Proc.{Proc}
use Rattle.np_syntax.specs.declared.process.ProcForm.{ProcForm-F}
use Rattle.np_syntax.specs.declared.event.Event.{Event}
use Rattle.np_tables.specs.Names.{NameSet, same_name}
use Rattle.np_calculus.specs.declared.config.Atom.{Atom}
use Rattle.np_calculus.specs.declared.config.Packet.{Packet}
use Rattle.np_calculus.specs.Config.{Config}
use Rattle.np_calculus.specs.Reductions.{goes, run, sends}
use Rattle.np_calculus.specs.Starts.{daemon_agent}
use Rattle.np_eval.specs.Eval.{eval, letter_of}
use Rattle.np_eval.specs.Forms.{layer}
use Rattle.np_lift.specs.Posts.{Letter, deeds, deeds_to, letter_sent}
use Rattle.np_lift.specs.CachedLift.{Standing, at_first, stands_for, standing_after}
use Rattle.np_lift.specs.CachedPosts.{deeds_from, letter_carried, letter_tried}
use Rattle.simulate_laws.specs.simulation.OnePlace.{IsSpent}
use Rattle.simulate_laws.specs.simulation.UnderWay.{left_by}

-- ---- a letter in a value, in an atom

-- a value is the letter, or a tuple of which it is one
pub data HasLetter (l : Letter) (v : Value) : Type 0 where
  itself : v ≡ value.Letter l.chan l.value → HasLetter l v
  in_tuple : (parts : List Value) → v ≡ value.Tuple parts → Contains parts (value.Letter l.chan l.value) → HasLetter l v

-- an atom has the letter: under a binder of its environment, or its process is about to open it, outputs a value that has it, or is
-- about to send one
pub data KeepsLetter (l : Letter) (a : Atom) : Type 0 where
  binds : (x : ℕ) → map.get a.env x ≡ Some (value.Letter l.chan l.value) → KeepsLetter l a
  opens : {e : Expr} → layer a.proc ≡ ProcForm-F.Open e → letter_of e a.env ≡ Some (l.chan, l.value) → KeepsLetter l a
  outputs : {chan : Name} {v : Value} → sends a ≡ Some (chan, v) → HasLetter l v → KeepsLetter l a
  mails : {agent to chan e : Expr} {v : Value} → layer a.proc ≡ ProcForm-F.Send agent to chan e → eval e a.env ≡ Some v → HasLetter l v
      → KeepsLetter l a

-- The agent, the channel and the value of the letter are those of the text of an atom, under its environment: it migrates and tests
-- then whether the agent is there, it tests so, or it sends the letter to the daemon.
pub data CarriesLetter (l : Letter) (a : Atom) : Type 0 where
  travels : letter_carried (layer a.proc) a.env ≡ Some l → CarriesLetter l a
  tries : letter_tried (layer a.proc) a.env ≡ Some l → CarriesLetter l a
  hands_back : letter_sent (layer a.proc) a.env ≡ Some l → CarriesLetter l a

-- of n sites: an atom of the daemon, of the agent that the letter is for, or of a messenger holds it
pub data HoldsLetter (n : ℕ) (messengers : NameSet) (l : Letter) (a : Atom) : Type 0 where
  by_daemon : a.agent ≡ daemon_agent n → KeepsLetter l a → HoldsLetter n messengers l a
  by_receiver : a.agent ≡ l.agent → KeepsLetter l a → HoldsLetter n messengers l a
  by_messenger : set.contains messengers a.agent ≡ true → CarriesLetter l a → HoldsLetter n messengers l a

-- so it is of an atom, or of the left part of its bracket
pub data OfLeft (holds : Atom → Type 0) : Atom → Type 0 where
  here : {a : Atom} → holds a → OfLeft holds a
  left : {a : Atom} {p q : Proc} → layer a.proc ≡ ProcForm-F.Par p q → OfLeft holds (goes a p) → OfLeft holds a

-- ---- one place

-- One thing is under the mark, and has the letter: a packet for the daemon or for the letter's agent, or an atom of one of these or of
-- a messenger.
pub data IsPlace (c : Config) (messengers : NameSet) (l : Letter) (m : Name) : Type 0 where
  packet : {k : Packet} → map.get c.packets m ≡ Some k → map.get c.atoms m ≡ None → (k.agent ≡ daemon_agent c.sites) ⊎ (k.agent ≡ l.agent)
      → HasLetter l k.value
      → IsPlace c messengers l m
  atom : {a : Atom} → map.get c.atoms m ≡ Some a → map.get c.packets m ≡ None → OfLeft (HoldsLetter c.sites messengers l) a
      → IsPlace c messengers l m

-- Where marks stand for others: one of those that stand for a mark is the place of the letter, and each other one is spent.
pub record HasOnePlace (c : Config) (standing : Standing) (mark : Name) (l : Letter) : Type 0 where
  pub at : Name
  pub stands : stands_for standing at ≡ mark
  pub holds : IsPlace c standing.messengers l at
  pub alone : (m : Name) → stands_for standing m ≡ mark → same_name m at ≡ false → IsSpent c m

-- ---- the posts of a run

-- where a run leads to, the letter of each post that was not handed over is in its one place: under the mark of its post, and there is
-- no messenger
abbrev pub ArePlaced : Config → List Event → Type 0
ArePlaced start events = (c : Config) → run start events ≡ Some c → (mark : Name) (l : Letter)
    → left_by None (deeds_to mark (deeds start events)) ≡ Some l
    → IsPlace c set.empty l mark

-- with caches: under one of the marks that stand for it
abbrev pub ArePlacedCached : Config → List Event → Type 0
ArePlacedCached start events = (c : Config) → run start events ≡ Some c → (mark : Name) (l : Letter)
    → left_by None (deeds_to mark (deeds_from at_first start events)) ≡ Some l → HasOnePlace c (standing_after at_first events) mark l
