-- Which sites can act, and rest (docs/LANGUAGE.md, "Reductions").
use Rattle.std.specs.Prelude.{◌≡◌, ℕ, Bool, true, false, ◌⊎◌, Some}
use Rattle.std.specs.FinMap as map
use Rattle.np_syntax.specs.declared.value.Name.{Name}
use Rattle.np_syntax.specs.declared.expression.Expr.{Expr}
use Rattle.np_syntax.specs.declared.pattern.Pat.{Pat}
use Rattle.np_syntax.specs.declared.process.ProcForm.{ProcForm-F}
use Rattle.np_calculus.specs.declared.config.Atom.{Atom}
use Rattle.np_calculus.specs.declared.config.Packet.{Packet}
use Rattle.np_calculus.specs.declared.config.Place.TheVariants as place
use Rattle.np_calculus.specs.Config.{Config}
use Rattle.np_eval.specs.Eval.{chan_of}
use Rattle.np_eval.specs.Forms.{Layer, layer, given_on, taken_on}

-- an output, an input and a replicated input wait; every other form acts alone
abbrev pub waits : Layer → Bool
waits (ProcForm-F.Out c e) = true
waits (ProcForm-F.Inp c x body) = true
waits (ProcForm-F.Rep c x body) = true
waits _ = false

-- an atom of the agent that acts alone
pub record HasWork (c : Config) (agent : Name) : Type 0 where
  pub mark : Name
  pub atom : Atom
  pub there : map.get c.atoms mark ≡ Some atom
  pub of : atom.agent ≡ agent
  pub acts : waits (layer atom.proc) ≡ false

-- an output and an input of the agent, plain or replicated, on one channel
pub record HasMeeting (c : Config) (agent : Name) : Type 0 where
  pub output : Name
  pub giver : Atom
  pub gives : map.get c.atoms output ≡ Some giver
  pub giver_of : giver.agent ≡ agent
  pub input : Name
  pub taker : Atom
  pub takes : map.get c.atoms input ≡ Some taker
  pub taker_of : taker.agent ≡ agent
  pub from : Expr
  pub output_form : given_on (layer giver.proc) ≡ Some from
  pub to : Expr × Pat
  pub input_form : taken_on (layer taker.proc) ≡ Some to
  pub chan : Name
  pub given : chan_of from giver.env ≡ Some chan
  pub taken : chan_of to.0 taker.env ≡ Some chan

-- a packet to the site
pub record HasPacket (c : Config) (site : ℕ) : Type 0 where
  pub mark : Name
  pub packet : Packet
  pub flies : map.get c.packets mark ≡ Some packet
  pub to : packet.to ≡ site

-- an agent under way to the site
pub record HasArrival (c : Config) (site : ℕ) : Type 0 where
  pub agent : Name
  pub comes : map.get c.places agent ≡ Some (place.Way site)

-- an agent at the site that can act
pub record HasAgent (c : Config) (site : ℕ) : Type 0 where
  pub agent : Name
  pub stands : map.get c.places agent ≡ Some (place.At site)
  pub works : HasWork c agent ⊎ HasMeeting c agent

-- the site can act
abbrev pub Can : Config → ℕ → Type 0
Can c site = HasPacket c site ⊎ (HasArrival c site ⊎ HasAgent c site)

-- no site can act
abbrev pub Idle : Config → Type 0
Idle c = (site : ℕ) → ¬ Can c site
