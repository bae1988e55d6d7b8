-- What is under way as an item brings something.
use Rattle.std.proofs.Common.{◌≡◌, ℕ, Bool, true, false, cond, inl, inr, None, Some, refl, ap, ◌∙◌}
use Rattle.np_calculus.proofs.Common.{Name, same_name, same_name-itself}
use Rattle.np_calculus.specs.declared.config.Place.TheVariants as place
use Rattle.np_calculus.proofs.Fits.{some}
use Rattle.np_site_runs.specs.Loads.{AgentIsBrought, PacketIsBrought}

module _ (agent : Name) (to : ℕ) where
  -- the agent is under way, and stands nowhere
  comes : (q : Name) → q ≡ agent → cond (same_name q agent) (Some (place.Way to)) None ≡ Some (place.Way to)
  comes q is = ap (λ q. cond (same_name q agent) (Some (place.Way to)) None) is ∙ ap (λ t. cond t (Some (place.Way to)) None) (same_name-itself agent)

  stands-nowhere : (t : Bool) (u : ℕ) → cond t (Some (place.Way to)) None ≡ Some (place.At u) → ⊥
  stands-nowhere true u h = cc
  stands-nowhere false u h = cc

pub agent_is_brought : AgentIsBrought
agent_is_brought agent atoms to = (
  inr (record { agent = agent; comes = comes agent to agent refl }),
  λ own. record {
    lodged = record { each = λ m a g. some _ (place.Way to) (comes agent to a.agent (own m a g)) };
    away = λ u. record { none = λ q h. stands-nowhere agent to (same_name q agent) u h };
  },
)

pub packet_is_brought : PacketIsBrought
packet_is_brought mark packet = (
  inl (record { mark = mark; packet = packet; flies = ap (λ t. cond t (Some packet) None) (same_name-itself mark); to = refl }),
  record { lodged = record { each = λ m a g. absurd cc }; away = λ u. record { none = λ q h. cc } },
)
