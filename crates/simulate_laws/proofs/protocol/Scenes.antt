-- Scenes that answer alike are one, and the order of what stands about does not matter.
use Rattle.std.proofs.Common.{◌≡◌, List, subst}
use mathlib.Core.Path.{fun_ext}
use Rattle.np_syntax.specs.declared.value.Name.{Name}
use Rattle.simulate_laws.specs.protocol.Chips.{Chip}
use Rattle.simulate_laws.specs.protocol.Phases.{Phase}
use Rattle.simulate_laws.specs.protocol.Protocol.{Protocol}
use Rattle.simulate_laws.specs.protocol.Scenes.{Scene}

pub same_scene : (w v : Scene) (phase : Name → Phase) (chips : List Chip) → ((q : Name) → w.place q ≡ v.place q) → ((q : Name) → w.lock q ≡ v.lock q) → Protocol w phase chips → Protocol v phase chips
same_scene w v phase chips place lock p = subst (λ (u : Scene). Protocol u phase chips) (λ i. record { place = fun_ext place i; lock = fun_ext lock i }) p
