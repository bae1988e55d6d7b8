-- What is typed stays typed along each run, and so is well along it.
use Rattle.std.proofs.Common.{◌≡◌, Some, List, ◌++◌, refl, subst}
use Rattle.np_safety.proofs.Common.{Event, World, Config, Channels, world}
use Rattle.np_calculus.specs.Reductions.{run}
use Rattle.np_safety.specs.Channels.{channels_after}
use Rattle.np_safety.specs.Typed.{AreBorn}
use Rattle.np_safety.specs.Laws.{KeepsTyped, TypedIsWell, StaysTyped}
use Rattle.np_safety.proofs.Fitting.{Fitting}
use Rattle.np_safety.proofs.Kept.{kept-at}
use Rattle.np_safety.proofs.Histories.{kept-run, sites-run, prefix, stays}
use Rattle.np_safety.proofs.Wells.{fitting-well}
use Rattle.np_safety.proofs.Narrowing.{Wider}
use Rattle.np_safety.proofs.Widening.{fitting-wider}
use Rattle.np_safety.proofs.Literal.{fitting-typed, typed-fitting}

pub keeps-typed : KeepsTyped
keeps-typed w c d e t h made = fitting-typed w d (kept-at w c e d (typed-fitting w c t) e.kind h made)

pub typed-is-well : TypedIsWell
typed-is-well c g t = fitting-well c.sites g c refl (typed-fitting (world c.sites g) c t)

module _ (c : Config) (g : Channels) (i : Fitting (world c.sites g) c) (born : AreBorn c g) where
  abbrev world_after : List Event → World
  world_after es = world c.sites (channels_after es g c)

  -- the channels from before keep their types
  grown : (es : List Event) → Wider (world c.sites g) (world_after es)
  grown es = record { site = λ s h. h; chan = λ q k h. stays es g c q k h (born q k h) }

  fitting-after : (es : List Event) (d : Config) → run c es ≡ Some d → Fitting (world_after es) d
  fitting-after es d r = kept-run es (world_after es) g c d (λ q k is. is) r (fitting-wider (world c.sites g) (world_after es) (grown es) c i)

pub stays-typed : StaysTyped
stays-typed c g t born events d r =
    let after = fitting-after c g (typed-fitting (world c.sites g) c t) born in (
      record { each = λ first rest is. let m = part first rest is in (m.0, m.1, fitting-typed _ m.0 (after first m.0 m.1)) },
      record { each = λ first rest is. let m = part first rest is in (m.0, m.1, fitting-well c.sites _ m.0 (sites-run first c m.0 m.1) (after first m.0 m.1)) },
    )
  where
    part : (first rest : List Event) → events ≡ first ++ rest → (m : Config) × (run c first ≡ Some m)
    part first rest is = prefix first rest c d (subst (λ es. run c es ≡ Some d) is r)
