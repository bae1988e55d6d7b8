-- A resolved program without a fault is typed at its start, and so along each of its runs.
use Rattle.std.proofs.Common.{◌≡◌, ◌<◌, ℕ, true, Ok, Err, [], ◌∷◌, length, nat_lt, refl, ◌∙◌, arith}
use Rattle.std.proofs.lemmas.Bool.Decides.{nat_tests}
use Rattle.std.specs.FinMap as map
use Rattle.np_safety.proofs.Common.{Name, Proc, World, Check, check, Config, Channels, world}
use Rattle.np_syntax.specs.declared.program.Program.{Program}
use Rattle.np_types.specs.Checks.{found}
use Rattle.np_types.specs.Worlds.{bare}
use Rattle.np_calculus.specs.Starts.{start_high, with_agent, names_alone, main_agent, main_mark}
use Rattle.np_calculus.specs.Changes.{put}
use Rattle.np_calculus.proofs.Housed.{high-housed, nothing, stays-lodged}
use Rattle.np_calculus.proofs.Writes.{each-written}
use Rattle.np_check.specs.Faults.{IsAccepted}
use Rattle.np_check.specs.Laws.{HasSites}
use Rattle.np_check.proofs.Resolved.{same_check}
use Rattle.np_safety.specs.Laws.{RunsWellTyped, StartsTyped, WellTyped}
use Rattle.np_safety.proofs.Fitting.{Fitting}
use Rattle.np_safety.proofs.Atoms.{nothing-agrees}
use Rattle.np_safety.proofs.Literal.{fitting-typed}
use Rattle.np_safety.proofs.Runs.{stays-typed}
use Rattle.np_safety.proofs.SoundAgents.{own-agents}

none_found : (o : Check (Unit {0})) → found o ≡ [] → o ≡ Ok tt
none_found (Ok u) h = refl
none_found (Err f) h = absurd cc

pub below-is : (s n : ℕ) → s < n → nat_lt s n ≡ true
below-is s n h = grind (arith, nat_tests)

has-sites : (n : ℕ) (g : Channels) → HasSites n (world n g)
has-sites n g s within = below-is s n within

-- a program that is accepted has no fault in the world of its sites, whatever the channels
pub accepted : (p : Program) (g : Channels) → IsAccepted p → check (world (length p.sites) g) p.main map.empty ≡ Ok tt
accepted p g a =
    let n : ℕ = length p.sites in
    (λ i. same_check n (world n g) (has-sites n g) a.sound.main i map.empty) ∙ none_found (check bare p.main map.empty) a.faultless

-- the first atom of one more agent fits where its process has no fault
pub fits-more : (w : World) (c : Config) (agent : Name) (site : ℕ) (mark : Name) (p : Proc) → Fitting w c → check w p map.empty ≡ Ok tt → Fitting w (with_agent c agent site mark p)
fits-more w c agent site mark p i h = record {
  atoms = each-written _ (put mark _ ∷ []) c.atoms (record { types = map.empty; agrees = nothing-agrees w; good = h }, tt) i.atoms;
  packets = i.packets;
}

-- main alone
pub fits-main : (w : World) (n at : ℕ) (p : Proc) → check w p map.empty ≡ Ok tt → Fitting w (with_agent (names_alone n) (main_agent n) at (main_mark n) p)
fits-main w n at p h = fits-more w (names_alone n) _ at _ p (record { atoms = λ m b is. absurd (nothing m b is); packets = λ m q is. absurd (nothing m q is) }) h

start-fitting : (p : Program) (g : Channels) → IsAccepted p → Fitting (world (length p.sites) g) (start_high p)
unfolding start_high
start-fitting p g a = fits-main (world (length p.sites) g) (length p.sites) p.at p.main (accepted p g a)

pub starts-typed : StartsTyped
starts-typed p a = fitting-typed _ (start_high p) (start-fitting p map.empty a)

pub well-typed : WellTyped
unfolding start_high
well-typed p a = stays-typed (start_high p) map.empty (starts-typed p a) (λ n k h. absurd (nothing n k h))

pub runs-well : RunsWellTyped
unfolding start_high
runs-well p a = record {
  sites = a.sound.sites;
  site = a.sound.at;
  lodged = stays-lodged (start_high p) (high-housed p (own-agents p a.sound));
  well = λ events d h. (well-typed p a events d h).1;
}
