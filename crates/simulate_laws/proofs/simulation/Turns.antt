-- Posts and openings that take turns, from one letter under way to the next.
use Rattle.std.proofs.Common.{◌≡◌, Option, None, Some, List, [], ◌∷◌, refl}
use Rattle.np_calculus.specs.declared.config.Atom.{Atom}
use Rattle.np_lift.specs.Posts.{AllHanded, Alternate, Deed, Hands, Letter}
use Rattle.simulate_laws.specs.simulation.UnderWay.{left_by}

-- deeds to a mark from where one letter is under way, or none, to where another is: a post where none is, and the opening of the one that is
pub data Turns : Option Letter → List Deed → Option Letter → Type 0 where
  stays : {o : Option Letter} → Turns o [] o
  posts : {l : Letter} {ds : List Deed} {o : Option Letter} → Turns (Some l) ds o → Turns None (Deed.posts (Some l) ∷ ds) o
  opens : {l : Letter} {a : Option Atom} {ds : List Deed} {o : Option Letter} → Hands (Some l) a → Turns None ds o → Turns (Some l) (Deed.opens a ∷ ds) o

pub turns-left : (o : Option Letter) (ds : List Deed) (p : Option Letter) → Turns o ds p → left_by o ds ≡ p
turns-left o ds p Turns.stays = refl
turns-left o ds p (Turns.posts t) = turns-left _ _ p t
turns-left o ds p (Turns.opens h t) = turns-left _ _ p t

pub turns-alternate : (ds : List Deed) (p : Option Letter) → Turns None ds p → Alternate ds
turns-alternate ds p Turns.stays = Alternate.nothing
turns-alternate ds p (Turns.posts Turns.stays) = Alternate.under_way
turns-alternate ds p (Turns.posts (Turns.opens h t)) = Alternate.handed h (turns-alternate _ p t)

-- where no letter is under way afterwards, all posts were handed over
pub turns-handed : (ds : List Deed) → Turns None ds None → AllHanded ds
turns-handed ds Turns.stays = AllHanded.nothing
turns-handed ds (Turns.posts (Turns.opens h t)) = AllHanded.handed h (turns-handed _ t)
