-- What the laws of lifted lists say, where the infrastructure has caches and messengers.
use Rattle.std.specs.Prelude.{◌≡◌, Bool, true, false, ◌||◌, None, Some, List, ◌++◌}
use Rattle.std.specs.List.{All}
use Rattle.std.specs.FinSet as set
use Rattle.np_syntax.specs.declared.value.Name.{Name}
use Rattle.np_syntax.specs.declared.process.Role.{Role}
use Rattle.np_syntax.specs.declared.process.Role.TheVariants as role
use Rattle.np_syntax.specs.declared.event.Event.{Event}
use Rattle.np_syntax.specs.declared.event.Kind.{Kind}
use Rattle.np_syntax.specs.declared.event.Kind.TheVariants as kind
use Rattle.np_syntax.specs.declared.event.Made.{Made}
use Rattle.np_syntax.specs.declared.event.Made.TheVariants as made
use Rattle.np_tables.specs.Names.{same_name}
use Rattle.np_lift.specs.Lift.{lift}
use Rattle.np_lift.specs.CachedLift.{Lifted, Standing, at_first, lift_cached, lift_from, lifted, posted, renamed, standing_after}
use Rattle.np_lift.specs.CachedLift.{stands_for, with_mark, with_messenger}

-- whether a new mark stands for another after an event: the creation of a messenger for a post, and its location test that finds the agent
abbrev pub adds_mark : Role → Kind → Made → Bool
adds_mark role.Post kind.Agent (made.Two messenger mark) = true
adds_mark role.Infra kind.Local (made.One mark) = true
adds_mark r k names = false

abbrev pub AddsNoMark : Event → Type 0
AddsNoMark e = adds_mark e.tag.role e.kind e.made ≡ false

-- an event becomes another or nothing, and what stands for what stays
abbrev pub becomes : Standing → Event → Lifted
becomes s e = record { event = Some e; standing = s }

abbrev pub nothing : Standing → Lifted
nothing s = record { event = None; standing = s }

-- what becomes of an event, case by case
pub record LiftedByTable : Type 0 where
  -- a messenger is created for a post
  pub messenger : (s : Standing) (e : Event) (t m : Name) → e.tag.role ≡ role.Post → e.kind ≡ kind.Agent → e.made ≡ made.Two t m
      → lifted s e ≡ becomes (with_messenger s t m e.actor) (posted s e)
  -- the messenger finds the agent, and the output that was posted is made
  pub found : (s : Standing) (e : Event) (m : Name) → e.tag.role ≡ role.Infra → e.kind ≡ kind.Local → e.made ≡ made.One m
      → lifted s e ≡ nothing (with_mark s m e.actor)
  -- a post is sent to the daemon
  pub sent : (s : Standing) (e : Event) → e.tag.role ≡ role.Post → e.kind ≡ kind.Send → lifted s e ≡ becomes s (posted s e)
  pub landing : (s : Standing) (e : Event) → e.tag.role ≡ role.Post → e.kind ≡ kind.Land → lifted s e ≡ nothing s
  pub infra : (s : Standing) (e : Event) → e.tag.role ≡ role.Infra → AddsNoMark e → lifted s e ≡ nothing s
  pub arrival : (s : Standing) (e : Event) → e.kind ≡ kind.Arrive → set.contains s.messengers e.actor ≡ true → lifted s e ≡ nothing s
  -- all others
  pub plain : (s : Standing) (e : Event) → e.tag.role ≡ role.Plain → (e.kind ≡ kind.Arrive → set.contains s.messengers e.actor ≡ false)
      → lifted s e ≡ becomes s (renamed s e)
  pub other : (s : Standing) (e : Event) → e.tag.role ≡ role.Post → AddsNoMark e → (e.kind ≡ kind.Send → ⊥) → (e.kind ≡ kind.Land → ⊥)
      → (e.kind ≡ kind.Arrive → set.contains s.messengers e.actor ≡ false) → lifted s e ≡ becomes s (renamed s e)

-- what a mark stands for: itself at first, what the other stands for where it was added, and else what it stood for before; and who is
-- a messenger
pub record StandingByTable : Type 0 where
  pub itself : (q : Name) → stands_for at_first q ≡ q
  pub added : (s : Standing) (mark other : Name) → stands_for (with_mark s mark other) mark ≡ stands_for s other
  pub others : (s : Standing) (mark other q : Name) → same_name q mark ≡ false → stands_for (with_mark s mark other) q ≡ stands_for s q
  pub created : (s : Standing) (t mark other q : Name)
      → stands_for (with_messenger s t mark other) q ≡ stands_for (with_mark s mark other) q
  pub no_messenger : (q : Name) → set.contains at_first.messengers q ≡ false
  pub messengers : (s : Standing) (t mark other q : Name)
      → set.contains (with_messenger s t mark other).messengers q ≡ (same_name q t || set.contains s.messengers q)

-- the lift of two lists is that of the first, and then that of the second from what stands for what after the first
abbrev pub LiftOfParts : Type 0
LiftOfParts = (s : Standing) (h k : List Event) → lift_from s (h ++ k) ≡ lift_from s h ++ lift_from (standing_after s h) k

abbrev pub StandingOfParts : Type 0
StandingOfParts = (s : Standing) (h k : List Event) → standing_after s (h ++ k) ≡ standing_after (standing_after s h) k

-- where no mark comes to stand for another, the list is that of the infrastructure without caches
abbrev pub LiftWithoutMessengers : Type 0
LiftWithoutMessengers = (h : List Event) → All AddsNoMark h → lift_cached h ≡ lift h
