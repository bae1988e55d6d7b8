-- What the laws of lifted lists and of posts say.
use Rattle.std.specs.Prelude.{◌≡◌, Bool, true, false, None, Some, List, ◌++◌}
use Rattle.std.specs.List.{All, count_by}
use Rattle.np_syntax.specs.declared.process.Role.{Role}
use Rattle.np_syntax.specs.declared.process.Role.TheVariants as role
use Rattle.np_syntax.specs.declared.event.Event.{Event}
use Rattle.np_syntax.specs.declared.event.Kind.{Kind}
use Rattle.np_syntax.specs.declared.event.Kind.TheVariants as kind
use Rattle.np_calculus.specs.Config.{Config}
use Rattle.np_calculus.specs.Reductions.{run}
use Rattle.np_lift.specs.Lift.{lift, lifted, posted}
use Rattle.np_lift.specs.Posts.{deeds, IsAllHanded, IsPaired}

-- the table: of role Infra, the Send and the Land of a post, and all others
pub record LiftedByTable : Type 0 where
  pub infra : (e : Event) → e.tag.role ≡ role.Infra → lifted e ≡ None
  pub post : (e : Event) → e.tag.role ≡ role.Post → e.kind ≡ kind.Send → lifted e ≡ Some (posted e)
  pub landing : (e : Event) → e.tag.role ≡ role.Post → e.kind ≡ kind.Land → lifted e ≡ None
  pub plain : (e : Event) → e.tag.role ≡ role.Plain → lifted e ≡ Some e
  pub other : (e : Event) → e.tag.role ≡ role.Post → (e.kind ≡ kind.Send → ⊥) → (e.kind ≡ kind.Land → ⊥) → lifted e ≡ Some e

abbrev pub LiftOfParts : Type 0
LiftOfParts = (h k : List Event) → lift (h ++ k) ≡ lift h ++ lift k

abbrev pub DeedsOfParts : Type 0
DeedsOfParts = (c d : Config) (h k : List Event) → run c h ≡ Some d → deeds c (h ++ k) ≡ deeds c h ++ deeds d k

abbrev pub HandedIsPaired : Type 0
HandedIsPaired = (c : Config) (h : List Event) → IsAllHanded c h → IsPaired c h

abbrev pub PrefixIsPaired : Type 0
PrefixIsPaired = (c : Config) (h k : List Event) → IsPaired c (h ++ k) → IsPaired c h

-- a post at the low level, and one at the high level
abbrev pub is_sent : Kind → Role → Bool
is_sent kind.Send role.Post = true
is_sent _ _ = false

abbrev pub is_post : Kind → Bool
is_post kind.Post = true
is_post _ = false

abbrev pub PostsAreLifted : Type 0
PostsAreLifted = (h : List Event) → All (λ e. is_post e.kind ≡ false) h
    → count_by (λ e. is_post e.kind) (lift h) ≡ count_by (λ e. is_sent e.kind e.tag.role) h
