-- The events of a run, with what the run tells of each (docs/PICTURES.md, "Pictures").
use Rattle.std.specs.Prelude.{◌≡◌, ℕ, List, [], ◌∷◌, map, Option, None, Some, option_map}
use Rattle.std.specs.Option.{unwrap_or}
use Rattle.std.specs.FinMap as table
use Rattle.np_syntax.specs.Options.{◌>>=◌}
use Rattle.np_syntax.specs.Printed.{value_text}
use Rattle.np_syntax.specs.declared.value.Name.{Name}
use Rattle.np_syntax.specs.declared.event.Event.{Event}
use Rattle.np_syntax.specs.declared.event.Kind.{Kind}
use Rattle.np_syntax.specs.declared.event.Kind.TheVariants as kind
use Rattle.np_calculus.specs.Config.{Config}
use Rattle.np_calculus.specs.Reductions.{apply, one_made, run}
use Rattle.np_calculus.specs.Seen.{is_at}
use Rattle.run_pictures.specs.declared.step.Step.{Step}
use Rattle.run_pictures.specs.declared.step.Followed.{Followed}
use Rattle.run_steps.specs.Messages.{coming, either, going}

-- the agent of the atom of a mark
abbrev pub actor_in : Config → Name → Option Name
actor_in c mark = option_map (λ a. a.agent) (table.get c.atoms mark)

-- the agent to which the packet of a mark goes
abbrev pub target_in : Config → Name → Option Name
target_in c mark = option_map (λ p. p.agent) (table.get c.packets mark)

-- who acts in an event of a kind, as far as what stands there tells
abbrev pub acts_in : Kind → Config → Name → Option Name
acts_in kind.Arrive c actor = None
acts_in kind.Land c actor = target_in c actor
acts_in k c actor = actor_in c actor

-- who acts in an event: the one that arrives is the actor itself
abbrev pub agent_in : Config → Event → Name
agent_in c e = unwrap_or (acts_in e.kind c e.actor) e.actor

-- To whom goes what an event of a kind sends, as it stands after the event: to the agent in which the output of a post stands, or that
-- of a location test, or to that of the packet.
abbrev pub goal_in : Kind → Config → Event → Option Name
goal_in kind.Post d e = actor_in d e.actor
goal_in kind.Local d e = one_made e.made >>= actor_in d
goal_in k d e = target_in d e.actor

-- an event with what is told of it, between two configurations
abbrev pub step_of : Config → Config → Event → Step
step_of c d e = record {
  event = e;
  agent = agent_in c e;
  here = is_at c (agent_in c e) e.site;
  target = goal_in e.kind d e;
  message = either (coming e.kind c e) (going e.kind d e);
}

abbrev pub each_of : {A B : Type 0} → Option A → (A → List B) → List B
each_of None f = []
each_of (Some a) f = f a

-- the steps of a run, in order
abbrev pub steps : Config → List Event → List Step
steps c [] = []
steps c (e ∷ es) = each_of (apply c e) (λ d. step_of c d e ∷ steps d es)

-- one event more of the run
pub record Takes (before after : Config) (e : Event) (step : Step) : Type 0 where
  pub applies : apply before e ≡ Some after
  pub is : step ≡ step_of before after e

-- Events that are a run from a configuration on, as they are followed: a step for each, in their order, with what the run tells of
-- it; and the texts of what was printed.
pub record IsFollowed (start : Config) (sites : List (List ℕ)) (events : List Event) (followed : Followed) : Type 0 where
  pub of : map (λ step. step.event) followed.steps ≡ events
  pub are : followed.steps ≡ steps start events
  pub last : Config
  pub runs : run start events ≡ Some last
  pub printed : followed.printed ≡ map (λ item. value_text sites item.1) last.said
