-- What the arrow of a post joins (docs/PICTURES.md, "Pictures").
use Rattle.std.specs.Prelude.{◌≡◌, List, Some, slice_get}
use Rattle.np_syntax.specs.declared.event.Kind.TheVariants as kinds
use Rattle.run_pictures.specs.declared.step.Step.{Step}
use Rattle.run_pictures.specs.declared.layout.Column.{Column}
use Rattle.run_pictures.specs.declared.layout.Post.{Post}

-- the arrow goes from a Post to a column of the agent to which that goes
pub record IsPost (columns : List Column) (steps : List Step) (post : Post) : Type 0 where
  pub step : Step
  pub is : slice_get steps post.event ≡ Some step
  pub posts : step.event.kind ≡ kinds.Post
  pub stands : Column
  pub at : slice_get columns post.column ≡ Some stands
  pub to : step.target ≡ Some stands.agent
