use Rattle.dx_story.proofs.Unions.{union_story}
use Rattle.dx_story.proofs.laws.union_is_story.Goals as goal

pub returns : goal.returns
returns c = union_story
