use Rattle.dx_story.proofs.Linked.{no_links}
use Rattle.dx_story.proofs.check.check_story.Goals as goal

pub check_story_less-requires : goal.check_story_less-requires
check_story_less-requires c = no_links c.args.graph.now.instances
