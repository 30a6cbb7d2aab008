use Rattle.std.proofs.Common.{◌∙◌, sym}
use Rattle.dx_story.proofs.Linked.{links_from, links_pass}
use Rattle.dx_story.proofs.links.are_links.Goals as goal

pub returns-then-links_ascend : goal.returns-then-links_ascend
returns-then-links_ascend c =
    let is = c.args.graph.now.instances in
    let less = c.args.less.now in (
      λ each. links_from is less (sym c.links_ascend.ensures ∙ c.if-links_ascend.true)
          (sym (rw c.instances.ensures.instances at c.each_is_link.ensures) ∙ each),
      λ h. rw c.instances.ensures.instances at c.each_is_link.ensures ∙ links_pass is less h,
    )
