use Rattle.std.proofs.Common.{[], refl, sym, inl, inr}
use Rattle.std.proofs.lemmas.List.{append-nil}
use Rattle.std.proofs.lemmas.Result.{on_ok_weaker}
use Rattle.dx_explain.specs.Explaining.{set_of}
use Rattle.fm_explain.specs.Explained.{node_lines}
use Rattle.fm_explain.proofs.explained.put_story.Goals as goal

pub returns-then-not-explain_in : goal.returns-then-not-explain_in
returns-then-not-explain_in c =
    let none = rw (c.deref.ensures.value, c.deref-2.ensures.value) at
    c.if-not-explain_in.ensures.impossible in
    ([], inr (refl, none), sym (append-nil c.args.out.now.items))

pub returns : goal.returns
returns c =
    let story = c.in_ok-story.story.items in
    let found = rw (c.deref.ensures.value, c.deref-2.ensures.value) at
    c.if-not-explain_in.ensures.possible in
    let members = rw c.node_count.ensures.count at c.in_ok-story.ensures in
    on_ok_weaker c.put_node_lines.result (λ put. (
      node_lines c.args.ground.now.graph.now.nodes story,
      inl (set_of c.explain_in.new.room, story, found.is, members, refl),
      rw (c.nodes.ensures.nodes, c.deref-3.ensures.value) at put,
    )) c.put_node_lines.ensures
