use Rattle.std.proofs.Common.{◌≡◌, ◌∷◌, ◌+◌, codes, take, map, length, arith}
use Rattle.ev_tree.specs.Pattern.{view_pattern}
use Rattle.ev_tree.specs.Printing.{behind, pattern_tokens}
use Rattle.ev_tree.proofs.Texts.{text_step, behind_more_seen, between_done}
use Rattle.ev_tree.proofs.print.print_side.Goals as goal

pub loop-other-preserved : goal.loop-other-preserved
loop-other-preserved c =
    text_step c.print_pattern.new.out.items c.loop-other.out.items c.put.new.out.items
    c.print_pattern-in-loop-other.new.out.items (codes ",")
    (behind (codes ",") pattern_tokens
    (map view_pattern (take c.loop-other.other-index c.in-Some.others.now)))
    (behind (codes ",") pattern_tokens
    (map view_pattern (take (c.loop-other.other-index + 1) c.in-Some.others.now)))
    (pattern_tokens (view_pattern c.other-item.result))
    (behind_more_seen (codes ",") pattern_tokens view_pattern c.in-Some.others.now
    c.loop-other.other-index c.other-item.result c.loop-other-test.true c.other-item.is)
    c.loop-other.invariant c.in_ok-put.ensures c.in_ok-print_pattern-2.ensures

pub returns : goal.returns
returns c =
    let whole : c.loop-other.other-index ≡ length c.in-Some.others.now = omega arith in
    let parts : c.args.patterns.now ≡ c.in-Some.first.now ∷ c.in-Some.others.now =
    c.in-Some.ensures.cases.0 in
    between_done (codes ",") pattern_tokens view_pattern c.args.out.now.items
    c.print_pattern.new.out.items c.loop-other.out.items c.in-Some.first.now
    c.in-Some.others.now c.args.patterns.now
    c.loop-other.other-index parts whole c.in_ok-print_pattern.ensures c.loop-other.invariant
