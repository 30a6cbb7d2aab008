use Rattle.std.proofs.Common.{◌++◌, sym, ◌∙◌, ap, append-nil, string_bytes}
use Rattle.fm_answers.proofs.CountLines.{lines_none, text_more}
use Rattle.fm_answers.proofs.counts.push_counts.Goals as goal

pub loop-counted-init : goal.loop-counted-init
loop-counted-init c =
    sym (ap (λ l. string_bytes c.args.text.now ++ l) lines_none
    ∙ append-nil (string_bytes c.args.text.now))

pub loop-counted-preserved : goal.loop-counted-preserved
loop-counted-preserved c =
    text_more _ (string_bytes c.loop-counted.text) _ c.args.counts.now c.loop-counted.counted-index
    c.counted-item.result c.loop-counted-test.true c.counted-item.is
    c.loop-counted.invariant c.in_ok-push_count.ensures
