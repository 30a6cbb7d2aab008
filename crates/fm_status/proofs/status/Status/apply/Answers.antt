use Rattle.std.proofs.Common.{◌≤◌, length, ap, ◌∙◌, arith}
use Rattle.std.proofs.lemmas.List.{take_all}
use Rattle.fm_status.specs.Rows.{put_rows}
use Rattle.fm_status.proofs.RowLaws.{rows_of_more}
use Rattle.fm_status.proofs.status.Status.apply.Goals as goal

pub returns-clause-last : goal.returns-clause-last
returns-clause-last c =
    let items = c.as_slice-word-items.result.now in
    let past : length items ≤ c.words.word-index = omega (arith, c.words-test.false) in
    rows_of_more c.args.spoken.now.events c.args.self.now c.words.self
    (c.words.invariant ∙ ap (put_rows c.args.self.now)
    (take_all c.words.word-index items past ∙ c.as_slice-word-items.ensures))
