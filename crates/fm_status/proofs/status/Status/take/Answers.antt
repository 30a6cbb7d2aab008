use Rattle.std.proofs.Common.{◌≡◌, arith}
use Rattle.std.proofs.lemmas.Grind.{common_steps}
use Rattle.fm_status.specs.Rows.{put_rows}
use Rattle.fm_status.proofs.RowLaws.{rows_of_more}
use Rattle.fm_status.proofs.status.Status.take.Goals as goal

pub returns-clause-last : goal.returns-clause-last
returns-clause-last c =
    let all : c.words.self ≡ put_rows c.args.self.now c.args.spoken.events
    = grind (arith, common_steps) in
    rows_of_more c.args.spoken.events c.args.self.now c.words.self all
