use Rattle.std.proofs.Common.{◌∙◌, arith}
use Rattle.ev_incidence.proofs.Occurrences.{transpose_more}
use Rattle.ev_incidence.proofs.incidence.note_all.Goals as goal

pub loop-place-preserved : goal.loop-place-preserved
loop-place-preserved c =
    let noted = rw c.row.ensures.row at c.in_ok-note.ensures in
    record {
      same_length = noted.same_length ∙ c.loop-place.invariant.same_length;
      transpose = transpose_more c.args.rows.now c.loop-place.lists c.note.new.lists
          c.loop-place.place
          (omega (arith, c.len-count.ensures.count)) c.loop-place.invariant.transpose noted;
    }
