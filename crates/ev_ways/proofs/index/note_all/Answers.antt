use Rattle.std.proofs.Common.{◌≡◌, arith, refl, ◌∙◌}
use Rattle.ev_ways.specs.Lists.{row}
use Rattle.ev_ways.proofs.Membership.{index_more, index_none, read_row}
use Rattle.ev_ways.proofs.index.note_all.Goals as goal

pub loop-row-init : goal.loop-row-init
loop-row-init c = record {
  same_length = refl;
  counted = refl;
  index =
      index_none c.args.rows.now c.args.uses.now c.requires.empty;
}

row_read : (c : goal.After-note-arg-1)
    → c.as_slice.result.now ≡ row c.args.rows.now c.loop-row.row-index
row_read c = c.as_slice.ensures
    ∙ read_row c.args.rows.now c.loop-row.row-index c.row-item.result c.loop-row-test.true
    c.row-item.is

pub note-requires : goal.note-requires
note-requires c =
    let e = row_read c in
    rw e (record {
      inside =
          λ k lt. rw c.loop-row.invariant.same_length (c.requires.inside c.loop-row.row-index k lt);
    })

pub loop-row-preserved : goal.loop-row-preserved
loop-row-preserved c =
    let e : c.as_slice.result.now ≡ row c.args.rows.now c.loop-row.row-index =
    c.as_slice.ensures ∙ read_row c.args.rows.now c.loop-row.row-index c.row-item.result
    c.loop-row-test.true c.row-item.is in
    record {
      same_length = c.in_ok-note.ensures.notes.same_length ∙ c.loop-row.invariant.same_length;
      counted = omega arith;
      index = index_more c.args.rows.now c.loop-row.uses c.note.new.uses c.loop-row.row-index
          c.loop-row.invariant.index
          (rw (← e) (rw (← c.loop-row.invariant.counted) c.in_ok-note.ensures.notes));
    }
