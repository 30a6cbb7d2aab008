use Rattle.std.proofs.Common.{◌∙◌, inr}
use Rattle.fm_lent.proofs.Lending.{six_of_paired}
use Rattle.fm_store.specs.StoreLeft.{store_disk}
use Rattle.fm_top.proofs.Fmds.{hands_on}
use Rattle.fm_top.proofs.fmd.diagnose_lines.Goals as goal

pub conclude-requires-clause-at_cursors : goal.conclude-requires-clause-at_cursors
conclude-requires-clause-at_cursors g c =
    hands_on g.D.Disk c.args.store.now c.run.new.taker c.args.hands.items _
    c.in-Ok.ensures.all.took c.requires.at_cursors

pub returns-in-Ok-conclude-clause-does : goal.returns-in-Ok-conclude-clause-does
returns-in-Ok-conclude-clause-does g c = (
  c.is_as_read.ensures.0 c.if-not-is_as_read.false,
  record {
    between = c.run.new.taker;
    is_open = c.in-Ok.ensures.ready;
    ran = c.in-Ok.ensures.all;
    quiet = c.in-Ok-conclude.ensures.quiet;
    concluded = c.in-Ok-conclude.ensures.concluded;
    refused = tt;
    book = c.in-Ok-conclude.ensures.book;
  },
)

pub returns-in-Ok-conclude-clause-same_disks : goal.returns-in-Ok-conclude-clause-same_disks
returns-in-Ok-conclude-clause-same_disks g c name =
    c.conclude.ensures.same_disks name
    ∙ six_of_paired (λ n. g.D.Disk.name (store_disk n c.run.new.taker))
    (λ n. g.D.Disk.name (store_disk n c.args.store.now)) c.run.ensures.same_taker name

pub returns-in-Err-conclude-clause-does : goal.returns-in-Err-conclude-clause-does
returns-in-Err-conclude-clause-does g c =
    inr (
      c.is_as_read.ensures.0 c.if-not-is_as_read.false,
      inr (
        c.in-Err-conclude.fault,
        c.from.ensures,
        record {
          between = c.run.new.taker;
          is_open = c.in-Ok.ensures.ready;
          ran = c.in-Ok.ensures.all;
          quiet = tt;
          concluded = tt;
          refused = c.in-Err-conclude.ensures.refused;
          book = c.in-Err-conclude.ensures.book;
        },
      ),
    )

pub returns-in-Err-conclude-clause-same_disks : goal.returns-in-Err-conclude-clause-same_disks
returns-in-Err-conclude-clause-same_disks g c name =
    c.conclude.ensures.same_disks name
    ∙ six_of_paired (λ n. g.D.Disk.name (store_disk n c.run.new.taker))
    (λ n. g.D.Disk.name (store_disk n c.args.store.now)) c.run.ensures.same_taker name

pub returns-in-Err-clause-same_disks : goal.returns-in-Err-clause-same_disks
returns-in-Err-clause-same_disks g c =
    six_of_paired (λ n. g.D.Disk.name (store_disk n c.run.new.taker))
    (λ n. g.D.Disk.name (store_disk n c.args.store.now)) c.run.ensures.same_taker
