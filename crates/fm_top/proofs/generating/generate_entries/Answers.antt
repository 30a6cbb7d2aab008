use Rattle.std.proofs.Common.{◌∙◌, inr, refl}
use Rattle.fm_lent.proofs.Lending.{six_of_paired}
use Rattle.fm_store.specs.StoreLeft.{store_disk}
use Rattle.fm_top.proofs.Fmds.{hands_on}
use Rattle.fm_top.proofs.generating.generate_entries.Goals as goal

pub conclude-requires-clause-at_cursors : goal.conclude-requires-clause-at_cursors
conclude-requires-clause-at_cursors g c =
    hands_on g.D.Disk c.args.store.now c.take_all.new.taker c.args.hands.items _
    c.in-Ok.ensures.all c.requires.at_cursors

pub returns-in-Ok-conclude-clause-does : goal.returns-in-Ok-conclude-clause-does
returns-in-Ok-conclude-clause-does g c = λ input out. (
  refl,
  refl,
  record {
    between = c.take_all.new.taker;
    is_open = c.in-Ok.ensures.ready;
    entries = c.in_ok-entries.entries;
    are = c.in_ok-entries.ensures.generates;
    took = c.in-Ok.ensures.all;
    quiet = c.in-Ok-conclude.ensures.quiet;
    concluded = c.in-Ok-conclude.ensures.concluded;
    refused = tt;
    book = c.in-Ok-conclude.ensures.book;
  },
)

pub returns-in-Err-conclude-clause-does : goal.returns-in-Err-conclude-clause-does
returns-in-Err-conclude-clause-does g c = λ input out. (
  refl,
  refl,
  inr (inr (
    c.in-Err-conclude.fault,
    c.from.ensures,
    record {
      between = c.take_all.new.taker;
      is_open = c.in-Ok.ensures.ready;
      entries = c.in_ok-entries.entries;
      are = c.in_ok-entries.ensures.generates;
      took = c.in-Ok.ensures.all;
      quiet = tt;
      concluded = tt;
      refused = c.in-Err-conclude.ensures.refused;
      book = c.in-Err-conclude.ensures.book;
    },
  )),
)

pub returns-in-Ok-conclude-clause-same_disks : goal.returns-in-Ok-conclude-clause-same_disks
returns-in-Ok-conclude-clause-same_disks g c name =
    c.conclude.ensures.same_disks name
    ∙ six_of_paired (λ n. g.D.Disk.name (store_disk n c.take_all.new.taker))
    (λ n. g.D.Disk.name (store_disk n c.args.store.now)) c.take_all.ensures.same_taker name

pub returns-in-Err-conclude-clause-same_disks : goal.returns-in-Err-conclude-clause-same_disks
returns-in-Err-conclude-clause-same_disks g c name =
    c.conclude.ensures.same_disks name
    ∙ six_of_paired (λ n. g.D.Disk.name (store_disk n c.take_all.new.taker))
    (λ n. g.D.Disk.name (store_disk n c.args.store.now)) c.take_all.ensures.same_taker name

pub returns-in-Err-clause-same_disks : goal.returns-in-Err-clause-same_disks
returns-in-Err-clause-same_disks g c =
    six_of_paired (λ n. g.D.Disk.name (store_disk n c.take_all.new.taker))
    (λ n. g.D.Disk.name (store_disk n c.args.store.now)) c.take_all.ensures.same_taker
