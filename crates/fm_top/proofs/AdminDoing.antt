-- What an operator's command that puts one text did, in the words of the whole call.
use Rattle.std.proofs.Common.{◌≡◌, inl, inr, List, [], sym, subst, Some}
use Rattle.std.proofs.Common.{OnOk, IfErr, Result, Ok, Err}
use Rattle.fm_answers.specs.Ending.{EndsAs}
use Rattle.fm_answers.specs.StreamsAt.{SinkAt}
use Rattle.fm_answers.specs.declared.status.ToolStatus.{ToolStatus}
use Rattle.fm_answers.specs.declared.stops.Stop.{Stop}
use Rattle.fm_answers.specs.declared.stops.Stop.TheVariants.{Read, Write, Disk}
use Rattle.fm_answers.specs.declared.stops.Stop.TheVariants.{Act}
use Rattle.fm_command.specs.declared.words.AdminCommand.{AdminCommand}
use Rattle.fm_command.specs.declared.words.AdminCommand.TheVariants.{Config, Dump, Faulty, Rotate}
use Rattle.fm_command.specs.declared.words.Command.TheVariants.{Admin}
use Rattle.fm_core.specs.Book.{ModuleState}
use Rattle.fm_logs.specs.Contents.{Contents}
use Rattle.fm_logs.specs.StoreBook.{StoreBook}
use Rattle.fm_store.specs.StoreLeft.{ReadsLike}
use Rattle.fm_top.specs.Admin.{AdminRan, ReadsAfter, TextAsked, command_limit}
use Rattle.fm_top.specs.Calls.{IsCaused, Does}
use Rattle.fm_top.specs.Headline.{Headline}
use Rattle.fm_top.specs.Order.{Goes, looks, world_of}
use Rattle.fm_top.specs.Outside.{Outside, counts_of}
use Rattle.fm_top.proofs.Doing.{Rests, quiet_counts, rests_put, unopened}
use Rattle.fm_top.proofs.Escs.{text_caused}
use Rattle.fm_top.proofs.Exactness.{exact_before}
use Rattle.fm_top.proofs.SourceFaults.{ok_no_err}
use Rattle.fm_top.proofs.Going.{put_goes, unopened_goes, worked_goes}
use Rattle.fm_top.proofs.Texts.{like_drained}

-- what a command leaves reads like the book from before
like_after : (asked : AdminCommand) (fresh : List ModuleState) (k : StoreBook) (image : Contents)
    → ReadsAfter asked fresh k image → ReadsLike fresh k image
like_after Faulty fresh k image reads = like_drained fresh k image reads
like_after Config fresh k image reads = like_drained fresh k image reads
like_after (Dump options) fresh k image reads = like_drained fresh k image reads
like_after Rotate fresh k image reads = record {
  read = reads.read;
  reads = reads.reads;
  confs_same = reads.based_is.confs_same;
  alike = reads.based_is.alike;
}

module _ (asked : AdminCommand) (before after : Outside) where
  abbrev RanSo : Result (Unit {0}) Stop → Type 0
  RanSo ran = AdminRan asked before.out after.out before.disks after.disks ran

  -- ---- the order of refusals

  tell_goes : (ran : Result (Unit {0}) Stop) → RanSo ran
      → Goes (world_of before after) (looks (Admin asked)) ran
  tell_goes ran (inl told) =
      put_goes (world_of before after) (looks (Admin asked)) before.out after.out told.text ran
      ((λ c tells. (told.store.went c tells).stood), tt) told.put
  tell_goes ran (inr untold) =
      subst (Goes (world_of before after) (looks (Admin asked))) (sym untold.told)
      (elim untold.store.went [
        | inl unopened ↦ unopened_goes before after [] untold.stop unopened.why
        | inr opened ↦
            worked_goes before after [] (command_limit asked) untold.stop
            ((λ told tells. (opened.holds told tells).stood), tt) opened.why
      ])

  -- ---- the causes

  untold_caused : (stop : Stop) → TextAsked asked before.disks after.disks (Err stop)
      → IsCaused before after stop
  untold_caused Disk asked_so = asked_so.counts
  untold_caused Read asked_so =
      absurd (elim asked_so.went [ inl unopened ↦ unopened.why | inr opened ↦ opened.why ])
  untold_caused Write asked_so =
      absurd (elim asked_so.went [ inl unopened ↦ unopened.why | inr opened ↦ opened.why ])
  untold_caused (Act index) asked_so =
      absurd (elim asked_so.went [ inl unopened ↦ unopened.why | inr opened ↦ opened.why ])
  untold_caused _ asked_so = tt

  tell_caused : (ran : Result (Unit {0}) Stop) → RanSo ran → IfErr ran (IsCaused before after)
  tell_caused ran (inl told) = text_caused before after told.text ran told.put
  tell_caused ran (inr untold) =
      subst (λ r. IfErr r (IsCaused before after)) (sym untold.told)
      (untold_caused untold.stop untold.store)

  -- ---- the counts of a command that is done

  tell_quiet : (ran : Result (Unit {0}) Stop) → Rests before after
      → after.input ≡ before.input → RanSo ran → OnOk ran (counts_of after ≡ counts_of before)
  tell_quiet (Err stop) rests unread did = tt
  tell_quiet (Ok done) rests unread (inl told) =
      quiet_counts before after rests (λ i. (unread i).failures) told.put.quiet told.store.counts
  tell_quiet (Ok done) rests unread (inr untold) = absurd (ok_no_err done untold.stop untold.told)

  -- ---- the headline

  tell_headline : (ran : Result (Unit {0}) Stop) → after.input ≡ before.input → RanSo ran
      → Headline (Admin asked) before after ran
  tell_headline ran unread (inl told) = inr (λ c tells.
      let holds = told.store.went c tells in record {
        stood = holds.stood;
        each = λ book. record {
          left = λ image leaves.
              like_after asked book.fresh book.book image ((holds.each book).left image leaves);
          exact = exact_before c book;
        };
      })
  tell_headline ran unread (inr untold) =
      elim untold.store.went [
        | inl before_it ↦
            inl (unopened before after ran untold.stop untold.told unread untold.unsaid
            before_it.untouched)
        | inr opened ↦ inr opened.holds
      ]

pub does_tell : (asked : AdminCommand) (before after : Outside) (middle : SinkAt)
    (ran : Result (Unit {0}) Stop) (result : ToolStatus)
    → AdminRan asked before.out middle before.disks after.disks ran
    → EndsAs middle after.out ran result → Rests before after → after.input ≡ before.input
    → Does (Some (Admin asked)) before after result
does_tell asked before after middle ran result did ends rests unread =
    let mid : Outside = record after { out = middle } in (
      ran,
      middle,
      record {
        order = tell_goes asked before mid ran did;
        cause = tell_caused asked before mid ran did;
        quiet = tell_quiet asked before mid ran (rests_put before after middle rests) unread did;
        did = did;
        headline = tell_headline asked before mid ran unread did;
      },
      ends,
    )
