-- What `explain` did, in the words of the whole call.
use Rattle.std.proofs.Common.{◌≡◌, inl, inr, ℕ, List, [], ◌∷◌, sym, subst, Some}
use Rattle.std.proofs.Common.{OnOk, IfErr, Result, Ok, Err}
use Rattle.std.specs.declared.option.Option.{Option}
use Rattle.fm_answers.specs.Ending.{EndsAs}
use Rattle.fm_answers.specs.StreamsAt.{SinkAt}
use Rattle.fm_answers.specs.declared.status.ToolStatus.{ToolStatus}
use Rattle.fm_answers.specs.declared.stops.Stop.{Stop}
use Rattle.fm_answers.specs.declared.stops.Stop.TheVariants.{Read, Write, Disk}
use Rattle.fm_answers.specs.declared.stops.Stop.TheVariants.{Act, NotFound}
use Rattle.fm_command.specs.declared.words.Command.TheVariants.{Explain}
use Rattle.fm_logs.specs.Contents.{Contents}
use Rattle.fm_top.specs.Accepting.{OpeningStops}
use Rattle.fm_top.specs.Admin.{StoreUntold}
use Rattle.fm_top.specs.Calls.{IsCaused, Does}
use Rattle.fm_top.specs.Explain.{ExplainRan, ExplainTried, ExplainedOf, StoreWithout}
use Rattle.fm_top.specs.Fmd.{ConcludingStops}
use Rattle.fm_top.specs.Headline.{Headline, HoldsOfBook, LikeBook}
use Rattle.fm_top.specs.Limits.{draining_limit}
use Rattle.fm_top.specs.Order.{Goes, at_row, looks, world_of}
use Rattle.fm_top.specs.Outside.{Outside, counts_of}
use Rattle.fm_top.proofs.Doing.{Rests, quiet_counts, rests_put, unopened}
use Rattle.fm_top.proofs.Escs.{text_caused}
use Rattle.fm_top.proofs.Exactness.{exact_before}
use Rattle.fm_top.proofs.SourceFaults.{ok_no_err}
use Rattle.fm_top.proofs.Going.{put_goes, unopened_goes, worked_goes}
use Rattle.fm_top.proofs.Texts.{like_drained}

module _ (uuid : List ℕ) (before after : Outside) where
  abbrev RanSo : Result (Unit {0}) Stop → Type 0
  RanSo ran = ExplainRan uuid before.out after.out before.disks after.disks ran

  abbrev GoesSo : Result (Unit {0}) Stop → Type 0
  GoesSo ran = Goes (world_of before after) (looks (Explain uuid)) ran

  -- ---- the order of refusals

  without_goes : (stop : Stop) → StoreWithout uuid before.disks after.disks stop
      → GoesSo (Err stop)
  without_goes stop without =
      inr (inl (inr (
        (λ told tells. (without.holds told tells).stood),
        inl (
          without.why,
          λ told tells. let one = without.holds told tells in
              record { stood = one.stood; none = (one.each one.stood).text_is },
        ),
      )))

  untold_goes : (stop : Stop) → StoreUntold draining_limit before.disks after.disks stop
      → GoesSo (Err stop)
  untold_goes stop untold =
      worked_goes before after (at_row uuid ∷ []) draining_limit stop
      ((λ told tells. (untold.holds told tells).stood), (tt, tt)) untold.why

  explain_goes : (ran : Result (Unit {0}) Stop) → RanSo ran → GoesSo ran
  explain_goes ran (inl told) =
      put_goes (world_of before after) (looks (Explain uuid)) before.out after.out told.text ran
      ((λ c tells. (told.store.went c tells).stood), (tt, tt)) told.put
  explain_goes ran (inr untold) =
      subst GoesSo (sym untold.told)
      (elim untold.store.went [
        | inl unopened ↦ unopened_goes before after (at_row uuid ∷ []) untold.stop unopened.why
        | inr opened ↦ elim opened [
          | inl without ↦ without_goes untold.stop without
          | inr stopped ↦ untold_goes untold.stop stopped
        ]
      ])

  -- ---- the causes

  -- no work on the store is stopped by the input, the sink or an actuator
  only_store : (stop : Stop) (T : Type 0) → ExplainTried uuid before.disks after.disks (Err stop)
      → (OpeningStops before.disks stop → ⊥) → (stop ≡ NotFound → ⊥)
      → (ConcludingStops draining_limit before.disks stop → ⊥) → T
  only_store stop T tried no_opening found no_concluding =
      absurd (elim tried.went [
        | inl unopened ↦ no_opening unopened.why
        | inr opened ↦ elim opened [
          | inl without ↦ found without.why
          | inr stopped ↦ no_concluding stopped.why
        ]
      ])

  untold_caused : (stop : Stop) → ExplainTried uuid before.disks after.disks (Err stop)
      → IsCaused before after stop
  untold_caused Disk tried = tried.counts
  untold_caused Read tried = only_store Read _ tried (λ why. why) (λ is. cc) (λ why. why)
  untold_caused Write tried = only_store Write _ tried (λ why. why) (λ is. cc) (λ why. why)
  untold_caused (Act index) tried =
      only_store (Act index) _ tried (λ why. why) (λ is. cc) (λ why. why)
  untold_caused _ tried = tt

  explain_caused : (ran : Result (Unit {0}) Stop) → RanSo ran → IfErr ran (IsCaused before after)
  explain_caused ran (inl told) = text_caused before after told.text ran told.put
  explain_caused ran (inr untold) =
      subst (λ r. IfErr r (IsCaused before after)) (sym untold.told)
      (untold_caused untold.stop untold.store)

  -- ---- the counts of a command that is done

  explain_quiet : (ran : Result (Unit {0}) Stop) → Rests before after
      → after.input ≡ before.input → RanSo ran → OnOk ran (counts_of after ≡ counts_of before)
  explain_quiet (Err stop) rests unread did = tt
  explain_quiet (Ok done) rests unread (inl told) =
      quiet_counts before after rests (λ i. (unread i).failures) told.put.quiet told.store.counts
  explain_quiet (Ok done) rests unread (inr untold) =
      absurd (ok_no_err done untold.stop untold.told)

  -- ---- the headline

  like_book : (told : Contents) (text : Option (List ℕ))
      → HoldsOfBook told (ExplainedOf uuid told after.disks text)
      → HoldsOfBook told (LikeBook told after.disks)
  like_book told text holds = record {
    stood = holds.stood;
    each = λ book. record {
      left = λ image leaves.
          like_drained book.fresh book.book image ((holds.each book).left image leaves);
      exact = exact_before told book;
    };
  }

  explain_headline : (ran : Result (Unit {0}) Stop) → after.input ≡ before.input → RanSo ran
      → Headline (Explain uuid) before after ran
  explain_headline ran unread (inl told) =
      inr (λ c tells. like_book c (Some told.text) (told.store.went c tells))
  explain_headline ran unread (inr untold) =
      elim untold.store.went [
        | inl before_it ↦
            inl (unopened before after ran untold.stop untold.told unread untold.unsaid
            before_it.untouched)
        | inr opened ↦ inr (λ told tells. elim opened [
          | inl without ↦ like_book told _ (without.holds told tells)
          | inr stopped ↦ stopped.holds told tells
        ])
      ]

pub does_explain : (uuid : List ℕ) (before after : Outside) (middle : SinkAt)
    (ran : Result (Unit {0}) Stop) (result : ToolStatus)
    → ExplainRan uuid before.out middle before.disks after.disks ran
    → EndsAs middle after.out ran result → Rests before after → after.input ≡ before.input
    → Does (Some (Explain uuid)) before after result
does_explain uuid before after middle ran result did ends rests unread =
    let mid : Outside = record after { out = middle } in (
      ran,
      middle,
      record {
        order = explain_goes uuid before mid ran did;
        cause = explain_caused uuid before mid ran did;
        quiet = explain_quiet uuid before mid ran (rests_put before after middle rests) unread did;
        did = did;
        headline = explain_headline uuid before mid ran unread did;
      },
      ends,
    )
