-- What a command did that generates entries, in the words of the whole call.
use Rattle.std.proofs.Common.{◌≡◌, ◌∙◌, ◌⊎◌, inl, inr, ℕ, ◌+◌, List, [], ◌∷◌, ◌++◌, length, map}
use Rattle.std.proofs.Common.{append-nil, take, refl, sym, ap, subst, Some, OnOk, IfErr}
use Rattle.std.proofs.Common.{Result, Ok, Err}
use Rattle.std.proofs.Math.Seq.{take-append-add, take-append_seam, take-length}
use Rattle.fm_act.specs.Reconciled.{ActuatorState}
use Rattle.fm_answers.specs.Ending.{EndsAs}
use Rattle.fm_answers.specs.StreamsAt.{SinkAt}
use Rattle.fm_answers.specs.declared.status.ToolStatus.{ToolStatus}
use Rattle.fm_answers.specs.declared.stops.Stop.{Stop}
use Rattle.fm_answers.specs.declared.stops.Stop.TheVariants.{Read, Write, Disk, Memory}
use Rattle.fm_answers.specs.declared.stops.Stop.TheVariants.{Full, Act}
use Rattle.fm_answers.specs.Recording.{store_with}
use Rattle.fm_command.specs.declared.words.Command.TheVariants.{Generate, GeneratedLines}
use Rattle.fm_entry.specs.declared.entry.Entry.{Entry}
use Rattle.fm_journal.specs.declared.fault.FullKind.TheVariants.{Numbers}
use Rattle.fm_logs.specs.Contents.{Contents}
use Rattle.fm_store.specs.StoreLeft.{ReadsLike}
use Rattle.fm_top.specs.Exact.{ReadsExact, ReadsExactEither}
use Rattle.fm_top.specs.Admin.{StoreUnopened}
use Rattle.fm_top.specs.Calls.{IsCaused, Does}
use Rattle.fm_top.specs.Fmd.{ReadsBased, SettlingEnds}
use Rattle.fm_top.specs.Generate.{GenerateConcluded, GenerateRan, GenerateStops, GenerateTried}
use Rattle.fm_top.specs.Generate.{GenerateUnconcluded, GenerateUntil, Generates, LinesRan}
use Rattle.fm_top.specs.Generate.{LinesTried, StoreUnbegun, UnbegunStops}
use Rattle.fm_top.specs.Headline.{HasFirst, HasGenerated, HeldGenerated, HoldsOfBook, Headline}
use Rattle.fm_top.specs.Headline.{LikeBook}
use Rattle.fm_top.specs.Kept.{BookAt}
use Rattle.fm_top.specs.Limits.{concluding_limit}
use Rattle.fm_top.specs.Order.{AllPass, Goes, at_early, at_store, world_of}
use Rattle.fm_top.specs.Outside.{Outside, DisksAt, Tells, Leaves, counts_of}
use Rattle.fm_top.proofs.BookHeld.{reads_other}
use Rattle.fm_top.proofs.Doing.{Rests, quiet_counts, rests_put, unopened}
use Rattle.fm_top.proofs.Escs.{text_caused}
use Rattle.fm_top.proofs.SourceFaults.{ok_no_err}
use Rattle.fm_top.proofs.Going.{put_goes, settled_goes, unopened_goes, worked_goes}
use Rattle.fm_top.proofs.FmdDoing.{acts_quiet, settled_caused}

-- ---- the order of refusals

module _ (before after : Outside) where
  abbrev GoesSo : Result (Unit {0}) Stop → Type 0
  GoesSo ran = Goes (world_of before after) (at_store ∷ at_early ∷ []) ran

  abbrev PassSo : Type 0
  PassSo = AllPass (world_of before after) (at_store ∷ at_early ∷ [])

  unbegun_goes : (stop : Stop) → StoreUnbegun before.disks after.disks stop → GoesSo (Err stop)
  unbegun_goes stop unbegun = by_stop stop unbegun.why
    where
      by_stop : (stop : Stop) → UnbegunStops before.disks stop → GoesSo (Err stop)
      by_stop (Full Numbers) why =
          inr (inl (inr ((λ told tells. (unbegun.holds told tells).stood), inl (refl, why))))
      by_stop Memory why = inl tt
      by_stop _ why = absurd why

  -- where entries are generated the looks pass
  all_pass : (number : ℕ) (entries : List Entry) → Generates number before.disks entries → PassSo
  all_pass number entries are = (
    (λ told tells. (are told tells).stood),
    (
      (λ told tells. let holds = are told tells in
          record { stood = holds.stood; early = (holds.each holds.stood).early }),
      tt,
    ),
  )

  until_goes : (number : ℕ) (stop : Stop) → GenerateUntil number before.disks after.disks stop
      → GoesSo (Err stop)
  until_goes number Disk until = inl tt
  until_goes number Memory until = inl tt
  until_goes number (Full kind) until = inr (inr (all_pass number until.entries until.are, tt))
  until_goes number _ until = absurd until.ran.stops

  behind_goes : (number : ℕ) (stop : Stop)
      → GenerateUnconcluded number before.disks after.disks stop → GoesSo (Err stop)
  behind_goes number stop behind =
      worked_goes before after (at_early ∷ []) (concluding_limit behind.entries) stop
      (all_pass number behind.entries behind.are) behind.why

-- ---- what a crash leaves of a book

module _ (told : Contents) (one other : BookAt told) where
  either_other : (a b : List Entry) (image : Contents) → ReadsExactEither one a b image
      → ReadsExactEither other a b image
  either_other a b image (inl reads) = inl (reads_other told one other a image reads)
  either_other a b image (inr reads) = inr (reads_other told one other b image reads)

module _ (number : ℕ) (before after : DisksAt) where
  abbrev MayHaveFirst : (told : Contents) → BookAt told → Type 0
  MayHaveFirst told stood = LikeBook told after stood ⊎ HasFirst number told after stood

  -- each image has the first of what is generated, so many or one more
  first_held : (entries front rest : List Entry) (told : Contents) → entries ≡ front ++ rest
      → Generates number before entries → Tells before told → (one : BookAt told)
      → ((image : Contents) → Leaves after image
      → ReadsExactEither one front (take (length front + 1) entries) image)
      → HoldsOfBook told (MayHaveFirst told)
  first_held entries front rest told is are tells one left = record {
    stood = one;
    each = λ book. inr (record {
      entries = entries;
      are = (are told tells).each book;
      count = length front;
      left = λ image leaves.
          either_other told one book (take (length front) entries)
          (take (length front + 1) entries) image
          (subst (λ es. ReadsExactEither one es (take (length front + 1) entries) image)
          (sym (ap (take (length front)) is ∙ take-append_seam front rest))
          (left image leaves));
    });
  }

  plain_held : (entries front rest : List Entry) (told : Contents) → entries ≡ front ++ rest
      → Generates number before entries → Tells before told → (one : BookAt told)
      → ((image : Contents) → Leaves after image → ReadsExact one front image)
      → HoldsOfBook told (MayHaveFirst told)
  plain_held entries front rest told is are tells one left =
      first_held entries front rest told is are tells one
      (λ image leaves. inl (left image leaves))

  -- the next one may be there too
  next_held : (entries front more : List Entry) (entry : Entry) (told : Contents)
      → entries ≡ front ++ entry ∷ more → Generates number before entries → Tells before told
      → (one : BookAt told)
      → ((image : Contents) → Leaves after image
      → ReadsExactEither one front (front ++ entry ∷ []) image)
      → HoldsOfBook told (MayHaveFirst told)
  next_held entries front more entry told is are tells one left =
      first_held entries front (entry ∷ more) told is are tells one
      (λ image leaves. subst (λ es. ReadsExactEither one front es image)
      (sym (ap (take (length front + 1)) is ∙ take-append-add front (entry ∷ more) 1))
      (left image leaves))

  until_held : (stop : Stop) (until : GenerateUntil number before after stop) (told : Contents)
      → Tells before told → HoldsOfBook told (MayHaveFirst told)
  until_held Disk until told tells =
      let (entry, more, is, grew) = until.ran.stops in
      let from = grew told tells in
      next_held until.entries until.ran.front more entry told
      (until.ran.entries_are ∙ ap (λ es. until.ran.front ++ es) is) until.are tells from.stood
      from.left
  until_held (Full kind) until told tells =
      let (entry, more, is, grew) = until.ran.stops in
      let from = grew told tells in
      plain_held until.entries until.ran.front until.ran.rest told until.ran.entries_are until.are
      tells from.stood from.left
  until_held Memory until told tells =
      let from = until.ran.stops told tells in
      plain_held until.entries until.ran.front until.ran.rest told until.ran.entries_are until.are
      tells from.stood from.left
  until_held _ until told tells = absurd until.ran.stops

  -- all of it
  all_held : (entries : List Entry) (told : Contents) → Generates number before entries
      → Tells before told → (one : BookAt told)
      → ((image : Contents) → Leaves after image → ReadsExact one entries image)
      → HoldsOfBook told (MayHaveFirst told)
  all_held entries told are tells one left =
      plain_held entries entries [] told (sym (append-nil entries)) are tells one left

  stops_held : (stop : Stop) → GenerateStops number before after stop
      → StoreUnopened before after stop
      ⊎ ((told : Contents) → Tells before told → HoldsOfBook told (MayHaveFirst told))
  stops_held stop (inl unopened) = inl unopened
  stops_held stop (inr (inl unbegun)) = inr (λ told tells.
      let holds = unbegun.holds told tells in
      record { stood = holds.stood; each = λ book. inl (holds.each book) })
  stops_held stop (inr (inr (inl until))) = inr (until_held stop until)
  stops_held stop (inr (inr (inr behind))) = inr (λ told tells.
      let from = behind.took told tells in
      all_held behind.entries told behind.are tells from.stood from.left)

  based_like : (told : Contents) (stood : BookAt told) (entries : List Entry) (image : Contents)
      → ReadsBased stood.fresh (store_with stood.book entries) image
      → ReadsLike stood.fresh (store_with stood.book entries) image
  based_like told stood entries image reads = record {
    read = reads.read;
    reads = reads.reads;
    confs_same = reads.based_is.confs_same;
    alike = reads.based_is.alike;
  }

  -- where all is done, each image has all that is generated
  concluded_held : (summary : List ℕ) (paths : List (List ℕ))
      (done : GenerateConcluded number before after summary paths) (told : Contents)
      → Tells before told → HoldsOfBook told (HasGenerated number told after)
  concluded_held summary paths done told tells =
      let holds = done.drains told tells in record {
        stood = holds.stood;
        each = λ book. record {
          entries = done.entries;
          are = (done.are told tells).each book;
          left = λ image leaves. record {
            like = based_like told book done.entries image ((holds.each book).left image leaves);
            exact = (holds.each book).exact;
          };
        };
      }

  -- so it has the first of it, which are all
  first_of_all : (told : Contents) → HoldsOfBook told (HasGenerated number told after)
      → HoldsOfBook told (MayHaveFirst told)
  first_of_all told holds = record {
    stood = holds.stood;
    each = λ book. let has = holds.each book in inr (record {
      entries = has.entries;
      are = has.are;
      count = length has.entries;
      left = λ image leaves.
          inl (subst (λ es. ReadsExact book es image) (sym (take-length has.entries))
          (has.left image leaves));
    });
  }

  settled_held : (paths : List (List ℕ)) (text : List ℕ) (acts acts_now : List ActuatorState)
      (out out_now : SinkAt) (ran : Result (Unit {0}) Stop) (told : Contents)
      → SettlingEnds paths text acts acts_now out out_now ran
      → HoldsOfBook told (HasGenerated number told after)
      → HoldsOfBook told (HeldGenerated number told after ran)
  settled_held paths text acts acts_now out out_now (Ok done) told ends holds = holds
  settled_held paths text acts acts_now out out_now (Err (Act index)) told ends holds = holds
  settled_held paths text acts acts_now out out_now (Err Write) told ends holds =
      first_of_all told holds
  settled_held paths text acts acts_now out out_now (Err Memory) told ends holds =
      first_of_all told holds
  settled_held paths text acts acts_now out out_now (Err _) told ends holds = absurd ends

  -- of a command that no actuator stopped
  stopped_held : (stop : Stop) (told : Contents) → ((index : ℕ) → stop ≡ Act index → ⊥)
      → HoldsOfBook told (MayHaveFirst told)
      → HoldsOfBook told (HeldGenerated number told after (Err stop))
  stopped_held (Act index) told none holds = absurd (none index refl)
  stopped_held _ told none holds = holds

-- ---- `gen N`

module _ (number : ℕ) (before after : Outside) where
  abbrev RanSo : Result (Unit {0}) Stop → Type 0
  RanSo ran =
      GenerateRan number before.acts after.acts before.out after.out before.disks after.disks ran

  stops_goes : (stop : Stop) → GenerateStops number before.disks after.disks stop
      → GoesSo before after (Err stop)
  stops_goes stop (inl unopened) = unopened_goes before after (at_early ∷ []) stop unopened.why
  stops_goes stop (inr (inl unbegun)) = unbegun_goes before after stop unbegun
  stops_goes stop (inr (inr (inl until))) = until_goes before after number stop until
  stops_goes stop (inr (inr (inr behind))) = behind_goes before after number stop behind

  generate_goes : (ran : Result (Unit {0}) Stop) → RanSo ran → GoesSo before after ran
  generate_goes ran (inl stopped) =
      subst (GoesSo before after) (sym stopped.told) (stops_goes stopped.stop stopped.store.went)
  generate_goes ran (inr settled) =
      settled_goes (world_of before after) (at_store ∷ at_early ∷ []) settled.conclusion.wanted
      settled.conclusion.summary.items before.acts after.acts before.out after.out ran
      (all_pass before after number settled.store.went.entries settled.store.went.are)
      settled.settled

  -- no work on the store is stopped by the input, the sink or an actuator
  no_read : GenerateStops number before.disks after.disks Read → ⊥
  no_read (inl unopened) = unopened.why
  no_read (inr (inl unbegun)) = unbegun.why
  no_read (inr (inr (inl until))) = until.ran.stops
  no_read (inr (inr (inr behind))) = behind.why

  no_write : GenerateStops number before.disks after.disks Write → ⊥
  no_write (inl unopened) = unopened.why
  no_write (inr (inl unbegun)) = unbegun.why
  no_write (inr (inr (inl until))) = until.ran.stops
  no_write (inr (inr (inr behind))) = behind.why

  no_act : (index : ℕ) → GenerateStops number before.disks after.disks (Act index) → ⊥
  no_act index (inl unopened) = unopened.why
  no_act index (inr (inl unbegun)) = unbegun.why
  no_act index (inr (inr (inl until))) = until.ran.stops
  no_act index (inr (inr (inr behind))) = behind.why

  stopped_caused : (stop : Stop) → GenerateTried number before.disks after.disks (Err stop)
      → IsCaused before after stop
  stopped_caused Disk tried = tried.counts
  stopped_caused Read tried = absurd (no_read tried.went)
  stopped_caused Write tried = absurd (no_write tried.went)
  stopped_caused (Act index) tried = absurd (no_act index tried.went)
  stopped_caused _ tried = tt

  generate_caused : (ran : Result (Unit {0}) Stop) → RanSo ran → IfErr ran (IsCaused before after)
  generate_caused ran (inl stopped) =
      subst (λ r. IfErr r (IsCaused before after)) (sym stopped.told)
      (stopped_caused stopped.stop stopped.store)
  generate_caused ran (inr settled) =
      settled_caused before after settled.conclusion.wanted settled.conclusion.summary.items
      before.out ran refl settled.settled

  generate_quiet : (ran : Result (Unit {0}) Stop) → after.input ≡ before.input
      → after.rules ≡ before.rules → after.topo ≡ before.topo → RanSo ran
      → OnOk ran (counts_of after ≡ counts_of before)
  generate_quiet (Err stop) input rules topo did = tt
  generate_quiet (Ok done) input rules topo (inl stopped) =
      absurd (ok_no_err done stopped.stop stopped.told)
  generate_quiet (Ok done) input rules topo (inr settled) =
      let out = settled.settled.1.quiet in
      let disks = settled.store.counts in
      let acts = acts_quiet settled.conclusion.wanted before.acts after.acts settled.settled.0 in
      λ i. record {
        sources = (input i).failures ∷ (topo i).failures ∷ map (λ s. s.failures) (rules i);
        out = out i;
        disks = disks i;
        acts = acts i;
      }

  not_act : (stop : Stop) → GenerateStops number before.disks after.disks stop → (index : ℕ)
      → stop ≡ Act index → ⊥
  not_act stop stops index is =
      no_act index (subst (GenerateStops number before.disks after.disks) is stops)

  generate_headline : (ran : Result (Unit {0}) Stop) → after.input ≡ before.input → RanSo ran
      → Headline (Generate number) before after ran
  generate_headline ran unread (inl stopped) =
      elim (stops_held number before.disks after.disks stopped.stop stopped.store.went) [
        | inl before_it ↦
            inl (unopened before after ran stopped.stop stopped.told unread stopped.unsaid
            before_it.untouched)
        | inr held ↦ inr (λ told tells.
            subst (λ r. HoldsOfBook told (HeldGenerated number told after.disks r))
            (sym stopped.told)
            (stopped_held number before.disks after.disks stopped.stop told
            (not_act stopped.stop stopped.store.went) (held told tells)))
      ]
  generate_headline ran unread (inr settled) = inr (λ told tells.
      settled_held number before.disks after.disks settled.conclusion.wanted
      settled.conclusion.summary.items before.acts after.acts before.out after.out ran told
      settled.settled
      (concluded_held number before.disks after.disks settled.conclusion.summary.items
      settled.conclusion.wanted settled.store.went told tells))

pub does_generate : (number : ℕ) (before after : Outside) (middle : SinkAt)
    (ran : Result (Unit {0}) Stop) (result : ToolStatus)
    → GenerateRan number before.acts after.acts before.out middle before.disks after.disks ran
    → EndsAs middle after.out ran result → after.rules ≡ before.rules
    → after.topo ≡ before.topo → after.input ≡ before.input
    → Does (Some (Generate number)) before after result
does_generate number before after middle ran result did ends rules topo unread =
    let mid : Outside = record after { out = middle } in (
      ran,
      middle,
      record {
        order = generate_goes number before mid ran did;
        cause = generate_caused number before mid ran did;
        quiet = generate_quiet number before mid ran unread rules topo did;
        did = did;
        headline = generate_headline number before mid ran unread did;
      },
      ends,
    )

-- ---- `gen -l N`

module _ (number : ℕ) (before after : Outside) where
  abbrev ListedSo : Result (Unit {0}) Stop → Type 0
  ListedSo ran = LinesRan number before.out after.out before.disks after.disks ran

  lines_goes : (ran : Result (Unit {0}) Stop) → ListedSo ran → GoesSo before after ran
  lines_goes ran (inl put) =
      put_goes (world_of before after) (at_store ∷ at_early ∷ []) before.out after.out put.text ran
      (all_pass before after number put.store.went.entries put.store.went.are) put.put
  lines_goes ran (inr untold) =
      subst (GoesSo before after) (sym untold.told)
      (elim untold.store.went [
        | inl unopened ↦ unopened_goes before after (at_early ∷ []) untold.stop unopened.why
        | inr unbegun ↦ unbegun_goes before after untold.stop unbegun
      ])

  untold_caused : (stop : Stop) → LinesTried number before.disks after.disks (Err stop)
      → IsCaused before after stop
  untold_caused Disk tried = tried.counts
  untold_caused Read tried =
      absurd (elim tried.went [ inl unopened ↦ unopened.why | inr unbegun ↦ unbegun.why ])
  untold_caused Write tried =
      absurd (elim tried.went [ inl unopened ↦ unopened.why | inr unbegun ↦ unbegun.why ])
  untold_caused (Act index) tried =
      absurd (elim tried.went [ inl unopened ↦ unopened.why | inr unbegun ↦ unbegun.why ])
  untold_caused _ tried = tt

  lines_caused : (ran : Result (Unit {0}) Stop) → ListedSo ran → IfErr ran (IsCaused before after)
  lines_caused ran (inl put) = text_caused before after put.text ran put.put
  lines_caused ran (inr untold) =
      subst (λ r. IfErr r (IsCaused before after)) (sym untold.told)
      (untold_caused untold.stop untold.store)

  lines_quiet : (ran : Result (Unit {0}) Stop) → Rests before after
      → after.input ≡ before.input → ListedSo ran → OnOk ran (counts_of after ≡ counts_of before)
  lines_quiet (Err stop) rests unread did = tt
  lines_quiet (Ok done) rests unread (inl put) =
      quiet_counts before after rests (λ i. (unread i).failures) put.put.quiet put.store.counts
  lines_quiet (Ok done) rests unread (inr untold) =
      absurd (ok_no_err done untold.stop untold.told)

  lines_headline : (ran : Result (Unit {0}) Stop) → after.input ≡ before.input → ListedSo ran
      → Headline (GeneratedLines number) before after ran
  lines_headline ran unread (inl put) = inr put.store.went.holds
  lines_headline ran unread (inr untold) =
      elim untold.store.went [
        | inl before_it ↦
            inl (unopened before after ran untold.stop untold.told unread untold.unsaid
            before_it.untouched)
        | inr unbegun ↦ inr unbegun.holds
      ]

pub does_lines : (number : ℕ) (before after : Outside) (middle : SinkAt)
    (ran : Result (Unit {0}) Stop) (result : ToolStatus)
    → LinesRan number before.out middle before.disks after.disks ran
    → EndsAs middle after.out ran result → Rests before after → after.input ≡ before.input
    → Does (Some (GeneratedLines number)) before after result
does_lines number before after middle ran result did ends rests unread =
    let mid : Outside = record after { out = middle } in (
      ran,
      middle,
      record {
        order = lines_goes number before mid ran did;
        cause = lines_caused number before mid ran did;
        quiet = lines_quiet number before mid ran (rests_put before after middle rests) unread did;
        did = did;
        headline = lines_headline number before mid ran unread did;
      },
      ends,
    )
