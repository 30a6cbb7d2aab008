-- What a command did that accepts what is said of repairs, in the words of the whole call.
use Rattle.std.proofs.Common.{◌≡◌, ◌⊎◌, inl, inr, ℕ, ◌<◌, ◌^◌, List, [], ◌∷◌, map, refl}
use Rattle.std.proofs.Common.{sym, subst, Some, OnOk, IfErr, Result, Ok, Err}
use Rattle.fm_act.specs.Reconciled.{ActuatorState}
use Rattle.fm_admin.specs.declared.repairing.Repaired.{Repaired}
use Rattle.fm_answers.specs.Answers.{ok_text}
use Rattle.fm_answers.specs.Ending.{EndsAs}
use Rattle.fm_answers.specs.StreamsAt.{SinkAt}
use Rattle.fm_answers.specs.declared.status.ToolStatus.{ToolStatus}
use Rattle.fm_answers.specs.declared.stops.Stop.{Stop}
use Rattle.fm_answers.specs.declared.stops.Stop.TheVariants.{Read, Write, Disk, Damaged, Memory}
use Rattle.fm_answers.specs.declared.stops.Stop.TheVariants.{Full, NotFaulty, Act}
use Rattle.fm_command.specs.RepairAsked.{RepairAsked}
use Rattle.fm_command.specs.declared.words.Command.TheVariants.{Repair}
use Rattle.fm_logs.specs.Contents.{Contents}
use Rattle.fm_logs.specs.StoreBook.{store_accepted}
use Rattle.fm_store.specs.StoreLeft.{ReadsLike}
use Rattle.fm_top.specs.Accepting.{OpeningStops}
use Rattle.fm_top.specs.Calls.{IsCaused, Does}
use Rattle.fm_top.specs.Fmd.{ConcludingStops, SettlingEnds}
use Rattle.fm_top.specs.Headline.{HasRepaired, HasRepairExact, HeldRepair, HoldsOfBook, Headline}
use Rattle.fm_top.specs.Kept.{BookAt}
use Rattle.fm_top.specs.Order.{Goes, at_marked, looks, world_of}
use Rattle.fm_top.specs.Outside.{Outside, Tells, counts_of}
use Rattle.fm_top.specs.Repair.{MayHaveRepair, RepairRan, RepairTried, RepairedOf, StoreUnmarked}
use Rattle.fm_top.specs.Repair.{StoreUnrepaired, repair_limit}
use Rattle.fm_top.specs.RepairEntry.{HasRepair}
use Rattle.fm_top.proofs.Doing.{unopened}
use Rattle.fm_top.proofs.SourceFaults.{ok_no_err}
use Rattle.fm_top.proofs.FmdDoing.{acts_quiet, settled_caused}
use Rattle.fm_top.proofs.Exactness.{exact_before}
use Rattle.fm_top.proofs.Going.{settled_goes, unopened_goes, worked_goes}
use Rattle.fm_top.proofs.RepairSpelled.{CanBeSaid, repair_exact}
use Rattle.fm_top.proofs.Texts.{like_drained}

module _ (asked : RepairAsked) (before after : Outside) where
  abbrev RanSo : Result (Unit {0}) Stop → Type 0
  RanSo ran =
      RepairRan asked before.acts after.acts before.out after.out before.disks after.disks ran

  abbrev GoesSo : Result (Unit {0}) Stop → Type 0
  GoesSo ran = Goes (world_of before after) (looks (Repair asked)) ran

  -- ---- the order of refusals

  unmarked_goes : (stop : Stop) → StoreUnmarked asked before.disks after.disks stop
      → GoesSo (Err stop)
  unmarked_goes stop unmarked =
      inr (inl (inr (
        (λ told tells. (unmarked.holds told tells).stood),
        inl (
          unmarked.why,
          λ told tells. let one = unmarked.holds told tells in
              record { stood = one.stood; none = (one.each one.stood).none },
        ),
      )))

  unrepaired_goes : (stop : Stop) → StoreUnrepaired asked before.disks after.disks stop
      → GoesSo (Err stop)
  unrepaired_goes stop unrepaired =
      worked_goes before after (at_marked asked ∷ []) (repair_limit asked) stop
      ((λ told tells. (unrepaired.holds told tells).stood), (tt, tt)) unrepaired.why

  repair_goes : (ran : Result (Unit {0}) Stop) → RanSo ran → GoesSo ran
  repair_goes ran (inl stopped) =
      subst GoesSo (sym stopped.told)
      (elim stopped.store.went [
        | inl unopened ↦ unopened_goes before after (at_marked asked ∷ []) stopped.stop unopened.why
        | inr opened ↦ elim opened [
          | inl unmarked ↦ unmarked_goes stopped.stop unmarked
          | inr unrepaired ↦ unrepaired_goes stopped.stop unrepaired
        ]
      ])
  repair_goes ran (inr settled) =
      settled_goes (world_of before after) (looks (Repair asked)) settled.one.wanted
      (ok_text settled.one.number) before.acts after.acts before.out after.out ran
      ((λ told tells. (settled.store.went told tells).stood), (tt, tt)) settled.settled

  -- ---- the causes

  -- no work on the store is stopped by the input, the sink or an actuator
  only_store : (stop : Stop) (T : Type 0) → RepairTried asked before.disks after.disks (Err stop)
      → (OpeningStops before.disks stop → ⊥) → (stop ≡ NotFaulty → ⊥)
      → (ConcludingStops (repair_limit asked) before.disks stop → ⊥) → T
  only_store stop T tried no_opening marked no_concluding =
      absurd (elim tried.went [
        | inl unopened ↦ no_opening unopened.why
        | inr opened ↦ elim opened [
          | inl unmarked ↦ marked unmarked.why
          | inr unrepaired ↦ no_concluding unrepaired.why
        ]
      ])

  stopped_caused : (stop : Stop) → RepairTried asked before.disks after.disks (Err stop)
      → IsCaused before after stop
  stopped_caused Disk tried = tried.counts
  stopped_caused Read tried = only_store Read _ tried (λ why. why) (λ is. cc) (λ why. why)
  stopped_caused Write tried = only_store Write _ tried (λ why. why) (λ is. cc) (λ why. why)
  stopped_caused (Act index) tried =
      only_store (Act index) _ tried (λ why. why) (λ is. cc) (λ why. why)
  stopped_caused _ tried = tt

  repair_caused : (ran : Result (Unit {0}) Stop) → RanSo ran → IfErr ran (IsCaused before after)
  repair_caused ran (inl stopped) =
      subst (λ r. IfErr r (IsCaused before after)) (sym stopped.told)
      (stopped_caused stopped.stop stopped.store)
  repair_caused ran (inr settled) =
      settled_caused before after settled.one.wanted (ok_text settled.one.number) before.out ran
      refl settled.settled

  -- ---- the counts of a command that is done

  repair_quiet : (ran : Result (Unit {0}) Stop) → after.input ≡ before.input
      → after.rules ≡ before.rules → after.topo ≡ before.topo → RanSo ran
      → OnOk ran (counts_of after ≡ counts_of before)
  repair_quiet (Err stop) input rules topo did = tt
  repair_quiet (Ok done) input rules topo (inl stopped) =
      absurd (ok_no_err done stopped.stop stopped.told)
  repair_quiet (Ok done) input rules topo (inr settled) =
      let out = settled.settled.1.quiet in
      let disks = settled.store.counts in
      let acts = acts_quiet settled.one.wanted before.acts after.acts settled.settled.0 in
      λ i. record {
        sources = (input i).failures ∷ (topo i).failures ∷ map (λ s. s.failures) (rules i);
        out = out i;
        disks = disks i;
        acts = acts i;
      }

-- ---- the headline

module _ (asked : RepairAsked) (before after : Outside) (now : ℕ) (early : now < 2 ^ 62)
    (said : CanBeSaid now asked) where
  -- the book with the entry has exact suspects
  exactly : (told : Contents) (stood : BookAt told) (image : Contents)
      → HasRepair asked stood image → HasRepairExact asked stood image
  exactly told stood image has = record {
    has = has;
    exact = (repair_exact asked now early said told stood image has).exact;
  }

  abbrev HeldSo : Contents → Result (Unit {0}) Stop → Type 0
  HeldSo told ran = HoldsOfBook told (HeldRepair before after asked told ran)

  -- each image is so, where it is so of one that reads like the book, or with the entry
  either_held : (told : Contents) (ran : Result (Unit {0}) Stop)
      → ((stood : BookAt told) (image : Contents)
      → ((after.out ≡ before.out) × ReadsLike stood.fresh stood.book image)
      ⊎ HasRepairExact asked stood image → HasRepaired before after asked told stood image ran)
      → after.out ≡ before.out → HoldsOfBook told (MayHaveRepair asked told after.disks)
      → HeldSo told ran
  either_held told ran so unsaid holds = record {
    stood = holds.stood;
    each = λ book. record {
      left = λ image leaves. so book image (elim ((holds.each book).left image leaves)
          [ inl like ↦ inl (unsaid, like) | inr with_it ↦ inr (exactly told book image with_it) ]);
      exact = exact_before told book;
    };
  }

  unrepaired_held : (told : Contents) (stop : Stop)
      → ConcludingStops (repair_limit asked) before.disks stop → after.out ≡ before.out
      → HoldsOfBook told (MayHaveRepair asked told after.disks) → HeldSo told (Err stop)
  unrepaired_held told Disk why = either_held told (Err Disk) (λ stood image has. has)
  unrepaired_held told Memory why = either_held told (Err Memory) (λ stood image has. has)
  unrepaired_held told (Full kind) why =
      either_held told (Err (Full kind)) (λ stood image has. has)
  unrepaired_held told (Damaged disk place) why =
      either_held told (Err (Damaged disk place)) (λ stood image has. has)
  unrepaired_held told _ why = absurd why

  unmarked_held : (told : Contents) (stop : Stop)
      → StoreUnmarked asked before.disks after.disks stop → Tells before.disks told
      → HeldSo told (Err stop)
  unmarked_held told stop unmarked tells =
      subst (λ s. HeldSo told (Err s)) (sym unmarked.why)
      (let holds = unmarked.holds told tells in record {
        stood = holds.stood;
        each = λ book. record {
          left = (holds.each book).left;
          exact = exact_before told book;
        };
      })

  -- each image is so, where it is so of one that has the entry
  with_held : (told : Contents) (one : Repaired) (ran : Result (Unit {0}) Stop)
      → ((stood : BookAt told) (image : Contents) → HasRepairExact asked stood image
      → HasRepaired before after asked told stood image ran)
      → HoldsOfBook told (RepairedOf asked told after.disks one) → HeldSo told ran
  with_held told one ran so holds = record {
    stood = holds.stood;
    each = λ book. let of = holds.each book in record {
      left = λ image leaves. so book image (exactly told book image (record {
        entry = of.entry;
        found = of.found;
        reads = like_drained book.fresh (store_accepted book.book of.entry) image
            (of.left image leaves);
      }));
      exact = exact_before told book;
    };
  }

  settled_held : (told : Contents) (one : Repaired) (paths : List (List ℕ)) (text : List ℕ)
      (ran : Result (Unit {0}) Stop)
      → SettlingEnds paths text before.acts after.acts before.out after.out ran
      → HoldsOfBook told (RepairedOf asked told after.disks one) → HeldSo told ran
  settled_held told one paths text (Ok done) ends =
      with_held told one (Ok done) (λ stood image has. has)
  settled_held told one paths text (Err (Act index)) ends =
      with_held told one (Err (Act index)) (λ stood image has. has)
  settled_held told one paths text (Err Write) ends =
      with_held told one (Err Write) (λ stood image has. inr has)
  settled_held told one paths text (Err Memory) ends =
      with_held told one (Err Memory) (λ stood image has. inr has)
  settled_held told one paths text (Err _) ends = absurd ends

  repair_headline : (ran : Result (Unit {0}) Stop) → after.input ≡ before.input
      → RepairRan asked before.acts after.acts before.out after.out before.disks after.disks ran
      → Headline (Repair asked) before after ran
  repair_headline ran unread (inl stopped) =
      elim stopped.store.went [
        | inl before_it ↦
            inl (unopened before after ran stopped.stop stopped.told unread stopped.unsaid
            before_it.untouched)
        | inr opened ↦ inr (λ told tells.
            subst (HeldSo told) (sym stopped.told) (elim opened [
              | inl unmarked ↦ unmarked_held told stopped.stop unmarked tells
              | inr unrepaired ↦
                  unrepaired_held told stopped.stop unrepaired.why stopped.unsaid
                  (unrepaired.holds told tells)
            ]))
      ]
  repair_headline ran unread (inr settled) = inr (λ told tells.
      settled_held told settled.one settled.one.wanted (ok_text settled.one.number) ran
      settled.settled (settled.store.went told tells))

pub does_repair : (asked : RepairAsked) (now : ℕ) (before after : Outside) (middle : SinkAt)
    (ran : Result (Unit {0}) Stop) (result : ToolStatus) → now < 2 ^ 62 → CanBeSaid now asked
    → RepairRan asked before.acts after.acts before.out middle before.disks after.disks ran
    → EndsAs middle after.out ran result → after.rules ≡ before.rules
    → after.topo ≡ before.topo → after.input ≡ before.input
    → Does (Some (Repair asked)) before after result
does_repair asked now before after middle ran result early said did ends rules topo unread =
    let mid : Outside = record after { out = middle } in (
      ran,
      middle,
      record {
        order = repair_goes asked before mid ran did;
        cause = repair_caused asked before mid ran did;
        quiet = repair_quiet asked before mid ran unread rules topo did;
        did = did;
        headline = repair_headline asked before mid now early said ran unread did;
      },
      ends,
    )

-- what was put after a sink that is as it was
pub settled_from : (paths : List (List ℕ)) (text : List ℕ) (acts acts_now : List ActuatorState)
    (out middle out_now : SinkAt) (ran : Result (Unit {0}) Stop) → middle ≡ out
    → SettlingEnds paths text acts acts_now middle out_now ran
    → SettlingEnds paths text acts acts_now out out_now ran
settled_from paths text acts acts_now out middle out_now ran same ends =
    subst (λ (s : SinkAt). SettlingEnds paths text acts acts_now s out_now ran) same ends
