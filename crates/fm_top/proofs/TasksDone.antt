-- From an open store that a task is done with to what its disks hold.
use Rattle.std.proofs.Common.{◌≡◌, ℕ, List, Some, Result, Ok, Err, refl, subst}
use Rattle.std.specs.Global.{Vec}
use Rattle.std.proofs.Common.{sym}
use Rattle.dx_engine.specs.Diagnosers.{DiagnoserOf}
use Rattle.fm_admin.specs.declared.repairing.Repaired.{Repaired as RepairedEntry}
use Rattle.fm_answers.specs.Accounts.{Accounts}
use Rattle.fm_answers.specs.StreamsAt.{SourceAt, SinkAt}
use Rattle.fm_answers.specs.Stops.{of_store}
use Rattle.fm_answers.specs.declared.stops.Stop.{Stop}
use Rattle.fm_answers.specs.declared.stops.Stop.TheVariants.{Read, Write}
use Rattle.fm_command.specs.RepairAsked.{RepairAsked}
use Rattle.fm_conclude.specs.declared.concluding.Conclusion.{Conclusion}
use Rattle.fm_core.specs.Hands.{HandOf}
use Rattle.fm_logs.specs.Contents.{Contents, AreTold, WereOnlyRead, disk_named}
use Rattle.fm_logs.specs.declared.disks.DiskName.{DiskName}
use Rattle.fm_logs.specs.declared.disks.Disks.{Disks}
use Rattle.fm_logs.specs.declared.fault.StoreFault.{StoreFault}
use Rattle.fm_modules.specs.OpenStore.{OpenStoreRefused}
use Rattle.fm_outer.specs.Moments.{OnlyRead}
use Rattle.fm_outer.specs.declared.disk.Disk.{Ghosts}
use Rattle.fm_saved.specs.declared.conf.Conf.{Conf}
use Rattle.fm_sources.specs.declared.sources.Sources.{Sources}
use Rattle.fm_store.specs.StoreLeft.{store_disk, AreDisksOf}
use Rattle.fm_store.specs.StoreOf.{StoreOf}
use Rattle.fm_top.specs.Accepting.{AcceptRan}
use Rattle.fm_top.specs.Fmd.{StoreRan}
use Rattle.fm_top.specs.Generate.{GenerateTried, LinesTried}
use Rattle.fm_top.specs.Outside.{DisksAt, disks_at}
use Rattle.fm_top.specs.Repair.{RepairTried}
use Rattle.fm_top.specs.Tasks.{TaskDoes, TaskRan}
use Rattle.fm_top.specs.declared.tasks.StoreTask.{StoreTask}
use Rattle.fm_top.specs.declared.tasks.StoreTask.TheVariants.{Accept, Fmd, Admin, Repair, Explain}
use Rattle.fm_top.specs.declared.tasks.StoreTask.TheVariants.{Generate, GeneratedLines}
use Rattle.fm_top.specs.declared.tasks.TaskDone.{TaskDone}
use Rattle.fm_top.specs.declared.tasks.TaskDone.TheVariants.{Nothing, Concluded, Text, Repaired}
use Rattle.fm_top.proofs.Accepts.{not_opened, opened_ran}
use Rattle.fm_top.proofs.Explains.{explain_halted, explain_tried, explain_unopened}
use Rattle.fm_top.proofs.Fmds.{unopened_ran, worked_ran}
use Rattle.fm_top.proofs.OpenedDisks.{OpenAt}
use Rattle.fm_top.proofs.Generates.{generate_halted, generate_tried, generate_unopened}
use Rattle.fm_top.proofs.Generates.{lines_halted, lines_tried, lines_unopened}
use Rattle.fm_top.proofs.Repairs.{repair_halted, repair_tried, repair_unopened}
use Rattle.fm_top.proofs.Texts.{asked_told, asked_untold, unopened_asked}

-- what is said of a task is said of the one that it is
pub does_task : {D : Type 0} (g : Ghosts D) (t u : StoreTask) (old new : StoreOf D DiagnoserOf)
    (hands : List (HandOf DiagnoserOf)) (conf : Conf) (input input_now : SourceAt)
    (out out_now : SinkAt) (r : Result TaskDone Stop) → t ≡ u
    → TaskDoes g u old new hands conf input input_now out out_now r
    → TaskDoes g t old new hands conf input input_now out out_now r
does_task g t u old new hands conf input input_now out out_now r same does =
    subst (λ s. TaskDoes g s old new hands conf input input_now out out_now r) (sym same) does

pub task_unopened : {D : Type 0} (g : Ghosts D) (disks disks_now : Disks D) (task : StoreTask)
    (input : SourceAt) (out : SinkAt) (fault : StoreFault)
    → OpenStoreRefused g disks disks_now fault → WereOnlyRead g disks disks_now
    → TaskRan task input input out out (disks_at g disks) (disks_at g disks_now)
    (Err (of_store fault))
task_unopened g disks disks_now Accept input out fault refused read =
    not_opened g disks disks_now input out fault refused read
task_unopened g disks disks_now (Fmd got) input out fault refused read =
    unopened_ran g disks disks_now got input out fault refused read
task_unopened g disks disks_now (Admin asked) input out fault refused read =
    (refl, unopened_asked g disks disks_now asked fault refused read)
task_unopened g disks disks_now (Repair asked) input out fault refused read =
    (refl, repair_unopened g disks disks_now asked fault refused read)
task_unopened g disks disks_now (Explain uuid) input out fault refused read =
    (refl, explain_unopened g disks disks_now uuid fault refused read)
task_unopened g disks disks_now (Generate number) input out fault refused read =
    (refl, generate_unopened g disks disks_now number fault refused read)
task_unopened g disks disks_now (GeneratedLines number) input out fault refused read =
    (refl, lines_unopened g disks disks_now number fault refused read)

module _ {D : Type 0} (g : Ghosts D)
    (seen_is_image : (disk : D) (c : List ℕ) → g.seen disk ≡ Some c → g.images disk c)
    (disks disks_now : Disks D) (first new : StoreOf D DiagnoserOf)
    (hands : List (HandOf DiagnoserOf)) (conf : Conf)
    (input input_now : SourceAt) (out out_now : SinkAt)
    (read : (name : DiskName) → OnlyRead g (disk_named name disks) (store_disk name first))
    (kept : (name : DiskName)
    → g.failures (store_disk name first) ≡ g.failures (disk_named name disks))
    (opened : (c : Contents) → AreTold g disks c → OpenAt g first hands conf c)
    (are : AreDisksOf new disks_now) where
  pub task_ran : (task : StoreTask) (r : Result TaskDone Stop)
      → TaskDoes g task first new hands conf input input_now out out_now r
      → Accounts Read input.failures input_now.failures r
      → Accounts Write out.failures out_now.failures r
      → TaskRan task input input_now out out_now (disks_at g disks) (disks_at g disks_now) r
  task_ran Accept (Ok Nothing) does counts_input counts_out =
      opened_ran g seen_is_image disks disks_now first new input input_now out out_now (Ok tt) read
      kept (λ c told. let at = opened c told in (at.stood, at.stands)) are does tt counts_input
      counts_out
  task_ran Accept (Err stop) does counts_input counts_out =
      opened_ran g seen_is_image disks disks_now first new input input_now out out_now (Err stop)
      read kept (λ c told. let at = opened c told in (at.stood, at.stands)) are tt does counts_input
      counts_out
  task_ran (Fmd got) (Ok (Concluded conclusion)) does counts_input counts_out =
      worked_ran g seen_is_image disks disks_now first new hands conf got input input_now out
      out_now read kept opened are (Ok conclusion) does counts_input counts_out
  task_ran (Fmd got) (Err stop) does counts_input counts_out =
      worked_ran g seen_is_image disks disks_now first new hands conf got input input_now out
      out_now read kept opened are (Err stop) does counts_input counts_out
  task_ran (Admin asked) (Ok (Text text)) does counts_input counts_out = (
    does.1,
    asked_told g disks disks_now first new hands conf asked kept opened are seen_is_image
        read text does.2,
  )
  task_ran (Admin asked) (Err stop) does counts_input counts_out = (
    does.1,
    asked_untold g disks disks_now first new hands conf asked kept opened are seen_is_image
        read stop does.2.0 does.2.1 does.2.2,
  )
  task_ran (Repair asked) (Ok (Repaired one)) does counts_input counts_out =
      (does.1, repair_tried g disks disks_now first new hands conf asked kept opened are one does.2)
  task_ran (Repair asked) (Err stop) does counts_input counts_out = (
    does.1,
    repair_halted g disks disks_now first new hands conf asked kept opened are seen_is_image
        read stop does.2,
  )
  task_ran (Explain uuid) (Ok (Text text)) does counts_input counts_out = (
    does.1,
    explain_tried g disks disks_now first new hands conf uuid kept opened are text does.2,
  )
  task_ran (Explain uuid) (Err stop) does counts_input counts_out = (
    does.1,
    explain_halted g disks disks_now first new hands conf uuid kept opened are seen_is_image
        read stop does.2,
  )
  task_ran (Generate number) (Ok (Concluded conclusion)) does counts_input counts_out = (
    does.1,
    generate_tried g disks disks_now first new hands conf number kept opened are read conclusion
        does.2,
  )
  task_ran (Generate number) (Err stop) does counts_input counts_out = (
    does.1,
    generate_halted g disks disks_now first new hands conf number kept opened are read
        seen_is_image stop does.2,
  )
  task_ran (GeneratedLines number) (Ok (Text text)) does counts_input counts_out = (
    does.1,
    lines_tried g disks disks_now first new hands conf number kept opened are read text
        does.2,
  )
  task_ran (GeneratedLines number) (Err stop) does counts_input counts_out = (
    does.1,
    lines_halted g disks disks_now first new hands conf number kept opened are read stop
        does.2,
  )
  task_ran _ _ does counts_input counts_out = absurd does

-- ---- what a command takes of it

pub accept_did : (input input_now : SourceAt) (out out_now : SinkAt) (disks disks_now : DisksAt)
    (done : TaskDone) → TaskRan Accept input input_now out out_now disks disks_now (Ok done)
    → AcceptRan input input_now out out_now disks disks_now (Ok tt)
accept_did input input_now out out_now disks disks_now Nothing ran = ran
accept_did input input_now out out_now disks disks_now (Concluded conclusion) ran = absurd ran
accept_did input input_now out out_now disks disks_now (Text text) ran = absurd ran
accept_did input input_now out out_now disks disks_now (Repaired one) ran = absurd ran

pub fmd_did : (got : Sources) (done : TaskDone) (conclusion : Conclusion)
    (input input_now : SourceAt) (out out_now : SinkAt) (disks disks_now : DisksAt)
    → done ≡ Concluded conclusion
    → TaskRan (Fmd got) input input_now out out_now disks disks_now (Ok done)
    → StoreRan input input_now out out_now disks disks_now got (Ok conclusion)
fmd_did got Nothing conclusion input input_now out out_now disks disks_now is ran = absurd ran
fmd_did got (Text text) conclusion input input_now out out_now disks disks_now is ran = absurd ran
fmd_did got (Repaired one) conclusion input input_now out out_now disks disks_now is ran =
    absurd ran
fmd_did got (Concluded found) conclusion input input_now out out_now disks disks_now is ran =
    subst (λ done. TaskRan (Fmd got) input input_now out out_now disks disks_now (Ok done)) is ran

pub repair_did : (asked : RepairAsked) (done : TaskDone) (one : RepairedEntry)
    (input input_now : SourceAt) (out out_now : SinkAt) (disks disks_now : DisksAt)
    → done ≡ Repaired one
    → TaskRan (Repair asked) input input_now out out_now disks disks_now (Ok done)
    → (out_now ≡ out) × RepairTried asked disks disks_now (Ok one)
repair_did asked Nothing one input input_now out out_now disks disks_now is ran = absurd ran
repair_did asked (Text text) one input input_now out out_now disks disks_now is ran = absurd ran
repair_did asked (Concluded conclusion) one input input_now out out_now disks disks_now is ran =
    absurd ran
repair_did asked (Repaired found) one input input_now out out_now disks disks_now is ran =
    subst (λ done. TaskRan (Repair asked) input input_now out out_now disks disks_now (Ok done)) is
    ran

pub generate_did : (number : ℕ) (done : TaskDone) (conclusion : Conclusion)
    (input input_now : SourceAt) (out out_now : SinkAt) (disks disks_now : DisksAt)
    → done ≡ Concluded conclusion
    → TaskRan (Generate number) input input_now out out_now disks disks_now (Ok done)
    → (out_now ≡ out) × GenerateTried number disks disks_now (Ok conclusion)
generate_did number Nothing conclusion input input_now out out_now disks disks_now is ran =
    absurd ran
generate_did number (Text text) conclusion input input_now out out_now disks disks_now is ran =
    absurd ran
generate_did number (Repaired one) conclusion input input_now out out_now disks disks_now is ran =
    absurd ran
generate_did number (Concluded found) conclusion input input_now out out_now disks disks_now
    is ran =
    subst (λ done. TaskRan (Generate number) input input_now out out_now disks disks_now (Ok done))
    is ran

pub lines_did : (number : ℕ) (done : TaskDone) (text : Vec ℕ)
    (input input_now : SourceAt) (out out_now : SinkAt) (disks disks_now : DisksAt)
    → done ≡ Text text
    → TaskRan (GeneratedLines number) input input_now out out_now disks disks_now (Ok done)
    → (out_now ≡ out) × LinesTried number disks disks_now (Ok text.items)
lines_did number Nothing text input input_now out out_now disks disks_now is ran = absurd ran
lines_did number (Concluded one) text input input_now out out_now disks disks_now is ran =
    absurd ran
lines_did number (Repaired one) text input input_now out out_now disks disks_now is ran = absurd ran
lines_did number (Text found) text input input_now out out_now disks disks_now is ran =
    subst
    (λ done. TaskRan (GeneratedLines number) input input_now out out_now disks disks_now (Ok done))
    is ran
