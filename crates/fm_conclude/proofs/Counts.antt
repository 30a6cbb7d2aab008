-- A drain, a checkpoint and a reading that were done leave each disk's count of failures.
use Rattle.std.proofs.Common.{◌≡◌, ◌≢◌, inl, inr, ℕ, Bool, true, false, List, [], ◌∷◌}
use Rattle.std.proofs.Common.{Option, Some, None, Result, Ok, Err, OnOk, refl, ◌∙◌, ap}
use Rattle.fm_outer.specs.declared.disk.Disk.{Ghosts}
use Rattle.fm_core.specs.Hands.{HandOf}
use Rattle.fm_core.specs.declared.module.Module.{Ghosts as ModuleGhosts}
use Rattle.fm_entry.specs.declared.entry.Entry.{Entry}
use Rattle.fm_logs.specs.LogReads.{ReadsSpoken}
use Rattle.fm_logs.specs.declared.disks.DiskName.{DiskName}
use Rattle.fm_logs.specs.declared.disks.DiskName.TheVariants.{Conf as ConfDisk, ErrA, ErrB, SlotA}
use Rattle.fm_logs.specs.declared.disks.DiskName.TheVariants.{SlotB, Flt}
use Rattle.fm_logs.specs.declared.fault.StoreFault.{StoreFault}
use Rattle.fm_store.specs.StoreCalls.{saves_of, Checkpoints}
use Rattle.fm_store.specs.StoreLeft.{store_disk}
use Rattle.fm_store.specs.StoreOf.{StoreOf, fills_second, of_two}
use Rattle.fm_drain.specs.DrainCalls.{DrainDoes, OnlyCommitted, StaysOpen}
use Rattle.fm_drain.specs.ToBase.{CheckpointFollows, ToBaseBy}
use Rattle.fm_conclude.specs.Concluding.{NoDiskFailed}

ok_err : {X Y : Type 0} {x : X} {y : Y} → Ok x ≡ Err y → ⊥
ok_err same = cc

-- where a reading of the fault log was all, the other disks are as they were
pub others_read : {D M : Type 0} (g : Ghosts D) (old new : StoreOf D M)
    → ReadsSpoken g old.logs new.logs → new.base ≡ old.base → (name : DiskName) → name ≢ Flt
    → store_disk name new ≡ store_disk name old
others_read g old new reads same ConfDisk other = ap (λ b. b.conf.disk) same
others_read g old new reads same ErrA other =
    ap (λ l. of_two l.second l.active.disk new.base.spare) reads.logs_are
    ∙ ap (λ b. of_two old.logs.second old.logs.active.disk b.spare) same
others_read g old new reads same ErrB other =
    ap (λ l. of_two l.second new.base.spare l.active.disk) reads.logs_are
    ∙ ap (λ b. of_two old.logs.second b.spare old.logs.active.disk) same
others_read g old new reads same SlotA other = ap (λ b. b.slot_a) same
others_read g old new reads same SlotB other = ap (λ b. b.slot_b) same
others_read g old new reads same Flt other = absurd (other refl)

-- the one slot's disk is as it was, and the other's count is
slots_count : {D : Type 0} (g : Ghosts D) (f : Bool) (a b c d : D)
    → of_two f d c ≡ of_two f b a → g.failures (of_two f c d) ≡ g.failures (of_two f a b)
    → (g.failures c ≡ g.failures a) × (g.failures d ≡ g.failures b)
slots_count g true a b c d kept next = (ap g.failures kept, next)
slots_count g false a b c d kept next = (next, ap g.failures kept)

module _ {D M : Type 0} (g : Ghosts D) where
  read_counts : (old new : StoreOf D M) → ReadsSpoken g old.logs new.logs
      → new.base ≡ old.base → g.failures new.logs.flt.disk ≡ g.failures old.logs.flt.disk
      → NoDiskFailed g old new
  read_counts old new reads same flt ConfDisk =
      ap g.failures (others_read g old new reads same ConfDisk (λ is. cc is))
  read_counts old new reads same flt ErrA =
      ap g.failures (others_read g old new reads same ErrA (λ is. cc is))
  read_counts old new reads same flt ErrB =
      ap g.failures (others_read g old new reads same ErrB (λ is. cc is))
  read_counts old new reads same flt SlotA =
      ap g.failures (others_read g old new reads same SlotA (λ is. cc is))
  read_counts old new reads same flt SlotB =
      ap g.failures (others_read g old new reads same SlotB (λ is. cc is))
  read_counts old new reads same flt Flt = flt

  -- what is told of the records that were read
  pub told_counts : {X E : Type 0} (old mid new : StoreOf D M) (result : Result X E)
      → NoDiskFailed g old mid → ReadsSpoken g mid.logs new.logs → new.base ≡ mid.base
      → OnOk result (g.failures new.logs.flt.disk ≡ g.failures mid.logs.flt.disk)
      → OnOk result (NoDiskFailed g old new)
  told_counts old mid new (Ok told) quiet reads same flt = λ name.
      read_counts mid new reads same flt name ∙ quiet name
  told_counts old mid new (Err fault) quiet reads same flt = tt

  flt_stays : (old new : StoreOf D M) → StaysOpen g old new
      → g.failures new.logs.flt.disk ≡ g.failures old.logs.flt.disk
  flt_stays old new (inl same) = ap (λ (s : StoreOf D M). g.failures s.logs.flt.disk) same
  flt_stays old new (inr stays) = stays.2

  drain_counts : (old new : StoreOf D M) → OnlyCommitted old new → StaysOpen g old new
      → NoDiskFailed g old new
  drain_counts old new only stays ConfDisk = ap (λ s. g.failures (store_disk ConfDisk s)) only
  drain_counts old new only stays ErrA = ap (λ s. g.failures (store_disk ErrA s)) only
  drain_counts old new only stays ErrB = ap (λ s. g.failures (store_disk ErrB s)) only
  drain_counts old new only stays SlotA = ap (λ s. g.failures (store_disk SlotA s)) only
  drain_counts old new only stays SlotB = ap (λ s. g.failures (store_disk SlotB s)) only
  drain_counts old new only stays Flt = flt_stays old new stays

  checkpoint_counts : (old new : StoreOf D M) (states : List (List ℕ))
      → Checkpoints g old new states → NoDiskFailed g old new
  checkpoint_counts old new states writes ConfDisk =
      ap (λ b. g.failures b.conf.disk) writes.puts.base_is
  checkpoint_counts old new states writes ErrA =
      ap (λ l. g.failures (of_two l.second l.active.disk new.base.spare)) writes.logs_are
      ∙ ap (λ d. g.failures (of_two old.logs.second old.logs.active.disk d)) writes.spare_same
  checkpoint_counts old new states writes ErrB =
      ap (λ l. g.failures (of_two l.second new.base.spare l.active.disk)) writes.logs_are
      ∙ ap (λ d. g.failures (of_two old.logs.second d old.logs.active.disk)) writes.spare_same
  checkpoint_counts old new states writes SlotA =
      (slots_count g (fills_second old.base.newest) old.base.slot_a old.base.slot_b
      new.base.slot_a new.base.slot_b writes.puts.kept_same writes.puts.no_failure).0
  checkpoint_counts old new states writes SlotB =
      (slots_count g (fills_second old.base.newest) old.base.slot_a old.base.slot_b
      new.base.slot_a new.base.slot_b writes.puts.kept_same writes.puts.no_failure).1
  checkpoint_counts old new states writes Flt = ap (λ l. g.failures l.flt.disk) writes.logs_are

module _ {D M : Type 0} (g : Ghosts D) (m : ModuleGhosts M) where
  both_count : (old mid new : StoreOf D M) (hands now : List (HandOf M))
      (answer : Result Unit StoreFault) (done : Unit) → DrainDoes g m old mid hands now answer
      → CheckpointFollows g m mid new now answer (Ok done) → NoDiskFailed g old new
  both_count old mid new hands now (Ok drained) done drain writes name =
      checkpoint_counts g mid new (saves_of m now) writes name
      ∙ drain_counts g old mid drain.only drain.answer.open_still name
  both_count old mid new hands now (Err fault) done drain writes name =
      absurd (ok_err writes.1)

  pub base_counts : (closed : Option (DiskName × ℕ)) (es : List Entry) (old new : StoreOf D M)
      (hands now : List (HandOf M)) (done : Unit)
      → ToBaseBy closed es g m old new hands now (Ok done) → NoDiskFailed g old new
  base_counts (Some failed) es old new hands now done does name = absurd (ok_err does.2)
  base_counts None [] old new hands now done does name =
      ap (λ (s : StoreOf D M). g.failures (store_disk name s)) does.0
  base_counts None (e ∷ es) old new hands now done does name =
      both_count old does.after_drain new hands now does.answer done does.drain does.checkpoint name
