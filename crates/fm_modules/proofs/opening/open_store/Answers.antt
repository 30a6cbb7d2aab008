-- What the opening is to the disks that were handed in.
use Rattle.std.proofs.Common.{◌≡◌, ◌∙◌}
use Rattle.std.proofs.lemmas.Result.{IfErr-weaker, IfOk-weaker}
use Rattle.fm_logs.specs.Contents.{Contents, AreTold, disk_named}
use Rattle.fm_logs.specs.declared.disks.DiskName.{DiskName}
use Rattle.fm_store.specs.Opened.{Opens, disks_of}
use Rattle.fm_store.specs.StoreLeft.{store_disk}
use Rattle.fm_modules.specs.OpenStore.{ModulesRefused, OpenStoreRefused, OpensStore}
use Rattle.fm_modules.proofs.StoreModules.{opening_refused, still_told, then_refused}
use Rattle.fm_modules.proofs.opening.open_store.Goals as goal

pub returns-in-Ok-clause-opens : goal.returns-in-Ok-clause-opens
returns-in-Ok-clause-opens g c =
    IfOk-weaker c.with_modules.result
    (λ s. (contents : Contents) → Opens g.D.Disk contents c.in-Ok.opened
    → AreTold g.D.Disk (disks_of c.in-Ok.opened) contents → OpensStore g.D.Disk contents s)
    (λ s. (contents : Contents) → AreTold g.D.Disk c.args.disks contents
    → OpensStore g.D.Disk contents s)
    (λ s each contents told. each contents (c.in-Ok.ensures.does contents told)
    (still_told g.D.Disk c.args.disks (disks_of c.in-Ok.opened) contents c.in-Ok.ensures.still
    told)) c.with_modules.ensures.opens

pub returns-in-Ok-clause-counts_kept : goal.returns-in-Ok-clause-counts_kept
returns-in-Ok-clause-counts_kept g c =
    IfOk-weaker c.with_modules.result
    (λ s. (name : DiskName) → g.D.Disk.failures (store_disk name s.store)
    ≡ g.D.Disk.failures (disk_named name (disks_of c.in-Ok.opened)))
    (λ s. (name : DiskName) → g.D.Disk.failures (store_disk name s.store)
    ≡ g.D.Disk.failures (disk_named name c.args.disks))
    (λ s each name. each name ∙ c.in-Ok.ensures.counts_kept name)
    c.with_modules.ensures.counts_kept

pub returns-in-Ok-clause-refused : goal.returns-in-Ok-clause-refused
returns-in-Ok-clause-refused g c =
    IfErr-weaker c.with_modules.result
    (λ r. ModulesRefused g.D.Disk c.in-Ok.opened r.disks r.fault)
    (λ r. OpenStoreRefused g.D.Disk c.args.disks r.disks r.fault)
    (λ r refused. then_refused g.D.Disk c.args.disks c.in-Ok.opened r.disks r.fault
    c.in-Ok.ensures.does c.in-Ok.ensures.still c.in-Ok.ensures.counts_kept refused)
    c.with_modules.ensures.refused

pub returns-in-Err-clause-refused : goal.returns-in-Err-clause-refused
returns-in-Err-clause-refused g c =
    opening_refused g.D.Disk c.args.disks c.in-Err.refused.disks c.in-Err.refused.fault
    c.in-Err.ensures.does
