-- The saves so far are those of the modules so far.
use Rattle.std.proofs.Common.{take}
use Rattle.fm_logs.specs.ReadsAsBook.{AreLoaded}
use Rattle.fm_store.specs.StoreOf.{made_modules}
use Rattle.fm_store.proofs.loading.save_all.Given as goal

abbrev pub invariant-modules : goal.invariant-modules
invariant-modules g l =
    AreLoaded (made_modules g.M.Module (take l.object-index l.modules)) l.saves.items
    (made_modules g.M.Module (take l.object-index l.modules))
