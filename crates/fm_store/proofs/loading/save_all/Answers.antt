-- One module more is saved.
use Rattle.std.proofs.Common.{rules, ◌+◌, refl, sym, length, take, subst}
use Rattle.std.proofs.lemmas.Option.{slice_get_read}
use Rattle.fm_logs.specs.ReadsAsBook.{AreLoaded}
use Rattle.fm_store.specs.StoreOf.{made_modules}
use Rattle.fm_store.proofs.Loads.{saved_next}
use Rattle.fm_store.proofs.loading.save_all.Goals as goal

pub modules-preserved : goal.modules-preserved
modules-preserved g c =
    subst (λ l. AreLoaded (made_modules g.M.Module
    (take (c.modules.object-index + 1) c.args.modules.now)) l
    (made_modules g.M.Module (take (c.modules.object-index + 1) c.args.modules.now)))
    (sym c.in_ok-push.ensures.items)
    (saved_next g.M.Module c.args.modules.now c.modules.object-index c.object-item.result
    c.modules.saves.items c.in_ok-new.field-0
    (slice_get_read c.args.modules.now (length c.args.modules.now) c.modules.object-index
    c.object-item.result refl c.modules-test.true c.object-item.is)
    c.modules.invariant c.save.ensures.holds (search rules))
