-- The modules so far are loaded, and the others are left.
use Rattle.std.proofs.Common.{◌≡◌, take, drop}
use Rattle.fm_logs.specs.ReadsAsBook.{AreLoaded}
use Rattle.fm_store.specs.Loading.{AreSilent, states_of}
use Rattle.fm_store.specs.StoreOf.{made_modules}
use Rattle.fm_store.proofs.loading.load_all.Given as goal

abbrev pub invariant-saves : goal.invariant-saves
invariant-saves g l = record {
  left : l.rest.items ≡ drop l.save-index l.fn.fresh.items;
  loaded : AreLoaded (made_modules g.M.Module (take l.save-index l.fn.fresh.items))
      (take l.save-index l.saves) (states_of g.M.Module l.modules.items);
  silent : AreSilent l.modules.items;
}
