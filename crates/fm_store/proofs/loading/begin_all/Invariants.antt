-- The modules so far, before those that are left.
use Rattle.std.proofs.Common.{◌≡◌, ◌++◌, length}
use Rattle.fm_store.specs.Loading.{AreSilent, states_of}
use Rattle.fm_store.specs.StoreOf.{made_modules}
use Rattle.fm_store.proofs.loading.begin_all.Given as goal

abbrev pub decreases-rest : goal.decreases-rest
decreases-rest g l = length l.rest.items

abbrev pub invariant-rest : goal.invariant-rest
invariant-rest g l = record {
  begun : states_of g.M.Module l.modules.items ++ made_modules g.M.Module l.rest.items
      ≡ made_modules g.M.Module l.fn.fresh.items;
  silent : AreSilent l.modules.items;
}
