-- One module more is loaded, or its state is no save.
use Rattle.std.proofs.Common.{rules, ◌∙◌, ◌<◌, refl, sym, ap, length, arith, length-drop, subst}
use Rattle.std.proofs.Common.{List, ◌+◌, take}
use Rattle.std.proofs.lemmas.Option.{slice_get_read}
use Rattle.fm_core.proofs.Lists.{map_get}
use Rattle.fm_logs.specs.ReadsAsBook.{AreLoaded}
use Rattle.fm_store.specs.Loading.{AreSilent, states_of}
use Rattle.fm_store.specs.StoreOf.{made_modules}
use Rattle.fm_store.proofs.Loads.{front, next_left, none_loaded, loaded_next, silent_push}
use Rattle.fm_store.proofs.loading.load_all.Goals as goal

pub returns-in_err-load_one-clause-bad : goal.returns-in_err-load_one-clause-bad
returns-in_err-load_one-clause-bad g c = λ bad modules loaded.
    let some : 0 < length c.saves.rest.items =
    omega (
      arith,
      ap (λ (l : List _). length l) c.saves.invariant.left,
      length-drop c.saves.save-index c.args.fresh.items,
      c.requires.as_many,
      c.saves-test.true,
    ) in
    let is = sym c.saves.invariant.left
    ∙ front c.saves.rest.items c.remove-object.result c.remove-object.new.self.items some
    c.remove-object.ensures.value c.remove-object.ensures.items in
    let there = next_left c.args.fresh.items c.saves.save-index c.remove-object.result
    c.remove-object.new.self.items is in
    none_loaded (made_modules g.M.Module c.args.fresh.items) c.args.saves.now modules
    c.saves.save-index
    (record {
      meaning = g.M.Module.meaning c.remove-object.result;
      state = g.M.Module.state c.remove-object.result;
    })
    c.save-item.result
    (map_get (λ m. record { meaning = g.M.Module.meaning m; state = g.M.Module.state m })
    c.args.fresh.items c.saves.save-index c.remove-object.result there.0)
    (slice_get_read c.args.saves.now (length c.args.saves.now) c.saves.save-index
    c.save-item.result refl c.saves-test.true c.save-item.is)
    (c.load_one.ensures.bad (search rules)) loaded

pub saves-preserved : goal.saves-preserved
saves-preserved g c =
    let some : 0 < length c.saves.rest.items =
    omega (
      arith,
      ap (λ (l : List _). length l) c.saves.invariant.left,
      length-drop c.saves.save-index c.args.fresh.items,
      c.requires.as_many,
      c.saves-test.true,
    ) in
    let is = sym c.saves.invariant.left
    ∙ front c.saves.rest.items c.remove-object.result c.remove-object.new.self.items some
    c.remove-object.ensures.value c.remove-object.ensures.items in
    let there = next_left c.args.fresh.items c.saves.save-index c.remove-object.result
    c.remove-object.new.self.items is in
    record {
      left = sym there.1;
      loaded = subst (λ l. AreLoaded (made_modules g.M.Module
          (take (c.saves.save-index + 1) c.args.fresh.items))
          (take (c.saves.save-index + 1) c.args.saves.now) (states_of g.M.Module l))
          (sym c.in_ok-push.ensures.items)
          (loaded_next g.M.Module c.args.fresh.items c.args.saves.now c.saves.save-index
          c.remove-object.result c.save-item.result c.saves.modules.items
          c.in_ok-load_one.field-0 there.0
          (slice_get_read c.args.saves.now (length c.args.saves.now) c.saves.save-index
          c.save-item.result refl c.saves-test.true c.save-item.is)
          c.saves.invariant.loaded c.in_ok-load_one.ensures.made c.in_ok-load_one.ensures.holds
          c.in_ok-load_one.ensures.saved);
      silent = subst AreSilent (sym c.in_ok-push.ensures.items)
          (silent_push g.M.Module c.saves.modules.items c.in_ok-load_one.field-0
          c.saves.invariant.silent c.in_ok-load_one.ensures.silent);
    }
