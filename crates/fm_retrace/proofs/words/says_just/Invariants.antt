-- What was said along the entries so far.
use Rattle.std.proofs.Common.{◌≡◌, ◌+◌, take}
use Rattle.fm_core.specs.Folds.{state_along, words_along}
use Rattle.fm_retrace.specs.Logged.{said_below}
use Rattle.fm_retrace.proofs.words.says_just.Given as goal

abbrev pub invariant-entries : goal.invariant-entries
invariant-entries g l =
    let m = g.M.Module.meaning l.fn.object in
    let s = g.M.Module.state l.fn.object in
    record {
      number_is : l.number ≡ l.first + l.entry-index;
      meaning_is : g.M.Module.meaning l.object ≡ m;
      state_is : g.M.Module.state l.object ≡ state_along m s l.first (take l.entry-index l.entries);
      said : words_along m s l.first (take l.entry-index l.entries)
          ≡ said_below (l.first + l.entry-index) l.record;
    }
