use Rattle.std.proofs.Common.{ap, ◌∙◌}
use Rattle.std.specs.List.{filter}
use Rattle.dx_case.specs.Candidates.{covers}
use Rattle.dx_case.proofs.Inserting.{write_back, same_count}
use Rattle.dx_case.proofs.case.Case.cut.Goals as goal

pub returns-clause-changed : goal.returns-clause-changed
returns-clause-changed c =
    let old = c.args.self.now.candidates.items in
    let new = c.change_each.new.candidates in
    let changed = rw c.as_mut_slice.ensures.value at c.change_each.ensures in
    record {
      mid = new;
      changed = changed;
      kept = c.settle.ensures.kept
          ∙ ap (filter (covers c.args.self.now.observed.items))
          (write_back c.args.self.now.candidates.len new old changed.count
          (same_count c.args.self.now.candidates.len _ old c.as_mut_slice.ensures.value
          c.as_mut_slice.ensures.len));
      waiting = c.settle.ensures.waiting;
    }
