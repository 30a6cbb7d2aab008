use Rattle.std.proofs.Common.{◌<◌, ◌≤◌, ◌+◌, ℕ, List, length, sym, subst}
use Rattle.fm_topo.specs.Reading.{IsAt}
use Rattle.fm_topo.proofs.Stepping.{at_next, at_end}
use Rattle.fm_topo.proofs.Ranges.{rest_all}
use Rattle.fm_topo.proofs.reader.step.Goals as goal

pub returns-then-at-rest-clause-next : goal.returns-then-at-rest-clause-next
returns-then-at-rest-clause-next c =
    let before : IsAt c.args.text.now c.args.number c.args.rest.now c.args.found.now.entries =
    record {
      lines = c.requires.lines;
      clean = c.requires.clean;
      topology = c.requires.topology;
      size = c.requires.size;
      short = c.requires.short;
      count = c.requires.count;
    } in
    let h = at_next c.args.text.now c.args.rest.now c.args.number c.find_byte-at.result
    c.min-last.result c.args.found.now.entries c.take_line.new.found.entries
    before c.find_byte-at.ensures.same c.if-at-rest.true c.min-last.ensures c.in-Ok.ensures.clean
    c.in-Ok.ensures.taken in
    subst (λ (r : List ℕ). IsAt c.args.text.now (c.args.number + 1) r c.take_line.new.found.entries
    × (length r < length c.args.rest.now) × (c.args.number + 1 ≤ 16777216))
    (sym (rest_all (c.find_byte-at.result + 1) c.args.rest.now)) h

pub returns-else-at-rest-clause-next : goal.returns-else-at-rest-clause-next
returns-else-at-rest-clause-next c =
    let before : IsAt c.args.text.now c.args.number c.args.rest.now c.args.found.now.entries =
    record {
      lines = c.requires.lines;
      clean = c.requires.clean;
      topology = c.requires.topology;
      size = c.requires.size;
      short = c.requires.short;
      count = c.requires.count;
    } in
    at_end c.args.text.now c.args.rest.now c.args.number c.find_byte-at.result c.min-last.result
    c.args.found.now.entries c.take_line.new.found.entries
    before c.find_byte-at.ensures.same c.if-at-rest.false c.find_byte-at.ensures.bound
    c.min-last.ensures c.in-Ok.ensures.clean c.in-Ok.ensures.taken
