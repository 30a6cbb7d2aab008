use Rattle.std.proofs.Common.{rules, sym, subst, map}
use Rattle.fm_status.specs.Wanted.{IsWantedOf}
use Rattle.fm_adm.proofs.Summed.{summed}
use Rattle.fm_adm.proofs.summary.write_summary.Goals as goal

pub returns-clause-ok : goal.returns-clause-ok
returns-clause-ok c =
    summed c.args.entries c.args.open_cases.now
    (map (λ row. row.now) c.deref.result.now) c.args.status.now c.in_ok-lines.lines.items
    c.paths.result.now c.args.out.now.items c.extend_from_slice.new.self.items
    c.put_counts.new.out.items c.put_case_lines.new.out.items c.put_retire_lines.new.out.items
    (search rules) c.in_ok-lines.ensures.all c.in_ok-lines.ensures.order
    (subst (IsWantedOf c.args.status.now) (sym c.paths.ensures.same) c.in_ok-wanted.ensures)
    (search rules) (search rules) (search rules) (search rules)
