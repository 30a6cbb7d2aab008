use Rattle.std.proofs.Common.{None}
use Rattle.ev_incidence.specs.Sets.{is_member}
use Rattle.dx_explain.specs.Cases.{cuts_of}
use Rattle.dx_case.specs.Changes.{gone_of}
use Rattle.dx_case.specs.Cases.{case_parts, open_case, allowed_at}
use Rattle.dx_case.proofs.Steps.{lives_of, lost, finished}
use Rattle.dx_case.proofs.case.Case.finish.Goals as goal

pub lose-requires : goal.lose-requires
lose-requires c =
    let p = case_parts c.args.self.now in
    record {
      lives = lives_of c.args.graph.now (cuts_of (open_case p)) (is_member p.observed)
          (allowed_at c.args.graph.now p.time (open_case p)) p.candidates p.reports
          c.requires.candidates;
      ascend = c.requires.observed_ascend;
      reports = c.requires.candidates.reports_are;
    }

pub returns : goal.returns
returns c =
    let g = c.args.graph.now in
    let p = case_parts c.args.self.now in
    let s = c.lose.ensures.same in
    let settled = c.lose.ensures.changed in
    record {
      case = rw (s.opened, s.time, s.observed, s.broken, s.reports) (lost g p c.requires
          c.lose.new.self.number c.lose.new.self.entries.items None c.lose.new.self.until
          c.lose.new.self.candidates.items c.lose.new.self.waiting
          (gone_of g.nodes p.reports p.observed None) settled.mid
          settled.changed settled.kept settled.waiting (finished g p c.requires) tt);
      «open» = s.open_same;
      time = s.time;
    }
