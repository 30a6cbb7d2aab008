use Rattle.std.proofs.Common.{◌-◌, Some, refl, arith}
use Rattle.ev_incidence.specs.Sets.{is_member}
use Rattle.dx_explain.specs.Cases.{cuts_of}
use Rattle.dx_case.specs.Changes.{gone_of}
use Rattle.dx_case.specs.Cases.{case_parts, open_case, allowed_at}
use Rattle.dx_case.proofs.Steps.{lives_of, lost, expired, quiet}
use Rattle.dx_case.proofs.case.Case.expire.Goals as goal

pub lose-requires : goal.lose-requires
lose-requires c =
    let p = case_parts c.args.self.now in
    record {
      lives = lives_of c.args.graph.now (cuts_of (open_case p)) (is_member p.observed)
          (allowed_at c.args.graph.now p.time (open_case p)) p.candidates p.reports
          c.requires.case.candidates;
      ascend = c.requires.case.observed_ascend;
      reports = c.requires.case.candidates.reports_are;
    }

pub returns-then-self-age : goal.returns-then-self-age
returns-then-self-age c =
    let g = c.args.graph.now in
    let p = case_parts c.args.self.now in
    let s = c.lose.ensures.same in
    let settled = rw c.saturating_sub-age.ensures at c.lose.ensures.changed in
    let awaited = rw (
      c.nodes.ensures.nodes,
      c.as_slice.ensures.value,
      s.reports,
      c.saturating_sub-age.ensures,
    ) at c.awaited_until-self.ensures in
    record {
      case = rw (s.opened, s.time, s.observed, s.broken, s.reports) (lost g p c.requires.case
          c.lose.new.self.number c.lose.new.self.entries.items (Some c.args.moment)
          c.awaited_until-self.result c.lose.new.self.candidates.items c.lose.new.self.waiting
          (gone_of g.nodes p.reports p.observed (Some (c.args.moment - p.opened))) settled.mid
          settled.changed settled.kept settled.waiting
          (expired g p c.requires.case c.args.moment c.requires.before) awaited);
      «open» = s.open_same;
      time = s.time;
    }

pub returns-else-self-age : goal.returns-else-self-age
returns-else-self-age c =
    let g = c.args.graph.now in
    let p = case_parts c.args.self.now in
    record {
      case = quiet g p c.requires.case c.args.moment c.requires.before
          (omega (arith, c.if-self-age.false, c.saturating_sub-age.ensures));
      «open» = refl;
      time = refl;
    }
