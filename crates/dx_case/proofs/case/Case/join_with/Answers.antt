use Rattle.std.proofs.Common.{List, ltb, map, refl, ap, ◌∙◌}
use Rattle.ev_incidence.specs.Sets.{is_member}
use Rattle.ev_graph.specs.declared.instances.Link.{Link}
use Rattle.dx_explain.specs.Cases.{cuts_of, inserted, broken_of, with_links}
use Rattle.dx_case.specs.Cases.{case_parts, open_case, allowed_at}
use Rattle.dx_case.proofs.Standing.{taken_allowed, taken_report}
use Rattle.dx_case.proofs.Steps.{lives_of, joined_case}
use Rattle.dx_case.proofs.case.Case.join_with.Goals as goal

pub cut-requires : goal.cut-requires
cut-requires c =
    let p = case_parts c.args.self.now in
    record {
      lives = lives_of c.args.graph.now (cuts_of (open_case p)) (is_member p.observed)
          (allowed_at c.args.graph.now p.time (open_case p)) p.candidates p.reports
          c.requires.case.candidates;
      ascend = rw c.new.ensures.items c.in_ok-put_number.ensures.ascend;
    }

pub returns : goal.returns
returns c =
    let g = c.args.graph.now in
    let p = case_parts c.args.self.now in
    let s = c.cut.ensures.same in
    let settled = rw c.new.ensures.items at c.cut.ensures.changed in
    let obs = c.in_ok-put_number.ensures.put
    ∙ ap (inserted ltb c.args.node) (c.in_ok-observed.ensures.items ∙ c.as_slice.ensures.value) in
    let brk = c.in_ok-put_links.ensures.put
    ∙ ap (λ (ls : List Link). with_links c.args.broken.now (map broken_of ls))
    (c.in_ok-links.ensures.items ∙ c.as_slice-2.ensures.value) in
    record {
      case = rw (s.opened, s.time, s.until, s.observed, c.new.ensures.items, s.broken, s.reports)
          (joined_case g p
          c.requires.case c.args.node c.args.broken.now c.put_number.new.list.items
          c.put_links.new.list.items obs brk
          (taken_allowed g c.args.self.now c.requires.case c.args.node c.requires.fits)
          (taken_report g c.args.self.now c.requires.case c.args.node c.requires.fits)
          c.cut.new.self.number c.cut.new.self.entries.items c.cut.new.self.candidates.items
          c.cut.new.self.waiting settled.mid c.in_ok-put_number.ensures.ascend
          c.in_ok-put_links.ensures.ascend settled.changed settled.kept settled.waiting);
      ok = s.open_same ∙ rw (c.in_ok-push.ensures.items, c.new.ensures.items, obs, brk) refl;
      err = tt;
      time = s.time;
    }
