use Rattle.std.proofs.Common.{refl, ap, ◌∙◌}
use Rattle.ev_incidence.specs.Sets.{ascends_by}
use Rattle.fm_entry.specs.Words.{is_link_before}
use Rattle.dx_case.specs.Facts.{case_of_facts}
use Rattle.dx_case.proofs.Fitting.{facts_parts, links_rise}
use Rattle.dx_case.proofs.case.Case.restore.Goals as goal

pub find_candidates-requires-clause-opened : goal.find_candidates-requires-clause-opened
find_candidates-requires-clause-opened c =
    let p = facts_parts c.args.graph.now c.args.moment (case_of_facts c.args.facts.now)
    c.requires.fit in
    record {
      some = rw (c.new-observed.ensures.items, c.in_ok-reported.ensures.items) p.some;
      observed_ascend = rw (c.new-observed.ensures.items, c.in_ok-reported.ensures.items)
          p.observed_ascend;
      observed_are = rw (c.new-observed.ensures.items, c.in_ok-reported.ensures.items)
          p.observed_are;
      broken_ascend = links_rise c.in_ok-broken.broken.items
          (ap (ascends_by is_link_before) c.in_ok-broken.ensures ∙ p.broken_ascend);
      time = refl;
      until = refl;
    }
