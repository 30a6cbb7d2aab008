use Rattle.std.proofs.Common.{List, map, refl, ap, ◌∙◌}
use Rattle.ev_graph.specs.declared.instances.Link.{Link}
use Rattle.dx_explain.specs.Cases.{broken_of, with_links}
use Rattle.dx_case.proofs.case.Case.start_with.Goals as goal

pub returns : goal.returns
returns c =
    let brk = c.in_ok-put_links.ensures.put
    ∙ ap (λ (ls : List Link). with_links c.args.report.now.broken.now (map broken_of ls))
    c.new-broken.ensures.items in
    record {
      case = c.in_ok-find_candidates.ensures.case;
      «open» = c.find_candidates.ensures.open
          ∙ rw (
            c.in_ok-entries.ensures.items,
            c.new-observed.ensures.items,
            c.in_ok-reported.ensures.items,
            brk,
          ) refl;
      time = c.find_candidates.ensures.time;
      starts = c.find_candidates.ensures.starts;
    }
