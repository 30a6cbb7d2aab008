-- What is kept of a case.
use Rattle.std.specs.Prelude.{◌&&◌, ℕ, Bool, nat_le, nat_lt, length}
use Rattle.std.specs.List.{list_all}
use Rattle.ev_incidence.specs.Sets.{ascends, ascends_by}
use Rattle.ev_graph.specs.Kinds.{is_report_node}
use Rattle.ev_graph.specs.Lawful.{GraphValue}
use Rattle.fm_core.specs.Meaning.{OpenCase}
use Rattle.fm_entry.specs.Words.{is_link_before}
use Rattle.dx_case.specs.declared.facts.CaseFacts.{CaseFacts}

-- the case of these facts
abbrev pub case_of_facts : CaseFacts → OpenCase
case_of_facts f = record {
  number = f.number;
  opened = f.opened;
  entries = f.entries.now;
  observed = f.observed.now;
  broken = f.broken.now;
}

-- a case of the graph can be so at a moment: it was opened before or then, and has some reports of
-- the graph, and broken links, both in order
abbrev pub facts_fit : GraphValue → ℕ → OpenCase → Bool
facts_fit g moment c =
    nat_le c.opened moment
    && (nat_lt 0 (length c.observed)
    && (ascends c.observed
    && (list_all (is_report_node g.nodes) c.observed && ascends_by is_link_before c.broken)))
