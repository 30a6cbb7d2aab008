-- A small module, and what it says at a few entries.
use Rattle.std.specs.Prelude.{◌≡◌, ℕ, true, List, [], ◌∷◌, map, codes}
use Rattle.fm_nv.specs.Data.{no_pairs}
use Rattle.fm_entry.specs.declared.entry.Entry.{Entry}
use Rattle.fm_entry.specs.declared.entry.Entry.TheVariants.{Report, Tick}
use Rattle.fm_entry.specs.declared.list_event.ListEvent.{ListEvent}
use Rattle.fm_core.specs.Meaning.{Diagnosis}
use Rattle.ev_graph.specs.declared.nodes.Node.{Node}
use Rattle.ev_graph.specs.declared.nodes.NodeKind.{NodeKind}
use Rattle.ev_graph.specs.declared.nodes.NodeKind.TheVariants.{Fault, Report as ReportKind}
use Rattle.ev_graph.specs.declared.instances.Instance.{Instance}
use Rattle.dx_state.specs.Configured.{Rules, Single, unguarded}
use Rattle.dx_step.specs.Step.{state_after, words_at}

abbrev node_at_cpu : List ℕ → NodeKind → Node
node_at_cpu class kind =
    record { name = record { class = class; path = codes "hc:///cpu=1" }; kind = kind }

abbrev leads : List ℕ → List ℕ → ℕ → Instance
leads causes effects n = record { causes = causes; effects = effects; n = n; k = 1 }

-- the cache may show both reports, the core must show the first
unfoldable pub two_faults : Rules
two_faults = record {
  own = 3;
  configurations =
      Single 0 (record {
        graph = record {
          nodes =
              node_at_cpu (codes "ereport.cpu.ue") (ReportKind 5)
              ∷ node_at_cpu (codes "ereport.cpu.wd") (ReportKind 5)
              ∷ node_at_cpu (codes "fault.cpu.cache") (Fault 200 true)
              ∷ node_at_cpu (codes "fault.cpu.core") (Fault 100 true)
              ∷ [];
          engines = [];
          instances =
              leads (2 ∷ []) (0 ∷ 1 ∷ []) 0 ∷ leads (3 ∷ []) (0 ∷ []) 1 ∷ [];
        };
        guarding = unguarded;
      });
}

unfoldable pub fresh : Diagnosis
fresh = record { conf = 0; time = 0; next = 0; open_cases = []; solved = []; engines = [] }

abbrev pub report_at : List ℕ → ℕ → Entry
report_at class moment = Report class (codes "hc:///cpu=1") moment no_pairs

-- the first report at 10
unfoldable pub after_first : Diagnosis
after_first = state_after two_faults fresh 7 (report_at (codes "ereport.cpu.ue") 10)

-- the certainties of each word said
abbrev pub said_certainties : List ListEvent → List (List ℕ)
said_certainties ws = map (λ w. map (λ s. s.certainty) w.suspects) ws

-- the case stays open as long as the second report may come, at the end of its window too; then the
-- cache and the core are suspects; the second report leaves the cache alone
pub record Examples : Type 0 where
  pub waits : words_at two_faults after_first 8 (Tick 15) ≡ []
  pub ends : said_certainties (words_at two_faults after_first 8 (Tick 16)) ≡ (67 ∷ 33 ∷ []) ∷ []
  pub second :
      said_certainties (words_at two_faults after_first 8 (report_at (codes "ereport.cpu.wd") 12))
      ≡ (100 ∷ []) ∷ []
