-- Which states of a diagnosis module are lawful, in all but that each open case waits for a report.
use Rattle.std.specs.Prelude.{ℕ, ◌^◌, ◌&&◌, not, Bool, true, false, nat_lt, nat_le}
use Rattle.std.specs.Prelude.{List, [], ◌∷◌, length, map}
use Rattle.std.specs.List.{list_all, list_any}
use Rattle.std.specs.Ordering.{is_lt}
use Rattle.fm_name.specs.Events.{event_cmp}
use Rattle.fm_name.specs.declared.events.EventName.{EventName}
use Rattle.fm_entry.specs.Words.{event_fits, word_fits, links_ascend}
use Rattle.fm_entry.specs.declared.broken.Broken.{Broken}
use Rattle.fm_entry.specs.declared.suspect.Mark.{Mark}
use Rattle.fm_entry.specs.declared.suspect.Mark.TheVariants.{Present}
use Rattle.fm_entry.specs.declared.suspect.Suspect.{Suspect}
use Rattle.fm_entry.specs.declared.list_event.ListKind.{ListKind}
use Rattle.fm_entry.specs.declared.list_event.ListKind.TheVariants.{Suspect as SuspectKind}
use Rattle.fm_entry.specs.declared.list_event.ListKind.TheVariants.{Updated}
use Rattle.fm_entry.specs.declared.list_event.ListEvent.{ListEvent}
use Rattle.fm_core.specs.Meaning.{OpenCase, Diagnosis}
use Rattle.ev_incidence.specs.Sets.{ascends, ascends_by, is_member}
use Rattle.ev_graph.specs.Kinds.{is_report_node}
use Rattle.ev_graph.specs.Cutting.{is_cut}
use Rattle.ev_graph.specs.Lawful.{GraphValue, is_before_node, has_engine_limits}
use Rattle.ev_graph.specs.declared.nodes.EngineSpec.{EngineSpec}
use Rattle.dx_serd.specs.Rates.{are_kept, none_past}
use Rattle.dx_state.specs.Configured.{Configuration}

-- an engine is inside its limits, and what it reports is a report
abbrev pub is_formed_engine : GraphValue → EngineSpec → Bool
is_formed_engine g e = has_engine_limits e && is_report_node g.nodes e.trip

-- few nodes, of names that have spellings, in event order, and engines that report reports
abbrev pub is_formed : GraphValue → Bool
is_formed g =
    nat_le (length g.nodes) 65536
    && (list_all (λ node. event_fits node.name) g.nodes
    && (ascends_by is_before_node g.nodes
    && (nat_lt (length g.engines) (2 ^ 32) && list_all (is_formed_engine g) g.engines)))

-- the same, and few guarded links, of instances that have numbers of 32 bits
abbrev pub is_formed_configuration : Configuration → Bool
is_formed_configuration x =
    is_formed x.graph
    && (nat_lt (length x.guarding.guarded) (2 ^ 32)
    && list_all (λ l. nat_lt l.instance (2 ^ 32)) x.guarding.guarded)

-- a link that a report of the case can have broken
abbrev pub is_own_link : Configuration → List ℕ → Broken → Bool
is_own_link x observed l =
    is_cut x.guarding.guarded l.instance l.effect && is_member observed l.effect

-- an open case at a time, where the next one gets this number: it was opened before, has reports of
-- the graph, no fewer entries than reports, and broken links that its reports can have broken
abbrev pub is_open_case : Configuration → ℕ → ℕ → OpenCase → Bool
is_open_case x time next c =
    nat_lt c.number next
    && (nat_le c.opened time
    && (nat_lt 0 (length c.observed)
    && (ascends c.observed
    && (list_all (is_report_node x.graph.nodes) c.observed
    && (nat_le (length c.observed) (length c.entries)
    && (list_all (λ n. nat_lt n (2 ^ 46)) c.entries
    && (links_ascend c.broken && list_all (is_own_link x c.observed) c.broken)))))))

-- events in event order, none twice
abbrev pub events_ascend : List EventName → Bool
events_ascend es = ascends_by (λ a b. is_lt (event_cmp a b)) es

abbrev pub suspect_name : Suspect → EventName
suspect_name s = record { class = s.class; path = s.path }

abbrev pub is_present_mark : Mark → Bool
is_present_mark Present = true
is_present_mark _ = false

-- the suspect still counts as faulty
abbrev pub is_present_suspect : Suspect → Bool
is_present_suspect s = is_present_mark s.mark

-- all suspects of a case that is solved are present; of one that was updated some are, and some are
-- not
abbrev pub has_marks : ListKind → List Suspect → Bool
has_marks SuspectKind ss = list_all is_present_suspect ss
has_marks Updated ss =
    list_any is_present_suspect ss && list_any (λ s. not (is_present_suspect s)) ss
has_marks _ ss = false

-- the last word of a solved case, where the next one gets this number
abbrev pub is_last_word : ℕ → ℕ → ListEvent → Bool
is_last_word own next w =
    word_fits own w
    && (nat_lt w.case.case next
    && (nat_lt 0 (length w.observed)
    && (events_ascend w.observed
    && (events_ascend (map suspect_name w.suspects) && has_marks w.kind w.suspects))))

-- what the engines of a graph keep at a time
abbrev pub are_engines : ℕ → List EngineSpec → List (List ℕ) → Bool
are_engines time [] [] = true
are_engines time (e ∷ es) (kept ∷ rest) =
    (are_kept e.n e.t kept && none_past time kept) && are_engines time es rest
are_engines time _ _ = false

abbrev pub open_numbers : List OpenCase → List ℕ
open_numbers cs = map (λ c. c.number) cs

abbrev pub solved_numbers : List ListEvent → List ℕ
solved_numbers ws = map (λ w. w.case.case) ws

-- no number stands in both lists
abbrev pub are_apart : List ℕ → List ℕ → Bool
are_apart xs ys = list_all (λ n. not (is_member ys n)) xs

-- A state of the module of this number, in the configuration that it is in. That each open case
-- waits for a report is asked beside it.
abbrev pub is_state : ℕ → Configuration → Diagnosis → Bool
is_state own x s =
    nat_lt s.time (2 ^ 62)
    && (nat_le s.next (2 ^ 63)
    && (list_all (is_open_case x s.time s.next) s.open_cases
    && (list_all (is_last_word own s.next) s.solved
    && (ascends (open_numbers s.open_cases)
    && (ascends (solved_numbers s.solved)
    && (are_apart (open_numbers s.open_cases) (solved_numbers s.solved)
    && are_engines s.time x.graph.engines s.engines))))))
