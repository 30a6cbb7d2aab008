-- What it says of a state that it is lawful, part by part.
use Rattle.std.proofs.Common.{ℕ, ◌^◌, ◌<◌, ◌≤◌, nat_lt, nat_le, IsTrue}
use Rattle.std.proofs.Common.{length, map}
use Rattle.std.specs.List.{list_all}
use Rattle.std.proofs.lemmas.Bool.{and_from, and_parts, leb-true, le-leb, ltb-true, lt-ltb}
use Rattle.fm_entry.specs.Words.{word_fits, links_ascend, event_fits}
use Rattle.fm_entry.specs.declared.list_event.ListEvent.{ListEvent}
use Rattle.fm_core.specs.Meaning.{OpenCase, Diagnosis}
use Rattle.ev_incidence.specs.Sets.{ascends, ascends_by}
use Rattle.ev_graph.specs.Kinds.{is_report_node}
use Rattle.ev_graph.specs.Lawful.{is_before_node}
use Rattle.dx_state.specs.Configured.{Configuration}
use Rattle.dx_state.specs.LawfulState.{is_formed_engine, is_formed, is_formed_configuration}
use Rattle.dx_state.specs.LawfulState.{is_own_link, is_open_case, events_ascend, suspect_name}
use Rattle.dx_state.specs.LawfulState.{has_marks, is_last_word, are_engines, open_numbers}
use Rattle.dx_state.specs.LawfulState.{solved_numbers, are_apart, is_state}

pub record IsFormed (x : Configuration) : Type 0 where
  pub few_nodes : length x.graph.nodes ≤ 65536
  pub names : IsTrue (list_all (λ node. event_fits node.name) x.graph.nodes)
  pub ordered : IsTrue (ascends_by is_before_node x.graph.nodes)
  pub few_engines : length x.graph.engines < 2 ^ 32
  pub engines : IsTrue (list_all (is_formed_engine x.graph) x.graph.engines)
  pub few_guarded : length x.guarding.guarded < 2 ^ 32
  pub guarded : IsTrue (list_all (λ l. nat_lt l.instance (2 ^ 32)) x.guarding.guarded)

pub formed_is : (x : Configuration) → IsTrue (is_formed_configuration x) → IsFormed x
formed_is x h =
    let one = and_parts (is_formed x.graph) _ h in
    let guards = and_parts (nat_lt (length x.guarding.guarded) (2 ^ 32)) _ one.1 in
    let two = and_parts (nat_le (length x.graph.nodes) 65536) _ one.0 in
    let three = and_parts (list_all (λ node. event_fits node.name) x.graph.nodes) _ two.1 in
    let four = and_parts (ascends_by is_before_node x.graph.nodes) _ three.1 in
    let five = and_parts (nat_lt (length x.graph.engines) (2 ^ 32)) _ four.1 in
    record {
      few_nodes = leb-true (length x.graph.nodes) 65536 two.0;
      names = three.0;
      ordered = four.0;
      few_engines = ltb-true (length x.graph.engines) (2 ^ 32) five.0;
      engines = five.1;
      few_guarded = ltb-true (length x.guarding.guarded) (2 ^ 32) guards.0;
      guarded = guards.1;
    }

pub formed_back : (x : Configuration) → IsFormed x → IsTrue (is_formed_configuration x)
formed_back x h =
    and_from (is_formed x.graph) _
    (and_from (nat_le (length x.graph.nodes) 65536) _
    (le-leb (length x.graph.nodes) 65536 h.few_nodes)
    (and_from (list_all (λ node. event_fits node.name) x.graph.nodes) _ h.names
    (and_from (ascends_by is_before_node x.graph.nodes) _ h.ordered
    (and_from (nat_lt (length x.graph.engines) (2 ^ 32)) _
    (lt-ltb (length x.graph.engines) (2 ^ 32) h.few_engines) h.engines))))
    (and_from (nat_lt (length x.guarding.guarded) (2 ^ 32)) _
    (lt-ltb (length x.guarding.guarded) (2 ^ 32) h.few_guarded) h.guarded)

pub record IsOpenCase (x : Configuration) (time next : ℕ) (c : OpenCase) : Type 0 where
  pub number : c.number < next
  pub opened : c.opened ≤ time
  pub some : 0 < length c.observed
  pub ascend : IsTrue (ascends c.observed)
  pub reports : IsTrue (list_all (is_report_node x.graph.nodes) c.observed)
  pub many : length c.observed ≤ length c.entries
  pub entries : IsTrue (list_all (λ n. nat_lt n (2 ^ 46)) c.entries)
  pub links : IsTrue (links_ascend c.broken)
  pub own : IsTrue (list_all (is_own_link x c.observed) c.broken)

pub case_is : (x : Configuration) (time next : ℕ) (c : OpenCase)
    → IsTrue (is_open_case x time next c) → IsOpenCase x time next c
case_is x time next c h =
    let one = and_parts (nat_lt c.number next) _ h in
    let two = and_parts (nat_le c.opened time) _ one.1 in
    let three = and_parts (nat_lt 0 (length c.observed)) _ two.1 in
    let four = and_parts (ascends c.observed) _ three.1 in
    let five = and_parts (list_all (is_report_node x.graph.nodes) c.observed) _ four.1 in
    let six = and_parts (nat_le (length c.observed) (length c.entries)) _ five.1 in
    let seven = and_parts (list_all (λ n. nat_lt n (2 ^ 46)) c.entries) _ six.1 in
    let eight = and_parts (links_ascend c.broken) _ seven.1 in
    record {
      number = ltb-true c.number next one.0;
      opened = leb-true c.opened time two.0;
      some = ltb-true 0 (length c.observed) three.0;
      ascend = four.0;
      reports = five.0;
      many = leb-true (length c.observed) (length c.entries) six.0;
      entries = seven.0;
      links = eight.0;
      own = eight.1;
    }

pub case_back : (x : Configuration) (time next : ℕ) (c : OpenCase) → IsOpenCase x time next c
    → IsTrue (is_open_case x time next c)
case_back x time next c h =
    and_from (nat_lt c.number next) _ (lt-ltb c.number next h.number)
    (and_from (nat_le c.opened time) _ (le-leb c.opened time h.opened)
    (and_from (nat_lt 0 (length c.observed)) _ (lt-ltb 0 (length c.observed) h.some)
    (and_from (ascends c.observed) _ h.ascend
    (and_from (list_all (is_report_node x.graph.nodes) c.observed) _ h.reports
    (and_from (nat_le (length c.observed) (length c.entries)) _
    (le-leb (length c.observed) (length c.entries) h.many)
    (and_from (list_all (λ n. nat_lt n (2 ^ 46)) c.entries) _ h.entries
    (and_from (links_ascend c.broken) _ h.links h.own)))))))

pub record IsLastWord (own next : ℕ) (w : ListEvent) : Type 0 where
  pub fits : IsTrue (word_fits own w)
  pub number : w.case.case < next
  pub some : 0 < length w.observed
  pub observed : IsTrue (events_ascend w.observed)
  pub suspects : IsTrue (events_ascend (map suspect_name w.suspects))
  pub marks : IsTrue (has_marks w.kind w.suspects)

pub word_is : (own next : ℕ) (w : ListEvent) → IsTrue (is_last_word own next w)
    → IsLastWord own next w
word_is own next w h =
    let one = and_parts (word_fits own w) _ h in
    let two = and_parts (nat_lt w.case.case next) _ one.1 in
    let three = and_parts (nat_lt 0 (length w.observed)) _ two.1 in
    let four = and_parts (events_ascend w.observed) _ three.1 in
    let five = and_parts (events_ascend (map suspect_name w.suspects)) _ four.1 in
    record {
      fits = one.0;
      number = ltb-true w.case.case next two.0;
      some = ltb-true 0 (length w.observed) three.0;
      observed = four.0;
      suspects = five.0;
      marks = five.1;
    }

pub word_back : (own next : ℕ) (w : ListEvent) → IsLastWord own next w
    → IsTrue (is_last_word own next w)
word_back own next w h =
    and_from (word_fits own w) _ h.fits
    (and_from (nat_lt w.case.case next) _ (lt-ltb w.case.case next h.number)
    (and_from (nat_lt 0 (length w.observed)) _ (lt-ltb 0 (length w.observed) h.some)
    (and_from (events_ascend w.observed) _ h.observed
    (and_from (events_ascend (map suspect_name w.suspects)) _ h.suspects h.marks))))

pub record IsState (own : ℕ) (x : Configuration) (s : Diagnosis) : Type 0 where
  pub time : s.time < 2 ^ 62
  pub next : s.next ≤ 2 ^ 63
  pub cases : IsTrue (list_all (is_open_case x s.time s.next) s.open_cases)
  pub solved : IsTrue (list_all (is_last_word own s.next) s.solved)
  pub opens_ascend : IsTrue (ascends (open_numbers s.open_cases))
  pub solved_ascend : IsTrue (ascends (solved_numbers s.solved))
  pub apart : IsTrue (are_apart (open_numbers s.open_cases) (solved_numbers s.solved))
  pub engines : IsTrue (are_engines s.time x.graph.engines s.engines)

pub state_is : (own : ℕ) (x : Configuration) (s : Diagnosis) → IsTrue (is_state own x s)
    → IsState own x s
state_is own x s h =
    let one = and_parts (nat_lt s.time (2 ^ 62)) _ h in
    let two = and_parts (nat_le s.next (2 ^ 63)) _ one.1 in
    let three = and_parts (list_all (is_open_case x s.time s.next) s.open_cases) _ two.1 in
    let four = and_parts (list_all (is_last_word own s.next) s.solved) _ three.1 in
    let five = and_parts (ascends (open_numbers s.open_cases)) _ four.1 in
    let six = and_parts (ascends (solved_numbers s.solved)) _ five.1 in
    let seven = and_parts (are_apart (open_numbers s.open_cases) (solved_numbers s.solved)) _ six.1
    in
    record {
      time = ltb-true s.time (2 ^ 62) one.0;
      next = leb-true s.next (2 ^ 63) two.0;
      cases = three.0;
      solved = four.0;
      opens_ascend = five.0;
      solved_ascend = six.0;
      apart = seven.0;
      engines = seven.1;
    }

pub state_back : (own : ℕ) (x : Configuration) (s : Diagnosis) → IsState own x s
    → IsTrue (is_state own x s)
state_back own x s h =
    and_from (nat_lt s.time (2 ^ 62)) _ (lt-ltb s.time (2 ^ 62) h.time)
    (and_from (nat_le s.next (2 ^ 63)) _ (le-leb s.next (2 ^ 63) h.next)
    (and_from (list_all (is_open_case x s.time s.next) s.open_cases) _ h.cases
    (and_from (list_all (is_last_word own s.next) s.solved) _ h.solved
    (and_from (ascends (open_numbers s.open_cases)) _ h.opens_ascend
    (and_from (ascends (solved_numbers s.solved)) _ h.solved_ascend
    (and_from (are_apart (open_numbers s.open_cases) (solved_numbers s.solved)) _ h.apart
    h.engines))))))
