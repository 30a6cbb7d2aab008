-- A state that has a spelling is lawful exactly where it passes what is left to be tried.
use Rattle.std.proofs.Common.{◌≡◌, ℕ, ◌^◌, ◌&&◌, Bool, true, false, nat_lt, nat_le, IsTrue}
use Rattle.std.proofs.Common.{List, [], ◌∷◌, length, map, not, arith, refl, sym, ap, ◌∙◌}
use Rattle.std.specs.List.{list_all}
use Rattle.std.specs.Ordering.{is_lt}
use Rattle.std.proofs.lemmas.Bool.{false≢true, and_from, and_parts, leb-true, le-leb, ltb-true}
use Rattle.std.proofs.lemmas.Bool.{lt-ltb}
use Rattle.fm_bytes.specs.Numbers.{is_unsigned}
use Rattle.fm_bytes.proofs.Readers.{counted_fits}
use Rattle.fm_name.specs.Events.{event_cmp}
use Rattle.fm_entry.specs.Words.{link_fits, links_ascend, word_fits}
use Rattle.fm_entry.specs.declared.broken.Broken.{Broken}
use Rattle.fm_entry.specs.declared.suspect.Suspect.{Suspect}
use Rattle.fm_entry.specs.declared.list_event.ListEvent.{ListEvent}
use Rattle.fm_core.specs.Meaning.{OpenCase, Diagnosis}
use Rattle.ev_incidence.specs.Sets.{ascends, ascends_by}
use Rattle.ev_graph.specs.Kinds.{is_report_node}
use Rattle.ev_graph.specs.Lawful.{GraphValue}
use Rattle.ev_graph.specs.Cutting.{is_cut}
use Rattle.dx_state.specs.Configured.{Configuration}
use Rattle.dx_state.specs.StateBytes.{is_marked}
use Rattle.dx_state.specs.Fitting.{is_number_32, case_links_fit, open_case_fits, diagnosis_fits}
use Rattle.dx_state.specs.LawfulState.{events_ascend, suspect_name, is_open_case, is_last_word}
use Rattle.dx_state.specs.LawfulState.{are_engines, open_numbers, solved_numbers, are_apart}
use Rattle.dx_state.specs.LawfulState.{is_state}
use Rattle.dx_state.proofs.Lists.{all_other}
use Rattle.dx_state.proofs.Facts.{case_is, case_back, state_is, state_back}
use Rattle.dx_lawful.specs.Trials.{GuardTest, could_be_open, could_be_last, have_ranges}
use Rattle.dx_lawful.specs.Trials.{are_numbered}

same_tests : (a b : Bool) → (IsTrue a → IsTrue b) → (IsTrue b → IsTrue a) → a ≡ b
same_tests true b f g = sym (f refl)
same_tests false true f g = g refl
same_tests false false f g = refl

-- suspects are in order where their events are
abbrev pub is_before_suspect : Suspect → Suspect → Bool
is_before_suspect a b = is_lt (event_cmp (suspect_name a) (suspect_name b))

pub suspects_named : (ss : List Suspect)
    → ascends_by is_before_suspect ss ≡ events_ascend (map suspect_name ss)
suspects_named [] = refl
suspects_named (a ∷ []) = refl
suspects_named (a ∷ b ∷ ss) =
    ap (λ (t : Bool). is_before_suspect a b && t) (suspects_named (b ∷ ss))

-- a case that has a spelling has broken links in order
links_by : (marked : Bool) (links : List Broken) → IsTrue (case_links_fit marked links)
    → IsTrue (links_ascend links)
links_by true links h = (and_parts (counted_fits 4 link_fits links) (links_ascend links) h).1
links_by false [] h = refl
links_by false (l ∷ links) h =
    let some = lt-ltb 0 (length (l ∷ links)) (omega arith) in
    absurd (false≢true (sym (ap not some) ∙ h))

links_spelled : (marked : Bool) (c : OpenCase) → IsTrue (open_case_fits marked c)
    → IsTrue (links_ascend c.broken)
links_spelled marked c h =
    let one = and_parts (is_unsigned c.number) _ h in
    let two = and_parts (is_unsigned c.opened) _ one.1 in
    let three = and_parts (counted_fits 8 is_unsigned c.entries) _ two.1 in
    let four = and_parts (counted_fits 4 is_number_32 c.observed) _ three.1 in
    links_by marked c.broken four.1

-- which links the configuration guards
abbrev guarded_in : Configuration → GuardTest
guarded_in x = is_cut x.guarding.guarded

-- such a case
case_same : (x : Configuration) (time next : ℕ) (c : OpenCase) → IsTrue (links_ascend c.broken)
    → could_be_open x.graph (guarded_in x) time next c ≡ is_open_case x time next c
case_same x time next c links =
    same_tests (could_be_open x.graph (guarded_in x) time next c) (is_open_case x time next c)
    (λ h.
    let one = and_parts (ascends c.observed) _ h in
    let two = and_parts (nat_lt c.number next) _ one.1 in
    let three = and_parts (nat_le c.opened time) _ two.1 in
    let four = and_parts (nat_lt 0 (length c.observed)) _ three.1 in
    let five = and_parts (list_all (is_report_node x.graph.nodes) c.observed) _ four.1 in
    let six = and_parts (nat_le (length c.observed) (length c.entries)) _ five.1 in
    let seven = and_parts (list_all (λ n. nat_lt n (2 ^ 46)) c.entries) _ six.1 in
    case_back x time next c (record {
      number = ltb-true c.number next two.0;
      opened = leb-true c.opened time three.0;
      some = ltb-true 0 (length c.observed) four.0;
      ascend = one.0;
      reports = five.0;
      many = leb-true (length c.observed) (length c.entries) six.0;
      entries = seven.0;
      links = links;
      own = seven.1;
    }))
    (λ h.
    let p = case_is x time next c h in
    and_from (ascends c.observed) _ p.ascend
    (and_from (nat_lt c.number next) _ (lt-ltb c.number next p.number)
    (and_from (nat_le c.opened time) _ (le-leb c.opened time p.opened)
    (and_from (nat_lt 0 (length c.observed)) _ (lt-ltb 0 (length c.observed) p.some)
    (and_from (list_all (is_report_node x.graph.nodes) c.observed) _ p.reports
    (and_from (nat_le (length c.observed) (length c.entries)) _
    (le-leb (length c.observed) (length c.entries) p.many)
    (and_from (list_all (λ n. nat_lt n (2 ^ 46)) c.entries) _ p.entries p.own)))))))

cases_same : (x : Configuration) (time next : ℕ) (cs : List OpenCase)
    → IsTrue (list_all (λ c. links_ascend c.broken) cs)
    → list_all (could_be_open x.graph (guarded_in x) time next) cs
    ≡ list_all (is_open_case x time next) cs
cases_same x time next [] h = refl
cases_same x time next (c ∷ cs) h =
    let parts = and_parts (links_ascend c.broken) (list_all (λ c. links_ascend c.broken) cs) h in
    λ i. case_same x time next c parts.0 i && cases_same x time next cs parts.1 i

-- words of the module
words_same : (own next : ℕ) (ws : List ListEvent) → IsTrue (list_all (word_fits own) ws)
    → list_all (could_be_last next) ws ≡ list_all (is_last_word own next) ws
words_same own next [] h = refl
words_same own next (w ∷ ws) h =
    let parts = and_parts (word_fits own w) (list_all (word_fits own) ws) h in
    let first : could_be_last next w ≡ is_last_word own next w =
    ap (λ (t : Bool). t && could_be_last next w) (sym parts.0) in
    λ i. first i && words_same own next ws parts.1 i

-- what it is for the parts of a state to have spellings
record AreSpelled (own : ℕ) (s : Diagnosis) : Type 0 where
  cases : IsTrue (list_all (λ c. links_ascend c.broken) s.open_cases)
  words : IsTrue (list_all (word_fits own) s.solved)

spelled : (own : ℕ) (s : Diagnosis) → IsTrue (diagnosis_fits own s) → AreSpelled own s
spelled own s h =
    let marked = is_marked s in
    let one = and_parts (is_number_32 s.conf) _ h in
    let two = and_parts (is_unsigned s.time) _ one.1 in
    let three = and_parts (is_unsigned s.next) _ two.1 in
    let four = and_parts (counted_fits 8 (open_case_fits marked) s.open_cases) _ three.1 in
    let five = and_parts (counted_fits 8 (word_fits own) s.solved) _ four.1 in
    record {
      cases = all_other (open_case_fits marked) (λ c. links_ascend c.broken) (links_spelled marked)
          s.open_cases
          (and_parts (nat_lt (length s.open_cases) (256 ^ 8)) _ four.0).1;
      words = (and_parts (nat_lt (length s.solved) (256 ^ 8)) _ five.0).1;
    }

-- what is left to be tried of such a state
state_same : (own : ℕ) (x : Configuration) (s : Diagnosis) → IsTrue (diagnosis_fits own s)
    → (have_ranges x.graph (guarded_in x) s && are_numbered s.open_cases s.solved)
    ≡ is_state own x s
state_same own x s fits =
    let parts = spelled own s fits in
    let cases = cases_same x s.time s.next s.open_cases parts.cases in
    let words = words_same own s.next s.solved parts.words in
    let ranges = have_ranges x.graph (guarded_in x) s in
    let numbered = are_numbered s.open_cases s.solved in
    let opens = list_all (could_be_open x.graph (guarded_in x) s.time s.next) s.open_cases in
    let lasts = list_all (could_be_last s.next) s.solved in
    same_tests (ranges && numbered) (is_state own x s)
    (λ h.
    let both = and_parts ranges numbered h in
    let one = and_parts (nat_lt s.time (2 ^ 62)) _ both.0 in
    let two = and_parts (nat_le s.next (2 ^ 63)) _ one.1 in
    let three = and_parts opens _ two.1 in
    let four = and_parts lasts (are_engines s.time x.graph.engines s.engines) three.1 in
    let five = and_parts (ascends (solved_numbers s.solved)) _ both.1 in
    let six = and_parts (ascends (open_numbers s.open_cases))
    (are_apart (open_numbers s.open_cases) (solved_numbers s.solved)) five.1 in
    state_back own x s (record {
      time = ltb-true s.time (2 ^ 62) one.0;
      next = leb-true s.next (2 ^ 63) two.0;
      cases = sym cases ∙ three.0;
      solved = sym words ∙ four.0;
      opens_ascend = six.0;
      solved_ascend = five.0;
      apart = six.1;
      engines = four.1;
    }))
    (λ h.
    let p = state_is own x s h in
    and_from ranges numbered
    (and_from (nat_lt s.time (2 ^ 62)) _ (lt-ltb s.time (2 ^ 62) p.time)
    (and_from (nat_le s.next (2 ^ 63)) _ (le-leb s.next (2 ^ 63) p.next)
    (and_from opens _ (cases ∙ p.cases)
    (and_from lasts (are_engines s.time x.graph.engines s.engines) (words ∙ p.solved) p.engines))))
    (and_from (ascends (solved_numbers s.solved)) _ p.solved_ascend
    (and_from (ascends (open_numbers s.open_cases))
    (are_apart (open_numbers s.open_cases) (solved_numbers s.solved)) p.opens_ascend p.apart)))

-- the test of it, in each configuration of this graph and these guarded links
pub tried : (own : ℕ) (g : GraphValue) (guarded : GuardTest) (s : Diagnosis) (lawful : Bool)
    → IsTrue (diagnosis_fits own s)
    → lawful ≡ (have_ranges g guarded s && are_numbered s.open_cases s.solved)
    → (x : Configuration) → x.graph ≡ g
    → ((i e : ℕ) → is_cut x.guarding.guarded i e ≡ guarded i e) → lawful ≡ is_state own x s
tried own g guarded s lawful fits is x graph links =
    is
    ∙ ((λ i. have_ranges (sym graph i) (λ j e. sym (links j e) i) s
    && are_numbered s.open_cases s.solved)
    ∙ state_same own x s fits)
