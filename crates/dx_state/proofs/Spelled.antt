-- A lawful state has a spelling, where its bytes are no more than memory has.
use Rattle.std.proofs.Common.{◌≡◌, ℕ, suc, ◌+◌, ◌^◌, ◌<◌, ◌≤◌, ◌==◌, Bool, true, false, not, ◌&&◌}
use Rattle.std.proofs.Common.{◌||◌}
use Rattle.std.proofs.Common.{nat_lt, nat_le, IsTrue, List, [], ◌∷◌, ◌++◌, length, flat_map}
use Rattle.std.proofs.Common.{refl}
use Rattle.std.specs.Int.{bytes_high_first}
use Rattle.std.proofs.Common.{◌-◌, sym, ap, ◌∙◌, arith, length-append}
use Rattle.std.specs.List.{list_all, list_any}
use Rattle.std.proofs.lemmas.Bool.{false≢true, and_from, and_parts, leb-true, le-leb, ltb-true}
use Rattle.std.proofs.lemmas.Bool.{lt-ltb, eqb-true}
use Rattle.std.proofs.lemmas.List.Concat.{flat_map-cons}
use Rattle.byteorder.specs.Numbers.{length-bytes_high_first}
use Rattle.fm_bytes.specs.Numbers.{is_unsigned, u32_bytes, u64_bytes, counted_bytes}
use Rattle.fm_bytes.proofs.Booleans.{or_parts}
use Rattle.fm_bytes.proofs.Readers.{counted_fits}
use Rattle.fm_entry.specs.Words.{link_fits, links_fit, word_fits}
use Rattle.fm_entry.specs.WordBytes.{has_links, word_bytes, head_byte}
use Rattle.fm_entry.specs.declared.broken.Broken.{Broken}
use Rattle.fm_entry.specs.declared.list_event.ListEvent.{ListEvent}
use Rattle.fm_core.specs.Meaning.{OpenCase, Diagnosis}
use Rattle.ev_incidence.specs.Sets.{is_member}
use Rattle.ev_graph.specs.Kinds.{is_report_kind, is_report_node}
use Rattle.ev_graph.specs.Lawful.{GraphValue, has_engine_limits}
use Rattle.ev_graph.specs.Cutting.{is_cut}
use Rattle.ev_graph.specs.declared.nodes.EngineSpec.{EngineSpec}
use Rattle.ev_graph.specs.declared.nodes.Node.{Node}
use Rattle.ev_graph.specs.declared.instances.Link.{Link}
use Rattle.ev_graph.proofs.KindBelow.{kind_below}
use Rattle.dx_serd.specs.Rates.{are_kept, none_past, is_rising}
use Rattle.dx_state.specs.Configured.{Configuration}
use Rattle.dx_state.specs.StateBytes.{version_byte, case_links}
use Rattle.dx_state.specs.StateBytes.{is_marked, open_case_bytes, moments_bytes, parts_bytes}
use Rattle.dx_state.specs.StateBytes.{diagnosis_bytes}
use Rattle.dx_state.specs.Fitting.{is_number_32, case_links_fit, open_case_fits}
use Rattle.dx_state.specs.Fitting.{diagnosis_fits}
use Rattle.dx_state.specs.LawfulState.{is_formed_engine, is_own_link, is_open_case, is_last_word}
use Rattle.dx_state.specs.LawfulState.{are_engines}
use Rattle.dx_state.proofs.Lists.{all_other, all_pass, strict_of, strict_few, links_few}
use Rattle.dx_state.proofs.Facts.{IsFormed, IsOpenCase, case_is, IsState}

pub reports_below : (nodes : List Node) (es : List ℕ) → IsTrue (list_all (is_report_node nodes) es)
    → IsTrue (list_all (λ e. nat_lt e (length nodes)) es)
reports_below nodes es h =
    all_other (is_report_node nodes) (λ e. nat_lt e (length nodes))
    (λ e k. lt-ltb e (length nodes) (kind_below is_report_kind nodes e k)) es h

-- what a case observed is few
pub observed_few : (x : Configuration) (time next : ℕ) (c : OpenCase) → IsFormed x
    → IsOpenCase x time next c → length c.observed ≤ 65536
observed_few x time next c f h =
    let many = strict_few 0 (length x.graph.nodes) c.observed (omega arith)
    (all_pass (nat_le 0) (λ e. le-leb 0 e (omega arith)) c.observed)
    (reports_below x.graph.nodes c.observed h.reports)
    (strict_of c.observed h.ascend) in
    let few = f.few_nodes in
    omega arith

-- the links of a case are links that a word can carry
own_guarded : (x : Configuration) (observed : List ℕ) (l : Broken)
    → IsTrue (is_own_link x observed l) → IsTrue (is_cut x.guarding.guarded l.instance l.effect)
own_guarded x observed l h = (and_parts (is_cut x.guarding.guarded l.instance l.effect) _ h).0

cut_small : (ls : List Link) (i e : ℕ) → IsTrue (list_all (λ l. nat_lt l.instance (2 ^ 32)) ls)
    → IsTrue (is_cut ls i e) → IsTrue (nat_lt i (2 ^ 32))
cut_small [] i e h k = absurd (false≢true k)
cut_small (l ∷ ls) i e h k =
    let parts = and_parts (nat_lt l.instance (2 ^ 32)) _ h in
    elim (l.instance == i) as (λ (b : Bool). (l.instance == i) ≡ b
    → IsTrue ((b && (l.effect == e)) || is_cut ls i e) → IsTrue (nat_lt i (2 ^ 32))) [
      | true ↦ λ is other. ap (λ (n : ℕ). nat_lt n (2 ^ 32)) (sym (eqb-true l.instance i is))
          ∙ parts.0
      | false ↦ λ is other. cut_small ls i e parts.1 other
    ] refl k

member_below : (es : List ℕ) (n e : ℕ) → IsTrue (list_all (λ e. nat_lt e n) es)
    → IsTrue (is_member es e) → e < n
member_below [] n e h k = absurd (false≢true k)
member_below (d ∷ es) n e h k =
    let parts = and_parts (nat_lt d n) _ h in
    elim (d == e) as (λ (b : Bool). (d == e) ≡ b → IsTrue (b || is_member es e) → e < n) [
      | true ↦ λ is other.
          let same = eqb-true d e is in
          let low = ltb-true d n parts.0 in
          omega arith
      | false ↦ λ is other. member_below es n e parts.1 other
    ] refl k

own_fits : (x : Configuration) (observed : List ℕ) (l : Broken) → IsFormed x
    → IsTrue (list_all (is_report_node x.graph.nodes) observed)
    → IsTrue (is_own_link x observed l) → IsTrue (link_fits l)
own_fits x observed l f reports h =
    let parts = and_parts (is_cut x.guarding.guarded l.instance l.effect) _ h in
    let few = f.few_nodes in
    let below = member_below observed (length x.graph.nodes) l.effect
    (reports_below x.graph.nodes observed reports) parts.1 in
    and_from (nat_lt l.instance (2 ^ 32)) _
    (cut_small x.guarding.guarded l.instance l.effect f.guarded parts.0)
    (lt-ltb l.effect (2 ^ 32) (omega arith))

pub links_fit_case : (x : Configuration) (time next : ℕ) (c : OpenCase) → IsFormed x
    → IsOpenCase x time next c → IsTrue (links_fit c.broken)
links_fit_case x time next c f h =
    let few = links_few x.guarding.guarded c.broken h.links
    (all_other (is_own_link x c.observed) (λ b. is_cut x.guarding.guarded b.instance b.effect)
    (λ l k. own_guarded x c.observed l k) c.broken h.own) in
    let guarded = f.few_guarded in
    and_from (counted_fits 4 link_fits c.broken) _
    (and_from (nat_lt (length c.broken) (2 ^ 32)) _
    (lt-ltb (length c.broken) (2 ^ 32) (omega arith))
    (all_other (is_own_link x c.observed) link_fits (λ l k. own_fits x c.observed l f h.reports k)
    c.broken h.own))
    h.links

-- a list is no longer than what spells it, where no item is spelled by nothing
pub items_few : {A : Type 0} (spell : A → List ℕ) → ((x : A) → 0 < length (spell x))
    → (xs : List A) → length xs ≤ length (flat_map spell xs)
items_few spell some [] = omega arith
items_few spell some (x ∷ xs) =
    let first = some x in
    let rest = items_few spell some xs in
    let all : length (flat_map spell (x ∷ xs)) ≡ length (spell x) + length (flat_map spell xs) =
    ap length (flat_map-cons spell x xs) ∙ length-append (spell x) (flat_map spell xs) in
    omega arith

some_long : (n : ℕ) → 0 < length (u64_bytes n)
unfolding u64_bytes
some_long n = let size = length-bytes_high_first 8 n in omega arith

front_few : (a b : List ℕ) → length a ≤ length (a ++ b)
front_few a b = let all = length-append a b in omega arith

back_few : (a b : List ℕ) → length b ≤ length (a ++ b)
back_few a b = let all = length-append a b in omega arith

some_front : (a b : List ℕ) → 0 < length a → 0 < length (a ++ b)
some_front a b h = let few = front_few a b in omega arith

some_case : (marked : Bool) (c : OpenCase) → 0 < length (open_case_bytes marked c)
some_case marked c = some_front (u64_bytes c.number) _ (some_long c.number)

some_word : (w : ListEvent) → 0 < length (word_bytes w)
some_word w = some_front (head_byte w.kind (has_links w.broken) ∷ []) _ (omega arith)

-- each item's spelling is no longer than that of all
each_few : {A : Type 0} (spell : A → List ℕ) (n : ℕ) (xs : List A)
    → length (flat_map spell xs) ≤ n → IsTrue (list_all (λ x. nat_le (length (spell x)) n) xs)
each_few spell n [] h = refl
each_few spell n (x ∷ xs) h =
    let all : length (flat_map spell (x ∷ xs)) ≡ length (spell x) + length (flat_map spell xs) =
    ap length (flat_map-cons spell x xs) ∙ length-append (spell x) (flat_map spell xs) in
    and_from (nat_le (length (spell x)) n) _ (le-leb (length (spell x)) n (omega arith))
    (each_few spell n xs (omega arith))

-- a list behind its count is no longer than its bytes
counted_few : {A : Type 0} (width : ℕ) (spell : A → List ℕ) → ((x : A) → 0 < length (spell x))
    → (xs : List A) → length xs ≤ length (counted_bytes width spell xs)
counted_few width spell some xs =
    let items = items_few spell some xs in
    let all = back_few (bytes_high_first width (length xs)) (flat_map spell xs) in
    omega arith

entries_few : (marked : Bool) (c : OpenCase) → length c.entries ≤ length (open_case_bytes marked c)
entries_few marked c =
    let entries = counted_few 8 u64_bytes some_long c.entries in
    let one = front_few (counted_bytes 8 u64_bytes c.entries)
    (counted_bytes 4 u32_bytes c.observed ++ case_links marked c.broken) in
    let two = back_few (u64_bytes c.opened) (counted_bytes 8 u64_bytes c.entries
    ++ (counted_bytes 4 u32_bytes c.observed ++ case_links marked c.broken)) in
    let three = back_few (u64_bytes c.number) (u64_bytes c.opened
    ++ (counted_bytes 8 u64_bytes c.entries
    ++ (counted_bytes 4 u32_bytes c.observed ++ case_links marked c.broken))) in
    omega arith

-- the parts of a state are no longer than it
abbrev cases_part : Bool → Diagnosis → List ℕ
cases_part marked s = counted_bytes 8 (open_case_bytes marked) s.open_cases

abbrev solved_part : Diagnosis → List ℕ
solved_part s = counted_bytes 8 word_bytes s.solved

abbrev engines_part : Diagnosis → List ℕ
engines_part s = counted_bytes 4 moments_bytes s.engines

record AreParts (s : Diagnosis) (n : ℕ) : Type 0 where
  cases : length (cases_part (is_marked s) s) ≤ n
  solved : length (solved_part s) ≤ n

parts_few : (s : Diagnosis) (n : ℕ) → length (diagnosis_bytes s) ≤ n → AreParts s n
parts_few s n h =
    let m = is_marked s in
    let last = front_few (solved_part s) (engines_part s) in
    let five = front_few (cases_part m s) (solved_part s ++ engines_part s) in
    let six = back_few (cases_part m s) (solved_part s ++ engines_part s) in
    let four = back_few (u64_bytes s.next) (cases_part m s ++ (solved_part s ++ engines_part s)) in
    let three = back_few (u64_bytes s.time)
    (u64_bytes s.next ++ (cases_part m s ++ (solved_part s ++ engines_part s))) in
    let two = back_few (u32_bytes s.conf) (u64_bytes s.time
    ++ (u64_bytes s.next ++ (cases_part m s ++ (solved_part s ++ engines_part s)))) in
    let one = back_few (version_byte m ∷ []) (parts_bytes m s) in
    record { cases = omega arith; solved = omega arith }

unmarked : (cs : List OpenCase) → list_any (λ c. has_links c.broken) cs ≡ false
    → IsTrue (list_all (λ c. not (has_links c.broken)) cs)
unmarked [] h = refl
unmarked (c ∷ cs) h =
    let parts = or_parts (has_links c.broken) (list_any (λ c. has_links c.broken) cs) h in
    and_from (not (has_links c.broken)) _ (ap not parts.0) (unmarked cs parts.1)

-- what is asked of the links of a case that is in a state with broken links, or in one without
abbrev suits : Bool → OpenCase → Bool
suits true c = true
suits false c = not (has_links c.broken)

all_suit : (cs : List OpenCase) (marked : Bool)
    → list_any (λ c. has_links c.broken) cs ≡ marked → IsTrue (list_all (suits marked) cs)
all_suit cs true h = all_pass (suits true) (λ c. refl) cs
all_suit cs false h = unmarked cs h

links_suit : (x : Configuration) (time next : ℕ) (c : OpenCase) (marked : Bool) → IsFormed x
    → IsOpenCase x time next c → IsTrue (suits marked c)
    → IsTrue (case_links_fit marked c.broken)
links_suit x time next c true f h k = links_fit_case x time next c f h
links_suit x time next c false f h k = k

case_fits : (x : Configuration) (time next : ℕ) (marked : Bool) (c : OpenCase) → IsFormed x
    → time < 2 ^ 62 → next ≤ 2 ^ 63 → IsOpenCase x time next c → IsTrue (suits marked c)
    → length (open_case_bytes marked c) < 2 ^ 64 → IsTrue (open_case_fits marked c)
case_fits x time next marked c f low high h k short =
    let few_nodes = f.few_nodes in
    let few = observed_few x time next c f h in
    let entries = entries_few marked c in
    let number = h.number in
    let opened = h.opened in
    and_from (is_unsigned c.number) _ (lt-ltb c.number (2 ^ 64) (omega arith))
    (and_from (is_unsigned c.opened) _ (lt-ltb c.opened (2 ^ 64) (omega arith))
    (and_from (counted_fits 8 is_unsigned c.entries) _
    (and_from (nat_lt (length c.entries) (256 ^ 8)) _
    (lt-ltb (length c.entries) (256 ^ 8) (omega arith))
    (all_other (λ n. nat_lt n (2 ^ 46)) is_unsigned (λ n l. let small = ltb-true n (2 ^ 46) l in
    lt-ltb n (2 ^ 64) (omega arith)) c.entries h.entries))
    (and_from (counted_fits 4 is_number_32 c.observed) _
    (and_from (nat_lt (length c.observed) (256 ^ 4)) _
    (lt-ltb (length c.observed) (256 ^ 4) (omega arith))
    (all_other (is_report_node x.graph.nodes) is_number_32
    (λ e l. let small = kind_below is_report_kind x.graph.nodes e l in
    lt-ltb e (2 ^ 32) (omega arith)) c.observed h.reports))
    (links_suit x time next c marked f h k))))

cases_fit : (x : Configuration) (time next : ℕ) (marked : Bool) (cs : List OpenCase) → IsFormed x
    → time < 2 ^ 62 → next ≤ 2 ^ 63 → IsTrue (list_all (is_open_case x time next) cs)
    → IsTrue (list_all (suits marked) cs)
    → IsTrue (list_all (λ c. nat_le (length (open_case_bytes marked c)) (2 ^ 64 - 1)) cs)
    → IsTrue (list_all (open_case_fits marked) cs)
cases_fit x time next marked [] f low high h k short = refl
cases_fit x time next marked (c ∷ cs) f low high h k short =
    let one = and_parts (is_open_case x time next c) _ h in
    let two = and_parts (suits marked c) _ k in
    let three = and_parts (nat_le (length (open_case_bytes marked c)) (2 ^ 64 - 1)) _ short in
    let small = leb-true (length (open_case_bytes marked c)) (2 ^ 64 - 1) three.0 in
    and_from (open_case_fits marked c) _
    (case_fits x time next marked c f low high (case_is x time next c one.0) two.0 (omega arith))
    (cases_fit x time next marked cs f low high one.1 two.1 three.1)

-- what engines keep is few, and they are as many as the graph's
kept_fit : (e : EngineSpec) (time : ℕ) (kept : List ℕ) → time < 2 ^ 62
    → IsTrue (has_engine_limits e) → IsTrue (are_kept e.n e.t kept && none_past time kept)
    → IsTrue (counted_fits 2 is_unsigned kept)
kept_fit e time kept low limits h =
    let most = and_parts (nat_le e.n 1024) _ (and_parts (nat_lt 0 e.n) _ limits).1 in
    let both = and_parts (are_kept e.n e.t kept) (none_past time kept) h in
    let size = and_parts (nat_le (length kept) e.n) _ (and_parts (is_rising kept) _ both.0).1 in
    let most_is = leb-true e.n 1024 most.0 in
    let size_is = leb-true (length kept) e.n size.0 in
    and_from (nat_lt (length kept) (256 ^ 2)) _ (lt-ltb (length kept) (256 ^ 2) (omega arith))
    (all_other (λ x. nat_le x time) is_unsigned (λ x l. let early = leb-true x time l in
    lt-ltb x (2 ^ 64) (omega arith)) kept both.1)

record AreFew (es : List EngineSpec) (kept : List (List ℕ)) : Type 0 where
  many : length kept ≡ length es
  fit : IsTrue (list_all (counted_fits 2 is_unsigned) kept)

engines_fit : (g : GraphValue) (time : ℕ) (es : List EngineSpec) (kept : List (List ℕ))
    → time < 2 ^ 62 → IsTrue (list_all (is_formed_engine g) es) → IsTrue (are_engines time es kept)
    → AreFew es kept
engines_fit g time [] [] low formed h = record { many = refl; fit = refl }
engines_fit g time [] (k ∷ kept) low formed h = absurd (false≢true h)
engines_fit g time (e ∷ es) [] low formed h = absurd (false≢true h)
engines_fit g time (e ∷ es) (k ∷ kept) low formed h =
    let one = and_parts (is_formed_engine g e) _ formed in
    let two = and_parts (are_kept e.n e.t k && none_past time k) _ h in
    let rest = engines_fit g time es kept low one.1 two.1 in
    let first = kept_fit e time k low (and_parts (has_engine_limits e) _ one.0).0 two.0 in
    record {
      many = ap suc rest.many;
      fit = and_from (counted_fits 2 is_unsigned k) _ first rest.fit;
    }

-- a lawful state whose bytes are fewer than 2^64 has a spelling
pub state_fits : (own : ℕ) (x : Configuration) (s : Diagnosis) → IsFormed x → s.conf < 2 ^ 32
    → IsState own x s → length (diagnosis_bytes s) < 2 ^ 64 → IsTrue (diagnosis_fits own s)
state_fits own x s f conf h short =
    let parts = parts_few s (2 ^ 64 - 1) (omega arith) in
    let cases_short = parts.cases in
    let solved_short = parts.solved in
    let time = h.time in
    let next = h.next in
    let cases = counted_few 8 (open_case_bytes (is_marked s)) (some_case (is_marked s)) s.open_cases
    in
    let solved = counted_few 8 word_bytes some_word s.solved in
    let each = back_few (bytes_high_first 8 (length s.open_cases))
    (flat_map (open_case_bytes (is_marked s)) s.open_cases) in
    let engines = engines_fit x.graph s.time x.graph.engines s.engines h.time f.engines h.engines in
    let many : length s.engines ≡ length x.graph.engines = engines.many in
    let few = f.few_engines in
    and_from (is_number_32 s.conf) _ (lt-ltb s.conf (2 ^ 32) conf)
    (and_from (is_unsigned s.time) _ (lt-ltb s.time (2 ^ 64) (omega arith))
    (and_from (is_unsigned s.next) _ (lt-ltb s.next (2 ^ 64) (omega arith))
    (and_from (counted_fits 8 (open_case_fits (is_marked s)) s.open_cases) _
    (and_from (nat_lt (length s.open_cases) (256 ^ 8)) _
    (lt-ltb (length s.open_cases) (256 ^ 8) (omega arith))
    (cases_fit x s.time s.next (is_marked s) s.open_cases f h.time h.next h.cases
    (all_suit s.open_cases (is_marked s) refl)
    (each_few (open_case_bytes (is_marked s)) (2 ^ 64 - 1) s.open_cases (omega arith))))
    (and_from (counted_fits 8 (word_fits own) s.solved) _
    (and_from (nat_lt (length s.solved) (256 ^ 8)) _
    (lt-ltb (length s.solved) (256 ^ 8) (omega arith))
    (all_other (is_last_word own s.next) (word_fits own)
    (λ w k. (and_parts (word_fits own w) _ k).0) s.solved h.solved))
    (and_from (nat_lt (length s.engines) (256 ^ 4)) _
    (lt-ltb (length s.engines) (256 ^ 4) (omega arith)) engines.fit)))))
