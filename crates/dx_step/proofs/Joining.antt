-- A report joins a case or opens one, and what stays in order.
use Rattle.std.proofs.Common.{◌≡◌, ℕ, suc, ◌+◌, ◌^◌, ◌<◌, ◌==◌, Bool, true, false, not}
use Rattle.std.proofs.Common.{◌&&◌, ◌||◌, nat_lt, IsTrue, List, [], ◌∷◌, ◌++◌, length, map}
use Rattle.std.proofs.Common.{refl, sym, ap, ◌∙◌, arith, Option, Some, None, slice_get, slice_set}
use Rattle.std.proofs.Common.{subst, if◌then◌else◌, inr, length-append, cond}
use Rattle.std.specs.Prelude.{remove, position}
use Rattle.std.specs.List.{list_all, position_or_len}
use Rattle.std.proofs.lemmas.Bool.{false≢true, and_from, and_parts, ltb-true, lt-ltb}
use Rattle.std.proofs.lemmas.Bool.{eq-eqb}
use Rattle.std.proofs.lemmas.Bool.Decides.{nat_tests}
use Rattle.std.proofs.lemmas.List.{map-append}
use Rattle.std.proofs.lemmas.List.Folds.{list_all-map}
use Rattle.fm_nv.specs.Data.{Pairs, no_pairs}
use Rattle.fm_name.specs.declared.events.EventName.{EventName}
use Rattle.fm_entry.specs.Words.{is_link_before, links_ascend, event_fits}
use Rattle.fm_entry.specs.declared.broken.Broken.{Broken}
use Rattle.fm_core.specs.Meaning.{OpenCase, Diagnosis}
use Rattle.ev_incidence.specs.Sets.{ascends, is_member}
use Rattle.ev_graph.specs.Kinds.{is_report_node, is_report_kind, has_kind}
use Rattle.ev_graph.specs.Cutting.{is_cut}
use Rattle.ev_graph.specs.declared.nodes.Node.{Node}
use Rattle.ev_graph.specs.declared.instances.Link.{Link}
use Rattle.dx_explain.specs.Cases.{waits, case_opened, case_joined, inserted, with_links}
use Rattle.dx_explain.specs.Cases.{broken_of}
use Rattle.dx_state.specs.Configured.{Rules, Configuration, configuration_at}
use Rattle.dx_state.specs.LawfulState.{is_open_case, is_last_word, is_own_link, open_numbers}
use Rattle.dx_state.specs.LawfulState.{solved_numbers}
use Rattle.dx_state.proofs.Lists.{all_other, is_strict, strict_of, ascends_of}
use Rattle.dx_state.proofs.Facts.{IsOpenCase, case_is, case_back, word_is, word_back}
use Rattle.dx_step.specs.Turns.{Turn, configuration_of, graph_of, turn_cases, with_cases, say}
use Rattle.dx_step.specs.Turns.{decide, settle}
use Rattle.dx_step.specs.Reports.{report_named, links_broken, may_open, with_next, opens_case}
use Rattle.dx_step.specs.Reports.{settle_at, join_case, join_or_open, place_of_report, join}
use Rattle.dx_step.specs.Reports.{unknown_word, open_unknown, join_if_known, report, join_each}
use Rattle.dx_step.proofs.Blamed.{strict_push}
use Rattle.dx_step.proofs.Parts.{parted, all_joined, all_one, all_instead}
use Rattle.dx_step.proofs.Parts.{all_less, inserted_all, inserted_strict, inserted_few}
use Rattle.dx_step.proofs.Parts.{inserted_some, lacks, differs_below}
use Rattle.dx_step.proofs.Sound.{IsGoodWord, IsSound, IsTurn, IsFree, AllWait, IsSettled}
use Rattle.dx_step.proofs.Sound.{settled_by, turn_with, turn_less, turn_instead, free_of}
use Rattle.dx_step.proofs.Sound.{wait_alike}
use Rattle.dx_step.proofs.Deciding.{decided, turn_said}
use Rattle.dx_step.proofs.Settling.{settled_each}

-- a number comes into numbers in order
map_same : (xs : List ℕ) → map (λ n. n) xs ≡ xs
map_same [] = refl
map_same (x ∷ xs) = ap (λ ys. x ∷ ys) (map_same xs)

observed_ascend : (n : ℕ) (xs : List ℕ) → IsTrue (ascends xs)
    → IsTrue (ascends (inserted nat_lt n xs))
observed_ascend n xs h =
    ascends_of (inserted nat_lt n xs) (ap is_strict (sym (map_same (inserted nat_lt n xs)))
    ∙ inserted_strict (λ m. m) n xs (ap is_strict (map_same xs) ∙ strict_of xs h))

or_some : (a b : Bool) → IsTrue b → IsTrue (a || b)
or_some true b h = refl
or_some false b h = h

member_new : (n : ℕ) (xs : List ℕ) → IsTrue (is_member (inserted nat_lt n xs) n)
member_new n [] = ap (λ (b : Bool). b || false) (eq-eqb n n refl)
member_new n (y ∷ ys) =
    let later = member_new n ys in
    elim (nat_lt n y) as (λ (b : Bool). nat_lt n y ≡ b → IsTrue (is_member (if b then n ∷ y ∷ ys
    else (if nat_lt y n then y ∷ inserted nat_lt n ys else y ∷ ys)) n)) [
      | true ↦ λ is. ap (λ (b : Bool). b || is_member (y ∷ ys) n) (eq-eqb n n refl)
      | false ↦ λ high.
          elim (nat_lt y n) as (λ (b : Bool). nat_lt y n ≡ b → IsTrue (is_member
          (if b then y ∷ inserted nat_lt n ys else y ∷ ys) n)) [
            | true ↦ λ is. or_some (y == n) (is_member (inserted nat_lt n ys) n) later
            | false ↦ λ low.
                let same : IsTrue (y == n) = grind (arith, nat_tests) in
                ap (λ (b : Bool). b || is_member ys n) same
          ] refl
    ] refl

member_old : (n e : ℕ) (xs : List ℕ) → IsTrue (is_member xs e)
    → IsTrue (is_member (inserted nat_lt n xs) e)
member_old n e [] h = absurd (false≢true h)
member_old n e (y ∷ ys) h =
    elim (nat_lt n y) as (λ (b : Bool). IsTrue (is_member (if b then n ∷ y ∷ ys
    else (if nat_lt y n then y ∷ inserted nat_lt n ys else y ∷ ys)) e)) [
      | true ↦ or_some (n == e) (is_member (y ∷ ys) e) h
      | false ↦
          elim (nat_lt y n) as (λ (b : Bool). IsTrue (is_member
          (if b then y ∷ inserted nat_lt n ys else y ∷ ys) e)) [
            | true ↦
                elim (y == e) as (λ (t : Bool). IsTrue (t || is_member ys e)
                → IsTrue (t || is_member (inserted nat_lt n ys) e)) [
                  | true ↦ λ k. refl
                  | false ↦ λ k. member_old n e ys k
                ] h
            | false ↦ h
          ]
    ]

-- links come among links in order
link_trans : (a b c : Broken) → IsTrue (is_link_before a b) → IsTrue (is_link_before b c)
    → IsTrue (is_link_before a c)
link_trans a b c h k = grind (arith, nat_tests)

link_inserted : (b : Broken) (bs : List Broken) → IsTrue (links_ascend bs)
    → IsTrue (links_ascend (inserted is_link_before b bs))
link_inserted b [] h = refl
link_inserted b (y ∷ ys) h =
    let parts = and_parts (list_all (is_link_before y) ys) (links_ascend ys) h in
    let later = link_inserted b ys parts.1 in
    elim (is_link_before b y) as (λ (t : Bool). is_link_before b y ≡ t → IsTrue (links_ascend
    (if t then b ∷ y ∷ ys else (if is_link_before y b then y ∷ inserted is_link_before b ys
    else y ∷ ys)))) [
      | true ↦ λ is.
          and_from (list_all (is_link_before b) (y ∷ ys)) (links_ascend (y ∷ ys))
          (and_from (is_link_before b y) (list_all (is_link_before b) ys) is
          (all_other (is_link_before y) (is_link_before b) (λ z k. link_trans b y z is k) ys
          parts.0)) h
      | false ↦ λ no_before.
          elim (is_link_before y b) as (λ (t : Bool). is_link_before y b ≡ t → IsTrue (links_ascend
          (if t then y ∷ inserted is_link_before b ys else y ∷ ys))) [
            | true ↦ λ is.
                and_from (list_all (is_link_before y) (inserted is_link_before b ys)) _
                (inserted_all is_link_before (is_link_before y) b ys is parts.0) later
            | false ↦ λ same. h
          ] refl
    ] refl

links_come : (ls : List Link) (bs : List Broken) → IsTrue (links_ascend bs)
    → IsTrue (links_ascend (with_links ls bs))
links_come [] bs h = h
links_come (l ∷ ls) bs h =
    links_come ls (inserted is_link_before (broken_of l) bs) (link_inserted (broken_of l) bs h)

links_pass : (p : Broken → Bool) (ls : List Link) (bs : List Broken)
    → IsTrue (list_all (λ l. p (broken_of l)) ls) → IsTrue (list_all p bs)
    → IsTrue (list_all p (with_links ls bs))
links_pass p [] bs h k = k
links_pass p (l ∷ ls) bs h k =
    let parts = and_parts (p (broken_of l)) _ h in
    links_pass p ls (inserted is_link_before (broken_of l) bs) parts.1
    (inserted_all is_link_before p (broken_of l) bs parts.0 k)

-- the links that a payload breaks can be broken by a case that observed the node
broken_own : (x : Configuration) (observed : List ℕ) (node : ℕ) (payload : Pairs)
    → IsTrue (is_member observed node)
    → IsTrue (list_all (λ l. is_own_link x observed (broken_of l)) (links_broken x node payload))
broken_own x observed node payload h =
    list_all-map (λ l. is_own_link x observed (broken_of l))
    (λ i. record { instance = i; effect = node }) (x.guarding.breaks node payload)
    ∙ all_other (λ i. is_cut x.guarding.guarded i node)
    (λ i. is_cut x.guarding.guarded i node && is_member observed node)
    (λ i k. and_from (is_cut x.guarding.guarded i node) _ k h) (x.guarding.breaks node payload)
    (x.guarding.breaks_guarded node payload)

-- a case with a report more is lawful
joined_case : (x : Configuration) (time next : ℕ) (node entry : ℕ) (payload : Pairs) (c : OpenCase)
    → IsTrue (is_report_node x.graph.nodes node) → entry < 2 ^ 46 → IsOpenCase x time next c
    → IsOpenCase x time next (case_joined node entry (links_broken x node payload) c)
joined_case x time next node entry payload c report few h =
    let observed = inserted nat_lt node c.observed in
    let more = inserted_few nat_lt node c.observed in
    let entries = length-append c.entries (entry ∷ []) in
    let many = h.many in
    record {
      number = h.number;
      opened = h.opened;
      some = inserted_some nat_lt node c.observed;
      ascend = observed_ascend node c.observed h.ascend;
      reports = inserted_all nat_lt (is_report_node x.graph.nodes) node c.observed report h.reports;
      many = omega arith;
      entries = all_joined (λ n. nat_lt n (2 ^ 46)) c.entries (entry ∷ []) h.entries
          (all_one (λ n. nat_lt n (2 ^ 46)) entry (lt-ltb entry (2 ^ 46) few));
      links = links_come (links_broken x node payload) c.broken h.links;
      own = links_pass (is_own_link x observed) (links_broken x node payload) c.broken
          (broken_own x observed node payload (member_new node c.observed))
          (all_other (is_own_link x c.observed) (is_own_link x observed) (λ l k.
          let parts = and_parts (is_cut x.guarding.guarded l.instance l.effect) _ k in
          and_from (is_cut x.guarding.guarded l.instance l.effect) _ parts.0
          (member_old node l.effect c.observed parts.1)) c.broken h.own);
    }

opened_case : (x : Configuration) (time number : ℕ) (node entry : ℕ) (payload : Pairs)
    → IsTrue (is_report_node x.graph.nodes node) → entry < 2 ^ 46
    → IsOpenCase x time (number + 1)
    (case_opened number node time entry (links_broken x node payload))
opened_case x time number node entry payload report few = record {
  number = omega arith;
  opened = omega arith;
  some = omega arith;
  ascend = refl;
  reports = all_one (is_report_node x.graph.nodes) node report;
  many = omega arith;
  entries = all_one (λ n. nat_lt n (2 ^ 46)) entry (lt-ltb entry (2 ^ 46) few);
  links = links_come (links_broken x node payload) [] refl;
  own = links_pass (is_own_link x (node ∷ [])) (links_broken x node payload) []
      (broken_own x (node ∷ []) node payload (ap (λ (b : Bool). b || false)
      (eq-eqb node node refl)))
      refl;
}

-- the case at a place, with a report more
settled_at : (r : Rules) (notes : Bool) (at : ℕ) (c d : OpenCase) (t : Turn)
    → slice_get (turn_cases t) at ≡ Some c → d.number ≡ c.number
    → IsTrue (is_open_case (configuration_of r t.state) t.state.time t.state.next d)
    → IsTurn r (turn_cases t) t → AllWait r t → IsSettled r t (settle_at r notes at d t)
settled_at r notes at c d t stands same lawful h all =
    let p = parted (turn_cases t) at c stands in
    let wait : OpenCase → Bool = waits (graph_of r t.state) t.state.time in
    let whole = subst (λ (cs : List OpenCase). IsTurn r cs t) p.whole h in
    let waiting = ap (list_all wait) (sym p.whole) ∙ all in
    let changed = turn_instead r p.before p.after c d t same lawful whole in
    elim (wait d) as (λ (b : Bool). wait d ≡ b → IsSettled r t (if b
    then with_cases (slice_set (turn_cases t) at d) t
    else decide r notes d (with_cases (remove (turn_cases t) at) t))) [
      | true ↦ λ is. record {
        turn =
            turn_with r (slice_set (turn_cases t) at d) (slice_set (turn_cases t) at d) t
            (subst (λ (cs : List OpenCase). IsTurn r cs t) (sym (p.replaced d)) changed);
        waiting = ap (list_all wait) (p.replaced d)
            ∙ all_instead wait p.before p.after c d waiting is;
        time = refl;
        conf = refl;
      }
      | false ↦ λ is.
          let less = subst (λ (cs : List OpenCase). IsTurn r cs t) (sym p.removed)
          (turn_less r p.before p.after d t changed) in
          let out = with_cases (remove (turn_cases t) at) t in
          let free = subst (λ (cs : List OpenCase). IsFree r cs t.state d) (sym p.removed)
          (free_of r p.before p.after d t.state changed.sound) in
          let done = decided r notes (remove (turn_cases t) at) out d
          (turn_with r (remove (turn_cases t) at) (remove (turn_cases t) at) t less)
          (record {
            lawful = free.lawful;
            not_open = free.not_open;
            not_solved =
                free.not_solved;
          }) in
          let left : AllWait r out =
          ap (list_all wait) p.removed ∙ all_less wait p.before p.after c waiting in
          record {
            turn = subst (λ (cs : List OpenCase). IsTurn r cs (decide r notes d out))
                (sym done.cases) done.turn;
            waiting = wait_alike r out (decide r notes d out) done.cases done.time done.conf left;
            time = done.time;
            conf = done.conf;
          }
    ] refl

same_turn : (r : Rules) (t : Turn) → IsTurn r (turn_cases t) t → AllWait r t → IsSettled r t t
same_turn r t h all = record { turn = h; waiting = all; time = refl; conf = refl }

-- a number more for the next case
sound_next : (r : Rules) (cs : List OpenCase) (t : Turn) → IsTurn r cs t
    → t.state.next < 2 ^ 63 → IsTurn r cs (with_next t)
sound_next r cs t h low =
    let x = configuration_of r t.state in
    let s = t.state in
    record {
      sound = record {
        time = h.sound.time;
        next = omega arith;
        cases = all_other (is_open_case x s.time s.next) (is_open_case x s.time (s.next + 1))
            (λ c k. let one = case_is x s.time s.next c k in
            let number = one.number in
            case_back x s.time (s.next + 1) c (record {
              number = omega arith;
              opened = one.opened;
              some = one.some;
              ascend = one.ascend;
              reports = one.reports;
              many = one.many;
              entries = one.entries;
              links = one.links;
              own = one.own;
            })) cs h.sound.cases;
        solved = all_other (is_last_word r.own s.next) (is_last_word r.own (s.next + 1))
            (λ w k. let one = word_is r.own s.next w k in
            let number = one.number in
            word_back r.own (s.next + 1) w (record {
              fits = one.fits;
              number = omega arith;
              some = one.some;
              observed = one.observed;
              suspects = one.suspects;
              marks = one.marks;
            })) s.solved h.sound.solved;
        strict = h.sound.strict;
        solved_strict = h.sound.solved_strict;
        apart = h.sound.apart;
        engines = h.sound.engines;
      };
      formed = h.formed;
      conf = h.conf;
      words = h.words;
      fired = h.fired;
    }

-- all numbers in use are below the next one
open_below : (r : Rules) (cs : List OpenCase) (s : Diagnosis) → IsSound r cs s
    → IsTrue (list_all (λ n. nat_lt n s.next) (open_numbers cs))
open_below r cs s h =
    list_all-map (λ n. nat_lt n s.next) (λ c. c.number) cs
    ∙ all_other (is_open_case (configuration_of r s) s.time s.next) (λ c. nat_lt c.number s.next)
    (λ c k. (and_parts (nat_lt c.number s.next) _ k).0) cs h.cases

solved_below : (r : Rules) (cs : List OpenCase) (s : Diagnosis) → IsSound r cs s
    → IsTrue (list_all (λ n. nat_lt n s.next) (solved_numbers s.solved))
solved_below r cs s h =
    list_all-map (λ n. nat_lt n s.next) (λ w. w.case.case) s.solved
    ∙ all_other (is_last_word r.own s.next) (λ w. nat_lt w.case.case s.next)
    (λ w k. let one = word_is r.own s.next w k in lt-ltb w.case.case s.next one.number) s.solved
    h.solved

-- a case more behind the others
turn_more : (r : Rules) (t : Turn) (c : OpenCase) → IsTurn r (turn_cases t) t
    → t.state.next < 2 ^ 63 → c.number ≡ t.state.next
    → IsTrue (is_open_case (configuration_of r t.state) t.state.time (t.state.next + 1) c)
    → IsTurn r (turn_cases t ++ c ∷ []) (with_next t)
turn_more r t c h low same lawful =
    let cs = turn_cases t in
    let s = t.state in
    let more = sound_next r cs t h low in
    let numbers : open_numbers (cs ++ c ∷ []) ≡ open_numbers cs ++ s.next ∷ [] =
    map-append (λ c. c.number) cs (c ∷ []) ∙ ap (λ n. open_numbers cs ++ n ∷ []) same in
    record {
      sound = record {
        time = more.sound.time;
        next = more.sound.next;
        cases =
            all_joined (is_open_case (configuration_of r s) s.time (s.next + 1)) cs (c ∷ [])
            more.sound.cases
            (all_one (is_open_case (configuration_of r s) s.time (s.next + 1)) c lawful);
        solved = more.sound.solved;
        strict = ap is_strict numbers
            ∙ strict_push s.next (open_numbers cs) (open_below r cs s h.sound) h.sound.strict;
        solved_strict = more.sound.solved_strict;
        apart = ap (list_all (lacks (solved_numbers s.solved))) numbers
            ∙ all_joined (lacks (solved_numbers s.solved)) (open_numbers cs) (s.next ∷ [])
            h.sound.apart (all_one (lacks (solved_numbers s.solved)) s.next
            (all_other (λ n. nat_lt n s.next) (λ m. not (m == s.next))
            (λ m k. differs_below s.next m k) (solved_numbers s.solved)
            (solved_below r cs s h.sound)));
        engines = more.sound.engines;
      };
      formed = more.formed;
      conf = more.conf;
      words = more.words;
      fired = more.fired;
    }

opened : (r : Rules) (notes : Bool) (entry node : ℕ) (payload : Pairs) (t : Turn)
    → IsTrue (is_report_node (graph_of r t.state).nodes node) → entry < 2 ^ 46
    → IsTurn r (turn_cases t) t → AllWait r t
    → IsSettled r t (opens_case r notes entry node
    (links_broken (configuration_of r t.state) node payload) t)
opened r notes entry node payload t report few h all =
    let x = configuration_of r t.state in
    let c = case_opened t.state.next node t.state.time entry (links_broken x node payload) in
    elim (may_open t.state) as (λ (b : Bool). may_open t.state ≡ b
    → IsSettled r t (if b then settle r notes c (with_next t) else t)) [
      | true ↦ λ is.
          let more = turn_more r t c h (ltb-true t.state.next (2 ^ 63) is) refl
          (case_back x t.state.time (t.state.next + 1) c
          (opened_case x t.state.time t.state.next node entry payload report few)) in
          let done = settled_each r notes (c ∷ []) (with_next t) more all in
          record {
            turn = done.turn;
            waiting = done.waiting;
            time = done.time;
            conf = done.conf;
          }
      | false ↦ λ is. same_turn r t h all
    ] refl

joined_at : (r : Rules) (notes : Bool) (entry node : ℕ) (payload : Pairs) (at : ℕ)
    (o : Option OpenCase) (t : Turn) → slice_get (turn_cases t) at ≡ o
    → IsTrue (is_report_node (graph_of r t.state).nodes node) → entry < 2 ^ 46
    → IsTurn r (turn_cases t) t → AllWait r t
    → IsSettled r t (join_case r notes entry node
    (links_broken (configuration_of r t.state) node payload) at o t)
joined_at r notes entry node payload at None t stands report few h all = same_turn r t h all
joined_at r notes entry node payload at (Some c) t stands report few h all =
    let x = configuration_of r t.state in
    let p = parted (turn_cases t) at c stands in
    let free = free_of r p.before p.after c t.state
    (subst (λ (cs : List OpenCase). IsTurn r cs t) p.whole h).sound in
    let d = case_joined node entry (links_broken x node payload) c in
    settled_at r notes at c d t stands refl
    (case_back x t.state.time t.state.next d
    (joined_case x t.state.time t.state.next node entry payload c report few free.lawful)) h all

joined_or_opened : (r : Rules) (notes : Bool) (entry node : ℕ) (payload : Pairs) (o : Option ℕ)
    (t : Turn) → IsTrue (is_report_node (graph_of r t.state).nodes node) → entry < 2 ^ 46
    → IsTurn r (turn_cases t) t → AllWait r t
    → IsSettled r t (join_or_open r notes entry node
    (links_broken (configuration_of r t.state) node payload) o t)
joined_or_opened r notes entry node payload None t report few h all =
    opened r notes entry node payload t report few h all
joined_or_opened r notes entry node payload (Some at) t report few h all =
    joined_at r notes entry node payload at (slice_get (turn_cases t) at) t refl report few h all

-- a report of a node
pub joined : (r : Rules) (notes : Bool) (entry node : ℕ) (payload : Pairs) (t : Turn)
    → IsTrue (is_report_node (graph_of r t.state).nodes node) → entry < 2 ^ 46
    → IsTurn r (turn_cases t) t → AllWait r t
    → IsSettled r t (join r notes entry node payload t)
unfolding join
joined r notes entry node payload t report few h all =
    joined_or_opened r notes entry node payload (place_of_report r node t) t report few h all

-- reports of the nodes of engines that fired
pub joined_each : (r : Rules) (entry : ℕ) (nodes : List ℕ) (t : Turn)
    → IsTrue (list_all (is_report_node (graph_of r t.state).nodes) nodes) → entry < 2 ^ 46
    → IsTurn r (turn_cases t) t → AllWait r t → IsSettled r t (join_each r entry nodes t)
joined_each r entry [] t reports few h all = same_turn r t h all
joined_each r entry (node ∷ nodes) t reports few h all =
    let parts = and_parts (is_report_node (graph_of r t.state).nodes node) _ reports in
    let u = join r false entry node no_pairs t in
    let one = joined r false entry node no_pairs t parts.0 few h all in
    let left : IsTrue (list_all (is_report_node (graph_of r u.state).nodes) nodes) =
    ap (λ (n : ℕ). list_all (is_report_node (configuration_at r n).graph.nodes) nodes) one.conf
    ∙ parts.1 in
    settled_by r t u (join_each r entry nodes u) one
    (joined_each r entry nodes u left few one.turn one.waiting)

at_length : (p : Node → Bool) (nodes : List Node) → position_or_len p nodes < length nodes
    → (node : Node) × (slice_get nodes (position_or_len p nodes) ≡ Some node) × IsTrue (p node)
at_length p [] h = absurd (omega arith)
at_length p (n ∷ nodes) h =
    elim (p n) as (λ (b : Bool). p n ≡ b
    → cond (not b) (1 + position_or_len p nodes) 0 < length (n ∷ nodes)
    → (node : Node) × (slice_get (n ∷ nodes) (cond (not b) (1 + position_or_len p nodes) 0)
    ≡ Some node) × IsTrue (p node)) [
      | true ↦ λ is low. (n, refl, is)
      | false ↦ λ is low.
          let one = at_length p nodes (omega arith) in
          let next : 1 + position_or_len p nodes ≡ suc (position_or_len p nodes) = omega arith in
          (one.0, ap (slice_get (n ∷ nodes)) next ∙ one.1, one.2)
    ] refl h

-- the place of a report is that of a report
at_place : (p : Node → Bool) (nodes : List Node) (at : ℕ) → position p nodes ≡ Some at
    → (node : Node) × (slice_get nodes at ≡ Some node) × IsTrue (p node)
at_place p nodes at h =
    let place = placed (nat_lt (position_or_len p nodes) (length nodes))
    (position_or_len p nodes) at
    h in
    let one = at_length p nodes (ltb-true (position_or_len p nodes) (length nodes) place.0) in
    (one.0, ap (slice_get nodes) (sym place.1) ∙ one.1, one.2) where
      placed : (b : Bool) (i at : ℕ) → cond b (Some i) None ≡ Some at → IsTrue b × (i ≡ at)
      placed true i at h = (refl, cc)
      placed false i at h = absurd (let never : ⊥ = cc in never)

-- the word on an event that the graph does not have
unknown_said : (r : Rules) (t : Turn) (name : EventName) → IsTurn r (turn_cases t) t
    → IsTrue (event_fits name) → report_named (graph_of r t.state) name ≡ None
    → t.state.next < 2 ^ 63 → IsGoodWord r (unknown_word r.own t.state name)
unknown_said r t name h fits none low = record {
  spelled =
      and_from (r.own == r.own) _ (eq-eqb r.own r.own refl)
      (and_from (nat_lt t.state.next (2 ^ 63)) _ (lt-ltb t.state.next (2 ^ 63) low)
      (and_from (nat_lt t.state.time (2 ^ 62)) _ (lt-ltb t.state.time (2 ^ 62) h.sound.time)
      (and_from (nat_lt t.state.conf (2 ^ 32)) _ (lt-ltb t.state.conf (2 ^ 32) h.conf)
      (and_from (event_fits name && true) _ (and_from (event_fits name) true fits refl) refl))));
  exact = inr (record { name = name; observed = refl; none = none; suspects = refl });
}

opened_unknown : (r : Rules) (name : EventName) (t : Turn) → IsTrue (event_fits name)
    → report_named (graph_of r t.state) name ≡ None → IsTurn r (turn_cases t) t → AllWait r t
    → IsSettled r t (open_unknown r.own name t)
opened_unknown r name t fits none h all =
    elim (may_open t.state) as (λ (b : Bool). may_open t.state ≡ b
    → IsSettled r t (if b then with_next (say (unknown_word r.own t.state name) t) else t)) [
      | true ↦ λ is.
          let low = ltb-true t.state.next (2 ^ 63) is in
          let said = turn_said r (turn_cases t) t (unknown_word r.own t.state name) h
          (unknown_said r t name h fits none low) in
          record {
            turn = sound_next r (turn_cases t) (say (unknown_word r.own t.state name) t) said low;
            waiting = all;
            time = refl;
            conf = refl;
          }
      | false ↦ λ is. same_turn r t h all
    ] refl

reported_by : (r : Rules) (entry : ℕ) (name : EventName) (payload : Pairs) (o : Option ℕ)
    (t : Turn) → report_named (graph_of r t.state) name ≡ o → IsTrue (event_fits name)
    → entry < 2 ^ 46 → IsTurn r (turn_cases t) t → AllWait r t
    → IsSettled r t (join_if_known r entry name payload o t)
reported_by r entry name payload None t is fits few h all = opened_unknown r name t fits is h all
reported_by r entry name payload (Some node) t is fits few h all =
    let g = graph_of r t.state in
    let at = at_place _ g.nodes node is in
    let kind : IsTrue (is_report_node g.nodes node) =
    ap (has_kind is_report_kind) at.1 ∙ (and_parts (is_report_kind at.0.kind) _ at.2).0 in
    joined r true entry node payload t kind few h all

-- a report
pub reported : (r : Rules) (entry : ℕ) (name : EventName) (payload : Pairs) (t : Turn)
    → IsTrue (event_fits name) → entry < 2 ^ 46 → IsTurn r (turn_cases t) t → AllWait r t
    → IsSettled r t (report r entry name payload t)
unfolding report
reported r entry name payload t fits few h all =
    reported_by r entry name payload (report_named (graph_of r t.state) name) t refl fits few h all
