-- A step from a lawful state comes to a lawful one, and says good words.
use Rattle.std.proofs.Common.{◌≡◌, ℕ, zero, suc, ◌^◌, ◌<◌, ◌≤◌, ◌==◌, Bool, true, false}
use Rattle.std.proofs.Common.{◌&&◌, nat_lt}
use Rattle.std.proofs.Common.{nat_le, IsTrue, List, [], ◌∷◌, length, map, refl, sym, ap, ◌∙◌}
use Rattle.std.proofs.Common.{arith, Option, Some, None, slice_get, if◌then◌else◌, subst, max}
use Rattle.std.specs.List.{list_all, AllByRecursion}
use Rattle.std.proofs.lemmas.Bool.{false≢true, and_from, and_parts, ltb-true, leb-true}
use Rattle.std.proofs.lemmas.Bool.{le-leb, eqb-true}
use Rattle.fm_name.specs.Class.{is_class}
use Rattle.fm_entry.specs.Entries.{moment_of, IsSpelled}
use Rattle.fm_entry.specs.declared.entry.Entry.{Entry}
use Rattle.fm_entry.specs.declared.entry.Entry.TheVariants.{Report, Tick, Repaired, Replaced}
use Rattle.fm_entry.specs.declared.entry.Entry.TheVariants.{Acquit}
use Rattle.fm_entry.specs.declared.entry.Entry.TheVariants.{Reload}
use Rattle.fm_entry.specs.declared.suspect.Mark.TheVariants.{Repaired as RepairedMark, Acquitted}
use Rattle.fm_entry.specs.declared.suspect.Mark.TheVariants.{Replaced as ReplacedMark}
use Rattle.fm_core.specs.Meaning.{OpenCase, Diagnosis}
use Rattle.ev_graph.specs.declared.nodes.EngineSpec.{EngineSpec}
use Rattle.dx_serd.specs.Rates.{are_kept, none_past}
use Rattle.dx_serd.proofs.Moments.{past_later}
use Rattle.dx_explain.specs.Cases.{waits}
use Rattle.dx_state.specs.Configured.{Rules, Configuration, Configurations, Single, Listed}
use Rattle.dx_state.specs.Configured.{found_at}
use Rattle.dx_state.specs.Configured.{known_of, configuration_at, or_none}
use Rattle.dx_state.specs.LawfulState.{is_formed_configuration, is_open_case, are_engines, is_state}
use Rattle.dx_state.specs.LawfulState.{open_numbers, solved_numbers, are_apart}
use Rattle.dx_state.proofs.Lists.{all_other, all_at, strict_of, ascends_of}
use Rattle.dx_state.proofs.Facts.{IsFormed, formed_is, case_is, case_back, IsState}
use Rattle.dx_state.proofs.Facts.{state_is, state_back}
use Rattle.dx_step.specs.Turns.{Turn, configuration_of, graph_of, begin_at, turn_cases, with_cases}
use Rattle.dx_step.specs.Turns.{settle_all, decide_all}
use Rattle.dx_step.specs.Reports.{declares, report, trips}
use Rattle.dx_step.specs.Repairs.{is_at, is_at_or_under, is_of_case}
use Rattle.dx_step.specs.Step.{act, configure, is_above, reload, turn}
use Rattle.dx_step.specs.Lawful.{are_rules, is_there, is_lawful}
use Rattle.dx_step.proofs.Parts.{lacks, lacks_is}
use Rattle.dx_step.proofs.Sound.{IsGoodWord, IsSound, IsTurn, AllWait, IsSettled}
use Rattle.dx_step.proofs.Sound.{turn_with}
use Rattle.dx_step.proofs.Settling.{settled_each, decided_each}
use Rattle.dx_step.proofs.Joining.{reported, joined_each}
use Rattle.dx_step.proofs.Marking.{marked}

-- what a module is made with, at one of its configurations
record IsMade (r : Rules) (n : ℕ) : Type 0 where
  own : r.own < 8
  conf : n < 2 ^ 32
  formed : IsFormed (configuration_at r n)

some_there : (o : Option Configuration) → IsTrue (is_there o)
    → (x : Configuration) × (o ≡ Some x)
some_there None h = absurd (false≢true h)
some_there (Some x) h = (x, refl)

get_below : (xs : List Configuration) (n : ℕ) → IsTrue (is_there (slice_get xs n))
    → n < length xs
get_below [] n h = absurd (false≢true h)
get_below (x ∷ xs) zero h = omega arith
get_below (x ∷ xs) (suc n) h = let rest = get_below xs n h in omega arith

found_by : (own : ℕ) (k : Configurations) (n : ℕ) → IsTrue (are_rules (record {
  own = own;
  configurations = k;
})) → IsTrue (is_there (found_at k n)) → IsMade (record { own = own; configurations = k }) n
found_by own (Single number x) n h k =
    let one = and_parts (nat_lt own 8) _ h in
    let two = and_parts (nat_lt number (2 ^ 32)) _ one.1 in
    let place = single (n == number) x k in
    let same = eqb-true n number place in
    let low = ltb-true number (2 ^ 32) two.0 in
    record {
      own = ltb-true own 8 one.0;
      conf = omega arith;
      formed = subst IsFormed (sym (ap (λ (b : Bool). or_none (if b then Some x else None)) place))
          (formed_is x two.1);
    } where
      single : (b : Bool) (x : Configuration) → IsTrue (is_there (if b then Some x else None))
          → IsTrue b
      single true x h = refl
      single false x h = absurd (false≢true h)
found_by own (Listed xs) n h k =
    let one = and_parts (nat_lt own 8) _ h in
    let two = and_parts (nat_le (length xs) (2 ^ 32)) _ one.1 in
    let few = leb-true (length xs) (2 ^ 32) two.0 in
    let below = get_below xs n k in
    let there = some_there (slice_get xs n) k in
    record {
      own = ltb-true own 8 one.0;
      conf = omega arith;
      formed = subst IsFormed (sym (ap or_none there.1))
          (formed_is there.0 (all_at is_formed_configuration xs n there.0 two.1 there.1));
    }

made : (r : Rules) (n : ℕ) → IsTrue (are_rules r)
    → IsTrue (is_there (found_at r.configurations n)) → IsMade r n
made r n h k =
    let one = found_by r.own r.configurations n h k in
    record { own = one.own; conf = one.conf; formed = one.formed }

-- what it says of a state that it is lawful
pub record IsLawfulState (r : Rules) (s : Diagnosis) : Type 0 where
  pub rules : IsTrue (are_rules r)
  pub there : IsTrue (is_there (found_at r.configurations s.conf))
  pub own : r.own < 8
  pub conf : s.conf < 2 ^ 32
  pub formed : IsFormed (configuration_of r s)
  pub state : IsState r.own (configuration_of r s) s
  pub waiting : IsTrue (list_all (waits (graph_of r s) s.time) s.open_cases)

pub lawful_is : (r : Rules) (s : Diagnosis) → IsTrue (is_lawful r s) → IsLawfulState r s
unfolding is_lawful
lawful_is r s h =
    let one = and_parts (are_rules r) _ h in
    let two = and_parts (is_there (found_at r.configurations s.conf)) _ one.1 in
    let three = and_parts (is_state r.own (configuration_of r s) s) _ two.1 in
    let m = made r s.conf one.0 two.0 in
    record {
      rules = one.0;
      there = two.0;
      own = m.own;
      conf = m.conf;
      formed = m.formed;
      state = state_is r.own (configuration_of r s) s three.0;
      waiting = three.1;
    }

apart_same : (xs ys : List ℕ) → are_apart xs ys ≡ list_all (lacks ys) xs
apart_same xs ys = λ i. list_all (λ n. lacks_is ys n i) xs

-- later, what engines keep and when cases were opened is still not past
engines_later : (time later : ℕ) (es : List EngineSpec) (ks : List (List ℕ)) → time ≤ later
    → IsTrue (are_engines time es ks) → IsTrue (are_engines later es ks)
engines_later time later [] [] low h = refl
engines_later time later [] (k ∷ ks) low h = absurd (false≢true h)
engines_later time later (e ∷ es) [] low h = absurd (false≢true h)
engines_later time later (e ∷ es) (k ∷ ks) low h =
    let parts = and_parts (are_kept e.n e.t k && none_past time k) _ h in
    let one = and_parts (are_kept e.n e.t k) _ parts.0 in
    and_from (are_kept e.n e.t k && none_past later k) _
    (and_from (are_kept e.n e.t k) _ one.0 (past_later time later k low one.1))
    (engines_later time later es ks low parts.1)

-- a lawful state, as a turn begins
pub begun : (r : Rules) (s : Diagnosis) (moment : ℕ) → moment < 2 ^ 62 → IsLawfulState r s
    → IsTurn r s.open_cases (begin_at moment s)
begun r s moment low h =
    let x = configuration_of r s in
    let later = max s.time moment in
    let time = h.state.time in
    let after : s.time ≤ later = omega arith in
    record {
      sound = record {
        time = omega arith;
        next = h.state.next;
        cases = all_other (is_open_case x s.time s.next) (is_open_case x later s.next)
            (λ c k. let one = case_is x s.time s.next c k in
            let opened = one.opened in
            case_back x later s.next c (record {
              number = one.number;
              opened = omega arith;
              some = one.some;
              ascend = one.ascend;
              reports = one.reports;
              many = one.many;
              entries = one.entries;
              links = one.links;
              own = one.own;
            })) s.open_cases h.state.cases;
        solved = h.state.solved;
        strict = strict_of (open_numbers s.open_cases) h.state.opens_ascend;
        solved_strict = strict_of (solved_numbers s.solved) h.state.solved_ascend;
        apart = sym (apart_same (open_numbers s.open_cases) (solved_numbers s.solved))
            ∙ h.state.apart;
        engines = engines_later s.time later x.graph.engines s.engines after h.state.engines;
      };
      formed = h.formed;
      conf = h.conf;
      words = tt;
      fired = refl;
    }

settled_all : (r : Rules) (t : Turn) → IsTurn r (turn_cases t) t → IsSettled r t (settle_all r t)
settled_all r t h =
    let done = settled_each r true (turn_cases t) (with_cases [] t)
    (turn_with r (turn_cases t) [] t h) refl in
    record { turn = done.turn; waiting = done.waiting; time = done.time; conf = done.conf }

still : (r : Rules) (t : Turn) → IsTurn r (turn_cases t) t → AllWait r t → IsSettled r t t
still r t h all = record { turn = h; waiting = all; time = refl; conf = refl }

acted : (r : Rules) (n : ℕ) (e : Entry) (t : Turn) → n < 2 ^ 46 → IsSpelled e
    → IsTurn r (turn_cases t) t → AllWait r t → IsSettled r t (act r n e t)
acted r n (Report class path moment payload) t few spelled h all =
    elim (declares (graph_of r t.state) class) as (λ (b : Bool). IsSettled r t (if b
    then report r n (record { class = class; path = path }) payload t else t)) [
      | true ↦
          reported r n (record { class = class; path = path }) payload t
          (and_from (is_class class) _ spelled.body.class_is spelled.body.path_is) few h all
      | false ↦ still r t h all
    ]
acted r n (Tick moment) t few spelled h all = still r t h all
acted r n (Repaired path moment) t few spelled h all =
    marked r (is_at path) RepairedMark t refl h all
acted r n (Replaced path moment) t few spelled h all =
    marked r (is_at_or_under path) ReplacedMark t refl h all
acted r n (Acquit case moment) t few spelled h all =
    marked r (is_of_case case) Acquitted t refl h all
acted r n (Reload conf moment) t few spelled h all = still r t h all

tripped : (r : Rules) (n : ℕ) (t : Turn) → n < 2 ^ 46 → IsTurn r (turn_cases t) t → AllWait r t
    → IsSettled r t (trips r n t)
tripped r n t few h all =
    let u : Turn = record t { fired = [] } in
    let rest = joined_each r n t.fired u h.fired few (record {
      sound = h.sound;
      formed = h.formed;
      conf = h.conf;
      words = h.words;
      fired = refl;
    }) all in
    record { turn = rest.turn; waiting = rest.waiting; time = rest.time; conf = rest.conf }

-- what a step leaves
pub record IsStepped (r : Rules) (u : Turn) : Type 0 where
  pub lawful : IsTrue (is_lawful r u.state)
  pub words : AllByRecursion (IsGoodWord r) u.words

lawful_by : (r : Rules) (s : Diagnosis) → IsTrue (are_rules r)
    → IsTrue (is_there (found_at r.configurations s.conf)) → IsSound r s.open_cases s
    → IsTrue (list_all (waits (graph_of r s) s.time) s.open_cases) → IsTrue (is_lawful r s)
unfolding is_lawful
lawful_by r s rules there h all =
    and_from (are_rules r) _ rules
    (and_from (is_there (found_at r.configurations s.conf)) _ there
    (and_from (is_state r.own (configuration_of r s) s) _
    (state_back r.own (configuration_of r s) s (record {
      time = h.time;
      next = h.next;
      cases = h.cases;
      solved = h.solved;
      opens_ascend = ascends_of (open_numbers s.open_cases) h.strict;
      solved_ascend = ascends_of (solved_numbers s.solved) h.solved_strict;
      apart = apart_same (open_numbers s.open_cases) (solved_numbers s.solved) ∙ h.apart;
      engines = h.engines;
    })) all))

kept_on : (r : Rules) (t : Turn) → IsTrue (are_rules r)
    → IsTrue (is_there (found_at r.configurations t.state.conf)) → IsTurn r (turn_cases t) t
    → AllWait r t → IsStepped r t
kept_on r t rules there h all =
    record { lawful = lawful_by r t.state rules there h.sound all; words = h.words }

-- engines that have noted nothing
fresh_engines : (time : ℕ) (es : List EngineSpec) → IsTrue (are_engines time es (map (λ e. []) es))
fresh_engines time [] = refl
fresh_engines time (e ∷ es) =
    and_from (are_kept e.n e.t [] && none_past time []) _
    (and_from (are_kept e.n e.t []) true
    (and_from (nat_le 0 e.n) true (le-leb 0 e.n (omega arith)) refl) refl) (fresh_engines time es)

pub known_there : (k : Configurations) (n : ℕ) → n < known_of k → IsTrue (is_there (found_at k n))
known_there (Single number x) n h = absurd (omega arith)
known_there (Listed xs) n h = listed xs n h where
  listed : (xs : List Configuration) (n : ℕ) → n < length xs → IsTrue (is_there (slice_get xs n))
  listed [] n h = absurd (omega arith)
  listed (x ∷ xs) zero h = refl
  listed (x ∷ xs) (suc n) h = listed xs n (omega arith)

configured : (r : Rules) (conf : ℕ) (t : Turn) → IsTrue (are_rules r)
    → conf < known_of r.configurations → IsTurn r (turn_cases t) t
    → IsStepped r (configure r conf (decide_all r t))
configured r conf t rules known h =
    let u = decide_all r t in
    let done = decided_each r (turn_cases t) (with_cases [] t) (turn_with r (turn_cases t) [] t h)
    in
    let sound = done.turn.sound in
    let s : Diagnosis = (configure r conf u).state in
    let none : s.open_cases ≡ [] = done.cases in
    let fresh : IsSound r [] s =
    record {
      time = sound.time;
      next = sound.next;
      cases = refl;
      solved = sound.solved;
      strict = refl;
      solved_strict = sound.solved_strict;
      apart = refl;
      engines = fresh_engines u.state.time (configuration_at r conf).graph.engines;
    } in
    record {
      lawful = lawful_by r s rules (known_there r.configurations conf known)
          (subst (λ (cs : List OpenCase). IsSound r cs s) (sym none) fresh)
          (ap (list_all (waits (graph_of r s) s.time)) none);
      words = done.turn.words;
    }

reloaded : (r : Rules) (e : Entry) (t : Turn) → IsTrue (are_rules r)
    → IsTrue (is_there (found_at r.configurations t.state.conf)) → IsTurn r (turn_cases t) t
    → AllWait r t → IsStepped r (reload r e t)
reloaded r (Reload conf moment) t rules there h all =
    elim (is_above r t.state conf) as (λ (b : Bool). is_above r t.state conf ≡ b
    → IsStepped r (if b then configure r conf (decide_all r t) else t)) [
      | true ↦ λ is.
          configured r conf t rules (ltb-true conf (known_of r.configurations)
          (and_parts (nat_lt t.state.conf conf) _ is).1) h
      | false ↦ λ is. kept_on r t rules there h all
    ] refl
reloaded r (Report class path moment payload) t rules there h all = kept_on r t rules there h all
reloaded r (Tick moment) t rules there h all = kept_on r t rules there h all
reloaded r (Repaired path moment) t rules there h all = kept_on r t rules there h all
reloaded r (Replaced path moment) t rules there h all = kept_on r t rules there h all
reloaded r (Acquit case moment) t rules there h all = kept_on r t rules there h all

-- a step
pub stepped : (r : Rules) (s : Diagnosis) (n : ℕ) (e : Entry) → IsTrue (is_lawful r s)
    → n < 2 ^ 46 → IsSpelled e → IsStepped r (turn r s n e)
unfolding turn
stepped r s n e h few spelled =
    let lawful = lawful_is r s h in
    let t = begin_at (moment_of e) s in
    let one = settled_all r t (begun r s (moment_of e) spelled.moment_fits lawful) in
    let two = acted r n e (settle_all r t) few spelled one.turn one.waiting in
    let three = tripped r n (act r n e (settle_all r t)) few two.turn two.waiting in
    let u = trips r n (act r n e (settle_all r t)) in
    let conf : u.state.conf ≡ s.conf = three.conf ∙ two.conf ∙ one.conf in
    reloaded r e u lawful.rules
    (ap (λ (n : ℕ). is_there (found_at r.configurations n)) conf ∙ lawful.there) three.turn
    three.waiting
