-- The laws of the meaning of a diagnosis module.
use Rattle.std.proofs.Common.{◌≡◌, ℕ, ◌<◌, ◌^◌, Bool, true, false, IsTrue, List, [], ◌∷◌, length}
use Rattle.std.proofs.Common.{refl, ap, ◌∙◌, Some, None, if◌then◌else◌, nat_lt, ◌&&◌, subst}
use Rattle.std.specs.List.{All, AllByRecursion}
use Rattle.std.proofs.lemmas.Bool.{false≢true}
use Rattle.std.proofs.lemmas.List.Elements.{All-from_recursion}
use Rattle.fm_nv.specs.Data.{Pairs}
use Rattle.fm_entry.specs.declared.entry.Entry.{Entry}
use Rattle.fm_entry.specs.declared.entry.Entry.TheVariants.{Report, Tick, Repaired, Replaced}
use Rattle.fm_entry.specs.declared.entry.Entry.TheVariants.{Acquit}
use Rattle.fm_entry.specs.declared.entry.Entry.TheVariants.{Reload}
use Rattle.fm_entry.specs.declared.list_event.ListEvent.{ListEvent}
use Rattle.fm_entry.specs.Entries.{IsSpelled, moment_of}
use Rattle.fm_entry.specs.Words.{IsWordOf}
use Rattle.fm_entry.proofs.SpokenReader.{word_is}
use Rattle.fm_core.specs.Meaning.{State, Counting, Diagnosing, Foreign, Diagnosis, conf_after}
use Rattle.dx_state.specs.Configured.{Rules, known_of, configuration_at}
use Rattle.dx_state.specs.StateBytes.{diagnosis_bytes}
use Rattle.dx_state.proofs.StateReader.{diagnosis_once}
use Rattle.dx_state.proofs.Spelled.{state_fits}
use Rattle.std.specs.List.{list_all}
use Rattle.std.proofs.Common.{◌↔◌, inl, inr}
use Rattle.std.proofs.lemmas.Bool.{and_parts}
use Rattle.fm_entry.specs.declared.list_event.ListKind.{ListKind}
use Rattle.fm_entry.specs.declared.list_event.ListKind.TheVariants.{Suspect as SuspectKind, Updated}
use Rattle.fm_entry.specs.declared.list_event.ListKind.TheVariants.{Undiagnosable}
use Rattle.fm_entry.specs.declared.list_event.ListKind.TheVariants.{Upset as UpsetWord}
use Rattle.fm_entry.specs.declared.list_event.ListKind.TheVariants.{Repaired as RepairedWord}
use Rattle.fm_core.specs.Meaning.{OpenCase}
use Rattle.ev_graph.specs.Kinds.{is_root_kind, is_upset_kind}
use Rattle.ev_graph.specs.Lawful.{GraphValue, IsGraph}
use Rattle.ev_graph.specs.declared.nodes.NodeKind.{NodeKind}
use Rattle.dx_explain.specs.Cases.{cuts_of, waits, is_solving_kind}
use Rattle.dx_explain.specs.CaseLaws.{HasPending}
use Rattle.dx_explain.proofs.Meaning.{explaining, waiting}
use Rattle.dx_step.specs.Exact.{Explaining, ByTest, ByStories, AreAll, HasNone, IsExactFor, IsExact}
use Rattle.dx_step.specs.Exact.{HaveGraphs}
use Rattle.dx_step.specs.Turns.{Turn, configuration_of, graph_of, begin_at, settle_all, decide_all}
use Rattle.dx_step.specs.Reports.{declares, report, trips}
use Rattle.dx_step.specs.Step.{act, configure, is_above, reload, turn, words_at}
use Rattle.dx_step.specs.Lawful.{is_lawful}
use Rattle.dx_step.specs.DiagnoserWords.{diagnoser_conf, diagnoser_takes, diagnoser_after}
use Rattle.dx_step.specs.DiagnoserWords.{diagnoser_says, diagnoser_holds, diagnoser_saved}
use Rattle.dx_step.proofs.Confs.{conf_in, settle_all_conf, join_each_conf, act_conf}
use Rattle.dx_step.proofs.Sound.{IsGoodWord}
use Rattle.dx_step.proofs.Stepping.{lawful_is, stepped}

-- a report of a class that is not declared is taken as a tick
pub turn_ticks : (r : Rules) (s : Diagnosis) (n : ℕ) (class path : List ℕ) (moment : ℕ)
    (payload : Pairs) → declares (graph_of r s) class ≡ false
    → turn r s n (Report class path moment payload) ≡ turn r s n (Tick moment)
unfolding turn
turn_ticks r s n class path moment payload h =
    let t = settle_all r (begin_at moment s) in
    let same : declares (graph_of r t.state) class ≡ false =
    ap (λ (c : ℕ). declares (configuration_at r c).graph class)
    (settle_all_conf r (begin_at moment s)) ∙ h in
    ap (λ (b : Bool). trips r n (if b
    then report r n (record { class = class; path = path }) payload t else t)) same

pub after_ticks : (r : Rules) (s : State) (n : ℕ) (class path : List ℕ) (moment : ℕ)
    (payload : Pairs) → diagnoser_takes r s class ≡ false
    → diagnoser_after r s n (Report class path moment payload) ≡ diagnoser_after r s n (Tick moment)
after_ticks r (Diagnosing s) n class path moment payload h =
    ap (λ (t : Turn). Diagnosing t.state) (turn_ticks r s n class path moment payload h)
after_ticks r (Counting xs) n class path moment payload h = refl
after_ticks r (Foreign bytes) n class path moment payload h = refl

pub says_ticks : (r : Rules) (s : State) (n : ℕ) (class path : List ℕ) (moment : ℕ)
    (payload : Pairs) → diagnoser_takes r s class ≡ false
    → diagnoser_says r s n (Report class path moment payload) ≡ diagnoser_says r s n (Tick moment)
says_ticks r (Diagnosing s) n class path moment payload h =
    ap (λ (t : Turn). t.words) (turn_ticks r s n class path moment payload h)
says_ticks r (Counting xs) n class path moment payload h = refl
says_ticks r (Foreign bytes) n class path moment payload h = refl

-- the configuration changes at a reload that acts
reload_conf : (r : Rules) (s : Diagnosis) (e : Entry) (t : Turn) → conf_in t ≡ s.conf
    → Some (conf_in (reload r e t)) ≡ conf_after (known_of r.configurations) (Some s.conf) e
reload_conf r s (Reload conf moment) t h =
    choose (is_above r t.state conf)
    ∙ ap (λ (c : ℕ). Some (if (nat_lt c conf && nat_lt conf (known_of r.configurations))
    then conf else c)) h where
      choose : (b : Bool) → Some (conf_in (if b then configure r conf (decide_all r t) else t))
          ≡ Some (if b then conf else conf_in t)
      choose true = refl
      choose false = refl
reload_conf r s (Report class path moment payload) t h = ap Some h
reload_conf r s (Tick moment) t h = ap Some h
reload_conf r s (Repaired path moment) t h = ap Some h
reload_conf r s (Replaced path moment) t h = ap Some h
reload_conf r s (Acquit case moment) t h = ap Some h

turn_conf : (r : Rules) (s : Diagnosis) (n : ℕ) (e : Entry)
    → Some (conf_in (turn r s n e)) ≡ conf_after (known_of r.configurations) (Some s.conf) e
unfolding turn
turn_conf r s n e =
    let t = begin_at (moment_of e) s in
    let u = act r n e (settle_all r t) in
    reload_conf r s e (trips r n u)
    (join_each_conf r n u.fired (record u { fired = [] }) ∙ act_conf r n e (settle_all r t)
    ∙ settle_all_conf r t)

other_conf : (known : ℕ) (e : Entry) → None ≡ conf_after known None e
other_conf known (Report class path moment payload) = refl
other_conf known (Tick moment) = refl
other_conf known (Repaired path moment) = refl
other_conf known (Replaced path moment) = refl
other_conf known (Acquit case moment) = refl
other_conf known (Reload conf moment) = refl

pub conf_steps : (r : Rules) (s : State) (n : ℕ) (e : Entry)
    → diagnoser_conf (diagnoser_after r s n e)
    ≡ conf_after (known_of r.configurations) (diagnoser_conf s) e
conf_steps r (Diagnosing s) n e = turn_conf r s n e
conf_steps r (Counting xs) n e = other_conf (known_of r.configurations) e
conf_steps r (Foreign bytes) n e = other_conf (known_of r.configurations) e

pub after_holds : (r : Rules) (s : State) (n : ℕ) (e : Entry) → IsTrue (diagnoser_holds r s)
    → n < 2 ^ 46 → IsSpelled e → IsTrue (diagnoser_holds r (diagnoser_after r s n e))
after_holds r (Diagnosing s) n e h few spelled = (stepped r s n e h few spelled).lawful
after_holds r (Counting xs) n e h few spelled = absurd (false≢true h)
after_holds r (Foreign bytes) n e h few spelled = absurd (false≢true h)

good_spelled : (r : Rules) (ws : List ListEvent) → AllByRecursion (IsGoodWord r) ws
    → AllByRecursion (IsWordOf r.own) ws
good_spelled r [] h = tt
good_spelled r (w ∷ ws) h = (word_is r.own w h.0.spelled, good_spelled r ws h.1)

pub spelled_words : (r : Rules) (s : Diagnosis) (n : ℕ) (e : Entry) → IsTrue (is_lawful r s)
    → n < 2 ^ 46 → IsSpelled e → All (IsWordOf r.own) (words_at r s n e)
spelled_words r s n e h few spelled =
    All-from_recursion (IsWordOf r.own) (words_at r s n e)
    (good_spelled r (words_at r s n e) (stepped r s n e h few spelled).words)

pub says_words : (r : Rules) (s : State) (n : ℕ) (e : Entry) → IsTrue (diagnoser_holds r s)
    → n < 2 ^ 46 → IsSpelled e → All (IsWordOf r.own) (diagnoser_says r s n e)
says_words r (Diagnosing s) n e h few spelled = spelled_words r s n e h few spelled
says_words r (Counting xs) n e h few spelled = absurd (false≢true h)
says_words r (Foreign bytes) n e h few spelled = absurd (false≢true h)

-- equal saves are of equal states
same_conf : (s t : Diagnosis) → diagnosis_bytes s ≡ diagnosis_bytes t
    → length (diagnosis_bytes s) < 2 ^ 64 → length (diagnosis_bytes t) < 2 ^ 64
same_conf s t e h = subst (λ (bytes : List ℕ). length bytes < 2 ^ 64) e h

pub saved_once : (r : Rules) (s t : State) → IsTrue (diagnoser_holds r s)
    → IsTrue (diagnoser_holds r t) → length (diagnoser_saved s) < 2 ^ 64
    → diagnoser_saved s ≡ diagnoser_saved t → s ≡ t
saved_once r (Diagnosing s) (Diagnosing t) h k short e =
    let one = lawful_is r s h in
    let two = lawful_is r t k in
    ap Diagnosing (diagnosis_once r.own one.own s t
    (state_fits r.own (configuration_of r s) s one.formed one.conf one.state short)
    (state_fits r.own (configuration_of r t) t two.formed two.conf two.state
    (same_conf s t e short)) e)
saved_once r (Diagnosing s) (Counting xs) h k short e = absurd (false≢true k)
saved_once r (Diagnosing s) (Foreign bytes) h k short e = absurd (false≢true k)
saved_once r (Counting xs) t h k short e = absurd (false≢true h)
saved_once r (Foreign bytes) t h k short e = absurd (false≢true h)

-- and of the words said, each names just the roots that explain what it observed
abbrev Same : Explaining → Explaining → GraphValue → Type 0
Same X Y g = (c : OpenCase) (e : ℕ) → X g c e ↔ Y g c e

all_same : (X Y : Explaining) (kind : NodeKind → Bool) (g : GraphValue) (c : OpenCase)
    (es : List ℕ) → Same X Y g → AreAll X kind g c es → AreAll Y kind g c es
all_same X Y kind g c es same h = record {
  ascend = h.ascend;
  each = λ e. (
    λ is. let both = (h.each e).0 is in (both.0, (same c e).0 both.1),
    λ both. (h.each e).1 (both.0, (same c e).1 both.1),
  );
}

none_same : (X Y : Explaining) (kind : NodeKind → Bool) (g : GraphValue) (c : OpenCase)
    → Same X Y g → HasNone X kind g c → HasNone Y kind g c
none_same X Y kind g c same h e is explains = h e is ((same c e).1 explains)

exact_same : (X Y : Explaining) (g : GraphValue) (kind : ListKind) (w : ListEvent)
    → Same X Y g → IsExactFor X g kind w → IsExactFor Y g kind w
exact_same X Y g SuspectKind w same h = record {
  of = h.of;
  on = h.on;
  faults = h.faults;
  some = h.some;
  all = all_same X Y is_solving_kind g h.of h.faults same h.all;
  suspects = h.suspects;
}
exact_same X Y g UpsetWord w same h = record {
  of = h.of;
  on = h.on;
  none = none_same X Y is_solving_kind g h.of same h.none;
  upsets = h.upsets;
  some = h.some;
  all = all_same X Y is_upset_kind g h.of h.upsets same h.all;
  suspects = h.suspects;
}
exact_same X Y g Undiagnosable w same h =
    elim h [
      | inl k ↦ inl (record {
        of = k.of;
        on = k.on;
        none = none_same X Y is_root_kind g k.of same k.none;
        suspects = k.suspects;
      })
      | inr k ↦ inr k
    ]
exact_same X Y g Updated w same h = tt
exact_same X Y g RepairedWord w same h = tt

all_exact : (r : Rules) (ws : List ListEvent) → HaveGraphs r → AllByRecursion (IsGoodWord r) ws
    → AllByRecursion (IsExact ByStories r) ws
all_exact r [] graphs h = tt
all_exact r (w ∷ ws) graphs h = (
  exact_same ByTest ByStories (configuration_at r w.conf).graph w.kind w
      (λ c e. explaining (configuration_at r w.conf).graph (cuts_of c) c.observed e
      (graphs w.conf)) h.0.exact,
  all_exact r ws graphs h.1,
)

pub exact_words : (r : Rules) (s : Diagnosis) (n : ℕ) (e : Entry) → HaveGraphs r
    → IsTrue (is_lawful r s) → n < 2 ^ 46 → IsSpelled e
    → All (IsExact ByStories r) (words_at r s n e)
exact_words r s n e graphs h few spelled =
    All-from_recursion (IsExact ByStories r) (words_at r s n e)
    (all_exact r (words_at r s n e) graphs (stepped r s n e h few spelled).words)

-- each open case has a pending report
all_pending : (g : GraphValue) (time : ℕ) (cs : List OpenCase) → IsGraph g
    → IsTrue (list_all (waits g time) cs) → AllByRecursion (HasPending g time) cs
all_pending g time [] graph h = tt
all_pending g time (c ∷ cs) graph h =
    let parts = and_parts (waits g time c) _ h in
    ((waiting g c time graph).0 parts.0, all_pending g time cs graph parts.1)

pub cases_wait : (r : Rules) (s : Diagnosis) → HaveGraphs r → IsTrue (is_lawful r s)
    → All (HasPending (graph_of r s) s.time) s.open_cases
cases_wait r s graphs h =
    All-from_recursion (HasPending (graph_of r s) s.time) s.open_cases
    (all_pending (graph_of r s) s.time s.open_cases (graphs s.conf) (lawful_is r s h).waiting)
