-- What a step does is told by the module's number and the configuration in force, and at a reload
-- by the one that it names.
use Rattle.std.proofs.Common.{◌≡◌, ℕ, zero, suc, ◌<◌, Bool, true, false, ◌&&◌, nat_lt, List}
use Rattle.std.proofs.Common.{[], ◌∷◌, ◌++◌, length, map, refl, sym, ap, ◌∙◌, arith, Option, Some}
use Rattle.std.proofs.Common.{None}
use Rattle.std.proofs.Common.{slice_get, slice_set, if◌then◌else◌, length-append}
use Rattle.std.specs.Prelude.{position, remove}
use Rattle.std.proofs.lemmas.Bool.{lt-ltb}
use Rattle.fm_nv.specs.Data.{Pairs, no_pairs}
use Rattle.fm_name.specs.declared.events.EventName.{EventName}
use Rattle.fm_entry.specs.declared.entry.Entry.{Entry}
use Rattle.fm_entry.specs.declared.entry.Entry.TheVariants.{Report, Tick, Repaired, Replaced}
use Rattle.fm_entry.specs.declared.entry.Entry.TheVariants.{Acquit}
use Rattle.fm_entry.specs.declared.entry.Entry.TheVariants.{Reload}
use Rattle.fm_entry.specs.declared.list_event.ListKind.TheVariants.{Suspect as SuspectKind}
use Rattle.fm_entry.specs.declared.list_event.ListKind.TheVariants.{Undiagnosable}
use Rattle.fm_entry.specs.declared.list_event.ListKind.TheVariants.{Upset as UpsetWord}
use Rattle.fm_entry.specs.Entries.{moment_of}
use Rattle.fm_core.specs.Meaning.{OpenCase, Diagnosis}
use Rattle.fm_core.specs.Configurations.{NamesKnown}
use Rattle.ev_graph.specs.declared.instances.Link.{Link}
use Rattle.dx_explain.specs.Cases.{Verdict, Solving, Upsetting, Unexplained, verdict_of, waits}
use Rattle.dx_explain.specs.Cases.{takes_report, case_opened, case_joined}
use Rattle.dx_state.specs.Configured.{Rules, Configuration, or_none, known_of}
use Rattle.dx_state.specs.Configured.{configuration_at}
use Rattle.dx_step.specs.Said.{nodes_of, suspects_of, upsets_named, word_on, with_last_word}
use Rattle.dx_step.specs.Turns.{Turn, configuration_of, graph_of, turn_cases, with_cases, keep, say}
use Rattle.dx_step.specs.Turns.{note_all, decide_by, decide, settle, settle_each, decide_each}
use Rattle.dx_step.specs.Turns.{begin_at, settle_all}
use Rattle.dx_step.specs.Reports.{declares, report_named, links_broken, may_open, with_next}
use Rattle.dx_step.specs.Reports.{opens_case, settle_at, join_case, join_or_open}
use Rattle.dx_step.specs.Reports.{join, open_unknown}
use Rattle.dx_step.specs.Reports.{join_if_known, report, join_each, trips}
use Rattle.dx_step.specs.Step.{act, reload, turn}
use Rattle.dx_step.specs.Longer.{rules_of, DoAlike}
use Rattle.dx_step.proofs.Confs.{conf_in, decide_conf, settle_conf, join_conf, settle_all_conf}
use Rattle.dx_step.proofs.Confs.{join_each_conf, act_conf}

-- the two modules have one number, and one configuration of this number
record IsAlike (r q : Rules) (c : ℕ) : Type 0 where
  own : r.own ≡ q.own
  same : configuration_at r c ≡ configuration_at q c

moved : (r q : Rules) (c d : ℕ) → d ≡ c → IsAlike r q c → IsAlike r q d
moved r q c d e h = record {
  own = h.own;
  same = ap (configuration_at r) e ∙ h.same ∙ ap (configuration_at q) (sym e);
}

-- a decision by the number and the configuration
abbrev decide_in : ℕ → Configuration → Bool → OpenCase → Verdict → Turn → Turn
decide_in own x notes c (Solving fs) t =
    say (word_on own x.graph t.state SuspectKind c (suspects_of (nodes_of x.graph fs)))
    (record t {
      state = record t.state {
        solved =
            with_last_word
            (word_on own x.graph t.state SuspectKind c (suspects_of (nodes_of x.graph fs)))
            t.state.solved;
      };
    })
decide_in own x notes c (Upsetting us) t =
    if notes
    then note_all x.graph (nodes_of x.graph us) (say
    (word_on own x.graph t.state UpsetWord c (upsets_named (nodes_of x.graph us))) t)
    else say (word_on own x.graph t.state UpsetWord c (upsets_named (nodes_of x.graph us))) t
decide_in own x notes c Unexplained t = say (word_on own x.graph t.state Undiagnosable c []) t

decide_in_is : (r : Rules) (notes : Bool) (c : OpenCase) (v : Verdict) (t : Turn)
    → decide_by r notes c v t ≡ decide_in r.own (configuration_of r t.state) notes c v t
decide_in_is r notes c (Solving fs) t = refl
decide_in_is r notes c (Upsetting us) t = refl
decide_in_is r notes c Unexplained t = refl

decide_alike : (r q : Rules) (notes : Bool) (c : OpenCase) (t : Turn) → IsAlike r q (conf_in t)
    → decide r notes c t ≡ decide q notes c t
unfolding decide
decide_alike r q notes c t h =
    decide_in_is r notes c (verdict_of (graph_of r t.state) c) t
    ∙ (λ i. decide_in (h.own i) (h.same i) notes c (verdict_of (h.same i).graph c) t)
    ∙ sym (decide_in_is q notes c (verdict_of (graph_of q t.state) c) t)

settle_alike : (r q : Rules) (notes : Bool) (c : OpenCase) (t : Turn) → IsAlike r q (conf_in t)
    → settle r notes c t ≡ settle q notes c t
unfolding settle
settle_alike r q notes c t h =
    λ i. if waits (h.same i).graph t.state.time c then keep c t
    else decide_alike r q notes c t h i

each_alike : (r q : Rules) (notes : Bool) (cs : List OpenCase) (t : Turn)
    → IsAlike r q (conf_in t) → settle_each r notes cs t ≡ settle_each q notes cs t
each_alike r q notes [] t h = refl
each_alike r q notes (c ∷ cs) t h =
    each_alike r q notes cs (settle r notes c t)
    (moved r q (conf_in t) (conf_in (settle r notes c t)) (settle_conf r notes c t) h)
    ∙ ap (settle_each q notes cs) (settle_alike r q notes c t h)

decides_alike : (r q : Rules) (cs : List OpenCase) (t : Turn)
    → IsAlike r q (conf_in t) → decide_each r cs t ≡ decide_each q cs t
decides_alike r q [] t h = refl
decides_alike r q (c ∷ cs) t h =
    decides_alike r q cs (decide r false c t)
    (moved r q (conf_in t) (conf_in (decide r false c t)) (decide_conf r false c t) h)
    ∙ ap (decide_each q cs) (decide_alike r q false c t h)

open_alike : (r q : Rules) (notes : Bool) (entry node : ℕ) (links : List Link) (t : Turn)
    → IsAlike r q (conf_in t)
    → opens_case r notes entry node links t ≡ opens_case q notes entry node links t
open_alike r q notes entry node links t h =
    ap (λ (u : Turn). if may_open t.state then u else t)
    (settle_alike r q notes (case_opened t.state.next node t.state.time entry links) (with_next t)
    h)

at_alike : (r q : Rules) (notes : Bool) (at : ℕ) (c : OpenCase) (t : Turn)
    → IsAlike r q (conf_in t) → settle_at r notes at c t ≡ settle_at q notes at c t
at_alike r q notes at c t h =
    λ i. if waits (h.same i).graph t.state.time c
    then with_cases (slice_set (turn_cases t) at c) t
    else decide_alike r q notes c (with_cases (remove (turn_cases t) at) t) h i

case_alike : (r q : Rules) (notes : Bool) (entry node : ℕ) (links : List Link) (at : ℕ)
    (o : Option OpenCase) (t : Turn) → IsAlike r q (conf_in t)
    → join_case r notes entry node links at o t ≡ join_case q notes entry node links at o t
case_alike r q notes entry node links at (Some c) t h =
    at_alike r q notes at (case_joined node entry links c) t h
case_alike r q notes entry node links at None t h = refl

or_alike : (r q : Rules) (notes : Bool) (entry node : ℕ) (links : List Link) (o : Option ℕ)
    (t : Turn) → IsAlike r q (conf_in t)
    → join_or_open r notes entry node links o t ≡ join_or_open q notes entry node links o t
or_alike r q notes entry node links (Some at) t h =
    case_alike r q notes entry node links at (slice_get (turn_cases t) at) t h
or_alike r q notes entry node links None t h = open_alike r q notes entry node links t h

join_alike : (r q : Rules) (notes : Bool) (entry node : ℕ) (payload : Pairs) (t : Turn)
    → IsAlike r q (conf_in t)
    → join r notes entry node payload t ≡ join q notes entry node payload t
unfolding join
join_alike r q notes entry node payload t h =
    or_alike r q notes entry node (links_broken (configuration_of r t.state) node payload)
    (position (takes_report (graph_of r t.state) t.state.time node) (turn_cases t)) t h
    ∙ (λ i. join_or_open q notes entry node (links_broken (h.same i) node payload)
    (position (takes_report (h.same i).graph t.state.time node) (turn_cases t)) t)

joins_alike : (r q : Rules) (entry : ℕ) (nodes : List ℕ) (t : Turn) → IsAlike r q (conf_in t)
    → join_each r entry nodes t ≡ join_each q entry nodes t
joins_alike r q entry [] t h = refl
joins_alike r q entry (node ∷ nodes) t h =
    joins_alike r q entry nodes (join r false entry node no_pairs t)
    (moved r q (conf_in t) (conf_in (join r false entry node no_pairs t))
    (join_conf r false entry node no_pairs t) h)
    ∙ ap (join_each q entry nodes) (join_alike r q false entry node no_pairs t h)

known_alike : (r q : Rules) (entry : ℕ) (name : EventName) (payload : Pairs) (o : Option ℕ)
    (t : Turn) → IsAlike r q (conf_in t)
    → join_if_known r entry name payload o t ≡ join_if_known q entry name payload o t
known_alike r q entry name payload (Some node) t h = join_alike r q true entry node payload t h
known_alike r q entry name payload None t h = λ i. open_unknown (h.own i) name t

report_alike : (r q : Rules) (entry : ℕ) (name : EventName) (payload : Pairs) (t : Turn)
    → IsAlike r q (conf_in t) → report r entry name payload t ≡ report q entry name payload t
unfolding report
report_alike r q entry name payload t h =
    known_alike r q entry name payload (report_named (graph_of r t.state) name) t h
    ∙ (λ i. join_if_known q entry name payload (report_named (h.same i).graph name) t)

act_alike : (r q : Rules) (n : ℕ) (e : Entry) (t : Turn) → IsAlike r q (conf_in t)
    → act r n e t ≡ act q n e t
act_alike r q n (Report class path moment payload) t h =
    λ i. if declares (h.same i).graph class
    then report_alike r q n (record { class = class; path = path }) payload t h i else t
act_alike r q n (Tick moment) t h = refl
act_alike r q n (Repaired path moment) t h = refl
act_alike r q n (Replaced path moment) t h = refl
act_alike r q n (Acquit case moment) t h = refl
act_alike r q n (Reload conf moment) t h = refl

-- at a reload, the configuration that it names is the same too, and both know it or not
abbrev ReloadsAlike : Rules → Rules → Entry → Type 0
ReloadsAlike r q (Reload conf moment) =
    (nat_lt conf (known_of r.configurations) ≡ nat_lt conf (known_of q.configurations))
    × (configuration_at r conf ≡ configuration_at q conf)
ReloadsAlike r q _ = Unit {0}

reload_alike : (r q : Rules) (e : Entry) (t : Turn) → IsAlike r q (conf_in t)
    → ReloadsAlike r q e → reload r e t ≡ reload q e t
reload_alike r q (Reload conf moment) t h k =
    λ i. if (nat_lt t.state.conf conf && k.0 i)
    then named (k.1 i) (decides_alike r q (turn_cases t) (with_cases [] t) h i) else t where
      named : Configuration → Turn → Turn
      named x u = record u {
        state = record u.state {
          conf = conf;
          engines = map (λ e. []) x.graph.engines;
        };
      }
reload_alike r q (Report class path moment payload) t h k = refl
reload_alike r q (Tick moment) t h k = refl
reload_alike r q (Repaired path moment) t h k = refl
reload_alike r q (Replaced path moment) t h k = refl
reload_alike r q (Acquit case moment) t h k = refl

turn_alike : (r q : Rules) (s : Diagnosis) (n : ℕ) (e : Entry) → IsAlike r q s.conf
    → ReloadsAlike r q e → turn r s n e ≡ turn q s n e
unfolding turn
turn_alike r q s n e h k =
    let t = begin_at (moment_of e) s in
    let a = settle_all r t in
    let b = act r n e a in
    let c = trips r n b in
    let one : settle_all r t ≡ settle_all q t =
    each_alike r q true (turn_cases t) (with_cases [] t) h in
    let at_a = moved r q s.conf (conf_in a) (settle_all_conf r t) h in
    let at_b = moved r q (conf_in a) (conf_in b) (act_conf r n e a) at_a in
    let at_c = moved r q (conf_in b) (conf_in c)
    (join_each_conf r n b.fired (record b { fired = [] })) at_b in
    reload_alike r q e c at_c k
    ∙ ap (reload q e) (joins_alike r q n b.fired (record b { fired = [] }) at_b)
    ∙ ap (λ (u : Turn). reload q e (trips q n u)) (act_alike r q n e a at_a)
    ∙ ap (λ (u : Turn). reload q e (trips q n (act q n e u))) one

-- a longer list has the same configurations below the length of the shorter one
get_first : (xs more : List Configuration) (n : ℕ) → n < length xs
    → slice_get (xs ++ more) n ≡ slice_get xs n
get_first [] more n h = absurd (omega arith)
get_first (x ∷ xs) more zero h = refl
get_first (x ∷ xs) more (suc n) h = get_first xs more n (omega arith)

same_test : (a b : Bool) → a ≡ true → b ≡ true → a ≡ b
same_test a b h k = h ∙ sym k

reloads : (own : ℕ) (xs more : List Configuration) (e : Entry) → NamesKnown (length xs) e
    → ReloadsAlike (rules_of own (xs ++ more)) (rules_of own xs) e
reloads own xs more (Reload conf moment) h =
    let all = length-append xs more in (
      same_test (nat_lt conf (length (xs ++ more))) (nat_lt conf (length xs))
          (lt-ltb conf (length (xs ++ more)) (omega arith)) (lt-ltb conf (length xs) h),
      ap or_none (get_first xs more conf h),
    )
reloads own xs more (Report class path moment payload) h = tt
reloads own xs more (Tick moment) h = tt
reloads own xs more (Repaired path moment) h = tt
reloads own xs more (Replaced path moment) h = tt
reloads own xs more (Acquit case moment) h = tt

pub do_alike : DoAlike
do_alike own xs more s n e known names =
    turn_alike (rules_of own (xs ++ more)) (rules_of own xs) s n e
    (record { own = refl; same = ap or_none (get_first xs more s.conf known) })
    (reloads own xs more e names)
