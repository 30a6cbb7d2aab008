-- What a turn has come to, in place.
use Rattle.std.proofs.Common.{◌≡◌, ℕ, zero, suc, ◌<◌, ◌≤◌, ◌^◌, ◌++◌, inl, inr, IsTrue}
use Rattle.std.proofs.Common.{List, [], ◌∷◌, map, refl, sym, ap, ◌∙◌, arith, subst, max}
use Rattle.std.proofs.Common.{Option, Some, None, Result, Ok, Err}
use Rattle.std.specs.Result.{OnOk, OnErr}
use Rattle.std.specs.List.{All, AllByRecursion}
use Rattle.fm_entry.specs.declared.entry.Entry.{Entry}
use Rattle.fm_entry.specs.declared.list_event.ListEvent.{ListEvent}
use Rattle.fm_entry.specs.Entries.{moment_of, IsSpelled}
use Rattle.fm_core.specs.Meaning.{OpenCase, Diagnosis}
use Rattle.ev_graph.specs.Lawful.{GraphValue}
use Rattle.ev_incidence.specs.Sets.{ascends}
use Rattle.ev_graph.specs.declared.nodes.EngineSpec.{EngineSpec}
use Rattle.dx_serd.specs.Rates.{RateOf}
use Rattle.dx_case.specs.declared.case.Case.{Case}
use Rattle.dx_case.specs.Cases.{open_of}
use Rattle.dx_case.specs.Starts.{AreStartsOf}
use Rattle.dx_case.specs.declared.starts.Starts.{Starts}
use Rattle.dx_said.specs.Making.{with_words}
use Rattle.dx_state.specs.Configured.{Rules, configuration_at}
use Rattle.dx_state.specs.LawfulState.{solved_numbers}
use Rattle.dx_step.specs.Turns.{Turn, begin_at, settle_all}
use Rattle.dx_step.specs.Step.{turn, state_after, words_at}
use Rattle.dx_step.specs.Lawful.{is_lawful}
use Rattle.dx_step.proofs.Stepping.{stepped, lawful_is}
use Rattle.dx_turn.specs.declared.ground.Ground.{Ground}
use Rattle.dx_turn.specs.declared.reloading.Reloaded.{Reloaded}
use Rattle.dx_turn.specs.declared.tracked.Tracked.{Tracked}
use Rattle.dx_turn.specs.declared.told.Told.{Told}
use Rattle.dx_turn.specs.declared.work.Work.{Work}
use Rattle.dx_turn.specs.Grounds.{IsGround, AreRates, rules_on}
use Rattle.dx_turn.specs.Turning.{made_or, turn_at, solved_by, IsTold}
use Rattle.dx_turn.specs.Tracking.{now_of, tracked_cases, cases_before, opens_in}
use Rattle.dx_turn.specs.Tracking.{IsCurrent, IsTrackedAt}
use Rattle.dx_turn.specs.Settling.{IsBeforeTurn}
use Rattle.dx_turn.specs.Joining.{turn_of}
use Rattle.dx_turn.specs.Reloading.{with_reload, fresh_rates, turned_by, IsLeft, HasEnded}
use Rattle.dx_turn.specs.Standing.{still_of}
use Rattle.dx_turn.proofs.Tracking.{now_cases}
use Rattle.dx_turn.proofs.Reloads.{opens_cases}
use Rattle.dx_engine.specs.declared.standing.StandingState.{StandingState}
use Rattle.dx_engine.specs.Standing.{StandingParts, whole_state, AreStanding, put_parts}
use Rattle.dx_rules.specs.declared.rulebook.Rulebook.{Rulebook}
use Rattle.dx_rules.specs.Rulebooks.{rules_in}
use Rattle.dx_engine.specs.Standing.{IsGroundOf, conf_by, engines_by, undone_parts}
use Rattle.dx_engine.proofs.Ascending.{without_words}
use Rattle.dx_engine.proofs.Beginning.{rates_later, settled_ascend, kept_still, opens_still}
use Rattle.dx_engine.proofs.Beginning.{ready_all}

-- nothing was told yet
abbrev pub none_told : Told
none_told = record { marked = None; solved = []; engines = None; fired = []; words = [] }

-- a turn of an entry begins on these parts
pub record Begins (d : Ground) (p : StandingParts) (e : Entry) (w : Work) : Type 0 where
  pub standing : AreStanding (rules_on d) p
  pub spelled : IsSpelled e
  pub ground : IsGround d
  pub time : d.time ≡ max p.time (moment_of e)
  pub conf : d.conf ≡ p.conf
  pub engines : d.engines.now ≡ p.engines
  pub last_words : d.last_words.now ≡ p.solved
  pub cases : w.cases.items ≡ p.cases
  pub next : w.next ≡ p.next
  pub told : w.told ≡ none_told

-- the turn that begins is that of the step
pub begun_turn : (d : Ground) (p : StandingParts) (e : Entry) (w : Work) → Begins d p e w
    → turn_of d w ≡ begin_at (moment_of e) (whole_state p)
begun_turn d p e w h =
    let make : ℕ → ℕ → ℕ → List OpenCase → List ListEvent → List RateOf → Turn =
    λ conf time next cs ws rs. record {
      state = record {
        conf = conf;
        time = time;
        next = next;
        open_cases = cs;
        solved = ws;
        engines = map (λ (r : RateOf). r.kept) rs;
      };
      fired = [];
      words = [];
    } in
    let opens : opens_in w.cases.items ≡ map open_of (cases_before p.cases) =
    ap opens_in (h.cases ∙ h.standing.still) ∙ opens_still (cases_before p.cases) in
    ap (λ (t : Told). turn_at d w.next (opens_in w.cases.items) t) h.told
    ∙ (λ i. make (h.conf i) (h.time i) (h.next i) (opens i) (h.last_words i) (h.engines i))

pub begun_told : (d : Ground) (p : StandingParts) (e : Entry) (w : Work) → Begins d p e w
    → IsTold d w.told
begun_told d p e w h =
    let low : p.time ≤ d.time = let time = h.time in omega arith in
    let g : (configuration_at (rules_on d) p.conf).graph ≡ d.graph.now =
    ap (λ (n : ℕ). (configuration_at (rules_on d) n).graph) (sym h.conf) ∙ h.ground.graph in
    subst (IsTold d) (sym h.told) (record {
      rates = subst (λ (x : GraphValue). AreRates d.time x.engines d.engines.now) g
          (subst (AreRates d.time (configuration_at (rules_on d) p.conf).graph.engines)
          (sym h.engines)
          (rates_later p.time d.time (configuration_at (rules_on d) p.conf).graph.engines
          p.engines low h.standing.rates));
      fired = refl;
    })

pub begun_ready : (d : Ground) (p : StandingParts) (e : Entry) (w : Work) → Begins d p e w
    → All (IsBeforeTurn d.graph.now d.time) w.cases.items
begun_ready d p e w h =
    let low : p.time ≤ d.time = let time = h.time in omega arith in
    let g : (configuration_at (rules_on d) p.conf).graph ≡ d.graph.now =
    ap (λ (n : ℕ). (configuration_at (rules_on d) n).graph) (sym h.conf) ∙ h.ground.graph in
    let lawful = lawful_is (rules_on d) (whole_state p) h.standing.lawful in
    subst (All (IsBeforeTurn d.graph.now d.time)) (sym (h.cases ∙ h.standing.still))
    (subst (λ (x : GraphValue). All (IsBeforeTurn x d.time) (map still_of (cases_before p.cases))) g
    (ready_all (configuration_at (rules_on d) p.conf).graph p.time d.time (cases_before p.cases) low
    h.standing.current lawful.waiting))

pub begun_ascend : (d : Ground) (p : StandingParts) (e : Entry) (w : Work) → Begins d p e w
    → IsTrue (ascends (solved_numbers (settle_all (rules_on d) (turn_of d w)).state.solved))
begun_ascend d p e w h =
    subst (λ (t : Turn). IsTrue (ascends (solved_numbers (settle_all (rules_on d) t).state.solved)))
    (sym (begun_turn d p e w h))
    (settled_ascend (rules_on d) (whole_state p) (moment_of e) h.spelled.moment_fits
    h.standing.lawful)

-- the turn that ended is that of the step
ended_turn : (d : Ground) (p : StandingParts) (n : ℕ) (e : Entry) (x : Option Reloaded)
    (old new : Work) → Begins d p e old → HasEnded d (turned_by d n e) x old new
    → with_reload x (turn_of d new) ≡ turn (rules_on d) (whole_state p) n e
unfolding turn
ended_turn d p n e x old new h k = k.turn ∙ ap (turned_by d n e) (begun_turn d p e old h)

reload_solved : (x : Option Reloaded) (t : Turn) → (with_reload x t).state.solved ≡ t.state.solved
reload_solved None t = refl
reload_solved (Some x) t = refl

reload_words : (x : Option Reloaded) (t : Turn) → (with_reload x t).words ≡ t.words
reload_words None t = refl
reload_words (Some x) t = refl

-- the last words that are put among ascend
pub ended_ascend : (d : Ground) (p : StandingParts) (n : ℕ) (e : Entry) (x : Option Reloaded)
    (old new : Work) → n < 2 ^ 46 → Begins d p e old → HasEnded d (turned_by d n e) x old new
    → IsTrue (ascends (solved_numbers (made_or new.told.marked p.solved)))
ended_ascend d p n e x old new few h k =
    let r = rules_on d in
    let after = stepped r (whole_state p) n e h.standing.lawful few h.spelled in
    let lawful = lawful_is r (turn r (whole_state p) n e).state after.lawful in
    let same : (turn r (whole_state p) n e).state.solved ≡ solved_by d new.told =
    sym (ap (λ (t : Turn). t.state.solved) (ended_turn d p n e x old new h k))
    ∙ reload_solved x (turn_of d new) in
    subst (λ (ws : List ListEvent). IsTrue (ascends (solved_numbers (made_or new.told.marked ws))))
    h.last_words
    (without_words new.told.solved (made_or new.told.marked d.last_words.now)
    (subst (λ (ws : List ListEvent). IsTrue (ascends (solved_numbers ws))) same
    lawful.state.solved_ascend))

-- a state by its parts, of its rates what is kept
unfoldable pub state_with : ℕ → ℕ → ℕ → List OpenCase → List ListEvent → List RateOf → Diagnosis
state_with conf time next cs ws rs = record {
  conf = conf;
  time = time;
  next = next;
  open_cases = cs;
  solved = ws;
  engines = map (λ (r : RateOf). r.kept) rs;
}

opens_put : (ts : List Tracked)
    → map open_of (cases_before (map still_of (tracked_cases ts))) ≡ opens_in ts
opens_put ts = ap (map open_of) (kept_still (tracked_cases ts)) ∙ sym (opens_cases ts)

-- what is put stands for what the turn left
put_state : (d : Ground) (p : StandingParts) (x : Option Reloaded) (w : Work) → p.conf ≡ d.conf
    → p.engines ≡ d.engines.now → p.solved ≡ d.last_words.now
    → whole_state (put_parts p d.time w x) ≡ (with_reload x (turn_of d w)).state
unfolding state_with
put_state d p None w conf engines last_words =
    let opens = opens_put w.cases.items in
    λ i. state_with (conf i) d.time w.next (opens i)
    (with_words w.told.solved (made_or w.told.marked (last_words i)))
    (made_or w.told.engines (engines i))
put_state d p (Some x) w conf engines last_words =
    let opens = opens_put w.cases.items in
    λ i. state_with x.conf d.time w.next (opens i)
    (with_words w.told.solved (made_or w.told.marked (last_words i))) x.engines.items

-- each case that is left answers at the time as it does at the moment that it has come to
current_one : (g : GraphValue) (time : ℕ) (t : Tracked) (cs : List Case)
    → ((c : Case) → now_of t ≡ c ∷ [] → IsCurrent g time c)
    → AllByRecursion (IsCurrent g time) cs → AllByRecursion (IsCurrent g time) (now_of t ++ cs)
current_one g time t cs each h =
    elim (now_cases t) [
      | inl none ↦
          subst (λ (ks : List Case). AllByRecursion (IsCurrent g time) (ks ++ cs)) (sym none) h
      | inr one ↦
          subst (λ (ks : List Case). AllByRecursion (IsCurrent g time) (ks ++ cs)) (sym one.1)
          (each one.0 one.1, h)
    ]

current_cases : (g : GraphValue) (time : ℕ) (ts : List Tracked) → All (IsTrackedAt g time) ts
    → AllByRecursion (IsCurrent g time) (tracked_cases ts)
current_cases g time [] h = tt
current_cases g time (t ∷ ts) h =
    current_one g time t (tracked_cases ts) (h zero t (omega arith)).each
    (current_cases g time ts (λ k d low. h (suc k) d (omega arith)))

-- engines that have noted nothing are those of these kinds
pub rates_fresh : (time : ℕ) (es : List EngineSpec) → AreRates time es (fresh_rates es)
rates_fresh time [] = tt
rates_fresh time (e ∷ es) = (refl, (refl, (refl, rates_fresh time es)))

-- what is put stands
put_current : (d : Ground) (p : StandingParts) (x : Option Reloaded) (w : Work) → IsGround d
    → p.conf ≡ d.conf → IsLeft d x w
    → AllByRecursion (IsCurrent (configuration_at (rules_on d) (conf_by p.conf x)).graph d.time)
    (tracked_cases w.cases.items)
put_current d p None w ground conf left =
    subst (λ (g : GraphValue). AllByRecursion (IsCurrent g d.time) (tracked_cases w.cases.items))
    (sym (ap (λ (n : ℕ). (configuration_at (rules_on d) n).graph) conf ∙ ground.graph))
    (current_cases d.graph.now d.time w.cases.items left.current)
put_current d p (Some x) w ground conf left =
    subst (AllByRecursion (IsCurrent (configuration_at (rules_on d) x.conf).graph d.time))
    (sym left.none) tt

put_rates : (d : Ground) (p : StandingParts) (x : Option Reloaded) (w : Work) → IsGround d
    → p.conf ≡ d.conf → p.engines ≡ d.engines.now → IsLeft d x w
    → AreRates d.time (configuration_at (rules_on d) (conf_by p.conf x)).graph.engines
    (engines_by (made_or w.told.engines p.engines) x)
put_rates d p None w ground conf engines left =
    subst (λ (g : GraphValue). AreRates d.time g.engines (made_or w.told.engines p.engines))
    (sym (ap (λ (n : ℕ). (configuration_at (rules_on d) n).graph) conf ∙ ground.graph))
    (subst (λ (rs : List RateOf). AreRates d.time d.graph.now.engines
    (made_or w.told.engines rs)) (sym engines) left.told.rates)
put_rates d p (Some x) w ground conf engines left =
    let es = (configuration_at (rules_on d) x.conf).graph.engines in
    subst (AreRates d.time es) (sym left.engines) (rates_fresh d.time es)

-- a turn that was put in place
pub record IsPut (r : Rules) (s : Diagnosis) (n : ℕ) (e : Entry) (q : StandingParts)
    (said : List ListEvent) : Type 0 where
  pub state : whole_state q ≡ state_after r s n e
  pub words : said ≡ words_at r s n e
  pub standing : AreStanding r q

pub turn_put : (d : Ground) (p : StandingParts) (n : ℕ) (e : Entry) (x : Option Reloaded)
    (old new : Work) → n < 2 ^ 46 → Begins d p e old → HasEnded d (turned_by d n e) x old new
    → IsPut (rules_on d) (whole_state p) n e (put_parts p d.time new x) new.told.words
turn_put d p n e x old new few h k =
    let r = rules_on d in
    let same = ended_turn d p n e x old new h k in
    let state : whole_state (put_parts p d.time new x) ≡ state_after r (whole_state p) n e =
    put_state d p x new (sym h.conf) (sym h.engines) (sym h.last_words)
    ∙ ap (λ (t : Turn). t.state) same in
    let cs = tracked_cases new.cases.items in
    let after = stepped r (whole_state p) n e h.standing.lawful few h.spelled in
    record {
      state = state;
      words = sym (reload_words x (turn_of d new)) ∙ ap (λ (t : Turn). t.words) same;
      standing = record {
        lawful = subst (λ (s : Diagnosis). IsTrue (is_lawful r s)) (sym state) after.lawful;
        still = ap (map still_of) (sym (kept_still cs));
        current = subst (AllByRecursion
            (IsCurrent (configuration_at r (conf_by p.conf x)).graph d.time)) (sym (kept_still cs))
            (put_current d p x new h.ground (sym h.conf) k.left);
        rates = put_rates d p x new h.ground (sym h.conf) (sym h.engines) k.left;
      };
    }

-- a turn that was undone
pub undone_same : (r : Rules) (p : StandingParts) (ts : List Tracked) → AreStanding r p
    → cases_before ts ≡ cases_before p.cases → undone_parts p ts ≡ p
undone_same r p ts h kept =
    ap (λ (cs : List Tracked). record p { cases = cs })
    (ap (map still_of) kept ∙ sym h.still)

-- where a turn was put in place, or undone
pub on_either : {T E A B C : Type 0} (r : Result T E) → OnOk r A → OnErr r B → (A → C) → (B → C)
    → C
on_either (Ok v) a b f g = f a
on_either (Err e) a b f g = g b

pub begins : (b : Rulebook) (d : Ground) (p : StandingParts) (cs : List Tracked) (e : Entry)
    (w : Work) (at : ℕ) → AreStanding (rules_in b) p → IsSpelled e
    → IsGroundOf b (record p { cases = cs }) at d → at ≡ max p.time (moment_of e)
    → w.cases.items ≡ p.cases → w.next ≡ p.next → w.told ≡ none_told → Begins d p e w
begins b d p cs e w at standing spelled g time cases next told = record {
  standing = subst (λ (x : Rulebook). AreStanding (rules_in x) p) (sym g.rules) standing;
  spelled = spelled;
  ground = g.ground;
  time = g.time ∙ time;
  conf = g.conf;
  engines = g.engines;
  last_words = g.last_words;
  cases = cases;
  next = next;
  told = told;
}

-- the same for the rulebook and the time of the call
pub turned : (b : Rulebook) (d : Ground) (p : StandingParts) (cs : List Tracked) (n : ℕ)
    (e : Entry) (x : Option Reloaded) (old new : Work) (at : ℕ) → n < 2 ^ 46 → Begins d p e old
    → IsGroundOf b (record p { cases = cs }) at d → HasEnded d (turned_by d n e) x old new
    → IsPut (rules_in b) (whole_state p) n e (put_parts p at new x) new.told.words
turned b d p cs n e x old new at few h g k =
    subst (λ (t : ℕ). IsPut (rules_in b) (whole_state p) n e (put_parts p t new x) new.told.words)
    g.time
    (subst (λ (y : Rulebook). IsPut (rules_in y) (whole_state p) n e (put_parts p d.time new x)
    new.told.words) g.rules (turn_put d p n e x old new few h k))

-- what was found for nodes that open cases
graph_there : (b : Rulebook) (d : Ground) (p : StandingParts) (cs : List Tracked) (at : ℕ)
    → IsGroundOf b (record p { cases = cs }) at d
    → (configuration_at (rules_in b) p.conf).graph ≡ d.graph.now
graph_there b d p cs at g =
    ap (λ (x : Rulebook). (configuration_at (rules_in x) p.conf).graph) (sym g.rules)
    ∙ ap (λ (n : ℕ). (configuration_at (rules_on d) n).graph) (sym g.conf) ∙ g.ground.graph

pub starts_there : (b : Rulebook) (d : Ground) (p : StandingParts) (cs : List Tracked)
    (starts : Starts) (at : ℕ) → IsGroundOf b (record p { cases = cs }) at d
    → AreStartsOf (configuration_at (rules_in b) p.conf).graph starts
    → AreStartsOf d.graph.now starts
starts_there b d p cs starts at g h =
    subst (λ (v : GraphValue). AreStartsOf v starts) (graph_there b d p cs at g) h

pub starts_back : (b : Rulebook) (d : Ground) (p : StandingParts) (cs : List Tracked)
    (starts : Starts) (at : ℕ) → IsGroundOf b (record p { cases = cs }) at d
    → AreStartsOf d.graph.now starts
    → AreStartsOf (configuration_at (rules_in b) p.conf).graph starts
starts_back b d p cs starts at g h =
    subst (λ (v : GraphValue). AreStartsOf v starts) (sym (graph_there b d p cs at g)) h

pub put_starts : (b : Rulebook) (d : Ground) (p : StandingParts) (cs : List Tracked)
    (x : Option Reloaded) (w : Work) (at : ℕ) → IsGroundOf b (record p { cases = cs }) at d
    → IsLeft d x w
    → AreStartsOf (configuration_at (rules_in b) (conf_by p.conf x)).graph w.starts
put_starts b d p cs None w at g left = starts_back b d p cs w.starts at g left.starts
put_starts b d p cs (Some x) w at g left =
    subst (λ (y : Rulebook). AreStartsOf (configuration_at (rules_in y) x.conf).graph w.starts)
    g.rules left.starts

pub same_starts : (r : Rules) (s : StandingState) (conf : ℕ) (starts : Starts) → s.conf ≡ conf
    → s.starts ≡ starts → AreStartsOf (configuration_at r conf).graph starts
    → AreStartsOf (configuration_at r s.conf).graph s.starts
same_starts r s conf starts number is h =
    subst (λ (n : ℕ). AreStartsOf (configuration_at r n).graph s.starts) (sym number)
    (subst (AreStartsOf (configuration_at r conf).graph) (sym is) h)
