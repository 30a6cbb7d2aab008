-- A turn that is in order, and what stays so.
use Rattle.std.proofs.Common.{◌≡◌, ◌^◌, ◌<◌, ◌≤◌}
use Rattle.std.proofs.Common.{IsTrue, List, ◌∷◌, ◌++◌}
use Rattle.std.proofs.Common.{sym, ap, ◌∙◌}
use Rattle.std.specs.List.{list_all, AllByRecursion}
use Rattle.std.proofs.lemmas.List.{map-append}
use Rattle.fm_entry.specs.Words.{word_fits}
use Rattle.fm_entry.specs.declared.list_event.ListEvent.{ListEvent}
use Rattle.fm_core.specs.Meaning.{OpenCase, Diagnosis}
use Rattle.ev_graph.specs.Kinds.{is_report_node}
use Rattle.dx_explain.specs.Cases.{waits}
use Rattle.dx_state.specs.Configured.{Rules, configuration_at}
use Rattle.dx_state.specs.LawfulState.{is_open_case, is_last_word, are_engines, open_numbers}
use Rattle.dx_state.specs.LawfulState.{solved_numbers}
use Rattle.dx_state.proofs.Lists.{is_strict}
use Rattle.dx_state.proofs.Facts.{IsFormed, IsOpenCase, case_is}
use Rattle.dx_step.specs.Turns.{Turn, configuration_of, graph_of, turn_cases, with_cases}
use Rattle.dx_step.specs.Exact.{IsExact, ByTest}
use Rattle.dx_step.proofs.Spoken.{MaySay}
use Rattle.dx_step.proofs.Parts.{lacks, all_middle, all_less, all_instead, strict_less}

-- the word has a spelling, and names just the roots that explain what it observed
pub record IsGoodWord (r : Rules) (w : ListEvent) : Type 0 where
  pub spelled : IsTrue (word_fits r.own w)
  pub exact : IsExact ByTest r w

-- the state is lawful with these cases in place of its own, whether or not they wait
pub record IsSound (r : Rules) (cs : List OpenCase) (s : Diagnosis) : Type 0 where
  pub time : s.time < 2 ^ 62
  pub next : s.next ≤ 2 ^ 63
  pub cases : IsTrue (list_all (is_open_case (configuration_of r s) s.time s.next) cs)
  pub solved : IsTrue (list_all (is_last_word r.own s.next) s.solved)
  pub strict : IsTrue (is_strict (open_numbers cs))
  pub solved_strict : IsTrue (is_strict (solved_numbers s.solved))
  pub apart : IsTrue (list_all (lacks (solved_numbers s.solved)) (open_numbers cs))
  pub engines : IsTrue (are_engines s.time (graph_of r s).engines s.engines)

pub record IsTurn (r : Rules) (cs : List OpenCase) (t : Turn) : Type 0 where
  pub sound : IsSound r cs t.state
  pub formed : IsFormed (configuration_of r t.state)
  pub conf : t.state.conf < 2 ^ 32
  pub words : AllByRecursion (IsGoodWord r) t.words
  pub fired : IsTrue (list_all (is_report_node (graph_of r t.state).nodes) t.fired)

-- a case that can be decided
pub record IsFree (r : Rules) (cs : List OpenCase) (s : Diagnosis) (c : OpenCase) : Type 0 where
  pub lawful : IsOpenCase (configuration_of r s) s.time s.next c
  pub not_open : IsTrue (lacks (open_numbers cs) c.number)
  pub not_solved : IsTrue (lacks (solved_numbers s.solved) c.number)

-- what a decision leaves
pub record IsDecided (r : Rules) (cs : List OpenCase) (t u : Turn) : Type 0 where
  pub turn : IsTurn r cs u
  pub cases : turn_cases u ≡ turn_cases t
  pub time : u.state.time ≡ t.state.time
  pub conf : u.state.conf ≡ t.state.conf

-- each open case waits for a report
abbrev pub AllWait : Rules → Turn → Type 0
AllWait r t = IsTrue (list_all (waits (graph_of r t.state) t.state.time) (turn_cases t))

-- what settling leaves
pub record IsSettled (r : Rules) (t u : Turn) : Type 0 where
  pub turn : IsTurn r (turn_cases u) u
  pub waiting : AllWait r u
  pub time : u.state.time ≡ t.state.time
  pub conf : u.state.conf ≡ t.state.conf

pub settled_by : (r : Rules) (t u v : Turn) → IsSettled r t u → IsSettled r u v → IsSettled r t v
settled_by r t u v h k = record {
  turn = k.turn;
  waiting = k.waiting;
  time = k.time ∙ h.time;
  conf = k.conf ∙ h.conf;
}

pub may_say : (r : Rules) (cs : List OpenCase) (t : Turn) → IsTurn r cs t
    → MaySay r.own (configuration_of r t.state) t.state
may_say r cs t h =
    record { formed = h.formed; time = h.sound.time; next = h.sound.next; conf = h.conf }

-- the cases of the state itself don't matter
pub sound_with : (r : Rules) (cs ds : List OpenCase) (s : Diagnosis) → IsSound r cs s
    → IsSound r cs (record s { open_cases = ds })
sound_with r cs ds s h = record {
  time = h.time;
  next = h.next;
  cases = h.cases;
  solved = h.solved;
  strict = h.strict;
  solved_strict = h.solved_strict;
  apart = h.apart;
  engines = h.engines;
}

pub turn_with : (r : Rules) (cs ds : List OpenCase) (t : Turn) → IsTurn r cs t
    → IsTurn r cs (with_cases ds t)
turn_with r cs ds t h = record {
  sound = sound_with r cs ds t.state h.sound;
  formed = h.formed;
  conf = h.conf;
  words = h.words;
  fired = h.fired;
}

numbers_split : (before after : List OpenCase)
    → open_numbers (before ++ after) ≡ open_numbers before ++ open_numbers after
numbers_split before after = map-append (λ c. c.number) before after

-- without one of the cases
pub sound_less : (r : Rules) (before after : List OpenCase) (c : OpenCase) (s : Diagnosis)
    → IsSound r (before ++ c ∷ after) s → IsSound r (before ++ after) s
sound_less r before after c s h =
    let strict = strict_less (open_numbers before) (open_numbers after) c.number
    (ap is_strict (sym (numbers_split before (c ∷ after))) ∙ h.strict) in
    record {
      time = h.time;
      next = h.next;
      cases = all_less (is_open_case (configuration_of r s) s.time s.next) before after c h.cases;
      solved = h.solved;
      strict = ap is_strict (numbers_split before after) ∙ strict.strict;
      solved_strict = h.solved_strict;
      apart = ap (list_all (lacks (solved_numbers s.solved))) (numbers_split before after)
          ∙ all_less (lacks (solved_numbers s.solved)) (open_numbers before) (open_numbers after)
          c.number (ap (list_all (lacks (solved_numbers s.solved)))
          (sym (numbers_split before (c ∷ after))) ∙ h.apart);
      engines = h.engines;
    }

pub turn_less : (r : Rules) (before after : List OpenCase) (c : OpenCase) (t : Turn)
    → IsTurn r (before ++ c ∷ after) t → IsTurn r (before ++ after) t
turn_less r before after c t h = record {
  sound = sound_less r before after c t.state h.sound;
  formed = h.formed;
  conf = h.conf;
  words = h.words;
  fired = h.fired;
}

-- that case can be decided
pub free_of : (r : Rules) (before after : List OpenCase) (c : OpenCase) (s : Diagnosis)
    → IsSound r (before ++ c ∷ after) s → IsFree r (before ++ after) s c
free_of r before after c s h =
    let strict = strict_less (open_numbers before) (open_numbers after) c.number
    (ap is_strict (sym (numbers_split before (c ∷ after))) ∙ h.strict) in
    record {
      lawful = case_is (configuration_of r s) s.time s.next c
          (all_middle (is_open_case (configuration_of r s) s.time s.next) before after c h.cases);
      not_open = ap (λ ns. lacks ns c.number) (numbers_split before after) ∙ strict.lacking;
      not_solved =
          all_middle (lacks (solved_numbers s.solved)) (open_numbers before) (open_numbers after)
          c.number (ap (list_all (lacks (solved_numbers s.solved)))
          (sym (numbers_split before (c ∷ after))) ∙ h.apart);
    }

-- with another case of the same number in the place of one
pub sound_instead : (r : Rules) (before after : List OpenCase) (c d : OpenCase) (s : Diagnosis)
    → d.number ≡ c.number → IsTrue (is_open_case (configuration_of r s) s.time s.next d)
    → IsSound r (before ++ c ∷ after) s → IsSound r (before ++ d ∷ after) s
sound_instead r before after c d s same k h =
    let numbers : open_numbers (before ++ d ∷ after) ≡ open_numbers (before ++ c ∷ after) =
    numbers_split before (d ∷ after)
    ∙ ap (λ n. open_numbers before ++ n ∷ open_numbers after) same
    ∙ sym (numbers_split before (c ∷ after)) in
    record {
      time = h.time;
      next = h.next;
      cases = all_instead (is_open_case (configuration_of r s) s.time s.next) before after c d
          h.cases k;
      solved = h.solved;
      strict = ap is_strict numbers ∙ h.strict;
      solved_strict = h.solved_strict;
      apart = ap (list_all (lacks (solved_numbers s.solved))) numbers ∙ h.apart;
      engines = h.engines;
    }

pub turn_instead : (r : Rules) (before after : List OpenCase) (c d : OpenCase) (t : Turn)
    → d.number ≡ c.number
    → IsTrue (is_open_case (configuration_of r t.state) t.state.time t.state.next d)
    → IsTurn r (before ++ c ∷ after) t → IsTurn r (before ++ d ∷ after) t
turn_instead r before after c d t same k h = record {
  sound = sound_instead r before after c d t.state same k h.sound;
  formed = h.formed;
  conf = h.conf;
  words = h.words;
  fired = h.fired;
}

-- where the cases, the time and the configuration are the same, the cases wait alike
pub wait_alike : (r : Rules) (t u : Turn) → turn_cases u ≡ turn_cases t
    → u.state.time ≡ t.state.time → u.state.conf ≡ t.state.conf → AllWait r t → AllWait r u
wait_alike r t u cases time conf h =
    (λ i. list_all (waits (configuration_at r (conf i)).graph (time i)) (cases i)) ∙ h
