-- What a decision leaves: the word is spelled and exact, and the state in order.
use Rattle.std.proofs.Common.{ℕ, ◌≤◌, ◌==◌, Bool, true, false, not, nat_lt, nat_le}
use Rattle.std.proofs.Common.{IsTrue, List, [], ◌∷◌, length, refl, sym, ap, ◌∙◌, arith}
use Rattle.std.proofs.Common.{if◌then◌else◌, ◌⊎◌, inl, inr, slice_get, Option, Some, None}
use Rattle.std.proofs.lemmas.Bool.{false≢true, and_from, and_parts, le-leb}
use Rattle.std.proofs.lemmas.List.Folds.{list_all-map}
use Rattle.fm_entry.specs.declared.suspect.Suspect.{Suspect}
use Rattle.fm_entry.specs.declared.list_event.ListKind.{ListKind}
use Rattle.fm_entry.specs.declared.list_event.ListKind.TheVariants.{Suspect as SuspectKind}
use Rattle.fm_entry.specs.declared.list_event.ListKind.TheVariants.{Undiagnosable}
use Rattle.fm_entry.specs.declared.list_event.ListKind.TheVariants.{Upset as UpsetWord}
use Rattle.fm_entry.specs.declared.list_event.ListEvent.{ListEvent}
use Rattle.fm_core.specs.Meaning.{OpenCase, Diagnosis}
use Rattle.ev_graph.specs.Kinds.{is_root_kind, is_upset_kind, has_kind}
use Rattle.ev_graph.specs.Lawful.{GraphValue}
use Rattle.ev_graph.specs.declared.nodes.Node.{Node}
use Rattle.ev_graph.specs.declared.nodes.NodeKind.{NodeKind}
use Rattle.ev_graph.specs.declared.nodes.NodeKind.TheVariants.{Fault, Defect, Upset, Inner, Report}
use Rattle.dx_explain.specs.Cases.{faults_of, upsets_of, verdict}
use Rattle.dx_explain.specs.Cases.{is_solving_kind}
use Rattle.dx_state.specs.Configured.{Rules}
use Rattle.dx_state.specs.LawfulState.{is_last_word, events_ascend}
use Rattle.dx_state.specs.LawfulState.{open_numbers, solved_numbers}
use Rattle.dx_state.proofs.Lists.{all_both, all_pass, strict_few}
use Rattle.dx_state.proofs.Facts.{IsOpenCase, IsLastWord, word_back}
use Rattle.dx_step.specs.Said.{nodes_of, suspects_of, upsets_named, word_on}
use Rattle.dx_step.specs.Said.{with_last_word}
use Rattle.dx_step.specs.Turns.{Turn, configuration_of, graph_of, say, solve, upset}
use Rattle.dx_step.specs.Turns.{give_up, decide_by, decide, note_all}
use Rattle.dx_step.specs.Exact.{ByTest, IsOn, AreAll, HasNone}
use Rattle.dx_step.proofs.Names.{nodes_ascend, names_ascend}
use Rattle.dx_step.proofs.Blamed.{AreBlamed, are_blamed}
use Rattle.dx_step.proofs.Spoken.{suspects_named, upsets_are_named, suspects_fit}
use Rattle.dx_step.proofs.Spoken.{said_fits, observed_ascend, observed_some}
use Rattle.dx_step.proofs.Parts.{lacks, differs_back, by_push, inserted_all}
use Rattle.dx_step.proofs.Parts.{inserted_strict}
use Rattle.dx_step.proofs.Sound.{IsGoodWord, IsTurn, IsFree, IsDecided, may_say}
use Rattle.dx_step.proofs.Noting.{noted_all}

-- a word that is said of a case is on it
pub on_case : (r : Rules) (s : Diagnosis) (kind : ListKind) (c : OpenCase) (ss : List Suspect)
    → IsOpenCase (configuration_of r s) s.time s.next c
    → IsOn (graph_of r s) c (word_on r.own (graph_of r s) s kind c ss)
on_case r s kind c ss h = record {
  number = refl;
  observed = refl;
  broken = refl;
  some = h.some;
  ascend = h.ascend;
  reports = h.reports;
}

-- one more good word
pub turn_said : (r : Rules) (cs : List OpenCase) (t : Turn) (w : ListEvent) → IsTurn r cs t
    → IsGoodWord r w → IsTurn r cs (say w t)
turn_said r cs t w h good = record {
  sound = h.sound;
  formed = h.formed;
  conf = h.conf;
  words = by_push (IsGoodWord r) t.words w h.words good;
  fired = h.fired;
}

all_of : (kind : NodeKind → Bool) (g : GraphValue) (c : OpenCase) (es : List ℕ)
    → AreBlamed kind g c es → AreAll ByTest kind g c es
all_of kind g c es h = record {
  ascend = h.ascend;
  each = λ e. (
    λ is. and_parts (has_kind kind (slice_get g.nodes e)) _ (sym (h.each e) ∙ is),
    λ both. h.each e ∙ and_from (has_kind kind (slice_get g.nodes e)) _ both.0 both.1,
  );
}

none_of : (kind : NodeKind → Bool) (g : GraphValue) (c : OpenCase) → AreBlamed kind g c []
    → HasNone ByTest kind g c
none_of kind g c h e is explains =
    false≢true (h.each e ∙ and_from (has_kind kind (slice_get g.nodes e)) _ is explains)

-- a root is a fault or defect, or an upset
root_split : (k : NodeKind) → IsTrue (is_root_kind k)
    → IsTrue (is_solving_kind k) ⊎ IsTrue (is_upset_kind k)
root_split (Fault fit retire) h = inl refl
root_split (Defect fit retire) h = inl refl
root_split (Upset engine) h = inr refl
root_split Inner h = absurd (false≢true h)
root_split (Report within) h = absurd (false≢true h)

has_split : (o : Option Node) → IsTrue (has_kind is_root_kind o)
    → IsTrue (has_kind is_solving_kind o) ⊎ IsTrue (has_kind is_upset_kind o)
has_split None h = absurd (false≢true h)
has_split (Some node) h = root_split node.kind h

no_root : (g : GraphValue) (c : OpenCase) → HasNone ByTest is_solving_kind g c
    → HasNone ByTest is_upset_kind g c → HasNone ByTest is_root_kind g c
no_root g c h k e is explains =
    elim (has_split (slice_get g.nodes e) is) [
      | inl fault ↦ h e fault explains
      | inr upset ↦ k e upset explains
    ]

few_blamed : (r : Rules) (cs : List OpenCase) (t : Turn) (kind : NodeKind → Bool) (c : OpenCase)
    (es : List ℕ) → IsTurn r cs t → AreBlamed kind (graph_of r t.state) c es → length es ≤ 65536
few_blamed r cs t kind c es h b =
    let g = graph_of r t.state in
    let few = strict_few 0 (length g.nodes) es (omega arith)
    (all_pass (nat_le 0) (λ n. le-leb 0 n (omega arith)) es)
    b.below b.strict in
    let nodes = h.formed.few_nodes in
    omega arith

-- the case is solved
solved_turn : (r : Rules) (cs : List OpenCase) (t : Turn) (c : OpenCase) (f : ℕ) (fs : List ℕ)
    → IsTurn r cs t → IsFree r cs t.state c
    → AreBlamed is_solving_kind (graph_of r t.state) c (f ∷ fs)
    → IsDecided r cs t (solve r c (nodes_of (graph_of r t.state) (f ∷ fs)) t)
solved_turn r cs t c f fs h free b =
    let g = graph_of r t.state in
    let nodes = nodes_of g (f ∷ fs) in
    let w = word_on r.own g t.state SuspectKind c (suspects_of nodes) in
    let named = suspects_named nodes in
    let few = few_blamed r cs t is_solving_kind c (f ∷ fs) h b in
    let fit = suspects_fit g (f ∷ fs) (suspects_of nodes) h.formed.names (omega arith) named in
    let spelled = said_fits r.own (configuration_of r t.state) t.state SuspectKind c
    (suspects_of nodes) (may_say r cs t h) free.lawful fit in
    let last : IsLastWord r.own t.state.next w =
    record {
      fits = spelled;
      number = free.lawful.number;
      some = observed_some (configuration_of r t.state) t.state.time t.state.next c free.lawful;
      observed =
          observed_ascend (configuration_of r t.state) t.state.time t.state.next c h.formed
          free.lawful;
      suspects =
          ap events_ascend named.names
          ∙ names_ascend nodes (nodes_ascend g (f ∷ fs) h.formed.ordered b.below b.ascend);
      marks = named.present;
    } in
    let good : IsGoodWord r w =
    record {
      spelled = spelled;
      exact = record {
        of = c;
        on = on_case r t.state SuspectKind c (suspects_of nodes) free.lawful;
        faults = f ∷ fs;
        some = omega arith;
        all = all_of is_solving_kind g c (f ∷ fs) b;
        suspects = refl;
      };
    } in
    let ws = t.state.solved in
    record {
      turn = record {
        sound = record {
          time = h.sound.time;
          next = h.sound.next;
          cases = h.sound.cases;
          solved =
              inserted_all (λ a b. nat_lt a.case.case b.case.case)
              (is_last_word r.own t.state.next) w ws (word_back r.own t.state.next w last)
              h.sound.solved;
          strict = h.sound.strict;
          solved_strict = inserted_strict (λ a. a.case.case) w ws h.sound.solved_strict;
          apart =
              all_both (lacks (solved_numbers ws)) (λ n. not (n == c.number))
              (lacks (solved_numbers (with_last_word w ws)))
              (λ n l d. list_all-map (λ m. not (m == n)) (λ a. a.case.case) (with_last_word w ws)
              ∙ inserted_all (λ a b. nat_lt a.case.case b.case.case)
              (λ a. not (a.case.case == n)) w ws (differs_back c.number n d)
              (sym (list_all-map (λ m. not (m == n)) (λ a. a.case.case) ws) ∙ l))
              (open_numbers cs) h.sound.apart free.not_open;
          engines = h.sound.engines;
        };
        formed = h.formed;
        conf = h.conf;
        words = by_push (IsGoodWord r) t.words w h.words good;
        fired = h.fired;
      };
      cases = refl;
      time = refl;
      conf = refl;
    }

-- only upsets explain the case
upset_turn : (r : Rules) (notes : Bool) (cs : List OpenCase) (t : Turn) (c : OpenCase) (u : ℕ)
    (us : List ℕ) → IsTurn r cs t → IsFree r cs t.state c
    → AreBlamed is_solving_kind (graph_of r t.state) c []
    → AreBlamed is_upset_kind (graph_of r t.state) c (u ∷ us)
    → IsDecided r cs t (upset r notes c (nodes_of (graph_of r t.state) (u ∷ us)) t)
upset_turn r notes cs t c u us h free none b =
    let g = graph_of r t.state in
    let nodes = nodes_of g (u ∷ us) in
    let w = word_on r.own g t.state UpsetWord c (upsets_named nodes) in
    let few = few_blamed r cs t is_upset_kind c (u ∷ us) h b in
    let fit = suspects_fit g (u ∷ us) (upsets_named nodes) h.formed.names (omega arith)
    (upsets_are_named nodes) in
    let good : IsGoodWord r w =
    record {
      spelled =
          said_fits r.own (configuration_of r t.state) t.state UpsetWord c (upsets_named nodes)
          (may_say r cs t h) free.lawful fit;
      exact = record {
        of = c;
        on = on_case r t.state UpsetWord c (upsets_named nodes) free.lawful;
        none = none_of is_solving_kind g c none;
        upsets = u ∷ us;
        some = omega arith;
        all = all_of is_upset_kind g c (u ∷ us) b;
        suspects = refl;
      };
    } in
    let said = turn_said r cs t w h good in
    elim notes as (λ (b : Bool). IsDecided r cs t (if b then note_all g nodes (say w t)
    else say w t)) [
      | true ↦
          let noted = noted_all r cs nodes g (say w t) refl said in
          record { turn = noted.turn; cases = noted.cases; time = noted.time; conf = noted.conf }
      | false ↦ record { turn = said; cases = refl; time = refl; conf = refl }
    ]

-- nothing explains it
unexplained_turn : (r : Rules) (cs : List OpenCase) (t : Turn) (c : OpenCase) → IsTurn r cs t
    → IsFree r cs t.state c → AreBlamed is_solving_kind (graph_of r t.state) c []
    → AreBlamed is_upset_kind (graph_of r t.state) c [] → IsDecided r cs t (give_up r c t)
unexplained_turn r cs t c h free none no_upset =
    let g = graph_of r t.state in
    let w = word_on r.own g t.state Undiagnosable c [] in
    let good : IsGoodWord r w =
    record {
      spelled =
          said_fits r.own (configuration_of r t.state) t.state Undiagnosable c []
          (may_say r cs t h) free.lawful refl;
      exact = inl (record {
        of = c;
        on = on_case r t.state Undiagnosable c [] free.lawful;
        none = no_root g c (none_of is_solving_kind g c none) (none_of is_upset_kind g c no_upset);
        suspects = refl;
      });
    } in
    record {
      turn = turn_said r cs t w h good;
      cases = refl;
      time = refl;
      conf = refl;
    }

decided_by : (r : Rules) (notes : Bool) (cs : List OpenCase) (t : Turn) (c : OpenCase)
    (fs us : List ℕ) → IsTurn r cs t → IsFree r cs t.state c
    → AreBlamed is_solving_kind (graph_of r t.state) c fs
    → AreBlamed is_upset_kind (graph_of r t.state) c us
    → IsDecided r cs t (decide_by r notes c (verdict fs us) t)
decided_by r notes cs t c (f ∷ fs) us h free a b = solved_turn r cs t c f fs h free a
decided_by r notes cs t c [] (u ∷ us) h free a b = upset_turn r notes cs t c u us h free a b
decided_by r notes cs t c [] [] h free a b = unexplained_turn r cs t c h free a b

-- a case that can be decided is
pub decided : (r : Rules) (notes : Bool) (cs : List OpenCase) (t : Turn) (c : OpenCase)
    → IsTurn r cs t → IsFree r cs t.state c → IsDecided r cs t (decide r notes c t)
unfolding decide
decided r notes cs t c h free =
    decided_by r notes cs t c (faults_of (graph_of r t.state) c) (upsets_of (graph_of r t.state) c)
    h free (are_blamed is_solving_kind (graph_of r t.state) c)
    (are_blamed is_upset_kind (graph_of r t.state) c)
