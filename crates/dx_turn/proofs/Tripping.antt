-- What engines report acts, one report after the other.
use Rattle.std.proofs.Common.{◌≡◌, ℕ, ◌+◌, ◌<◌, false, List, [], ◌∷◌, ◌++◌, length, refl, sym}
use Rattle.std.proofs.Common.{ap, ◌∙◌, get_or, take}
use Rattle.std.proofs.lemmas.List.{take_more}
use Rattle.fm_nv.specs.Data.{no_pairs}
use Rattle.ev_graph.specs.declared.instances.Link.{Link}
use Rattle.dx_state.specs.Configured.{Rules, configuration_at}
use Rattle.dx_step.specs.Turns.{Turn}
use Rattle.dx_step.specs.Reports.{links_broken, join, join_or_open, place_of_report, join_each}
use Rattle.dx_turn.specs.declared.ground.Ground.{Ground}
use Rattle.dx_turn.specs.declared.work.Work.{Work}
use Rattle.dx_turn.specs.Grounds.{rules_on}
use Rattle.dx_turn.specs.Joining.{turn_of, HasGone}

join_append : (r : Rules) (n : ℕ) (xs ys : List ℕ) (t : Turn)
    → join_each r n (xs ++ ys) t ≡ join_each r n ys (join_each r n xs t)
join_append r n [] ys t = refl
join_append r n (x ∷ xs) ys t = join_append r n xs ys (join r false n x no_pairs t)

-- one more report
pub trips_more : (d : Ground) (n : ℕ) (nodes : List ℕ) (i : ℕ) (a b c : Work) → i < length nodes
    → HasGone d (join_each (rules_on d) n (take i nodes)) a b
    → HasGone d (join_each (rules_on d) n (get_or nodes i 0 ∷ [])) b c
    → HasGone d (join_each (rules_on d) n (take (i + 1) nodes)) a c
trips_more d n nodes i a b c low h k = record {
  turn =
      k.turn
      ∙ ap (join_each (rules_on d) n (get_or nodes i 0 ∷ [])) h.turn
      ∙ sym (join_append (rules_on d) n (take i nodes) (get_or nodes i 0 ∷ []) (turn_of d a))
      ∙ ap (λ xs. join_each (rules_on d) n xs (turn_of d a)) (sym (take_more nodes i 0 low));
  work = k.work;
}

-- a report of an engine, which breaks what a report without a payload breaks
pub trip_is : (d : Ground) (node entry : ℕ) (links : List Link) (w : Work)
    → links ≡ links_broken (configuration_at (rules_on d) d.conf) node no_pairs
    → join_or_open (rules_on d) false entry node links
    (place_of_report (rules_on d) node (turn_of d w)) (turn_of d w)
    ≡ join_each (rules_on d) entry (node ∷ []) (turn_of d w)
unfolding join
trip_is d node entry links w is =
    ap (λ (ls : List Link). join_or_open (rules_on d) false entry node ls
    (place_of_report (rules_on d) node (turn_of d w)) (turn_of d w)) is
