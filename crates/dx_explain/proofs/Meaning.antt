-- Explaining, pending and waiting are the relations.
use Rattle.std.proofs.Common.{◌≡◌, ◌&&◌, not, ℕ, Bool, true, false, List, length}
use Rattle.std.specs.List.{list_all}
use Rattle.std.proofs.lemmas.Bool.{and_parts, and_from, not-true, not_from_false}
use Rattle.ev_incidence.specs.Sets.{NodeSet, is_member}
use Rattle.ev_graph.specs.Kinds.{is_root_kind, is_report_node, is_report_kind}
use Rattle.ev_graph.specs.Lawful.{GraphValue, IsGraph}
use Rattle.ev_graph.proofs.KindBelow.{kind_below}
use Rattle.ev_incidence.proofs.Occurrences.{all_in, all_from}
use Rattle.dx_sets.specs.Engine.{CutsOf}
use Rattle.dx_explain.specs.Laws.{Explains, IsPending}
use Rattle.fm_core.specs.Meaning.{OpenCase}
use Rattle.dx_explain.specs.Search.{some_below}
use Rattle.dx_explain.specs.Stories.{is_story, has_just, reports_within, explains, comes_from}
use Rattle.dx_explain.specs.Cases.{cuts_of, is_allowed, is_pending, waits}
use Rattle.dx_explain.specs.CaseLaws.{ExplainsIs, PendingIs, WaitsIs, HasPending}
use Rattle.dx_explain.proofs.Searches.{some_found, some_from, set_found, set_passes}
use Rattle.dx_explain.proofs.Telling.{story_is, story_back, story_below, within_is, within_back}
use Rattle.dx_explain.proofs.Telling.{just_is, just_back}

module _ (g : GraphValue) (cut : CutsOf) (seen : List ℕ) (root : ℕ) (graph : IsGraph g) where
  abbrev shown : NodeSet → Bool
  shown X = is_story g cut root X && has_just g seen X

  to_explains : explains g cut seen root ≡ true → Explains g cut root (is_member seen)
  unfolding explains
  to_explains h =
      let r = set_found (length g.nodes) shown h in
      let p = and_parts (is_story g cut root r.0) (has_just g seen r.0) r.2 in
      record {
        set = r.0;
        story = story_is g cut root r.0 r.1 p.0;
        reports = just_is g r.0 seen r.1 p.1;
      }

  from_explains : Explains g cut root (is_member seen) → explains g cut seen root ≡ true
  unfolding explains
  from_explains x =
      set_passes (length g.nodes) shown x.set (story_below g cut root x.set graph x.story)
      (and_from (is_story g cut root x.set) (has_just g seen x.set)
      (story_back g cut root x.set x.story) (just_back g x.set seen x.reports))

pub explaining : ExplainsIs
explaining g cut seen root graph =
    (to_explains g cut seen root graph, from_explains g cut seen root graph)

module _ (g : GraphValue) (cut : CutsOf) (seen : List ℕ) (allowed : NodeSet) (e : ℕ)
    (graph : IsGraph g) where
  abbrev has_it : ℕ → NodeSet → Bool
  has_it root X =
      is_story g cut root X && (list_all X seen && (reports_within g allowed X && X e))

  pub to_pending : is_report_node g.nodes e ≡ true → is_member seen e ≡ false
      → some_below (length g.nodes) (comes_from g cut seen allowed e) ≡ true
      → IsPending g cut (is_member seen) allowed e
  unfolding comes_from
  to_pending report unseen h =
      let f = some_found (length g.nodes) (comes_from g cut seen allowed e) h in
      let r = set_found (length g.nodes) (has_it f.0) f.2 in
      let X = r.0 in
      let p = and_parts (is_story g cut f.0 X)
      (list_all X seen && (reports_within g allowed X && X e)) r.2 in
      let q = and_parts (list_all X seen) (reports_within g allowed X && X e) p.1 in
      let s = and_parts (reports_within g allowed X) (X e) q.1 in
      record {
        report = report;
        unseen = unseen;
        root = f.0;
        set = X;
        story = record {
          story = story_is g cut f.0 X r.1 p.0;
          within = within_is g X allowed r.1 s.0;
        };
        all = λ d i. all_in X seen d q.0 i;
        occurs = s.1;
      }

  pub from_pending : IsPending g cut (is_member seen) allowed e
      → some_below (length g.nodes) (comes_from g cut seen allowed e) ≡ true
  unfolding comes_from
  from_pending x =
      let X = x.set in
      some_from (length g.nodes) (comes_from g cut seen allowed e) x.root
      (kind_below is_root_kind g.nodes x.root x.story.story.root_kind)
      (set_passes (length g.nodes) (has_it x.root) X
      (story_below g cut x.root X graph x.story.story)
      (and_from (is_story g cut x.root X)
      (list_all X seen && (reports_within g allowed X && X e))
      (story_back g cut x.root X x.story.story)
      (and_from (list_all X seen) (reports_within g allowed X && X e) (all_from X seen x.all)
      (and_from (reports_within g allowed X) (X e) (within_back g X allowed x.story.within)
      x.occurs))))

module _ (g : GraphValue) (c : OpenCase) (time : ℕ) (graph : IsGraph g) where
  abbrev comes : ℕ → Bool
  comes e = some_below (length g.nodes)
      (comes_from g (cuts_of c) c.observed (is_allowed g time c) e)

  pub to_pending_case : (e : ℕ) → is_pending g time c e ≡ true
      → IsPending g (cuts_of c) (is_member c.observed) (is_allowed g time c) e
  to_pending_case e h =
      let p = and_parts (is_report_node g.nodes e) (not (is_member c.observed e) && comes e) h in
      let q = and_parts (not (is_member c.observed e)) (comes e) p.1 in
      to_pending g (cuts_of c) c.observed (is_allowed g time c) e graph p.0
      (not-true (is_member c.observed e) q.0) q.1

  pub from_pending_case : (e : ℕ)
      → IsPending g (cuts_of c) (is_member c.observed) (is_allowed g time c) e
      → is_pending g time c e ≡ true
  from_pending_case e x =
      and_from (is_report_node g.nodes e) (not (is_member c.observed e) && comes e) x.report
      (and_from (not (is_member c.observed e)) (comes e)
      (not_from_false (is_member c.observed e) x.unseen)
      (from_pending g (cuts_of c) c.observed (is_allowed g time c) e graph x))

  to_waits : waits g time c ≡ true → HasPending g time c
  unfolding waits
  to_waits h =
      let r = some_found (length g.nodes) (is_pending g time c) h in
      record { report = r.0; pending = to_pending_case r.0 r.2 }

  from_waits : HasPending g time c → waits g time c ≡ true
  unfolding waits
  from_waits x =
      some_from (length g.nodes) (is_pending g time c) x.report
      (kind_below is_report_kind g.nodes x.report x.pending.report)
      (from_pending_case x.report x.pending)

pub pending : PendingIs
pending g c time e graph = (to_pending_case g c time graph e, from_pending_case g c time graph e)

pub waiting : WaitsIs
waiting g c time graph = (to_waits g c time graph, from_waits g c time graph)
