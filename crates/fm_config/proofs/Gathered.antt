-- Reports, gathered and kept once each.
use Rattle.std.proofs.Common.{◌≡◌, ◌∙◌, ℕ, ◌+◌, ◌<◌, Bool, true, false, List, [], ◌∷◌, ◌++◌}
use Rattle.std.proofs.Common.{length, take, get_or, cond, refl, sym, ap, subst}
use Rattle.std.specs.Prelude.{flat_map, ◌↔◌}
use Rattle.std.specs.List.{Contains, filter, list_all}
use Rattle.std.specs.List.Sorted.{IsSorted, IsPermutation}
use Rattle.std.specs.List.Retain.{IsFiltered, DiffersFromLast}
use Rattle.std.specs.Cmp.{Equal-is, IsEquivalence}
use Rattle.std.proofs.lemmas.Bool.{and_from}
use Rattle.std.proofs.lemmas.Cmp.{eq_by_cmp_equiv}
use Rattle.std.proofs.lemmas.List.{flat_map_more}
use Rattle.std.proofs.lemmas.List.Elements.{All-contains, Contains-get_or}
use Rattle.std.proofs.lemmas.List.Filters.{dedup_is}
use Rattle.std.proofs.lemmas.List.Folds.{list_all-append, list_all-map}
use Rattle.std.proofs.lemmas.List.Kept.{IsStrictlySortedBy-dedup, Contains-dedup}
use Rattle.std.proofs.lemmas.List.Kept.{Contains-from_dedup}
use Rattle.std.proofs.lemmas.List.Sorted.{Contains-permutation, IsPermutation-sym}
use Rattle.std.proofs.lemmas.List.Sums.{AllPass-from_list_all, list_all-from_AllPass}
use Rattle.fm_name.specs.Category.{is_ereport}
use Rattle.fm_name.specs.Events.{event_cmp, event_cmp_total, event_cmp_ties, event_eq, event_tie}
use Rattle.fm_name.specs.declared.events.EventName.{EventName}
use Rattle.ev_file.specs.declared.made.Made.{Made}
use Rattle.ev_graph.specs.declared.nodes.Node.{Node}
use Rattle.fm_modules.specs.KeptTexts.{EachHas, IsTopologyText}
use Rattle.fm_saved.specs.declared.conf.Conf.{Conf}
use Rattle.fm_topo.specs.Topology.{Topology}
use Rattle.fm_config.specs.Comes.{TextComesTo}
use Rattle.fm_config.specs.Reports.{AreAppended, AreGathered, AreOnce, AreReportsOf, all_reports}
use Rattle.fm_config.specs.Reports.{report_names}
use Rattle.fm_config.proofs.Texts.{each_next}

-- ---- each is of the category

abbrev is_report : EventName → Bool
is_report event = is_ereport event.class

kept_pass : {X : Type 0} (p : X → Bool) (b : Bool) (x : X) (xs : List X) → p x ≡ b
    → list_all p xs ≡ true → list_all p (cond b (x ∷ xs) xs) ≡ true
kept_pass p true x xs is pass = and_from (p x) (list_all p xs) is pass
kept_pass p false x xs is pass = pass

filter_pass : {X : Type 0} (p : X → Bool) (xs : List X) → list_all p (filter p xs) ≡ true
filter_pass p [] = refl
filter_pass p (x ∷ xs) = kept_pass p (p x) x (filter p xs) refl (filter_pass p xs)

names_pass : (nodes : List Node) → list_all is_report (report_names nodes) ≡ true
names_pass nodes =
    list_all-map is_report (λ node. node.name) (filter (λ node. is_ereport node.name.class) nodes)
    ∙ filter_pass (λ (node : Node). is_ereport node.name.class) nodes

all_pass : (mades : List Made) → list_all is_report (all_reports mades) ≡ true
unfolding all_reports
all_pass [] = refl
all_pass (made ∷ mades) =
    list_all-append is_report (report_names made.graph.nodes)
    (flat_map (λ m. report_names m.graph.nodes) mades)
    ∙ and_from _ _ (names_pass made.graph.nodes) (all_pass mades)

-- ---- text by text

pub none_yet : (topo : Topology) (events : List EventName) → events ≡ []
    → AreGathered topo [] events
unfolding all_reports
none_yet topo events none = record { mades = []; come = tt; events_are = none }

-- one text more, as a loop makes it
pub gathered_next : (topo : Topology) (texts : List (List ℕ)) (i : ℕ) (text : List ℕ)
    (events new : List EventName) → i < length texts → text ≡ get_or texts i text
    → AreGathered topo (take i texts) events → AreAppended topo text events new
    → AreGathered topo (take (i + 1) texts) new
unfolding all_reports
gathered_next topo texts i text events new low is so one = record {
  mades = so.mades ++ one.made ∷ [];
  come = each_next (TextComesTo topo) texts i text so.mades (so.mades ++ one.made ∷ []) one.made
      low is so.come one.comes refl;
  events_are = one.after_is
      ∙ ap (λ es. es ++ report_names one.made.graph.nodes) so.events_are
      ∙ flat_map_more (λ (m : Made). report_names m.graph.nodes) [] so.mades one.made;
}

-- ---- once each

-- events that are equal are the same
same_event : (x y : EventName) → event_eq x y ≡ true → x ≡ y
same_event x y e =
    event_tie x y ((Equal-is (event_cmp x y)).0 (sym (event_cmp_ties x y) ∙ e))

event_equal : IsEquivalence event_eq
event_equal =
    let by_order = eq_by_cmp_equiv event_cmp_total in record {
      refl = λ x. event_cmp_ties x x ∙ by_order.refl x;
      symm = λ x y. event_cmp_ties x y ∙ by_order.symm x y ∙ sym (event_cmp_ties y x);
      congr = λ x y z e. event_cmp_ties x z
          ∙ by_order.congr x y z (sym (event_cmp_ties x y) ∙ e) ∙ sym (event_cmp_ties y z);
    }

-- what is left of events that were sorted and then kept once each
pub events_once : (events sorted once : List EventName) → IsPermutation events sorted
    → IsSorted event_cmp sorted → IsFiltered (DiffersFromLast event_eq) [] sorted once
    → AreOnce events once
events_once events sorted once moved order kept =
    let is = dedup_is event_eq sorted once kept in
    record {
      ascend = rw is (IsStrictlySortedBy-dedup event_cmp_total event_cmp_ties sorted order);
      same = λ e. (
        (λ h. Contains-permutation sorted events e (IsPermutation-sym events sorted moved)
            (Contains-from_dedup event_eq sorted e (rw is at h))),
        (λ h. rw is (Contains-dedup event_equal same_event sorted e
            (Contains-permutation events sorted e moved h))),
      );
    }

-- ---- a configuration

-- the reports of its texts, once each, are of the category
pub once_pass : (topo : Topology) (texts : List (List ℕ)) (events once : List EventName)
    → AreGathered topo texts events → AreOnce events once
    → list_all (λ event. is_ereport event.class) once ≡ true
once_pass topo texts events once so kept =
    list_all-from_AllPass is_report once (λ k d low.
    All-contains (λ e. is_report e ≡ true) events (get_or once k d)
    (AllPass-from_list_all is_report events
    (subst (λ es. list_all is_report es ≡ true) (sym so.events_are) (all_pass so.mades)))
    ((kept.same (get_or once k d)).0 (Contains-get_or once k d low)))

-- and they are those of the configuration
pub conf_once : (conf : Conf) (topo : Topology) (texts : List (List ℕ)) (topo_text : List ℕ)
    (events once : List EventName) → texts ≡ conf.rules → topo_text ≡ conf.topo
    → IsTopologyText topo_text topo → AreGathered topo texts events → AreOnce events once
    → AreReportsOf conf once
conf_once conf topo texts topo_text events once same same_topo is so kept = record {
  mades = so.mades;
  come = record {
    topo = topo;
    topo_is = subst (λ text. IsTopologyText text topo) same_topo is;
    files = subst (λ ts. EachHas (TextComesTo topo) ts so.mades) same so.come;
  };
  ascend = kept.ascend;
  same = λ event. subst (λ es. Contains once event ↔ Contains es event) so.events_are
      (kept.same event);
}
