-- The graph of a row is the one that its module has in the book.
use Rattle.std.proofs.Common.{◌≡◌, ◌∙◌, inl, inr, ℕ, ◌==◌, Bool, true, false, if◌then◌else◌, List}
use Rattle.std.proofs.Common.{Option, Some, None, refl, sym, ap, subst}
use Rattle.std.specs.List.{slice_get}
use Rattle.std.specs.Option.{option_map, option_and_then}
use Rattle.dx_state.specs.Configured.{Configuration}
use Rattle.ev_graph.specs.Lawful.{GraphValue}
use Rattle.fm_admin.specs.Explaining.{IsExplanationOf, IsGraphOfRow, IsTextOfFound}
use Rattle.fm_core.proofs.Tests.{eq_true, true_eq}
use Rattle.fm_core.specs.Drained.{drained}
use Rattle.fm_entry.specs.declared.list_event.ListEvent.{ListEvent}
use Rattle.fm_explain.specs.Explained.{IsExplained}
use Rattle.fm_logs.specs.Contents.{Contents}
use Rattle.fm_logs.specs.StoreBook.{force_now}
use Rattle.fm_modules.specs.KeptTexts.{ConfMakes, EachHas}
use Rattle.fm_modules_laws.proofs.OneRow.{each_at, row_has, row_lacks}
use Rattle.fm_saved.specs.declared.conf.Conf.{Conf}
use Rattle.fm_admin.specs.Rows.{row_with}
use Rattle.fm_top.specs.ExplainedRow.{IsExplanationIn, IsExplanationAt, graph_in, row_graph}
use Rattle.fm_top.specs.Kept.{BookAt}

not_both : (b : Bool) → b ≡ true → b ≡ false → ⊥
not_both b is other =
    let both : true ≡ false = sym is ∙ other in
    cc

-- the graph at a place of a row
abbrev graph_at : List Configuration → ℕ → Option GraphValue
graph_at made file = option_map (λ x. x.graph) (slice_get made file)

module _ (confs : List Conf) (rows : List (List Configuration))
    (make : EachHas ConfMakes confs rows) (n : ℕ) (conf : Conf)
    (there : slice_get confs n ≡ Some conf) where
  made_there : (made : List Configuration) × (slice_get rows n ≡ Some made) × ConfMakes conf made
  made_there = each_at ConfMakes confs rows n conf make there

  in_its_row : (row : ListEvent) → row.conf ≡ n
      → graph_in rows row ≡ graph_at made_there.0 row.case.module
  in_its_row row is =
      ap (λ (o : Option (List Configuration)). option_map (λ x. x.graph)
      (option_and_then (λ made. slice_get made row.case.module) o))
      (ap (λ (i : ℕ). slice_get rows i) is ∙ made_there.1)

  by_test : (row : ListEvent) (graph : Option GraphValue) (b : Bool) → (row.conf == n) ≡ b
      → IsGraphOfRow conf n row graph → graph ≡ (if b then graph_in rows row else None)
  by_test row (Some g) true is (same, (text, at, has)) =
      sym (in_its_row row same
      ∙ (row_has conf made_there.0 row.case.module text has.checked has.made.graph
      has.made.skipped made_there.2 at has.is_rules has.is_made.graph
      ∙ ap Some (sym has.graph_is)))
  by_test row (Some g) false is (same, has) =
      absurd (not_both (row.conf == n) (eq_true row.conf n same) is)
  by_test row None true is (inl other) = absurd (other (true_eq row.conf n is))
  by_test row None true is (inr none) =
      sym (in_its_row row (true_eq row.conf n is)
      ∙ ap (λ (o : Option Configuration). option_map (λ x. x.graph) o)
      (row_lacks conf made_there.0 row.case.module made_there.2 none))
  by_test row None false is of = refl

  found_text : (row : Option ListEvent) (text : Option (List ℕ)) → IsTextOfFound conf n row text
      → IsExplanationIn (row_graph rows n) row text
  found_text None None told = tt
  found_text None (Some text) told = absurd told
  found_text (Some row) None told = absurd told
  found_text (Some row) (Some text) (graph, of, told) =
      subst (λ (o : Option GraphValue). IsExplained o row text)
      (by_test row graph (row.conf == n) refl of) told

pub explanation_at : (uuid : List ℕ) (told : Contents) (stood : BookAt told) (conf : Conf)
    (text : Option (List ℕ)) → slice_get stood.book.confs (force_now stood.book) ≡ Some conf
    → IsExplanationOf conf (force_now stood.book) uuid (drained stood.book.book) text
    → IsExplanationAt uuid stood text
explanation_at uuid told stood conf text in_force is = record {
  conf = conf;
  in_force = in_force;
  rows = is.rows;
  status = is.status;
  text_is = found_text stood.book.confs stood.made.rows stood.made.make (force_now stood.book) conf
      in_force (row_with conf.namespace uuid is.rows) text is.told;
}
