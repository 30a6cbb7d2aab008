use Rattle.std.proofs.Common.{sym, ◌∙◌, rules, arith, inl, inr}
use Rattle.std.proofs.lemmas.Fn.{always_returns_same}
use Rattle.std.proofs.lemmas.Bool.{cases_Bool}
use Rattle.ev_graph.specs.Cutting.{is_before_link}
use Rattle.ev_graph.specs.declared.instances.Link.{Link}
use Rattle.ev_graph.proofs.CutLists.{parted_links, cut_past, cut_here, cut_missing}
use Rattle.ev_graph.proofs.cuts.is_among.Goals as goal

pub returns-then-at-less : goal.returns-then-at-less
returns-then-at-less c =
    let less = c.args.less.now in
    let x : Link = record { instance = c.args.instance; effect = c.args.effect } in
    let p = c.partition_point-at.ensures.partitioned (λ l. is_before_link l x)
    (always_returns_same _ _ _ (λ a r q k. search rules)) (parted_links less x c.requires) in
    sym (cut_past less x c.requires (λ k d low high. p.0 k d low (omega (arith, high))))

pub returns : goal.returns
returns c =
    let less = c.args.less.now in
    let x : Link = record { instance = c.args.instance; effect = c.args.effect } in
    let d : Link = record { instance = 0; effect = 0 } in
    let at = c.partition_point-at.result in
    let p = c.partition_point-at.ensures.partitioned (λ l. is_before_link l x)
    (always_returns_same _ _ _ (λ a r q k. search rules)) (parted_links less x c.requires) in
    elim (cases_Bool c.is_link.result) [
      | inl same ↦ same ∙ sym
          (cut_here less x c.requires at d (omega arith) (sym c.is_link.ensures ∙ same))
      | inr other ↦ other ∙ sym
          (cut_missing less x c.requires at d (omega arith) p.0
          (p.1 at d (omega arith) (omega arith)) (sym c.is_link.ensures ∙ other))
    ]
