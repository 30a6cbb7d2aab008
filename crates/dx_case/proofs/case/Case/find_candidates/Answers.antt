use Rattle.std.proofs.Common.{◌≡◌, ◌∷◌, [], ◌∙◌, ℕ, true, sym, ap, subst}
use Rattle.std.specs.List.{filter}
use Rattle.ev_incidence.specs.Sets.{is_member}
use Rattle.ev_graph.specs.Kinds.{is_report_kind, is_report_node}
use Rattle.ev_graph.proofs.KindBelow.{kind_below}
use Rattle.ev_incidence.proofs.Occurrences.{all_in, in_at}
use Rattle.dx_live.specs.Live.{no_cut, all_allowed}
use Rattle.dx_case.specs.Candidates.{covers}
use Rattle.dx_case.proofs.Inserting.{write_back, same_count}
use Rattle.dx_case.proofs.Steps.{lives_of, opened_case}
use Rattle.dx_case.proofs.case.Case.find_candidates.Goals as goal

pub fresh-requires-clause-node : goal.fresh-requires-clause-node
fresh-requires-clause-node c =
    let nodes = c.args.graph.now.nodes in
    let observed = c.args.self.now.observed.items in
    let node = c.first-node.result in
    let first = c.first-node.ensures in
    let P : ℕ → Type 0 = λ e. is_member observed e ≡ true in
    kind_below is_report_kind nodes node
    (all_in (is_report_node nodes) observed node c.requires.opened.observed_are
    (subst P (sym first) (in_at observed 0 c.requires.opened.some)))

pub change_each-requires-clause-lives : goal.change_each-requires-clause-lives
change_each-requires-clause-lives c =
    let fresh = c.in_ok-fresh.fresh in
    rw c.as_mut_slice.ensures.value (lives_of c.args.graph.now no_cut
    (is_member (c.first-node.result ∷ [])) all_allowed fresh.candidates.items fresh.reports.items
    c.in_ok-fresh.ensures.fresh)

pub returns-clause-case : goal.returns-clause-case
returns-clause-case c =
    let g = c.args.graph.now in
    let old = c.args.self.now in
    let observed = old.observed.items in
    let node = c.first-node.result in
    let fresh = c.in_ok-fresh.fresh in
    let mid = c.change_each.new.candidates in
    let new = c.settle.new.self in
    let s = c.settle.ensures.same in
    let first = c.first-node.ensures in
    let P : ℕ → Type 0 = λ e. is_member observed e ≡ true in
    let changed = rw (c.as_mut_slice.ensures.value, c.as_slice.ensures.value) at
    c.change_each.ensures in
    let kept = c.settle.ensures.kept ∙ ap (filter (covers observed))
    (write_back fresh.candidates.len mid fresh.candidates.items changed.count
    (same_count fresh.candidates.len _ fresh.candidates.items c.as_mut_slice.ensures.value
    c.as_mut_slice.ensures.len)) in
    rw (
      s.opened,
      s.time,
      s.until,
      s.observed,
      s.broken,
      s.reports,
      c.new.ensures.items,
      c.requires.opened.time,
      c.requires.opened.until,
    ) (opened_case g c.nodes.ensures.graph new.number old.opened node new.entries.items observed
    old.broken.items fresh.reports.items fresh.candidates.items mid new.candidates.items
    new.waiting (subst P (sym first) (in_at observed 0 c.requires.opened.some))
    c.in_ok-fresh.ensures.fresh
    c.requires.opened.observed_ascend c.requires.opened.observed_are
    c.requires.opened.broken_ascend changed kept
    (rw c.new.ensures.items at c.settle.ensures.waiting))
