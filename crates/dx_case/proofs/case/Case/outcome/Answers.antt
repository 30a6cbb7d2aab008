use Rattle.std.proofs.Common.{ℕ, List, eqb, length, sym, ap, ◌∙◌}
use Rattle.ev_graph.specs.Kinds.{is_upset_kind}
use Rattle.dx_explain.specs.Cases.{is_solving_kind, faults_of, upsets_of, verdict}
use Rattle.dx_case.specs.Cases.{open_of}
use Rattle.dx_case.proofs.Standing.{blamed_is}
use Rattle.dx_case.proofs.Verdicts.{solving, upsetting, unexplained}
use Rattle.dx_case.proofs.case.Case.outcome.Goals as goal

pub returns-then-not-is_empty : goal.returns-then-not-is_empty
returns-then-not-is_empty c =
    let g = c.args.graph.now in
    let o = open_of c.args.self.now in
    let faults = (rw (c.nodes.ensures.nodes, c.as_slice.ensures.value) at c.in_ok-faults.ensures)
    ∙ blamed_is g c.args.self.now c.requires.case c.requires.still is_solving_kind in
    solving c.in_ok-faults.faults.items (upsets_of g o)
    (ap (λ (xs : List ℕ). eqb (length xs) 0) (sym c.as_slice-2.ensures.value)
    ∙ (sym c.is_empty.ensures ∙ c.if-not-is_empty.true))
    ∙ ap (λ (xs : List ℕ). verdict xs (upsets_of g o)) faults

pub returns-then-not-is_empty-2 : goal.returns-then-not-is_empty-2
returns-then-not-is_empty-2 c =
    let g = c.args.graph.now in
    let o = open_of c.args.self.now in
    let faults = (rw (c.nodes.ensures.nodes, c.as_slice.ensures.value) at c.in_ok-faults.ensures)
    ∙ blamed_is g c.args.self.now c.requires.case c.requires.still is_solving_kind in
    let upsets = (rw (c.nodes-2.ensures.nodes, c.as_slice-3.ensures.value) at
    c.in_ok-upsets.ensures)
    ∙ blamed_is g c.args.self.now c.requires.case c.requires.still is_upset_kind in
    upsetting c.in_ok-faults.faults.items c.in_ok-upsets.upsets.items
    (ap (λ (xs : List ℕ). eqb (length xs) 0) (sym c.as_slice-2.ensures.value)
    ∙ (sym c.is_empty.ensures ∙ c.if-not-is_empty.false))
    (ap (λ (xs : List ℕ). eqb (length xs) 0) (sym c.as_slice-4.ensures.value)
    ∙ (sym c.is_empty-2.ensures ∙ c.if-not-is_empty-2.true))
    ∙ (ap (λ (xs : List ℕ). verdict xs c.in_ok-upsets.upsets.items) faults
    ∙ ap (verdict (faults_of g o)) upsets)

pub returns : goal.returns
returns c =
    let g = c.args.graph.now in
    let o = open_of c.args.self.now in
    let faults = (rw (c.nodes.ensures.nodes, c.as_slice.ensures.value) at c.in_ok-faults.ensures)
    ∙ blamed_is g c.args.self.now c.requires.case c.requires.still is_solving_kind in
    let upsets = (rw (c.nodes-2.ensures.nodes, c.as_slice-3.ensures.value) at
    c.in_ok-upsets.ensures)
    ∙ blamed_is g c.args.self.now c.requires.case c.requires.still is_upset_kind in
    unexplained c.in_ok-faults.faults.items c.in_ok-upsets.upsets.items
    (ap (λ (xs : List ℕ). eqb (length xs) 0) (sym c.as_slice-2.ensures.value)
    ∙ (sym c.is_empty.ensures ∙ c.if-not-is_empty.false))
    (ap (λ (xs : List ℕ). eqb (length xs) 0) (sym c.as_slice-4.ensures.value)
    ∙ (sym c.is_empty-2.ensures ∙ c.if-not-is_empty-2.false))
    ∙ (ap (λ (xs : List ℕ). verdict xs c.in_ok-upsets.upsets.items) faults
    ∙ ap (verdict (faults_of g o)) upsets)
