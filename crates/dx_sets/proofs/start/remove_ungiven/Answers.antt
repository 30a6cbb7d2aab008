use Rattle.std.proofs.Common.{◌≡◌, ◌&&◌, not, eqb, ℕ, List, length, get_or, arith, ap, sym, ◌∙◌}
use Rattle.std.proofs.Common.{subst}
use Rattle.dx_sets.specs.Engine.{is_ungiven, HaveLeftBelow}
use Rattle.dx_sets.proofs.Beginning.{left_here, left_past, ungiven_keeps}
use Rattle.dx_sets.proofs.start.remove_ungiven.Goals as goal
use Rattle.dx_sets.proofs.start.remove_ungiven.Goals.{then-is_ungiven, else-is_ungiven}

pub loop-node-preserved : goal.loop-node-preserved
loop-node-preserved g c =
    let p = λ (e : ℕ). is_ungiven c.args.sets.now e c.args.root in
    let same = ap (λ (xs : List ℕ). eqb (get_or xs c.loop-node.node 0) 0
    && not (eqb c.loop-node.node c.args.root)) c.loop-node.invariant.support in
    elim c.if-is_ungiven.branch [
      | then-is_ungiven w ↦ rw (w.sets-is, w.remove.ensures) (left_here p c.loop-node.node
          c.args.sets.now c.loop-node.sets c.loop-node.invariant
          (sym same ∙ (sym c.is_ungiven.ensures ∙ w.if-is_ungiven.true)))
      | else-is_ungiven w ↦ rw w.sets-is (left_past p c.loop-node.node
          c.args.sets.now c.loop-node.sets c.loop-node.invariant
          (sym same ∙ (sym c.is_ungiven.ensures ∙ w.if-is_ungiven.false)))
    ]

pub returns-clause-goes : goal.returns-clause-goes
returns-clause-goes g c =
    let v = c.args.table.now in
    let p = λ (e : ℕ). is_ungiven c.args.sets.now e c.args.root in
    let count : c.loop-node.node ≡ length v.uses =
    omega (arith, c.nodes-count.ensures.count) in
    let P : ℕ → Type 0 = λ m. HaveLeftBelow p m c.args.sets.now c.loop-node.sets in
    let left = subst P count c.loop-node.invariant in
    record {
      moves = left.moves;
      keeps = ungiven_keeps v (g.C.CutTest.is_cut c.args.cuts.now) c.args.root c.args.sets.now
          c.loop-node.sets c.requires.incidence c.requires.exact left;
    }
