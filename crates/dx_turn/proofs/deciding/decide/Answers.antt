use Rattle.std.proofs.Common.{◌≡◌, sym, ap, subst, ◌∙◌, List, ℕ}
use Rattle.std.proofs.lemmas.Result.{on_ok_weaker}
use Rattle.dx_explain.specs.Cases.{Solving, Upsetting, Unexplained, verdict_of}
use Rattle.dx_case.specs.Cases.{open_of, told}
use Rattle.dx_step.specs.Said.{nodes_of}
use Rattle.dx_step.specs.Turns.{solve, upset}
use Rattle.dx_turn.specs.Grounds.{rules_on}
use Rattle.dx_turn.specs.Turning.{HasTurned}
use Rattle.dx_turn.proofs.Turned.{AreFaults, are_faults, decided_by, nodes_by}
use Rattle.dx_turn.proofs.deciding.decide.Goals as goal

pub solve-requires-clause-below : goal.solve-requires-clause-below
solve-requires-clause-below c =
    let g = c.args.ground.now.graph.now in
    let v : Solving c.in-Solved.faults.items ≡ verdict_of g (open_of c.args.case.now) =
    sym (ap told c.in-Solved.is) ∙ c.in_ok-faults.ensures in
    (subst (AreFaults g) (sym c.deref.ensures.value)
    (are_faults g (open_of c.args.case.now) c.in-Solved.faults.items c.requires.case.graph v)).below

pub solve-requires-clause-few : goal.solve-requires-clause-few
solve-requires-clause-few c =
    let g = c.args.ground.now.graph.now in
    let v : Solving c.in-Solved.faults.items ≡ verdict_of g (open_of c.args.case.now) =
    sym (ap told c.in-Solved.is) ∙ c.in_ok-faults.ensures in
    (subst (AreFaults g) (sym c.deref.ensures.value)
    (are_faults g (open_of c.args.case.now) c.in-Solved.faults.items c.requires.case.graph v)).few

pub returns-in-Solved : goal.returns-in-Solved
returns-in-Solved c =
    let d = c.args.ground.now in
    let o = open_of c.args.case.now in
    let v : Solving c.in-Solved.faults.items ≡ verdict_of d.graph.now o =
    sym (ap told c.in-Solved.is) ∙ c.in_ok-faults.ensures in
    on_ok_weaker c.solve.result
    (λ h. decided_by d c.args.notes o (Solving c.in-Solved.faults.items) c.args.told.now
    c.solve.new.told c.requires.ground v h.told
    (nodes_by d (solve (rules_on d) o) c.in-Solved.faults.items c.args.told.now c.solve.new.told
    c.requires.ground
    (subst (λ (xs : List ℕ). HasTurned d (solve (rules_on d) o (nodes_of d.graph.now xs))
    c.args.told.now c.solve.new.told) c.deref.ensures.value h)))
    c.solve.ensures

pub returns-in-Upset : goal.returns-in-Upset
returns-in-Upset c =
    let d = c.args.ground.now in
    let o = open_of c.args.case.now in
    let v : Upsetting c.in-Upset.numbers.items ≡ verdict_of d.graph.now o =
    sym (ap told c.in-Upset.is) ∙ c.in_ok-faults.ensures in
    on_ok_weaker c.upset.result
    (λ h. decided_by d c.args.notes o (Upsetting c.in-Upset.numbers.items) c.args.told.now
    c.upset.new.told c.requires.ground v h.told
    (nodes_by d (upset (rules_on d) c.args.notes o) c.in-Upset.numbers.items c.args.told.now
    c.upset.new.told c.requires.ground
    (subst (λ (xs : List ℕ). HasTurned d (upset (rules_on d) c.args.notes o
    (nodes_of d.graph.now xs)) c.args.told.now c.upset.new.told) c.deref-in-Upset.ensures.value
    h)))
    c.upset.ensures

pub returns-in-Undiagnosable : goal.returns-in-Undiagnosable
returns-in-Undiagnosable c =
    let d = c.args.ground.now in
    let o = open_of c.args.case.now in
    let v : Unexplained ≡ verdict_of d.graph.now o =
    sym (ap told c.in-Undiagnosable.is) ∙ c.in_ok-faults.ensures in
    on_ok_weaker c.give_up.result
    (λ h. decided_by d c.args.notes o Unexplained c.args.told.now c.give_up.new.told
    c.requires.ground v h.told h.turn)
    c.give_up.ensures
