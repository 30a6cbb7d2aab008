use Rattle.std.proofs.Common.{ℕ, List, get_or, refl, subst}
use Rattle.std.proofs.lemmas.List.{take_all}
use Rattle.ev_graph.specs.Kinds.{is_root_node}
use Rattle.ev_incidence.proofs.Occurrences.{all_in, in_at}
use Rattle.dx_case.specs.declared.candidate.Candidate.{Candidate}
use Rattle.dx_case.specs.Finding.{AreAsMade}
use Rattle.dx_case.proofs.Fresh.{fresh_none, fresh_more}
use Rattle.dx_case.proofs.finding.candidates_of.Goals as goal

pub loop-root-init : goal.loop-root-init
loop-root-init c = rw c.new-candidates.ensures.items (fresh_none c.args.graph.now)

pub loop-root-preserved : goal.loop-root-preserved
loop-root-preserved c =
    let roots = c.args.roots.now in
    let i = c.loop-root.root-index in
    let x = get_or roots i 0 in
    let a : Candidate = record { root = x; live = c.in_ok-live.live } in
    rw c.in_ok-push.ensures.items (fresh_more c.args.graph.now roots i 0
    c.loop-root.candidates.items a c.loop-root-test.true refl
    (record {
      live = c.in_ok-live.ensures.live;
      root = c.in_ok-live.ensures.root;
      best = c.in_ok-live.ensures.best;
    })
    c.loop-root.invariant)

pub new-requires : goal.new-requires
new-requires c =
    let roots = c.args.roots.now in
    all_in (is_root_node c.args.graph.now.nodes) roots (get_or roots c.loop-root.root-index 0)
    c.requires (in_at roots c.loop-root.root-index c.loop-root-test.true)

pub returns : goal.returns
returns c =
    let P : List ℕ → Type 0 = λ rs. AreAsMade c.args.graph.now rs c.loop-root.candidates.items in
    subst P (take_all c.loop-root.root-index c.args.roots.now c.loop-root-test.false)
    c.loop-root.invariant
