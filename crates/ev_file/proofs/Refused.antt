-- What is refused as a graph is none.
use Rattle.std.proofs.Common.{◌≡◌, inl, inr, ℕ, zero, suc, ◌<◌, arith}
use Rattle.std.proofs.lemmas.Bool.{true≢false}
use Rattle.std.proofs.Common.{sym, ◌∙◌, refl}
use Rattle.ev_incidence.specs.Wiring.{Wiring, IsCauseOf, Chain}
use Rattle.ev_graph.specs.Wired.{wiring}
use Rattle.ev_graph.specs.Lawful.{GraphValue, IsGraph, IsRefused}
use Rattle.ev_graph.specs.declared.fault.GraphFault.{GraphFault}
use Rattle.ev_graph.specs.declared.fault.GraphFault.TheVariants.{TooManyNodes, TooManyLinks, Order}
use Rattle.ev_graph.specs.declared.fault.GraphFault.TheVariants.{Range, Kinds, Counts, Cyclic}
use Rattle.ev_graph.specs.declared.fault.GraphFault.TheVariants.{NoMemory}

-- numbers that rise with each step rise along a chain
chain_rises : (w : Wiring) (rank : ℕ → ℕ) → ((x y : ℕ) → IsCauseOf w x y → rank x < rank y)
    → (n x y : ℕ) → Chain w (suc n) x y → rank x < rank y
chain_rises w rank rises zero x y (z, same, cause) = rises x y (rw same cause)
chain_rises w rank rises (suc n) x y (z, chain, cause) =
    let before = chain_rises w rank rises n x z chain in
    let after = rises z y cause in
    omega (arith, before, after)

pub refused_no_graph : (fault : GraphFault) (g : GraphValue) → (fault ≡ NoMemory → ⊥)
    → IsRefused fault g → IsGraph g → ⊥
refused_no_graph TooManyNodes g known refused graph =
    let few = graph.counted.kindred.numbered.sorted.small.few_nodes in omega (arith, refused, few)
refused_no_graph TooManyLinks g known refused graph =
    let few = graph.counted.kindred.numbered.sorted.small.few_links in
    omega (arith, refused.1, few)
refused_no_graph Order g known refused graph =
    true≢false (sym graph.counted.kindred.numbered.sorted.ascending ∙ refused.1)
refused_no_graph Range g known refused graph =
    true≢false (sym graph.counted.kindred.numbered.in_range ∙ refused.1)
refused_no_graph Kinds g known (numbered, inl kinds) graph =
    true≢false (sym graph.counted.kindred.kinds ∙ kinds)
refused_no_graph Kinds g known (numbered, inr trips) graph = graph.counted.kindred.apart trips
refused_no_graph Counts g known refused graph =
    true≢false (sym graph.counted.counts ∙ refused.1)
refused_no_graph Cyclic g known refused graph =
    let less = chain_rises (wiring g.instances) graph.rank graph.rises
    refused.1.chain.steps refused.1.node refused.1.node refused.1.chain.chain in
    omega (arith, less)
refused_no_graph NoMemory g known refused graph = known refl
