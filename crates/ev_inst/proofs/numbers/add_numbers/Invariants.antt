-- The numbers so far are those at the first paths.
use Rattle.std.proofs.Common.{◌≡◌, ◌+◌, ◌||◌, ℕ, length, take}
use Rattle.ev_incidence.specs.Sets.{is_member}
use Rattle.ev_inst.specs.Gathering.{is_node_on}
use Rattle.ev_inst.proofs.numbers.add_numbers.Given as goal

abbrev pub invariant-ats : goal.invariant-ats
invariant-ats l = ((n : ℕ) → is_member l.found.items n
    ≡ (is_member l.initial.found.items n
    || is_node_on l.topo l.index.nodes.now l.class (take l.at-index l.ats) n))
    × (length l.found.items ≡ length l.initial.found.items + l.at-index)
