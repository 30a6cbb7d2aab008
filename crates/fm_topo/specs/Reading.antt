-- Where the reading of a text stands before a line.
use Rattle.std.specs.Prelude.{◌≡◌, ℕ, ◌+◌, ◌≤◌, List, length, take, drop, sum_by}
use Rattle.fm_topo.specs.Line.{topology_lines}
use Rattle.fm_topo.specs.Topology.{Topology, lines_topology}
use Rattle.fm_topo.specs.Fault.{IsCleanBefore}

-- so many lines are read, without a fault; the rest of the text is left, and the topology of those
-- lines is found
pub record IsAt (text : List ℕ) (number : ℕ) (rest : List ℕ) (found : Topology) : Type 0 where
  pub lines : drop number (topology_lines text) ≡ topology_lines rest
  pub clean : IsCleanBefore text number
  pub topology : found ≡ lines_topology (take number (topology_lines text))
  pub size : sum_by (λ line. length line + 1) (take number (topology_lines text)) + length rest
      ≡ length text
  pub short : length text ≤ length rest + 16777216
  pub count : number + length rest ≤ length text
