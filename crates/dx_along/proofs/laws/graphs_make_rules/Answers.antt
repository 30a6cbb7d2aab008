use Rattle.dx_along.proofs.Graphs.{single_graphs, listed_graphs}
use Rattle.dx_along.proofs.laws.graphs_make_rules.Goals as goal

pub returns-clause-single : goal.returns-clause-single
returns-clause-single c = single_graphs

pub returns-clause-listed : goal.returns-clause-listed
returns-clause-listed c = listed_graphs
