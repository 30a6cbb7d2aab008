-- Two graphs of a file are one.
use Rattle.ev_inst_laws.proofs.OneGraph.{graphs_one}
use Rattle.ev_inst_laws.proofs.laws.a_rule_file_has_one_graph.Goals as goal

pub returns : goal.returns
returns c = graphs_one
