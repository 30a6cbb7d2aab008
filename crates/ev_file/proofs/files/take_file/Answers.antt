-- What is refused is no graph.
use Rattle.std.proofs.Common.{sym, subst}
use Rattle.ev_file.specs.FileReading.{IsNoFile}
use Rattle.ev_file.proofs.Refused.{refused_no_graph}
use Rattle.ev_file.proofs.files.take_file.Goals as goal

pub returns-in-Err : goal.returns-in-Err
returns-in-Err c = record {
  ok = tt;
  graph = tt;
  err = λ misspelled. subst IsNoFile (sym c.in_ok-nodes.ensures.ok)
      (refused_no_graph c.in-Err.fault _ (c.fault_by.ensures misspelled) c.in-Err.ensures.fault);
}
