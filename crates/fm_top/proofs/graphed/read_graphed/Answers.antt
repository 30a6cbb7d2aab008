use Rattle.std.proofs.lemmas.Result.{err_from_is_err_and}
use Rattle.fm_sources.specs.Sources.{given}
use Rattle.fm_esc.proofs.Reading.{few_files, files_cause}
use Rattle.fm_top.proofs.graphed.read_graphed.Goals as goal

pub put_graphs-requires : goal.put_graphs-requires
put_graphs-requires g c =
    few_files g.S.Source (given c.args.rules.now c.args.topo.now)
    (given c.read_sources.new.rules c.read_sources.new.topo) c.in_ok-got.got
    c.as_slice.result.now c.in_ok-got.ensures c.as_slice.ensures.value c.requires

pub returns-in_err-put_graphs-clause-refused : goal.returns-in_err-put_graphs-clause-refused
returns-in_err-put_graphs-clause-refused g c =
    let p = err_from_is_err_and c.from_residual-in_err-put_graphs.result
    c.from_residual-in_err-put_graphs.ensures.1 in
    rw (p.1, p.2) (files_cause g.S.Source (given c.args.rules.now c.args.topo.now)
    (given c.read_sources.new.rules c.read_sources.new.topo) c.in_ok-got.got
    c.as_slice.result.now c.in_ok-got.ensures c.as_slice.ensures.value
    c.in_err-put_graphs.field-0.0 c.in_err-put_graphs.ensures.refused)
