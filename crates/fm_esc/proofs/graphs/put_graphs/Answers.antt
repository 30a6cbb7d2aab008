use Rattle.std.proofs.Common.{◌<◌, length, arith}
use Rattle.std.proofs.lemmas.Result.{err_from_is_err_and}
use Rattle.fm_esc.proofs.Putting.{first_past, put_more}
use Rattle.fm_esc.proofs.graphs.put_graphs.Goals as goal

pub returns-in_err-made-clause-refused : goal.returns-in_err-made-clause-refused
returns-in_err-made-clause-refused c =
    let inside : c.files.number < length c.args.files.now = omega arith in
    let p = err_from_is_err_and c.from_residual.result c.from_residual.ensures.1 in
    rw (p.1, p.2) (first_past c.args.form c.args.topo.now c.args.files.now c.files.number
    c.args.out.now.items c.files.out.items c.index-files-number.result c.in_err-made.field-0.0
    c.files.invariant inside c.index-files-number.is c.in_err-made.ensures.refused)

pub files-preserved : goal.files-preserved
files-preserved c =
    let inside : c.files.number < length c.args.files.now = omega arith in
    put_more c.args.form c.args.topo.now c.args.files.now c.files.number c.args.out.now.items
    c.files.out.items c.put_graph.new.out.items c.index-files-number.result c.in_ok-made.made
    c.files.invariant inside c.index-files-number.is c.in_ok-made.ensures.made
    c.in_ok-put_graph.ensures
