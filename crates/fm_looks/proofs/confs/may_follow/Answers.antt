-- A configuration of one store with the first one fits behind them, and no other.
use Rattle.std.proofs.Common.{arith}
use Rattle.fm_looks.proofs.StoreConfs.{confs_push, confs_last, first_got}
use Rattle.fm_looks.proofs.confs.may_follow.Goals as goal

pub returns-clause-yes : goal.returns-clause-yes
returns-clause-yes c = λ yes fit.
    confs_push c.args.confs.now c.index-confs-0.result c.args.conf.now (omega arith)
    (first_got c.args.confs.now c.index-confs-0.result (omega arith) c.index-confs-0.is)
    (c.are_of_one_store.ensures.yes yes) fit

pub returns-clause-no : goal.returns-clause-no
returns-clause-no c = λ no fit.
    c.are_of_one_store.ensures.no no
    (confs_last c.args.confs.now c.index-confs-0.result c.args.conf.now
    (first_got c.args.confs.now c.index-confs-0.result (omega arith) c.index-confs-0.is) fit)
