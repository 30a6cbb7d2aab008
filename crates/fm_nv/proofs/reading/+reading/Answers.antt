-- One more item was read; and a list is an array of pairs with distinct names.
use Rattle.std.proofs.Common.{◌<◌, arith}
use Rattle.std.proofs.lemmas.Result.{err_from_is_err_and, IfOk-weaker, IfErr-weaker}
use Rattle.fm_nv.specs.Reading.{list_from, pair_from}
use Rattle.fm_bytes.proofs.ReadLoops.{items_more}
use Rattle.fm_nv.proofs.ListReader.{pairs_more, list_none, pairs_ready, list_read, list_unread}
use Rattle.fm_nv.proofs.ListReader.{list_twice}
use Rattle.fm_nv.proofs.reading.+reading.Goals as goal

pub read_each_pair-pairs-preserved : goal.read_each_pair-pairs-preserved
read_each_pair-pairs-preserved t c =
    let more = pairs_more (pair_from (list_from c.args.deep)) _ _ _ _ _ _ _ c.pairs-test.true
    c.pairs.invariant.0 c.in_ok-read_pair.ensures.ok in
    (more.0, omega (arith, more.1, c.pairs.invariant.1))

pub read_each_list-items-preserved : goal.read_each_list-items-preserved
read_each_list-items-preserved t c =
    items_more (list_from c.args.deep) _ _ _ _ _ _ _ _ c.items-test.true c.items.invariant
    c.in_ok-read_list.ensures.ok c.in_ok-push.ensures.items

pub read_list-returns-then-deep-eq0-clause-err : goal.read_list-returns-then-deep-eq0-clause-err
read_list-returns-then-deep-eq0-clause-err t c = λ _. list_none _ _ (omega arith)

pub read_list-returns-in_err-content-clause-err : goal.read_list-returns-in_err-content-clause-err
read_list-returns-in_err-content-clause-err t c =
    let above : 0 < c.args.deep = omega arith in
    let p = err_from_is_err_and c.from_residual.result c.from_residual.ensures.1 in
    rw (p.1, p.2) (λ m. list_unread _ _ above (c.in_err-content.ensures.err m))

pub read_list-checked-requires-clause-fit : goal.read_list-checked-requires-clause-fit
read_list-checked-requires-clause-fit t c =
    let above : 0 < c.args.deep = omega arith in
    (pairs_ready _ _ _ _ above c.left-left.ensures.bytes c.in_ok-content.ensures.ok).0

pub read_list-checked-requires-clause-shallow : goal.read_list-checked-requires-clause-shallow
read_list-checked-requires-clause-shallow t c =
    let above : 0 < c.args.deep = omega arith in
    let deep = (pairs_ready c.args.deep _ _ _ above c.left-left.ensures.bytes
    c.in_ok-content.ensures.ok).1 in
    omega (arith, deep)

pub read_list-returns-clause-ok : goal.read_list-returns-clause-ok
read_list-returns-clause-ok t c =
    let above : 0 < c.args.deep = omega arith in
    IfOk-weaker c.checked.result _ _
    (λ ps h. list_read _ _ _ ps _ above c.in_ok-content.ensures.ok h.0 h.1) c.checked.ensures.ok

pub read_list-returns-clause-err : goal.read_list-returns-clause-err
read_list-returns-clause-err t c =
    let above : 0 < c.args.deep = omega arith in
    IfErr-weaker c.checked.result _ _
    (λ f h m. list_twice _ _ _ _ above c.in_ok-content.ensures.ok (h m)) c.checked.ensures.err
