-- One configuration more, and all of them.
use Rattle.std.proofs.Common.{◌≤◌, ◌^◌, sym, ◌∙◌, arith, take}
use Rattle.fm_journal.proofs.Records.{end_of_nil}
use Rattle.fm_modules.proofs.Gates.{conf_short, gate_fits, gate_more, gate_whole, spelled_at}
use Rattle.fm_modules.proofs.places.gate_of.Goals as goal

pub confs-init : goal.confs-init
confs-init c = (sym end_of_nil, omega arith)

pub overflow_add-place : goal.overflow_add-place
overflow_add-place c =
    omega (
      arith,
      c.conf_len.ensures,
      conf_short c.conf-item.result (spelled_at c.args.confs.now c.args.number c.confs.conf-index
          c.conf-item.result c.requires.kept.spelled c.requires.there c.confs-test.true
          c.conf-item.is),
    )

pub overflow_add-place-in-confs : goal.overflow_add-place-in-confs
overflow_add-place-in-confs c =
    let short = conf_short c.conf-item.result (spelled_at c.args.confs.now c.args.number
    c.confs.conf-index c.conf-item.result c.requires.kept.spelled c.requires.there
    c.confs-test.true c.conf-item.is) in
    let size : c.conf_len.result ≤ 2 ^ 36 = omega (arith, short, c.conf_len.ensures) in
    omega (
      arith,
      gate_fits c.args.confs.now c.args.number c.confs.conf-index c.confs.place
          c.conf_len.result c.requires.kept.fit.1 c.requires.there c.confs-test.true
          c.confs.invariant.1 size,
    )

pub confs-preserved : goal.confs-preserved
confs-preserved c =
    let short = conf_short c.conf-item.result (spelled_at c.args.confs.now c.args.number
    c.confs.conf-index c.conf-item.result c.requires.kept.spelled c.requires.there
    c.confs-test.true c.conf-item.is) in (
      omega (
        arith,
        c.confs.invariant.0,
        c.conf_len.ensures,
        gate_more (take c.args.number c.args.confs.now) c.confs.conf-index c.conf-item.result
            c.confs-test.true c.conf-item.is,
      ),
      omega (arith, c.confs.invariant.1, c.conf_len.ensures, short),
    )

pub returns : goal.returns
returns c =
    c.confs.invariant.0
    ∙ gate_whole c.args.confs.now c.args.number c.confs.conf-index
    (omega (arith, c.confs-test.false))
