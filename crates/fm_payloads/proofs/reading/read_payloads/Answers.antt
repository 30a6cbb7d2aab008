-- The reader takes payload after payload, until it refuses one or there is no more.
use Rattle.std.proofs.Common.{List, ℕ, refl, sym, subst, arith}
use Rattle.fm_journal.specs.Pieces.{PieceOf, IsPiece}
use Rattle.fm_payloads.specs.Reading.{IsPayloadIn}
use Rattle.fm_payloads.proofs.Progress.{has_read_none, has_read_next, has_read_all}
use Rattle.fm_payloads.proofs.reading.read_payloads.Goals as goal

pub payloads-init : goal.payloads-init
payloads-init g c =
    has_read_none g.D.Disk g.R.PayloadReader.took g.R.PayloadReader.same_rule g.met.D.Disk.only_now
    c.args.journal.now c.args.reader.now c.none-piece.result
    (g.met.R.PayloadReader.same_rule_self c.args.reader.now)
    (subst (λ (p : PieceOf). IsPiece (g.D.Disk.seen c.args.journal.now.disk) p)
    (sym c.none-piece.ensures) (λ bytes told. refl))

pub payloads-preserved : goal.payloads-preserved
payloads-preserved g c =
    let here = subst (λ (b : List ℕ).
    IsPayloadIn g.D.Disk c.payloads.journal c.payloads.place c.in_ok-size.size b)
    (sym c.deref.ensures.value) c.in_ok-size.ensures.found in
    has_read_next g.D.Disk g.R.PayloadReader.took g.R.PayloadReader.same_rule c.args.journal.now
    c.payloads.journal c.read_into.new.journal c.args.reader.now c.payloads.reader c.payloads.piece
    c.payloads.place c.payloads.invariant c.in_ok-size.ensures.same c.in_ok-size.ensures.still
    c.in_ok-size.size c.deref.result.now here c.take.new.self c.read_into.new.piece _
    (omega arith) c.in_ok-size.ensures.count_kept
    (g.met.R.PayloadReader.same_rule_then _ _ _ c.payloads.invariant.rule c.in_ok-take.ensures.rule)
    c.in_ok-size.ensures.piece (c.in_ok-take.ensures.taken c.if-not-branch.false)

pub returns-clause-read : goal.returns-clause-read
returns-clause-read g c =
    has_read_all g.D.Disk g.R.PayloadReader.took g.R.PayloadReader.same_rule c.args.journal.now
    c.payloads.journal c.args.reader.now c.payloads.reader c.payloads.piece c.payloads.place
    c.payloads.invariant (omega (arith, c.payloads-test.false, c.end-end.ensures.value))
