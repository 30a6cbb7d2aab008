-- The modules say record after record, until a payload is none that they say or there is no more.
use Rattle.std.proofs.Common.{ℕ, List, refl, sym, subst, arith, length, ◌+◌, ◌∙◌}
use Rattle.fm_journal.specs.Pieces.{PieceOf, IsPiece}
use Rattle.fm_looks.specs.FaultLog.{AreSameModules, RefusesRecord, TookRecords}
use Rattle.fm_payloads.specs.Reading.{IsPayloadIn}
use Rattle.fm_payloads.proofs.Progress.{has_read_none, has_read_next, has_read_all, stops_here}
use Rattle.fm_looks.proofs.FaultLogs.{log_stopped, none_taken}
use Rattle.fm_looks.proofs.fault_log.retrace_log.Goals as goal

pub payloads-init : goal.payloads-init
payloads-init g c =
    has_read_none g.D.Disk
    (TookRecords g.M.Module c.args.base c.args.entries.now c.args.modules.now.items)
    (AreSameModules g.M.Module (c.args.base + length c.args.entries.now)) g.met.D.Disk.only_now
    c.args.journal.now c.args.modules.now.items c.none-piece.result (refl, λ all. all)
    (subst (λ (p : PieceOf). IsPiece (g.D.Disk.seen c.args.journal.now.disk) p)
    (sym c.none-piece.ensures) (λ bytes told. refl))

pub payloads-preserved : goal.payloads-preserved
payloads-preserved g c =
    let here = subst (λ (b : List ℕ).
    IsPayloadIn g.D.Disk c.payloads.journal c.payloads.place c.in_ok-size.size b)
    (sym c.deref.ensures.value) c.in_ok-size.ensures.found in
    let kept = c.in_ok-retrace_payload.ensures.kept in
    has_read_next g.D.Disk
    (TookRecords g.M.Module c.args.base c.args.entries.now c.args.modules.now.items)
    (AreSameModules g.M.Module (c.args.base + length c.args.entries.now)) c.args.journal.now
    c.payloads.journal c.read_into.new.journal c.args.modules.now.items c.payloads.modules.items
    c.payloads.piece c.payloads.place c.payloads.invariant c.in_ok-size.ensures.same
    c.in_ok-size.ensures.still c.in_ok-size.size c.deref.result.now here
    c.retrace_payload.new.modules.items c.read_into.new.piece _ (omega arith)
    c.in_ok-size.ensures.count_kept
    (kept.0 ∙ c.payloads.invariant.rule.0, λ all. kept.1 (c.payloads.invariant.rule.1 all))
    c.in_ok-size.ensures.piece
    (c.in_ok-retrace_payload.ensures.yes c.if-not-branch.false c.args.modules.now.items)

pub returns-then-not-branch-clause-says : goal.returns-then-not-branch-clause-says
returns-then-not-branch-clause-says g c = λ payloads k keeps begins.
    let here = subst (λ (b : List ℕ).
    IsPayloadIn g.D.Disk c.payloads.journal c.payloads.place c.in_ok-size.size b)
    (sym c.deref.ensures.value) c.in_ok-size.ensures.found in
    log_stopped g.M.Module c.args.base c.args.entries.now c.args.modules.now.items
    c.payloads.modules.items payloads c.payloads.place
    (stops_here g.D.Disk
    (TookRecords g.M.Module c.args.base c.args.entries.now c.args.modules.now.items)
    (AreSameModules g.M.Module (c.args.base + length c.args.entries.now)) c.args.journal.now
    c.payloads.journal c.read_into.new.journal c.args.modules.now.items c.payloads.modules.items
    c.payloads.piece c.payloads.place c.payloads.invariant c.in_ok-size.ensures.same
    c.in_ok-size.ensures.still c.in_ok-size.size c.deref.result.now here c.payloads.modules.items
    (RefusesRecord g.M.Module c.args.base c.args.entries.now)
    (λ payloads took. (took, c.in_ok-retrace_payload.ensures.no c.if-not-branch.true))
    payloads keeps (none_taken g.M.Module c.args.base c.args.entries.now c.args.modules.now.items))
    k begins

pub returns-clause-says : goal.returns-clause-says
returns-clause-says g c = λ payloads k keeps begins.
    has_read_all g.D.Disk
    (TookRecords g.M.Module c.args.base c.args.entries.now c.args.modules.now.items)
    (AreSameModules g.M.Module (c.args.base + length c.args.entries.now)) c.args.journal.now
    c.payloads.journal c.args.modules.now.items c.payloads.modules.items c.payloads.piece
    c.payloads.place c.payloads.invariant
    (omega (arith, c.payloads-test.false, c.end-end.ensures.value)) payloads keeps
    (none_taken g.M.Module c.args.base c.args.entries.now c.args.modules.now.items) k begins
