-- A payload is a record that its module says next, or one that it does not, or none.
use Rattle.std.proofs.Common.{Option, ap, subst}
use Rattle.std.specs.Option.{is_some}
use Rattle.std.specs.Prelude.{IfSome}
use Rattle.fm_entry.specs.declared.spoken.Spoken.{Spoken}
use Rattle.fm_logs.specs.ReadsAsBook.{SpellsSpoken}
use Rattle.fm_looks.proofs.FaultLogs.{nothing_refused}
use Rattle.fm_looks.proofs.FaultLogs.{says_taken, says_refused}
use Rattle.fm_looks.proofs.fault_log.retrace_payload.Goals as goal

pub returns-in-Some-clause-yes : goal.returns-in-Some-clause-yes
returns-in-Some-clause-yes g c =
    says_taken g.M.Module c.args.base c.args.entries.now c.args.modules.now.items
    c.retrace_record.new.modules.items c.args.payload.now c.in-Some.record
    (subst (λ (o : Option Spoken). IfSome o (SpellsSpoken c.args.payload.now)) c.in-Some.is
    c.in_ok-record.ensures.found)
    c.retrace_record.result c.retrace_record.ensures.yes

pub returns-in-Some-clause-no : goal.returns-in-Some-clause-no
returns-in-Some-clause-no g c =
    says_refused g.M.Module c.args.base c.args.entries.now c.args.modules.now.items
    c.retrace_record.new.modules.items c.args.payload.now c.in-Some.record
    (subst (λ (o : Option Spoken). IfSome o (SpellsSpoken c.args.payload.now)) c.in-Some.is
    c.in_ok-record.ensures.found)
    c.retrace_record.result c.retrace_record.ensures.no

pub returns-in-None-clause-no : goal.returns-in-None-clause-no
returns-in-None-clause-no g c = λ _.
    nothing_refused g.M.Module c.args.base c.args.entries.now c.args.modules.now.items
    c.args.payload.now (c.in_ok-record.ensures.none (ap is_some c.in-None.is))
