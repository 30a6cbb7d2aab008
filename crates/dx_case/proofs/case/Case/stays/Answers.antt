use Rattle.std.proofs.Common.{Some, sym, ◌∙◌, arith}
use Rattle.std.proofs.lemmas.Bool.{leb-true}
use Rattle.dx_case.specs.declared.case.Case.{Case}
use Rattle.dx_case.specs.Cases.{case_parts}
use Rattle.dx_case.proofs.Standing.{waits_is_case, takes_is}
use Rattle.dx_case.proofs.Steps.{quiet}
use Rattle.dx_case.proofs.case.Case.stays.Goals as goal

pub returns : goal.returns
returns c = λ g h b on.
    let old = c.args.self.now in
    let new : Case = record old { time = Some c.args.moment } in
    let k = quiet g (case_parts old) h c.args.moment b
    (omega (arith, c.saturating_sub.ensures, leb-true c.saturating_sub.result old.until on)) in
    record {
      waits = sym (waits_is_case g new k) ∙ waits_is_case g old h;
      takes = λ node. sym (takes_is g new k node) ∙ takes_is g old h node;
    }
