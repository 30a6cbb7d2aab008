-- The records were read, and their text made.
use Rattle.std.proofs.Common.{◌≡◌, rules, subst}
use Rattle.fm_dump.specs.Faults.{faults_text}
use Rattle.fm_admin.proofs.dumping.read_faults.Goals as goal

pub returns-in_err-records-clause-undamaged : goal.returns-in_err-records-clause-undamaged
returns-in_err-records-clause-undamaged g c = λ fresh k stands.
    let undamaged = c.in_err-records.ensures.undamaged fresh k stands in
    search rules

pub returns-clause-told : goal.returns-clause-told
returns-clause-told g c = λ fresh k stands. record {
  found = c.in_ok-records.records.items;
  ordered = c.in_ok-records.ensures.records fresh k stands;
  text_is = subst (λ records. c.in_ok-faults_of.field-0.items
      ≡ faults_text c.args.options.now c.args.namespace.now records)
      c.deref.ensures.value c.in_ok-faults_of.ensures;
}
