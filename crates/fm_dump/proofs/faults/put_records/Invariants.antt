use Rattle.std.proofs.Common.{◌≡◌, ◌++◌, drop}
use Rattle.fm_dump.specs.Faults.{faults_text}
use Rattle.fm_dump.specs.Kept.{IsTextFront}
use Rattle.fm_dump.proofs.faults.put_records.Given as goal

-- what is left of the records gives what is left to write
abbrev pub invariant-records : goal.invariant-records
invariant-records l = record {
  whole : l.out.items ++ faults_text l.fn.options l.fn.namespace (drop l.spoken-index l.records)
      ≡ l.initial.out.items ++ faults_text l.fn.options l.fn.namespace l.records;
  behind : IsTextFront l.initial.out.items l.out.items;
}
