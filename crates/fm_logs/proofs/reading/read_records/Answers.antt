-- The sort's clauses, at the number and the module of a record.
use Rattle.std.proofs.Common.{rules, List, subst}
use Rattle.std.proofs.lemmas.List.Sorted.{answers_always}
use Rattle.fm_entry.specs.declared.spoken.Spoken.{Spoken}
use Rattle.fm_logs.specs.LogReads.{AreOrdered}
use Rattle.fm_logs.specs.ReadsAsBook.{SpellsSpoken}
use Rattle.fm_logs.proofs.SpelledOnce.{each_one, spoken_once}
use Rattle.fm_logs.proofs.reading.read_records.Goals as goal

pub returns-clause-read : goal.returns-clause-read
returns-clause-read g c payloads records keeps spelled =
    subst (λ (log : List Spoken). AreOrdered log c.sort_by_key.new.self.items)
    (each_one SpellsSpoken spoken_once payloads c.in_ok-records.records.items records
    (c.in_ok-records.ensures.read payloads keeps) spelled) (record {
      same = c.sort_by_key.ensures.permutation;
      sorted = c.in_ok-sort_by_key.ensures.sorted (λ r. (r.number, r.module))
          (answers_always _ _ _ (λ f a r h k. search rules));
      stable = c.sort_by_key.ensures.stable (λ r. (r.number, r.module))
          (answers_always _ _ _ (λ f a r h k. search rules));
    })
