-- What is reported to the small module of dx_step at a few entries, and what it has observed.
use Rattle.std.specs.Prelude.{◌≡◌, [], ◌∷◌, map, codes}
use Rattle.fm_entry.specs.declared.entry.Entry.{Entry}
use Rattle.dx_step.specs.Step.{words_at}
use Rattle.dx_step.specs.Examples.{two_faults, fresh, after_first, report_at}
use Rattle.dx_observed.specs.Reported.{reported_at, reported_along}

abbrev first_report : Entry
first_report = report_at (codes "ereport.cpu.ue") 10

abbrev second_report : Entry
second_report = report_at (codes "ereport.cpu.wd") 12

-- each of two reports is reported at its entry; the word that is said at the second has observed
-- both; a report of another class is none
pub record SmallReports : Type 0 where
  pub numbers :
      map (λ x. x.number) (reported_along two_faults fresh 7 (first_report ∷ second_report ∷ []))
      ≡ 7 ∷ 8 ∷ []
  pub observed : map (λ w. w.observed) (words_at two_faults after_first 8 second_report)
      ≡ map (λ x. x.name)
      (reported_along two_faults fresh 7 (first_report ∷ second_report ∷ [])) ∷ []
  pub other : reported_at two_faults fresh 7 (report_at (codes "ereport.cpu.fan") 10) ≡ []
