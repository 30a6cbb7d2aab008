-- The fault log, read through and held against what the modules say.
use Rattle.std.proofs.Common.{◌≡◌, ℕ, Bool, true, false, List, [], ◌∷◌, ◌++◌, subst}
use Rattle.std.specs.Prelude.{IfOk, Result, Ok, Err}
use Rattle.fm_core.specs.Book.{Book}
use Rattle.fm_core.specs.declared.module.Module.{Ghosts as ModuleGhosts}
use Rattle.fm_entry.specs.declared.entry.Entry.{Entry}
use Rattle.fm_entry.specs.declared.spoken.Spoken.{Spoken}
use Rattle.fm_logs.specs.ReadsAsBook.{SpellsSpoken}
use Rattle.fm_payloads.specs.Reading.{StopsAtPayload}
use Rattle.fm_payloads.specs.Spelling.{SpellsNothing}
use Rattle.fm_retrace.specs.Retracing.{IsBookOf, HaveRetraced, SayRecords}
use Rattle.fm_retrace.specs.declared.retraced.Retraced.{Retraced}
use Rattle.fm_looks.specs.FaultLog.{BeginsAt, RefusesRecord, TookRecords}
use Rattle.fm_looks.specs.Opening.{FirstBad, Good}
use Rattle.fm_logs.proofs.Logged.{each_push}
use Rattle.fm_logs.proofs.SpelledOnce.{spoken_once}
use Rattle.fm_looks.proofs.Spelled.{first_bad, none_fits}

module _ {M : Type 0} (m : ModuleGhosts M) (base : ℕ) (entries : List Entry) where
  -- nothing was taken yet
  pub none_taken : (start : List (Retraced M)) → TookRecords m base entries start start []
  none_taken start = λ k begins. ([], tt, begins.nothing, begins.at_base)

  module _ (old new : List (Retraced M)) (payload : List ℕ) (next : Spoken)
      (spells : SpellsSpoken payload next) where
    -- the payload is a record that its module says next
    pub record_taken : ((k : Book) (records : List Spoken) → IsBookOf base entries k
        → SayRecords k records → HaveRetraced m k records old
        → SayRecords k (records ++ next ∷ []) × HaveRetraced m k (records ++ next ∷ []) new)
        → (start : List (Retraced M)) (payloads : List (List ℕ))
        → TookRecords m base entries start old payloads
        → TookRecords m base entries start new (payloads ++ payload ∷ [])
    record_taken says start payloads took = λ k begins.
        let before = took k begins in
        let after = says k before.0 begins.book_of before.2 before.3 in (
          before.0 ++ next ∷ [],
          each_push SpellsSpoken payloads before.0 payload next before.1 spells,
          after.0,
          after.1,
        )

    -- it is one that its module does not say next
    pub record_refused : ((k : Book) (records : List Spoken) → IsBookOf base entries k
        → SayRecords k records → HaveRetraced m k records old
        → SayRecords k (records ++ next ∷ []) → ⊥)
        → RefusesRecord m base entries old payload
    record_refused unsaid = λ k payloads records has spelled say come.
        none_fits SpellsSpoken spoken_once (SayRecords k) payloads payload records spelled
        (λ x is fit. unsaid k records has say come
        (subst (λ (y : Spoken). SayRecords k (records ++ y ∷ []))
        (spoken_once payload x next is spells) fit))

    -- the same by what was answered
    pub says_taken : {E : Type 0} (r : Result Bool E)
        → IfOk r (λ says. says ≡ true → (k : Book) (records : List Spoken) → IsBookOf base entries k
        → SayRecords k records → HaveRetraced m k records old
        → SayRecords k (records ++ next ∷ []) × HaveRetraced m k (records ++ next ∷ []) new)
        → IfOk r (λ says. says ≡ true → (start : List (Retraced M)) (payloads : List (List ℕ))
        → TookRecords m base entries start old payloads
        → TookRecords m base entries start new (payloads ++ payload ∷ []))
    says_taken (Ok says) said = λ is. record_taken (said is)
    says_taken (Err fault) said = said

    pub says_refused : {E : Type 0} (r : Result Bool E)
        → IfOk r (λ says. says ≡ false → (k : Book) (records : List Spoken)
        → IsBookOf base entries k → SayRecords k records → HaveRetraced m k records old
        → SayRecords k (records ++ next ∷ []) → ⊥)
        → IfOk r (λ says. says ≡ false → RefusesRecord m base entries old payload)
    says_refused (Ok says) unsaid = λ is. record_refused (unsaid is)
    says_refused (Err fault) unsaid = unsaid

  -- it is no record
  pub nothing_refused : (old : List (Retraced M)) (payload : List ℕ)
      → SpellsNothing SpellsSpoken payload → RefusesRecord m base entries old payload
  nothing_refused old payload none = λ k payloads records has spelled say come.
      none_fits SpellsSpoken spoken_once (SayRecords k) payloads payload records spelled
      (λ x is fit. none x is)

  -- the payload that was refused is the first that is no record which the modules say
  pub log_stopped : (start modules : List (Retraced M)) (payloads : List (List ℕ)) (place : ℕ)
      → StopsAtPayload (TookRecords m base entries start) (RefusesRecord m base entries) payloads
      modules place
      → (k : Book) → BeginsAt m base entries start k
      → FirstBad (Good SpellsSpoken (SayRecords k)) payloads place
  log_stopped start modules payloads place stops k begins =
      let before = stops.so_far k begins in
      first_bad (Good SpellsSpoken (SayRecords k)) payloads stops.count stops.payload place
      stops.there stops.place_is (before.0, before.1, before.2)
      (λ good. stops.refused k _ before.0 begins.book_of before.1 before.2 before.3 good)
