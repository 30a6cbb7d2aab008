-- A look at one log: what it keeps is the content of its disk, and a payload that was refused is
-- the first that doesn't fit.
use Rattle.std.proofs.Common.{◌≡◌, inl, inr, ℕ, List, [], ◌∷◌, length}
use Rattle.std.proofs.Common.{take, Option, Some, None, refl, sym, ◌∙◌, subst, arith}
use Rattle.fm_outer.specs.Failures.{Rose}
use Rattle.fm_outer.specs.Moments.{OnlyRead}
use Rattle.fm_outer.specs.declared.disk.Disk.{Ghosts}
use Rattle.fm_journal.specs.Format.{IsJournal}
use Rattle.fm_journal.specs.JournalOf.{JournalOf}
use Rattle.fm_journal.specs.Keeps.{Keeps}
use Rattle.fm_journal.proofs.Places.{keeps_read}
use Rattle.fm_journal.proofs.Opened.{two_tellings}
use Rattle.fm_payloads.specs.Spelling.{EachSpells}
use Rattle.fm_logs.specs.ReadsAsBook.{SpellsConf}
use Rattle.fm_saved.specs.declared.conf.Conf.{Conf}
use Rattle.fm_looks.specs.Looks.{ConfsKept, LookCause, TookConfs, RefusesConf, fault_seen}
use Rattle.fm_looks.specs.Opening.{Good, FitConfs, LogDamage, ConfsDamage}
use Rattle.fm_payloads.specs.Reading.{ReadsUpTo, ReadingCause}
use Rattle.fm_payloads.specs.declared.fault.ReadingFault.{ReadingFault}
use Rattle.fm_payloads.specs.declared.fault.ReadingFault.TheVariants.{Disk as DiskFailed, Changed}
use Rattle.fm_payloads.specs.declared.fault.ReadingFault.TheVariants.{NoMemory as WantsMemory}
use Rattle.fm_looks.specs.declared.confs.ConfReader.{ConfReader}
use Rattle.fm_looks.proofs.Spelled.{first_bad}

module _ {D : Type 0} (g : Ghosts D) where
  -- what a journal keeps is the content of its disk
  pub content_is : (journal : JournalOf D) (payloads : List (List ℕ)) (seen : Option (List ℕ))
      (c : List ℕ) → g.seen journal.disk ≡ seen → seen ≡ Some c → Keeps g journal payloads
      → IsJournal c journal.first payloads
  content_is journal payloads seen c same told keeps =
      subst (λ (bytes : List ℕ). IsJournal bytes journal.first payloads)
      (two_tellings seen keeps.told.0 c (sym same ∙ keeps.told.1) told) keeps.told.2

  -- a journal that was only read keeps what it kept
  pub keeps_still : (old new : JournalOf D) (payloads : List (List ℕ))
      → new ≡ record old { disk = new.disk } → OnlyRead g old.disk new.disk
      → Keeps g old payloads → Keeps g new payloads
  keeps_still old new payloads same still keeps =
      subst (λ (j : JournalOf D). Keeps g j payloads) (sym same)
      (keeps_read g old payloads keeps new.disk still)

  -- why a log that was opened was not read
  pub read_refused : (IsDamaged : List ℕ → ℕ → Type 0) (disk : D) (old new : JournalOf D)
      (fault : ReadingFault) → ((c : List ℕ) → g.seen disk ≡ Some c
      → (payloads : List (List ℕ)) × Keeps g old payloads)
      → g.failures old.disk ≡ g.failures disk → ReadingCause g old new fault
      → LookCause g IsDamaged disk new.disk (fault_seen fault)
  read_refused IsDamaged disk old new DiskFailed found kept cause =
      subst (λ (n : ℕ). Rose n (g.failures new.disk)) kept cause
  read_refused IsDamaged disk old new (Changed place) found kept cause = λ c told.
      absurd (cause (found c told).0 (found c told).1)
  read_refused IsDamaged disk old new WantsMemory found kept cause = tt

-- no configurations fit
none_fit : FitConfs []
none_fit = (λ first i conf head at. absurd (let no : ⊥ = cc in no), omega arith)

module _ {D : Type 0} (g : Ghosts D) (seen : Option (List ℕ)) (old new : JournalOf D)
    (start end : ConfReader) (stop : Option ℕ) (began : start.confs.items ≡ [])
    (found : (c : List ℕ) → seen ≡ Some c → (payloads : List (List ℕ)) × Keeps g old payloads)
    (told_same : g.seen old.disk ≡ seen) (same : new ≡ record old { disk = new.disk })
    (still : OnlyRead g old.disk new.disk)
    (read : (payloads : List (List ℕ)) → Keeps g old payloads → TookConfs start []
    → ReadsUpTo TookConfs RefusesConf payloads end stop) where
  start_took : TookConfs start []
  start_took =
      (subst (EachSpells SpellsConf []) (sym began) tt, subst FitConfs (sym began) none_fit)

  -- all payloads are configurations that fit
  pub confs_kept : stop ≡ None → (c : List ℕ) → seen ≡ Some c
      → ConfsKept g c new end.confs.items
  confs_kept none c told =
      let k = found c told in
      let took : TookConfs end k.0 =
      subst (ReadsUpTo TookConfs RefusesConf k.0 end) none (read k.0 k.1 start_took) in
      let keeps = keeps_still g old new k.0 same still k.1 in
      record {
        payloads = k.0;
        keeps = keeps;
        is = content_is g new k.0 seen c (still.same ∙ told_same) told keeps;
        spelled = took.0;
        fit = took.1;
      }

  -- or there is none
  pub confs_missed : stop ≡ None → length end.confs.items ≡ 0 → (c : List ℕ) → seen ≡ Some c
      → LogDamage ConfsDamage c 16
  confs_missed none empty c told =
      let k = found c told in
      let took : TookConfs end k.0 =
      subst (ReadsUpTo TookConfs RefusesConf k.0 end) none (read k.0 k.1 start_took) in
      inr (
        old.first,
        k.0,
        content_is g old k.0 seen c told_same told k.1,
        inl (no_payloads k.0 end.confs.items empty took.0, refl),
      )
    where
      no_payloads : (payloads : List (List ℕ)) (confs : List Conf) → length confs ≡ 0
          → EachSpells SpellsConf payloads confs → payloads ≡ []
      no_payloads [] confs none all = refl
      no_payloads (p ∷ payloads) [] none all = absurd all
      no_payloads (p ∷ payloads) (x ∷ confs) none all =
          absurd (let no : ⊥ = omega (arith, none) in no)

  -- or one is the first that doesn't fit
  pub confs_stopped : (place : ℕ) → stop ≡ Some place → (c : List ℕ) → seen ≡ Some c
      → LogDamage ConfsDamage c place
  confs_stopped place is c told =
      let k = found c told in
      let at = subst (ReadsUpTo TookConfs RefusesConf k.0 end) is (read k.0 k.1 start_took) in
      inr (
        old.first,
        k.0,
        content_is g old k.0 seen c told_same told k.1,
        inr (first_bad (Good SpellsConf FitConfs) k.0 at.count at.payload place at.there at.place_is
            (end.confs.items, at.so_far.0, at.so_far.1)
            (at.refused (take at.count k.0) at.so_far.0)),
      )
