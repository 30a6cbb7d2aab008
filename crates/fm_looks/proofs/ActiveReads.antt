-- The active error journal, read through: its entries from the base on, or the first payload that
-- doesn't fit.
use Rattle.std.proofs.Common.{◌≡◌, ◌≢◌, inl, inr, ℕ, ◌+◌, ◌-◌, ◌≤◌, List, []}
use Rattle.std.proofs.Common.{length, take, drop, Option, Some, None, sym, ◌∙◌, ap, subst, arith}
use Rattle.std.proofs.Common.{length-drop}
use Rattle.std.proofs.Math.ListN.{drop_of_length-le}
use Rattle.fm_outer.specs.Moments.{OnlyRead}
use Rattle.fm_outer.specs.declared.disk.Disk.{Ghosts}
use Rattle.fm_entry.specs.declared.entry.Entry.{Entry}
use Rattle.fm_journal.specs.JournalOf.{JournalOf}
use Rattle.fm_journal.specs.Keeps.{Keeps}
use Rattle.fm_logs.specs.ReadsAsBook.{SpellsEntry}
use Rattle.fm_logs.specs.StoreBook.{ReloadsRise}
use Rattle.fm_saved.specs.declared.checkpoint.Checkpoint.{Checkpoint}
use Rattle.fm_payloads.specs.Reading.{ReadsUpTo}
use Rattle.fm_looks.specs.Entries.{EntryReaderOf, EntriesKept, HasEntries, RefusesEntry, reader_of}
use Rattle.fm_looks.specs.Entries.{IsSameStart}
use Rattle.fm_looks.specs.Looks.{LookCause}
use Rattle.fm_looks.specs.Opening.{ActiveDamage, EntriesDamage, FitEntries, Good, LogDamage}
use Rattle.fm_looks.specs.declared.look.LookFault.{LookFault}
use Rattle.fm_looks.specs.declared.look.LookFault.TheVariants.{Disk, Damaged, NoMemory}
use Rattle.fm_looks.proofs.Looks.{content_is, keeps_still}
use Rattle.fm_looks.proofs.Spelled.{each_counted, first_bad}

-- damage of the active journal as a whole is damage of its entries
active_damaged : (known : ℕ) (checkpoint : Checkpoint) (c : List ℕ) (place : ℕ)
    → LogDamage (ActiveDamage checkpoint.base) c place
    → LogDamage (EntriesDamage known checkpoint) c place
active_damaged known checkpoint c place (inl none) = inl none
active_damaged known checkpoint c place (inr found) =
    inr (found.0, found.1, found.2, inl found.3)

pub active_refused : {D : Type 0} (g : Ghosts D) (known : ℕ) (checkpoint : Checkpoint)
    (old new : D) (fault : LookFault)
    → LookCause g (LogDamage (ActiveDamage checkpoint.base)) old new fault
    → LookCause g (LogDamage (EntriesDamage known checkpoint)) old new fault
active_refused g known checkpoint old new Disk cause = cause
active_refused g known checkpoint old new (Damaged place) cause = λ c told.
    active_damaged known checkpoint c place (cause c told)
active_refused g known checkpoint old new NoMemory cause = tt

-- nothing was taken at the start
started : (known conf older : ℕ) → HasEntries (reader_of known conf older older conf []) []
started known conf older =
    let none : drop older (let es : List Entry = [] in es) ≡ [] =
    drop_of_length-le [] (omega arith) in
    record {
      all = [];
      spelled = tt;
      fit = subst (ReloadsRise known conf) (sym none) tt;
      left_is = omega arith;
      entries_are = sym none;
    }

-- the reader as it begins
pub began : (known : ℕ) (checkpoint : Checkpoint) (n first : ℕ) (items : List Entry) → n ≡ first
    → items ≡ []
    → reader_of known checkpoint.conf (checkpoint.base - n) (checkpoint.base - n) checkpoint.conf
    items
    ≡ reader_of known checkpoint.conf (checkpoint.base - first) (checkpoint.base - first)
    checkpoint.conf []
began known checkpoint n first items is none =
    ap (λ (m : ℕ). reader_of known checkpoint.conf (checkpoint.base - m) (checkpoint.base - m)
    checkpoint.conf items) is
    ∙ ap (reader_of known checkpoint.conf (checkpoint.base - first) (checkpoint.base - first)
    checkpoint.conf) none

module _ {D : Type 0} (g : Ghosts D) (seen : Option (List ℕ)) (old new : JournalOf D)
    (known : ℕ) (checkpoint : Checkpoint) (start end : EntryReaderOf) (stop : Option ℕ)
    (begins : old.first ≤ checkpoint.base) (reaches : checkpoint.base ≤ old.first + old.count)
    (begun : start ≡ reader_of known checkpoint.conf (checkpoint.base - old.first)
    (checkpoint.base - old.first) checkpoint.conf [])
    (found : (c : List ℕ) → seen ≡ Some c → (payloads : List (List ℕ)) × Keeps g old payloads)
    (told_same : g.seen old.disk ≡ seen) (same : new ≡ record old { disk = new.disk })
    (still : OnlyRead g old.disk new.disk) (rule : IsSameStart start end)
    (read : (payloads : List (List ℕ)) → Keeps g old payloads → HasEntries start []
    → ReadsUpTo HasEntries RefusesEntry payloads end stop) where
  older : ℕ
  older = checkpoint.base - old.first

  start_took : HasEntries start []
  start_took = subst (λ (r : EntryReaderOf). HasEntries r []) (sym begun)
      (started known checkpoint.conf (checkpoint.base - old.first))

  known_is : end.known ≡ known
  known_is = rule.known ∙ ap (λ (r : EntryReaderOf). r.known) begun

  base_is : end.at_base ≡ checkpoint.conf
  base_is = rule.at_base ∙ ap (λ (r : EntryReaderOf). r.at_base) begun

  older_is : end.older ≡ checkpoint.base - old.first
  older_is = rule.older ∙ ap (λ (r : EntryReaderOf). r.older) begun

  -- what fits by the reader fits by the checkpoint
  fits : (es : List Entry) → FitEntries end.known end.at_base end.older es
      → FitEntries known checkpoint.conf (checkpoint.base - old.first) es
  fits es fit =
      subst (λ (n : ℕ). FitEntries n checkpoint.conf (checkpoint.base - old.first) es) known_is
      (subst (λ (n : ℕ). FitEntries end.known n (checkpoint.base - old.first) es) base_is
      (subst (λ (n : ℕ). FitEntries end.known end.at_base n es) older_is fit))

  fits_back : (es : List Entry)
      → FitEntries known checkpoint.conf (checkpoint.base - old.first) es
      → FitEntries end.known end.at_base end.older es
  fits_back es fit =
      subst (λ (n : ℕ). FitEntries n end.at_base end.older es) (sym known_is)
      (subst (λ (n : ℕ). FitEntries known n end.older es) (sym base_is)
      (subst (λ (n : ℕ). FitEntries known checkpoint.conf n es) (sym older_is) fit))

  -- all payloads are entries that fit
  pub entries_kept : stop ≡ None → (c : List ℕ) → seen ≡ Some c
      → EntriesKept g c known checkpoint new end.entries
  entries_kept none c told =
      let k = found c told in
      let took : HasEntries end k.0 =
      subst (ReadsUpTo HasEntries RefusesEntry k.0 end) none (read k.0 k.1 start_took) in
      let keeps = keeps_still g old new k.0 same still k.1 in
      let first : new.first ≡ old.first = ap (λ (j : JournalOf D). j.first) same in
      let counted = each_counted SpellsEntry k.0 took.all took.spelled in
      record {
        payloads = k.0;
        keeps = keeps;
        is = content_is g new k.0 seen c (still.same ∙ told_same) told keeps;
        all = took.all;
        spelled = took.spelled;
        begins = omega (arith, first, begins);
        reaches = omega (arith, first, reaches, counted, k.1.counted);
        fit = subst (λ (n : ℕ). FitEntries known checkpoint.conf (checkpoint.base - n) took.all)
            (sym first) (fits took.all took.fit);
        entries_are = took.entries_are
            ∙ ap (λ (n : ℕ). drop n took.all) older_is
            ∙ ap (λ (n : ℕ). drop (checkpoint.base - n) took.all) (sym first);
      }

  -- they are as many as the journal has from the base on
  pub entries_counted : stop ≡ None → (c : List ℕ) → seen ≡ Some c
      → (old.first + old.count ≢ checkpoint.base + length end.entries) → ⊥
  entries_counted none c told other =
      let k = found c told in
      let took : HasEntries end k.0 =
      subst (ReadsUpTo HasEntries RefusesEntry k.0 end) none (read k.0 k.1 start_took) in
      let counted = each_counted SpellsEntry k.0 took.all took.spelled in
      let long : length end.entries ≡ length took.all - (checkpoint.base - old.first) =
      ap (λ (l : List Entry). length l)
      (took.entries_are ∙ ap (λ (n : ℕ). drop n took.all) older_is)
      ∙ length-drop (checkpoint.base - old.first) took.all in
      other (omega (arith, begins, reaches, counted, long, k.1.counted))

  -- or one is the first that doesn't fit
  pub entries_stopped : (place : ℕ) → stop ≡ Some place → (c : List ℕ) → seen ≡ Some c
      → LogDamage (EntriesDamage known checkpoint) c place
  entries_stopped place is c told =
      let k = found c told in
      let at = subst (ReadsUpTo HasEntries RefusesEntry k.0 end) is (read k.0 k.1 start_took) in
      inr (
        old.first,
        k.0,
        content_is g old k.0 seen c told_same told k.1,
        inr (
          begins,
          omega (arith, reaches, k.1.counted),
          first_bad (Good SpellsEntry (FitEntries known checkpoint.conf
              (checkpoint.base - old.first))) k.0 at.count at.payload place at.there at.place_is
              (at.so_far.all, at.so_far.spelled, fits at.so_far.all at.so_far.fit)
              (λ good. at.refused (take at.count k.0) at.so_far
              (good.0, good.1, fits_back good.0 good.2)),
        ),
      )
