-- From a store that was drained and rotated to the command that tells its base.
use Rattle.std.proofs.Common.{◌≡◌, ◌∙◌, ℕ, ◌+◌, ◌++◌, Bool, List, [], ◌∷◌, length, None, Result}
use Rattle.std.proofs.Common.{Ok, Err, refl, sym, ap, subst, arith}
use Rattle.std.specs.Global.{Vec}
use Rattle.dx_engine.specs.Diagnosers.{DiagnoserOf, diagnosers}
use Rattle.fm_admin.specs.Rotation.{IsRotated, RotatesDrained, RotationRefused, StandsRotated}
use Rattle.fm_command.specs.declared.words.AdminCommand.TheVariants.{Rotate}
use Rattle.fm_conclude.specs.Concluding.{NoDiskFailed}
use Rattle.fm_core.specs.Book.{ModuleState, next_number}
use Rattle.fm_core.specs.Hands.{HandOf}
use Rattle.fm_drain.specs.DrainCalls.{AllFollow}
use Rattle.fm_entry.specs.declared.entry.Entry.{Entry}
use Rattle.fm_journal.specs.JournalOf.{JournalOf}
use Rattle.fm_logs.specs.Contents.{Contents, active_of_two}
use Rattle.fm_logs.specs.ReadsAsBook.{IsLog, SaysBook, SpellsEntry}
use Rattle.fm_logs.specs.StoreBook.{StoreBook, store_floored}
use Rattle.fm_logs.specs.declared.disks.DiskName.TheVariants.{Conf as ConfDisk, ErrA, ErrB, SlotA}
use Rattle.fm_logs.specs.declared.disks.DiskName.TheVariants.{SlotB}
use Rattle.fm_logs.specs.declared.fault.StoreFault.{StoreFault}
use Rattle.fm_logs.specs.declared.fault.StoreFault.TheVariants as store
use Rattle.fm_outer.specs.declared.disk.Disk.{Ghosts}
use Rattle.fm_saved.specs.declared.conf.Conf.{Conf}
use Rattle.fm_store.specs.StoreLeft.{EachLeft}
use Rattle.fm_store.specs.StoreOf.{StoreOf, StoreStandsFor}
use Rattle.fm_store.proofs.StoreReads.{entries_left, left_active, says_left}
use Rattle.fm_top.specs.Admin.{AdminDone, AdminRefused, ReadsRotated, rotated_text}
use Rattle.fm_top.proofs.Fmds.{floored_based, reads_floored}

none_of : {X : Type 0} (xs : List X) → length xs ≡ 0 → xs ≡ []
none_of [] e = refl
none_of (x ∷ xs) e = absurd (omega (arith, e))

-- what is said of a book is said of it with each module at its floor
says_floored : (fresh : List ModuleState) (c : Contents) (second : Bool) (k : StoreBook)
    → SaysBook fresh c second k → SaysBook fresh c second (store_floored k)
says_floored fresh c second k says = record {
  conf_first = says.conf_first;
  confs = says.confs;
  found = says.found;
  in_force = says.in_force;
  checkpoint = says.checkpoint;
  says = says.says;
  second_is = says.second_is;
  base_is = says.base_is;
  moment_is = says.moment_is;
  force_is = says.force_is;
}

module _ {D : Type 0} (g : Ghosts D) (old new : StoreOf D DiagnoserOf)
    (hands : List (HandOf DiagnoserOf)) (conf : Conf) (open_before : old.logs.closed ≡ None) where
  -- the new base is the number of the next entry of the book
  base_number : (fresh : List ModuleState) (k : StoreBook) (base : ℕ)
      → StoreStandsFor g fresh old k → IsRotated old new base → base ≡ next_number k.book
  base_number fresh k base stands is =
      is.number_is ∙ (λ i. stands.base_is i + length (stands.entries_are i))

  -- each image has an active error journal that begins at the new base, without payloads
  left_rotated : (fresh : List ModuleState) (k : StoreBook) (base : ℕ)
      → StoreStandsFor g fresh old k → IsRotated old new base → StandsRotated g fresh new k
      → EachLeft g new (ReadsRotated fresh k)
  left_rotated fresh k base before is done c left =
      let based : StoreBook = done.based in
      let st : StoreStandsFor g fresh new based = done.stands in
      let active = active_of_two new.logs.second c in
      let first : new.logs.active.first ≡ base =
      ap (λ (j : JournalOf D). j.first) is.journal_is in
      let older : st.older ≡ [] = none_of st.older
      (omega (arith, st.keep.begins, first, is.base_is)) in
      let entries : based.book.entries ≡ [] = sym st.entries_are ∙ is.none_left in
      let log : IsLog SpellsEntry active new.logs.active.first (st.older ++ based.book.entries) =
      entries_left g fresh new based active st (left_active g new c (left ErrA) (left ErrB)) in
      record {
        read = store_floored based;
        reads = reads_floored g fresh new based st c left;
        based_is = floored_based k based done.based_is;
        second = new.logs.second;
        says = says_floored fresh c new.logs.second based
            (says_left g fresh new based c st (left ConfDisk) (left SlotA) (left SlotB));
        blank = subst (λ n. IsLog SpellsEntry active n [])
            (first ∙ base_number fresh k base before is)
            (subst (λ (xs : List Entry). IsLog SpellsEntry active new.logs.active.first xs)
            entries
            (subst (λ (xs : List Entry). IsLog SpellsEntry active new.logs.active.first
            (xs ++ based.book.entries)) older log));
      }

  -- ---- by the answer

  refused_why : (fault : StoreFault) → RotationRefused g diagnosers old new hands fault
      → AdminRefused g old new fault
  refused_why store.Disk why = why.1
  refused_why (store.Closed name failures) why = why.1
  refused_why (store.Full kind) why = tt
  refused_why store.NoMemory why = tt
  refused_why (store.Damaged name place) why = absurd why
  refused_why store.Exists why = absurd why

  abbrev pub OnBook : Result ℕ StoreFault → Type 0
  OnBook result = (fresh : List ModuleState) (k : StoreBook) → StoreStandsFor g fresh old k
      → AllFollow diagnosers k.book hands → RotatesDrained g fresh old new k result

  -- the base was told
  pub rotate_told : (base : ℕ) → IsRotated old new base → NoDiskFailed g old new
      → OnBook (Ok base) → (text : Vec ℕ) → text.items ≡ rotated_text base
      → AdminDone g Rotate old new hands conf (Ok text)
  rotate_told base is quiet book text text_is = record {
    was_open = open_before;
    quiet = quiet;
    refused = tt;
    book = λ fresh k stands follow. let did = book fresh k stands follow in record {
      text_is = text_is ∙ ap rotated_text (base_number fresh k base stands is);
      after = left_rotated fresh k base stands is did.done;
      undamaged = tt;
      limit = tt;
      left = did.left;
    };
  }

  -- memory was wanted for the text
  pub rotate_untold : (base : ℕ) → OnBook (Ok base)
      → AdminDone g Rotate old new hands conf (Err store.NoMemory)
  rotate_untold base book = record {
    was_open = open_before;
    quiet = tt;
    refused = tt;
    book = λ fresh k stands follow. let did = book fresh k stands follow in
        record { text_is = tt; after = tt; undamaged = tt; limit = tt; left = did.left };
  }

  -- no rotation was made
  pub rotate_refused : (fault : StoreFault) → RotationRefused g diagnosers old new hands fault
      → OnBook (Err fault) → AdminDone g Rotate old new hands conf (Err fault)
  rotate_refused fault why book = record {
    was_open = open_before;
    quiet = tt;
    refused = refused_why fault why;
    book = λ fresh k stands follow. let did = book fresh k stands follow in
        record {
          text_is = tt;
          after = tt;
          undamaged = did.undamaged;
          limit = did.limit;
          left = did.left;
        };
  }
