-- What logs keep reads as a book, now and at each moment of a call.
use Rattle.std.proofs.Common.{◌≡◌, inl, inr, ℕ, ◌+◌, ◌-◌, List, [], ◌∷◌, ◌++◌, length, drop}
use Rattle.std.proofs.Common.{Bool, true, false, Option, refl, sym, ◌∙◌, ap, subst, arith}
use Rattle.std.proofs.Common.{append_assoc, length-append}
use Rattle.std.specs.Prelude.{slice_set}
use Rattle.std.proofs.lemmas.List.{drop_at}
use Rattle.fm_core.specs.Book.{Book, ModuleState, IsLawful}
use Rattle.fm_core.proofs.Runs.{lawful_floored, lawful_worked}
use Rattle.fm_entry.specs.declared.entry.Entry.{Entry}
use Rattle.fm_entry.specs.declared.spoken.Spoken.{Spoken}
use Rattle.fm_outer.specs.declared.disk.Disk.{Ghosts}
use Rattle.fm_outer.proofs.Moments.{leaves-weaker}
use Rattle.fm_logs.specs.Contents.{Contents}
use Rattle.fm_logs.specs.LogsBook.{LogsStandFor, ReadsBeside, BookIsLeft}
use Rattle.fm_logs.specs.LogsBook.{AcceptMoments, CommitMoments, IsStepOf, store_worked}
use Rattle.fm_logs.specs.LogsOf.{LogsOf, LogsKeep, IsLogWith, TakesEntry, AcceptLeaves, Commits}
use Rattle.fm_logs.specs.LogsOf.{CommitLeaves}
use Rattle.fm_logs.specs.ReadsAsBook.{IsLog, SpellsEntry, SpellsSpoken, SaysBook}
use Rattle.fm_logs.specs.StoreBook.{StoreBook, IsLawfulStore, with_book, store_accepted}
use Rattle.fm_logs.specs.StoreBook.{store_floored}

-- a lawful book stays lawful with each module at its floor
pub floors_lawful : (k : StoreBook) → IsLawfulStore k → IsLawfulStore (store_floored k)
floors_lawful k lawful = record {
  some_confs = lawful.some_confs;
  few_confs = lawful.few_confs;
  confs_are = lawful.confs_are;
  known = lawful.known;
  of_conf = lawful.of_conf;
  reloads = lawful.reloads;
  lawful = lawful_floored k.book lawful.lawful;
}

-- the entries behind the older ones
behind : (first : ℕ) (older es : List Entry) (base : ℕ) → first + length older ≡ base
    → es ≡ drop (base - first) (older ++ es)
behind first older es base begins =
    sym (drop_at older es (base - first) (omega (arith, begins)))

-- the active journal and the fault log, read beside what the others say
pub beside : (fresh : List ModuleState) (c : Contents) (second : Bool) (k : StoreBook)
    (first flt_first : ℕ) (older : List Entry) (active flt : List ℕ) → SaysBook fresh c second k
    → IsLawfulStore k → first + length older ≡ k.book.base
    → IsLog SpellsEntry active first (older ++ k.book.entries)
    → IsLog SpellsSpoken flt flt_first k.book.records → ReadsBeside fresh c second k active flt
beside fresh c true k first flt_first older active flt says lawful begins log records = record {
  second = true;
  says = record {
    conf_first = says.conf_first;
    confs = says.confs;
    found = says.found;
    in_force = says.in_force;
    checkpoint = says.checkpoint;
    says = says.says;
    second_is = says.second_is;
    base_is = says.base_is;
    moment_is = says.moment_is;
    force_is = says.force_is;
  };
  first = first;
  entries = older ++ k.book.entries;
  active = log;
  begins = omega (arith, begins);
  reaches = omega (arith, begins, length-append older k.book.entries);
  entries_are = behind first older k.book.entries k.book.base begins;
  flt_first = flt_first;
  records = records;
  at_floors = refl;
  lawful = floors_lawful k lawful;
}
beside fresh c false k first flt_first older active flt says lawful begins log records = record {
  second = false;
  says = record {
    conf_first = says.conf_first;
    confs = says.confs;
    found = says.found;
    in_force = says.in_force;
    checkpoint = says.checkpoint;
    says = says.says;
    second_is = says.second_is;
    base_is = says.base_is;
    moment_is = says.moment_is;
    force_is = says.force_is;
  };
  first = first;
  entries = older ++ k.book.entries;
  active = log;
  begins = omega (arith, begins);
  reaches = omega (arith, begins, length-append older k.book.entries);
  entries_are = behind first older k.book.entries k.book.base begins;
  flt_first = flt_first;
  records = records;
  at_floors = refl;
  lawful = floors_lawful k lawful;
}

-- an entry more, and a module worked on, change nothing of what the other disks say
says_accepted : (fresh : List ModuleState) (c : Contents) (second : Bool) (k : StoreBook)
    (e : Entry) → SaysBook fresh c second k → SaysBook fresh c second (store_accepted k e)
says_accepted fresh c second k e says = record {
  conf_first = says.conf_first;
  confs = says.confs;
  found = says.found;
  in_force = says.in_force;
  checkpoint = says.checkpoint;
  says = says.says;
  second_is = says.second_is;
  base_is = says.base_is;
  moment_is = says.moment_is;
  force_is = says.force_is;
}

says_stepped : (fresh : List ModuleState) (c : Contents) (second : Bool) (k : StoreBook)
    (cursors : List ℕ) (records : List Spoken) → SaysBook fresh c second k
    → SaysBook fresh c second
    (with_book k (record k.book { cursors = cursors; records = records }))
says_stepped fresh c second k cursors records says = record {
  conf_first = says.conf_first;
  confs = says.confs;
  found = says.found;
  in_force = says.in_force;
  checkpoint = says.checkpoint;
  says = says.says;
  second_is = says.second_is;
  base_is = says.base_is;
  moment_is = says.moment_is;
  force_is = says.force_is;
}

lawful_stepped : (k : StoreBook) (cursors : List ℕ) (records : List Spoken) → IsLawfulStore k
    → IsLawful (record k.book { cursors = cursors; records = records })
    → IsLawfulStore (with_book k (record k.book { cursors = cursors; records = records }))
lawful_stepped k cursors records lawful stepped = record {
  some_confs = lawful.some_confs;
  few_confs = lawful.few_confs;
  confs_are = lawful.confs_are;
  known = lawful.known;
  of_conf = lawful.of_conf;
  reloads = lawful.reloads;
  lawful = stepped;
}

module _ {D : Type 0} (g : Ghosts D) where
  -- the images of an open journal, as logs
  entries_log : (logs : LogsOf D) (older : List Entry) (records : List Spoken)
      → LogsKeep g logs older records → (active : List ℕ) → g.images logs.active.disk active
      → IsLog SpellsEntry active logs.active.first (older ++ logs.entries)
  entries_log logs older records keep active left = record {
    payloads = keep.entry_payloads;
    journal = keep.entries_keep.left active left;
    spelled = keep.entries_spelled;
  }

  records_log : (logs : LogsOf D) (older : List Entry) (records : List Spoken)
      → LogsKeep g logs older records → (flt : List ℕ) → g.images logs.flt.disk flt
      → IsLog SpellsSpoken flt logs.flt.first records
  records_log logs older records keep flt left = record {
    payloads = keep.record_payloads;
    journal = keep.records_keep.left flt left;
    spelled = keep.records_spelled;
  }

  -- the same of logs that stand for a book
  book_log : (logs : LogsOf D) (fresh : List ModuleState) (c : Contents) (k : StoreBook)
      → (st : LogsStandFor g logs fresh c k) → (active : List ℕ)
      → g.images logs.active.disk active
      → IsLog SpellsEntry active logs.active.first (st.older ++ k.book.entries)
  book_log logs fresh c k st active left =
      subst (λ (es : List Entry). IsLog SpellsEntry active logs.active.first (st.older ++ es))
      st.entries_are (entries_log logs st.older k.book.records st.keep active left)

  pub reads_now : (logs : LogsOf D) (fresh : List ModuleState) (c : Contents) (k : StoreBook)
      → LogsStandFor g logs fresh c k → BookIsLeft g logs fresh c k
  reads_now logs fresh c k st active flt active_left flt_left =
      beside fresh c logs.second k logs.active.first logs.flt.first st.older active flt st.says
      st.lawful (st.keep.begins ∙ st.base_is) (book_log logs fresh c k st active active_left)
      (records_log logs st.older k.book.records st.keep flt flt_left)

  pub accepted_stands : (old new : LogsOf D) (fresh : List ModuleState) (c : Contents)
      (k : StoreBook) (e : Entry) (n : ℕ) → LogsStandFor g old fresh c k
      → IsLawfulStore (store_accepted k e) → TakesEntry g old new e n
      → LogsStandFor g new fresh c (store_accepted k e)
  accepted_stands old new fresh c k e n st lawful takes = record {
    older = st.older;
    keep = takes.keeps st.older k.book.records st.keep;
    base_is = ap (λ (l : LogsOf D). l.base) takes.logs_are ∙ st.base_is;
    entries_are = ap (λ (l : LogsOf D). l.entries) takes.logs_are
        ∙ ap (λ (es : List Entry). es ++ e ∷ []) st.entries_are;
    cursors_are = ap (λ (l : LogsOf D). l.cursors) takes.logs_are ∙ st.cursors_are;
    says = subst (λ (second : Bool). SaysBook fresh c second (store_accepted k e))
        (sym (ap (λ (l : LogsOf D). l.second) takes.logs_are))
        (says_accepted fresh c old.second k e st.says);
    lawful = lawful;
  }

  pub accept_moments : (old new : LogsOf D) (fresh : List ModuleState) (c : Contents)
      (k : StoreBook) (e : Entry) → LogsStandFor g old fresh c k
      → IsLawfulStore (store_accepted k e) → AcceptLeaves g old new e
      → AcceptMoments g old new fresh c k (store_accepted k e)
  accept_moments old new fresh c k e st lawful leaves =
      leaves-weaker g old.active.disk new.active.disk
      (IsLogWith SpellsEntry old.active.first (st.older ++ old.entries) (e ∷ [])) _
      (leaves st.older k.book.records st.keep)
      (λ active either flt left. elim either [
        | inl before ↦ inl (beside fresh c old.second k old.active.first old.flt.first st.older
            active flt st.says st.lawful (st.keep.begins ∙ st.base_is)
            (subst (λ (es : List Entry).
            IsLog SpellsEntry active old.active.first (st.older ++ es)) st.entries_are before)
            (records_log old st.older k.book.records st.keep flt left))
        | inr after ↦ inr (beside fresh c old.second (store_accepted k e) old.active.first
            old.flt.first st.older active flt (says_accepted fresh c old.second k e st.says) lawful
            (st.keep.begins ∙ st.base_is)
            (subst (λ (es : List Entry). IsLog SpellsEntry active old.active.first es)
            (append_assoc st.older old.entries (e ∷ [])
            ∙ ap (λ (es : List Entry). st.older ++ (es ++ e ∷ [])) st.entries_are) after)
            (records_log old st.older k.book.records st.keep flt left))
      ])

  lawful_step : (k : StoreBook) (i n : ℕ) (frame : Option (List ℕ)) → IsLawfulStore k
      → (step : IsStepOf k.book i n frame) → IsLawfulStore (with_book k (record k.book {
        cursors = slice_set k.book.cursors i (n + 1);
        records = k.book.records ++ step.said;
      }))
  lawful_step k i n frame lawful step =
      lawful_stepped k (slice_set k.book.cursors i (n + 1)) (k.book.records ++ step.said) lawful
      (subst IsLawful step.worked_is (lawful_worked k.book i lawful.lawful))

  pub worked_stands : (old new : LogsOf D) (fresh : List ModuleState) (c : Contents)
      (k : StoreBook) (i n : ℕ) (frame : Option (List ℕ)) → LogsStandFor g old fresh c k
      → IsStepOf k.book i n frame → Commits g old new i n frame
      → LogsStandFor g new fresh c (store_worked k i)
  worked_stands old new fresh c k i n frame st step commits =
      subst (λ (b : Book). LogsStandFor g new fresh c (with_book k b)) (sym step.worked_is)
      (record {
        older = st.older;
        keep = commits.keeps st.older k.book.records step.said step.spells st.keep;
        base_is = ap (λ (l : LogsOf D). l.base) commits.logs_are ∙ st.base_is;
        entries_are = ap (λ (l : LogsOf D). l.entries) commits.logs_are ∙ st.entries_are;
        cursors_are = ap (λ (l : LogsOf D). l.cursors) commits.logs_are
            ∙ ap (λ (cs : List ℕ). slice_set cs i (n + 1)) st.cursors_are;
        says = subst (λ (second : Bool). SaysBook fresh c second (with_book k (stepped_book k)))
            (sym (ap (λ (l : LogsOf D). l.second) commits.logs_are))
            (says_stepped fresh c old.second k (slice_set k.book.cursors i (n + 1))
            (k.book.records ++ step.said) st.says);
        lawful = lawful_step k i n frame st.lawful step;
      })
    where
      stepped_book : StoreBook → Book
      stepped_book k = record k.book {
        cursors = slice_set k.book.cursors i (n + 1);
        records = k.book.records ++ step.said;
      }

  pub commit_moments : (old new : LogsOf D) (fresh : List ModuleState) (c : Contents)
      (k : StoreBook) (i n : ℕ) (frame : Option (List ℕ)) → LogsStandFor g old fresh c k
      → IsStepOf k.book i n frame → CommitLeaves g old new frame
      → CommitMoments g old new fresh c k (store_worked k i)
  commit_moments old new fresh c k i n frame st step leaves =
      leaves-weaker g old.flt.disk new.flt.disk
      (IsLogWith SpellsSpoken old.flt.first k.book.records step.said) _
      (leaves st.older k.book.records step.said step.spells st.keep)
      (λ flt either active left. elim either [
        | inl before ↦ inl (beside fresh c old.second k old.active.first old.flt.first st.older
            active flt st.says st.lawful (st.keep.begins ∙ st.base_is)
            (book_log old fresh c k st active left) before)
        | inr after ↦ inr (
            subst (λ (b : Book). ReadsBeside fresh c old.second (with_book k b) active flt)
            (sym step.worked_is)
            (beside fresh c old.second (with_book k (record k.book {
              cursors = slice_set k.book.cursors i (n + 1);
              records = k.book.records ++ step.said;
            })) old.active.first old.flt.first st.older active flt
            (says_stepped fresh c old.second k (slice_set k.book.cursors i (n + 1))
            (k.book.records ++ step.said) st.says)
            (lawful_step k i n frame st.lawful step) (st.keep.begins ∙ st.base_is)
            (book_log old fresh c k st active left) after))
      ])
