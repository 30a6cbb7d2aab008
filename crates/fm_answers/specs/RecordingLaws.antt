-- Taking entries goes on.
use Rattle.std.proofs.Common.{◌≡◌, ◌+◌, List, [], ◌∷◌, ◌++◌, length, Option, Some}
use Rattle.std.proofs.Common.{None, refl, sym, ◌∙◌, ap, subst, arith, append_assoc, append-nil}
use Rattle.std.proofs.Common.{length-append}
use Rattle.std.proofs.lemmas.List.Elements.{All-append, All-nil}
use Rattle.fm_answers.specs.declared.stops.Stop.{Stop}
use Rattle.fm_answers.specs.declared.stops.Stop.TheVariants.{Disk, Full}
use Rattle.fm_core.specs.Book.{ModuleState}
use Rattle.fm_entry.specs.Entries.{IsSpelled}
use Rattle.fm_entry.specs.declared.entry.Entry.{Entry}
use Rattle.fm_logs.specs.StoreBook.{StoreBook, with_book}
use Rattle.fm_outer.specs.Failures.{Rose}
use Rattle.fm_outer.specs.declared.disk.Disk.{Ghosts}
use Rattle.fm_store.specs.StoreCalls.{next_entry}
use Rattle.fm_store.specs.StoreLeft.{store_disk, EachLeft, ReadsLikeEither}
use Rattle.fm_store.specs.StoreOf.{StoreOf, StoreStandsFor}
use Rattle.fm_answers.specs.Recording.{store_with, LastCounts, LogsLeft, BookLeft, Recorded}

-- a book with other entries
abbrev book_with : StoreBook → List Entry → StoreBook
book_with k entries = with_book k (record k.book { entries = entries })

-- a book with no entries more
pub with_none : (k : StoreBook) → store_with k [] ≡ k
with_none k = ap (book_with k) (append-nil k.book.entries)

-- entries, and then more
pub with_more : (k : StoreBook) (es fs : List Entry)
    → store_with (store_with k es) fs ≡ store_with k (es ++ fs)
with_more k es fs = ap (book_with k) (append_assoc k.book.entries es fs)

-- and then one more
pub with_last : (k : StoreBook) (es fs : List Entry) (entry : Entry)
    → store_with (store_with k es) (fs ++ entry ∷ []) ≡ store_with k ((es ++ fs) ++ entry ∷ [])
with_last k es fs entry =
    with_more k es (fs ++ entry ∷ [])
    ∙ ap (store_with k) (sym (append_assoc es fs (entry ∷ [])))

pub recorded_none : {D M : Type 0} (g : Ghosts D) (store : StoreOf D M)
    → Recorded g store store [] None
recorded_none g store = record {
  counts = λ name. refl;
  base_is = refl;
  entries_are = sym (append-nil store.logs.entries);
  cursors_are = refl;
  figures_are = refl;
  spelled = All-nil IsSpelled;
  last_spelled = tt;
  logs = λ older records keep. keep;
  book = λ fresh k st. subst (StoreStandsFor g fresh store) (sym (with_none k)) st;
}

module _ {D M : Type 0} (g : Ghosts D) where
  counts_on : (a b c : StoreOf D M) (last : Option (Stop × Entry)) → LastCounts g a b None
      → LastCounts g b c last → LastCounts g a c last
  counts_on a b c None first then = λ name. then name ∙ first name
  counts_on a b c (Some (Disk, entry)) first (name, rose) =
      (name, subst (λ n. Rose n (g.failures (store_disk name c))) (first name) rose)
  counts_on a b c (Some (_, entry)) first then = λ name. then name ∙ first name

  logs_on : (a b c : StoreOf D M) (last : Option (Stop × Entry))
      → LogsLeft g a.logs b.logs None → LogsLeft g b.logs c.logs last
      → LogsLeft g a.logs c.logs last
  logs_on a b c None first then =
      λ older records keep. then older records (first older records keep)
  logs_on a b c (Some (Disk, entry)) first then = tt
  logs_on a b c (Some (Full kind, entry)) first (then, full) =
      (λ older records keep. then older records (first older records keep), full)
  logs_on a b c (Some (_, entry)) first then = absurd then

  book_on : (fresh : List ModuleState) (c : StoreOf D M) (k : StoreBook) (es fs : List Entry)
      (last : Option (Stop × Entry)) → BookLeft g fresh c (store_with k es) fs last
      → BookLeft g fresh c k (es ++ fs) last
  book_on fresh c k es fs None left =
      subst (StoreStandsFor g fresh c) (with_more k es fs) left
  book_on fresh c k es fs (Some (Disk, entry)) left =
      subst (λ x. EachLeft g c (ReadsLikeEither fresh (store_with k (es ++ fs)) x))
      (with_last k es fs entry)
      (subst (λ x. EachLeft g c (ReadsLikeEither fresh x
      (store_with (store_with k es) (fs ++ entry ∷ [])))) (with_more k es fs) left)
  book_on fresh c k es fs (Some (Full kind, entry)) left =
      subst (StoreStandsFor g fresh c) (with_more k es fs) left
  book_on fresh c k es fs (Some (_, entry)) left = absurd left

  pub recorded_on : (a b c : StoreOf D M) (es fs : List Entry) (last : Option (Stop × Entry))
      → Recorded g a b es None → Recorded g b c fs last → Recorded g a c (es ++ fs) last
  recorded_on a b c es fs last first then = record {
    counts = counts_on a b c last first.counts then.counts;
    base_is = then.base_is ∙ first.base_is;
    entries_are = then.entries_are ∙ ap (λ xs. xs ++ fs) first.entries_are
        ∙ append_assoc a.logs.entries es fs;
    cursors_are = then.cursors_are ∙ first.cursors_are;
    figures_are = then.figures_are ∙ first.figures_are;
    spelled = All-append IsSpelled es fs first.spelled then.spelled;
    last_spelled = then.last_spelled;
    logs = logs_on a b c last first.logs then.logs;
    book = λ fresh k st. book_on fresh c k es fs last
        (then.book fresh (store_with k es) (first.book fresh k st));
  }

  pub recorded_numbers : (a b : StoreOf D M) (es : List Entry) → Recorded g a b es None
      → next_entry b.logs ≡ next_entry a.logs + length es
  recorded_numbers a b es went =
      omega (arith, went.base_is, ap length went.entries_are, length-append a.logs.entries es)
