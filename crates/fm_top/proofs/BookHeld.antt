-- What is held of one book that contents read as is held of each: they read as one.
use Rattle.std.proofs.Common.{◌≡◌, ◌⊎◌, inl, inr, List, true, Result, Ok, Err, subst}
use Rattle.std.specs.Result.{MatchResult}
use Rattle.std.specs.Io.KnownBytes.{Appends}
use Rattle.fm_answers.specs.Answers.{answers, entries_of}
use Rattle.fm_answers.specs.declared.stops.Stop.{Stop}
use Rattle.fm_answers.specs.declared.stops.Stop.TheVariants.{Act}
use Rattle.fm_answers.specs.Recording.{store_with}
use Rattle.fm_core.specs.Book.{ModuleState, next_number, with_entries}
use Rattle.fm_entry.specs.declared.entry.Entry.{Entry}
use Rattle.fm_line.specs.Lines.{lines_of}
use Rattle.fm_logs.specs.Contents.{Contents}
use Rattle.fm_logs.specs.StoreBook.{StoreBook}
use Rattle.fm_modules.specs.Modules.{AreModulesOf}
use Rattle.fm_modules_laws.proofs.Exact.{exact_again}
use Rattle.fm_modules_laws.proofs.OneBook.{books_one}
use Rattle.fm_modules_laws.specs.ExactSuspects.{HasExactSuspects}
use Rattle.fm_store.specs.StoreLeft.{ReadsLike}
use Rattle.fm_top.specs.Exact.{ReadsExact}
use Rattle.fm_top.specs.Headline.{HasAll, HasAnswered, Held, HoldsOfBook, WereAnswered}
use Rattle.fm_top.specs.Headline.{HasAfter, HasEach, HeldAfter}
use Rattle.fm_top.specs.Kept.{BookAt}
use Rattle.fm_top.specs.Outside.{Leaves, Outside}

-- what is held of one book, which is there
pub record HeldOf (before after : Outside) (told : Contents) (ran : Result (Unit {0}) Stop)
    : Type 0 where
  pub stood : BookAt told
  pub left : (image : Contents) → Leaves after.disks image
      → MatchResult ran (λ _. HasAll before after told stood image)
      (λ _. HasAnswered before after told stood image)

-- the same of a command that goes on behind the last line
pub record HeldAfterOf (before after : Outside) (told : Contents) (ran : Result (Unit {0}) Stop)
    : Type 0 where
  pub stood : BookAt told
  pub left : (image : Contents) → Leaves after.disks image
      → HasAfter before after told stood image ran

module _ (told : Contents) (one other : BookAt told) where
  pub same_book : (one.fresh ≡ other.fresh) × (one.book ≡ other.book)
  same_book =
      books_one told one.fresh other.fresh one.book other.book one.made one.reads other.made
      other.reads

  pub reads_other : (entries : List Entry) (image : Contents) → ReadsExact one entries image
      → ReadsExact other entries image
  reads_other entries image reads = record {
    like = subst (λ (ms : List ModuleState). ReadsLike ms (store_with other.book entries) image)
        same_book.0
        (subst (λ (k : StoreBook). ReadsLike one.fresh (store_with k entries) image) same_book.1
        reads.like);
    exact = subst (λ (k : StoreBook). (again : AreModulesOf k.confs other.fresh)
        → HasExactSuspects again (with_entries k.book entries)) same_book.1
        (λ again. exact_again one.made again (with_entries one.book.book entries) reads.exact)
        other.made;
  }

module _ (before after : Outside) (told : Contents) (one other : BookAt told) where
  answered_other : (image : Contents) → HasAnswered before after told one image
      → HasAnswered before after told other image
  answered_other image h = record {
    read = h.read;
    consumed = h.consumed;
    lines = h.lines;
    others = h.others;
    first = h.first;
    answered = subst (λ (k : StoreBook). WereAnswered (Appends before.out.bytes after.out.bytes)
        (next_number k.book) h.lines) (same_book told one other).1 h.answered;
    reads = reads_other told one other (entries_of h.lines) image h.reads;
  }

  all_other : (image : Contents) → HasAll before after told one image
      → HasAll before after told other image
  all_other image h = record {
    read = h.read;
    consumed = h.consumed;
    at_end = h.at_end;
    put = subst (λ (k : StoreBook). Appends before.out.bytes after.out.bytes
        (answers true 1 (next_number k.book) (lines_of h.read))) (same_book told one other).1 h.put;
    reads = reads_other told one other (entries_of (lines_of h.read)) image h.reads;
  }

  left_other : (ran : Result (Unit {0}) Stop) (image : Contents)
      → MatchResult ran (λ _. HasAll before after told one image)
      (λ _. HasAnswered before after told one image)
      → MatchResult ran (λ _. HasAll before after told other image)
      (λ _. HasAnswered before after told other image)
  left_other (Ok done) image h = all_other image h
  left_other (Err stop) image h = answered_other image h

  each_other : (image : Contents) → HasEach before after told one image
      → HasEach before after told other image
  each_other image h = record {
    read = h.read;
    consumed = h.consumed;
    at_end = h.at_end;
    reads = reads_other told one other (entries_of (lines_of h.read)) image h.reads;
  }

  either_other : (image : Contents)
      → HasAnswered before after told one image ⊎ HasEach before after told one image
      → HasAnswered before after told other image ⊎ HasEach before after told other image
  either_other image (inl answered) = inl (answered_other image answered)
  either_other image (inr all) = inr (each_other image all)

  after_other : (ran : Result (Unit {0}) Stop) (image : Contents)
      → HasAfter before after told one image ran → HasAfter before after told other image ran
  after_other (Ok done) image h = each_other image h
  after_other (Err (Act index)) image h = each_other image h
  after_other (Err _) image h = either_other image h

pub held_each : (before after : Outside) (told : Contents) (ran : Result (Unit {0}) Stop)
    → HeldOf before after told ran → HoldsOfBook told (Held before after told ran)
held_each before after told ran h = record {
  stood = h.stood;
  each = λ book. record {
    left = λ image leaves.
        left_other before after told h.stood book ran image (h.left image leaves);
  };
}

pub held_after_each : (before after : Outside) (told : Contents) (ran : Result (Unit {0}) Stop)
    → HeldAfterOf before after told ran → HoldsOfBook told (HeldAfter before after told ran)
held_after_each before after told ran h = record {
  stood = h.stood;
  each = λ book. record {
    left = λ image leaves.
        after_other before after told h.stood book ran image (h.left image leaves);
  };
}
