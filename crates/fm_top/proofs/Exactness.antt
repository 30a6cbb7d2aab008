-- The book from before has exact suspects, also with the entries that a store took.
use Rattle.std.proofs.Common.{List, [], ◌++◌, length, ap, subst, arith}
use Rattle.std.proofs.lemmas.List.{append-nil}
use Rattle.std.proofs.lemmas.List.Elements.{All-from_recursion, All-nil}
use Rattle.std.specs.List.{All}
use Rattle.fm_answers.specs.Recording.{store_with}
use Rattle.fm_conclude.specs.Concluding.{IsConcluded}
use Rattle.fm_entry.specs.Entries.{IsSpelled}
use Rattle.fm_entry.specs.declared.entry.Entry.{Entry}
use Rattle.fm_modules_laws.proofs.Exact.{contents_exact, few_read, image_exact, stands_exact}
use Rattle.fm_modules_laws.specs.ExactSuspects.{HasExactSuspects}
use Rattle.fm_logs.specs.Contents.{Contents}
use Rattle.fm_outer.specs.declared.disk.Disk.{Ghosts}
use Rattle.fm_store.specs.StoreOf.{StoreOf, StoreStandsFor}
use Rattle.fm_store.specs.StoreLeft.{ReadsLike}
use Rattle.fm_top.specs.Exact.{IsExactWith, ReadsExact}
use Rattle.fm_top.specs.Kept.{BookAt}

-- `store` has taken the entries, and `new` is it after the drain
pub exact_with : {D M : Type 0} (g : Ghosts D) (told : Contents) (stood : BookAt told)
    (store new : StoreOf D M) (entries : List Entry)
    → StoreStandsFor g stood.fresh store (store_with stood.book entries) → IsConcluded store new
    → IsExactWith stood entries
exact_with g told stood store new entries stands concluded =
    let none = append-nil (stood.book.book.entries ++ entries) in
    subst
    (λ (es : List Entry). HasExactSuspects stood.made (record stood.book.book { entries = es }))
    none
    (stands_exact g stood.fresh store (store_with stood.book entries) [] stood.made stands
    (omega (
      arith,
      concluded.few,
      concluded.base_is,
      stands.base_is,
      ap length stands.entries_are,
      ap length none,
    ))
    (All-from_recursion IsSpelled [] tt))

-- the book itself
pub exact_before : (told : Contents) (stood : BookAt told) → IsExactWith stood []
exact_before told stood =
    contents_exact stood.fresh told stood.book [] stood.made stood.reads
    (omega (
      arith,
      few_read stood.fresh told stood.book stood.reads,
      ap length (append-nil stood.book.book.entries),
    ))
    (All-nil IsSpelled)

-- with the entries that an image has more
pub reads_exact : (told : Contents) (stood : BookAt told) (entries : List Entry)
    (image : Contents) → All IsSpelled entries
    → ReadsLike stood.fresh (store_with stood.book entries) image
    → ReadsExact stood entries image
reads_exact told stood entries image spelled like = record {
  like = like;
  exact = image_exact stood.fresh told image stood.book entries stood.made stood.reads like spelled;
}
