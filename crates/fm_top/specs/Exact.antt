-- What the modules of a store say of the entries that a command takes.
use Rattle.std.specs.Prelude.{◌⊎◌, List}
use Rattle.fm_answers.specs.Recording.{store_with}
use Rattle.fm_core.specs.Book.{with_entries}
use Rattle.fm_entry.specs.declared.entry.Entry.{Entry}
use Rattle.fm_modules_laws.specs.ExactSuspects.{HasExactSuspects}
use Rattle.fm_logs.specs.Contents.{Contents}
use Rattle.fm_store.specs.StoreLeft.{ReadsLike}
use Rattle.fm_top.specs.Kept.{BookAt}

-- The book from before, with these entries, has exact suspects once it is drained.
abbrev pub IsExactWith : {told : Contents} → BookAt told → List Entry → Type 0
IsExactWith stood entries =
    HasExactSuspects stood.made (with_entries stood.book.book entries)

-- The image reads like the book from before with these entries, which has exact suspects.
pub record ReadsExact {told : Contents} (stood : BookAt told) (entries : List Entry)
    (image : Contents) : Type 0 where
  pub like : ReadsLike stood.fresh (store_with stood.book entries) image
  pub exact : IsExactWith stood entries

-- with these entries or with those
abbrev pub ReadsExactEither : {told : Contents} → BookAt told → List Entry → List Entry → Contents
    → Type 0
ReadsExactEither stood one other image =
    ReadsExact stood one image ⊎ ReadsExact stood other image
