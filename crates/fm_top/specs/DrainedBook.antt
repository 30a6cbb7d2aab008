-- Contents that read as a drained book.
use Rattle.std.specs.Prelude.{List}
use Rattle.fm_admin.specs.Telling.{IsDrainedOf}
use Rattle.fm_core.specs.Book.{ModuleState}
use Rattle.fm_logs.specs.Contents.{Contents}
use Rattle.fm_logs.specs.ReadsAsBook.{ReadsAsBook}
use Rattle.fm_logs.specs.StoreBook.{StoreBook, store_floored}

-- The contents read as a book of which each module has come to the end: so their fault log has all
-- that the modules have said. Its base is where it was.
pub record ReadsDrained (fresh : List ModuleState) (k : StoreBook) (c : Contents) : Type 0 where
  pub now : StoreBook
  pub drained_is : IsDrainedOf k now
  pub reads : ReadsAsBook fresh c (store_floored now)
