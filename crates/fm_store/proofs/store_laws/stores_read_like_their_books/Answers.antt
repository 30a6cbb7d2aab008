-- Each image reads like the book.
use Rattle.fm_store.proofs.StoreReads.{store_reads}
use Rattle.fm_store.proofs.store_laws.stores_read_like_their_books.Goals as goal

pub returns : goal.returns
returns g c = λ fresh store k st. store_reads g.D.Disk fresh store k st
