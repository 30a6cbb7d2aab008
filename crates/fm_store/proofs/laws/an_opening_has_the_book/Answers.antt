-- What is open is what the book has.
use Rattle.fm_store.proofs.OpeningLaws.{opens_book}
use Rattle.fm_store.proofs.laws.an_opening_has_the_book.Goals as goal

pub returns : goal.returns
returns g c = opens_book g.D.Disk
