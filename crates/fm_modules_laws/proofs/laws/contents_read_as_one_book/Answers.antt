use Rattle.fm_modules_laws.proofs.OneBook.{books_one}
use Rattle.fm_modules_laws.proofs.laws.contents_read_as_one_book.Goals as goal

pub returns : goal.returns
returns c = books_one
