use Rattle.dx_along.proofs.Books.{exact_book}
use Rattle.dx_along.proofs.laws.drained_books_are_exact.Goals as goal

pub returns : goal.returns
returns c = exact_book
