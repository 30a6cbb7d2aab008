use Rattle.dx_observed.proofs.Books.{explained_book}
use Rattle.dx_observed.proofs.laws.drained_books_explain_all_reports.Goals as goal

pub returns : goal.returns
returns c = explained_book
