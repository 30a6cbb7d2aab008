use Rattle.dx_along.proofs.Books.{exact_on_disks}
use Rattle.dx_along.proofs.laws.books_on_disks_are_exact.Goals as goal

pub returns : goal.returns
returns c = exact_on_disks
